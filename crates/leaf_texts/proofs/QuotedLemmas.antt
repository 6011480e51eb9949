-- Strings of which every byte is written as it stands.
use Rattle.std.proofs.Common.{◌≡◌, ℕ, Bool, true, false, not, ◌&&◌, ◌==◌, nat_lt, if◌then◌else◌, List, [], ◌∷◌, ◌++◌, flat_map, sym, ap, refl, ◌∙◌, true≢false}
use Rattle.std.specs.List.{list_all}
use Rattle.leaf_texts.specs.Texts.{escape, is_bare}

-- the last of the choices, where none of those before it applies
last : (p q r s t : Bool) (a b c d e f : List ℕ) → (not p && not q && not r && not s && t) ≡ true
    → (if p then a else (if q then b else (if r then c else (if s then d else (if t then e else f))))) ≡ e
last true q r s t a b c d e f h = absurd (true≢false (sym h))
last false true r s t a b c d e f h = absurd (true≢false (sym h))
last false false true s t a b c d e f h = absurd (true≢false (sym h))
last false false false true t a b c d e f h = absurd (true≢false (sym h))
last false false false false false a b c d e f h = absurd (true≢false (sym h))
last false false false false true a b c d e f h = refl

escape-bare : (b : ℕ) → is_bare b ≡ true → escape b ≡ b ∷ []
escape-bare b h = last (b == 10) (b == 9) (b == 92) (b == 34) (nat_lt b 128) _ _ _ _ (b ∷ []) _ h

both : (p q : Bool) → (p && q) ≡ true → (p ≡ true) × (q ≡ true)
both true q h = (refl, h)
both false q h = absurd (true≢false (sym h))

-- no byte is escaped
pub escape-all_bare : (bs : List ℕ) → list_all is_bare bs ≡ true → flat_map escape bs ≡ bs
escape-all_bare [] h = refl
escape-all_bare (b ∷ bs) h =
    let each = both (is_bare b) (list_all is_bare bs) h in
    ap (λ l. l ++ flat_map escape bs) (escape-bare b each.0) ∙ ap (λ l. b ∷ l) (escape-all_bare bs each.1)
