-- What begins a text, what stands in it, and where.
use Rattle.std.proofs.Common.{◌≡◌, ◌≢◌, ℕ, zero, suc, ◌<◌, ◌≤◌, Bool, true, false, ◌&&◌, ◌||◌, if◌then◌else◌, nat_eq, List, [], ◌∷◌, ◌++◌, length, drop, refl, ap, ◌∙◌, arith, rules, Some, None}
use Rattle.std.specs.Str.Pattern.{LacksTextAt}
use Rattle.strings.specs.Affixes.{begins}
use Rattle.strings.specs.Parts.{is_part, first_place, one_on}

same_nat : (x y : ℕ) → nat_eq x y ≡ true → x ≡ y
same_nat x y e = grind (arith, rules)

nat_same : (x : ℕ) → nat_eq x x ≡ true
nat_same x = grind (arith, rules)

pub begins_front : (p rest : List ℕ) → begins p (p ++ rest) ≡ true
begins_front [] rest = refl
begins_front (x ∷ p) rest = rw (nat_same x) (begins_front p rest)

pub begins_at : (p t rest : List ℕ) → t ≡ p ++ rest → begins p t ≡ true
begins_at p t rest e = ap (begins p) e ∙ begins_front p rest

abbrev Behind : List ℕ → List ℕ → Type 0
Behind p t = (rest : List ℕ) × (t ≡ p ++ rest)

one_more : (x y : ℕ) (p t : List ℕ) (b : Bool) → nat_eq x y ≡ b → (begins p t ≡ true → Behind p t) → (b && begins p t) ≡ true → Behind (x ∷ p) (y ∷ t)
one_more x y p t true q k f = let r : Behind p t = k f in let e : x ≡ y = same_nat x y q in let h : t ≡ p ++ r.0 = r.1 in (r.0, cc)
one_more x y p t false q k f = absurd (cc)

-- what comes behind
pub behind : (p t : List ℕ) → begins p t ≡ true → Behind p t
behind [] t e = (t, refl)
behind (x ∷ p) [] e = absurd (cc)
behind (x ∷ p) (y ∷ t) e = one_more x y p t (nat_eq x y) refl (behind p t) e

tested : (p t : List ℕ) → ((rest : List ℕ) → t ≢ p ++ rest) → (b : Bool) → begins p t ≡ b → begins p t ≡ false
tested p t never true e = let r : Behind p t = behind p t e in absurd (never r.0 r.1)
tested p t never false e = e

pub lacks : (p t : List ℕ) → ((rest : List ℕ) → t ≢ p ++ rest) → begins p t ≡ false
lacks p t never = tested p t never (begins p t) refl

or_true : (b : Bool) → (b || true) ≡ true
or_true true = refl
or_true false = refl

pub part_at : (p t : List ℕ) (i : ℕ) (rest : List ℕ) → drop i t ≡ p ++ rest → is_part p t ≡ true
part_at p [] zero rest e = begins_at p [] rest e
part_at p [] (suc i) rest e = begins_at p [] rest e
part_at p (y ∷ t) zero rest e = ap (λ b. b || is_part p t) (begins_at p (y ∷ t) rest e)
part_at p (y ∷ t) (suc i) rest e = ap (λ b. begins p (y ∷ t) || b) (part_at p t i rest e) ∙ or_true (begins p (y ∷ t))

pub no_part : (p t : List ℕ) → ((i : ℕ) → i ≤ length t → LacksTextAt p t i) → is_part p t ≡ false
no_part p [] never = lacks p [] (never 0 (omega arith))
no_part p (y ∷ t) never =
    ap (λ x. x || is_part p t) (lacks p (y ∷ t) (never 0 (omega arith)))
    ∙ no_part p t (λ i l. never (suc i) (let h : i ≤ length t = l in omega arith))

-- ---- the first place

pub first_at : (p t : List ℕ) (i : ℕ) (rest : List ℕ) → i ≤ length t → ((k : ℕ) → k < i → LacksTextAt p t k) → drop i t ≡ p ++ rest → first_place p t ≡ Some i
first_at p [] zero rest l never e = ap (λ b. if b then Some 0 else None) (begins_at p [] rest e)
first_at p [] (suc i) rest l never e = absurd (omega (arith, l))
first_at p (y ∷ t) zero rest l never e = ap (λ b. if b then Some 0 else one_on (first_place p t)) (begins_at p (y ∷ t) rest e)
first_at p (y ∷ t) (suc i) rest l never e =
    ap (λ b. if b then Some 0 else one_on (first_place p t)) (lacks p (y ∷ t) (never 0 (omega arith)))
    ∙ ap one_on (first_at p t i rest (let h : suc i ≤ suc (length t) = l in omega arith) (λ k m. never (suc k) (let h : k < i = m in omega arith)) e)

pub no_place : (p t : List ℕ) → ((i : ℕ) → i ≤ length t → LacksTextAt p t i) → first_place p t ≡ None
no_place p [] never = ap (λ b. if b then Some 0 else None) (lacks p [] (never 0 (omega arith)))
no_place p (y ∷ t) never =
    ap (λ b. if b then Some 0 else one_on (first_place p t)) (lacks p (y ∷ t) (never 0 (omega arith)))
    ∙ ap one_on (no_place p t (λ i l. never (suc i) (let h : i ≤ length t = l in omega arith)))
