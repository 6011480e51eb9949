-- Names that stand once in a list, and tests that say the same.
use Rattle.std.proofs.Common.{◌≡◌, ◌∙◌, ◌<◌, ◌+◌, ℕ, Bool, true, false, not, ◌&&◌, ◌||◌, List, [], ◌∷◌, ◌++◌, length, take, drop, get_or, ap, sym, refl}
use Rattle.std.specs.Prelude.{◌↔◌}
use Rattle.std.specs.List.{list_any}
use Rattle.std.specs.Str.{bytes_eq}
use Rattle.std.proofs.lemmas.Cmp.{nat_list_eq_equiv}
use Rattle.std.proofs.lemmas.List.{take_more, take-append-drop}
use Rattle.std.proofs.lemmas.List.Folds.{list_any-append}
use Rattle.declaring.specs.ProviderCalls.{are_distinct}

-- two tests that hold of the same
pub alike : (a b : Bool) (P : Type 0) → (a ≡ true) ↔ P → (b ≡ true) ↔ P → a ≡ b
alike true b P h k = sym (k.1 (h.0 refl))
alike false true P h k = h.1 (k.0 refl)
alike false false P h k = refl

regrouped : (a b c d : Bool) → (not (a || (b || false)) && (c && not d)) ≡ ((not a && c) && not (b || d))
regrouped true b c d = refl
regrouped false true true d = refl
regrouped false true false d = refl
regrouped false false c d = refl

-- one more behind
distinct-last : (ns : List (List ℕ)) (n : List ℕ) → are_distinct (ns ++ n ∷ []) ≡ (are_distinct ns && not (list_any (bytes_eq n) ns))
distinct-last [] n = refl
distinct-last (m ∷ ms) n =
    (λ i. not (list_any-append (bytes_eq m) ms (n ∷ []) i) && distinct-last ms n i)
    ∙ regrouped (list_any (bytes_eq m) ms) (bytes_eq m n) (are_distinct ms) (list_any (bytes_eq n) ms)
    ∙ ap (λ b. (not (list_any (bytes_eq m) ms) && are_distinct ms) && not (b || list_any (bytes_eq n) ms)) (nat_list_eq_equiv.symm m n)

front : (a b c d : Bool) → (c ≡ false → d ≡ false) → (not a && c) ≡ false → (not (a || b) && d) ≡ false
front true b c d h e = refl
front false true c d h e = refl
front false false c d h e = h e

-- what is twice in front is twice in all
distinct-front : (ns ms : List (List ℕ)) → are_distinct ns ≡ false → are_distinct (ns ++ ms) ≡ false
distinct-front [] ms h = absurd (cc)
distinct-front (n ∷ ns) ms h =
    ap (λ b. not b && are_distinct (ns ++ ms)) (list_any-append (bytes_eq n) ns ms)
    ∙ front (list_any (bytes_eq n) ns) (list_any (bytes_eq n) ms) (are_distinct ns) (are_distinct (ns ++ ms)) (distinct-front ns ms) h

module _ (ns : List (List ℕ)) (i : ℕ) (d : List ℕ) (lt : i < length ns) where
  pub distinct-more : are_distinct (take (i + 1) ns) ≡ (are_distinct (take i ns) && not (list_any (bytes_eq (get_or ns i d)) (take i ns)))
  distinct-more = ap are_distinct (take_more ns i d lt) ∙ distinct-last (take i ns) (get_or ns i d)

  pub stands-once : are_distinct (take i ns) ≡ true → list_any (bytes_eq (get_or ns i d)) (take i ns) ≡ false → are_distinct (take (i + 1) ns) ≡ true
  stands-once h e = distinct-more ∙ (λ j. h j && not (e j))

  pub stands-twice : are_distinct (take i ns) ≡ true → list_any (bytes_eq (get_or ns i d)) (take i ns) ≡ true → are_distinct ns ≡ false
  stands-twice h e =
      let f : are_distinct (take (i + 1) ns) ≡ false = distinct-more ∙ (λ j. h j && not (e j)) in
      sym (ap are_distinct (take-append-drop (i + 1) ns)) ∙ distinct-front (take (i + 1) ns) (drop (i + 1) ns) f
