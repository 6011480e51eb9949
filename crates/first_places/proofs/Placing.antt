-- Places of names, found from the last name to the first.
use Rattle.std.proofs.Common.{◌≡◌, ◌∙◌, ℕ, ◌+◌, Bool, true, false, ◌||◌, refl, List, [], ◌∷◌, ◌++◌, drop, length, Option, Some, if◌then◌else◌, ap, sym, subst}
use Rattle.std.proofs.lemmas.Cmp.{nat_list_eq_equiv}
use Rattle.std.proofs.lemmas.List.{append_assoc, drop_at, length_push}
use Rattle.std.specs.BTreeMap.{BTreeMap, Updates, get, is_at}
use Rattle.std.specs.Cmp.Lexicographic.{texts_ties}
use Rattle.std.specs.Prelude.{bytes_eq, is_some}
use Rattle.std.specs.List.{list_any, position_from}
use Rattle.first_places.specs.Places.{name_cmp, place_named, HasFirst}

-- what is left before the last of those left, where those left stand before the others
pub left_over : {A : Type 0} (xs left less : List A) (x : A) → left ≡ less ++ x ∷ [] → left ++ drop (length left) xs ≡ xs
    → (drop (length less) xs ≡ x ∷ drop (length less + 1) xs) × (less ++ drop (length less) xs ≡ xs)
left_over xs left less x p front =
    let whole : less ++ x ∷ drop (length left) xs ≡ xs = sym (append_assoc less (x ∷ []) (drop (length left) xs)) ∙ ap (λ l. l ++ drop (length left) xs) (sym p) ∙ front in
    let last : drop (length less) xs ≡ x ∷ drop (length left) xs = ap (drop (length less)) (sym whole) ∙ drop_at less (x ∷ drop (length left) xs) (length less) refl in (
      last ∙ ap (λ n. x ∷ drop n xs) (ap length p ∙ length_push less x),
      ap (λ l. less ++ l) last ∙ whole,
    )

module _ {K : Type 0} (name : K → List ℕ) where
  -- the map has the first place of each name from here on
  abbrev pub ArePlacedFrom : ℕ → List (List ℕ) → BTreeMap K ℕ → Type 0
  ArePlacedFrom i names places = (q : K) → get (name_cmp name) places q ≡ position_from (bytes_eq (name q)) i (drop i names)

  at_name : (k q : K) → is_at (name_cmp name k) q ≡ bytes_eq (name q) (name k)
  at_name k q = sym (texts_ties (name k) (name q)) ∙ nat_list_eq_equiv.symm (name k) (name q)

  -- a name that is put
  pub first_put : (k : K) (n : List ℕ) (i : ℕ) (olds news : BTreeMap K ℕ) → name k ≡ n → Updates (name_cmp name) olds news k (Some i) → HasFirst name n i olds news
  first_put k n i olds news is h = λ q.
      h.0 q ∙ ap (λ b. if b then Some i else get (name_cmp name) olds q) (at_name k q ∙ ap (bytes_eq (name q)) is)

  -- a turn of the loop over places, back from the last
  pub placed_at : (names left less : List (List ℕ)) (i : ℕ) (n : List ℕ) (olds news : BTreeMap K ℕ) → left ≡ less ++ n ∷ [] → left ++ drop (length left) names ≡ names → i ≡ length less
      → HasFirst name n i olds news → ArePlacedFrom (length left) names olds → ArePlacedFrom (length less) names news
  placed_at names left less i n olds news p front here put h = λ q.
      let e = ap length p ∙ length_push less n in
      subst (λ (k : ℕ). HasFirst name n k olds news) here put q
      ∙ ap (λ o. if bytes_eq (name q) n then Some (length less) else o) (subst (λ (m : ℕ). ArePlacedFrom m names olds) e h q)
      ∙ ap (position_from (bytes_eq (name q)) (length less)) (sym (left_over names left less n p front).0)

found : (b : Bool) (i : ℕ) (o : Option ℕ) (rest : Bool) → is_some o ≡ rest → is_some (if b then Some i else o) ≡ (b || rest)
found true i o rest h = refl
found false i o rest h = h

found_from : (x : List ℕ) (i : ℕ) (names : List (List ℕ)) → is_some (position_from (bytes_eq x) i names) ≡ list_any (bytes_eq x) names
found_from x i [] = refl
found_from x i (n ∷ ns) = found (bytes_eq x n) i (position_from (bytes_eq x) (i + 1) ns) (list_any (bytes_eq x) ns) (found_from x (i + 1) ns)

-- a name that has a place is one of them
pub found_is_among : (x : List ℕ) (names : List (List ℕ)) → is_some (place_named x names) ≡ list_any (bytes_eq x) names
found_is_among x names = found_from x 0 names
