-- One turn of each loop that writes parts with commas between them.
use Rattle.std.proofs.Common.{◌≡◌, ℕ, ◌+◌, ◌≤◌, List, [], ◌∷◌, ◌++◌, length, drop, map, slice_get, Some, sym, ap, ◌∙◌, append_assoc, append-nil, drop_of_length-le}
use Rattle.depsets.proofs.Turns.{drop_at}
use Rattle.leaf_texts.specs.Texts.{separator, joined_from}

module _ {X : Type 0} (f : X → List ℕ) (xs : List X) (i : ℕ) (out : List ℕ) where
  pub joined-next : (x : X) (then : List ℕ) → slice_get xs i ≡ Some x → then ≡ out ++ (separator i ++ f x)
      → then ++ joined_from (i + 1) (map f (drop (i + 1) xs)) ≡ out ++ joined_from i (map f (drop i xs))
  joined-next x then p e =
      ap (λ t. t ++ joined_from (i + 1) (map f (drop (i + 1) xs))) e
      ∙ append_assoc out (separator i ++ f x) (joined_from (i + 1) (map f (drop (i + 1) xs)))
      ∙ ap (λ l. out ++ joined_from i (map f l)) (sym (drop_at xs i x p))

  pub joined-end : length xs ≤ i → out ++ joined_from i (map f (drop i xs)) ≡ out
  joined-end h = ap (λ l. out ++ joined_from i (map f l)) (drop_of_length-le xs h) ∙ append-nil out

module _ (n : ℕ) (out : List ℕ) where
  -- one part more
  pub parts-next : (t : List ℕ) (ts us : List (List ℕ)) (then : List ℕ) → ts ≡ t ∷ us → then ≡ out ++ (separator n ++ t)
      → then ++ joined_from (n + 1) us ≡ out ++ joined_from n ts
  parts-next t ts us then p e =
      ap (λ o. o ++ joined_from (n + 1) us) e
      ∙ append_assoc out (separator n ++ t) (joined_from (n + 1) us)
      ∙ ap (λ l. out ++ joined_from n l) (sym p)

  pub parts-end : (ts : List (List ℕ)) → ts ≡ [] → out ++ joined_from n ts ≡ out
  parts-end ts p = ap (λ l. out ++ joined_from n l) p ∙ append-nil out
