-- One turn of a loop that copies items.
use Rattle.std.proofs.Common.{◌≡◌, ℕ, ◌+◌, List, [], ◌∷◌, ◌++◌, map, drop, slice_get, Some, sym, ap, ◌∙◌, append_assoc}
use Rattle.depsets.proofs.Turns.{drop_at}

-- an item more of those that come from others
pub mapped : {A B : Type 0} (f : A → B) (ys : List B) (xs : List A) (i : ℕ) (x : A) → slice_get xs i ≡ Some x
    → (ys ++ f x ∷ []) ++ map f (drop (i + 1) xs) ≡ ys ++ map f (drop i xs)
mapped f ys xs i x p = append_assoc ys (f x ∷ []) (map f (drop (i + 1) xs)) ∙ ap (λ l. ys ++ map f l) (sym (drop_at xs i x p))
