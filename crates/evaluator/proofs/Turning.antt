-- One turn of a loop that goes back over a sequence, and puts each item in front of those behind it.
use Rattle.std.proofs.Common.{◌≡◌, ℕ, ◌+◌, ◌-◌, ◌<◌, List, ◌∷◌, drop, slice_get, Some, sym, ap, ◌∙◌, arith}
use Rattle.depsets.proofs.Turns.{drop_at}

-- `f` makes a list of what is left, an item more for each
pub turned : {A B : Type 0} (f : List A → List B) (g : A → B) → ((x : A) (xs : List A) → f (x ∷ xs) ≡ g x ∷ f xs)
    → (xs : List A) (left new : List B) (p : ℕ) (x : A) → 0 < p → slice_get xs (p - 1) ≡ Some x
    → left ≡ f (drop p xs) → new ≡ g x ∷ left → new ≡ f (drop (p - 1) xs)
turned f g law xs left new p x positive at behind put =
    let same : p ≡ (p - 1) + 1 = omega (arith, positive) in
    put ∙ (ap (λ l. g x ∷ l) (behind ∙ ap (λ k. f (drop k xs)) same)
    ∙ (sym (law x (drop ((p - 1) + 1) xs)) ∙ ap f (sym (drop_at xs (p - 1) x at))))
