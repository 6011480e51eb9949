-- Sizes that are known before anything is made or copied.
use Rattle.std.proofs.Common.{◌≡◌, ℕ, zero, suc, ◌+◌, Bool, true, false, List, [], ◌∷◌, ◌++◌, length, slice_get, nat_lt, Some, None, Ok, Err, Result, if◌then◌else◌, refl, sym, ap, ◌∙◌}
use Rattle.std.proofs.lemmas.List.{length-append}
use Rattle.heap.specs.Cells.{put_at, after}
use Rattle.values.specs.Shape.{Shape, key, atom, items, entries, fields, nothing}
use Rattle.ticks.specs.Ticking.{FaultOr}
use Rattle.values.specs.declared.cells.Cell.{Cell}
use Rattle.values.specs.declared.cells.Cell.TheVariants as cell
use Rattle.values.specs.declared.cells.TheConstants.{LARGEST}
use Rattle.ticks.specs.declared.ticks.Broken.{Broken}
use Rattle.ticks.specs.declared.ticks.Broken.TheVariants as broken
use Rattle.ticks.specs.declared.ticks.Kind.{Kind}
use Rattle.ticks.specs.declared.ticks.Kind.TheVariants.{Wrong, Large}
use Rattle.values.specs.declared.value.Value.{Value}
use Rattle.values.specs.declared.value.Value.TheVariants as value
use Rattle.operations.specs.declared.state.State.{State}
use Rattle.operations.specs.States.{with_heap}
use Rattle.operations.specs.Making.{make, sequence, new_list, new_tuple}
use Rattle.operations.specs.Operators.{added}
use Rattle.state.specs.Sizes.{made_or_refused, sum_within}

-- a change that is made of another is made where that is, and refused as that is
made_or_refused_after : {A B : Type 0} (g : A → B) (r : Result A Kind) → made_or_refused (after g r) ≡ made_or_refused r
made_or_refused_after g (Ok a) = refl
made_or_refused_after g (Err k) = refl

module _ (f : Cell → Result Cell Kind) where
  pub at_cell : (h : List Cell) (i : ℕ) (c : Cell) → slice_get h i ≡ Some c → made_or_refused (put_at h i f) ≡ made_or_refused (f c)
  at_cell [] i c p = absurd (cc)
  at_cell (x ∷ xs) zero c p = let e : x ≡ c = cc in made_or_refused_after (λ z. z ∷ xs) (f x) ∙ ap (λ y. made_or_refused (f y)) e
  at_cell (x ∷ xs) (suc i) c p = made_or_refused_after (λ ds. x ∷ ds) (put_at xs i f) ∙ at_cell xs i c p

  pub at_none : (h : List Cell) (i : ℕ) → slice_get h i ≡ None → put_at h i f ≡ Err Wrong
  at_none [] i p = refl
  at_none (x ∷ xs) zero p = absurd (cc)
  at_none (x ∷ xs) (suc i) p = ap (after (λ ds. x ∷ ds)) (at_none xs i p)

-- a list or a tuple of two is made where it isn't too large
made_list : (large : Bool) (zs : List Value) (s : State) → nat_lt LARGEST (length zs) ≡ large
    → make (after (sequence true) (if large then Err Large else Ok zs)) s ≡ new_list zs s
made_list true zs s e =
    ap (λ b. with_heap s (if b then Err Large else Ok (value.Cell (length s.heap), s.heap ++ cell.List zs 0 ∷ []))) (sym e)
made_list false zs s e = refl

made_tuple : (large : Bool) (zs : List Value) (s : State) → nat_lt LARGEST (length zs) ≡ large
    → make (after (sequence false) (if large then Err Large else Ok zs)) s ≡ new_tuple zs s
made_tuple true zs s e =
    ap (λ b. with_heap s (if b then Err Large else Ok (value.Cell (length s.heap), s.heap ++ cell.Tuple zs ∷ []))) (sym e)
made_tuple false zs s e = refl

both_made : (j k : Bool) (xs ys : List Value) (s : State) → make (sum_within (items j xs) (items k ys)) s ≡ make (added (items j xs) (items k ys)) s
both_made true true xs ys s =
    made_list (nat_lt LARGEST (length xs + length ys)) (xs ++ ys) s (ap (λ n. nat_lt LARGEST n) (length-append xs ys))
both_made true false xs ys s = refl
both_made false true xs ys s = refl
both_made false false xs ys s =
    made_tuple (nat_lt LARGEST (length xs + length ys)) (xs ++ ys) s (ap (λ n. nat_lt LARGEST n) (length-append xs ys))

-- the sum is made, or refused, as it is where its size is known only after
pub same_sum : (a b : Shape) (s : State) → make (sum_within a b) s ≡ make (added a b) s
same_sum (key j) (key k) s = refl
same_sum (key j) (atom l) s = refl
same_sum (key j) (items k ys) s = refl
same_sum (key j) (entries es) s = refl
same_sum (key j) (fields p xs) s = refl
same_sum (key j) nothing s = refl
same_sum (items j xs) (items k ys) s = both_made j k xs ys s
same_sum (items j xs) (key k) s = refl
same_sum (items j xs) (atom l) s = refl
same_sum (items j xs) (entries es) s = refl
same_sum (items j xs) (fields p ys) s = refl
same_sum (items j xs) nothing s = refl
same_sum (atom l) b s = refl
same_sum (entries es) b s = refl
same_sum (fields p xs) b s = refl
same_sum nothing b s = refl

-- and what refuses it refuses the sum
pub sum_refused : (a b : Shape) (s : State) (e : Broken) → FaultOr (sum_within a b) e → FaultOr (make (added a b) s) e
sum_refused a b s (broken.Kind k) h = sym (same_sum a b s) ∙ ap (λ r. make r s) h
sum_refused a b s broken.NoMemory h = tt
