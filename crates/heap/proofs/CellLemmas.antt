-- What a change of one cell does.
use Rattle.std.proofs.Common.{◌≡◌, ℕ, zero, suc, ◌≤◌, List, [], ◌∷◌, length, slice_get, slice_set, slice_index_or, ◌<◌, Some, Ok, Err, Result, refl, sym, ap, ◌∙◌, arith}
use Rattle.heap.specs.Cells.{put_at, after, walk_over, ended_at}
use Rattle.ticks.specs.Ticking.{FaultOr}
use Rattle.values.specs.declared.cells.Cell.{Cell}
use Rattle.ticks.specs.declared.ticks.Broken.{Broken}
use Rattle.ticks.specs.declared.ticks.Broken.TheVariants as broken
use Rattle.ticks.specs.declared.ticks.Kind.{Kind}
use Rattle.ticks.specs.declared.ticks.Kind.TheVariants.{Wrong}

module _ (f : Cell → Result Cell Kind) where
  pub put_at-past : (h : List Cell) (i : ℕ) → length h ≤ i → put_at h i f ≡ Err Wrong
  put_at-past [] i l = refl
  put_at-past (c ∷ cs) zero l = absurd (omega arith)
  put_at-past (c ∷ cs) (suc i) l = ap (after (λ ds. c ∷ ds)) (put_at-past cs i (omega arith))

  pub put_at-ok : (h : List Cell) (i : ℕ) (c d : Cell) → slice_get h i ≡ Some c → f c ≡ Ok d → put_at h i f ≡ Ok (slice_set h i d)
  put_at-ok [] i c d p q = absurd (cc)
  put_at-ok (x ∷ xs) zero c d p q = let e : x ≡ c = cc in ap (λ y. after (λ z. z ∷ xs) (f y)) e ∙ ap (after (λ z. z ∷ xs)) q
  put_at-ok (x ∷ xs) (suc i) c d p q = ap (after (λ ds. x ∷ ds)) (put_at-ok xs i c d p q)

  pub put_at-err : (h : List Cell) (i : ℕ) (c : Cell) (k : Kind) → slice_get h i ≡ Some c → f c ≡ Err k → put_at h i f ≡ Err k
  put_at-err [] i c k p q = absurd (cc)
  put_at-err (x ∷ xs) zero c k p q = let e : x ≡ c = cc in ap (λ y. after (λ z. z ∷ xs) (f y)) e ∙ ap (after (λ z. z ∷ xs)) q
  put_at-err (x ∷ xs) (suc i) c k p q = ap (after (λ ds. x ∷ ds)) (put_at-err xs i c k p q)

  pub fault_at : (h : List Cell) (i : ℕ) (c : Cell) (e : Broken) → slice_get h i ≡ Some c → FaultOr (f c) e → FaultOr (put_at h i f) e
  fault_at h i c (broken.Kind k) p q = put_at-err h i c k p q
  fault_at h i c broken.NoMemory p q = tt

pub get_at : {X : Type 0} (xs : List X) (i : ℕ) (x : X) → i < length xs → x ≡ slice_index_or xs i x → slice_get xs i ≡ Some x
get_at [] i x l e = absurd (omega arith)
get_at (y ∷ ys) zero x l e = ap Some (sym e)
get_at (y ∷ ys) (suc i) x l e = get_at ys i x (omega arith) e

pub set_back : {X : Type 0} (xs : List X) (i : ℕ) (x y : X) → slice_get xs i ≡ Some x → y ≡ x → slice_set xs i y ≡ xs
set_back [] i x y p e = refl
set_back (z ∷ zs) zero x y p e = let q : z ≡ x = cc in ap (λ w. w ∷ zs) (e ∙ sym q)
set_back (z ∷ zs) (suc i) x y p e = ap (λ l. z ∷ l) (set_back zs i x y p e)

pub fault-after : {A B : Type 0} (f : A → B) (r : Result A Kind) (e : Broken) → FaultOr r e → FaultOr (after f r) e
fault-after f r (broken.Kind k) h = ap (after f) h
fault-after f r broken.NoMemory h = tt

pub ended_at-past : (h : List Cell) (i : ℕ) → length h ≤ i → ended_at h i ≡ h
ended_at-past [] i l = refl
ended_at-past (c ∷ cs) zero l = absurd (omega arith)
ended_at-past (c ∷ cs) (suc i) l = ap (λ ds. c ∷ ds) (ended_at-past cs i (omega arith))

pub ended_at-set : (h : List Cell) (i : ℕ) (c : Cell) → slice_get h i ≡ Some c → ended_at h i ≡ slice_set h i (walk_over c)
ended_at-set [] i c p = absurd (cc)
ended_at-set (x ∷ xs) zero c p = let e : x ≡ c = cc in ap (λ y. walk_over y ∷ xs) e
ended_at-set (x ∷ xs) (suc i) c p = ap (λ ds. x ∷ ds) (ended_at-set xs i c p)
