-- One step of equality.
use Rattle.std.proofs.Common.{◌≡◌, ◌≢◌, ℕ, zero, suc, ◌+◌, ◌-◌, ◌<◌, ◌≤◌, min, Bool, true, false, ◌&&◌, List, [], ◌∷◌, length, drop, drop_of_length-le, slice_get, Option, Some, None, Ok, Err, if◌then◌else◌, refl, ap, ◌∙◌, arith, eq-eqb}
use Rattle.std.specs.Map.{lookup}
use Rattle.depsets.proofs.Turns.{drop_at}
use Rattle.leaves.specs.Leaves.{same_key}
use Rattle.ticks.specs.Ticking.{Count, Ticking, then_on, after_tick, entered}
use Rattle.values.specs.Shape.{shape}
use Rattle.visits.specs.Equal.{equal_at, compared, pairs_equal, items_equal, found_equal, matches_equal, entries_equal, same_given}
use Rattle.keys.specs.declared.key.Key.{Key}
use Rattle.values.specs.declared.value.Value.{Value}
use Rattle.values.specs.declared.cells.Cell.{Cell}
use Rattle.ticks.specs.declared.ticks.Kind.{Kind}
use Rattle.ticks.specs.declared.ticks.Kind.TheVariants.{Deep}

module _ (h : List Cell) (a b : Value) (c : Count) where
  pub stopped : (n : ℕ) (k : Kind) → entered n c ≡ Err k → equal_at n h a b c ≡ Err k
  unfolding equal_at
  stopped zero k p = ap (λ r. after_tick r (λ d. Err Deep)) p
  stopped (suc n) k p = ap (λ r. after_tick r (λ d. compared (equal_at n h) (shape h a) (shape h b) d)) p

  pub went : (n : ℕ) (d : Count) → entered n c ≡ Ok d → 0 < n → equal_at n h a b c ≡ compared (equal_at (n - 1) h) (shape h a) (shape h b) d
  unfolding equal_at
  went zero d p q = absurd (omega arith)
  went (suc n) d p q =
      ap (λ r. after_tick r (λ d. compared (equal_at n h) (shape h a) (shape h b) d)) p
      ∙ ap (λ m. compared (equal_at m h) (shape h a) (shape h b) d) (let e : n ≡ suc n - 1 = omega arith in e)

module _ {X : Type 0} (eq : X → X → Count → Ticking Bool) (xs ys : List X) (i : ℕ) (x y : X) (p : slice_get xs i ≡ Some x) (q : slice_get ys i ≡ Some y) (c : Count) where
  pub pairs-then : {r : Ticking Bool} → eq x y c ≡ r → pairs_equal eq (drop i xs) (drop i ys) c ≡ then_on r (λ b d. if b then pairs_equal eq (drop (i + 1) xs) (drop (i + 1) ys) d else Ok (false, d))
  pairs-then e = (λ j. pairs_equal eq (drop_at xs i x p j) (drop_at ys i y q j) c) ∙ ap (λ r. then_on r (λ b d. if b then pairs_equal eq (drop (i + 1) xs) (drop (i + 1) ys) d else Ok (false, d))) e

pub items-pairs : (eq : Value → Value → Count → Ticking Bool) (xs ys : List Value) (c : Count) → length xs ≡ length ys → items_equal eq xs ys c ≡ pairs_equal eq xs ys c
items-pairs eq xs ys c p = ap (λ b. if b then pairs_equal eq xs ys c else Ok (false, c)) (eq-eqb (length xs) (length ys) p)

module _ (eq : Value → Value → Count → Ticking Bool) (es fs : List (Key × Value)) (i : ℕ) (k : Key) (x : Value) (p : slice_get es i ≡ Some (k, x)) (c : Count) where
  pub matches-then : {o : Option Value} {r : Ticking Bool} → lookup (same_key k) fs ≡ o → found_equal eq x o c ≡ r
      → matches_equal eq (drop i es) fs c ≡ then_on r (λ b d. if b then matches_equal eq (drop (i + 1) es) fs d else Ok (false, d))
  matches-then l e =
      (λ j. matches_equal eq (drop_at es i (k, x) p j) fs c)
      ∙ ap (λ o. then_on (found_equal eq x o c) (λ b d. if b then matches_equal eq (drop (i + 1) es) fs d else Ok (false, d))) l
      ∙ ap (λ r. then_on r (λ b d. if b then matches_equal eq (drop (i + 1) es) fs d else Ok (false, d))) e

pub entries-matches : (eq : Value → Value → Count → Ticking Bool) (es fs : List (Key × Value)) (c : Count) → length es ≡ length fs → entries_equal eq es fs c ≡ matches_equal eq es fs c
entries-matches eq es fs c p = ap (λ b. if b then matches_equal eq es fs c else Ok (false, c)) (eq-eqb (length es) (length fs) p)

none-right : {X : Type 0} (eq : X → X → Count → Ticking Bool) (xs : List X) (c : Count) → pairs_equal eq xs [] c ≡ Ok (true, c)
none-right eq [] c = refl
none-right eq (x ∷ xs) c = refl

pub pairs-end : {X : Type 0} (eq : X → X → Count → Ticking Bool) (xs ys : List X) (i : ℕ) (c : Count) → min (length xs) (length ys) ≤ i → pairs_equal eq (drop i xs) (drop i ys) c ≡ Ok (true, c)
pairs-end eq [] ys i c l = ap (λ m. pairs_equal eq m (drop i ys) c) (drop_of_length-le [] (omega arith))
pairs-end eq (x ∷ xs) [] zero c l = refl
pairs-end eq (x ∷ xs) [] (suc i) c l = ap (λ m. pairs_equal eq (drop i xs) m c) (drop_of_length-le [] {i = suc i} (omega arith)) ∙ none-right eq (drop i xs) c
pairs-end eq (x ∷ xs) (y ∷ ys) zero c l = absurd (omega arith)
pairs-end eq (x ∷ xs) (y ∷ ys) (suc i) c l = pairs-end eq xs ys i c (omega arith)

-- one field more
pub given-next : (xs ys : List (Option Value)) (i : ℕ) (x y : Option Value) → slice_get xs i ≡ Some x → slice_get ys i ≡ Some y
    → same_given (drop i xs) (drop i ys) ≡ same_given (x ∷ drop (i + 1) xs) (y ∷ drop (i + 1) ys)
given-next xs ys i x y p q = λ j. same_given (drop_at xs i x p j) (drop_at ys i y q j)

pub given-one : (x y : Option Value) (xs ys : List (Option Value)) → same_given (x ∷ xs) (y ∷ ys) ≡ (same_given (x ∷ []) (y ∷ []) && same_given xs ys)
given-one None None xs ys = refl
given-one None (Some y) xs ys = refl
given-one (Some x) None xs ys = refl
given-one (Some x) (Some y) xs ys = refl

pub given-lengths : (xs ys : List (Option Value)) → length xs ≢ length ys → same_given xs ys ≡ false
given-lengths [] [] h = absurd (h refl)
given-lengths [] (y ∷ ys) h = refl
given-lengths (None ∷ xs) [] h = refl
given-lengths (Some x ∷ xs) [] h = refl
given-lengths (None ∷ xs) (None ∷ ys) h = given-lengths xs ys (λ e. h (ap suc e))
given-lengths (None ∷ xs) (Some y ∷ ys) h = refl
given-lengths (Some x ∷ xs) (None ∷ ys) h = refl
given-lengths (Some x ∷ xs) (Some y ∷ ys) h = given-lengths xs ys (λ e. h (ap suc e))
