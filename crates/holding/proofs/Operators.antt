-- What equality, membership, order, arithmetic and sums keep.
use Rattle.std.proofs.Common.{ℕ, ℤ, Bool, true, false, List, ◌++◌, Option, Some, None, Result, Ok, Err}
use Rattle.numbers.specs.Arithmetic.{sum_of, opposite_of}
use Rattle.numbers.specs.Order.{passes}
use Rattle.numbers.specs.declared.arithmetic.NumberError.{NumberError}
use Rattle.numbers.specs.declared.order.Comparison.{Comparison}
use Rattle.depsets.specs.Elements.{same_truth}
use Rattle.heap.specs.Laws.{extend, heap_after}
use Rattle.values.specs.Shape.{Shape, key, items, shape}
use Rattle.ticks.specs.Ticking.{Count, ticked}
use Rattle.keys.specs.declared.key.Key.{Key}
use Rattle.keys.specs.declared.key.Key.TheVariants as index
use Rattle.ticks.specs.declared.ticks.TheConstants.{VISITED_LEVELS}
use Rattle.ticks.specs.declared.ticks.Kind.{Kind}
use Rattle.ticks.specs.declared.ticks.Kind.TheVariants.{Wrong}
use Rattle.values.specs.declared.value.Value.{Value}
use Rattle.printing.specs.Repr.{fits}
use Rattle.visits.specs.Equal.{equal_at}
use Rattle.operations.specs.Changes.{extension}
use Rattle.operations.specs.Equality.{equals}
use Rattle.operations.specs.Making.{sequence}
use Rattle.operations.specs.Operators.{new_number, new_text, key_sum, added, plus, extended_or_sum, add_in_place, calculated, number_value, calculate, negative, order_in, compare}
use Rattle.operations.specs.Reading.{number_in, of_type}
use Rattle.operations.specs.States.{ticked_once, tick, then_give}
use Rattle.operations.specs.Strings.{held_in, member}
use Rattle.operations.specs.declared.arithmetic.Arithmetic.{Arithmetic}
use Rattle.operations.specs.declared.state.State.{State}
use Rattle.one_tree.specs.Found.{Set, in_values}
use Rattle.one_tree.specs.Sets.{AreIn}
use Rattle.holding.specs.Held.{Seen, IsSeen, StateHolds, After}
use Rattle.holding.proofs.Steps.{IfSome, IfGiven, all_given, either, of_type_all, none_in, values_both, shown, HasMade, change_seen, whatever, shape_seen, ticks_put, given_here, keeping_after, changed_after, with_ticks_after, make_after}

-- ---- what sums make

number_seen : (s : List Set) (r : Result ℤ NumberError) → IfGiven (HasMade s) (new_number r)
number_seen s (Ok n) = none_in s
number_seen s (Err e) = tt

text_seen : (s : List Set) (r : Result (List ℕ) Kind) → IfGiven (HasMade s) (new_text r)
text_seen s (Ok t) = none_in s
text_seen s (Err e) = tt

key_sum_seen : (s : List Set) (j k : Key) → IfGiven (HasMade s) (key_sum j k)
key_sum_seen s (index.Number a) (index.Number b) = number_seen s (sum_of a b)
key_sum_seen s (index.Text a) (index.Text b) = text_seen s (fits (a ++ b))
key_sum_seen s _ _ = tt

sequence_seen : (s : List Set) (j : Bool) (xs : List Value) → AreIn (in_values xs) s → HasMade s (sequence j xs)
sequence_seen s true xs i = i
sequence_seen s false xs i = i

added_seen : (s : List Set) (a b : Shape) → AreIn (shown a) s → AreIn (shown b) s → IfGiven (HasMade s) (added a b)
added_seen s (key j) (key k) i l = key_sum_seen s j k
added_seen s (items j xs) (items k ys) i l =
    either (IfGiven (HasMade s)) (same_truth j k) (Ok (sequence j (xs ++ ys))) (Err Wrong) (sequence_seen s j (xs ++ ys) (values_both s xs ys i l)) tt
added_seen s _ _ i l = tt

extension_seen : (s : List Set) (a b : Shape) → AreIn (shown b) s → IfSome (λ ys. AreIn (in_values ys) s) (extension a b)
extension_seen s (items true xs) (items j ys) i = i
extension_seen s _ _ i = tt

module _ {owner : List ℕ} {base : List Set} where
  -- ---- ticks, and tests

  ticked_after : (k : Seen owner base) (s : State) (r : Result Count Kind) → StateHolds k s → After whatever k (ticked_once s r)
  ticked_after k s (Ok c) hs = given_here whatever k (tt {0}) (record s { ticks = c }) (ticks_put k s c hs) tt
  ticked_after k s (Err e) hs = tt

  pub tick_after : (k : Seen owner base) (s : State) → StateHolds k s → After whatever k (tick s)
  tick_after k s hs = ticked_after k s (ticked s.ticks) hs

  pub equals_after : (k : Seen owner base) (a b : Value) (s : State) → StateHolds k s → After whatever k (equals a b s)
  equals_after k a b s hs =
      let r = equal_at VISITED_LEVELS s.heap a b s.ticks in with_ticks_after whatever k s r hs (all_given (λ p. Unit {0}) r (λ p. tt))

  pub member_after : (k : Seen owner base) (a b : Value) (s : State) → StateHolds k s → After whatever k (member a b s)
  member_after k a b s hs =
      let r = held_in s.heap a (shape s.heap b) s.ticks in with_ticks_after whatever k s r hs (all_given (λ p. Unit {0}) r (λ p. tt))

  pub compare_after : (k : Seen owner base) (o : Comparison) (a b : Value) (s : State) → StateHolds k s → After whatever k (compare o a b s)
  compare_after k o a b s hs =
      let r = then_give (order_in (shape s.heap a) (shape s.heap b)) (λ r. Ok (passes o r)) in
      keeping_after whatever k r s hs (all_given (λ p. Unit {0}) r (λ p. tt))

  -- ---- numbers

  value_seen : (k : Seen owner base) (r : Result ℤ NumberError) → IfGiven (IsSeen k) (number_value r)
  value_seen k (Ok n) = none_in k.sets
  value_seen k (Err e) = tt

  pub calculate_after : (k : Seen owner base) (o : Arithmetic) (a b : Value) (s : State) → StateHolds k s → After IsSeen k (calculate o a b s)
  calculate_after k o a b s hs =
      let f = λ (x y : ℤ). number_value (calculated o x y) in
      let g = λ (x : ℤ). of_type (number_in (shape s.heap b)) (f x) in
      keeping_after IsSeen k (of_type (number_in (shape s.heap a)) g) s hs
      (of_type_all (IsSeen k) (number_in (shape s.heap a)) g (λ x. of_type_all (IsSeen k) (number_in (shape s.heap b)) (f x) (λ y. value_seen k (calculated o x y))))

  pub negative_after : (k : Seen owner base) (a : Value) (s : State) → StateHolds k s → After IsSeen k (negative a s)
  negative_after k a s hs =
      let f = λ (x : ℤ). number_value (opposite_of x) in
      keeping_after IsSeen k (of_type (number_in (shape s.heap a)) f) s hs
      (of_type_all (IsSeen k) (number_in (shape s.heap a)) f (λ x. value_seen k (opposite_of x)))

  -- ---- sums

  pub plus_after : (k : Seen owner base) (a b : Value) (s : State) → StateHolds k s → IsSeen k a → IsSeen k b → After IsSeen k (plus a b s)
  plus_after k a b s hs i j =
      make_after k (added (shape s.heap a) (shape s.heap b)) s hs
      (added_seen k.sets (shape s.heap a) (shape s.heap b) (shape_seen k s a hs i) (shape_seen k s b hs j))

  extended_after : (k : Seen owner base) (o : Option (List Value)) (a b : Value) (s : State) → StateHolds k s → IsSeen k a → IsSeen k b
      → IfSome (λ ys. AreIn (in_values ys) k.sets) o → After IsSeen k (extended_or_sum o a b s)
  extended_after k (Some ys) a b s hs i j h = changed_after IsSeen k a s (heap_after s.heap (extend a ys)) hs i (change_seen k.sets s.heap (extend a ys) hs.heap h)
  extended_after k None a b s hs i j h = plus_after k a b s hs i j

  pub add_in_place_after : (k : Seen owner base) (a b : Value) (s : State) → StateHolds k s → IsSeen k a → IsSeen k b
      → After IsSeen k (add_in_place a b s)
  add_in_place_after k a b s hs i j =
      extended_after k (extension (shape s.heap a) (shape s.heap b)) a b s hs i j
      (extension_seen k.sets (shape s.heap a) (shape s.heap b) (shape_seen k s b hs j))
