-- Of the built-in functions `depset` alone makes a depset.
use Rattle.std.proofs.Common.{ℕ, ℤ, pos, List, [], ◌∷◌, Option, Some, None, Result, Ok, Err}
use Rattle.values.specs.Shape.{Shape, key, atom, items, entries, fields, nothing, shape}
use Rattle.ticks.specs.Ticking.{Count}
use Rattle.values.specs.Visits.{keys_of}
use Rattle.values.specs.declared.cells.Cell.{Cell}
use Rattle.ticks.specs.declared.ticks.Kind.{Kind}
use Rattle.values.specs.declared.value.Value.{Value}
use Rattle.printing.specs.Repr.{repr_of}
use Rattle.numbers.specs.Ranges.{range_of}
use Rattle.operations.specs.Arguments.{Given, wanted, bound, one, positions}
use Rattle.operations.specs.BuiltIns.{argument, with_argument, size_in, len, text_value, str, numbers, range_between, range_in, range, listed_in, list, fail}
use Rattle.operations.specs.Making.{number, text}
use Rattle.operations.specs.Reading.{string_in, number_in}
use Rattle.operations.specs.States.{Op}
use Rattle.operations.specs.declared.made.Made.TheVariants as new
use Rattle.operations.specs.declared.state.State.{State}
use Rattle.one_tree.specs.Found.{Set}
use Rattle.one_tree.specs.Sets.{AreIn}
use Rattle.holding.specs.Held.{Seen, IsSeen, StateHolds, After}
use Rattle.holding.proofs.Givens.{bound_has, one_has}
use Rattle.holding.proofs.Steps.{IfSome, IfGiven, of_type_given, of_type_all, then_given, then_all, none_in, mapped_in, keys_in, shown, shape_seen, ticks_put, given_here, keeping_after, make_after, HasValue, HasValues, HasFields, HasMade}

module _ (s : List Set) where
  -- a call of one parameter
  argument_has : (x : List ℕ) (g : Given) → HasValues s g.items → HasValues s g.values → IfGiven (HasValue s) (argument x g)
  argument_has x g i j = then_given (HasFields s) (HasValue s) (bound (wanted x ∷ []) g) (one Ok) (bound_has s (wanted x ∷ []) g i j) (one_has s)

  numbers_have : (o : Option (List ℤ)) → IfGiven (HasMade s) (numbers o)
  numbers_have (Some ns) = mapped_in s number ns (λ n. none_in s)
  numbers_have None = tt

  range_between_has : (a b : Option ℤ) → IfGiven (HasMade s) (range_between a b)
  range_between_has (Some a) (Some b) = numbers_have (range_of a b)
  range_between_has (Some a) None = tt
  range_between_has None b = tt

  range_in_has : (h : List Cell) (vs : List Value) → IfGiven (HasMade s) (range_in h vs)
  range_in_has h (n ∷ []) = range_between_has (Some (pos 0)) (number_in (shape h n))
  range_in_has h (a ∷ b ∷ []) = range_between_has (number_in (shape h a)) (number_in (shape h b))
  range_in_has h _ = tt

  listed_shown : (g : Shape) → AreIn (shown g) s → IfSome (HasValues s) (listed_in g)
  listed_shown (items j xs) i = i
  listed_shown (entries es) i = keys_in s (keys_of es)
  listed_shown (key x) i = tt
  listed_shown (atom l) i = tt
  listed_shown (fields p fs) i = tt
  listed_shown nothing i = tt

module _ {owner : List ℕ} {base : List Set} (k : Seen owner base) (s : State) (holds : StateHolds k s) where
  with_argument_keeps : (f : Value → Op Value) (r : Result Value Kind) → ((v : Value) → IsSeen k v → After IsSeen k (f v s)) → IfGiven (IsSeen k) r
      → After IsSeen k (with_argument r f s)
  with_argument_keeps f (Ok v) h i = h v i
  with_argument_keeps f (Err e) h i = tt

  pub len_keeps : (v : Value) → After IsSeen k (len v s)
  len_keeps v = keeping_after IsSeen k _ s holds (of_type_all (IsSeen k) (size_in (shape s.heap v)) _ (λ n. none_in k.sets))

  text_value_keeps : (r : Result (List ℕ × Count) Kind) → After IsSeen k (text_value s r)
  text_value_keeps (Ok p) = given_here IsSeen k (text p.0) (record s { ticks = p.1 }) (ticks_put k s p.1 holds) (none_in k.sets)
  text_value_keeps (Err e) = tt

  pub str_keeps : (v : Value) → After IsSeen k (str v s)
  str_keeps v = text_value_keeps (repr_of s.heap v s.ticks)

  pub range_keeps : (g : Given) → After IsSeen k (range g s)
  range_keeps g = make_after k _ s holds (then_all (HasMade k.sets) (positions g) (range_in s.heap) (range_in_has k.sets s.heap))

  pub list_keeps : (v : Value) → IsSeen k v → After IsSeen k (list v s)
  list_keeps v i =
      make_after k _ s holds (of_type_given (HasValues k.sets) (HasMade k.sets) (listed_in (shape s.heap v)) (λ xs. Ok (new.List xs))
      (listed_shown k.sets (shape s.heap v) (shape_seen k s v holds i)) (λ xs j. j))

  pub fail_keeps : (v : Value) → After IsSeen k (fail v s)
  fail_keeps v = keeping_after IsSeen k _ s holds (of_type_all (IsSeen k) (string_in (shape s.heap v)) _ (λ t. tt))

  -- a function of one argument
  pub argument_keeps : (x : List ℕ) (f : Value → Op Value) (g : Given) → ((v : Value) → IsSeen k v → After IsSeen k (f v s))
      → HasValues k.sets g.items
      → HasValues k.sets g.values → After IsSeen k (with_argument (argument x g) f s)
  argument_keeps x f g h i j = with_argument_keeps f (argument x g) h (argument_has k.sets x g i j)
