-- What a call of what isn't written in Starlark reads of its arguments has no depsets but theirs.
use Rattle.std.proofs.Common.{ℕ, if◌then◌else◌, is_some, List, [], ◌∷◌, Option, Some, None, Result, Ok, Err}
use Rattle.ticks.specs.declared.ticks.Kind.{Kind}
use Rattle.ticks.specs.declared.ticks.Kind.TheVariants.{Arity}
use Rattle.values.specs.declared.value.Value.{Value}
use Rattle.first_places.specs.Places.{place_named}
use Rattle.operations.specs.Arguments.{Given, Parameter, Bound, given_for, put_first, named_or_missing, filled, all_known, bound, one, unless_named, positions}
use Rattle.one_tree.specs.Found.{Set, in_value, in_values, in_fields}
use Rattle.one_tree.proofs.Changed.{both_in}
use Rattle.holding.proofs.Steps.{IfSome, IfGiven, either, none_in, left_in, right_in, HasValue, HasValues, HasFields, value_placed_in}

module _ (s : List Set) where
  pub put_fields : (o : Option Value) (os : List (Option Value)) → IfSome (HasValue s) o → HasFields s os → HasFields s (o ∷ os)
  put_fields None os h i = i
  put_fields (Some v) os h i = both_in (in_value v) (in_fields os) s h i

  pub first_field : (o : Option Value) (os : List (Option Value)) → HasFields s (o ∷ os) → IfSome (HasValue s) o
  first_field None os h = tt
  first_field (Some v) os h = left_in (in_value v) (in_fields os) s h

  pub rest_fields : (o : Option Value) (os : List (Option Value)) → HasFields s (o ∷ os) → HasFields s os
  rest_fields None os h = h
  rest_fields (Some v) os h = right_in (in_value v) (in_fields os) s h

  -- ---- what parameters get

  pub named_has : (x : List ℕ) (ns : List (List ℕ)) (vs : List Value) → HasValues s vs → IfSome (HasValue s) (given_for x ns vs)
  named_has x ns vs h = value_placed_in s vs (place_named x ns) h

  first_put : (o : Option Value) (r : Result Bound Kind) → IfSome (HasValue s) o → IfGiven (HasFields s) r → IfGiven (HasFields s) (put_first o r)
  first_put o (Ok os) h i = put_fields o os h i
  first_put o (Err k) h i = tt

  named_fills : (p : Parameter) (o : Option Value) (r : Result Bound Kind) → IfSome (HasValue s) o → IfGiven (HasFields s) r
      → IfGiven (HasFields s) (named_or_missing p o r)
  named_fills p (Some v) r h i = first_put (Some v) r h i
  named_fills p None r h i = either (IfGiven (HasFields s)) p.may_miss (put_first None r) (Err Arity) (first_put None r tt i) tt

  fill_has : (ps : List Parameter) (vs : List Value) (named : List ℕ → Option Value) → HasValues s vs → ((x : List ℕ) → IfSome (HasValue s) (named x))
      → IfGiven (HasFields s) (filled ps vs named)
  fill_has [] [] named h n = none_in s
  fill_has [] (v ∷ vs) named h n = tt
  fill_has (p ∷ ps) [] named h n = named_fills p (named p.name) (filled ps [] named) (n p.name) (fill_has ps [] named h n)
  fill_has (p ∷ ps) (v ∷ vs) named h n =
      either (IfGiven (HasFields s)) p.by_name (Err Arity) (if is_some (named p.name) then Err Arity else put_first (Some v) (filled ps vs named)) tt
      (either (IfGiven (HasFields s)) (is_some (named p.name)) (Err Arity) (put_first (Some v) (filled ps vs named)) tt
      (first_put (Some v) (filled ps vs named) (left_in (in_value v) (in_values vs) s h)
      (fill_has ps vs named (right_in (in_value v) (in_values vs) s h) n)))

  pub bound_has : (ps : List Parameter) (g : Given) → HasValues s g.items → HasValues s g.values → IfGiven (HasFields s) (bound ps g)
  bound_has ps g h i =
      either (IfGiven (HasFields s)) (all_known ps g.names) (filled ps g.items (λ x. given_for x g.names g.values)) (Err Arity)
      (fill_has ps g.items (λ x. given_for x g.names g.values) h (λ x. named_has x g.names g.values i)) tt

  -- of a call of one parameter
  pub one_has : (os : Bound) → HasFields s os → IfGiven (HasValue s) (one Ok os)
  one_has [] h = tt
  one_has (None ∷ os) h = tt
  one_has (Some v ∷ []) h = first_field (Some v) [] h
  one_has (Some v ∷ o ∷ os) h = tt

  only_positions : (ns : List (List ℕ)) (vs : List Value) → HasValues s vs → IfGiven (HasValues s) (unless_named ns vs)
  only_positions [] vs h = h
  only_positions (n ∷ ns) vs h = tt

  pub positions_have : (g : Given) → HasValues s g.items → IfGiven (HasValues s) (positions g)
  positions_have g h = only_positions g.names g.items h
