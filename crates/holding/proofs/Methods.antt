-- Methods of lists, dicts, strings and depsets make no depset.
use Rattle.std.proofs.Common.{ℕ, List, [], ◌∷◌, ◌++◌, Option, Some, None, Result, Ok, Err, map}
use Rattle.std.specs.Map.{lookup}
use Rattle.strings.specs.Joining.{join_of}
use Rattle.strings.specs.Splitting.{split_of}
use Rattle.leaves.specs.Leaves.{same_key}
use Rattle.values.specs.Shape.{shape}
use Rattle.values.specs.Visits.{keys_of}
use Rattle.keys.specs.declared.key.Key.{Key}
use Rattle.ticks.specs.declared.ticks.Kind.{Kind}
use Rattle.values.specs.declared.value.Value.{Value}
use Rattle.values.specs.declared.value.Value.TheVariants as value
use Rattle.operations.specs.Arguments.{Given, positions}
use Rattle.operations.specs.Calls.{of_text, of_depset, method_of, method_with, method_call}
use Rattle.operations.specs.Changes.{append, extend}
use Rattle.operations.specs.Depsets.{all_in, to_list}
use Rattle.operations.specs.Items.{or_else, got}
use Rattle.operations.specs.Making.{none, text, new_list, new_tuple, entries_in}
use Rattle.operations.specs.Methods.{with_one, with_none, get, keys, values, pairs_behind, pairs}
use Rattle.operations.specs.Reading.{string_in, key_in, sequence_in, depset_in}
use Rattle.operations.specs.States.{Op}
use Rattle.operations.specs.Strings.{or_string_fault, split, join, starts_with, ends_with}
use Rattle.operations.specs.declared.made.Made.TheVariants as new
use Rattle.operations.specs.declared.method.Method.{Method}
use Rattle.operations.specs.declared.method.Method.TheVariants as method
use Rattle.operations.specs.declared.state.State.{State}
use Rattle.one_tree.specs.Found.{Set, in_value, in_values, in_entries}
use Rattle.one_tree.specs.Sets.{AreIn}
use Rattle.holding.specs.Held.{Seen, IsSeen, StateHolds, After}
use Rattle.holding.proofs.Changing.{append_after, extend_after}
use Rattle.holding.proofs.Depsets.{to_list_keeps}
use Rattle.holding.proofs.Givens.{positions_have}
use Rattle.holding.proofs.Steps.{IfSome, IfGiven, of_type_all, then_all, none_in, left_in, right_in, through, values_both, one_value_in, mapped_in, keys_in, entry_values_in, found_in, entries_shown, AreSeen, shape_seen, given_here, keeping_after, then_after, new_list_after, new_tuple_after, HasMade, make_after, HasValue, HasValues}

module _ (s : List Set) where
  or_else_has : (d : Value) (o : Option Value) → HasValue s d → IfSome (HasValue s) o → HasValue s (or_else d o)
  or_else_has d (Some v) i j = j
  or_else_has d None i j = i

  texts_have : (ts : List (List ℕ)) → HasValues s (map text ts)
  texts_have ts = mapped_in s text ts (λ t. none_in s)

module _ {owner : List ℕ} {base : List Set} where
  -- ---- d.items()

  pairs_behind_keep : (es : List (Key × Value)) (k : Seen owner base) (vs : List Value) (s : State) → StateHolds k s → AreSeen k vs
      → AreIn (in_entries es) k.sets
      → After AreSeen k (pairs_behind vs es s)
  pairs_behind_keep [] k vs s holds i j = given_here AreSeen k vs s holds i
  pairs_behind_keep (e ∷ es) k vs s holds i j =
      then_after IsSeen AreSeen k (new_tuple (value.Key e.0 ∷ e.1 ∷ []) s) (λ v t. pairs_behind (vs ++ v ∷ []) es t)
      (new_tuple_after k (value.Key e.0 ∷ e.1 ∷ []) s holds (one_value_in k.sets e.1 (left_in (in_value e.1) (in_entries es) k.sets j)))
      (λ w up v t hs l. pairs_behind_keep es w (vs ++ v ∷ []) t hs
      (values_both w.sets vs (v ∷ []) (through (in_values vs) k.sets w.sets i up) (one_value_in w.sets v l))
      (through (in_entries es) k.sets w.sets (right_in (in_value e.1) (in_entries es) k.sets j) up))

  module _ (k : Seen owner base) (s : State) (holds : StateHolds k s) where
    pairs_keep : (es : List (Key × Value)) → AreIn (in_entries es) k.sets → After IsSeen k (pairs es s)
    pairs_keep es i =
        then_after AreSeen IsSeen k (pairs_behind [] es s) new_list (pairs_behind_keep es k [] s holds (none_in k.sets) i)
        (λ w up vs t hs j. new_list_after w vs t hs j)

    keys_keep : (es : List (Key × Value)) → After IsSeen k (keys es s)
    keys_keep es = new_list_after k (map value.Key (keys_of es)) s holds (keys_in k.sets (keys_of es))

    values_keep : (es : List (Key × Value)) → AreIn (in_entries es) k.sets → After IsSeen k (values es s)
    values_keep es i = new_list_after k (map (λ e. e.1) es) s holds (entry_values_in k.sets es i)

    -- ---- d.get(k, default)

    got_keeps : (es : List (Key × Value)) (d x : Value) → AreIn (in_entries es) k.sets → IsSeen k d → IfGiven (IsSeen k) (got es d (shape s.heap x))
    got_keeps es d x i j =
        of_type_all (IsSeen k) (key_in (shape s.heap x)) (λ y. Ok (or_else d (lookup (same_key y) es)))
        (λ y. or_else_has k.sets d (lookup (same_key y) es) j (found_in k.sets (same_key y) es i))

    get_keeps : (es : List (Key × Value)) (vs : List Value) → AreIn (in_entries es) k.sets → AreSeen k vs → After IsSeen k (get es vs s)
    get_keeps es (x ∷ []) i j = keeping_after IsSeen k (got es none (shape s.heap x)) s holds (got_keeps es none x i (none_in k.sets))
    get_keeps es (x ∷ d ∷ []) i j =
        keeping_after IsSeen k (got es d (shape s.heap x)) s holds
        (got_keeps es d x i (left_in (in_value d) [] k.sets (right_in (in_value x) (in_values (d ∷ [])) k.sets j)))
    get_keeps es _ i j = tt

    -- ---- texts

    split_keeps : (t : List ℕ) (v : Value) → After IsSeen k (split t v s)
    split_keeps t v =
        make_after k _ s holds (of_type_all (HasMade k.sets) (string_in (shape s.heap v)) _
        (λ sep. then_all (HasMade k.sets) (or_string_fault (split_of sep t)) (λ ts. Ok (new.List (map text ts))) (texts_have k.sets)))

    join_keeps : (t : List ℕ) (v : Value) → After IsSeen k (join t v s)
    join_keeps t v =
        keeping_after IsSeen k _ s holds (of_type_all (IsSeen k) (sequence_in (shape s.heap v)) _
        (λ xs. then_all (IsSeen k) (all_in string_in s.heap xs) _
        (λ ts. then_all (IsSeen k) (or_string_fault (join_of t ts)) (λ u. Ok (text u)) (λ u. none_in k.sets))))

    starts_keeps : (t : List ℕ) (v : Value) → After IsSeen k (starts_with t v s)
    starts_keeps t v = keeping_after IsSeen k _ s holds (of_type_all (IsSeen k) (string_in (shape s.heap v)) _ (λ p. none_in k.sets))

    ends_keeps : (t : List ℕ) (v : Value) → After IsSeen k (ends_with t v s)
    ends_keeps t v = keeping_after IsSeen k _ s holds (of_type_all (IsSeen k) (string_in (shape s.heap v)) _ (λ p. none_in k.sets))

    -- ---- calls

    with_one_keeps : (f : Value → Op Value) (vs : List Value) → ((v : Value) → IsSeen k v → After IsSeen k (f v s)) → AreSeen k vs
        → After IsSeen k (with_one f vs s)
    with_one_keeps f (v ∷ []) h i = h v (left_in (in_value v) [] k.sets i)
    with_one_keeps f _ h i = tt

    with_none_keeps : (f : Op Value) (vs : List Value) → After IsSeen k (f s) → After IsSeen k (with_none f vs s)
    with_none_keeps f [] h = h
    with_none_keeps f (v ∷ vs) h = tt

    of_text_keeps : (f : List ℕ → Value → Op Value) (o : Option (List ℕ)) (vs : List Value)
        → ((t : List ℕ) (v : Value) → After IsSeen k (f t v s)) → AreSeen k vs
        → After IsSeen k (of_text f o vs s)
    of_text_keeps f (Some t) vs h i = with_one_keeps (f t) vs (λ v j. h t v) i
    of_text_keeps f None vs h i = tt

    of_depset_keeps : (o : Option Set) (vs : List Value) → After IsSeen k (of_depset o vs s)
    of_depset_keeps (Some d) vs = with_none_keeps (to_list d) vs (to_list_keeps k s holds d)
    of_depset_keeps None vs = tt

    entries_seen : (v : Value) → IsSeen k v → AreIn (in_entries (entries_in (shape s.heap v))) k.sets
    entries_seen v i = entries_shown k.sets (shape s.heap v) (shape_seen k s v holds i)

    method_of_keeps : (m : Method) (v : Value) (vs : List Value) → IsSeen k v → AreSeen k vs → After IsSeen k (method_of m v vs s)
    method_of_keeps method.Append v vs i j = with_one_keeps (append v) vs (λ x l. append_after k v x s holds l) j
    method_of_keeps method.Extend v vs i j = with_one_keeps (extend v) vs (λ x l. extend_after k v x s holds l) j
    method_of_keeps method.Get v vs i j = get_keeps (entries_in (shape s.heap v)) vs (entries_seen v i) j
    method_of_keeps method.Keys v vs i j = with_none_keeps (keys (entries_in (shape s.heap v))) vs (keys_keep (entries_in (shape s.heap v)))
    method_of_keeps method.Values v vs i j =
        with_none_keeps (values (entries_in (shape s.heap v))) vs
        (values_keep (entries_in (shape s.heap v)) (entries_seen v i))
    method_of_keeps method.Items v vs i j =
        with_none_keeps (pairs (entries_in (shape s.heap v))) vs
        (pairs_keep (entries_in (shape s.heap v)) (entries_seen v i))
    method_of_keeps method.Join v vs i j = of_text_keeps join (string_in (shape s.heap v)) vs join_keeps j
    method_of_keeps method.Split v vs i j = of_text_keeps split (string_in (shape s.heap v)) vs split_keeps j
    method_of_keeps method.StartsWith v vs i j = of_text_keeps starts_with (string_in (shape s.heap v)) vs starts_keeps j
    method_of_keeps method.EndsWith v vs i j = of_text_keeps ends_with (string_in (shape s.heap v)) vs ends_keeps j
    method_of_keeps method.ToList v vs i j = of_depset_keeps (depset_in (shape s.heap v)) vs

    method_with_keeps : (r : Result (List Value) Kind) (m : Method) (v : Value) → IsSeen k v → IfGiven (AreSeen k) r
        → After IsSeen k (method_with r m v s)
    method_with_keeps (Ok vs) m v i j = method_of_keeps m v vs i j
    method_with_keeps (Err e) m v i j = tt

    pub method_keeps : (m : Method) (v : Value) (g : Given) → IsSeen k v → HasValues k.sets g.items → After IsSeen k (method_call m v g s)
    method_keeps m v g i j = method_with_keeps (positions g) m v i (positions_have k.sets g j)
