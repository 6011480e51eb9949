-- What each operation of the language keeps, on a state with the work of its place.
use Rattle.std.proofs.Common.{◌≡◌, ℕ, Bool, not, List, [], ◌∷◌, Option, Some, None, Result, Ok, Err, map, refl}
use Rattle.numbers.specs.declared.order.Comparison.TheVariants as op
use Rattle.grammar.specs.Tree.{Operator, either as or, both as and, equal, not_equal, less, greater, less_equal, greater_equal, within, not_within, add, subtract, multiply, divide, remainder, Sign, negation, opposite}
use Rattle.program_tree.specs.Names.{Name}
use Rattle.program_tree.specs.declared.names.Predeclared.{Predeclared}
use Rattle.program_tree.specs.declared.names.Predeclared.TheVariants as name
use Rattle.meaning.specs.Operations as meant
use Rattle.values.specs.Shape.{shape}
use Rattle.values.specs.declared.cells.Cell.TheVariants as cell
use Rattle.leaves.specs.declared.leaf.Leaf.{Leaf}
use Rattle.leaves.specs.declared.leaf.Leaf.TheVariants as plain
use Rattle.ticks.specs.declared.ticks.Kind.{Kind}
use Rattle.values.specs.declared.value.Value.{Value}
use Rattle.values.specs.declared.value.Value.TheVariants as value
use Rattle.operations.specs.Arguments.{Given}
use Rattle.operations.specs.Changes.{set_item}
use Rattle.operations.specs.Calls.{built_in_call, instance_call, method_call}
use Rattle.operations.specs.Equality.{equals}
use Rattle.operations.specs.Fields.{Found, plainly, with_method, shape_method, field, find}
use Rattle.operations.specs.Items.{item}
use Rattle.operations.specs.Making.{truth, new_list, new_tuple, new_dict, collect, enter, keep}
use Rattle.operations.specs.Names.{Linked, global, set_global, set_loaded, load, define, defaults}
use Rattle.operations.specs.Operators.{add_in_place, negative, compare}
use Rattle.operations.specs.States.{Op, then_do, tick}
use Rattle.operations.specs.Strings.{member}
use Rattle.operations.specs.Walks.{begin, ended, parts}
use Rattle.operations.specs.declared.arithmetic.Arithmetic.TheVariants as arithmetic
use Rattle.operations.specs.declared.method.Method.{Method}
use Rattle.operations.specs.declared.state.State.{State}
use Rattle.one_tree.specs.Found.{Set, in_value, in_values}
use Rattle.one_tree.specs.Sets.{AreIn}
use Rattle.one_tree.proofs.Changed.{both_in}
use Rattle.keeping.specs.Kept.{Kept, goods, named_goods, good_callee, Gives}
use Rattle.keeping.specs.Owed.{EachKeeps}
use Rattle.language.specs.declared.whole.Whole.{Whole}
use Rattle.language.specs.Place.{Place, with_work, of_state, kept}
use Rattle.language.specs.Language.{predeclared_value, as_truth, as_opposite, binary_of, target_of, of_place, given_of, made_id, in_truth, in_opposite, with_target, item_of, field_of, as_callee, plain_callee, find_of, or_place, leaf_call, value_call, place_method, method_or_place, call_of, sign_of, language}
use Rattle.holding.specs.Held.{Seen, IsSeen, StateHolds, After, WholeHolds, held}
use Rattle.holding.specs.Places.{LinkedKeeps, PlaceKeeps, OperationsKeep}
use Rattle.holding.proofs.Calls.{built_in_keeps, instance_keeps, method_keeps}
use Rattle.holding.proofs.Changing.{set_item_after, collect_after, keep_after, enter_after, begin_after, ended_holds, parts_after}
use Rattle.holding.proofs.Operators.{tick_after, equals_after, member_after, compare_after, calculate_after, negative_after, plus_after, add_in_place_after}
use Rattle.holding.proofs.Reading.{IsFound, item_after, field_after, find_after, global_after, load_after, set_global_holds, set_loaded_holds, define_after, defaults_seen}
use Rattle.holding.proofs.Steps.{IfSome, IfGiven, if_some, if_given, either, none_in, left_in, right_in, through, same_in, AreSeen, whatever, given_here, then_after, new_list_after, new_tuple_after, new_cell_after}

-- ---- on the state alone

module _ {owner : List ℕ} {base : List Set} where
  truth_after : (k : Seen owner base) (f : Op Bool) (s : State) → After whatever k (f s) → After IsSeen k (as_truth f s)
  truth_after k f s h = then_after whatever IsSeen k (f s) (λ b t. Ok (truth b, t)) h (λ w up b t ht p. given_here IsSeen w (truth b) t ht (none_in w.sets))

  opposite_after : (k : Seen owner base) (f : Op Bool) (s : State) → After whatever k (f s) → After IsSeen k (as_opposite f s)
  opposite_after k f s h =
      then_after whatever IsSeen k (f s) (λ b t. Ok (truth (not b), t)) h (λ w up b t ht p. given_here IsSeen w (truth (not b)) t ht (none_in w.sets))

  binary_after : (k : Seen owner base) (o : Operator) (a b : Value) (s : State) → StateHolds k s → IsSeen k a → IsSeen k b
      → After IsSeen k (binary_of o a b s)
  binary_after k equal a b s hs i j = truth_after k (equals a b) s (equals_after k a b s hs)
  binary_after k not_equal a b s hs i j = opposite_after k (equals a b) s (equals_after k a b s hs)
  binary_after k less a b s hs i j = truth_after k (compare op.Below a b) s (compare_after k op.Below a b s hs)
  binary_after k less_equal a b s hs i j = truth_after k (compare op.AtMost a b) s (compare_after k op.AtMost a b s hs)
  binary_after k greater a b s hs i j = truth_after k (compare op.Above a b) s (compare_after k op.Above a b s hs)
  binary_after k greater_equal a b s hs i j = truth_after k (compare op.AtLeast a b) s (compare_after k op.AtLeast a b s hs)
  binary_after k within a b s hs i j = truth_after k (member a b) s (member_after k a b s hs)
  binary_after k not_within a b s hs i j = opposite_after k (member a b) s (member_after k a b s hs)
  binary_after k add a b s hs i j = plus_after k a b s hs i j
  binary_after k subtract a b s hs i j = calculate_after k arithmetic.Minus a b s hs
  binary_after k multiply a b s hs i j = calculate_after k arithmetic.Times a b s hs
  binary_after k divide a b s hs i j = calculate_after k arithmetic.FloorDiv a b s hs
  binary_after k remainder a b s hs i j = calculate_after k arithmetic.Modulo a b s hs
  binary_after k or a b s hs i j = tt
  binary_after k and a b s hs i j = tt

  predeclared_seen : (k : Seen owner base) (p : Predeclared) → IsSeen k (predeclared_value p)
  predeclared_seen k name.NoneValue = none_in k.sets
  predeclared_seen k name.TrueValue = none_in k.sets
  predeclared_seen k name.FalseValue = none_in k.sets
  predeclared_seen k name.LenFunction = none_in k.sets
  predeclared_seen k name.StrFunction = none_in k.sets
  predeclared_seen k name.RangeFunction = none_in k.sets
  predeclared_seen k name.ListFunction = none_in k.sets
  predeclared_seen k name.FailFunction = none_in k.sets
  predeclared_seen k name.DepsetFunction = none_in k.sets
  predeclared_seen k name.ProviderFunction = none_in k.sets
  predeclared_seen k name.RuleFunction = none_in k.sets
  predeclared_seen k name.AttrModule = none_in k.sets
  predeclared_seen k name.DefaultInfo = none_in k.sets

  test_seen : (k : Seen owner base) (r : Result Bool Kind) → IfGiven (IsSeen k) (in_truth r)
  test_seen k (Ok b) = none_in k.sets
  test_seen k (Err e) = tt

  opposite_seen : (k : Seen owner base) (r : Result Bool Kind) → IfGiven (IsSeen k) (in_opposite r)
  opposite_seen k (Ok b) = none_in k.sets
  opposite_seen k (Err e) = tt

module _ {W : Type 0} (owner : List ℕ) (base : List Set) (in_work : W → List Set) where
  -- what is kept
  abbrev r : Kept (Whole W) Value
  r = held owner base in_work

  -- ---- values that are good, one by one and all together

  goods_in : (k : Seen owner base) (vs : List Value) → goods r k vs → AreSeen k vs
  goods_in k [] h = none_in k.sets
  goods_in k (v ∷ vs) h = both_in (in_value v) (in_values vs) k.sets h.0 (goods_in k vs h.1)

  in_goods : (k : Seen owner base) (vs : List Value) → AreSeen k vs → goods r k vs
  in_goods k [] i = tt
  in_goods k (v ∷ vs) i = (left_in (in_value v) (in_values vs) k.sets i, in_goods k vs (right_in (in_value v) (in_values vs) k.sets i))

  named_in : (k : Seen owner base) (ps : List (Name × Value)) → named_goods r k ps → AreSeen k (map (λ n. n.1) ps)
  named_in k [] h = none_in k.sets
  named_in k (p ∷ ps) h = both_in (in_value p.1) (in_values (map (λ n. n.1) ps)) k.sets h.0 (named_in k ps h.1)

  -- ---- from a state to the whole

  work_gives : {A : Type 0} (P : Seen owner base → A → Type 0) (k : Seen owner base) (u : W) (d : Result (A × State) Kind)
      → AreIn (in_work u) k.sets → After P k d
      → Gives r P k (with_work u d)
  work_gives P k u (Ok p) i h = (h.0, h.1, record { state = h.2; work = through (in_work u) k.sets h.0.sets i h.1 }, h.3)
  work_gives P k u (Err e) i h = tt

  state_gives : {A : Type 0} (P : Seen owner base → A → Type 0) (k : Seen owner base) (f : Op A) (w : Whole W) → WholeHolds in_work k w
      → After P k (f w.state)
      → Gives r P k (of_state f w)
  state_gives P k f w hw h = work_gives P k w.work (f w.state) hw.work h

  kept_gives : {A : Type 0} (P : Seen owner base → A → Type 0) (k : Seen owner base) (o : Result A Kind) (w : Whole W) → WholeHolds in_work k w
      → IfGiven (P k) o
      → Gives r P k (kept o w)
  kept_gives P k (Ok a) w hw h = (k, same_in k.sets, hw, h)
  kept_gives P k (Err e) w hw h = tt

  goods_given : (k : Seen owner base) (d : Result (List Value × Whole W) Kind) → Gives r AreSeen k d → Gives r (goods r) k d
  goods_given k (Ok p) h = (h.0, h.1, h.2, in_goods h.0 p.0 h.3)
  goods_given k (Err e) h = tt

  state_put : (k : Seen owner base) (w : Whole W) (s : State) → WholeHolds in_work k w → StateHolds k s
      → WholeHolds in_work k (record w { state = s })
  state_put k w s hw hs = record { state = hs; work = hw.work }

  module _ (world : Linked) (place : Place W) (linked : LinkedKeeps base world) (owed : PlaceKeeps owner base in_work place) where
    -- ---- what the place has a part in

    target_gives : (k : Seen owner base) (o : Operator) (a b : Value) (t : Option ℕ) (w : Whole W) → IsSeen k a → IsSeen k b → WholeHolds in_work k w
        → Gives r IsSeen k (with_target world place o a b t w)
    target_gives k within a b (Some n) w i j hw = kept_gives IsSeen k (in_truth (place.offers n a w)) w hw (test_seen k (place.offers n a w))
    target_gives k not_within a b (Some n) w i j hw = kept_gives IsSeen k (in_opposite (place.offers n a w)) w hw (opposite_seen k (place.offers n a w))
    target_gives k o a b t w i j hw = state_gives IsSeen k (binary_of o a b) w hw (binary_after k o a b w.state hw.state i j)

    item_gives : (k : Seen owner base) (b i : Value) (t : Option ℕ) (w : Whole W) → IsSeen k b → WholeHolds in_work k w
        → Gives r IsSeen k (item_of world place b i t w)
    item_gives k b i (Some n) w h hw =
        kept_gives IsSeen k (place.item n i w) w hw (if_given (IsSeen k) (place.item n i w) (λ v e. owed.item k n i w v hw e))
    item_gives k b i None w h hw = state_gives IsSeen k (item b i) w hw (item_after k b i w.state hw.state h)

    field_seen : (k : Seen owner base) (l : Leaf) (x : List ℕ) (w : Whole W) → WholeHolds in_work k w → IfGiven (IsSeen k) (place.field l x w)
    field_seen k l x w hw = if_given (IsSeen k) (place.field l x w) (λ v e. owed.field k l x w v hw e)

    field_gives : (k : Seen owner base) (v : Value) (x : List ℕ) (l : Option Leaf) (w : Whole W) → IsSeen k v → WholeHolds in_work k w
        → Gives r IsSeen k (field_of world place v x l w)
    field_gives k v x (Some l) w h hw = kept_gives IsSeen k (place.field l x w) w hw (field_seen k l x w hw)
    field_gives k v x None w h hw = state_gives IsSeen k (field v x) w hw (field_after k v x w.state hw.state h)

    callee_seen : (k : Seen owner base) (o : Result Value Kind) → IfGiven (IsSeen k) o → IfGiven (good_callee r k) (plain_callee world place o)
    callee_seen k (Ok v) h = h
    callee_seen k (Err e) h = tt

    found_seen : (k : Seen owner base) (v : Value) (x : List ℕ) (f : Found) → IsSeen k v → IsFound k f → good_callee r k (as_callee world place v x f)
    found_seen k v x (plainly u) i h = h
    found_seen k v x (with_method m) i h = i

    find_gives : (k : Seen owner base) (v : Value) (x : List ℕ) (l : Option Leaf) (w : Whole W) → IsSeen k v → WholeHolds in_work k w
        → Gives r (good_callee r) k (find_of world place v x l w)
    find_gives k v x (Some l) w h hw =
        either (Gives r (good_callee r) k) (place.has_method l x) (Ok (meant.method v x, w)) (kept (plain_callee world place (place.field l x w)) w)
        (k, same_in k.sets, hw, h)
        (kept_gives (good_callee r) k (plain_callee world place (place.field l x w)) w hw (callee_seen k (place.field l x w) (field_seen k l x w hw)))
    find_gives k v x None w h hw =
        state_gives (good_callee r) k (λ s. then_do (find v x s) (λ f t. Ok (as_callee world place v x f, t))) w hw
        (then_after IsFound (good_callee r) k (find v x w.state) (λ f t. Ok (as_callee world place v x f, t)) (find_after k v x w.state hw.state h)
        (λ n up f t ht g. given_here (good_callee r) n (as_callee world place v x f) t ht (found_seen n v x f (through (in_value v) k.sets n.sets h up) g)))

    sign_gives : (k : Seen owner base) (o : Sign) (v : Value) (w : Whole W) → WholeHolds in_work k w → Gives r IsSeen k (sign_of world place o v w)
    sign_gives k negation v w hw = (k, same_in k.sets, hw, none_in k.sets)
    sign_gives k opposite v w hw = state_gives IsSeen k (negative v) w hw (negative_after k v w.state hw.state)

    -- ---- calls

    module _ (k : Seen owner base) (g : Given) (w : Whole W) (i : AreSeen k g.items) (j : AreSeen k g.values) (hw : WholeHolds in_work k w) where
      or_place_gives : (l : Leaf) (o : Option (Op Value)) → ((f : Op Value) → o ≡ Some f → After IsSeen k (f w.state))
          → Gives r IsSeen k (or_place world place l g o w)
      or_place_gives l (Some f) h = state_gives IsSeen k f w hw (h f refl)
      or_place_gives l None h = owed.call k l g w i j hw

      leaf_call_gives : (l : Leaf) → Gives r IsSeen k (leaf_call world place l g w)
      leaf_call_gives (plain.BuiltIn b) = or_place_gives (plain.BuiltIn b) (built_in_call b g) (λ f e. built_in_keeps k w.state hw.state b g i j f e)
      leaf_call_gives (plain.Provider p) = state_gives IsSeen k (instance_call p g) w hw (instance_keeps k w.state hw.state p g i j)
      leaf_call_gives (plain.Rule u) = owed.call k (plain.Rule u) g w i j hw
      leaf_call_gives _ = tt

      value_call_gives : (v : Value) → Gives r IsSeen k (value_call world place v g w)
      value_call_gives (value.Leaf l) = leaf_call_gives l
      value_call_gives _ = tt

      place_method_gives : (l : Option Leaf) (x : List ℕ) → Gives r IsSeen k (place_method world place l x g w)
      place_method_gives (Some l) x = owed.method k l x g w i j hw
      place_method_gives None x = tt

      method_gives : (m : Option Method) (v : Value) (x : List ℕ) → IsSeen k v → Gives r IsSeen k (method_or_place world place m v x g w)
      method_gives (Some m) v x h = state_gives IsSeen k (method_call m v g) w hw (method_keeps k w.state hw.state m v g h i)
      method_gives None v x h = place_method_gives (of_place v) x

      call_gives : (c : meant.Callee Value) → good_callee r k c → Gives r IsSeen k (call_of world place c g w)
      call_gives (meant.plain v) h = value_call_gives v
      call_gives (meant.method v x) h = method_gives (shape_method (shape w.state.heap v) x) v x h

    -- ---- names of linked files

    name_seen : (k : Seen owner base) (f n : ℕ) → IfSome (IsSeen k) (world.names f n)
    name_seen k f n = if_some (IsSeen k) (world.names f n) (λ v e. through (in_value v) base k.sets (linked.names f n v e) k.given)

    asked_seen : (k : Seen owner base) (f : ℕ) (t x : List ℕ) → IfSome (IsSeen k) (world.asked f t x)
    asked_seen k f t x = if_some (IsSeen k) (world.asked f t x) (λ v e. through (in_value v) base k.sets (linked.asked f t x v e) k.given)

    -- ---- all of them

    each_keeps : EachKeeps r (language world place)
    each_keeps = record {
      number = λ k n. none_in k.sets;
      string = λ k t. none_in k.sets;
      none = λ k. none_in k.sets;
      predeclared = predeclared_seen;
      tick = λ k w hw. state_gives whatever k tick w hw (tick_after k w.state hw.state);
      binary = λ k o a b w i j hw. target_gives k o a b (target_of b) w i j hw;
      sign = λ k o a w i hw. sign_gives k o a w hw;
      increase = λ k a b w i j hw. state_gives IsSeen k (add_in_place a b) w hw (add_in_place_after k a b w.state hw.state i j);
      field = λ k v x w i hw. field_gives k v x (of_place v) w i hw;
      item = λ k a b w i j hw. item_gives k a b (target_of a) w i hw;
      set_item = λ k a b c w i j l hw. state_gives whatever k (set_item a b c) w hw (set_item_after k a b c w.state hw.state l);
      new_list = λ k vs w h hw. state_gives IsSeen k (new_list vs) w hw (new_list_after k vs w.state hw.state (goods_in k vs h));
      new_tuple = λ k vs w h hw. state_gives IsSeen k (new_tuple vs) w hw (new_tuple_after k vs w.state hw.state (goods_in k vs h));
      collect = λ k a b w i j hw. state_gives whatever k (collect a b) w hw (collect_after k a b w.state hw.state j);
      new_dict = λ k w hw. state_gives IsSeen k new_dict w hw (new_cell_after k w.state (cell.Dict [] 0) 0 hw.state (none_in k.sets));
      enter = λ k a b c w i j l hw. state_gives whatever k (enter a b c) w hw (enter_after k a b c w.state hw.state l);
      keep = λ k a b c w i j l hw. state_gives whatever k (keep a b c) w hw (keep_after k a b c w.state hw.state l);
      begin = λ k a w i hw. goods_given k (of_state (begin a) w) (state_gives AreSeen k (begin a) w hw (begin_after k a w.state hw.state i));
      end = λ k a w i hw. state_put k w (ended a w.state) hw (ended_holds k a w.state hw.state);
      parts = λ k a w i hw. goods_given k (of_state (parts a) w) (state_gives AreSeen k (parts a) w hw (parts_after k a w.state hw.state i));
      global = λ k f n w hw. state_gives IsSeen k (global world f n) w hw (global_after world k f n w.state hw.state (name_seen k f n));
      set_global = λ k f n a w i hw. state_put k w (set_global f n a w.state) hw (set_global_holds k f n a w.state hw.state i);
      set_loaded = λ k f n a w i hw. state_put k w (set_loaded f n a w.state) hw (set_loaded_holds k f n a w.state hw.state i);
      loaded = λ k f t x w hw. state_gives IsSeen k (load world f t x) w hw (load_after world k f t x w.state hw.state (asked_seen k f t x));
      define = λ k f x vs w h hw. state_gives IsSeen k (define (made_id f) x vs) w hw (define_after k (made_id f) x vs w.state hw.state (goods_in k vs h));
      defaults = λ k f w hw. in_goods k (defaults world (made_id f) w.state)
          (defaults_seen world k (made_id f) w.state hw.state (through (in_values (world.defaults (made_id f))) base k.sets (linked.defaults (made_id f)) k.given));
      find = λ k a x w i hw. find_gives k a x (of_place a) w i hw;
      call = λ k c a w h ha hw. call_gives k (given_of a) w (goods_in k a.items ha.0) (named_in k a.named ha.1) hw c h;
    }

  pub operations_keep : OperationsKeep owner base in_work
  operations_keep world place linked owed = each_keeps world place linked owed
