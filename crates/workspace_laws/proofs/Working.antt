-- What each call and each method of a place keeps of its work, all operations of the language keep: any other leaves the work as it is.
use Rattle.std.proofs.Common.{ℕ, List, [], ◌∷◌, Option, Some, None, Result, Ok, Err}
use Rattle.grammar.specs.Tree.{Operator, within, not_within, Sign, negation, opposite}
use Rattle.meaning.specs.Operations as meant
use Rattle.meaning.specs.Functions.{Files}
use Rattle.meaning.specs.Calls.{top_meaning}
use Rattle.values.specs.Shape.{shape}
use Rattle.leaves.specs.declared.leaf.Leaf.{Leaf}
use Rattle.leaves.specs.declared.leaf.Leaf.TheVariants as plain
use Rattle.ticks.specs.declared.ticks.Kind.{Kind}
use Rattle.values.specs.declared.value.Value.{Value}
use Rattle.values.specs.declared.value.Value.TheVariants as value
use Rattle.operations.specs.Arguments.{Given}
use Rattle.operations.specs.Changes.{set_item}
use Rattle.operations.specs.Calls.{built_in_call, instance_call, method_call}
use Rattle.operations.specs.Fields.{shape_method, field, find}
use Rattle.operations.specs.Items.{item}
use Rattle.operations.specs.Making.{new_list, new_tuple, new_dict, collect, enter, keep}
use Rattle.operations.specs.Names.{Linked, global, load, define, defaults}
use Rattle.operations.specs.Operators.{add_in_place, negative}
use Rattle.operations.specs.States.{Op, then_do, tick}
use Rattle.operations.specs.Walks.{begin, parts}
use Rattle.operations.specs.declared.method.Method.{Method}
use Rattle.operations.specs.declared.state.State.{State}
use Rattle.keeping.specs.Kept.{Kept, goods, good_callee, Gives, anything}
use Rattle.keeping.specs.Owed.{EachKeeps}
use Rattle.keeping.proofs.Calls.{top_levels_keep}
use Rattle.language.specs.declared.whole.Whole.{Whole}
use Rattle.language.specs.Place.{Place, with_work, of_state, kept}
use Rattle.language.specs.Language.{binary_of, target_of, of_place, given_of, made_id, in_truth, in_opposite, with_target, item_of, field_of, as_callee, plain_callee, find_of, or_place, leaf_call, value_call, place_method, method_or_place, call_of, sign_of, language}
use Rattle.holding.proofs.Steps.{IfGiven, either}

-- what holds of the work of a place; of the state and of values nothing is asked
abbrev pub working : {W : Type 0} → (W → Type 0) → Kept (Whole W) Value
working P = record {
  World = Unit {0};
  grows = λ k l. Unit {0};
  same = λ k. tt;
  further = λ k l m f g. tt;
  holds = λ k w. P w.work;
  good = λ k v. Unit {0};
  stays = λ k l v f i. tt;
}

module _ {W : Type 0} (P : W → Type 0) where
  abbrev r : Kept (Whole W) Value
  r = working P

  -- what a call comes to, if it comes to a value
  abbrev pub Works : Result (Value × Whole W) Kind → Type 0
  Works = IfGiven (λ p. P p.1.work)

  -- the calls and the methods of a place keep it
  pub record PlaceWorks (place : Place W) : Type 0 where
    pub call : (l : Leaf) (g : Given) (w : Whole W) → P w.work → Works (place.call l g w)
    pub method : (l : Leaf) (x : List ℕ) (g : Given) (w : Whole W) → P w.work → Works (place.method l x g w)

  -- ---- every value is good

  value_good : (k : r.World) (v : Value) → r.good k v
  value_good k v = tt

  values_good : (k : r.World) (vs : List Value) → goods r k vs
  values_good k [] = tt
  values_good k (v ∷ vs) = (tt, values_good k vs)

  callee_good : (k : r.World) (c : meant.Callee Value) → good_callee r k c
  callee_good k (meant.plain v) = tt
  callee_good k (meant.method v x) = tt

  whatever : {A : Type 0} (k : r.World) (a : A) → Unit {0}
  whatever k a = tt

  -- ---- what is done to the state alone, and what is only read

  module _ {A : Type 0} (Q : r.World → A → Type 0) (all : (k : r.World) (a : A) → Q k a) (k : r.World) (w : Whole W) (h : P w.work) where
    did : (d : Result (A × State) Kind) → Gives r Q k (with_work w.work d)
    did (Ok p) = (k, tt, h, all k p.0)
    did (Err e) = tt

    does : (f : Op A) → Gives r Q k (of_state f w)
    does f = did (f w.state)

    reads : (o : Result A Kind) → Gives r Q k (kept o w)
    reads (Ok a) = (k, tt, h, all k a)
    reads (Err e) = tt

  worked : (k : r.World) (d : Result (Value × Whole W) Kind) → Works d → Gives r r.good k d
  worked k (Ok p) h = (k, tt, h, tt)
  worked k (Err e) h = tt

  module _ (world : Linked) (place : Place W) (owed : PlaceWorks place) (k : r.World) (w : Whole W) (h : P w.work) where
    -- ---- what the place has a part in

    target_gives : (o : Operator) (a b : Value) (t : Option ℕ) → Gives r r.good k (with_target world place o a b t w)
    target_gives within a b (Some n) = reads r.good value_good k w h (in_truth (place.offers n a w))
    target_gives not_within a b (Some n) = reads r.good value_good k w h (in_opposite (place.offers n a w))
    target_gives o a b t = does r.good value_good k w h (binary_of o a b)

    item_gives : (b i : Value) (t : Option ℕ) → Gives r r.good k (item_of world place b i t w)
    item_gives b i (Some n) = reads r.good value_good k w h (place.item n i w)
    item_gives b i None = does r.good value_good k w h (item b i)

    field_gives : (v : Value) (x : List ℕ) (l : Option Leaf) → Gives r r.good k (field_of world place v x l w)
    field_gives v x (Some l) = reads r.good value_good k w h (place.field l x w)
    field_gives v x None = does r.good value_good k w h (field v x)

    find_gives : (v : Value) (x : List ℕ) (l : Option Leaf) → Gives r (good_callee r) k (find_of world place v x l w)
    find_gives v x (Some l) =
        either (Gives r (good_callee r) k) (place.has_method l x) (Ok (meant.method v x, w)) (kept (plain_callee world place (place.field l x w)) w)
        (k, tt, h, tt)
        (reads (good_callee r) callee_good k w h (plain_callee world place (place.field l x w)))
    find_gives v x None = does (good_callee r) callee_good k w h (λ s. then_do (find v x s) (λ f t. Ok (as_callee world place v x f, t)))

    sign_gives : (o : Sign) (v : Value) → Gives r r.good k (sign_of world place o v w)
    sign_gives negation v = (k, tt, h, tt)
    sign_gives opposite v = does r.good value_good k w h (negative v)

    -- ---- calls

    module _ (g : Given) where
      or_place_gives : (l : Leaf) (o : Option (Op Value)) → Gives r r.good k (or_place world place l g o w)
      or_place_gives l (Some f) = does r.good value_good k w h f
      or_place_gives l None = worked k (place.call l g w) (owed.call l g w h)

      leaf_call_gives : (l : Leaf) → Gives r r.good k (leaf_call world place l g w)
      leaf_call_gives (plain.BuiltIn b) = or_place_gives (plain.BuiltIn b) (built_in_call b g)
      leaf_call_gives (plain.Provider p) = does r.good value_good k w h (instance_call p g)
      leaf_call_gives (plain.Rule u) = worked k (place.call (plain.Rule u) g w) (owed.call (plain.Rule u) g w h)
      leaf_call_gives _ = tt

      value_call_gives : (v : Value) → Gives r r.good k (value_call world place v g w)
      value_call_gives (value.Leaf l) = leaf_call_gives l
      value_call_gives _ = tt

      place_method_gives : (l : Option Leaf) (x : List ℕ) → Gives r r.good k (place_method world place l x g w)
      place_method_gives (Some l) x = worked k (place.method l x g w) (owed.method l x g w h)
      place_method_gives None x = tt

      method_gives : (m : Option Method) (v : Value) (x : List ℕ) → Gives r r.good k (method_or_place world place m v x g w)
      method_gives (Some m) v x = does r.good value_good k w h (method_call m v g)
      method_gives None v x = place_method_gives (of_place v) x

      call_gives : (c : meant.Callee Value) → Gives r r.good k (call_of world place c g w)
      call_gives (meant.plain v) = value_call_gives v
      call_gives (meant.method v x) = method_gives (shape_method (shape w.state.heap v) x) v x

  -- ---- all of them

  module _ (world : Linked) (place : Place W) (owed : PlaceWorks place) where
    each_works : EachKeeps r (language world place)
    each_works = record {
      number = λ k n. tt;
      string = λ k t. tt;
      none = λ k. tt;
      predeclared = λ k p. tt;
      tick = λ k w h. does (anything r) whatever k w h tick;
      binary = λ k o a b w i j h. target_gives world place owed k w h o a b (target_of b);
      sign = λ k o a w i h. sign_gives world place owed k w h o a;
      increase = λ k a b w i j h. does r.good value_good k w h (add_in_place a b);
      field = λ k v x w i h. field_gives world place owed k w h v x (of_place v);
      item = λ k a b w i j h. item_gives world place owed k w h a b (target_of a);
      set_item = λ k a b c w i j l h. does (anything r) whatever k w h (set_item a b c);
      new_list = λ k vs w i h. does r.good value_good k w h (new_list vs);
      new_tuple = λ k vs w i h. does r.good value_good k w h (new_tuple vs);
      collect = λ k a b w i j h. does (anything r) whatever k w h (collect a b);
      new_dict = λ k w h. does r.good value_good k w h new_dict;
      enter = λ k a b c w i j l h. does (anything r) whatever k w h (enter a b c);
      keep = λ k a b c w i j l h. does (anything r) whatever k w h (keep a b c);
      begin = λ k a w i h. does (goods r) values_good k w h (begin a);
      end = λ k a w i h. h;
      parts = λ k a w i h. does (goods r) values_good k w h (parts a);
      global = λ k f n w h. does r.good value_good k w h (global world f n);
      set_global = λ k f n a w i h. h;
      set_loaded = λ k f n a w i h. h;
      loaded = λ k f t x w h. does r.good value_good k w h (load world f t x);
      define = λ k f x vs w i h. does r.good value_good k w h (define (made_id f) x vs);
      defaults = λ k f w h. values_good k (defaults world (made_id f) w.state);
      find = λ k a x w i h. find_gives world place owed k w h a x (of_place a);
      call = λ k c a w i j h. call_gives world place owed k w h (given_of a) c;
    }

    -- so does the top level of a file
    pub top_works : (files : Files) (n : ℕ) (w : Whole W) → P w.work → Gives r r.good tt (top_meaning (language world place) files n w)
    top_works files n w h = top_levels_keep r (language world place) files n tt w each_works h
