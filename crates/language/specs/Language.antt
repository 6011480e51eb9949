-- The record of operations over which files have their meaning: the operations on the state of an
-- evaluation. (docs/PROFILE.md, "Operators" and "Predeclared names".)
use Rattle.std.specs.Prelude.{ℕ, pos, Bool, true, false, not, List, map, Option, Some, None}
use Rattle.std.specs.Prelude.{option_map, Result, Ok, Err, if◌then◌else◌}
use Rattle.numbers.specs.declared.order.Comparison.TheVariants as op
use Rattle.grammar.specs.Tree.{Operator, either, both, equal, not_equal, less, greater, less_equal}
use Rattle.grammar.specs.Tree.{greater_equal, within, not_within, add, subtract, multiply, divide}
use Rattle.grammar.specs.Tree.{remainder, Sign, negation, opposite}
use Rattle.program_tree.specs.declared.names.Predeclared.{Predeclared}
use Rattle.program_tree.specs.declared.names.Predeclared.TheVariants as name
use Rattle.meaning.specs.Operations as meant
use Rattle.values.specs.Shape.{shape}
use Rattle.leaves.specs.declared.leaf.Leaf.{Leaf}
use Rattle.leaves.specs.declared.leaf.Leaf.TheVariants as plain
use Rattle.leaves.specs.declared.leaf.BuiltIn.TheVariants as built_in
use Rattle.leaves.specs.declared.leaf.Object.TheVariants as object
use Rattle.leaves.specs.declared.leaf.MadeId.{MadeId}
use Rattle.values.specs.declared.value.Value.{Value}
use Rattle.values.specs.declared.value.Value.TheVariants as value
use Rattle.ticks.specs.declared.ticks.Kind.{Kind}
use Rattle.ticks.specs.declared.ticks.Kind.TheVariants as kind
use Rattle.operations.specs.declared.arithmetic.Arithmetic.TheVariants as arithmetic
use Rattle.operations.specs.declared.method.Method.{Method}
use Rattle.operations.specs.States.{Op, then_do, tick}
use Rattle.operations.specs.Making.{none, truth, number, text, new_list, new_tuple, new_dict}
use Rattle.operations.specs.Making.{collect, enter, keep}
use Rattle.operations.specs.Truth.{truth_of}
use Rattle.operations.specs.Equality.{equals}
use Rattle.operations.specs.Strings.{member}
use Rattle.operations.specs.Operators.{plus, add_in_place, calculate, negative, compare}
use Rattle.operations.specs.Items.{item}
use Rattle.operations.specs.Changes.{set_item}
use Rattle.operations.specs.Walks.{begin, ended, parts}
use Rattle.operations.specs.Names.{Linked, global, set_global, set_loaded, load, define, defaults}
use Rattle.operations.specs.Names.{function_of}
use Rattle.operations.specs.Fields.{Found, plainly, with_method, shape_method, field, find}
use Rattle.operations.specs.Arguments.{Given}
use Rattle.operations.specs.Instances.{default_info}
use Rattle.operations.specs.Calls.{built_in_call, instance_call, method_call}
use Rattle.language.specs.Place.{Whole, Does, Place, of_state, kept}

-- the kinds of the faults that evaluation finds itself
abbrev pub refusal_kind : meant.Refusal → Kind
refusal_kind meant.unset = kind.Unset
refusal_kind meant.wrong_type = kind.Wrong
refusal_kind meant.arity = kind.Arity
refusal_kind meant.recursion = kind.Recursion
refusal_kind meant.deep = kind.Deep

-- what each file finds bound
abbrev pub predeclared_value : Predeclared → Value
predeclared_value name.NoneValue = none
predeclared_value name.TrueValue = truth true
predeclared_value name.FalseValue = truth false
predeclared_value name.LenFunction = value.Leaf (plain.BuiltIn built_in.Len)
predeclared_value name.StrFunction = value.Leaf (plain.BuiltIn built_in.Str)
predeclared_value name.RangeFunction = value.Leaf (plain.BuiltIn built_in.Range)
predeclared_value name.ListFunction = value.Leaf (plain.BuiltIn built_in.List)
predeclared_value name.FailFunction = value.Leaf (plain.BuiltIn built_in.Fail)
predeclared_value name.DepsetFunction = value.Leaf (plain.BuiltIn built_in.Depset)
predeclared_value name.ProviderFunction = value.Leaf (plain.BuiltIn built_in.Provider)
predeclared_value name.RuleFunction = value.Leaf (plain.BuiltIn built_in.Rule)
predeclared_value name.AttrModule = value.Leaf (plain.Object object.Attr)
predeclared_value name.DefaultInfo = value.Leaf (plain.Provider default_info)

-- the answer of a test, as True or False
abbrev pub as_truth : Op Bool → Op Value
as_truth f s = then_do (f s) (λ b t. Ok (truth b, t))

-- the opposite of a test's answer, as True or False
abbrev pub as_opposite : Op Bool → Op Value
as_opposite f s = then_do (f s) (λ b t. Ok (truth (not b), t))

-- the operators of two values, where the right side is no target; `and` and `or` aren't among them
abbrev pub binary_of : Operator → Value → Value → Op Value
binary_of equal a b s = as_truth (equals a b) s
binary_of not_equal a b s = as_opposite (equals a b) s
binary_of less a b s = as_truth (compare op.Below a b) s
binary_of less_equal a b s = as_truth (compare op.AtMost a b) s
binary_of greater a b s = as_truth (compare op.Above a b) s
binary_of greater_equal a b s = as_truth (compare op.AtLeast a b) s
binary_of within a b s = as_truth (member a b) s
binary_of not_within a b s = as_opposite (member a b) s
binary_of add a b s = plus a b s
binary_of subtract a b s = calculate arithmetic.Minus a b s
binary_of multiply a b s = calculate arithmetic.Times a b s
binary_of divide a b s = calculate arithmetic.FloorDiv a b s
binary_of remainder a b s = calculate arithmetic.Modulo a b s
binary_of either a b s = Err kind.Wrong
binary_of both a b s = Err kind.Wrong

-- the target that a leaf is, if it is one
abbrev pub leaf_target : Leaf → Option ℕ
leaf_target (plain.Target n) = Some n
leaf_target _ = None

-- the leaf that a value is, if it is one
abbrev pub leaf_of : Value → Option Leaf
leaf_of (value.Leaf l) = Some l
leaf_of _ = None

-- the target that a value is, if it is one
abbrev pub target_of : Value → Option ℕ
target_of (value.Leaf l) = leaf_target l
target_of _ = None

-- what has the fields of its place: a target, or `attr`, `ctx` and the parts of `ctx`
abbrev pub place_leaf : Leaf → Option Leaf
place_leaf (plain.Target n) = Some (plain.Target n)
place_leaf (plain.Object o) = Some (plain.Object o)
place_leaf _ = None

-- the same, of a value
abbrev pub of_place : Value → Option Leaf
of_place (value.Leaf l) = place_leaf l
of_place _ = None

-- the arguments of a call, with their names and their values apart
abbrev pub given_of : meant.Arguments Value → Given
given_of a =
    record { items = a.items; names = map (λ n. n.0) a.named; values = map (λ n. n.1) a.named }

-- the function of this number in a module
abbrev pub function_id : MadeId → meant.FunctionId
function_id id = record { file = id.«module»; number = id.number }

-- and the other way round
abbrev pub made_id : meant.FunctionId → MadeId
made_id f = record { «module» = f.file; number = f.number }

-- an answer as True or False, or its fault
abbrev pub in_truth : Result Bool Kind → Result Value Kind
in_truth (Ok b) = Ok (truth b)
in_truth (Err k) = Err k

-- the opposite of an answer, or its fault
abbrev pub in_opposite : Result Bool Kind → Result Value Kind
in_opposite (Ok b) = Ok (truth (not b))
in_opposite (Err k) = Err k

module _ {W : Type 0} (world : Linked) (place : Place W) where
  -- of a target, only `P in t` and `P not in t` are its place's
  abbrev pub with_target : Operator → Value → Value → Option ℕ → Does W Value
  with_target within p t (Some n) w = kept (in_truth (place.offers n p w)) w
  with_target not_within p t (Some n) w = kept (in_opposite (place.offers n p w)) w
  with_target o a b _ w = of_state (binary_of o a b) w

  -- `t[P]` of a target is its place's, and the item of any other value is the language's
  abbrev pub item_of : Value → Value → Option ℕ → Does W Value
  item_of t i (Some n) w = kept (place.item n i w) w
  item_of b i None w = of_state (item b i) w

  -- a field of a target or of an object is its place's, and that of any other value is the
  -- language's
  abbrev pub field_of : Value → List ℕ → Option Leaf → Does W Value
  field_of v x (Some l) w = kept (place.field l x w) w
  field_of v x None w = of_state (field v x) w

  -- what `v.x(..)` calls, by what was found as `x`: that value, or that method of `v`
  abbrev pub as_callee : Value → List ℕ → Found → meant.Callee Value
  as_callee v x (plainly u) = meant.plain u
  as_callee v x (with_method m) = meant.method v x

  -- the value of a field is called, unless there is a fault
  abbrev pub plain_callee : Result Value Kind → Result (meant.Callee Value) Kind
  plain_callee (Ok v) = Ok (meant.plain v)
  plain_callee (Err k) = Err k

  -- what `v.x(..)` calls; where `v` is a target or an object, its place says it
  abbrev pub find_of : Value → List ℕ → Option Leaf → Does W (meant.Callee Value)
  find_of v x (Some l) w =
      if place.has_method l x then Ok (meant.method v x, w)
      else kept (plain_callee (place.field l x w)) w
  find_of v x None w = of_state (λ s. then_do (find v x s) (λ f t. Ok (as_callee v x f, t))) w

  -- the call of a built-in that the language knows, and else one of the place
  abbrev pub or_place : Leaf → Given → Option (Op Value) → Does W Value
  or_place l g (Some f) w = of_state f w
  or_place l g None w = place.call l g w

  -- what can be called: a built-in function, a provider, a rule
  abbrev pub leaf_call : Leaf → Given → Does W Value
  leaf_call (plain.BuiltIn b) g w = or_place (plain.BuiltIn b) g (built_in_call b g) w
  leaf_call (plain.Provider p) g w = of_state (instance_call p g) w
  leaf_call (plain.Rule r) g w = place.call (plain.Rule r) g w
  leaf_call _ g w = Err kind.Wrong

  -- a call of a value; what can't be called is `type`
  abbrev pub value_call : Value → Given → Does W Value
  value_call (value.Leaf l) g w = leaf_call l g w
  value_call _ g w = Err kind.Wrong

  -- a method of an object is its place's
  abbrev pub place_method : Option Leaf → List ℕ → Given → Does W Value
  place_method (Some l) x g w = place.method l x g w
  place_method None x g w = Err kind.Name

  -- a method that the language knows, and else one of the place
  abbrev pub method_or_place : Option Method → Value → List ℕ → Given → Does W Value
  method_or_place (Some m) v x g w = of_state (method_call m v g) w
  method_or_place None v x g w = place_method (of_place v) x g w

  -- a call of a value, or of a method of a value
  abbrev pub call_of : meant.Callee Value → Given → Does W Value
  call_of (meant.plain v) g w = value_call v g w
  call_of (meant.method v x) g w = method_or_place (shape_method (shape w.state.heap v) x) v x g w

  -- `not v` and `-v`
  abbrev pub sign_of : Sign → Value → Does W Value
  sign_of negation v w = Ok (truth (not (truth_of w.state v)), w)
  sign_of opposite v w = of_state (negative v) w

  -- the operations of the language
  abbrev pub language : meant.Operations (Whole W) Value Kind
  language = record {
    refusal = refusal_kind;
    number = λ n. number (pos n);
    string = text;
    none = none;
    predeclared = predeclared_value;
    truth = λ w v. truth_of w.state v;
    tick = of_state tick;
    binary = λ o a b. with_target o a b (target_of b);
    sign = sign_of;
    increase = λ a b. of_state (add_in_place a b);
    field = λ v x. field_of v x (of_place v);
    item = λ b i. item_of b i (target_of b);
    set_item = λ b i v. of_state (set_item b i v);
    new_list = λ vs. of_state (new_list vs);
    new_tuple = λ vs. of_state (new_tuple vs);
    collect = λ l v. of_state (collect l v);
    new_dict = of_state new_dict;
    enter = λ d k v. of_state (enter d k v);
    keep = λ d k v. of_state (keep d k v);
    begin = λ v. of_state (begin v);
    end = λ v w. record w { state = ended v w.state };
    parts = λ v. of_state (parts v);
    global = λ f n. of_state (global world f n);
    set_global = λ f n v w. record w { state = set_global f n v w.state };
    set_loaded = λ f n v w. record w { state = set_loaded f n v w.state };
    loaded = λ f m x. of_state (load world f m x);
    define = λ f x vs. of_state (define (made_id f) x vs);
    defaults = λ f w. defaults world (made_id f) w.state;
    function = λ v. option_map function_id (function_of v);
    find = λ v x. find_of v x (of_place v);
    call = λ c a. call_of c (given_of a);
  }
