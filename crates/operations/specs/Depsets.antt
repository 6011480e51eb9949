-- Depsets: the call that makes one, with the next serial of its owner, and its listing. (Bazel's
-- documentation of depsets; the types of elements, the order of the faults and the serials are this
-- project's own.)
use Rattle.std.specs.Prelude.{ℕ, ◌+◌, ◌^◌, nat_lt, List, [], ◌∷◌, ◌++◌, map, Option, Some, None}
use Rattle.std.specs.Prelude.{Result, Ok, Err, if◌then◌else◌, codes, bytes_eq}
use Rattle.depsets.specs.Rose.{Rose, node, roses}
use Rattle.depsets.specs.Own.{Own}
use Rattle.depsets.specs.Refusals.{refusal}
use Rattle.depsets.specs.Listed.{walked}
use Rattle.depsets.specs.declared.depset.Order.{Order}
use Rattle.depsets.specs.declared.depset.Order.TheVariants as order
use Rattle.depsets.specs.declared.depset.DepsetError.{DepsetError}
use Rattle.depsets.specs.declared.depset.DepsetError.TheVariants as refused
use Rattle.depsets.specs.declared.element.Element.{Element}
use Rattle.depsets.specs.declared.element.Element.TheVariants as element
use Rattle.values.specs.Shape.{Shape, key, atom, shape}
use Rattle.leaves.specs.declared.leaf.Leaf.{Leaf}
use Rattle.leaves.specs.declared.leaf.Leaf.TheVariants as plain
use Rattle.keys.specs.declared.key.Key.{Key}
use Rattle.keys.specs.declared.key.Key.TheVariants as index
use Rattle.values.specs.declared.value.Value.{Value}
use Rattle.values.specs.declared.value.Value.TheVariants as value
use Rattle.values.specs.declared.cells.Cell.{Cell}
use Rattle.ticks.specs.declared.ticks.Kind.{Kind}
use Rattle.ticks.specs.declared.ticks.Kind.TheVariants as kind
use Rattle.operations.specs.declared.state.State.{State}
use Rattle.operations.specs.States.{Op, then_give}
use Rattle.operations.specs.Reading.{string_in, sequence_in, depset_in, of_type}
use Rattle.operations.specs.Making.{new_list, truth, number, text}
use Rattle.operations.specs.Arguments.{Given, Parameter, Bound, optional, named_only, bound}

-- what may be an element of a depset: strings, whole numbers, bools, labels and Files. Here the
-- first three
abbrev pub key_element : Key → Element
key_element (index.Text t) = element.Text t
key_element (index.Number n) = element.Number n
key_element (index.Truth b) = element.Truth b

-- a label or a File as an element; no other leaf may be one
abbrev pub leaf_element : Leaf → Option Element
leaf_element (plain.Label t) = Some (element.Label t)
leaf_element (plain.File f) = Some (element.File f)
leaf_element _ = None

-- the element that a value is, by what it shows, if it may be one
abbrev pub element_in : Shape → Option Element
element_in (key k) = Some (key_element k)
element_in (atom l) = leaf_element l
element_in _ = None

-- one more of what is asked, behind the others; a value that is no such thing is `type`
abbrev pub put_last : {A : Type 0} → List A → Option A → Result (List A) Kind
put_last xs (Some x) = Ok (xs ++ x ∷ [])
put_last xs None = Err kind.Wrong

-- what values add to what is there, one after the other, up to the first fault
abbrev pub gathered : {B : Type 0} → (Value → B → Result B Kind) → List Value → B → Result B Kind
gathered f [] b = Ok b
gathered f (v ∷ vs) b = then_give (f v b) (λ c. gathered f vs c)

-- each of these as what is asked, or `type`
abbrev pub all_in : {A : Type 0} → (Shape → Option A) → List Cell → List Value
    → Result (List A) Kind
all_in f h vs = gathered (λ v xs. put_last xs (f (shape h v))) vs []

-- the items of a sequence, each as what is asked; of one that is missing none
abbrev pub parts_in : {A : Type 0} → (Shape → Option A) → List Cell → Option Value
    → Result (List A) Kind
parts_in f h None = Ok []
parts_in f h (Some v) = of_type (sequence_in (shape h v)) (all_in f h)

-- the orders of a depset by their names; any other text, and what is no string, is none of them
abbrev pub order_named : List ℕ → Option Order
order_named t =
    if bytes_eq t (codes "default") then Some order.Default else
    if bytes_eq t (codes "postorder") then Some order.Postorder else
    if bytes_eq t (codes "preorder") then Some order.Preorder else
    None

-- the order that a text names, if there is a text
abbrev pub order_text : Option (List ℕ) → Option Order
order_text (Some t) = order_named t
order_text None = None

-- an order that isn't one is `type`
abbrev pub order_in : List Cell → Option Value → Result Order Kind
order_in h None = Ok order.Default
order_in h (Some v) = of_type (order_text (string_in (shape h v))) Ok

-- the kind of the fault that a refused depset is; no definition refuses one for want of memory
abbrev pub refused_as : DepsetError → Kind
refused_as refused.Mixed = kind.Wrong
refused_as refused.Order = kind.Order
refused_as refused.Deep = kind.Deep
refused_as refused.NoMemory = kind.Wrong

-- the depset of these parts, with the owner of the state and the next serial
abbrev pub next_depset : Order → List Element → List (Rose Own) → State → Rose Own
next_depset o es ds s =
    node
    (record { id = record { owner = s.owner; serial = s.depsets + 1 }; order = o; direct = es })
    (roses ds)

-- it is counted; where there is no next serial it is `large`
abbrev pub numbered : Option DepsetError → Rose Own → Op Value
numbered (Some e) d s = Err (refused_as e)
numbered None d s =
    if nat_lt (s.depsets + 1) (2 ^ 64)
    then Ok (value.Leaf (plain.Depset d), record s { depsets = s.depsets + 1 })
    else Err kind.Large

-- refused by the first of `type`, for elements of two types, `order`, `deep` and `large`
abbrev pub new_depset : Order → List Element → List (Rose Own) → Op Value
new_depset o es ds s = numbered (refusal (next_depset o es ds s)) (next_depset o es ds s) s

-- depset(direct = [], order = "default", *, transitive = [])
abbrev pub depset_parameters : List Parameter
depset_parameters =
    optional (codes "direct") ∷ optional (codes "order") ∷ named_only (codes "transitive") ∷ []

-- what the call of `depset` is given, once its types are known
pub record Parts : Type 0 where
  pub direct : List Element
  pub order : Order
  pub transitive : List (Rose Own)

-- what the arguments of `depset` are, tested in the order elements, order, transitive depsets
abbrev pub parts_of : List Cell → Option Value → Option Value → Option Value → Result Parts Kind
parts_of h es o ds =
    then_give (parts_in element_in h es)
    (λ xs. then_give (order_in h o) (λ p. then_give (parts_in depset_in h ds) (λ ys.
    Ok (record { direct = xs; order = p; transitive = ys }))))

-- the depset of what was given, or the fault of the arguments
abbrev pub made_of : Result Parts Kind → Op Value
made_of (Ok p) s = new_depset p.order p.direct p.transitive s
made_of (Err k) s = Err k

-- the depset, once it is known what each parameter got
abbrev pub depset_of : Option Value → Option Value → Option Value → Op Value
depset_of es o ds s = made_of (parts_of s.heap es o ds) s

-- the call of `depset` with what each parameter got
abbrev pub depset_with : Result Bound Kind → Op Value
depset_with (Ok (es ∷ o ∷ ds ∷ [])) s = depset_of es o ds s
depset_with (Ok _) s = Err kind.Arity
depset_with (Err k) s = Err k

-- the call of `depset`
abbrev pub depset : Given → Op Value
depset g s = depset_with (bound depset_parameters g) s

-- an element as a value
abbrev pub element_value : Element → Value
element_value (element.Text t) = text t
element_value (element.Number n) = number n
element_value (element.Truth b) = truth b
element_value (element.Label t) = value.Leaf (plain.Label t)
element_value (element.File f) = value.Leaf (plain.File f)

-- `t.to_list()`: a new list of the listing, by the walk that visits no id twice. Where one id has
-- one tree, as in all that evaluation makes, it has the first occurrences of the walk of the whole
-- tree.
abbrev pub to_list : Rose Own → Op Value
to_list d s = new_list (map element_value (walked d)) s
