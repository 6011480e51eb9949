-- The elements of a depset: when two are the same, and which type they have.
use Rattle.std.specs.Prelude.{Bool, true, false, ◌&&◌, List, [], ◌∷◌, Option, Some, None}
use Rattle.std.specs.Prelude.{if◌then◌else◌}
use Rattle.std.specs.List.{list_all}
use Rattle.std.specs.Ordering.{int_eq}
use Rattle.std.specs.Str.{bytes_eq}
use Rattle.depsets.specs.Rose.{Rose, Roses}
use Rattle.depsets.specs.Own.{Own, own_direct}
use Rattle.depsets.specs.Flat.{walk, walks}
use Rattle.depsets.specs.declared.element.Element.{Element}
use Rattle.depsets.specs.declared.element.Element.TheVariants.{Text, Number, Truth, Label, File}
use Rattle.depsets.specs.declared.element.ElementType.{ElementType}
use Rattle.depsets.specs.declared.element.ElementType.TheVariants as kind

-- whether two bools are equal
abbrev pub same_truth : Bool → Bool → Bool
same_truth true true = true
same_truth false false = true
same_truth _ _ = false

-- Two elements are the same where their types and contents are: a File's content is its path and
-- its owner, a label's its text. So `True` and `1` are two elements, and so are a string and a
-- label.
-- (Starlark's specification, "Comparisons": values of different types are unequal.)
abbrev pub same_element : Element → Element → Bool
same_element (Text a) (Text b) = bytes_eq a b
same_element (Number a) (Number b) = int_eq a b
same_element (Truth a) (Truth b) = same_truth a b
same_element (Label a) (Label b) = bytes_eq a b
same_element (File a) (File b) = bytes_eq a.path b.path && bytes_eq a.owner b.owner
same_element _ _ = false

-- the type of an element: all elements of a depset have one (Bazel's documentation of depsets)
abbrev pub type_of : Element → ElementType
type_of (Text s) = kind.Text
type_of (Number n) = kind.Number
type_of (Truth b) = kind.Truth
type_of (Label s) = kind.Label
type_of (File f) = kind.File

-- whether two types are one
abbrev pub same_type : ElementType → ElementType → Bool
same_type kind.Text kind.Text = true
same_type kind.Number kind.Number = true
same_type kind.Truth kind.Truth = true
same_type kind.Label kind.Label = true
same_type kind.File kind.File = true
same_type _ _ = false

-- the elements at a depset and at all depsets below it, repeats kept
abbrev pub elements : Rose Own → List Element
elements d = walk own_direct true d

-- the elements at these depsets and below them, one depset after the other
abbrev pub elements_of : Roses Own → List Element
elements_of ds = walks own_direct true ds

-- the type of the first, if there is one
abbrev pub first_type : List Element → Option ElementType
first_type [] = None
first_type (e ∷ es) = Some (type_of e)

-- whether each has the type
abbrev pub all_of_type : ElementType → List Element → Bool
all_of_type t es = list_all (λ e. same_type t (type_of e)) es

-- whether all have one type
abbrev pub is_uniform : List Element → Bool
is_uniform [] = true
is_uniform (e ∷ es) = all_of_type (type_of e) es

-- whether all have one type, which is the known one where one is known
abbrev pub goes_on : Option ElementType → List Element → Bool
goes_on None es = is_uniform es
goes_on (Some t) es = all_of_type t es

-- the known type, or else that of the first
abbrev pub type_after : Option ElementType → List Element → Option ElementType
type_after None es = first_type es
type_after (Some t) es = Some t

-- The type of two groups of elements, whose types are given so far as they have elements: None
-- where the two types differ, and then the depset is refused as `Mixed`.
abbrev pub joined : Option ElementType → Option ElementType → Option (Option ElementType)
joined None next = Some next
joined (Some a) None = Some (Some a)
joined (Some a) (Some b) = if same_type a b then Some (Some a) else None
