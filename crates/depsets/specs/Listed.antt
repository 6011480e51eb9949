-- The words of the listing's contracts.
use Rattle.std.specs.Prelude.{ℕ, Bool, cond, ◌&&◌, List, [], nat_eq}
use Rattle.std.specs.Str.{bytes_eq}
use Rattle.depsets.specs.Rose.{Rose, roses, children, label}
use Rattle.depsets.specs.Own.{Own, own_id, own_direct}
use Rattle.depsets.specs.Elements.{same_element}
use Rattle.depsets.specs.Flat.{IsCoherent as IsCoherentBy, nodes, flat as flat_by, work as work_by}
use Rattle.depsets.specs.Skip.{Walk, visit as visit_by, visits as visits_by, take_own as take_by}
use Rattle.depsets.specs.declared.depset.Id.{Id}
use Rattle.depsets.specs.declared.element.Element.{Element}
use Rattle.depsets.specs.Orders.{is_preorder}

-- whether two ids are one: their owners and their serials are equal
abbrev pub same_id : Id → Id → Bool
same_id a b = bytes_eq a.owner b.owner && nat_eq a.serial b.serial

-- Any two depsets at or below this one with one id are the same tree. It holds of what an
-- evaluation makes, since an owner gives each serial once.
abbrev pub IsCoherent : Rose Own → Type 0
IsCoherent d = IsCoherentBy own_id (nodes d)

-- The listing of a depset in its own order: the walk of the whole tree, and then of each element
-- its first occurrence. (Bazel's documentation of depsets, "Order"; that the order of the depset
-- that is asked rules the whole walk is this project's choice.)
abbrev pub flat : Rose Own → List Element
flat d = flat_by own_direct same_element (is_preorder (label d).order) d

-- 1 for the depset, and over the distinct ids at or below it the direct elements and the links to
-- children
abbrev pub work : Rose Own → ℕ
work d = work_by own_direct own_id same_id d

-- the walk that visits no id twice, at these types
abbrev pub visited : Bool → Rose Own → Walk Id Element → Walk Id Element
visited pre d s = visit_by own_id own_direct same_id same_element pre d s

-- that walk over these depsets, one after the other, with a step for each link
abbrev pub visited_all : Bool → List (Rose Own) → Walk Id Element → Walk Id Element
visited_all pre ds s = visits_by own_id own_direct same_id same_element pre (roses ds) s

-- the walk when it has taken these own elements of a depset, with a step for each
abbrev pub took : List Element → Own → Walk Id Element → Walk Id Element
took xs o s = take_by own_id own_direct same_id same_element (record o { direct = xs }) s

-- The walk when it has been through a depset: the own elements and then the children in preorder,
-- else the children first.
abbrev pub inside : Bool → Rose Own → Walk Id Element → Walk Id Element
inside pre d s =
    cond pre (visited_all pre (children d) (took (label d).direct (label d) s))
    (took (label d).direct (label d) (visited_all pre (children d) s))

-- The items of the walk that visits no id twice. Of a coherent depset they are its listing.
abbrev pub walked : Rose Own → List Element
walked d =
    (visited (is_preorder (label d).order) d (record { seen = []; items = []; steps = 1 })).items

-- the steps of that walk
abbrev pub walked_steps : Rose Own → ℕ
walked_steps d =
    (visited (is_preorder (label d).order) d (record { seen = []; items = []; steps = 1 })).steps
