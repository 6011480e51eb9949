-- When two depsets are the same tree: the same id, order and elements, and the same children (this
-- project's own notion; Bazel compares depsets by identity).
use Rattle.std.specs.Prelude.{Bool, true, false, ◌&&◌}
use Rattle.std.specs.Cmp.Lexicographic.{pointwise}
use Rattle.depsets.specs.Elements.{same_element}
use Rattle.depsets.specs.Listed.{same_id}
use Rattle.depsets.specs.Own.{Own}
use Rattle.depsets.specs.Rose.{Roses, node, none, more}
use Rattle.depsets.specs.declared.depset.Order.{Order}
use Rattle.depsets.specs.declared.depset.Order.TheVariants.{Default, Postorder, Preorder}
use Rattle.one_tree.specs.Found.{Set}

-- whether two depsets have the same order
abbrev pub same_order : Order → Order → Bool
same_order Default Default = true
same_order Postorder Postorder = true
same_order Preorder Preorder = true
same_order _ _ = false

-- whether they have the same of their own: id, order, and direct elements, one after the other
abbrev pub same_own : Own → Own → Bool
same_own a b =
    same_id a.id b.id && (same_order a.order b.order && pointwise same_element a.direct b.direct)

abbrev mutual
  -- whether two depsets are the same tree
  pub same_set : Set → Set → Bool
  same_set (node x ts) (node y us) = same_own x y && same_sets ts us

  -- whether the children of two are the same, one after the other
  pub same_sets : Roses Own → Roses Own → Bool
  same_sets none none = true
  same_sets (more t ts) (more u us) = same_set t u && same_sets ts us
  same_sets _ _ = false
