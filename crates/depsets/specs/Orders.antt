-- What the order of a depset asks.
use Rattle.std.specs.Prelude.{Bool, true, false, ◌&&◌}
use Rattle.depsets.specs.Rose.{Roses, none, more, label}
use Rattle.depsets.specs.Own.{Own}
use Rattle.depsets.specs.declared.depset.Order.{Order}
use Rattle.depsets.specs.declared.depset.Order.TheVariants.{Default, Postorder, Preorder}

-- Whether the direct elements come before the children's. The default order is postorder, which is
-- this project's choice: Bazel's documentation of depsets leaves it open.
abbrev pub is_preorder : Order → Bool
is_preorder Default = false
is_preorder Postorder = false
is_preorder Preorder = true

-- Whether a depset of the first order may have a child of the second (Bazel's documentation of
-- depsets, "Order": merging depsets of different orders is an error, but for the default).
abbrev pub fits : Order → Order → Bool
fits Default child = true
fits Postorder Preorder = false
fits Postorder child = true
fits Preorder Postorder = false
fits Preorder child = true

-- whether all children may stand below it
abbrev pub all_fit : Order → Roses Own → Bool
all_fit order none = true
all_fit order (more t ts) = fits order (label t).order && all_fit order ts
