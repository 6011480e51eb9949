-- Why a depset is refused.
use Rattle.std.specs.Prelude.{not, Option, Some, None, if◌then◌else◌, ltb}
use Rattle.depsets.specs.Rose.{Rose, node, depth}
use Rattle.depsets.specs.Own.{Own}
use Rattle.depsets.specs.Orders.{all_fit}
use Rattle.depsets.specs.Elements.{elements, is_uniform}
use Rattle.depsets.specs.declared.depset.DepsetError.{DepsetError}
use Rattle.depsets.specs.declared.depset.DepsetError.TheVariants.{Mixed, Order, Deep}
use Rattle.depsets.specs.declared.depset.TheConstants.{LEVELS}

-- The first reason to refuse the depset of this tree: elements of two types, at it or below it; a
-- child whose order is another, neither being the default; more than 1,000 levels. None where it is
-- made. (Bazel's documentation of depsets; the limit of levels is this project's own.)
abbrev pub refusal : Rose Own → Option DepsetError
refusal (node own ts) =
    if not (is_uniform (elements (node own ts))) then Some Mixed
    else (if not (all_fit own.order ts) then Some Order
    else (if ltb LEVELS (depth (node own ts)) then Some Deep else None))
