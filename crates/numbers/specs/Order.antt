-- Comparison of whole numbers, and what `<`, `<=`, `>` and `>=` ask of an order.
-- (Starlark's specification, "Comparisons".)
use Rattle.std.specs.Prelude.{ℤ, Bool, true, false, if◌then◌else◌}
use Rattle.std.specs.Int.RustNames.{int_lt}
use Rattle.std.specs.declared.cmp.Ordering.{Ordering}
use Rattle.std.specs.declared.cmp.Ordering.TheVariants.{Less, Equal, Greater}
use Rattle.numbers.specs.declared.order.Comparison.{Comparison}
use Rattle.numbers.specs.declared.order.Comparison.TheVariants as op

-- how two numbers stand to one another
abbrev pub order_of : ℤ → ℤ → Ordering
order_of a b = if int_lt a b then Less else (if int_lt b a then Greater else Equal)

-- whether an order is what an operator asks for
abbrev pub passes : Comparison → Ordering → Bool
passes op.Below Less = true
passes op.Below Equal = false
passes op.Below Greater = false
passes op.AtMost Less = true
passes op.AtMost Equal = true
passes op.AtMost Greater = false
passes op.Above Less = false
passes op.Above Equal = false
passes op.Above Greater = true
passes op.AtLeast Less = false
passes op.AtLeast Equal = true
passes op.AtLeast Greater = true
