-- Sizes that are known before anything is made or copied. (docs/PROFILE.md, "Depth and size"; this
-- project's own.)
use Rattle.std.specs.Prelude.{Result, Ok, Err, if◌then◌else◌}
use Rattle.depsets.specs.Elements.{same_truth}
use Rattle.heap.specs.Cells.{after, joined_items}
use Rattle.values.specs.Shape.{Shape, key, items}
use Rattle.ticks.specs.declared.ticks.Kind.{Kind}
use Rattle.ticks.specs.declared.ticks.Kind.TheVariants as kind
use Rattle.operations.specs.declared.made.Made.{Made}
use Rattle.operations.specs.Making.{sequence}
use Rattle.operations.specs.Operators.{key_sum}

-- whether a change is made, or how it is refused
abbrev pub made_or_refused : {A : Type 0} → Result A Kind → Result (Unit {0}) Kind
made_or_refused (Ok a) = Ok tt
made_or_refused (Err k) = Err k

-- what two values add up to, or `large` where that is a list or a tuple of more items than one may
-- have
abbrev pub sum_within : Shape → Shape → Result Made Kind
sum_within (key j) (key k) = key_sum j k
sum_within (items j xs) (items k ys) =
    if same_truth j k then after (sequence j) (joined_items ys xs) else Err kind.Wrong
sum_within _ _ = Err kind.Wrong
