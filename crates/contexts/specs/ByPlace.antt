-- `ctx.files` by the place of an attribute. (Bazel documentation, "ctx"; docs/PROFILE.md,
-- "Fields".)
use Rattle.std.specs.Prelude.{ℕ, List, Result, slice_get}
use Rattle.depsets.specs.Listed.{walked}
use Rattle.ticks.specs.declared.ticks.Kind.{Kind}
use Rattle.values.specs.declared.value.Value.{Value}
use Rattle.targets.specs.Checks.{Dependency}
use Rattle.targets.specs.declared.target.Target.{Target}
use Rattle.contexts.specs.Fields.{files_or_name, labels_for}

-- what `ctx.files` gives for the attribute at a place among those of the rule
abbrev pub files_at : Target → List Dependency → ℕ → Result Value Kind
files_at t ds place = files_or_name walked ds (labels_for (slice_get t.values place))
