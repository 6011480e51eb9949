-- No labels are distinct ones.
use Rattle.std.specs.Prelude.{[]}
use Rattle.std.specs.List.{IsDistinct}
use Rattle.workspace.specs.Labels.{same_label}

pub none_distinct : IsDistinct same_label []
unfolding IsDistinct
none_distinct = tt
