use Rattle.std.proofs.Common.{◌≡◌, drop}
use Rattle.std.specs.List.{flat_map}
use Rattle.depsets.specs.Keys.{keep_all}
use Rattle.targets.specs.Attributes.{labels_in}
use Rattle.workspace.specs.Labels.{same_label}
use Rattle.targets.specs.Resolving.{dependencies}
use Rattle.analysis.specs.Keyed.{IsNoted}
use Rattle.analysis.proofs.noted.dependencies.Given as goal

abbrev pub invariant-loop-value : goal.invariant-loop-value
invariant-loop-value l = record {
  labels : keep_all same_label l.labels (flat_map labels_in (drop l.value-index l.target.values)) ≡ dependencies l.target;
  noted : IsNoted l.labels l.seen;
}
