use Rattle.std.proofs.Common.{◌≡◌, drop}
use Rattle.depsets.specs.Keys.{keep_all}
use Rattle.workspace.specs.Labels.{same_label}
use Rattle.analysis.specs.Keyed.{IsNoted}
use Rattle.analysis.proofs.noted.note_all.Given as goal

abbrev pub invariant-loop-label : goal.invariant-loop-label
invariant-loop-label l = record {
  labels : keep_all same_label l.labels (drop l.label-index l.all) ≡ keep_all same_label l.fn.labels l.all;
  noted : IsNoted l.labels l.seen;
}
