use Rattle.std.proofs.Common.{◌≡◌, ◌++◌, take, flat_map, string_bytes}
use Rattle.reporting.specs.Lines.{spaced_label}
use Rattle.reporting.proofs.outcome_lines.put_labels.Given as goal

abbrev pub invariant-loop-label : goal.invariant-loop-label
invariant-loop-label l = string_bytes l.out ≡ string_bytes l.fn.out ++ flat_map spaced_label (take l.label-index l.labels)
