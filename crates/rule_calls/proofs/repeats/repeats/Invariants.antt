use Rattle.std.proofs.Common.{◌≡◌, false, take}
use Rattle.analysis.specs.Keyed.{IsNoted}
use Rattle.targets.specs.RuleCalls.{repeats}
use Rattle.rule_calls.proofs.repeats.repeats.Given as goal

abbrev pub invariant-loop-label : goal.invariant-loop-label
invariant-loop-label l = record {
  distinct : repeats (take l.label-index l.labels) ≡ false;
  noted : IsNoted (take l.label-index l.labels) l.seen;
}
