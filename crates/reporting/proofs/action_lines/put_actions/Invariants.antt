use Rattle.std.proofs.Common.{◌≡◌, ◌++◌, drop, string_bytes}
use Rattle.depsets.specs.Listed.{walked}
use Rattle.reporting.specs.Seen.{action_lines}
use Rattle.reporting.proofs.action_lines.put_actions.Given as goal

abbrev pub invariant-loop-i : goal.invariant-loop-i
invariant-loop-i l =
    string_bytes l.out ++ action_lines walked (drop l.i l.tellings) (drop l.i l.actions) ≡ string_bytes l.fn.out ++ action_lines walked l.tellings l.actions
