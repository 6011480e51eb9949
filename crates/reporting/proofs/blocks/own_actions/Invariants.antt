use Rattle.std.proofs.Common.{◌≡◌, ◌++◌, map, take}
use Rattle.reporting.specs.Answers.{owned_by}
use Rattle.reporting.proofs.blocks.own_actions.Given as goal

abbrev pub invariant-loop-action : goal.invariant-loop-action
invariant-loop-action l = l.owned.items ≡ l.fn.owned.items ++ map (owned_by l.text) (take l.action-index l.actions)
