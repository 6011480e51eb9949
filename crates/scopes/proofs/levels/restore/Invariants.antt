use Rattle.std.proofs.Common.{List, drop}
use Rattle.program_tree.specs.Names.{Name}
use Rattle.scopes.specs.ScopeView.{AreLevel}
use Rattle.scopes.proofs.LevelLemmas.{IsLeft}
use Rattle.scopes.proofs.levels.restore.Given as goal

-- each name that is left has what it has around the level
abbrev pub invariant-loop-bound : goal.invariant-loop-bound
invariant-loop-bound l = (ls : List (List Name)) → AreLevel l.initial.slots.entries l.level ls → IsLeft (drop l.bound-index l.level) l.slots.entries ls
