use Rattle.std.proofs.Common.{◌≡◌, ◌&&◌, ◌++◌, List, ℕ, drop}
use Rattle.program_tree.specs.Names.{among, apart, distinct}
use Rattle.scopes.proofs.scope.bind_anew.Given as goal

-- the names that are left are new beside those that were bound as all are beside those from before; and with them the
-- same are bound in the end
abbrev pub invariant-loop-name : goal.invariant-loop-name
invariant-loop-name l =
    ((distinct l.names && apart l.names l.initial.before.keys) ≡ (distinct (drop l.name-index l.names) && apart (drop l.name-index l.names) l.before.keys))
    × ((x : List ℕ) → among x (drop l.name-index l.names ++ l.before.keys) ≡ among x (l.names ++ l.initial.before.keys))
