use Rattle.std.proofs.Common.{rules, ◌<◌, [], ◌∷◌}
use Rattle.shelves.proofs.Numbers.{pushes}
use Rattle.shelves.proofs.steal.StealShelfShelf.put.Goals as goal

pub push_as-requires-clause-pushes : goal.push_as-requires-clause-pushes
push_as-requires-clause-pushes c =
    let s = c.self.inside in
    let low : c.number.result < s.nodes = search rules in
    pushes _ s.nodes _ (c.number.result ∷ []) s.knows (search rules)
