use Rattle.std.proofs.Common.{◌∙◌, ap, arith, reverse, sym}
use Rattle.program_tree.specs.Names.{slot_of}
use Rattle.scopes.proofs.LevelLemmas.{none_bound}
use Rattle.scopes.proofs.levels.Levels.slot.Goals as goal

pub returns-then-len-eq0 : goal.returns-then-len-eq0
returns-then-len-eq0 c =
    sym (none_bound c.args.name.now (reverse c.self.inside.starts.items) c.self.inside.bound.items c.self.invariant.0 (omega (arith, c.len.ensures, c.if-len-eq0.true)))
    ∙ ap (slot_of c.args.name.now) c.self.view_is
