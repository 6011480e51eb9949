use Rattle.std.proofs.Common.{◌∙◌, sym, ap, Some}
use Rattle.modules.proofs.Founds.{seen_there, seen_nowhere}
use Rattle.modules.proofs.loaded.ModulesFind.found.Goals as goal

pub returns-in-Some-index : goal.returns-in-Some-index
returns-in-Some-index g c =
    let k = c.self.inside in
    ap Some (sym c.in-Some-index.is)
    ∙ sym (seen_there k.paths k.values.items k.faults.items c.args.self.now c.self.view_is c.in-Some.ensures.paths c.self.invariant c.args.path.now c.in-Some.n c.number.result c.in-Some.ensures.value c.number.ensures c.index.result.now c.index.ensures)

pub returns-in-None-index : goal.returns-in-None-index
returns-in-None-index g c =
    let k = c.self.inside in
    ap Some (sym c.in-None-index.is)
    ∙ sym (seen_there k.paths k.values.items k.faults.items c.args.self.now c.self.view_is c.in-Some.ensures.paths c.self.invariant c.args.path.now c.in-Some.n c.number.result c.in-Some.ensures.value c.number.ensures c.index.result.now c.index.ensures)

pub returns-in-None : goal.returns-in-None
returns-in-None g c = let k = c.self.inside in sym (seen_nowhere k.paths k.values.items k.faults.items c.args.self.now c.self.view_is c.args.path.now c.in-None.ensures.value)
