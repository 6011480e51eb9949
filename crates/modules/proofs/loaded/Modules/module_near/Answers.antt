use Rattle.modules.proofs.Outcomes.{found_there, found_nowhere}
use Rattle.modules.proofs.loaded.Modules.module_near.Goals as goal

pub returns-in-Some : goal.returns-in-Some
returns-in-Some g c =
    let k = c.self.inside in
    found_there k.paths k.values.items k.faults.items c.args.self.now c.self.view_is c.in-Some.ensures.paths c.self.invariant c.args.path.now c.in-Some.n c.number.result c.in-Some.ensures.value c.number.ensures c.index.result.now c.as_ref.result c.index.ensures
    c.as_ref.ensures.value

pub returns-in-None : goal.returns-in-None
returns-in-None g c = let k = c.self.inside in found_nowhere k.paths k.values.items k.faults.items c.args.self.now c.self.view_is c.args.path.now c.in-None.ensures.value
