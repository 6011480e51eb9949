use Rattle.std.proofs.Common.{◌∙◌, sym}
use Rattle.modules.proofs.Lookups.{found_lower, found_higher, found_none}
use Rattle.modules.proofs.known.Known.module_near.Goals as goal

pub returns-then-self-n : goal.returns-then-self-n
returns-then-self-n g c =
    let k = c.self.inside in
    found_lower k.paths.now k.heights.now k.below k.done.now c.args.self.now c.self.view_is c.in-Some.ensures.paths c.self.invariant c.args.path.now c.in-Some.n c.number-n.result c.in-Some.ensures.value c.number-n.ensures
    c.index-self-n.result c.as_ref.result c.if-self-n.true c.index-self-n.is (c.as_ref.ensures.value ∙ sym c.index-self-n.is)

pub returns-else-self-n : goal.returns-else-self-n
returns-else-self-n g c =
    let k = c.self.inside in
    found_higher k.paths.now k.heights.now k.below k.done.now c.args.self.now c.self.view_is c.in-Some.ensures.paths c.self.invariant c.args.path.now c.in-Some.n c.number-n.result c.in-Some.ensures.value c.number-n.ensures c.if-self-n.false

pub returns-in-None : goal.returns-in-None
returns-in-None g c =
    let k = c.self.inside in
    found_none k.paths.now k.heights.now k.below k.done.now c.args.self.now c.self.view_is c.args.path.now c.in-None.ensures.value
