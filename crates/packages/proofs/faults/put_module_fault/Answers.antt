use Rattle.std.proofs.Common.{◌∙◌, sym}
use Rattle.packages.proofs.Files.{no_fault, one_fault}
use Rattle.packages.proofs.faults.put_module_fault.Goals as goal

pub returns-then-is_some : goal.returns-then-is_some
returns-then-is_some c = λ w later are any e.
    no_fault w c.args.modules.now c.args.path.now c.module.result later c.args.rest.now are c.module.ensures c.args.faults.now.items (sym c.is_some.ensures ∙ c.if-is_some.true) e

pub returns-in_ok-push-in-Some : goal.returns-in_ok-push-in-Some
returns-in_ok-push-in-Some c = λ w later are any e.
    one_fault w c.args.modules.now c.args.path.now c.module.result later c.args.rest.now are c.module.ensures c.args.faults.now.items c.push.new.self.items c.in-Some.left.now c.in-Some.fault.now c.in_ok-share_fault-in-Some.field-0 _
    (sym c.is_some.ensures ∙ c.if-is_some.false) any e c.in-Some.ensures.cases.0 c.in_ok-share_fault-in-Some.ensures c.in_ok-push-in-Some.ensures.items
