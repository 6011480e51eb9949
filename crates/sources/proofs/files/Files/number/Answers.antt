use Rattle.sources.proofs.Ordered.{number_in, no_number_in, not_listed_in}
use Rattle.sources.proofs.files.Files.number.Goals as goal

pub returns-in-Ok-clause-number : goal.returns-in-Ok-clause-number
returns-in-Ok-clause-number c =
    number_in c.self.inside.files.items c.args.self.now c.self.inside.paths.items c.deref.result.now c.args.path.now c.in-Ok.number c.self.view_is c.deref.ensures.value c.self.invariant c.in-Ok.ensures.bound c.in-Ok.ensures.ok

pub returns-in-Err-clause-number : goal.returns-in-Err-clause-number
returns-in-Err-clause-number c =
    no_number_in c.self.inside.files.items c.args.self.now c.self.inside.paths.items c.deref.result.now c.args.path.now c.in-Err.field-0 c.self.view_is c.deref.ensures.value c.self.invariant c.in-Err.ensures.position

pub returns-in-Err-clause-absent : goal.returns-in-Err-clause-absent
returns-in-Err-clause-absent c =
    not_listed_in c.self.inside.files.items c.args.self.now c.self.inside.paths.items c.deref.result.now c.args.path.now c.in-Err.field-0 c.self.view_is c.deref.ensures.value c.self.invariant c.in-Err.ensures.position
