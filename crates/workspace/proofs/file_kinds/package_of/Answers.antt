use Rattle.std.proofs.Common.{Some, None}
use Rattle.workspace.proofs.LabelLemmas.{package_of-cut}
use Rattle.workspace.proofs.file_kinds.package_of.Goals as goal

pub returns-in-Some : goal.returns-in-Some
returns-in-Some c = package_of-cut c.args.path.now (Some (c.in-Some.folder, c.in-Some.field-0-1)) c.in-Some.ensures.cases

pub returns-in-None : goal.returns-in-None
returns-in-None c = package_of-cut c.args.path.now None c.in-None.ensures.cases
