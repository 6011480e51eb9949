use Rattle.std.proofs.Common.{Some, None}
use Rattle.workspace.proofs.LabelLemmas.{last_segment-cut}
use Rattle.workspace.proofs.paths.last_segment.Goals as goal

pub returns-in-Some : goal.returns-in-Some
returns-in-Some c = last_segment-cut c.args.text.now (Some (c.in-Some.field-0-0, c.in-Some.last)) c.in-Some.ensures.cases

pub returns-in-None : goal.returns-in-None
returns-in-None c = last_segment-cut c.args.text.now None c.in-None.ensures.cases
