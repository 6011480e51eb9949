use Rattle.std.proofs.Common.{codes}
use Rattle.std.proofs.lemmas.Str.Pattern.{ends_text}
use Rattle.workspace.proofs.file_kinds.is_module.Goals as goal

pub returns : goal.returns
returns c = ends_text c.ends_with.result (codes ".bzl") c.args.path.now c.ends_with.ensures.cases
