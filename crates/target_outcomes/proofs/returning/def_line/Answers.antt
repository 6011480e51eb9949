use Rattle.std.proofs.Common.{◌∙◌, ap}
use Rattle.meaning.specs.Instructions.{code_line}
use Rattle.language.specs.Language.{function_id}
use Rattle.call_stack.specs.LinkedView.{codes_of}
use Rattle.target_outcomes.proofs.returning.def_line.Goals as goal

pub returns : goal.returns
returns c files e =
    c.def_line.ensures ∙ ap (code_line (codes_of c.args.codes.now)) c.function_id.ensures
    ∙ ap (λ cs. code_line cs (function_id c.args.id)) e
    ∙ c.functions_have_lines.ensures.kept files (function_id c.args.id)
