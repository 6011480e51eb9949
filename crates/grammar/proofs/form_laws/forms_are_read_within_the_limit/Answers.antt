use Rattle.grammar.proofs.WholeForms.{is_line_form}
use Rattle.grammar.proofs.form_laws.forms_are_read_within_the_limit.Goals as goal

pub returns : goal.returns
returns c = is_line_form
