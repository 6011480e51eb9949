use Rattle.std.proofs.Common.{rules}
use Rattle.grammar.specs.LineView.{form_of}
use Rattle.statements.proofs.line_forms.FormReader.simple_behind.Goals as goal

pub returns-in-Pass : goal.returns-in-Pass
returns-in-Pass c = let e = c.alone.ensures form_of in search rules

pub returns-in-Break : goal.returns-in-Break
returns-in-Break c = let e = c.alone-in-Break.ensures form_of in search rules

pub returns-in-Continue : goal.returns-in-Continue
returns-in-Continue c = let e = c.alone-in-Continue.ensures form_of in search rules
