use Rattle.lexer.specs.Fits.{Spells}
use Rattle.lexer.specs.Names.{spells_name}
use Rattle.lexer.specs.Tokens.{name}
use Rattle.lexer.proofs.NameLaws.{name_told}
use Rattle.declaring.proofs.Distinct.{alike}
use Rattle.declaring.proofs.names.is_name.Goals as goal

pub returns : goal.returns
returns c =
    let text = c.args.text.now in
    alike c.is_name.result (spells_name text) (Spells text (name text)) c.is_name.ensures (name_told text)
