-- What an answer of a pass says of the definition that it computes. Want of memory may stand in
-- place of any answer. (This project's own.)
use Rattle.std.specs.Prelude.{◌≡◌, ℕ, Result, Err}
use Rattle.lexer.specs.declared.fault.FaultKind.{FaultKind}
use Rattle.lexer.specs.declared.fault.SyntaxFault.{SyntaxFault}
use Rattle.lexer.specs.declared.fault.ParseStop.{ParseStop}
use Rattle.lexer.specs.declared.fault.ParseStop.TheVariants.{Fault}

-- a fault that is answered is of this pass, and stands at the line that the definition gives
abbrev pub FaultsAt : {A B : Type 0} → FaultKind → Result A ℕ → Result B ParseStop → Type 0
FaultsAt kind meant result =
    (f : SyntaxFault) → result ≡ Err (Fault f) → (meant ≡ Err f.line) × (f.kind ≡ kind)
