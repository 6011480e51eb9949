-- Laws of answers.
use Rattle.std.proofs.Common.{ℕ, ◌≡◌, refl, subst, Result, Err}
use Rattle.lexer.specs.declared.fault.FaultKind.{FaultKind}
use Rattle.lexer.specs.declared.fault.SyntaxFault.{SyntaxFault}
use Rattle.lexer.specs.declared.fault.ParseStop.{ParseStop}
use Rattle.lexer.specs.declared.fault.ParseStop.TheVariants.{Fault}

-- the fault that is answered is the one that was made
pub told : {A B : Type 0} (meant : Result A ℕ) (line : ℕ) (kind : FaultKind) (f : SyntaxFault) (result : Result B ParseStop)
    → meant ≡ Err line → result ≡ Err (Fault (record { line = line; kind = kind })) → result ≡ Err (Fault f)
    → (meant ≡ Err f.line) × (f.kind ≡ kind)
told {A} {B} meant line kind f result m made e =
    let fault : SyntaxFault = record { line = line; kind = kind } in
    let same : fault ≡ f = cc in
    subst (λ (v : SyntaxFault). (meant ≡ Err v.line) × (v.kind ≡ kind)) same (m, refl)
