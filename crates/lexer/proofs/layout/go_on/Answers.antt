use Rattle.std.proofs.Common.{◌≡◌, ◌+◌, [], ◌∷◌, sym, ap, ◌∙◌, Err, if◌then◌else◌}
use Rattle.std.proofs.lemmas.Result.{IfOk-weaker}
use Rattle.lexer.specs.declared.fault.ParseStop.TheVariants.{Fault}
use Rattle.lexer.specs.Scan.{preceded}
use Rattle.lexer.specs.Seen.{seen}
use Rattle.lexer.specs.Layout.{turn, line_starts}
use Rattle.lexer.proofs.ScanLemmas.{preceded_more}
use Rattle.lexer.proofs.LayoutLemmas.{behind_token, fault_at_token}
use Rattle.lexer.proofs.layout.go_on.Goals as goal

pub returns-in-Err-clause-fault : goal.returns-in-Err-clause-fault
returns-in-Err-clause-fault c text rest f e =
    let t = c.args.token in
    let same : c.in-Err.stop ≡ Fault f = cc in
    let found = c.in-Err.ensures.fault f (ap Err same) in (
      ap (preceded c.args.starts.now.items)
          (fault_at_token c.args.place f.line c.args.layout.now (seen text t) rest
          (ap (λ m. turn c.args.layout.now m t.line t.column) (sym (c.mark.ensures text)) ∙ found.0)),
      found.1,
    )

pub returns-clause-value : goal.returns-clause-value
returns-clause-value c =
    let t = c.args.token in
    let olds = c.args.starts.now.items in
    let found = c.in-Ok.ensures.value in
    IfOk-weaker c.note.result _ _
    (λ u noted text rest.
    let tail = line_starts (c.args.place + 1) c.turn.new.self rest in
    ap (λ ps. preceded ps tail) noted
    ∙ sym (preceded_more olds (if c.in-Ok.begins then c.args.place ∷ [] else []) tail)
    ∙ ap (λ b. preceded olds (preceded (if b then c.args.place ∷ [] else []) tail)) found.0
    ∙ ap (preceded olds)
    (sym (behind_token c.args.place c.args.layout.now c.turn.new.self (seen text t) rest
    (ap (λ m. turn c.args.layout.now m t.line t.column) (sym (c.mark.ensures text)) ∙ found.1))))
    c.note.ensures.value
