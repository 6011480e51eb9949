use Rattle.std.proofs.Common.{◌≡◌, sym, ap, ◌∙◌, map, Err}
use Rattle.lexer.specs.declared.fault.FaultKind.TheVariants as kind
use Rattle.lexer.specs.declared.fault.SyntaxFault.{SyntaxFault}
use Rattle.lexer.specs.declared.fault.ParseStop.TheVariants.{Fault}
use Rattle.lexer.specs.Layout.{line_starts, at_start}
use Rattle.lexer.specs.Seen.{seen}
use Rattle.lexer.proofs.ReadingLemmas.{fault_of_characters, fault_of_tokens, fault_of_layout, read_as}
use Rattle.lexer.proofs.LineLemmas.{characters_small}
use Rattle.lexer.proofs.lines.read.Goals as goal

pub returns-in-Some-clause-fault : goal.returns-in-Some-clause-fault
returns-in-Some-clause-fault c f e =
    let made : SyntaxFault = record { line = c.in-Some.line; kind = kind.Character } in
    let same : made ≡ f = cc in
    fault_of_characters c.args.text.now c.in-Some.line c.in-Some.ensures ∙ ap Err same

pub returns-in-Err-clause-fault : goal.returns-in-Err-clause-fault
returns-in-Err-clause-fault c f e =
    let same : c.in-Err.stop ≡ Fault f = cc in
    let found = c.in-Err.ensures.fault f (ap Err same) in
    fault_of_tokens c.args.text.now f.line c.in-None.ensures found.0
    ∙ ap (λ k. Err (record { line = f.line; kind = k })) (sym found.1)

pub returns-in-Err-line_starts-clause-fault : goal.returns-in-Err-line_starts-clause-fault
returns-in-Err-line_starts-clause-fault c f e =
    let text = c.args.text.now in
    let same : c.in-Err-line_starts.stop ≡ Fault f = cc in
    let found = c.in-Err-line_starts.ensures.fault text f (ap Err same) in
    fault_of_layout text (map (seen text) c.in-Ok.tokens.items) f.line c.in-None.ensures c.in-Ok.ensures.value
    (ap (λ ts. line_starts 0 at_start (map (seen text) ts)) (sym c.as_slice.ensures.value) ∙ found.0)
    ∙ ap (λ k. Err (record { line = f.line; kind = k })) (sym found.1)

pub returns-clause-lines : goal.returns-clause-lines
returns-clause-lines c =
    let text = c.args.text.now in
    read_as text (map (seen text) c.in-Ok.tokens.items) c.in-Ok-line_starts.starts.items c.in-None.ensures c.in-Ok.ensures.value
    (ap (λ ts. line_starts 0 at_start (map (seen text) ts)) (sym c.as_slice.ensures.value) ∙ c.in-Ok-line_starts.ensures.value text)

pub invariant_of-result : goal.invariant_of-result
invariant_of-result c = characters_small c.args.text.now c.in-None.ensures
