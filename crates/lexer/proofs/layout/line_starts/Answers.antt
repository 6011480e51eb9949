use Rattle.std.proofs.Common.{◌≡◌, ◌+◌, drop, map, sym, ap, ◌∙◌, Ok, Err, append-nil}
use Rattle.std.proofs.lemmas.List.{drop_all, drop_more}
use Rattle.lexer.specs.declared.fault.ParseStop.TheVariants.{Fault}
use Rattle.lexer.specs.Scan.{preceded}
use Rattle.lexer.specs.Seen.{seen}
use Rattle.lexer.specs.Layout.{line_starts}
use Rattle.lexer.proofs.LayoutLemmas.{at_end}
use Rattle.lexer.proofs.layout.line_starts.Goals as goal

pub returns-in-Err-clause-fault : goal.returns-in-Err-clause-fault
returns-in-Err-clause-fault c text f e =
    let same : c.in-Err.stop ≡ Fault f = cc in
    let found = c.in-Err.ensures.fault text (map (seen text) (drop (c.loop-place.place + 1) c.args.tokens.now)) f (ap Err same) in (
      sym (c.loop-place.invariant text)
          ∙ ap (λ ts. preceded c.loop-place.starts.items (line_starts c.loop-place.place c.loop-place.layout (map (seen text) ts))) (drop_more c.args.tokens.now c.loop-place.place _ c.loop-place-test.true)
          ∙ found.0,
      found.1,
    )

pub returns-in-Err-end-clause-fault : goal.returns-in-Err-end-clause-fault
returns-in-Err-end-clause-fault c text f e =
    let same : c.in-Err-end.stop ≡ Fault f = cc in
    let found = c.in-Err-end.ensures.fault f (ap Err same) in
    let l = c.loop-place in (
      sym (l.invariant text)
          ∙ ap (λ ts. preceded l.starts.items (line_starts l.place l.layout (map (seen text) ts))) (drop_all l.place c.args.tokens.now c.loop-place-test.false)
          ∙ ap (preceded l.starts.items) (at_end l.place l.layout ∙ found.0),
      found.1,
    )

pub returns-clause-value : goal.returns-clause-value
returns-clause-value c text =
    let l = c.loop-place in
    sym (l.invariant text)
    ∙ ap (λ ts. preceded l.starts.items (line_starts l.place l.layout (map (seen text) ts))) (drop_all l.place c.args.tokens.now c.loop-place-test.false)
    ∙ ap (preceded l.starts.items) (at_end l.place l.layout ∙ c.in_default-end.ensures.value)
    ∙ ap Ok (append-nil l.starts.items)
