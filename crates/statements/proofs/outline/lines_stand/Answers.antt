use Rattle.std.proofs.Common.{◌≡◌, ◌+◌, drop, sym, ap, ◌∙◌, Err}
use Rattle.std.proofs.lemmas.List.{drop_all, drop_more}
use Rattle.lexer.specs.declared.fault.ParseStop.TheVariants.{Fault}
use Rattle.statements.specs.Outlines.{pass}
use Rattle.statements.proofs.OutlineLemmas.{refused_there, goes_on_there, at_the_end}
use Rattle.statements.proofs.outline.lines_stand.Goals as goal

pub returns-in-Err-clause-fault : goal.returns-in-Err-clause-fault
returns-in-Err-clause-fault c f e =
    let same : c.in-Err.stop ≡ Fault f = cc in
    let found = c.in-Err.ensures.fault f (ap Err same) in
    let l = c.loop-place in (
      sym l.invariant
          ∙ ap (λ ls. pass ls l.blocks) (drop_more c.args.lines.now l.place _ c.loop-place-test.true)
          ∙ refused_there _ (drop (l.place + 1) c.args.lines.now) c.next_of-next.result l.blocks f.line c.next_of-next.ensures found.0,
      found.1,
    )

pub loop-place-preserved : goal.loop-place-preserved
loop-place-preserved c =
    let l = c.loop-place in
    sym (goes_on_there _ (drop (l.place + 1) c.args.lines.now) c.next_of-next.result l.blocks c.step.new.blocks c.next_of-next.ensures c.in_default.ensures.value)
    ∙ ap (λ ls. pass ls l.blocks) (sym (drop_more c.args.lines.now l.place _ c.loop-place-test.true))
    ∙ l.invariant

pub returns-clause-value : goal.returns-clause-value
returns-clause-value c =
    let l = c.loop-place in
    (l.blocks, sym l.invariant ∙ ap (λ ls. pass ls l.blocks) (drop_all l.place c.args.lines.now c.loop-place-test.false) ∙ at_the_end l.blocks)
