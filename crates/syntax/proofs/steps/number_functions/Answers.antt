use Rattle.std.proofs.Common.{◌+◌, ◌<◌, ◌∷◌, ◌++◌, ◌∙◌, [], ap, arith, drop, length, map, slice_set, sym, take}
use Rattle.std.proofs.lemmas.List.{drop-set-lt, take_more_set}
use Rattle.program_tree.specs.ProgramView.{line_and_statement, steps, steps_onto}
use Rattle.program_tree.specs.Resolved.{Steps, next_number, numbered, step, with_number}
use Rattle.scopes.proofs.NameLemmas.{drop_at}
use Rattle.syntax.proofs.ProgramLemmas.{onto_last}
use Rattle.syntax.proofs.steps.number_functions.Goals as goal

pub loop-step-preserved : goal.loop-step-preserved
loop-step-preserved c =
    let xs = c.loop-step.step-items in
    let i = c.loop-step.step-index in
    let x = c.step-item.result in
    let y = c.give_number-number.new.step in
    let n = c.loop-step.number in
    let m = c.give_number-number.result in
    let e = c.give_number-number.ensures in
    let within : i < length xs = omega (arith, c.loop-step-test.true, c.loop-step.auto.step-items) in
    let here = drop_at xs i x within c.step-item.is in
    let rest = steps (drop (i + 1) xs) in
    let front : Steps → Steps = steps_onto (map line_and_statement (take i xs)) in
    let s = line_and_statement x in
    let was = ap line_and_statement (sym c.step-item.is) in
    let as_numbered = e.numbered.0 ∙ ap (λ p. (p.0, with_number n p.1)) was in
    let as_counted = e.numbered.1 ∙ ap (λ p. next_number n p.1) was in (
      omega (arith, e.next, c.loop-step.invariant.0),
      ap (λ ys. steps_onto (map line_and_statement ys) (numbered m (steps (drop (i + 1) (slice_set xs i y))))) (take_more_set xs i y within)
          ∙ ap (λ ys. steps_onto (map line_and_statement (take i xs ++ y ∷ [])) (numbered m (steps ys))) (drop-set-lt (i + 1) xs i y (omega arith))
          ∙ onto_last (λ s r. step s.0 s.1 r) line_and_statement (take i xs) y (numbered m rest)
          ∙ ap (λ p. front (step p.0 p.1 (numbered m rest))) as_numbered
          ∙ ap (λ k. front (step s.0 (with_number n s.1) (numbered k rest))) as_counted
          ∙ ap (λ d. front (numbered n (steps d))) (sym here)
          ∙ c.loop-step.invariant.1,
    )
