use Rattle.std.proofs.Common.{◌≡◌, ◌∙◌, ◌+◌, ◌<◌, ◌++◌, ap, arith, drop, length, map, sym}
use Rattle.meaning.specs.Functions.{before, functions_of}
use Rattle.meaning.specs.StatementCode.{function_code}
use Rattle.program_tree.specs.ProgramView as view
use Rattle.program_tree.specs.ProgramView.{branch_step, function_step, line_and_statement, statement_step, step_step, steps}
use Rattle.program_tree.specs.declared.program.Statement.TheFolds.{fold_out-Step}
use Rattle.code.proofs.Forwards.{drop_on}
use Rattle.code.proofs.compiling.functions.Goals as goal

pub loop-step-preserved : goal.loop-step-preserved
loop-step-preserved c =
    let names = c.args.parsed.now.globals.keys in
    let xs = c.as_slice-steps.result.now in
    let i = c.loop-step.step-index in
    let x = c.step-item.result in
    let all = c.loop-step.all.items in
    let others = functions_of names (steps (drop (i + 1) xs)) in
    let some : i < length xs = omega (arith, c.loop-step-test.true) in
    let seen : line_and_statement x ≡ (x.line, view.statement x.statement) = fold_out-Step _ _ _ _ statement_step branch_step function_step step_step x in
    c.in_ok-add_function.ensures others
    ∙ ap (λ s. all ++ map function_code (before names s.0 s.1 others)) (sym seen)
    ∙ ap (λ l. all ++ map function_code (functions_of names (steps l))) (sym (drop_on xs i x x some c.step-item.is))
    ∙ c.loop-step.invariant
