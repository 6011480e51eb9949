use Rattle.std.proofs.Common.{◌≡◌, [], ◌∷◌, map, sym, ap, ◌∙◌, Err}
use Rattle.lexer.specs.declared.fault.ParseStop.TheVariants.{Fault}
use Rattle.grammar.specs.Blocks.{laid}
use Rattle.grammar.specs.Built.{built}
use Rattle.grammar.specs.Places.{top_of}
use Rattle.statements.specs.FormView.{outline_read}
use Rattle.statements.specs.Outlines.{pass, top_level}
use Rattle.statements.proofs.OutlinesMade.{has_tree, is_refused, read_built}
use Rattle.statements.proofs.statement_pass.blocks_of.Goals as goal

pub returns-in-Err-lines_stand-clause-fault : goal.returns-in-Err-lines_stand-clause-fault
returns-in-Err-lines_stand-clause-fault c f e =
    let same : c.in-Err-lines_stand.stop ≡ Fault f = cc in
    let found = c.in-Err-lines_stand.ensures.fault f (ap Err same) in
    let lines = map laid c.args.lines.lines in
    let slice = c.as_slice.ensures.value in
    let read = c.in-Ok.ensures.outlines in
    let outlines : c.as_slice.result.now ≡ map outline_read lines = cc in (
      is_refused (top_of c.args.kind) lines f.line
          (sym (ap (λ os. pass os (top_level c.top_of.result ∷ [])) outlines ∙ ap (λ t. pass (map outline_read lines) (top_level t ∷ [])) c.top_of.ensures) ∙ found.0),
      found.1,
    )

pub returns-clause-tree : goal.returns-clause-tree
returns-clause-tree c =
    let lines = map laid c.args.lines.lines in
    let slice = c.as_slice.ensures.value in
    let read = c.in-Ok.ensures.outlines in
    let outlines : c.as_slice.result.now ≡ map outline_read lines = cc in
    let passed = c.in-Ok-lines_stand.ensures.value in
    let tree =
    has_tree (top_of c.args.kind) lines passed.0
    (sym (ap (λ os. pass os (top_level c.top_of.result ∷ [])) outlines ∙ ap (λ t. pass (map outline_read lines) (top_level t ∷ [])) c.top_of.ensures) ∙ passed.1) in
    (tree.0, tree.1, c.in_ok-file_lines.ensures ∙ ap built c.in-Ok.ensures.reads ∙ read_built (top_of c.args.kind) c.args.lines.lines tree.0 tree.1)
