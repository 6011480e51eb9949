use Rattle.std.proofs.Common.{◌∙◌, ap, sym}
use Rattle.std.proofs.lemmas.Bool.{not-false, not-true}
use Rattle.workspace.specs.declared.workspace.File.{File}
use Rattle.workspace.proofs.WorkspaceLemmas.{NotesPaths-again, NotesPaths-nil, NotesPaths-step}
use Rattle.workspace.proofs.workspace.are_distinct.Goals as goal

pub loop-file-init : goal.loop-file-init
loop-file-init c = NotesPaths-nil c.new-paths.result c.new-paths.ensures.empty

pub returns-then-not-is_new-clause-twice : goal.returns-then-not-is_new-clause-twice
returns-then-not-is_new-clause-twice c _ =
    NotesPaths-again c.args.files.now c.loop-file.file-index c.file-item.result c.loop-file.paths c.as_str.result c.loop-file-test.true
    (c.as_str.ensures ∙ ap (λ (f : File). f.path) c.file-item.is) c.loop-file.invariant
    (not-false _ (sym c.in_ok-is_new.ensures.added ∙ c.if-not-is_new.true))

pub loop-file-preserved : goal.loop-file-preserved
loop-file-preserved c =
    NotesPaths-step c.args.files.now c.loop-file.file-index c.file-item.result c.loop-file.paths c.insert.new.self c.as_str.result c.loop-file-test.true
    (c.as_str.ensures ∙ ap (λ (f : File). f.path) c.file-item.is) c.loop-file.invariant
    (not-true _ (sym c.in_ok-is_new.ensures.added ∙ c.if-not-is_new.false)) c.in_ok-is_new.ensures.updates
