use Rattle.std.proofs.Common.{◌≡◌, ◌++◌, map}
use Rattle.meaning.specs.StatementCode.{code_of}
use Rattle.evaluation.specs.Workspaces.{linked_files}
use Rattle.call_stack.specs.LinkedView.{codes_of}
use Rattle.sources.specs.Kept.{kept_of}
use Rattle.sources.specs.declared.kept.FileDone.{FileDone}
use Rattle.sources.proofs.read_all.linked.Given as goal

abbrev pub invariant-loop-done : goal.invariant-loop-done
invariant-loop-done l = record {
  kept : l.kept.items ++ map (λ (d : FileDone). d.kept) l.done-iterator.rest.items ≡ map kept_of l.files;
  codes : codes_of l.linked ++ map (λ (d : FileDone). d.code) l.done-iterator.rest.items ≡ code_of (linked_files l.files);
}
