-- What is kept of all files that were read, and their codes.
use Rattle.std.proofs.Common.{◌≡◌, List, [], map, sym, ◌∙◌}
use Rattle.std.proofs.lemmas.Simd.{map-map}
use Rattle.parallel.proofs.Agreeing.{maps_agree}
use Rattle.meaning.specs.StatementCode.{file_code, code_of}
use Rattle.workspace.specs.Workspaces.{Pair}
use Rattle.evaluation.specs.Workspaces.{linked_file, linked_files}
use Rattle.sources.specs.Done.{AreDone}
use Rattle.sources.specs.Kept.{kept_of}
use Rattle.sources.specs.declared.kept.FileDone.{FileDone}

module _ (files : List Pair) (all : List FileDone) (done : AreDone files all) where
  pub kept_agree : map (λ (d : FileDone). d.kept) all ≡ map kept_of files
  kept_agree = maps_agree (λ (d : FileDone). d.kept) kept_of ([], []) all files done.len (λ i d low. (done.each i d low).kept)

  pub codes_agree : map (λ (d : FileDone). d.code) all ≡ code_of (linked_files files)
  codes_agree =
      maps_agree (λ (d : FileDone). d.code) (λ f. file_code (linked_file f)) ([], []) all files done.len (λ i d low. (done.each i d low).code)
      ∙ sym (map-map file_code linked_file files)
