-- The texts of source files aren't used: all that an answer says comes of the paths of files, and of the texts of modules and `BUILD` files.
use Rattle.std.proofs.Common.{◌≡◌, ◌∙◌, ◌↔◌, ℕ, Bool, true, false, List, [], ◌∷◌, map, filter, Some, Result, Ok, All, Contains, ap, sym, subst, refl, cond, if◌then◌else◌}
use Rattle.std.specs.Prelude.{position, unwrap_or}
use Rattle.std.specs.List.{IsDistinct}
use Rattle.std.specs.List.Sorted.{IsPermutation}
use Rattle.std.specs.Map.{lookup}
use Rattle.std.specs.Str.{bytes_eq}
use Rattle.std.specs.Cmp.{decided}
use Rattle.std.proofs.lemmas.List.{length-map}
use Rattle.std.proofs.lemmas.List.Sorted.{Contains-permutation, IsPermutation-map, IsPermutation-sym}
use Rattle.std.proofs.lemmas.Map.Keys.{IsDistinct-IsPermutation}
use Rattle.std.proofs.lemmas.Slice.Eq.{bytes_eq-Decides}
use Rattle.actions.specs.Ascending.{AreAscending}
use Rattle.actions.proofs.Ascending.{ascending_same, sorted_ascends}
use Rattle.lexer.specs.declared.fault.FaultKind.{FaultKind}
use Rattle.file_syntax.specs.Files.{syntax}
use Rattle.meaning.specs.Functions.{Files}
use Rattle.ticks.specs.declared.ticks.Kind.{Kind}
use Rattle.workspace.specs.FileKinds.{is_build_file, is_module, package_of}
use Rattle.workspace.specs.Labels.{LabelParts}
use Rattle.workspace.specs.Workspaces.{Pair, paths_of}
use Rattle.loading.specs.Loads.{LoadFault, Path, Read}
use Rattle.loading.specs.Modules.{Sources, build_of}
use Rattle.modules.specs.declared.sorting.FileFault.{FileFault}
use Rattle.targets.specs.declared.target.Target.{Target}
use Rattle.evaluation.specs.declared.handed.Module.{Module}
use Rattle.evaluation.specs.Evaluated.{Known, global_names}
use Rattle.evaluation.specs.Runs.{no_program}
use Rattle.evaluation.specs.Workspaces.{as_program, code_of_parsed, is_starlark, kind_of, linked_files, parsed, read_as, read_file, text_at}
use Rattle.outcomes.specs.Workspaces.{Workspace, dependencies, outcome_of}
use Rattle.graph.specs.Reached.{IsReached}
use Rattle.reporting.specs.Answers.{Node}
use Rattle.loader.specs.Files.{faults_by, known_by}
use Rattle.loader.specs.Loaded.{AreFilesOf}
use Rattle.loader.specs.Places.{of_build, of_module}
use Rattle.packages.specs.Packages.{package_by}
use Rattle.workspace_laws.specs.Files.{faults}
use Rattle.workspace_laws.specs.Found.{in_modules}
use Rattle.workspace_laws.specs.Places.{plain_target_world}
use Rattle.workspace_laws.specs.Runs.{run_build, run_implementation, run_module}
use Rattle.workspace_laws.specs.Workspaces.{plain_workspace}
use Rattle.answers.specs.Answers.{Answer, IsAnswerOf, labels_told}
use Rattle.answers.specs.Laws.{SourceTextsChangeNothing, read_of}
use Rattle.answers.proofs.InOrder.{ascending_distinct, ascending_sorted, in_order, order_ascends, order_moved}

-- ---- what is read of files, without the texts of source files

abbrev reads : List Pair → List Pair
reads = map read_of

paths_same : (files : List Pair) → paths_of (reads files) ≡ paths_of files
paths_same [] = refl
paths_same (f ∷ files) = ap (λ ps. f.0 ∷ ps) (paths_same files)

parsed_same : (path text : List ℕ) → parsed path (if is_starlark path then text else []) ≡ parsed path text
parsed_same path text = go (is_starlark path)
  where
    go : (b : Bool) → (if b then as_program (syntax (if b then text else []) (kind_of path)) else Ok no_program)
        ≡ (if b then as_program (syntax text (kind_of path)) else Ok no_program)
    go true = refl
    go false = refl

code_same : (files : List Pair) → linked_files (reads files) ≡ linked_files files
code_same [] = refl
code_same (f ∷ files) = λ i. code_of_parsed (parsed_same f.0 f.1 i) ∷ code_same files i

text_same : (path : Path) (files : List Pair) → parsed path (text_at (reads files) path) ≡ parsed path (text_at files path)
text_same path [] = refl
text_same path (f ∷ files) = go (text_same path files) (bytes_eq path f.0) refl
  where
    go : parsed path (text_at (reads files) path) ≡ parsed path (text_at files path) → (b : Bool) → bytes_eq path f.0 ≡ b
        → parsed path (unwrap_or (cond b (Some (read_of f).1) (lookup (bytes_eq path) (reads files))) [])
        ≡ parsed path (unwrap_or (cond b (Some f.1) (lookup (bytes_eq path) files)) [])
    go rest true e =
        subst (λ (p : Path). parsed p (if is_starlark f.0 then f.1 else []) ≡ parsed p f.1) (sym ((bytes_eq-Decides path f.0).0 e)) (parsed_same f.0 f.1)
    go rest false e = rest

read_same : (files : List Pair) → read_file (reads files) ≡ read_file files
read_same files = λ i path. read_as path
    (unwrap_or (position (bytes_eq path) (paths_same files i)) (length-map files read_of i))
    (text_same path files i)

-- ---- all that is said of a workspace, by its paths, its code and what is read

module _ (limit : ℕ) where
  abbrev Reading : Type 0
  Reading = Path → Result (Read ℕ) (FaultKind × ℕ)

  abbrev sources : List Path → Files → Reading → Sources ℕ Module FaultKind Kind
  sources paths code read =
      record { modules = filter is_module paths; read = read; globals = global_names; run = run_module limit code paths of_module }

  abbrev built : List Path → Files → Reading → Path → Result (List Target) (LoadFault FaultKind Kind)
  built paths code read path = build_of (sources paths code read) (run_build limit code paths (of_build paths)) path

  abbrev whole : List Path → Files → Reading → Workspace
  whole paths code read =
      let known : Known = known_by (sources paths code read) in
      record {
        paths = paths;
        packages = map package_of (filter is_build_file paths);
        package_at = package_by (built paths code read) paths;
        implement = run_implementation limit code paths plain_target_world known;
        known = in_modules known paths;
      }

  abbrev failing : List Path → Files → Reading → List (FileFault FaultKind Kind)
  failing paths code read = faults_by (sources paths code read) (built paths code read) paths

  workspace_same : (files : List Pair) → plain_workspace (reads files) limit ≡ plain_workspace files limit
  workspace_same files = λ i. whole (paths_same files i) (code_same files i) (read_same files i)

  faults_same : (files : List Pair) → faults (reads files) limit ≡ faults files limit
  faults_same files = λ i. failing (paths_same files i) (code_same files i) (read_same files i)

  module _ (files others : List Pair) (same : reads files ≡ reads others) where
    one_workspace : plain_workspace files limit ≡ plain_workspace others limit
    one_workspace = sym (workspace_same files) ∙ ap (λ fs. plain_workspace fs limit) same ∙ workspace_same others

    answers_same : (labels : List LabelParts) (a : Answer) → IsAnswerOf files labels limit a → IsAnswerOf others labels limit a
    answers_same labels a p = record {
      faults = p.faults ∙ sym (faults_same files) ∙ ap (λ fs. faults fs limit) same ∙ faults_same others;
      reached = subst (λ (w : Workspace). (l : LabelParts) → Contains (labels_told a) l ↔ IsReached (dependencies w) labels l) one_workspace p.reached;
      ordered = p.ordered;
      outcomes = subst (λ (w : Workspace). All (λ (n : Node). n.outcome ≡ outcome_of w n.label) a.nodes) one_workspace p.outcomes;
    }

-- ---- the files of the other workspace in their order

module _ (workspace other files : List Pair) (same : IsPermutation (reads workspace) (reads other)) (of : AreFilesOf workspace files) where
  abbrev key : Pair → Path
  key p = p.0

  abbrev others : List Pair
  others = in_order key other

  -- files that are moved have each path once, if they had
  once_moved : (xs ys : List Pair) → IsPermutation xs ys → IsDistinct bytes_eq (paths_of xs) → IsDistinct bytes_eq (paths_of ys)
  once_moved xs ys by =
      IsDistinct-IsPermutation bytes_eq (decided bytes_eq bytes_eq-Decides).symm (paths_of xs) (paths_of ys) (IsPermutation-map key xs ys by)

  once : IsDistinct bytes_eq (paths_of other)
  once =
      let here = once_moved files workspace (IsPermutation-sym workspace files of.all) of.ascending.distinct in
      subst (IsDistinct bytes_eq) (paths_same other)
      (once_moved (reads workspace) (reads other) same (subst (IsDistinct bytes_eq) (sym (paths_same workspace)) here))

  ascends : AreAscending (paths_of others)
  ascends = order_ascends key other

  are_files : AreFilesOf other others
  are_files = record {
    all = order_moved key other once;
    ascending = record { sorted = ascending_sorted (paths_of others) ascends; distinct = ascending_distinct (paths_of others) ascends };
  }

  moved : (xs ys : List Pair) → IsPermutation xs ys → (p : Pair) → Contains (reads xs) p → Contains (reads ys) p
  moved xs ys by p h = Contains-permutation (reads xs) (reads ys) p (IsPermutation-map read_of xs ys by) h

  reads_same : reads files ≡ reads others
  reads_same =
      ascending_same key (reads files) (reads others)
      (subst AreAscending (sym (paths_same files)) (sorted_ascends (paths_of files) of.ascending.sorted of.ascending.distinct))
      (subst AreAscending (sym (paths_same others)) ascends)
      (λ p h. moved other others are_files.all p
      (Contains-permutation (reads workspace) (reads other) p same (moved files workspace (IsPermutation-sym workspace files of.all) p h)))
      (λ p h. moved workspace files of.all p
      (Contains-permutation (reads other) (reads workspace) p (IsPermutation-sym (reads workspace) (reads other) same)
      (moved others other (IsPermutation-sym other others are_files.all) p h)))

pub source_texts_change_nothing : SourceTextsChangeNothing
source_texts_change_nothing workspace other labels limit a same this =
    let others = in_order (λ (p : Pair). p.0) other in
    record {
      files = others;
      are_files = are_files workspace other this.files same this.are_files;
      answers = answers_same limit this.files others (reads_same workspace other this.files same this.are_files) labels a this.answers;
    }
