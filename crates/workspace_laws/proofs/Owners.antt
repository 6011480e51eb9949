-- No label owns a depset that stands in a module.
use Rattle.std.proofs.Common.{◌≡◌, ◌∙◌, inl, inr, true, List, [], ◌∷◌, length, sym, subst, true≢false}
use Rattle.std.specs.Prelude.{nat_le}
use Rattle.std.specs.List.{list_all, list_any}
use Rattle.std.specs.List.Sorted.{IsPermutation}
use Rattle.std.specs.Str.{bytes_eq}
use Rattle.std.proofs.lemmas.List.Sorted.{list_any-IsPermutation, IsPermutation-map}
use Rattle.std.proofs.lemmas.Slice.Eq.{bytes_eq-Decides}
use Rattle.edges.proofs.Tests.{both_and, either}
use Rattle.workspace.specs.Labels.{LabelParts, label_text}
use Rattle.workspace.specs.Paths.{are_segments, is_path, path_limit}
use Rattle.workspace.specs.Workspaces.{Pair, IsWorkspace, is_file, paths_of, text_limit}

-- a path doesn't begin with a slash
no_path : (l : LabelParts) → is_path (label_text l) ≡ true → ⊥
unfolding are_segments
no_path l h = true≢false (sym (both_and (nat_le (length (label_text l)) path_limit) (are_segments (label_text l)) h).1)

no_file : (l : LabelParts) (files : List Pair) → list_all is_file files ≡ true
    → list_any (bytes_eq (label_text l)) (paths_of files) ≡ true → ⊥
no_file l [] legal h = true≢false (sym h)
no_file l (f ∷ files) legal h =
    let parts = both_and (is_file f) (list_all is_file files) legal in
    let first = both_and (is_path f.0) (nat_le (length f.1) text_limit) parts.0 in
    elim (either (bytes_eq (label_text l) f.0) (list_any (bytes_eq (label_text l)) (paths_of files)) h) [
      | inl here ↦ no_path l (subst (λ p. is_path p ≡ true) (sym ((bytes_eq-Decides (label_text l) f.0).0 here)) first.0)
      | inr later ↦ no_file l files parts.1 later
    ]

-- no file of a workspace has the text of a label as its path
pub no_file_of : (workspace files : List Pair) → IsWorkspace workspace → IsPermutation workspace files
    → (l : LabelParts) → list_any (bytes_eq (label_text l)) (paths_of files) ≡ true → ⊥
no_file_of workspace files is moved l h =
    no_file l workspace is.files
    (list_any-IsPermutation (bytes_eq (label_text l)) (paths_of workspace) (paths_of files)
    (IsPermutation-map (λ (p : Pair). p.0) workspace files moved) ∙ h)
