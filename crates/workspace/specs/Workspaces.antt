-- The workspaces that are analysed (docs/PROFILE.md, "Files"; this project's own choice).
--
-- A workspace is a list of pairs of a path and a text. The paths are legal and no path stands
-- twice, and a text has at most 1,048,576 bytes, which may be any.
use Rattle.std.specs.Prelude.{◌≡◌, true, ℕ, Bool, ◌&&◌, nat_le, List, map, length}
use Rattle.std.specs.Borrow.{Bor}
use Rattle.std.specs.List.{list_all, IsDistinct}
use Rattle.std.specs.Str.{bytes_eq}
use Rattle.workspace.specs.Paths.{is_path}

-- a path and a text
abbrev pub Pair : Type 0
Pair = List ℕ × List ℕ

-- the most bytes of a text
abbrev pub text_limit : ℕ
text_limit = 1048576

-- a file that a workspace may hold: its path is legal and its text short enough
abbrev pub is_file : Pair → Bool
is_file p = is_path p.0 && nat_le (length p.1) text_limit

-- the paths of files, in their order
abbrev pub paths_of : List Pair → List (List ℕ)
paths_of pairs = map (λ p. p.0) pairs

-- pairs that are a workspace to analyse: each is a file, and no path stands twice
pub record IsWorkspace (pairs : List Pair) : Type 0 where
  pub files : list_all is_file pairs ≡ true
  pub distinct : IsDistinct bytes_eq (paths_of pairs)

-- the pairs behind references
abbrev pub pairs_behind : List (Bor (List ℕ) × Bor (List ℕ)) → List Pair
pairs_behind pairs = map (λ p. (p.0.now, p.1.now)) pairs
