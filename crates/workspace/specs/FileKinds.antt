-- What a file is, by its path, and the package that it belongs to (docs/PROFILE.md, "Files"; that a
-- module's package is its folder is this project's own choice).
use Rattle.std.specs.Prelude.{ℕ, Bool, nat_eq, List, codes}
use Rattle.std.specs.List.{before_last, ends_with}
use Rattle.std.specs.Str.{bytes_eq}
use Rattle.workspace.specs.Paths.{is_slash, last_segment}

-- its last segment is `BUILD`
abbrev pub is_build_file : List ℕ → Bool
is_build_file path = bytes_eq (last_segment path) (codes "BUILD")

-- it ends in `.bzl`
abbrev pub is_module : List ℕ → Bool
is_module path = ends_with nat_eq path (codes ".bzl")

-- the path without its last segment, and without the slash before that; empty where it has no slash
abbrev pub package_of : List ℕ → List ℕ
package_of path = before_last is_slash path
