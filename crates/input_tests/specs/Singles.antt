-- A folder with one file in it, of which all is known. (This project's own.)
use Rattle.std.specs.Prelude.{ℕ, false, List, [], ◌∷◌, Some, None, if◌then◌else◌}
use Rattle.std.specs.Str.{bytes_eq}
use Rattle.workspace.specs.Workspaces.{Pair}
use Rattle.packing.specs.Folders.{At, file, folder}
use Rattle.packing.specs.Packs.{used_text}

-- the folder itself, in which all names are UTF-8, and a file with these bytes
abbrev pub single : List ℕ → List ℕ → At
single name bytes [] = Some (folder (name ∷ []) false)
single name bytes (c ∷ cs) = if bytes_eq (c ∷ cs) name then Some (file bytes) else None

-- its workspace: that file's pair
abbrev pub workspace_of : List ℕ → List ℕ → List Pair
workspace_of name bytes = (name, used_text name bytes) ∷ []
