-- Codes that were compiled, each from a file of its own. (This project's own.)
use Rattle.std.specs.Prelude.{◌≡◌, List, [], ◌∷◌}
use Rattle.program_tree.specs.Resolved.{Program}
use Rattle.meaning.specs.Instructions.{FunctionCode, Codes}
use Rattle.meaning.specs.StatementCode.{file_code}

-- these functions are the code of some file
abbrev pub IsFileCode : List FunctionCode → Type 0
IsFileCode fs = ∥ ((program : Program) × (fs ≡ file_code program)) ∥₁

-- each of these codes is that of some file
abbrev pub AreFileCodes : Codes → Type 0
AreFileCodes [] = Unit {0}
AreFileCodes (fs ∷ codes) = IsFileCode fs × AreFileCodes codes
