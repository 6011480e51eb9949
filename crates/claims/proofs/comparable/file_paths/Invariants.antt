use Rattle.std.proofs.Common.{◌≡◌, map, take}
use Rattle.claims.specs.Same.{path_of}
use Rattle.claims.proofs.comparable.file_paths.Given as goal

abbrev pub invariant-loop-file : goal.invariant-loop-file
invariant-loop-file l = l.paths.items ≡ map path_of (take l.file-index l.files)
