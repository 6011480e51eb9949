use Rattle.std.proofs.Common.{◌≡◌, ◌++◌, drop, map, string_bytes}
use Rattle.leaf_texts.specs.Texts.{joined_from, joined, quoted}
use Rattle.claims.specs.Same.{path_of}
use Rattle.reporting.proofs.strings_in.put_paths.Given as goal

abbrev pub invariant-loop-i : goal.invariant-loop-i
invariant-loop-i l =
    string_bytes l.out ++ joined_from l.i (map quoted (map path_of (drop l.i l.files)))
    ≡ string_bytes l.fn.out ++ joined (map quoted (map path_of l.files))
