use Rattle.std.proofs.Common.{◌≡◌, ◌≤◌, ◌++◌, drop, flat_map, map, string_bytes}
use Rattle.leaf_texts.specs.Texts.{joined_from, joined, quoted}
use Rattle.claims.specs.Same.{element_paths}
use Rattle.reporting.proofs.strings_in.put_element_paths.Given as goal

abbrev pub invariant-loop-i : goal.invariant-loop-i
invariant-loop-i l =
    (l.place ≤ l.i)
    × (string_bytes l.out ++ joined_from l.place (map quoted (flat_map element_paths (drop l.i l.elements)))
    ≡ string_bytes l.fn.out ++ joined (map quoted (flat_map element_paths l.elements)))
