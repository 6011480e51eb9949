use Rattle.std.proofs.Common.{◌≡◌, ◌++◌, drop, map, string_bytes}
use Rattle.leaf_texts.specs.Texts.{joined_from, joined, element_text}
use Rattle.leaf_texts.proofs.texts.put_elements.Given as goal

abbrev pub invariant-loop-i : goal.invariant-loop-i
invariant-loop-i l =
    string_bytes l.out ++ joined_from l.i (map element_text (drop l.i l.elements)) ≡ string_bytes l.fn.out ++ joined (map element_text l.elements)
