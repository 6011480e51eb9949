use Rattle.std.proofs.Common.{◌≡◌, ℕ, drop, take}
use Rattle.packing.specs.Packs.{AreAscending}
use Rattle.packing.specs.Writing.{Written}
use Rattle.packing.proofs.writing.Writing.of_files.Given as goal

abbrev pub invariant-loop-path : goal.invariant-loop-path
invariant-loop-path g l =
    (goal.iterator-loop-path g).can_next l.path-iterator ×
    (goal.iterator-loop-path g).is_finite l.path-iterator ×
    AreAscending l.fn.files.keys ×
    ((i : ℕ) × (l.path-iterator ≡ drop i l.fn.files.keys) × Written (g.F.Folder.at l.fn.folder) (take i l.fn.files.keys) l.fn.left.items l.writing)
