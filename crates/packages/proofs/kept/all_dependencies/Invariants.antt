use Rattle.std.proofs.Common.{◌≡◌, length, map, take}
use Rattle.targets.specs.Resolving.{dependencies}
use Rattle.packages.proofs.kept.all_dependencies.Given as goal

abbrev pub invariant-loop-place : goal.invariant-loop-place
invariant-loop-place l = (l.all.items ≡ map dependencies (take l.place l.targets.targets)) × (l.place-end ≡ length l.targets.targets)
