use Rattle.std.proofs.Common.{◌≡◌, ◌++◌, drop, map}
use Rattle.program_tree.specs.declared.program.Loaded.{Loaded}
use Rattle.sources.proofs.loads.asked.Given as goal

abbrev pub invariant-loop-item : goal.invariant-loop-item
invariant-loop-item l = l.all.items ++ map (λ (i : Loaded). i.asked) (drop l.item-index l.items) ≡ map (λ (i : Loaded). i.asked) l.items
