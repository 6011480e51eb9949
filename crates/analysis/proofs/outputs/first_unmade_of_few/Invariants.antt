use Rattle.std.proofs.Common.{◌≡◌, drop}
use Rattle.targets.specs.Steps.{first_unmade}
use Rattle.analysis.proofs.outputs.first_unmade_of_few.Given as goal

abbrev pub invariant-loop-file : goal.invariant-loop-file
invariant-loop-file l = first_unmade l.actions (drop l.file-index l.files) ≡ first_unmade l.actions l.files
