use Rattle.std.proofs.Common.{◌≡◌, drop}
use Rattle.contexts.specs.Works.{repeats_after, repeats}
use Rattle.implementations.proofs.registering.repeats.Given as goal

abbrev pub invariant-loop-file : goal.invariant-loop-file
invariant-loop-file l = repeats_after l.seen (drop l.file-index l.files) ≡ repeats l.files
