use Rattle.std.proofs.Common.{◌≡◌, drop}
use Rattle.contexts.specs.Works.{is_among}
use Rattle.contexts.proofs.work.is_among.Given as goal

abbrev pub invariant-loop-other : goal.invariant-loop-other
invariant-loop-other l = is_among l.file (drop l.other-index l.files) ≡ is_among l.file l.files
