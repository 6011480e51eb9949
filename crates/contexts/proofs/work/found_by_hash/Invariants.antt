use Rattle.std.proofs.Common.{◌≡◌, [], drop}
use Rattle.depsets.specs.Keys.{keep_all}
use Rattle.contexts.specs.Works.{same_file}
use Rattle.contexts.proofs.work.found_by_hash.Given as goal

abbrev pub invariant-loop-other : goal.invariant-loop-other
invariant-loop-other l = keep_all same_file l.found.keys (drop l.other-index l.files) ≡ keep_all same_file [] l.files
