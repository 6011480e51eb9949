use Rattle.std.proofs.Common.{◌≡◌, drop, fold}
use Rattle.analysis.specs.Keyed.{text_digest, digest_step}
use Rattle.analysis.proofs.label_keys.text_digest.Given as goal

abbrev pub invariant-loop-byte : goal.invariant-loop-byte
invariant-loop-byte l = fold digest_step l.found (drop l.byte-index l.text) ≡ text_digest l.text
