use Rattle.std.proofs.Common.{◌≡◌, ◌+◌, drop}
use Rattle.analysis.specs.Seen.{dependencies_seen}
use Rattle.contexts.specs.Fields.{place_of}
use Rattle.contexts.proofs.dependencies.place_among.Given as goal

abbrev pub invariant-loop-place : goal.invariant-loop-place
invariant-loop-place l = l.place + place_of (drop l.place (dependencies_seen l.all)) l.label ≡ place_of (dependencies_seen l.all) l.label
