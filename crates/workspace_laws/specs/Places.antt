-- What an implementation has while it runs, where `ctx.files` lists depsets plainly (Bazel
-- documentation, "ctx"; plain listings are this project's own). All else is as `implementations`
-- has it.
use Rattle.std.specs.Prelude.{List}
use Rattle.depsets.specs.Listed.{flat}
use Rattle.language.specs.Place.{Place}
use Rattle.workspace.specs.Labels.{LabelParts}
use Rattle.targets.specs.Checks.{Dependency}
use Rattle.targets.specs.declared.target.Target.{Target}
use Rattle.evaluation.specs.Runs.{OfTarget}
use Rattle.contexts.specs.declared.work.Work.{Work}
use Rattle.contexts.specs.Fields.{field}
use Rattle.implementations.specs.Implementations.{implementation_place, target_world}

-- the place of an implementation, as usual but that `ctx.files` gives of each depset the walk of
-- its whole tree, and of each element the first occurrence
abbrev pub plain_place : LabelParts → Target → List Dependency → Place Work
plain_place l t ds = record (implementation_place l t ds) { field = λ o x w. field flat t ds l o x }

-- and the call of an implementation there
abbrev pub plain_target_world : OfTarget Work
plain_target_world = record target_world { place = λ known. plain_place }
