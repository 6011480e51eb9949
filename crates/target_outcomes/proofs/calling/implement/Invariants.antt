use Rattle.analysis.specs.Seen.{dependencies_seen}
use Rattle.contexts.specs.ByPlace.{files_at}
use Rattle.target_outcomes.proofs.calling.implement.Given as goal

-- `ctx.files` of this target
abbrev pub ghosts-run : goal.ghosts-run
ghosts-run a = record { list_at = files_at a.target.now (dependencies_seen a.dependencies.now) }
