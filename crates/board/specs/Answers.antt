-- A fact for each answer of a delivery. (This project's own.)
use Rattle.board.specs.declared.answers.Readiness.{Readiness}
use Rattle.board.specs.declared.answers.Readiness.TheVariants.{Ready, Waiting}

-- p where the delivery was of the last edge, and q where edges are still missing
abbrev pub MatchReadiness : Readiness → Type 0 → Type 0 → Type 0
MatchReadiness Ready p q = p
MatchReadiness Waiting p q = q
