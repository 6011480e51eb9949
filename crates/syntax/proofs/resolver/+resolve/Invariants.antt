use Rattle.syntax.proofs.resolver.+resolve.Given as goal

abbrev pub decreases-resolve : goal.decreases-resolve
decreases-resolve l = l.turns
