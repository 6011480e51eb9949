use Rattle.board.proofs.steps.finish.Given as goal

abbrev pub ghosts-finish_branded : goal.ghosts-finish_branded
ghosts-finish_branded a = record { node = a.node }
