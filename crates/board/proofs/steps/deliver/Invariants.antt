use Rattle.board.proofs.steps.deliver.Given as goal

abbrev pub ghosts-deliver_branded : goal.ghosts-deliver_branded
ghosts-deliver_branded a = record { node = a.node }
