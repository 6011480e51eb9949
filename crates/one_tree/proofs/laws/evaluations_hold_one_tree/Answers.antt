use Rattle.one_tree.proofs.Held.{at_first, of_new, of_the_same, outcome_is_made}
use Rattle.one_tree.proofs.laws.evaluations_hold_one_tree.Goals as goal

pub returns : goal.returns
returns c = record { first = at_first; new = of_new; same = of_the_same; outcome = outcome_is_made }
