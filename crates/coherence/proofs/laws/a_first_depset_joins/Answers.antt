use Rattle.std.proofs.Common.{◌≡◌, true}
use Rattle.coherence.proofs.Firsts.{first_joins}
use Rattle.coherence.proofs.laws.a_first_depset_joins.Goals as goal

pub returns : goal.returns
returns h c = λ i o n x g m fresh is z own first. first_joins i o n x (λ d. g d ≡ true) (λ d. m d ≡ true) fresh is z own first
