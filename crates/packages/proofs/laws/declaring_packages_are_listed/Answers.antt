use Rattle.packages.proofs.Names.{are_listed}
use Rattle.packages.proofs.laws.declaring_packages_are_listed.Goals as goal

pub returns : goal.returns
returns c = λ files limit. are_listed files limit
