use Rattle.endings.proofs.Numbers.{providers_are_called, rules_are_called, everything_is_named}
use Rattle.endings.proofs.Places.{names_are_own}
use Rattle.endings.proofs.Ended.{made_is_called}
use Rattle.endings.proofs.laws.numbers_and_names_agree.Goals as goal

pub returns : goal.returns
returns c = record {
  providers = providers_are_called;
  rules = rules_are_called;
  everything = everything_is_named;
  once = names_are_own;
  ended = λ path n names s made m e. made_is_called path n names made s m e;
}
