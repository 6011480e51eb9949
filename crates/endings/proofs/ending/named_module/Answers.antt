use Rattle.std.proofs.Common.{◌≡◌, ◌∙◌, subst, MatchOption, Ok, Err}
use Rattle.evaluation.specs.Runs.{if_named, naming_of}
use Rattle.loading.specs.declared.faults.Ending.TheVariants.{Unnamed}
use Rattle.endings.proofs.ending.named_module.Goals as goal

pub returns : goal.returns
returns c =
    let a = c.args in
    let left = a.left.now in
    let named = c.in_ok-naming.ensures ∙ λ j. naming_of a.path.now a.file (c.get.ensures j) (c.as_slice.ensures.value j) a.made in
    subst (λ n. MatchOption c.in_ok-module.module (if_named n a.names left.globals.items a.loaded left.defaults a.made ≡ Err Unnamed) (λ m. if_named n a.names left.globals.items a.loaded left.defaults a.made ≡ Ok m)) named c.in_ok-module.ensures
