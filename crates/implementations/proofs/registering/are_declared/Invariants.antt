use Rattle.std.proofs.Common.{◌≡◌, drop}
use Rattle.std.specs.List.{list_all}
use Rattle.contexts.specs.Works.{is_among}
use Rattle.implementations.proofs.registering.are_declared.Given as goal

abbrev pub invariant-loop-file : goal.invariant-loop-file
invariant-loop-file l = list_all (λ f. is_among f l.declared) (drop l.file-index l.files) ≡ list_all (λ f. is_among f l.declared) l.files
