use Rattle.std.proofs.Common.{sym, ap, ◌∙◌}
use Rattle.std.specs.Prelude.{bytes_eq}
use Rattle.std.proofs.lemmas.List.{drop_all}
use Rattle.indexmap.specs.IndexSet.{insert_all}
use Rattle.scopes.proofs.NameLemmas.{insert_once}
use Rattle.scopes.proofs.scope.texts_once.Goals as goal

pub returns : goal.returns
returns c =
    sym (ap (insert_all bytes_eq c.loop-name.set.keys) (drop_all c.loop-name.name-index c.args.names.now c.loop-name-test.false))
    ∙ sym c.loop-name.invariant
    ∙ insert_once c.args.names.now
