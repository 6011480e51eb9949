use Rattle.std.proofs.Common.{◌&&◌, ap, ◌∙◌}
use Rattle.program_tree.specs.Names.{apart, distinct}
use Rattle.scopes.proofs.NameLemmas.{distinct_alone}
use Rattle.scopes.proofs.scope.are_distinct.Goals as goal

pub returns : goal.returns
returns c =
    let e = c.in_ok-before.ensures.empty in
    c.in_ok-told.ensures.new
    ∙ ap (λ k. distinct c.args.names.now && apart c.args.names.now k) e
    ∙ distinct_alone c.args.names.now
