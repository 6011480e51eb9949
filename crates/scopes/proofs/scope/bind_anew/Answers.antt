use Rattle.std.proofs.Common.{arith, ◌≡◌, ◌&&◌, ◌+◌, ◌++◌, ◌∷◌, [], drop, false, sym, ap, ◌∙◌}
use Rattle.std.specs.Prelude.{bytes_eq}
use Rattle.indexmap.specs.IndexSet.{insert_key}
use Rattle.program_tree.specs.Names.{among, apart, distinct}
use Rattle.scopes.proofs.NameLemmas.{drop_at}
use Rattle.scopes.proofs.NameLemmas.{among_turn, anew_next, new_keys}
use Rattle.scopes.proofs.scope.bind_anew.Goals as goal

pub loop-name-preserved : goal.loop-name-preserved
loop-name-preserved c =
    let keys = c.loop-name.before.keys in
    let here = drop_at c.args.names.now c.loop-name.name-index c.name-item.result (omega (arith, c.loop-name-test.true)) c.name-item.is in
    let name = c.name-item.result in
    let rest = drop (c.loop-name.name-index + 1) c.args.names.now in
    let unbound : among name keys ≡ false = sym c.contains.ensures ∙ c.if-contains.false in
    let new : c.insert.new.self.keys ≡ keys ++ name ∷ [] =
    c.in_ok-insert.ensures.keys ∙ ap (insert_key bytes_eq keys) c.in_ok-share.ensures ∙ new_keys keys name unbound in (
      c.loop-name.invariant.0
          ∙ ap (λ d. distinct d && apart d keys) here
          ∙ anew_next name rest keys unbound
          ∙ ap (λ k. distinct rest && apart rest k) (sym new),
      λ x.
          ap (λ k. among x (rest ++ k)) new
          ∙ among_turn x rest keys name
          ∙ ap (λ d. among x (d ++ keys)) (sym here)
          ∙ c.loop-name.invariant.1 x,
    )
