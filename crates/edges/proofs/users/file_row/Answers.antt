use Rattle.std.proofs.Common.{◌++◌, ◌∷◌, [], length, get_or, ap, ◌∙◌, arith, refl}
use Rattle.std.proofs.lemmas.List.{length-set}
use Rattle.edges.proofs.Sorting.{turn_inside, turn_old, turn_listed, turn_touched}
use Rattle.edges.proofs.users.file_row.Goals as goal

pub push-requires-clause-node : goal.push-requires-clause-node
push-requires-clause-node c = turn_inside [] (λ l. l ++ c.args.user ∷ []) c.loop-d.users.lists c.args.users.now.lists c.args.list.now c.loop-d.d-index c.d-item.result c.d-item.result c.requires.distinct c.requires.inside c.loop-d.invariant.len c.loop-d-test.true c.d-item.is refl c.loop-d.invariant.each

pub push-requires-clause-room : goal.push-requires-clause-room
push-requires-clause-room c =
    let old = turn_old [] (λ l. l ++ c.args.user ∷ []) c.loop-d.users.lists c.args.users.now.lists c.args.list.now c.loop-d.d-index c.d-item.result c.d-item.result c.requires.distinct c.requires.inside c.loop-d.invariant.len c.loop-d-test.true c.d-item.is refl c.loop-d.invariant.each in
    let listed = turn_listed [] (λ l. l ++ c.args.user ∷ []) c.loop-d.users.lists c.args.users.now.lists c.args.list.now c.loop-d.d-index c.d-item.result c.d-item.result c.requires.distinct c.requires.inside c.loop-d.invariant.len c.loop-d-test.true c.d-item.is refl c.loop-d.invariant.each in
    omega (arith, ap length old, c.requires.room c.d-item.result listed, ap (λ r. get_or r c.d-item.result 0) c.loop-d.invariant.room)

pub loop-d-preserved : goal.loop-d-preserved
loop-d-preserved c = record {
  len = ap length c.push.ensures.lists ∙ length-set c.loop-d.users.lists c.d-item.result _ ∙ c.loop-d.invariant.len;
  each = λ d. turn_touched [] (λ l. l ++ c.args.user ∷ []) c.loop-d.users.lists c.args.users.now.lists c.args.list.now c.loop-d.d-index c.d-item.result c.d-item.result c.requires.distinct c.requires.inside c.loop-d.invariant.len c.loop-d-test.true c.d-item.is refl c.loop-d.invariant.each c.push.new.self.lists c.push.ensures.lists d;
  room = c.push.ensures.room ∙ c.loop-d.invariant.room;
}
