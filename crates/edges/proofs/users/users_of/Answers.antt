use Rattle.std.proofs.Common.{◌≡◌, ◌<◌, ◌∷◌, ◌++◌, [], true, length, get_or, ap, ◌∙◌, arith, subst, if◌then◌else◌}
use Rattle.std.proofs.lemmas.List.FromFn.{fill_by_all}
use Rattle.edges.specs.Rows.{row, has, users_of}
use Rattle.edges.proofs.Sorting.{users_among, list_more, room_left}
use Rattle.edges.proofs.users.users_of.Goals as goal

pub file_row-requires-clause-room : goal.file_row-requires-clause-room
file_row-requires-clause-room c = λ d h.
    let low : c.loop-n.n < length c.args.deps.now = omega (arith, c.loop-n-test.true, c.len-n-end.ensures) in
    let list : c.row.result.now ≡ row c.args.deps.now c.loop-n.n = c.row.ensures ∙ ap (row c.args.deps.now) c.of-user.ensures in
    let h' : has (row c.args.deps.now c.loop-n.n) d ≡ true = subst (λ l. has l d ≡ true) list h in
    let inside = c.requires.graph.inside c.loop-n.n d h' in
    let some = room_left c.args.deps.now d c.loop-n.n low h' in
    let held = ap length (c.loop-n.invariant.each d inside) in
    let room = ap (λ r. get_or r d 0) c.loop-n.invariant.room in
    let counted = c.in_ok-counts.ensures.counts d inside in
    omega (arith, some, held, room, counted)

pub loop-n-preserved : goal.loop-n-preserved
loop-n-preserved c =
    let list : c.row.result.now ≡ row c.args.deps.now c.loop-n.n = c.row.ensures ∙ ap (row c.args.deps.now) c.of-user.ensures in
    record {
      len = c.file_row.ensures.len ∙ c.loop-n.invariant.len;
      each = λ d inside. list_more c.args.deps.now (row c.loop-n.users.lists d) (row c.file_row.new.users.lists d) d c.loop-n.n (c.loop-n.invariant.each d inside)
          (c.file_row.ensures.each d ∙ ap (λ l. if has l d then row c.loop-n.users.lists d ++ c.of-user.result ∷ [] else row c.loop-n.users.lists d) list
          ∙ ap (λ u. if has (row c.args.deps.now c.loop-n.n) d then row c.loop-n.users.lists d ++ u ∷ [] else row c.loop-n.users.lists d) c.of-user.ensures);
      room = c.file_row.ensures.room ∙ c.loop-n.invariant.room;
    }

pub returns : goal.returns
returns c =
    let all : c.loop-n.n ≡ length c.args.deps.now = omega (arith, c.loop-n-test.false, c.len-n-end.ensures, c.loop-n.auto.n-end) in
    c.full.ensures ∙ fill_by_all (users_of c.args.deps.now) c.loop-n.users.lists (length c.args.deps.now) [] c.loop-n.invariant.len
    (λ d inside. c.loop-n.invariant.each d inside ∙ ap (users_among c.args.deps.now d) all)
