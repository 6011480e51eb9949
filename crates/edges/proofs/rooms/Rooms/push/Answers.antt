use Rattle.std.proofs.Common.{◌≡◌, ℕ, ◌+◌, ◌<◌, ◌∷◌, ◌++◌, [], List, length, get_or, set, ap, ◌∙◌, arith, sym, subst}
use Rattle.std.proofs.lemmas.List.{get_or_default}
use Rattle.edges.specs.Rows.{row}
use Rattle.edges.specs.Rooms.{RoomsView, filled, rooms, IsRoomy}
use Rattle.edges.proofs.Filling.{has_room, filled_len, filled_push, roomy_push}
use Rattle.edges.proofs.rooms.Rooms.push.Goals as goal

module _ (starts ends entries : List ℕ) (v : RoomsView) (n m : ℕ) (is : IsRoomy starts ends entries) (view : record { lists = filled starts ends entries; room = rooms starts (length ends) } ≡ v) (node : n < length v.lists) (same : m ≡ n) where
  node_in : m < length ends
  node_in = omega (arith, node, ap (λ w. length w.lists) view, filled_len starts ends entries, same)

  module _ (some : length (row v.lists n) < get_or v.room n 0) (end : ℕ) (read : end ≡ get_or ends m end) where
    end_is : end ≡ get_or ends n 0
    end_is = read ∙ get_or_default ends m end 0 node_in ∙ ap (λ k. get_or ends k 0) same

    free : (get_or ends n 0 < get_or starts (n + 1) 0) × (get_or ends n 0 < length entries)
    free = has_room starts ends entries is n (let low = node_in in omega (arith, low, same)) (subst (λ w. length (row w.lists n) < get_or w.room n 0) (sym view) some)

    end_in : end < length entries
    end_in = omega (arith, end_is, free.1)

    here : n < length ends
    here = let low = node_in in omega (arith, low, same)

    stays : (e : ℕ) → IsRoomy starts (set ends m (end + 1)) (set entries end e)
    stays e = subst (λ k. IsRoomy starts (set ends k (end + 1)) (set entries end e)) (sym same)
        (subst (λ k. IsRoomy starts (set ends n (k + 1)) (set entries k e)) (sym end_is) (roomy_push starts ends entries is n e here free.0))

    grown : (e : ℕ) → filled starts (set ends m (end + 1)) (set entries end e) ≡ set v.lists n (row v.lists n ++ e ∷ [])
    grown e =
        ap (λ k. filled starts (set ends k (end + 1)) (set entries end e)) same
        ∙ ap (λ k. filled starts (set ends n (k + 1)) (set entries k e)) end_is
        ∙ filled_push starts ends entries is n e here free.0
        ∙ ap (λ w. set w.lists n (row w.lists n ++ e ∷ [])) view

pub index-end-requires : goal.index-end-requires
index-end-requires c = let low = node_in c.self.inside.starts.items c.self.inside.ends.items c.self.inside.entries.items c.args.self.now c.args.n c.number-n.result c.self.invariant c.self.view_is c.requires.node c.number-n.ensures in omega (arith, low, c.self.inside.ends.ok.0)

pub index_mut-requires : goal.index_mut-requires
index_mut-requires c =
    let low = end_in c.self.inside.starts.items c.self.inside.ends.items c.self.inside.entries.items c.args.self.now c.args.n c.number-n.result c.self.invariant c.self.view_is c.requires.node c.number-n.ensures c.requires.room c.index-end.result.now c.index-end.ensures in
    omega (arith, low, c.self.inside.entries.ok.0)

pub overflow_add-end : goal.overflow_add-end
overflow_add-end c =
    let low = end_in c.self.inside.starts.items c.self.inside.ends.items c.self.inside.entries.items c.args.self.now c.args.n c.number-n.result c.self.invariant c.self.view_is c.requires.node c.number-n.ensures c.requires.room c.index-end.result.now c.index-end.ensures in
    omega (arith, low, c.self.inside.entries.ok.0, c.self.inside.entries.ok.1, c.self.inside.entries.small)

pub index_mut-requires-2 : goal.index_mut-requires-2
index_mut-requires-2 c = let low = node_in c.self.inside.starts.items c.self.inside.ends.items c.self.inside.entries.items c.args.self.now c.args.n c.number-n.result c.self.invariant c.self.view_is c.requires.node c.number-n.ensures in omega (arith, low, c.self.inside.ends.ok.0)

pub invariant_of-self : goal.invariant_of-self
invariant_of-self c =
    stays c.self.inside.starts.items c.self.inside.ends.items c.self.inside.entries.items c.args.self.now c.args.n c.number-n.result c.self.invariant c.self.view_is c.requires.node c.number-n.ensures c.requires.room c.index-end.result.now c.index-end.ensures c.args.entry

pub returns-clause-lists : goal.returns-clause-lists
returns-clause-lists c =
    grown c.self.inside.starts.items c.self.inside.ends.items c.self.inside.entries.items c.args.self.now c.args.n c.number-n.result c.self.invariant c.self.view_is c.requires.node c.number-n.ensures c.requires.room c.index-end.result.now c.index-end.ensures c.args.entry
