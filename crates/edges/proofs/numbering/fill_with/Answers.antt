use Rattle.std.proofs.Common.{◌≡◌, ℕ, ◌+◌, ◌<◌, ◌∷◌, ◌++◌, [], true, List, length, map, take, get_or, sym, ap, ◌∙◌, subst, rules}
use Rattle.std.proofs.lemmas.List.{get_or_read, map_more}
use Rattle.edges.specs.Rows.{has}
use Rattle.edges.proofs.Lists.{has-get_or}
use Rattle.edges.proofs.numbering.fill_with.Goals as goal

-- the place that was read of a node that was read
inside : (nodes places : List ℕ) (i x y : ℕ) → ((d : ℕ) → has nodes d ≡ true → d < length places) → i < length nodes → x ≡ get_or nodes i x → y ≡ x → y < length places
inside nodes places i x y all low read named =
    let e = get_or_read nodes i x low read 0 in
    subst (λ z. z < length places) (sym (named ∙ e)) (all (get_or nodes i 0) (has-get_or nodes i low))

more : (nodes places was now : List ℕ) (i x y p : ℕ) → i < length nodes → x ≡ get_or nodes i x → y ≡ x → y < length places → p ≡ get_or places y p → was ≡ map (λ k. get_or places k 0) (take i nodes) → now ≡ was ++ p ∷ [] → now ≡ map (λ k. get_or places k 0) (take (i + 1) nodes)
more nodes places was now i x y p low read named in_ at older is =
    let e = get_or_read nodes i x low read 0 in
    is ∙ ap (λ xs. xs ++ p ∷ []) older ∙ ap (λ q. map (λ k. get_or places k 0) (take i nodes) ++ q ∷ []) (get_or_read places y p in_ at 0 ∙ ap (λ k. get_or places k 0) (named ∙ e))
    ∙ sym (map_more (λ k. get_or places k 0) nodes i 0 low)

pub bounds-places-number : goal.bounds-places-number
bounds-places-number c = inside c.args.nodes.now c.args.places.now c.loop-node.node-index c.node-item.result c.number.result c.requires.inside c.loop-node-test.true c.node-item.is c.number.ensures

pub offset_bounds-places-number : goal.offset_bounds-places-number
offset_bounds-places-number c =
    let low : c.number.result < length c.args.places.now = inside c.args.nodes.now c.args.places.now c.loop-node.node-index c.node-item.result c.number.result c.requires.inside c.loop-node-test.true c.node-item.is c.number.ensures in
    search rules

pub loop-node-preserved : goal.loop-node-preserved
loop-node-preserved c =
    more c.args.nodes.now c.args.places.now c.loop-node.list.items c.push.new.self.items c.loop-node.node-index c.node-item.result c.number.result c.index-places-number.result c.loop-node-test.true c.node-item.is c.number.ensures
    (inside c.args.nodes.now c.args.places.now c.loop-node.node-index c.node-item.result c.number.result c.requires.inside c.loop-node-test.true c.node-item.is c.number.ensures)
    c.index-places-number.is c.loop-node.invariant c.in_ok-push.ensures.items
