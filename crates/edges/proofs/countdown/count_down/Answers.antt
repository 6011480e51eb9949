use Rattle.std.proofs.Common.{◌≡◌, ℕ, ◌+◌, ◌-◌, ◌<◌, ◌≤◌, List, length, get_or, take, ap, ◌∙◌, arith}
use Rattle.edges.specs.Rows.{has, users_of}
use Rattle.edges.specs.Counting.{Counting, zeros}
use Rattle.edges.proofs.Turns.{users_at, starts_counting, order_within, finishes, turn_of}
use Rattle.edges.proofs.countdown.count_down.Goals as goal

-- the node at a place in order
turn : (deps : List (List ℕ)) (order left : List ℕ) (at node len : ℕ) → Counting deps (λ d v. has (take at order) d) order left → at < len → len ≡ length order → node ≡ get_or order at node
    → (node ≡ get_or order at 0) × (node < length deps) × (at < length order) × (length order ≤ length deps)
turn deps order left at node len was low is read =
    let inside : at < length order = omega (arith, low, is) in
    let t = turn_of deps order left at node was inside read in
    (t.0, t.1, inside, order_within deps (λ d v. has (take at order) d) order left was)

pub loop-at-init : goal.loop-at-init
loop-at-init c = record {
  counting = starts_counting c.args.deps.now c.in_ok-left.left.items c.in_ok-order.order.items c.in_ok-left.ensures (c.in_ok-order.ensures ∙ ap zeros c.deref.ensures.value);
  within = omega arith;
}

pub row-requires : goal.row-requires
row-requires c =
    let t = turn c.args.deps.now c.loop-at.order.items c.loop-at.left.items c.loop-at.at c.index-node.result.now c.len.result c.loop-at.invariant.counting c.loop-at-test.true (c.len.ensures ∙ c.loop-at.order.ok.0) c.index-node.ensures in
    record { node = (users_at c.args.deps.now c.args.users.now c.index-node.result.now c.requires.users t.1).0 }

pub settle-requires-clause-users : goal.settle-requires-clause-users
settle-requires-clause-users c =
    let t = turn c.args.deps.now c.loop-at.order.items c.loop-at.left.items c.loop-at.at c.index-node.result.now c.len.result c.loop-at.invariant.counting c.loop-at-test.true (c.len.ensures ∙ c.loop-at.order.ok.0) c.index-node.ensures in
    c.row.ensures ∙ (users_at c.args.deps.now c.args.users.now c.index-node.result.now c.requires.users t.1).1 ∙ ap (users_of c.args.deps.now) t.0

pub loop-at-smaller : goal.loop-at-smaller
loop-at-smaller c =
    let t = turn c.args.deps.now c.loop-at.order.items c.loop-at.left.items c.loop-at.at c.index-node.result.now c.len.result c.loop-at.invariant.counting c.loop-at-test.true (c.len.ensures ∙ c.loop-at.order.ok.0) c.index-node.ensures in
    shrinks (length c.args.deps.now) c.loop-at.at (omega (arith, t.2, t.3))
  where
    shrinks : (n at : ℕ) → at < n → n - (at + 1) < n - at
    shrinks n at low = omega (arith, low)

pub returns : goal.returns
returns c = finishes c.args.deps.now c.loop-at.order.items c.loop-at.left.items c.loop-at.at c.loop-at.invariant.counting (omega (arith, c.loop-at-test.false, c.len.ensures, c.loop-at.order.ok.0))
