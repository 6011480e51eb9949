use Rattle.std.proofs.Common.{◌≡◌, ℕ, ◌<◌, List, length, map, ap, ◌∙◌, arith}
use Rattle.std.specs.List.{range_with_len}
use Rattle.edges.specs.Rows.{row, users_of}
use Rattle.edges.specs.Edges.{EdgesView}
use Rattle.edges.proofs.Turns.{users_at}
use Rattle.edges.proofs.edges.Edges.users.Goals as goal

-- the row of a node among the users of a graph that is seen so
seen : (deps users : List (List ℕ)) (acyclic n : ℕ) (v : EdgesView) → record { deps = deps; acyclic = acyclic } ≡ v → users ≡ map (users_of deps) (range_with_len 0 (length deps)) → n < length v.deps → (n < length users) × (row users n ≡ users_of v.deps n)
seen deps users acyclic n v view is low =
    let at = users_at deps users n is (omega (arith, low, ap (λ w. length w.deps) view)) in
    (at.0, at.1 ∙ ap (λ w. users_of w.deps n) view)

pub row-requires : goal.row-requires
row-requires c = record { node = (seen c.self.inside.deps c.self.inside.users c.self.inside.acyclic c.args.n c.args.self.now c.self.view_is c.self.invariant.users_are c.requires.node).0 }

pub returns : goal.returns
returns c = c.row.ensures ∙ (seen c.self.inside.deps c.self.inside.users c.self.inside.acyclic c.args.n c.args.self.now c.self.view_is c.self.invariant.users_are c.requires.node).1
