use Rattle.std.proofs.Common.{◌≡◌, ◌∷◌, [], List, ℕ, length, rules, subst, sym}
use Rattle.edges.specs.Rows.{IsGraph, IsOrdered}
use Rattle.pool_tests.proofs.TwoNodes.{pair, pair_graph, pair_order}
use Rattle.pool_tests.proofs.pair.two.Goals as goal

pub in_order-requires : goal.in_order-requires
in_order-requires c =
    let e : c.push-2.new.self ≡ pair = search rules in
    record { graph = subst IsGraph (sym e) pair_graph; order = subst (λ (p : List (List ℕ)). IsOrdered p (length p)) (sym e) pair_order }
