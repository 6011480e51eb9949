use Rattle.std.proofs.Common.{◌≡◌, ℕ, ◌<◌, ◌↔◌, List, length, ap, subst, arith, inl, inr, IsTrue, leb, leb-true, le-leb}
use Rattle.edges.specs.Walks.{Cyclic}
use Rattle.edges.specs.Rows.{row, IsOrdered}
use Rattle.edges.specs.Edges.{EdgesView}
use Rattle.edges.proofs.Lists.{below_or_past}
use Rattle.edges.proofs.Renumbering.{first_apart}
use Rattle.edges.proofs.edges.Edges.cyclic.Goals as goal

-- the cyclic nodes are those behind
behind : (deps : List (List ℕ)) (acyclic n m : ℕ) (v : EdgesView) → record { deps = deps; acyclic = acyclic } ≡ v → IsOrdered deps acyclic → n < length v.deps → m ≡ n → IsTrue (leb acyclic m) ↔ Cyclic (row v.deps) n
behind deps acyclic n m v view order low same =
    subst (λ w. IsTrue (leb acyclic m) ↔ Cyclic (row w.deps) n) view (
      λ past. order.behind n (let e = leb-true acyclic m past in omega (arith, e, same)) (omega (arith, low, ap (λ w. length w.deps) view)),
      λ cyclic. elim (below_or_past n acyclic) [
        | inl first ↦ absurd (first_apart deps acyclic order.after n first cyclic)
        | inr past ↦ le-leb acyclic m (omega (arith, past, same))
      ],
    )

pub returns : goal.returns
returns c = behind c.self.inside.deps c.self.inside.acyclic c.args.n c.number.result c.args.self.now c.self.view_is c.self.invariant.order c.requires.node c.number.ensures
