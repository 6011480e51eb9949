-- The outcomes of nodes are those of their labels.
use Rattle.std.proofs.Common.{◌≡◌, ℕ, zero, suc, ◌<◌, inl, inr, false, List, [], ◌∷◌, length, map, sym, ap, ◌∙◌, arith, refl, true≢false}
use Rattle.std.specs.Prelude.{nat_eq}
use Rattle.std.specs.List.{range_with_len}
use Rattle.std.specs.Cmp.{unsigned_Decides}
use Rattle.workspace.specs.Labels.{LabelParts}
use Rattle.edges.specs.Walks.{goes_on, is_cyclic}
use Rattle.edges.specs.Rows.{row}
use Rattle.edges.specs.Outcomes.{AreOutcomes}
use Rattle.edges.proofs.Tests.{cases_of}
use Rattle.edges.proofs.Lists.{from_has, finite, few}
use Rattle.edges.proofs.Cycles.{ends_next, ends_apart, cyclic_from_test}
use Rattle.graph.specs.Same.{label_at}
use Rattle.graph.specs.Graphs.{GraphView, IsGraphOf}
use Rattle.graph.specs.Laws.{Needs, Step}
use Rattle.graph.proofs.Carried.{map_same}

map_through : {V : Type 0} (out : LabelParts → V) (f : ℕ → LabelParts) (ns : List ℕ) → map out (map f ns) ≡ map (λ n. out (f n)) ns
map_through out f [] = refl
map_through out f (n ∷ ns) = ap (λ l. out (f n) ∷ l) (map_through out f ns)

module _ {V : Type 0} (needs : Needs) (asked : List LabelParts) (g : GraphView) (cycle : LabelParts → V) (step : Step V) (is : IsGraphOf needs asked g) (out : LabelParts → V) (found : ℕ → V) (are : AreOutcomes needs cycle step out)
    (by : AreOutcomes (row g.edges.deps) (λ n. cycle (label_at g.labels n)) (λ n. step (label_at g.labels n)) found) where
  within : (m n : ℕ) → n < length g.labels → goes_on (row g.edges.deps) m n ≡ false → found n ≡ out (label_at g.labels n)
  within zero n low ends = absurd (true≢false ends)
  within (suc m) n low ends =
      let apart = ends_apart (row g.edges.deps) (suc m) n ends in
      let here = by.stepped n apart in
      let there = are.stepped (label_at g.labels n) (λ c. apart ((is.cyclic n low).1 c)) in
      let each : map found (row g.edges.deps n) ≡ map (λ d. out (label_at g.labels d)) (row g.edges.deps n) =
      map_same found (λ d. out (label_at g.labels d)) (row g.edges.deps n) (λ d h.
      let inside = is.graph.inside n d h in
      let size = is.size in
      within m d (omega (arith, inside, size)) (ends_next (row g.edges.deps) m n d (from_has (row g.edges.deps n) d h) ends)) in
      here
      ∙ ap (step (label_at g.labels n)) (each ∙ sym (map_through out (label_at g.labels) (row g.edges.deps n)) ∙ ap (map out) (is.deps n low))
      ∙ sym there

  pub of_labels : (n : ℕ) → n < length g.labels → found n ≡ out (label_at g.labels n)
  of_labels n low = elim (cases_of (is_cyclic (row g.edges.deps) (length g.edges.deps) n)) [
    | inl holds ↦
        let c = cyclic_from_test (row g.edges.deps) nat_eq unsigned_Decides (range_with_len 0 (length g.edges.deps)) (length g.edges.deps) (few g.edges.deps) (finite g.edges.deps) n holds in
        by.cyclic n c ∙ sym (are.cyclic (label_at g.labels n) ((is.cyclic n low).0 c))
    | inr ends ↦ within (suc (length g.edges.deps)) n low ends
  ]
