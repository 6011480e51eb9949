-- Where each node that runs is settled, the outcomes are those along edges.
use Rattle.std.proofs.Common.{◌≡◌, ℕ, ◌<◌, inl, inr, List, length, map, take, get_or, sym, ap, ◌∙◌, subst, arith}
use Rattle.std.specs.Prelude.{Option, Some, None, unwrap_or}
use Rattle.std.proofs.lemmas.List.{ext_get_or, get_or-map, length-map, get_or_past}
use Rattle.board.specs.Journal.{deps}
use Rattle.board.specs.Views.{ClosedView, told}
use Rattle.edges.specs.Rows.{row, IsOrdered}
use Rattle.edges.proofs.Lists.{below_or_past}
use Rattle.edges.proofs.Ordered.{outcomes_are, found_is}
use Rattle.pool.specs.Gathered.{GatheredView, outcome_in, HasOutcomes}
use Rattle.pool.specs.Settled.{Settled}
use Rattle.pool.proofs.Plans.{row_taken}

-- a list that is f of each element is the mapped list
mapped : {V : Type 0} (f : ℕ → V) (ns : List ℕ) (us : List V) → length us ≡ length ns → ((k : ℕ) (u : V) → k < length ns → get_or us k u ≡ f (get_or ns k 0)) → us ≡ map f ns
mapped f ns us len each =
    ext_get_or (f 0) us (map f ns) (len ∙ sym (length-map ns f))
    (λ k low. let low' : k < length ns = omega arith in each k (f 0) low' ∙ sym (get_or-map f ns k 0 (f 0) low'))

module _ {V : Type 0} (cycle : V) (step : ℕ → List V → V) (fits : ℕ → List V → Type 0) (rows : List (List ℕ)) (acyclic : ℕ) (order : IsOrdered rows acyclic) (c : ClosedView V)
    (settled : (n : ℕ) → n < acyclic → Settled step fits (take acyclic rows) (told c) n) where
  abbrev gathered : GatheredView V
  gathered = record { nodes = length rows; closed = c; cycle = cycle }

  abbrev found : ℕ → V
  found = outcome_in gathered

  of_some : (o : Option V) (v : V) → o ≡ Some v → unwrap_or o cycle ≡ v
  of_some o v e = ap (λ (p : Option V). unwrap_or p cycle) e

  worked : (n : ℕ) → n < acyclic → fits n (map found (row rows n)) → found n ≡ step n (map found (row rows n))
  worked n first fit =
      let s = settled n first in
      let ds : List ℕ = deps (take acyclic rows) n in
      let same : s.stepped.of ≡ map found (row rows n) =
      mapped found ds s.stepped.of s.stepped.dependencies.len (λ k u below. sym (of_some (told c (get_or ds k 0)) (get_or s.stepped.of k u) (s.stepped.dependencies.each k u below)))
      ∙ ap (map found) (row_taken rows acyclic n first) in
      of_some (told c n) s.value s.own ∙ s.stepped.stepped (subst (fits n) (sym same) fit) ∙ ap (step n) same

  pub has_outcomes : length c.known ≡ acyclic → HasOutcomes cycle step fits rows gathered
  has_outcomes size fit n low = elim (below_or_past n acyclic) [
    | inl first ↦ found_is rows (λ _. cycle) step acyclic order.after fits fit found worked n first
    | inr past ↦
        ap (λ (o : Option V). unwrap_or o cycle) (get_or_past c.known n None (let s = size in omega arith))
        ∙ sym ((outcomes_are rows (λ _. cycle) step).cyclic n (order.behind n past low))
  ]
