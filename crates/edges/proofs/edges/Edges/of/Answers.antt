use Rattle.std.proofs.Common.{◌≡◌, ℕ, ◌<◌, List, length, get_or, sym, ap, ◌∙◌, subst}
use Rattle.edges.specs.Rows.{IsGraph, IsOrdered, IsRenumbered}
use Rattle.edges.specs.Orders.{IsOrder, replaced}
use Rattle.edges.proofs.Renumbering.{new_graph, new_numbers, new_order}
use Rattle.edges.proofs.edges.Edges.of.Goals as goal

-- what the new rows are, whichever way the order was lent
record Renewed (given deps : List (List ℕ)) (order : List ℕ) (acyclic : ℕ) : Type 0 where
  graph : IsGraph deps
  order_is : IsOrdered deps acyclic
  same : IsRenumbered given order deps

renewed : (given deps : List (List ℕ)) (order lent lent' places lent'' : List ℕ) (acyclic : ℕ) → IsGraph given → IsOrder given order acyclic → lent ≡ order → lent' ≡ order → lent'' ≡ places
    → ((k : ℕ) → k < length lent → get_or places (get_or lent k 0) 0 ≡ k) → deps ≡ replaced given lent' lent'' → Renewed given deps order acyclic
renewed given deps order lent lent' places lent'' acyclic is_graph is from from' to placed made =
    let placed' : (k : ℕ) → k < length order → get_or places (get_or order k 0) 0 ≡ k = subst (λ xs. (k : ℕ) → k < length xs → get_or places (get_or xs k 0) 0 ≡ k) from placed in
    let e : deps ≡ replaced given order places = made ∙ ap (λ xs. replaced given xs lent'') from' ∙ ap (replaced given order) to in
    record {
      graph = subst IsGraph (sym e) (new_graph given is_graph order acyclic is places placed');
      order_is = subst (λ d. IsOrdered d acyclic) (sym e) (new_order given is_graph order acyclic is places placed');
      same = subst (IsRenumbered given order) (sym e) (new_numbers given is_graph order acyclic is places placed');
    }

pub with_users-requires : goal.with_users-requires
with_users-requires c =
    let r = renewed c.args.given c.in_ok-deps.deps c.in_ok-origin.origin.items c.deref.result.now c.deref-2.result.now c.in_ok-places.places.items c.deref-3.result.now c.in_ok-origin.acyclic c.requires.graph c.in_ok-origin.ensures c.deref.ensures.value c.deref-2.ensures.value c.deref-3.ensures.value c.in_ok-places.ensures.places c.in_ok-deps.ensures in
    record { graph = r.graph; order = r.order_is }

pub returns : goal.returns
returns c = record {
  same =
      subst (IsRenumbered c.args.given c.in_ok-origin.origin.items) (sym c.in_ok-edges.ensures.deps)
      (renewed c.args.given c.in_ok-deps.deps c.in_ok-origin.origin.items c.deref.result.now c.deref-2.result.now c.in_ok-places.places.items c.deref-3.result.now c.in_ok-origin.acyclic c.requires.graph c.in_ok-origin.ensures c.deref.ensures.value c.deref-2.ensures.value c.deref-3.ensures.value c.in_ok-places.ensures.places c.in_ok-deps.ensures).same;
}
