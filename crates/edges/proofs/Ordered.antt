-- In a graph that stands in order: what is the step at each node that is not cyclic, wherever that fits, is the outcome.
use Rattle.std.proofs.Common.{◌≡◌, ℕ, zero, suc, ◌<◌, true, List, length, map, sym, ap, ◌∙◌, subst, arith}
use Rattle.std.specs.Prelude.{nat_eq}
use Rattle.std.specs.List.{range_with_len}
use Rattle.std.specs.Cmp.{unsigned_Decides}
use Rattle.edges.specs.Rows.{row, has}
use Rattle.edges.specs.Outcomes.{AreOutcomes, AllFit, outcome_of}
use Rattle.edges.proofs.Tests.{map_same}
use Rattle.edges.proofs.Lists.{to_has, finite, few}
use Rattle.edges.proofs.Outcomes.{outcome_keeps}
use Rattle.edges.proofs.Renumbering.{first_apart}

module _ {V : Type 0} (deps : List (List ℕ)) (cycle : ℕ → V) (step : ℕ → List V → V) where
  pub outcomes_are : AreOutcomes (row deps) cycle step (outcome_of deps cycle step)
  outcomes_are = outcome_keeps (row deps) nat_eq unsigned_Decides (range_with_len 0 (length deps)) (length deps) (few deps) (finite deps) cycle step

  module _ (acyclic : ℕ) (after : (n d : ℕ) → n < acyclic → has (row deps n) d ≡ true → d < n) where
    module _ (fits : ℕ → List V → Type 0) (fit : AllFit (row deps) cycle step fits (outcome_of deps cycle step)) (found : ℕ → V)
        (worked : (n : ℕ) → n < acyclic → fits n (map found (row deps n)) → found n ≡ step n (map found (row deps n))) where
      found_below : (m n : ℕ) → n < m → n < acyclic → found n ≡ outcome_of deps cycle step n
      found_below zero n low first = absurd (omega (arith, low))
      found_below (suc m) n low first =
          let apart = first_apart deps acyclic after n first in
          let alike : map found (row deps n) ≡ map (outcome_of deps cycle step) (row deps n) =
          map_same found (outcome_of deps cycle step) (row deps n)
          (λ d there. let down = after n d first (to_has (row deps n) d there) in found_below m d (omega (arith, down, low)) (omega (arith, down, first))) in
          worked n first (subst (fits n) (sym alike) (fit n apart)) ∙ ap (step n) alike ∙ sym (outcomes_are.stepped n apart)

      pub found_is : (n : ℕ) → n < acyclic → found n ≡ outcome_of deps cycle step n
      found_is n first = found_below (suc n) n (omega arith) first

    -- what is the step at each of these nodes
    pub stepped_is : (out : ℕ → V) → ((n : ℕ) → n < acyclic → out n ≡ step n (map out (row deps n))) → (n : ℕ) → n < acyclic → out n ≡ outcome_of deps cycle step n
    stepped_is out stepped = found_is (λ n us. Unit {0}) (λ t apart. tt) out (λ n first fits. stepped n first)
