-- The outcome of a node keeps its laws, nothing else does, and work that is the step wherever its dependencies' outcomes fit finds it.
use Rattle.std.proofs.Common.{◌≡◌, ℕ, zero, suc, ◌≤◌, inl, inr, Bool, true, false, List, length, map, Contains, sym, ap, ◌∙◌, subst, arith, Decides, true≢false}
use Rattle.std.specs.List.{list_any}
use Rattle.edges.specs.Walks.{Cyclic, goes_on, is_cyclic}
use Rattle.edges.specs.Outcomes.{AreOutcomes, AreFound, AllFit, outcome_within, outcome}
use Rattle.edges.proofs.Tests.{cases_of, map_same}
use Rattle.edges.proofs.Cycles.{cyclic_endless, ends_next, ends_apart, cyclic_from_test, test_ends}

module _ {L : Type 0} (deps : L → List L) (same : L → L → Bool) (decides : (a b : L) → Decides (same a b) (a ≡ b)) (declared : List L) (nodes : ℕ) (few : length declared ≤ nodes)
    (finite : (t d : L) → Contains (deps t) d → list_any (same t) declared ≡ true) where
  module _ {V : Type 0} (cycle : L → V) (step : L → List V → V) where
    chosen : (n : ℕ) (t : L) (b : Bool) → V
    chosen n t b = elim b [ true ↦ cycle t | false ↦ step t (map (outcome_within deps cycle step nodes n) (deps t)) ]

    stepped : (n : ℕ) (t : L) → (Cyclic deps t → ⊥) → outcome_within deps cycle step nodes (suc n) t ≡ step t (map (outcome_within deps cycle step nodes n) (deps t))
    unfolding chosen
    stepped n t apart = ap (chosen n t) (test_ends deps same decides declared nodes few finite t apart)

    -- any two numbers of edges that no walk from t exceeds give one outcome
    steady : (n f e : ℕ) (t : L) → goes_on deps n t ≡ false → n ≤ f → n ≤ e → outcome_within deps cycle step nodes f t ≡ outcome_within deps cycle step nodes e t
    steady zero f e t ends low low' = absurd (true≢false ends)
    steady (suc n) zero e t ends low low' = absurd (omega arith)
    steady (suc n) (suc f) zero t ends low low' = absurd (omega arith)
    steady (suc n) (suc f) (suc e) t ends low low' =
        let apart = ends_apart deps (suc n) t ends in
        stepped f t apart
        ∙ ap (step t) (map_same (outcome_within deps cycle step nodes f) (outcome_within deps cycle step nodes e) (deps t)
        (λ d has. steady n f e d (ends_next deps n t d has ends) (omega arith) (omega arith)))
        ∙ sym (stepped e t apart)

    -- a node that isn't cyclic has the step over its dependencies' outcomes
    outcome_steps : (t : L) → (Cyclic deps t → ⊥) → outcome deps cycle step nodes t ≡ step t (map (outcome deps cycle step nodes) (deps t))
    outcome_steps t apart =
        let ends = test_ends deps same decides declared nodes few finite t apart in
        stepped nodes t apart
        ∙ ap (step t) (map_same (outcome_within deps cycle step nodes nodes) (outcome deps cycle step nodes) (deps t)
        (λ d has. steady nodes nodes (suc nodes) d (ends_next deps nodes t d has ends) (omega arith) (omega arith)))

    outcome_cycles : (t : L) → Cyclic deps t → outcome deps cycle step nodes t ≡ cycle t
    unfolding chosen
    outcome_cycles t cyclic = ap (chosen nodes t) (cyclic_endless deps t cyclic (suc nodes))

    pub outcome_keeps : AreOutcomes deps cycle step (outcome deps cycle step nodes)
    outcome_keeps = record { cyclic = outcome_cycles; stepped = outcome_steps }

    module _ (fits : L → List V → Type 0) where
      -- what two ways of work found is the same, where the outcomes of the one fit
      found_within : (found out : L → V) → AreFound deps cycle step fits found → AreOutcomes deps cycle step out → AllFit deps cycle step fits out
          → (n : ℕ) (t : L) → goes_on deps n t ≡ false → found t ≡ out t
      found_within found out is are fit zero t ends = absurd (true≢false ends)
      found_within found out is are fit (suc n) t ends =
          let apart = ends_apart deps (suc n) t ends in
          let alike : map found (deps t) ≡ map out (deps t) = map_same found out (deps t) (λ d has. found_within found out is are fit n d (ends_next deps n t d has ends)) in
          is.worked t apart (subst (fits t) (sym alike) (fit t apart)) ∙ ap (step t) alike ∙ sym (are.stepped t apart)

      pub found_outcomes : (found out : L → V) → AreFound deps cycle step fits found → AreOutcomes deps cycle step out → AllFit deps cycle step fits out → (t : L) → found t ≡ out t
      found_outcomes found out is are fit t = elim (cases_of (is_cyclic deps nodes t)) [
        | inl holds ↦ let cyclic = cyclic_from_test deps same decides declared nodes few finite t holds in is.cyclic t cyclic ∙ sym (are.cyclic t cyclic)
        | inr ends ↦ found_within found out is are fit (suc nodes) t ends
      ]

    -- no other function has these laws
    pub outcomes_alone : (other out : L → V) → AreOutcomes deps cycle step other → AreOutcomes deps cycle step out → (t : L) → other t ≡ out t
    outcomes_alone other out is are = found_outcomes (λ t us. Unit {0}) other out (record { cyclic = is.cyclic; worked = λ t apart fits. is.stepped t apart }) are (λ t apart. tt)
