-- All modules and all outcomes of a workspace are coherent together.
use Rattle.std.proofs.Common.{◌≡◌, ◌⊎◌, inl, inr, ◌∙◌, ℕ, zero, suc, Bool, true, false, List, [], ◌∷◌, length, Result, Ok, Err, Contains, map, sym, ap, subst, refl, arith}
use Rattle.std.specs.Prelude.{zip}
use Rattle.edges.specs.Outcomes.{AreOutcomes}
use Rattle.edges.specs.Walks.{Cyclic}
use Rattle.edges.proofs.Outcomes.{outcome_keeps}
use Rattle.coherence.specs.Coherent.{Depsets, AreCoherent, AreFresh}
use Rattle.coherence.specs.Together.{given, Keeps, EachKeeps, AllCoherent, IsKept, Fits}
use Rattle.coherence.proofs.Homes.{all_together}
use Rattle.coherence.proofs.Handed.{handed_fits}
use Rattle.one_tree.specs.Found.{Set}
use Rattle.workspace.specs.Labels.{LabelParts, is_label, label_text, same_label}
use Rattle.targets.specs.Checks.{Dependency}
use Rattle.targets.specs.Resolving.{Named, target, source_file, failed_package, nothing, named, named_in, named_dependencies}
use Rattle.targets.specs.Resolving as resolving
use Rattle.targets.specs.Steps.{Implemented, Fault, step}
use Rattle.targets.specs.declared.outcome.Outcome.{Outcome}
use Rattle.targets.specs.declared.target.Target.{Target}
use Rattle.targets.proofs.Facts.{head_in, tail_in, same_label-decides}
use Rattle.outcomes.specs.Found.{id_of, owner_of, has_depset, gave, IsMadeBy}
use Rattle.outcomes.specs.Workspaces.{Workspace, AllAreListed, IsSound, ImplementsWell, IfGiven, handed, dependencies, declared, cycle_of, step_of, outcome_of, graph}
use Rattle.outcomes.proofs.Finite.{finite}
use Rattle.outcomes.proofs.Kept.{IfMade, IfCalled, step_kept}
use Rattle.outcomes.proofs.Kept as kept
use Rattle.outcomes.proofs.Owners.{texts_apart}

with_mapped : (f : LabelParts → Outcome) (ls : List LabelParts) → zip ls (map f ls) ≡ map (λ l. (l, f l)) ls
with_mapped f [] = refl
with_mapped f (l ∷ ls) = ap (λ ds. (l, f l) ∷ ds) (with_mapped f ls)

mapped_contains : {A B : Type 0} (f : A → B) (xs : List A) (x : A) → Contains xs x → Contains (map f xs) (f x)
mapped_contains f [] x c = absurd (omega (arith, c.1))
mapped_contains f (y ∷ ys) x (zero, low, is) = subst (λ z. Contains (map f (y ∷ ys)) (f z)) is (head_in (f y) (map f ys))
mapped_contains f (y ∷ ys) x (suc k, low, is) = tail_in (f y) (map f ys) (f x) (mapped_contains f ys x (k, omega (arith, low), is))

-- what is in a mapped list is of one that is in the list
of_mapped : {A B : Type 0} (f : A → B) (xs : List A) (y : B) → Contains (map f xs) y → (x : A) × Contains xs x × (y ≡ f x)
of_mapped f [] y c = absurd (omega (arith, c.1))
of_mapped f (x ∷ xs) y (zero, low, is) = (x, head_in x xs, sym is)
of_mapped f (x ∷ xs) y (suc k, low, is) =
    let later = of_mapped f xs y (k, omega (arith, low), is) in
    (later.0, tail_in x xs later.0 later.1, later.2)

-- the same promise, of what is the same
made_same : (o : List ℕ) (S T : Depsets Set) (r : Implemented) → ((d : Set) → S d → T d) → ((d : Set) → T d → S d) → IsMadeBy o S r → IsMadeBy o T r
made_same o S T r to from m = record {
  together = λ a b i j e. m.together a b (back a i) (back b j) e;
  theirs = λ d i. elim (m.theirs d i) [ inl g ↦ inl (to d g) | inr new ↦ inr new ];
}
  where
    back : (d : Set) → T d ⊎ gave r d → S d ⊎ gave r d
    back d (inl g) = inl (from d g)
    back d (inr i) = inr i

pub are_outcomes : (w : Workspace) → AllAreListed w → AreOutcomes (dependencies w) (cycle_of w) (step_of w) (outcome_of w)
are_outcomes w listed =
    outcome_keeps (dependencies w) same_label same_label-decides (declared w) (length (declared w)) (omega arith) (finite w listed) (cycle_of w) (step_of w)

module _ (w : Workspace) (sound : IsSound w) where
  module _ (well : ImplementsWell w) where
    abbrev out : LabelParts → Outcome
    out = outcome_of w

    abbrev Given : LabelParts → Depsets Set
    Given t d = given (graph w) t d

    module _ (t : LabelParts) (x : Target) (is : named w.paths w.package_at t ≡ target x) where
      abbrev ds : List Dependency
      ds = zip (resolving.dependencies x) (map out (resolving.dependencies x))

      same_deps : dependencies w t ≡ resolving.dependencies x
      same_deps = ap named_dependencies is

      to : (d : Set) → handed w ds d → Given t d
      to d (inl g) = inl g
      to d (inr o) =
          let c : Contains (map (λ l. (l, out l)) (resolving.dependencies x)) o.0 = subst (λ l. Contains l o.0) (with_mapped out (resolving.dependencies x)) o.1 in
          let u = of_mapped (λ l. (l, out l)) (resolving.dependencies x) o.0 c in
          inr (u.0, subst (λ l. Contains l u.0) (sym same_deps) u.1, subst (λ (p : Dependency). has_depset p.1 d) u.2 o.2)

      from : (d : Set) → Given t d → handed w ds d
      from d (inl g) = inl g
      from d (inr u) =
          let c : Contains (resolving.dependencies x) u.0 = subst (λ l. Contains l u.0) same_deps u.1 in
          inr ((u.0, out u.0), subst (λ l. Contains l (u.0, out u.0)) (sym (with_mapped out (resolving.dependencies x))) (mapped_contains (λ l. (l, out l)) (resolving.dependencies x) u.0 c), u.2)

      module _ (alike : AreCoherent id_of owner_of (Given t)) (fresh : AreFresh id_of owner_of (label_text t) (Given t)) where
        call_made : (r : Result Implemented Fault) → IfGiven w (label_text t) (handed w ds) r → IfMade t (Given t) alike fresh r
        call_made (Ok r) m = made_same (label_text t) (handed w ds) (Given t) r to from m
        call_made (Err f) m = tt

        called : IfMade t (Given t) alike fresh (w.implement t x ds)
        called = call_made (w.implement t x ds) (well t x ds (λ a b i j p. alike a b (to a i) (to b j) p) (λ a i p. fresh a (to a i) p))

    module _ (t : LabelParts) (alike : AreCoherent id_of owner_of (Given t)) (fresh : AreFresh id_of owner_of (label_text t) (Given t)) where
      if_called : (r : Named) → named w.paths w.package_at t ≡ r → IfCalled t (Given t) alike fresh w.implement (map out (named_dependencies r)) r
      if_called nothing is = tt
      if_called failed_package is = tt
      if_called source_file is = tt
      if_called (target x) is = called t x is alike fresh

      is_kept : out t ≡ step_of w t (map out (dependencies w t)) → IsKept (graph w) t
      is_kept steps =
          let r = named w.paths w.package_at t in
          let k : kept.IsKept t (Given t) alike fresh (out t) =
          subst (kept.IsKept t (Given t) alike fresh) (sym steps) (step_kept t (Given t) alike fresh w.implement r (map out (dependencies w t)) (if_called r refl)) in
          record { together = k.together; theirs = k.theirs }

    -- what is no legal label has no depset
    illegal_bare : (t : LabelParts) → is_label t ≡ false → (Cyclic (dependencies w) t → ⊥) → (d : Set) → has_depset (out t) d → ⊥
    illegal_bare t not apart d i =
        let r : named w.paths w.package_at t ≡ nothing = at (is_label t) not in
        let o = (are_outcomes w sound.listed).stepped t apart ∙ ap (λ q. step w.implement t q (map out (dependencies w t))) r in
        subst (λ q. has_depset q d) o i
      where
        at : (b : _) → b ≡ false → ◌≡◌ {A = Named} (elim b [ true ↦ named_in w.paths w.package_at t (w.package_at t.«package») | false ↦ nothing ]) nothing
        at true e = absurd (cc)
        at false e = refl

    other : (t : LabelParts) → (Cyclic (dependencies w) t → ⊥) → (b : Bool) → is_label t ≡ b → ((is_label t ≡ true) × Keeps (graph w) t) ⊎ ((d : Set) → has_depset (out t) d → ⊥)
    other t not true legal = inl (legal, λ a f. is_kept t a f ((are_outcomes w sound.listed).stepped t not))
    other t not false illegal = inr (λ d i. illegal_bare t illegal not d i)

    each : EachKeeps (graph w)
    each = record {
      names = texts_apart;
      base_coherent = sound.coherent;
      base_apart = sound.apart;
      cyclic = λ t c d i. subst (λ q. has_depset q d) ((are_outcomes w sound.listed).cyclic t c) i;
      others = λ t not. other t not (is_label t) refl;
    }

    pub outcomes_together : AllCoherent (graph w)
    outcomes_together = all_together (graph w) each same_label same_label-decides (declared w) (finite w sound.listed)

    pub outcomes_fit : (t : LabelParts) → is_label t ≡ true → Fits (graph w) t (map out (dependencies w t))
    outcomes_fit = handed_fits (graph w) outcomes_together
