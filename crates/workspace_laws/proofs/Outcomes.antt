-- What becomes of labels is the same by plain listings.
use Rattle.std.proofs.Common.{◌≡◌, ◌∙◌, inl, inr, ⊎_elim, ℕ, List, [], ◌∷◌, length, map, Option, Some, None, Result, Contains, ap, arith, refl, subst}
use Rattle.std.specs.Prelude.{zip}
use Rattle.edges.proofs.Outcomes.{outcomes_alone}
use Rattle.coherence.specs.Together.{among}
use Rattle.one_tree.specs.Found.{Set}
use Rattle.workspace.specs.Labels.{LabelParts, same_label}
use Rattle.workspace.specs.Workspaces.{Pair, paths_of}
use Rattle.targets.specs.Checks.{Dependency, first_refused}
use Rattle.targets.specs.Resolving.{Named, target, source_file, failed_package, nothing, named, needs}
use Rattle.targets.specs.Resolving as resolving
use Rattle.targets.specs.Steps.{Implemented, Fault, finished, failed_labels, unless_refused, analysed, step}
use Rattle.targets.specs.declared.outcome.Outcome.{Outcome}
use Rattle.targets.specs.declared.outcome.TargetFault.{TargetFault}
use Rattle.targets.specs.declared.target.Target.{Target}
use Rattle.targets.proofs.Facts.{none_in, head_in, tail_in, in_split, same_label-decides}
use Rattle.targets.proofs.NamedTargets.{is_named}
use Rattle.outcomes.specs.Workspaces.{Workspace, IsSound, ImplementsWell, handed, dependencies, declared, cycle_of, step_of, outcome_of, graph}
use Rattle.outcomes.proofs.Finite.{finite}
use Rattle.outcomes.proofs.Together.{are_outcomes, outcomes_fit}
use Rattle.workspace_laws.specs.Found.{in_modules}
use Rattle.packages.specs.Packages.{packages}
use Rattle.workspace_laws.specs.PlainLaws.{DependenciesAreTheSame, OutcomesAreTheSame}
use Rattle.workspace_laws.specs.Workspaces.{implement, plain_workspace, evaluated}
use Rattle.workspace_laws.proofs.Files.{known_same}
use Rattle.workspace_laws.proofs.Packages.{packages_same}
use Rattle.workspace_laws.proofs.Sound.{is_sound, implements_well}
use Rattle.workspace_laws.proofs.Targets.{calls_same}

-- ---- a step by another implementation

-- the outcomes of dependencies are those that were handed in
outcome_in : (ls : List LabelParts) (us : List Outcome) (o : Dependency) → Contains (zip ls us) o → Contains us o.1
outcome_in [] us o c = absurd (none_in o c)
outcome_in (l ∷ ls) [] o c = absurd (none_in o c)
outcome_in (l ∷ ls) (u ∷ us) o c =
    ⊎_elim (λ e. subst (λ (p : Dependency). Contains (u ∷ us) p.1) e (head_in u us))
    (λ later. tail_in u us o.1 (outcome_in ls us o later)) (in_split (l, u) (zip ls us) o c)

module _ (one other : LabelParts → Target → List Dependency → Result Implemented Fault) (l : LabelParts) where
  unless_same : (t : Target) (ds : List Dependency) (o : Option TargetFault) → one l t ds ≡ other l t ds
      → unless_refused one l t ds o ≡ unless_refused other l t ds o
  unless_same t ds (Some f) same = refl
  unless_same t ds None same = ap (finished l) same

  analysed_same : (t : Target) (ds : List Dependency) (fs : List LabelParts) → one l t ds ≡ other l t ds
      → analysed one l t ds fs ≡ analysed other l t ds fs
  analysed_same t ds (f ∷ fs) same = refl
  analysed_same t ds [] same = unless_same t ds (first_refused ds t.rule.attributes t.values) same

  step_same : (n : Named) (us : List Outcome)
      → ((t : Target) → n ≡ target t → let ds = zip (resolving.dependencies t) us in one l t ds ≡ other l t ds)
      → step one l n us ≡ step other l n us
  step_same nothing us same = refl
  step_same failed_package us same = refl
  step_same source_file us same = refl
  step_same (target t) us same =
      let ds = zip (resolving.dependencies t) us in analysed_same t ds (failed_labels ds) (same t refl)

module _ (files : List Pair) (limit : ℕ) where
  abbrev w : Workspace
  w = evaluated files limit

  pub dependencies_same : DependenciesAreTheSame files limit
  dependencies_same = ap (needs (paths_of files)) (packages_same files limit)

  -- the same packages, with implementations by plain listings
  abbrev half : Workspace
  half = record w { implement = implement files limit }

  half_same : half ≡ plain_workspace files limit
  half_same = λ i. record {
    paths = paths_of files;
    packages = packages files limit;
    package_at = packages_same files limit i;
    implement = implement files limit;
    known = in_modules (known_same files limit i) (paths_of files);
  }

  module _ (sound : IsSound w) (well : ImplementsWell w) (l : LabelParts) where
    abbrev us : List Outcome
    us = map (outcome_of w) (dependencies w l)

    from : (ls : List LabelParts) (d : Set) → handed w (zip ls us) d → among (graph w) us d
    from ls d (inl i) = inl i
    from ls d (inr o) = inr (o.0.1, outcome_in ls us o.0 o.1, o.2)

    steps_same : step_of w l us ≡ step_of half l us
    steps_same =
        step_same w.implement half.implement l (named w.paths w.package_at l) us (λ t is.
        let fits = outcomes_fit w sound well l (is_named w.paths w.package_at l t is).legal in
        let ls = resolving.dependencies t in
        calls_same files limit l t (zip ls us) (λ a b i j e. fits.coherent a b (from ls a i) (from ls b j) e)
        (λ a i e. fits.fresh a (from ls a i) e))

  pub outcomes_same : OutcomesAreTheSame files limit
  outcomes_same workspace legal are = (λ i l. each l i) ∙ ap outcome_of half_same
    where
      sound : IsSound w
      sound = is_sound files limit workspace legal are

      each : (l : LabelParts) → outcome_of w l ≡ outcome_of half l
      each l =
          let so = are_outcomes w sound.listed in
          outcomes_alone (dependencies w) same_label same_label-decides (declared w) (length (declared w)) (omega arith)
          (finite w sound.listed) (cycle_of w) (step_of half) (outcome_of w) (outcome_of half)
          (record {
            cyclic = so.cyclic;
            stepped = λ t apart. so.stepped t apart ∙ steps_same sound (implements_well files limit) t;
          })
          (are_outcomes half sound.listed) l
