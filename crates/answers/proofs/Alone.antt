-- An answer can be seen label by label: what is told of a label follows from what is told of its dependencies; and what is so of each label is an answer.
use Rattle.std.proofs.Common.{◌≡◌, ◌∙◌, ℕ, zero, suc, inl, inr, true, false, List, [], ◌∷◌, map, length, Contains, Option, Some, None, Result, Ok, Err, ap, sym, subst, arith, refl, true≢false}
use Rattle.std.specs.Option.{option_or}
use Rattle.std.specs.Prelude.{zip}
use Rattle.std.specs.List.{AllByRecursion}
use Rattle.std.proofs.lemmas.List.Elements.{All-contains, All-from_recursion}
use Rattle.edges.specs.Walks.{Cyclic, Walk, goes_on, is_cyclic}
use Rattle.edges.proofs.Cycles.{cyclic_from_test, ends_apart, ends_next}
use Rattle.edges.proofs.Tests.{cases_of, map_same}
use Rattle.values.specs.View.{FrozenTree}
use Rattle.actions.specs.declared.action.Action.{Action}
use Rattle.workspace.specs.Labels.{LabelParts, same_label}
use Rattle.workspace.specs.Workspaces.{Pair}
use Rattle.targets.specs.Attributes.{labels_in}
use Rattle.targets.specs.Checks.{Dependency, dependency_of, first_in_value, first_refused, offers_enough, refusal, refused, takes_file}
use Rattle.targets.specs.Resolving.{Named, Package, dependencies as needs_of, failed_package, named, nothing, source_file, target}
use Rattle.targets.specs.Steps.{Fault, Implemented, analysed, failed_labels, finished, first_unmade, instances_in, made_whole, step, unless_refused, with_instances}
use Rattle.targets.specs.declared.attributes.AttributeValue.{AttributeValue}
use Rattle.targets.specs.declared.attributes.NamedAttribute.{NamedAttribute}
use Rattle.targets.specs.declared.outcome.Outcome.{Outcome}
use Rattle.targets.specs.declared.outcome.Outcome.TheVariants.{Done, Failed, Source}
use Rattle.targets.specs.declared.outcome.TargetFault.{TargetFault}
use Rattle.targets.specs.declared.outcome.TargetFault.TheVariants as fault
use Rattle.targets.specs.declared.target.Target.{Target}
use Rattle.targets.proofs.Facts.{same_label-decides}
use Rattle.actions.proofs.Ascending.{head_in, tail_in}
use Rattle.outcomes.specs.Workspaces.{AllAreListed, Workspace, cycle_of, declared, dependencies, outcome_of, step_of}
use Rattle.outcomes.proofs.Finite.{finite}
use Rattle.outcomes.proofs.Together.{are_outcomes}
use Rattle.reporting.specs.Answers.{Node}
use Rattle.packages.proofs.Names.{are_listed}
use Rattle.holding.proofs.Steps.{IfSome, either}
use Rattle.workspace_laws.specs.Workspaces.{plain_workspace}
use Rattle.workspace_laws.proofs.Packages.{packages_same}
use Rattle.answers.specs.Answers.{Answer, IsAnswerOf, labels_told}
use Rattle.answers.specs.Laws.{AnswersStandAlone, AreTold, StandsAlone, TellsEach}
use Rattle.answers.proofs.Enumerated.{in_cases, lead_on}
use Rattle.answers.proofs.OneAnswer.{comes_to, source_of}

-- ---- a step never says that a label is cyclic

-- a fault that isn't that of a cycle
abbrev IsOther : TargetFault → Type 0
IsOther f = f ≡ fault.Cycle → ⊥

abbrev Isnt : Outcome → Type 0
Isnt o = o ≡ Failed fault.Cycle → ⊥

failed_other : (f : TargetFault) → IsOther f → Isnt (Failed f)
failed_other f other e = other (cc)

refusal_other : (a : NamedAttribute) (d : Dependency) → IfSome IsOther (refusal a d)
refusal_other a (l, Source f) = either (IfSome IsOther) (takes_file a.attribute.allow_files f.path) None (Some (fault.FileKind a.name l)) tt (λ e. absurd (cc))
refusal_other a (l, Done ts actions) =
    either (IfSome IsOther) (offers_enough ts a.attribute.providers) None (Some (fault.ProvidersMissing a.name l)) tt (λ e. absurd (cc))
refusal_other a (l, Failed e) = tt

refused_other : (a : NamedAttribute) (o : Option Dependency) → IfSome IsOther (refused a o)
refused_other a (Some d) = refusal_other a d
refused_other a None = tt

or_other : (o p : Option TargetFault) → IfSome IsOther o → IfSome IsOther p → IfSome IsOther (option_or o p)
or_other (Some f) p h i = h
or_other None p h i = i

value_other : (ds : List Dependency) (a : NamedAttribute) (ls : List LabelParts) → IfSome IsOther (first_in_value ds a ls)
value_other ds a [] = tt
value_other ds a (l ∷ ls) =
    or_other (refused a (dependency_of ds l)) (first_in_value ds a ls) (refused_other a (dependency_of ds l)) (value_other ds a ls)

first_other : (ds : List Dependency) (attributes : List NamedAttribute) (vs : List AttributeValue) → IfSome IsOther (first_refused ds attributes vs)
first_other ds [] vs = tt
first_other ds (a ∷ rest) [] = tt
first_other ds (a ∷ rest) (v ∷ vs) =
    or_other (first_in_value ds a (labels_in v)) (first_refused ds rest vs) (value_other ds a (labels_in v)) (first_other ds rest vs)

module _ (l : LabelParts) where
  made_other : (ts : List FrozenTree) (actions : List Action) (o : Option (List ℕ)) → Isnt (made_whole l ts actions o)
  made_other ts actions (Some path) e = absurd (cc)
  made_other ts actions None e = absurd (cc)

  instances_other : (i : Implemented) (o : Option (List FrozenTree)) → Isnt (with_instances l i o)
  instances_other i None e = absurd (cc)
  instances_other i (Some ts) e = made_other ts i.actions (first_unmade i.actions i.files) e

  finished_other : (r : Result Implemented Fault) → Isnt (finished l r)
  finished_other (Err f) e = absurd (cc)
  finished_other (Ok i) e = instances_other i (instances_in i.result) e

module _ (w : Workspace) (l : LabelParts) where
  unless_other : (t : Target) (ds : List Dependency) (o : Option TargetFault) → IfSome IsOther o → Isnt (unless_refused w.implement l t ds o)
  unless_other t ds (Some f) h = failed_other f h
  unless_other t ds None h = finished_other l (w.implement l t ds)

  analysed_other : (t : Target) (ds : List Dependency) (fs : List LabelParts) → Isnt (analysed w.implement l t ds fs)
  analysed_other t ds (f ∷ fs) e = absurd (cc)
  analysed_other t ds [] e = unless_other t ds (first_refused ds t.rule.attributes t.values) (first_other ds t.rule.attributes t.values) e

  named_other : (n : Named) (os : List Outcome) → Isnt (step w.implement l n os)
  named_other nothing os e = absurd (cc)
  named_other failed_package os e = absurd (cc)
  named_other source_file os e = absurd (cc)
  named_other (target t) os e = let ds = zip (needs_of t) os in analysed_other t ds (failed_labels ds) e

  step_other : (os : List Outcome) → Isnt (step_of w l os)
  step_other os = named_other (named w.paths w.package_at l) os

-- ---- the workspace that is told of

-- the packages by plain listings are all that declare targets
pub plain_listed : (files : List Pair) (limit : ℕ) → AllAreListed (plain_workspace files limit)
plain_listed files limit =
    subst (λ (at : List ℕ → Package). AllAreListed (record (plain_workspace files limit) { package_at = at })) (packages_same files limit) (are_listed files limit)

module _ (files : List Pair) (limit : ℕ) where
  abbrev w : Workspace
  w = plain_workspace files limit

  cyclic_if : (l : LabelParts) → is_cyclic (dependencies w) (length (declared w)) l ≡ true → Cyclic (dependencies w) l
  cyclic_if =
      cyclic_from_test (dependencies w) same_label same_label-decides (declared w) (length (declared w)) (omega arith) (finite w (plain_listed files limit))

  is_cycle : (l : LabelParts) → Cyclic (dependencies w) l → outcome_of w l ≡ cycle_of w l
  is_cycle = (are_outcomes w (plain_listed files limit)).cyclic

  is_step : (l : LabelParts) → (Cyclic (dependencies w) l → ⊥) → outcome_of w l ≡ step_of w l (map (outcome_of w) (dependencies w l))
  is_step = (are_outcomes w (plain_listed files limit)).stepped

  -- what says that it is cyclic is so
  cyclic_so : (l : LabelParts) → outcome_of w l ≡ cycle_of w l → Cyclic (dependencies w) l
  cyclic_so l e = elim (cases_of (is_cyclic (dependencies w) (length (declared w)) l)) [
    | inl holds ↦ cyclic_if l holds
    | inr ends ↦
        let apart = ends_apart (dependencies w) (suc (length (declared w))) l ends in
        absurd (step_other w l (map (outcome_of w) (dependencies w l)) (sym (is_step l apart) ∙ e))
  ]

  module _ (labels : List LabelParts) (a : Answer) where
    -- ---- of an answer

    module _ (p : IsAnswerOf files labels limit a) where
      is_of : (n : Node) → Contains a.nodes n → n.outcome ≡ outcome_of w n.label
      is_of n h = All-contains (λ (m : Node). m.outcome ≡ outcome_of w m.label) a.nodes n p.outcomes h

      needed : (l d : LabelParts) → Contains (labels_told a) l → Contains (dependencies w l) d → Contains (labels_told a) d
      needed l d is dep =
          let r = (p.reached l).0 is in
          (p.reached d).1 (r.0, r.1, lead_on (dependencies w) r.2.0 r.0 l d r.2.1 (1, (d, dep, refl)))

      -- labels that are told, with what is told of them
      pairs : (ds : List LabelParts) → ((d : LabelParts) → Contains ds d → Contains (labels_told a) d)
          → (ns : List Node) × AreTold a ds ns × (map (λ (n : Node). n.outcome) ns ≡ map (outcome_of w) ds)
      pairs [] all = ([], (refl, λ n h. absurd (omega (arith, h.1))), refl)
      pairs (d ∷ ds) all =
          let first = source_of (λ (n : Node). n.label) a.nodes d (all d (head_in d ds)) in
          let others = pairs ds (λ e h. all e (tail_in d ds e h)) in
          let outcome : first.0.outcome ≡ outcome_of w d = is_of first.0 first.1 ∙ ap (outcome_of w) first.2 in (
            first.0 ∷ others.0,
            (
              (λ i. first.2 i ∷ others.1.0 i),
              λ n h. elim (in_cases first.0 others.0 n h) [ inl is ↦ subst (Contains a.nodes) is first.1 | inr later ↦ others.1.1 n later ],
            ),
            λ i. outcome i ∷ others.2 i,
          )

      tells_each : TellsEach w labels a
      tells_each = record {
        ordered = p.ordered;
        asked = λ l h. (p.reached l).1 (l, h, (zero, refl));
        needed = λ l is d. needed l d is;
        reached = λ l. (p.reached l).0;
        cyclic = λ n h. (λ c. is_of n h ∙ is_cycle n.label c, λ e. cyclic_so n.label (sym (is_of n h) ∙ e));
        stepped = λ n h other.
            let apart : Cyclic (dependencies w) n.label → ⊥ = λ c. other (is_of n h ∙ is_cycle n.label c) in
            let ds = pairs (dependencies w n.label) (λ d. needed n.label d (comes_to (λ (m : Node). m.label) a.nodes n h)) in
            (ds.0, ds.1, is_of n h ∙ is_step n.label apart ∙ ap (step_of w n.label) (sym ds.2));
      }

      stands_alone : StandsAlone files labels limit a
      stands_alone = record { faults = p.faults; each = tells_each }

    -- ---- of what is so of each label

    module _ (s : StandsAlone files labels limit a) where
      told_along : (n : ℕ) (x y : LabelParts) → Contains (labels_told a) x → Walk (dependencies w) n x y → Contains (labels_told a) y
      told_along zero x y h e = subst (Contains (labels_told a)) e h
      told_along (suc n) x y h c = told_along n c.0 y (s.each.needed x h c.0 c.1) c.2

      -- by the number of edges that no walk from the label has
      by_walks : (k : ℕ) (n : Node) → Contains a.nodes n → goes_on (dependencies w) k n.label ≡ false → n.outcome ≡ outcome_of w n.label
      by_walks zero n h ends = absurd (true≢false ends)
      by_walks (suc k) n h ends =
          let apart = ends_apart (dependencies w) (suc k) n.label ends in
          let told = s.each.stepped n h (λ e. apart ((s.each.cyclic n h).1 e)) in
          let ds = told.0 in
          let needs : (d : Node) → Contains ds d → Contains (dependencies w n.label) d.label =
          λ d i. subst (λ ls. Contains ls d.label) told.1.0 (comes_to (λ (m : Node). m.label) ds d i) in
          let outcomes : map (λ (d : Node). d.outcome) ds ≡ map (λ (d : Node). outcome_of w d.label) ds =
          map_same (λ (d : Node). d.outcome) (λ (d : Node). outcome_of w d.label) ds
          (λ d i. by_walks k d (told.1.1 d i) (ends_next (dependencies w) k n.label d.label (needs d i) ends)) in
          told.2 ∙ ap (step_of w n.label) (outcomes ∙ labelled ds ∙ ap (map (outcome_of w)) told.1.0) ∙ sym (is_step n.label apart)
        where
          labelled : (ds : List Node) → map (λ (d : Node). outcome_of w d.label) ds ≡ map (outcome_of w) (map (λ (d : Node). d.label) ds)
          labelled [] = refl
          labelled (d ∷ ds) = ap (λ os. outcome_of w d.label ∷ os) (labelled ds)

      so_outcome : (n : Node) → Contains a.nodes n → n.outcome ≡ outcome_of w n.label
      so_outcome n h = elim (cases_of (is_cyclic (dependencies w) (length (declared w)) n.label)) [
        | inl holds ↦ let c = cyclic_if n.label holds in (s.each.cyclic n h).0 c ∙ sym (is_cycle n.label c)
        | inr ends ↦ by_walks (suc (length (declared w))) n h ends
      ]

      outcomes_of : (ns : List Node) → ((n : Node) → Contains ns n → Contains a.nodes n) → AllByRecursion (λ (n : Node). n.outcome ≡ outcome_of w n.label) ns
      outcomes_of [] all = tt
      outcomes_of (n ∷ ns) all = (so_outcome n (all n (head_in n ns)), outcomes_of ns (λ m h. all m (tail_in n ns m h)))

      is_answer : IsAnswerOf files labels limit a
      is_answer = record {
        faults = s.faults;
        reached = λ l. (s.each.reached l, λ r. told_along r.2.0 r.0 l (s.each.asked r.0 r.1) r.2.1);
        ordered = s.each.ordered;
        outcomes = All-from_recursion (λ (n : Node). n.outcome ≡ outcome_of w n.label) a.nodes (outcomes_of a.nodes (λ n h. h));
      }

pub answers_stand_alone : AnswersStandAlone
answers_stand_alone files labels limit a = (stands_alone files limit labels a, is_answer files limit labels a)
