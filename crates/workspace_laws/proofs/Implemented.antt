-- The call of an implementation keeps coherence.
use Rattle.std.proofs.Common.{◌≡◌, ◌⊎◌, inl, inr, ⊎_elim, ℕ, List, [], ◌∷◌, ◌++◌, length, Result, Ok, Err, Contains, refl, sym, subst}
use Rattle.depsets.specs.Flat.{Among}
use Rattle.meaning.specs.Functions.{Files}
use Rattle.meaning.specs.Outcome.{Final}
use Rattle.meaning.specs.Calls.{function_meaning}
use Rattle.ticks.specs.Ticking.{Ticking}
use Rattle.values.specs.View.{FrozenTree}
use Rattle.leaves.specs.declared.leaf.FunctionRef.{FunctionRef}
use Rattle.ticks.specs.declared.ticks.Kind.{Kind}
use Rattle.ticks.specs.declared.ticks.TheConstants.{VISITED_LEVELS}
use Rattle.values.specs.declared.value.Value.{Value}
use Rattle.visits.specs.Freeze.{freeze_at}
use Rattle.coherence.specs.Coherent.{AreCoherent, AreFresh}
use Rattle.one_tree.specs.Found.{Set, in_tree, in_values, in_heap, together}
use Rattle.one_tree.specs.Sets.{AreIn}
use Rattle.one_tree.proofs.Amidst.{among_cases, among_left, among_right}
use Rattle.one_tree.proofs.Changed.{both_in}
use Rattle.one_tree.proofs.Freezes.{freezing_brings_none}
use Rattle.keeping.specs.Kept.{Kept, Gives}
use Rattle.keeping.specs.Owed.{EachKeeps}
use Rattle.keeping.proofs.Calls.{calls_keep}
use Rattle.language.specs.Language.{language, function_id}
use Rattle.language.specs.declared.whole.Whole.{Whole}
use Rattle.holding.specs.Held.{Seen, IsSeen, WholeHolds, held}
use Rattle.holding.proofs.Assembled.{operations_keep}
use Rattle.holding.proofs.Steps.{none_in, through, same_in, one_value_in}
use Rattle.loading.specs.Loads.{Path}
use Rattle.workspace.specs.Labels.{LabelParts, label_text}
use Rattle.targets.specs.Checks.{Dependency}
use Rattle.targets.specs.Steps.{Implemented, Fault}
use Rattle.targets.specs.declared.target.Target.{Target}
use Rattle.targets.proofs.Facts.{none_in as no_element, head_in, tail_in, in_split}
use Rattle.outcomes.specs.Found.{id_of, owner_of, in_target, has_depset, in_actions, in_implemented, gave, IsMadeBy}
use Rattle.outcomes.specs.Workspaces.{Workspace, handed, IfGiven}
use Rattle.evaluation.specs.Evaluated.{Known}
use Rattle.evaluation.specs.Runs.{state_of_target, implemented_with, target_after, context_alone, run_implementation}
use Rattle.evaluation.specs.Worlds.{world}
use Rattle.contexts.specs.declared.work.Work.{Work}
use Rattle.implementations.specs.Implementations.{implementation_place, target_world}
use Rattle.workspace_laws.specs.Found.{AllKnown}
use Rattle.workspace_laws.proofs.Linking.{known_keep}
use Rattle.workspace_laws.specs.TargetLaws.{CallsKeepCoherence}
use Rattle.workspace_laws.proofs.Actions.{in_work}
use Rattle.workspace_laws.proofs.Offered.{in_dependencies}
use Rattle.workspace_laws.proofs.Place.{place_keeps}

-- ---- in the outcomes of dependencies

of_dependencies : (ds : List Dependency) (d : Set) → Among d (in_dependencies ds) → (o : Dependency) × Contains ds o × has_depset o.1 d
of_dependencies [] d h = absurd h
of_dependencies (o ∷ ds) d h =
    ⊎_elim (λ p. (o, head_in o ds, p)) (λ p. let r = of_dependencies ds d p in (r.0, tail_in o ds r.0 r.1, r.2)) (among_cases d (in_target o.1) (in_dependencies ds) h)

in_outcomes : (ds : List Dependency) (o : Dependency) (d : Set) → Contains ds o → has_depset o.1 d → Among d (in_dependencies ds)
in_outcomes [] o d c h = absurd (no_element o c)
in_outcomes (x ∷ ds) o d c h =
    ⊎_elim (λ e. among_left d (in_target x.1) (in_dependencies ds) (subst (λ (p : Dependency). has_depset p.1 d) (sym e) h))
    (λ later. among_right d (in_target x.1) (in_dependencies ds) (in_outcomes ds o d later h)) (in_split x ds o c)

module _ (w : Workspace) (limit : ℕ) (files : Files) (paths : List Path) (known : Known) (all : AllKnown known w.known) where
  module _ (l : LabelParts) (t : Target) (ds : List Dependency) (alike : AreCoherent id_of owner_of (handed w ds)) (fresh : AreFresh id_of owner_of (label_text l) (handed w ds)) where
    -- ---- what it is handed

    abbrev pub base : List Set
    base = w.known ++ in_dependencies ds

    pub is_handed : (d : Set) → Among d base → handed w ds d
    is_handed d h = ⊎_elim inl (λ p. inr (of_dependencies ds d p)) (among_cases d w.known (in_dependencies ds) h)

    in_base : (d : Set) → handed w ds d → Among d base
    in_base d (inl h) = among_left d w.known (in_dependencies ds) h
    in_base d (inr o) = among_right d w.known (in_dependencies ds) (in_outcomes ds o.0 d o.1 o.2)

    abbrev pub kept : Kept (Whole Work) Value
    kept = held (label_text l) base in_work

    -- ---- the beginning

    abbrev pub first : Seen (label_text l) base
    first = record { sets = base; one = λ a b p q e. alike a b (is_handed a p) (is_handed b q) e; given = same_in base; theirs = λ d p. inl p }

    abbrev pub start : Whole Work
    start = record { state = state_of_target limit l (length paths); work = target_world.first }

    pub begins : WholeHolds in_work first start
    begins = record {
      state = record {
        owned = refl;
        numbered = λ d p e. absurd (fresh d (is_handed d p) e);
        heap = none_in base;
        globals = none_in base;
        loaded = none_in base;
        defaults = none_in base;
      };
      work = none_in base;
    }

    -- ---- each operation on the way

    pub keeps : EachKeeps kept (language (world paths known) (implementation_place l t ds))
    keeps =
        operations_keep (label_text l) base in_work (world paths known) (implementation_place l t ds)
        (known_keep paths known base (λ q m e d h. among_left d w.known (in_dependencies ds) (all q m e d h)))
        (place_keeps (label_text l) base l t ds (λ d h. among_right d w.known (in_dependencies ds) h))

    -- ---- the end

    module _ (k : Seen (label_text l) base) (whole : Whole Work) (holds : WholeHolds in_work k whole) where
      -- what is given at the end was seen
      seen_is_made : (i : Implemented) → AreIn (in_implemented i) k.sets → IsMadeBy (label_text l) (handed w ds) i
      seen_is_made i sub = record {
        together = λ a b p q e. k.one a b (up a p) (up b q) e;
        theirs = λ d p. ⊎_elim (λ g. inl (is_handed d g)) (λ own. inr (own, (holds.state.numbered d (sub d p) own).0)) (k.theirs d (sub d p));
      }
        where
          up : (d : Set) → handed w ds d ⊎ gave i d → Among d k.sets
          up d (inl g) = k.given d (in_base d g)
          up d (inr p) = sub d p

      frozen_is_made : (v : Value) (f : FunctionRef) (r : Ticking FrozenTree) → freeze_at VISITED_LEVELS whole.state.heap v whole.state.ticks ≡ r → IsSeen k v
          → IfGiven w (label_text l) (handed w ds) (implemented_with limit files paths target_world f whole.work r)
      frozen_is_made v f (Ok x) e seen =
          seen_is_made (record { result = x.0; files = whole.work.files; actions = whole.work.actions })
          (both_in (in_tree x.0) (in_actions whole.work.actions) k.sets
          (through (in_tree x.0) (together whole.state.heap (v ∷ [])) k.sets
          (freezing_brings_none VISITED_LEVELS whole.state.heap v whole.state.ticks x.0 x.1 e)
          (both_in (in_heap whole.state.heap) (in_values (v ∷ [])) k.sets holds.state.heap (one_value_in k.sets v seen)))
          holds.work)
      frozen_is_made v f (Err c) e seen = tt

    final_is_made : (f : FunctionRef) (o : Final (Whole Work) Value Kind) → Gives kept IsSeen first o
        → IfGiven w (label_text l) (handed w ds) (target_after limit files paths target_world f o)
    final_is_made f (Ok p) g = frozen_is_made g.0 p.1 g.2 p.0 f (freeze_at VISITED_LEVELS p.1.state.heap p.0 p.1.state.ticks) refl g.3
    final_is_made f (Err e) g = tt

    call_is_made : IfGiven w (label_text l) (handed w ds) (run_implementation limit files paths target_world known l t ds)
    call_is_made =
        let ops = language (world paths known) (implementation_place l t ds) in
        final_is_made t.rule.implementation (function_meaning ops files (function_id t.rule.implementation.id) context_alone start)
        (calls_keep kept ops files (function_id t.rule.implementation.id) context_alone first start keeps ((none_in base, tt), tt) begins)

pub calls_keep_coherence : CallsKeepCoherence
calls_keep_coherence w limit files paths known is all l t ds alike fresh =
    subst (λ (f : LabelParts → Target → List Dependency → Result Implemented Fault). IfGiven w (label_text l) (handed w ds) (f l t ds)) (sym is)
    (call_is_made w limit files paths known all l t ds alike fresh)
