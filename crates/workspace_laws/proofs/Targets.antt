-- The call of an implementation comes to the same by plain listings, wherever what it is handed is coherent and fresh for its label.
use Rattle.std.proofs.Common.{◌≡◌, ◌∙◌, ℕ, List, Ok, Err, ap, refl}
use Rattle.meaning.specs.Calls.{function_meaning}
use Rattle.meaning.specs.Functions.{Files}
use Rattle.meaning.specs.Operations.{FunctionId, Arguments}
use Rattle.meaning.specs.Outcome.{Final}
use Rattle.ticks.specs.Ticking.{Ticking}
use Rattle.values.specs.View.{FrozenTree}
use Rattle.leaves.specs.declared.leaf.FunctionRef.{FunctionRef}
use Rattle.ticks.specs.declared.ticks.Kind.{Kind}
use Rattle.ticks.specs.declared.ticks.TheConstants.{VISITED_LEVELS}
use Rattle.values.specs.declared.value.Value.{Value}
use Rattle.visits.specs.Freeze.{freeze_at}
use Rattle.language.specs.Language.{language, function_id}
use Rattle.language.specs.declared.whole.Whole.{Whole}
use Rattle.workspace.specs.Labels.{LabelParts, label_text}
use Rattle.workspace.specs.Workspaces.{Pair, paths_of}
use Rattle.coherence.specs.Coherent.{AreCoherent, AreFresh}
use Rattle.one_tree.specs.Found.{Set}
use Rattle.one_tree.proofs.Amidst.{among_right}
use Rattle.loading.specs.Loads.{Path}
use Rattle.targets.specs.Checks.{Dependency}
use Rattle.targets.specs.declared.target.Target.{Target}
use Rattle.outcomes.specs.Found.{id_of, owner_of}
use Rattle.outcomes.specs.Workspaces.{Workspace, handed}
use Rattle.evaluation.specs.Evaluated.{Known}
use Rattle.evaluation.specs.Runs.{implemented_with, target_after, context_alone}
use Rattle.evaluation.specs.Workspaces.{linked_files}
use Rattle.evaluation.specs.Worlds.{world}
use Rattle.contexts.specs.declared.work.Work.{Work}
use Rattle.implementations.specs.Implementations.{implementation_place, target_world}
use Rattle.loader.specs.Files as usual
use Rattle.agreeing.proofs.Calls.{calls_agree}
use Rattle.holding.proofs.Steps.{none_in}
use Rattle.workspace_laws.proofs.Workspaces.{all_are_there}
use Rattle.workspace_laws.proofs.Actions.{in_work}
use Rattle.workspace_laws.proofs.Implemented.{base, kept, first, start, begins, keeps}
use Rattle.workspace_laws.proofs.Offered.{in_dependencies}
use Rattle.plain_language.specs.Language.{plain_language}
use Rattle.plain_language.proofs.Agreeing.{operations_are_plain}
use Rattle.workspace_laws.specs.Files.{known as plain_known}
use Rattle.workspace_laws.specs.PlainLaws.{CallsAreTheSame}
use Rattle.workspace_laws.specs.Places.{plain_place, plain_target_world}
use Rattle.workspace_laws.specs.Workspaces.{evaluated}
use Rattle.workspace_laws.proofs.Files.{known_same}
use Rattle.workspace_laws.proofs.Places.{place_same}

-- what a call comes to at its end has nothing to do with listings
module _ (limit : ℕ) (code : Files) (paths : List Path) (f : FunctionRef) where
  with_same : (u : Work) (r : Ticking FrozenTree)
      → implemented_with limit code paths target_world f u r ≡ implemented_with limit code paths plain_target_world f u r
  with_same u (Ok p) = refl
  with_same u (Err e) = refl

  after_same : (o : Final (Whole Work) Value Kind)
      → target_after limit code paths target_world f o ≡ target_after limit code paths plain_target_world f o
  after_same (Ok r) = with_same r.1.work (freeze_at VISITED_LEVELS r.1.state.heap r.0 r.1.state.ticks)
  after_same (Err e) = refl

module _ (files : List Pair) (limit : ℕ) where
  abbrev w : Workspace
  w = evaluated files limit

  abbrev code : Files
  code = linked_files files

  abbrev paths : List Path
  paths = paths_of files

  abbrev known : Known
  known = usual.known files limit

  module _ (l : LabelParts) (t : Target) (ds : List Dependency) (alike : AreCoherent id_of owner_of (handed w ds))
      (fresh : AreFresh id_of owner_of (label_text l) (handed w ds)) where
    abbrev sets : List Set
    sets = base w limit code paths known (all_are_there files limit) l t ds alike fresh

    abbrev own : FunctionRef
    own = t.rule.implementation

    abbrev id : FunctionId
    id = function_id own.id

    abbrev context : Arguments Value
    context = context_alone

    abbrev begin : Whole Work
    begin = start w limit code paths known (all_are_there files limit) l t ds alike fresh

    -- `to_list()`, with the place as it was
    listed_same : function_meaning (language (world paths known) (implementation_place l t ds)) code id context begin
        ≡ function_meaning (plain_language (world paths known) (implementation_place l t ds)) code id context begin
    listed_same =
        let there = all_are_there files limit in
        calls_agree (kept w limit code paths known there l t ds alike fresh)
        (language (world paths known) (implementation_place l t ds)) (plain_language (world paths known) (implementation_place l t ds))
        code id context (first w limit code paths known there l t ds alike fresh) begin
        (keeps w limit code paths known there l t ds alike fresh)
        (operations_are_plain (label_text l) sets in_work (world paths known) (implementation_place l t ds))
        ((none_in sets, tt), tt) (begins w limit code paths known there l t ds alike fresh)

    -- `ctx.files`
    placed_same : implementation_place l t ds ≡ plain_place l t ds
    placed_same =
        let there = all_are_there files limit in
        place_same sets (first w limit code paths known there l t ds alike fresh).one t ds
        (λ d h. among_right d w.known (in_dependencies ds) h) l

    whole_same : function_meaning (language (world paths known) (implementation_place l t ds)) code id context begin
        ≡ function_meaning (plain_language (world paths known) (plain_place l t ds)) code id context begin
    whole_same = listed_same ∙ ap (λ p. function_meaning (plain_language (world paths known) p) code id context begin) placed_same

  pub calls_same : CallsAreTheSame files limit
  calls_same l t ds alike fresh =
      let f = t.rule.implementation in
      let c = context l t ds alike fresh in
      let b = begin l t ds alike fresh in
      ap (target_after limit code paths target_world f)
      (whole_same l t ds alike fresh
      ∙ ap (λ k. function_meaning (plain_language (world paths k) (plain_place l t ds)) code (function_id f.id) c b) (known_same files limit))
      ∙ after_same limit code paths f
      (function_meaning (plain_language (world paths (plain_known files limit)) (plain_place l t ds)) code (function_id f.id) c b)
