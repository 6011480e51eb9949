-- What the modules of a workspace make, and what its packages declare, has legal labels alone, and so each label depends on legal ones.
use Rattle.std.proofs.Common.{⊎_elim, ℕ, zero, suc, Bool, true, false, List, [], ◌∷◌, ◌++◌, slice_get, Option, Some, None, Result, Ok, Err, Contains, subst, if◌then◌else◌}
use Rattle.std.specs.Prelude.{option_and_then}
use Rattle.std.specs.List.{AllByRecursion, flat_map, list_any}
use Rattle.depsets.specs.Keys.{keep, keep_all}
use Rattle.lexer.specs.declared.fault.FaultKind.{FaultKind}
use Rattle.leaves.specs.declared.leaf.AttributeKind.{AttributeKind}
use Rattle.leaves.specs.declared.leaf.BuiltIn.{BuiltIn}
use Rattle.leaves.specs.declared.leaf.BuiltIn.TheVariants as built_in
use Rattle.leaves.specs.declared.leaf.Leaf.{Leaf}
use Rattle.leaves.specs.declared.leaf.Leaf.TheVariants as plain
use Rattle.leaves.specs.declared.leaf.MadeId.{MadeId}
use Rattle.meaning.specs.Functions.{Files}
use Rattle.meaning.specs.Outcome.{Final}
use Rattle.meaning.specs.Calls.{top_meaning}
use Rattle.ticks.specs.Ticking.{Ticking}
use Rattle.values.specs.View.{FrozenTree}
use Rattle.ticks.specs.declared.ticks.Kind.{Kind}
use Rattle.values.specs.declared.value.Value.{Value}
use Rattle.operations.specs.Arguments.{Given, bound}
use Rattle.operations.specs.States.{Doing}
use Rattle.operations.specs.declared.state.State.{State}
use Rattle.keeping.specs.Kept.{Gives}
use Rattle.language.specs.declared.whole.Whole.{Whole}
use Rattle.language.specs.Place.{with_state}
use Rattle.language.specs.Language.{language}
use Rattle.workspace.specs.Labels.{LabelParts, is_label, same_label}
use Rattle.workspace.specs.Workspaces.{Pair, paths_of}
use Rattle.loading.specs.Loads.{Path, Name, LoadFault, Read, loads_fault}
use Rattle.loading.specs.Modules.{Sources, file, is_module, is_lower, is_on_cycle, cycle_line, height_of, value, ended, linked, loaded, lower, module_of, module_within, any_module, build_ended, build_linked, built}
use Rattle.loading.specs.declared.faults.Ending.{Ending}
use Rattle.loading.specs.declared.faults.Ending.TheVariants.{Faulted, Unnamed}
use Rattle.loading.specs.declared.faults.LoadFaultKind.TheVariants.{LoadCycle}
use Rattle.loading.specs.declared.faults.Placed.{Placed}
use Rattle.targets.specs.Attributes.{labels_in, labels_of}
use Rattle.targets.specs.RuleCalls.{declares}
use Rattle.targets.specs.Resolving.{Package, no_build_file, faulty, declaring, Named, target, source_file, failed_package, nothing, target_with, is_file, target_or_file, named_in, named_dependencies}
use Rattle.targets.specs.Resolving as resolving
use Rattle.targets.specs.declared.attributes.Attribute.{Attribute}
use Rattle.targets.specs.declared.attributes.AttributeValue.{AttributeValue}
use Rattle.targets.specs.declared.attributes.Rule.{Rule}
use Rattle.targets.specs.declared.target.Target.{Target}
use Rattle.targets.proofs.Facts.{none_in, in_split}
use Rattle.declaring.specs.AttributeCalls.{new_attribute}
use Rattle.declaring.specs.ProviderCalls.{new_provider, provider_parameters}
use Rattle.declaring.specs.RuleMaking.{new_rule, rule_parameters}
use Rattle.targets.specs.declared.declarations.Declarations.{Declarations}
use Rattle.rule_calls.specs.Called.{then_declared}
use Rattle.rule_calls.specs.Packages.{Declared}
use Rattle.file_places.specs.BuildPlace.{build_call, build_place, giving_none, refused_call, refused_method, rule_called}
use Rattle.file_places.specs.Methods.{declared_kind}
use Rattle.file_places.specs.ModulePlace.{attribute_call, built_in_call, module_call, module_place}
use Rattle.evaluation.specs.declared.handed.Module.{Module}
use Rattle.evaluation.specs.Evaluated.{Known}
use Rattle.evaluation.specs.Naming.{Naming, all_named}
use Rattle.evaluation.specs.Runs.{all_frozen, module_after, module_named, module_of_frozen, naming_of, program_at, run_build, run_module, state_of_file, targets_after}
use Rattle.evaluation.specs.Workspaces.{linked_files, targets_of}
use Rattle.evaluation.specs.Worlds.{module_numbered, world}
use Rattle.loader.specs.Files.{build_at, known, loads}
use Rattle.loader.specs.MadeBefore.{attribute_at, rule_of}
use Rattle.loader.specs.Places.{of_build, of_module}
use Rattle.packages.specs.Packages.{build_file_of, package_at, package_of_file, package_with}
use Rattle.outcomes.specs.Workspaces.{dependencies}
use Rattle.holding.proofs.Steps.{IfGiven, IfSome, either}
use Rattle.workspace_laws.specs.LabelLaws.{DependenciesAreLegal}
use Rattle.workspace_laws.specs.Workspaces.{evaluated, plain_workspace}
use Rattle.workspace_laws.proofs.Legal.{AttributeLegal, DeclarationsLegal, IsLegal, RuleLegal, TargetLegal, ValueLegal, at_place, chained, declares_legal, joined, new_attribute_legal, new_provider_legal, new_rule_legal, one_more}
use Rattle.workspace_laws.proofs.Outcomes.{dependencies_same}
use Rattle.workspace_laws.proofs.Working.{PlaceWorks, Works, top_works, working}

-- ---- modules

-- what a module made
abbrev ModuleLegal : Module → Type 0
ModuleLegal m = AllByRecursion AttributeLegal m.made.attributes × AllByRecursion RuleLegal m.made.rules

-- what comes of it, if anything does
abbrev IfMade : {E : Type 0} → Result Module E → Type 0
IfMade (Ok m) = ModuleLegal m
IfMade (Err e) = Unit {0}

abbrev KnownLegal : Known → Type 0
KnownLegal known = (q : Path) → IfSome ModuleLegal (known q)

module _ (known : Known) (legal : KnownLegal known) where
  attributes_legal : (p : Path) (n : ℕ) → IfSome AttributeLegal (attribute_at known p n)
  attributes_legal p n =
      chained ModuleLegal AttributeLegal (λ m. slice_get m.made.attributes n) (λ m h. at_place AttributeLegal m.made.attributes n h.0) (known p) (legal p)

  rules_legal : (paths : List Path) (id : MadeId) → IfSome RuleLegal (rule_of paths known id)
  rules_legal paths id =
      chained ModuleLegal RuleLegal (λ m. slice_get m.made.rules id.number) (λ m h. at_place RuleLegal m.made.rules id.number h.1)
      (module_numbered paths known id.«module»)
      (numbered (slice_get paths id.«module»))
    where
      numbered : (o : Option Path) → IfSome ModuleLegal (option_and_then known o)
      numbered (Some q) = legal q
      numbered None = tt

-- the targets that come of a `BUILD` file, if any do
abbrev IfDeclared : {E : Type 0} → Result (List Target) E → Type 0
IfDeclared (Ok ts) = AllByRecursion TargetLegal ts
IfDeclared (Err e) = Unit {0}

-- ---- the place of modules

module _ (others : List ℕ → ℕ → Option Attribute) (legal : (p : List ℕ) (n : ℕ) → IfSome AttributeLegal (others p n)) where
  module _ (g : Given) (w : Whole Declarations) (h : DeclarationsLegal w.work) where
    worked : (r : Result (Value × Declarations) Kind) → IfGiven (λ p. DeclarationsLegal p.1) r → Works DeclarationsLegal (with_state w r)
    worked (Ok p) i = i
    worked (Err e) i = tt

    attribute_works : (o : Option AttributeKind) → Works DeclarationsLegal (attribute_call o g w)
    attribute_works (Some k) = worked (new_attribute k g w.state w.work) (new_attribute_legal w.state w.work h k g)
    attribute_works None = tt

    built_in_works : (b : BuiltIn) → Works DeclarationsLegal (built_in_call others b g w)
    built_in_works built_in.Provider =
        worked (new_provider g w.state w.work) (new_provider_legal w.state w.work h (bound provider_parameters g))
    built_in_works built_in.Rule =
        worked (new_rule others w.state w.work g) (new_rule_legal w.state w.work h others legal (bound rule_parameters g))
    built_in_works _ = tt

    module_works : (l : Leaf) → Works DeclarationsLegal (module_call others l g w)
    module_works (plain.BuiltIn b) = built_in_works b
    module_works (plain.Rule r) = tt
    module_works _ = tt

  module_place_works : PlaceWorks DeclarationsLegal (module_place others)
  module_place_works = record {
    call = λ l g w h. module_works g w h l;
    method = λ l x g w h. attribute_works g w h (declared_kind l x);
  }

-- ---- the place of `BUILD` files

-- what a package has declared
abbrev TargetsLegal : List Target → Type 0
TargetsLegal = AllByRecursion TargetLegal

abbrev DeclaredLegal : Declared → Type 0
DeclaredLegal d = TargetsLegal d.targets

module _ (rules : MadeId → Option Rule) (legal : (id : MadeId) → IfSome RuleLegal (rules id)) where
  module _ (g : Given) (w : Whole Declared) (h : DeclaredLegal w.work) where
    declared : (r : Doing Target) → IfGiven (λ p. TargetLegal p.0) r → Works DeclaredLegal (giving_none (then_declared w.work r))
    declared (Ok p) i = one_more TargetLegal w.work.targets p.0 h i
    declared (Err e) i = tt

    rule_works : (o : Option Rule) → IfSome RuleLegal o → Works DeclaredLegal (rule_called o g w)
    rule_works (Some r) i =
        declared (declares w.work.«package» w.work.targets r g w.state) (declares_legal w.state w.work.«package» w.work.targets r g i)
    rule_works None i = tt

    refused : (b : BuiltIn) → Works DeclaredLegal (refused_call b g w)
    refused built_in.Provider = tt
    refused built_in.Rule = tt
    refused _ = tt

    method_works : (o : Option AttributeKind) → Works DeclaredLegal (refused_method o g w)
    method_works (Some a) = tt
    method_works None = tt

    build_works : (l : Leaf) → Works DeclaredLegal (build_call rules l g w)
    build_works (plain.BuiltIn b) = refused b
    build_works (plain.Rule r) = rule_works (rules r.id) (legal r.id)
    build_works _ = tt

  build_place_works : PlaceWorks DeclaredLegal (build_place rules)
  build_place_works = record {
    call = λ l g w h. build_works g w h l;
    method = λ l x g w h. method_works g w h (declared_kind l x);
  }

-- ---- one evaluation

module _ (limit : ℕ) (files : Files) (paths : List Path) (before : Known) (legal : KnownLegal before) where
  named : (b : Bool) (ns : Naming) (names : List Name) (s : State) (x : List (Option FrozenTree) × List (List FrozenTree)) (made : Declarations)
      → ModuleLegal (module_named ns names x.0 s.loaded x.1 made)
      → IfMade {E = Ending Kind} (if b then Ok (module_named ns names x.0 s.loaded x.1 made) else Err Unnamed)
  named true ns names s x made h = h
  named false ns names s x made h = tt

  module _ (p : Path) (n : ℕ) where
    frozen : (names : List Name) (s : State) (d : Declarations) → DeclarationsLegal d
        → (r : Ticking (List (Option FrozenTree) × List (List FrozenTree)))
        → IfMade (module_of_frozen p n names s.loaded d r)
    frozen names s d h (Err e) = tt
    frozen names s d h (Ok x) =
        let ns = naming_of p n names x.0.0 d in
        named (all_named ns) ns names s x.0 d h

    after : (r : Final (Whole Declarations) Value Kind) → Gives (working DeclarationsLegal) (working DeclarationsLegal).good tt r
        → IfMade (module_after limit files paths of_module p n r)
    after (Err f) h = tt
    after (Ok r) h =
        let s = r.1.state in
        frozen (program_at files n).globals s r.1.work h.2 (all_frozen s.heap s.globals s.defaults s.ticks)

    run_legal : IfMade (run_module limit files paths of_module before p n)
    run_legal =
        let place = module_place (attribute_at before) in
        let start : Whole Declarations = record { state = state_of_file limit p n (program_at files n); work = of_module.first } in
        after (top_meaning (language (world paths before) place) files n start)
        (top_works DeclarationsLegal (world paths before) place (module_place_works (attribute_at before) (attributes_legal before legal)) files n start
        (tt, tt))

    -- the targets of a `BUILD` file, if it has no fault
    targets : (r : Final (Whole Declared) Value Kind) → Gives (working DeclaredLegal) (working DeclaredLegal).good tt r
        → IfDeclared (targets_after limit files paths (of_build paths) r)
    targets (Err f) h = tt
    targets (Ok r) h = h.2

    build_legal : IfDeclared (run_build limit files paths (of_build paths) before p n)
    build_legal =
        let place = build_place (rule_of paths before) in
        let start : Whole Declared = record { state = state_of_file limit p n (program_at files n); work = (of_build paths).first p } in
        targets (top_meaning (language (world paths before) place) files n start)
        (top_works DeclaredLegal (world paths before) place (build_place_works (rule_of paths before) (rules_legal before legal paths)) files n start
        tt)

-- ---- all files of a workspace

module _ (files : List Pair) (limit : ℕ) where
  abbrev w : Sources ℕ Module FaultKind Kind
  w = loads files limit

  abbrev F : Type 0
  F = LoadFault FaultKind Kind

  -- what modules that may be loaded come to
  abbrev AllLegal : (Path → Option (Result Module F)) → Type 0
  AllLegal module_at = (q : Path) → IfSome (λ r. IfMade r) (module_at q)

  value_legal : (o : Option (Result Module F)) → IfSome (λ r. IfMade r) o → IfSome ModuleLegal (value o)
  value_legal (Some (Ok m)) h = h
  value_legal (Some (Err e)) h = tt
  value_legal None h = tt

  ended_legal : (p : Path) (r : Result Module (Ending Kind)) → IfMade r → IfMade (ended {S = FaultKind} p r)
  ended_legal p (Ok m) h = h
  ended_legal p (Err (Faulted f)) h = tt
  ended_legal p (Err Unnamed) h = tt

  module _ (p : Path) (module_at : Path → Option (Result Module F)) (legal : AllLegal module_at) where
    linked_legal : (n : ℕ) (o : Option F) → IfMade (linked w p n module_at o)
    linked_legal n (Some f) = tt
    linked_legal n None =
        let before : Known = λ q. value (module_at q) in
        ended_legal p (w.run before p n)
        (run_legal limit (linked_files files) (paths_of files) before (λ q. value_legal (module_at q) (legal q)) p n)

    loaded_legal : (r : Result (Read ℕ) (FaultKind × ℕ)) → IfMade (loaded w p r module_at)
    loaded_legal (Err e) = tt
    loaded_legal (Ok r) = go (is_on_cycle w p)
      where
        go : (b : Bool) → IfMade (elim b [
          | true ↦ Err (record { kind = LoadCycle; path = p; line = cycle_line w p r.loads })
          | false ↦ linked w p r.tree module_at (loads_fault w.globals p module_at r.loads)
        ])
        go true = tt
        go false = linked_legal r.tree (loads_fault w.globals p module_at r.loads)

  lower_legal : (h : ℕ) (f : Path → Result Module F) → ((q : Path) → IfMade (f q)) → AllLegal (lower w h f)
  lower_legal h f legal q = go (is_lower w h q)
    where
      go : (b : Bool) → IfSome (λ r. IfMade r) (elim b [ true ↦ Some (f q) | false ↦ None ])
      go true = legal q
      go false = tt

  within_legal : (n : ℕ) (p : Path) → IfMade (module_within w n p)
  within_legal zero p = tt
  within_legal (suc n) p =
      loaded_legal p (lower w (height_of w p) (module_within w n)) (lower_legal (height_of w p) (module_within w n) (within_legal n)) (file w p)

  any_legal : AllLegal (any_module w)
  any_legal q = go (is_module w q)
    where
      go : (b : Bool) → IfSome (λ r. IfMade r) (elim b [ true ↦ Some (module_of w q) | false ↦ None ])
      go true = within_legal (suc (height_of w q)) q
      go false = tt

  known_legal : KnownLegal (known files limit)
  known_legal q = value_legal (any_module w q) (any_legal q)

  -- ---- packages

  declared_legal : (r : Result (List Target) (Placed Kind)) → IfDeclared r → IfDeclared (build_ended w (targets_of files limit (of_build (paths_of files))) r)
  declared_legal (Ok ts) h = h
  declared_legal (Err f) h = tt

  module _ (p : Path) where
    built_legal : (n : ℕ) (o : Option F) → IfDeclared (build_linked w (targets_of files limit (of_build (paths_of files))) p n o)
    built_legal n (Some f) = tt
    built_legal n None =
        declared_legal (targets_of files limit (of_build (paths_of files)) (known files limit) p n)
        (build_legal limit (linked_files files) (paths_of files) (known files limit) known_legal p n)

    read_legal : (r : Result (Read ℕ) (FaultKind × ℕ)) → IfDeclared (built w (targets_of files limit (of_build (paths_of files))) p r)
    read_legal (Err e) = tt
    read_legal (Ok r) = built_legal r.tree (loads_fault w.globals p (any_module w) r.loads)

    build_at_legal : IfDeclared (build_at files limit p)
    build_at_legal = read_legal (file w p)

  abbrev PackageLegal : Package → Type 0
  PackageLegal no_build_file = Unit {0}
  PackageLegal faulty = Unit {0}
  PackageLegal (declaring ts) = TargetsLegal ts

  package_legal : (p : List ℕ) → PackageLegal (package_at files limit p)
  package_legal p = at (build_file_of (paths_of files) p)
    where
      with : (r : Result (List Target) F) → IfDeclared r → PackageLegal (package_with r)
      with (Ok ts) h = h
      with (Err f) h = tt

      at : (o : Option Path) → PackageLegal (package_of_file files limit o)
      at (Some path) = with (build_at files limit path) (build_at_legal path)
      at None = tt

-- ---- what labels depend on

kept_legal : (ks xs : List LabelParts) → AllByRecursion IsLegal ks → AllByRecursion IsLegal xs → AllByRecursion IsLegal (keep_all same_label ks xs)
kept_legal ks [] h i = h
kept_legal ks (x ∷ xs) h i =
    kept_legal (keep same_label ks x) xs
    (either (AllByRecursion IsLegal) (list_any (same_label x) ks) ks (ks ++ x ∷ []) h (one_more IsLegal ks x h i.0)) i.1

in_values : (vs : List AttributeValue) → AllByRecursion ValueLegal vs → AllByRecursion IsLegal (flat_map labels_in vs)
in_values [] h = tt
in_values (v ∷ vs) h = joined IsLegal (labels_in v) (flat_map labels_in vs) h.0 (in_values vs h.1)

pub one_of : (ls : List LabelParts) → AllByRecursion IsLegal ls → (l : LabelParts) → Contains ls l → IsLegal l
one_of [] h l i = absurd (none_in l i)
one_of (x ∷ ls) h l i = ⊎_elim (λ e. subst IsLegal e h.0) (λ later. one_of ls h.1 l later) (in_split x ls l i)

module _ (files : List Pair) (limit : ℕ) where
  abbrev NamedLegal : Named → Type 0
  NamedLegal (target t) = TargetLegal t
  NamedLegal source_file = Unit {0}
  NamedLegal failed_package = Unit {0}
  NamedLegal nothing = Unit {0}

  module _ (l : LabelParts) where
    with_legal : (ts : List Target) → TargetsLegal ts → IfSome TargetLegal (target_with l ts)
    with_legal [] h = tt
    with_legal (t ∷ ts) h = either (IfSome TargetLegal) (same_label l t.label) (Some t) (target_with l ts) h.0 (with_legal ts h.1)

    or_file : (o : Option Target) → IfSome TargetLegal o → NamedLegal (target_or_file (paths_of files) (package_at files limit) l o)
    or_file (Some t) h = h
    or_file None h = either NamedLegal (is_file (paths_of files) (package_at files limit) l) source_file nothing tt tt

    in_legal : (p : Package) → PackageLegal files limit p → NamedLegal (named_in (paths_of files) (package_at files limit) l p)
    in_legal no_build_file h = tt
    in_legal faulty h = tt
    in_legal (declaring ts) h = or_file (target_with l ts) (with_legal ts h)

    is_legal : NamedLegal (resolving.named (paths_of files) (package_at files limit) l)
    is_legal = go (is_label l)
      where
        go : (b : Bool) → NamedLegal (elim b [
          | true ↦ named_in (paths_of files) (package_at files limit) l (package_at files limit l.«package»)
          | false ↦ nothing
        ])
        go true = in_legal (package_at files limit l.«package») (package_legal files limit l.«package»)
        go false = tt

    needed : (n : Named) → NamedLegal n → AllByRecursion IsLegal (named_dependencies n)
    needed (target t) h = kept_legal [] (labels_of t) tt (in_values t.values h)
    needed source_file h = tt
    needed failed_package h = tt
    needed nothing h = tt

    evaluated_legal : AllByRecursion IsLegal (dependencies (evaluated files limit) l)
    evaluated_legal = needed (resolving.named (paths_of files) (package_at files limit) l) is_legal

pub dependencies_are_legal : DependenciesAreLegal
dependencies_are_legal files limit l =
    one_of (dependencies (plain_workspace files limit) l)
    (subst (λ (d : LabelParts → List LabelParts). AllByRecursion IsLegal (d l)) (dependencies_same files limit) (evaluated_legal files limit l))
