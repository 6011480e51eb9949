-- The files of a workspace come to the same by plain listings.
use Rattle.std.proofs.Common.{◌≡◌, ◌∙◌, inl, inr, ℕ, Bool, true, false, cond, List, [], ◌∷◌, filter, Option, Some, None, Result, Ok, Err, ap, refl, subst, sym, true≢false, if◌then◌else◌}
use Rattle.std.specs.List.{flat_map, list_any}
use Rattle.std.specs.Str.{bytes_eq}
use Rattle.std.proofs.lemmas.Slice.Eq.{bytes_eq-Decides}
use Rattle.edges.proofs.Tests.{either}
use Rattle.lexer.specs.declared.fault.FaultKind.{FaultKind}
use Rattle.ticks.specs.declared.ticks.Kind.{Kind}
use Rattle.workspace.specs.FileKinds.{is_build_file, is_module}
use Rattle.workspace.specs.Workspaces.{Pair, paths_of}
use Rattle.coherence.specs.Coherent.{AreCoherent, AreFresh}
use Rattle.one_tree.specs.Sets.{IsOneTree, IsFresh}
use Rattle.loading.specs.Loads.{Path, LoadFault, Read, loads_fault}
use Rattle.loading.specs.Modules.{Sources, value, any_module, file, build_ended, build_linked, built}
use Rattle.loading.specs.Together.{in_known}
use Rattle.loading.specs.declared.faults.Placed.{Placed}
use Rattle.modules.specs.Modules.{fault_in}
use Rattle.targets.specs.declared.target.Target.{Target}
use Rattle.outcomes.specs.Found.{id_of, owner_of}
use Rattle.evaluation.specs.declared.handed.Module.{Module}
use Rattle.evaluation.specs.Evaluated.{Known}
use Rattle.evaluation.specs.Runs.{module_after, targets_after, program_at, state_of_file}
use Rattle.evaluation.specs.Runs as usual_runs
use Rattle.evaluation.specs.Workspaces.{linked_files}
use Rattle.evaluation.specs.Worlds.{world}
use Rattle.loader.specs.MadeBefore.{attribute_at, rule_of}
use Rattle.loader.specs.Files as usual
use Rattle.loader.specs.Places.{of_module, of_build}
use Rattle.holding.proofs.Assembled.{operations_keep}
use Rattle.workspace_laws.specs.Found.{seen}
use Rattle.workspace_laws.specs.ModuleLaws.{of_all}
use Rattle.workspace_laws.proofs.Known.{module_in}
use Rattle.workspace_laws.proofs.Linking.{known_keep}
use Rattle.workspace_laws.proofs.ModulePlaces.{module_keeps}
use Rattle.workspace_laws.proofs.Runs.{first, begins, starts}
use Rattle.workspace_laws.proofs.Together.{base, one, none_own, evaluation_runs}
use Rattle.workspace_laws.proofs.Within.{AreModules, RunsWithin}
use Rattle.workspace_laws.proofs.Workspaces.{modules_are_coherent, in_any_is_coherent, handed, none_is_given}
use Rattle.plain_language.proofs.Agreeing.{top_levels_are_plain}
use Rattle.workspace_laws.specs.Files.{loads, build_at, fault_at}
use Rattle.workspace_laws.specs.PlainLaws.{ModulesAreTheSame, FaultsAreTheSame}
use Rattle.workspace_laws.specs.Runs.{run_module, run_build}
use Rattle.workspace_laws.proofs.BuildPlaces.{build_keeps}
use Rattle.workspace_laws.proofs.Loading.{same_modules}

-- what is among those that pass passes
passes : (p : Path → Bool) (q : Path) (qs : List Path) → list_any (bytes_eq q) (filter p qs) ≡ true → p q ≡ true
passes p q [] h = absurd (true≢false (sym h))
passes p q (x ∷ qs) h = go (p x) refl (passes p q qs) h
  where
    go : (b : Bool) → p x ≡ b → (list_any (bytes_eq q) (filter p qs) ≡ true → p q ≡ true)
        → list_any (bytes_eq q) (cond b (x ∷ filter p qs) (filter p qs)) ≡ true → p q ≡ true
    go true e rest h = elim (either (bytes_eq q x) (list_any (bytes_eq q) (filter p qs)) h) [
      | inl here ↦ subst (λ z. p z ≡ true) (sym ((bytes_eq-Decides q x).0 here)) e
      | inr later ↦ rest later
    ]
    go false e rest h = rest h

module _ (files : List Pair) (limit : ℕ) where
  abbrev w : Sources ℕ Module FaultKind Kind
  w = usual.loads files limit

  abbrev paths : List Path
  paths = paths_of files

  -- ---- modules

  runs : RunsWithin w seen
  runs =
      evaluation_runs files limit of_module (λ owner base. operations_keep owner base (λ v. []))
      (λ owner base k. module_keeps owner base (attribute_at k))

  module_alike : (k : Known) (p : Path) (n : ℕ) → AreModules w seen k → AreCoherent id_of owner_of (in_known w seen k)
      → AreFresh id_of owner_of p (in_known w seen k)
      → usual_runs.run_module limit (linked_files files) paths of_module k p n ≡ run_module limit (linked_files files) paths of_module k p n
  module_alike k p n within coherent fresh =
      let b = base files limit of_module k p within coherent fresh in
      let tree = one files limit of_module k p within coherent fresh in
      let own = none_own files limit of_module k p within coherent fresh in
      ap (module_after limit (linked_files files) paths of_module p n)
      (top_levels_are_plain p b (λ d. []) (world paths k) (of_module.place k) (linked_files files) n (first p b tree own)
      (record { state = state_of_file limit p n (program_at (linked_files files) n); work = of_module.first })
      (known_keep paths k b (λ q m e. module_in k w.modules q m (within q m e) e)) (module_keeps p b (attribute_at k))
      (starts p b tree own limit (linked_files files) paths of_module n))

  pub modules_same : any_module w ≡ any_module (loads files limit)
  modules_same = same_modules w seen runs (run_module limit (linked_files files) paths of_module) module_alike

  pub known_same : ModulesAreTheSame files limit
  known_same = λ i q. value (modules_same i q)

  -- ---- BUILD files

  module _ (path : Path) (not : is_module path ≡ false) where
    -- no BUILD file owns what stands in a module
    none_built : IsFresh path (of_all files limit)
    none_built d i e =
        let there = passes is_module (owner_of (id_of d)) paths ((modules_are_coherent files limit).owned d (handed files limit d i)) in
        true≢false (sym there ∙ ap is_module e ∙ not)

    abbrev k : Known
    k = usual.known files limit

    build_alike : (n : ℕ)
        → usual_runs.run_build limit (linked_files files) paths (of_build paths) k path n
        ≡ run_build limit (linked_files files) paths (of_build paths) k path n
    build_alike n =
        let b = of_all files limit in
        let tree : IsOneTree b = in_any_is_coherent files limit in
        ap (targets_after limit (linked_files files) paths (of_build paths))
        (top_levels_are_plain path b (λ d. []) (world paths k) ((of_build paths).place k path) (linked_files files) n
        (first path b tree none_built)
        (record { state = state_of_file limit path n (program_at (linked_files files) n); work = (of_build paths).first path })
        (none_is_given files limit) (build_keeps path b (rule_of paths k))
        (record { state = begins path b tree none_built limit (linked_files files) n; work = λ d i. absurd i }))

    abbrev usual_run : Known → Path → ℕ → Result (List Target) (Placed Kind)
    usual_run = usual_runs.run_build limit (linked_files files) paths (of_build paths)

    abbrev plain_run : Known → Path → ℕ → Result (List Target) (Placed Kind)
    plain_run = run_build limit (linked_files files) paths (of_build paths)

    linked_same : (n : ℕ) (o : Option (LoadFault FaultKind Kind))
        → build_linked w usual_run path n o ≡ build_linked (loads files limit) plain_run path n o
    linked_same n (Some f) = refl
    linked_same n None = ap (build_ended w plain_run) (build_alike n ∙ ap (λ q. plain_run q path n) known_same)

    built_same : (r : Result (Read ℕ) (FaultKind × ℕ)) → built w usual_run path r ≡ built (loads files limit) plain_run path r
    built_same (Err e) = refl
    built_same (Ok r) =
        linked_same r.tree (loads_fault w.globals path (any_module w) r.loads)
        ∙ ap (λ at. build_linked (loads files limit) plain_run path r.tree (loads_fault w.globals path at r.loads)) modules_same

    pub build_same : usual.build_at files limit path ≡ build_at files limit path
    build_same = built_same (file w path)

  -- ---- faults

  fault_same : (path : Path) → usual.fault_at files limit path ≡ fault_at files limit path
  fault_same path = go (is_module path) refl
    where
      go : (b : Bool) → is_module path ≡ b
          → (if b then fault_in path (any_module w path) else
          (if is_build_file path then fault_in path (Some (usual.build_at files limit path)) else []))
          ≡ (if b then fault_in path (any_module (loads files limit) path) else
          (if is_build_file path then fault_in path (Some (build_at files limit path)) else []))
      go true e = ap (λ f. fault_in path (f path)) modules_same
      go false e = ap (λ r. if is_build_file path then fault_in path (Some r) else []) (build_same path e)

  pub faults_same : FaultsAreTheSame files limit
  faults_same = ap (λ f. flat_map f paths) (λ i q. fault_same q i)
