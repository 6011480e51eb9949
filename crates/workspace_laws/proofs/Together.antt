-- All modules of a workspace are coherent together, where the place of modules keeps one tree for an id.
use Rattle.std.proofs.Common.{◌≡◌, ◌⊎◌, inl, inr, ℕ, ◌≤◌, true, List, [], Result, Ok, Err}
use Rattle.depsets.specs.Flat.{Among}
use Rattle.lexer.specs.declared.fault.FaultKind.{FaultKind}
use Rattle.ticks.specs.declared.ticks.Kind.{Kind}
use Rattle.workspace.specs.Workspaces.{Pair, paths_of}
use Rattle.coherence.specs.Coherent.{Depsets, AreCoherent, AreFresh}
use Rattle.loading.specs.Loads.{Path}
use Rattle.loading.specs.Modules.{Sources}
use Rattle.loading.specs.Together.{IfMade, AreTogether}
use Rattle.loading.specs.Together as together
use Rattle.loading.specs.declared.faults.Ending.{Ending}
use Rattle.evaluation.specs.declared.handed.Module.{Module}
use Rattle.evaluation.specs.Evaluated.{Known}
use Rattle.evaluation.specs.Runs.{OfModule, run_module}
use Rattle.evaluation.specs.Workspaces.{linked_files, sources_of}
use Rattle.one_tree.specs.Found.{Set}
use Rattle.one_tree.specs.Sets.{IsOneTree, IsFresh}
use Rattle.outcomes.specs.Found.{id_of, owner_of, serial_of}
use Rattle.holding.specs.Places.{PlaceKeeps, OperationsKeep}
use Rattle.workspace_laws.specs.Found.{in_module, in_modules, seen}
use Rattle.workspace_laws.proofs.Known.{among_tested, tested_among, module_in, from_module}
use Rattle.workspace_laws.proofs.Linking.{known_keep}
use Rattle.workspace_laws.proofs.Runs.{IfMadeBy, run_in}
use Rattle.workspace_laws.proofs.Within.{AreModules, RunsWithin, together_within}

module _ (files : List Pair) (limit : ℕ) {W : Type 0} (own : OfModule W) where
  abbrev w : Sources ℕ Module FaultKind Kind
  w = sources_of files limit own

  abbrev handed : Known → Depsets Set
  handed known = together.in_known w seen known

  abbrev nothing : W → List Set
  nothing v = []

  module _ (known : Known) (p : Path) (within : AreModules w seen known)
      (coherent : AreCoherent id_of owner_of (handed known))
      (fresh : AreFresh id_of owner_of p (handed known)) where
    -- the depsets of the modules that are handed, as a list
    abbrev pub base : List Set
    base = in_modules known w.modules

    was_handed : (d : Set) → Among d base → handed known d
    was_handed d i = let m = from_module known w.modules d i in (m.0, m.1, m.2, tested_among d (in_module m.1) m.3)

    is_listed : (d : Set) → handed known d → Among d base
    is_listed d (q, m, e, i) = module_in known w.modules q m (within q m e) e d (among_tested d (in_module m) i)

    pub one : IsOneTree base
    one a b i j e = coherent a b (was_handed a i) (was_handed b j) e

    pub none_own : IsFresh p base
    none_own d i e = fresh d (was_handed d i) e

    made : (r : Result Module (Ending Kind)) → IfMadeBy p base one none_own r → IfMade w seen p (handed known) r
    made (Err e) h = tt
    made (Ok m) h = record {
      together = λ a b i j e. h.0.one a b (all a i) (all b j) e;
      theirs = λ d i. theirs d (inside d i);
    }
      where
        inside : (d : Set) → seen.has m d ≡ true → Among d h.0.sets
        inside d i = h.3 d (among_tested d (in_module m) i)

        all : (d : Set) → handed known d ⊎ (seen.has m d ≡ true) → Among d h.0.sets
        all d (inl i) = h.0.given d (is_listed d i)
        all d (inr i) = inside d i

        theirs : (d : Set) → Among d h.0.sets
            → handed known d ⊎ ((owner_of (id_of d) ≡ p) × (1 ≤ serial_of (id_of d)))
        theirs d i = elim (h.0.theirs d i) [
          | inl older ↦ inl (was_handed d older)
          | inr own ↦ inr (own, (h.2 d i own).0)
        ]

    module _ (n : ℕ) (keep : OperationsKeep p base nothing)
        (place : PlaceKeeps p base nothing (own.place known)) where
      runs : IfMade w seen p (handed known) (run_module limit (linked_files files) (paths_of files) own known p n)
      runs =
          made (run_module limit (linked_files files) (paths_of files) own known p n)
          (run_in p base one none_own limit (linked_files files) (paths_of files) own known n keep
          (known_keep (paths_of files) known base (λ q m e. module_in known w.modules q m (within q m e) e)) place)

  module _ (keep : (owner : Path) (base : List Set) → OperationsKeep owner base nothing)
      (places : (owner : Path) (base : List Set) (known : Known) → PlaceKeeps owner base nothing (own.place known)) where
    pub evaluation_runs : RunsWithin w seen
    evaluation_runs known p n within coherent fresh =
        let b = in_modules known w.modules in
        runs known p within coherent fresh n (keep p b) (places p b known)

    pub all_together : AreTogether w seen
    all_together = together_within w seen evaluation_runs
