-- What the evaluation of a module makes: its depsets were known before it or are its own, and an id has one tree.
use Rattle.std.proofs.Common.{◌≡◌, ℕ, zero, suc, inl, Bool, true, false, List, [], ◌++◌, map, replicate, length, Option, None, Result, Ok, Err, refl, sym, subst, if◌then◌else◌}
use Rattle.std.specs.List.{flat_map}
use Rattle.meaning.specs.Functions.{Files, functions}
use Rattle.meaning.specs.Outcome.{Final}
use Rattle.meaning.specs.Calls.{top_meaning}
use Rattle.values.specs.Shape.{value_of}
use Rattle.ticks.specs.Ticking.{Count, Ticking, then_on}
use Rattle.values.specs.View.{FrozenTree}
use Rattle.ticks.specs.declared.ticks.Kind.{Kind}
use Rattle.ticks.specs.declared.ticks.TheConstants.{VISITED_LEVELS}
use Rattle.values.specs.declared.value.Value.{Value}
use Rattle.operations.specs.declared.state.State.{State}
use Rattle.language.specs.declared.whole.Whole.{Whole}
use Rattle.language.specs.Language.{language}
use Rattle.loading.specs.Loads.{Path, Name}
use Rattle.loading.specs.declared.faults.Ending.{Ending}
use Rattle.loading.specs.declared.faults.Ending.TheVariants.{Unnamed}
use Rattle.evaluation.specs.declared.handed.Module.{Module}
use Rattle.targets.specs.declared.declarations.Declarations.{Declarations}
use Rattle.evaluation.specs.Evaluated.{Known}
use Rattle.evaluation.specs.Naming.{Naming, all_named, named, slot_named}
use Rattle.evaluation.specs.Runs.{OfModule, program_at, state_of_file, frozen_globals, frozen_defaults, all_frozen, naming_of, module_named, module_of_frozen, module_ended, module_after, run_module}
use Rattle.evaluation.specs.Worlds.{world}
use Rattle.one_tree.specs.Found.{Set, in_tree, in_values, in_fields}
use Rattle.one_tree.specs.Sets.{IsOneTree, IsFresh, IsNumbered, AreIn}
use Rattle.one_tree.proofs.Changed.{both_in}
use Rattle.keeping.specs.Kept.{Gives}
use Rattle.keeping.proofs.Calls.{top_levels_keep}
use Rattle.holding.specs.Held.{Seen, IsSeen, StateHolds, WholeHolds, held}
use Rattle.holding.specs.Places.{LinkedKeeps, PlaceKeeps, OperationsKeep}
use Rattle.workspace_laws.specs.Found.{in_global, in_module}
use Rattle.workspace_laws.proofs.Frozen.{got_then, given_back, globals_bring, defaults_bring}
use Rattle.workspace_laws.proofs.Named.{globals_same, defaults_same}

-- ---- before anything was done there are no depsets

none_bound : (n : ℕ) (s : List Set) → AreIn (in_fields (replicate n None)) s
none_bound zero s d i = absurd i
none_bound (suc n) s d i = none_bound n s d i

no_defaults : (n : ℕ) (s : List Set) → AreIn (flat_map in_values (replicate n [])) s
no_defaults zero s d i = absurd i
no_defaults (suc n) s d i = no_defaults n s d i

module _ (owner : Path) (base : List Set) (one : IsOneTree base) (fresh : IsFresh owner base) where
  -- what an evaluation has seen at its beginning is what it was given
  abbrev pub first : Seen owner base
  first = record { sets = base; one = one; given = λ d i. i; theirs = λ d i. inl i }

  -- ---- what stands in a module that was made was seen, and its owner's are numbered
  abbrev pub MadeBy : Module → Type 0
  MadeBy m = (k : Seen owner base) × (n : ℕ) × IsNumbered owner n k.sets × AreIn (in_module m) k.sets

  abbrev pub IfMadeBy : Result Module (Ending Kind) → Type 0
  IfMadeBy (Ok m) = MadeBy m
  IfMadeBy (Err e) = Unit {0}

  abbrev Frozen : Type 0
  Frozen = (List (Option FrozenTree) × List (List FrozenTree)) × Count

  module _ (k : Seen owner base) (s : State) (h : StateHolds k s) where
    -- of globals and defaults that were frozen
    abbrev AreSeen : List (Option FrozenTree) → List (List FrozenTree) → Type 0
    AreSeen gs ds = AreIn (flat_map in_global gs) k.sets × AreIn (flat_map (flat_map in_tree) ds) k.sets

    frozen_in : (x : Frozen) → all_frozen s.heap s.globals s.defaults s.ticks ≡ Ok x → AreSeen x.0.0 x.0.1
    frozen_in x e =
        let p = got_then (frozen_globals s.heap s.globals s.ticks)
        (λ gs d. then_on (frozen_defaults s.heap s.defaults d) (λ ds c. Ok ((gs, ds), c))) x e in
        let q = got_then (frozen_defaults s.heap s.defaults p.0.1) (λ ds c. Ok ((p.0.0, ds), c)) x p.2 in
        subst (λ (y : Frozen). AreSeen y.0.0 y.0.1) (given_back ((p.0.0, q.0.0), q.0.1) x q.2) (
          globals_bring VISITED_LEVELS s.heap k.sets h.heap s.globals s.ticks p.0 h.globals p.1,
          defaults_bring VISITED_LEVELS s.heap k.sets h.heap s.defaults p.0.1 q.0 h.defaults q.1,
        )

    module _ (ns : Naming) (names : List Name) (gs : List (Option FrozenTree)) (ds : List (List FrozenTree))
        (made : Declarations) (seen : AreSeen gs ds) where
      abbrev globals : List Set
      globals = flat_map in_global (map (slot_named ns) gs)

      abbrev defaults : List Set
      defaults = flat_map in_values (map (map (λ t. value_of (named ns t))) ds)

      all_in : AreIn (globals ++ (in_fields s.loaded ++ defaults)) k.sets
      all_in =
          both_in globals (in_fields s.loaded ++ defaults) k.sets (subst (λ y. AreIn y k.sets) (sym (globals_same ns gs)) seen.0)
          (both_in (in_fields s.loaded) defaults k.sets h.loaded (subst (λ y. AreIn y k.sets) (sym (defaults_same ns ds)) seen.1))

      -- a module has no more depsets once what it made has names
      named_in : (b : Bool)
          → IfMadeBy (if b then Ok (module_named ns names gs s.loaded ds made) else Err Unnamed)
      named_in true = (k, s.depsets, h.numbered, all_in)
      named_in false = tt

    module _ (n : ℕ) (names : List Name) (made : Declarations) where
      frozen_made : (r : Ticking (List (Option FrozenTree) × List (List FrozenTree)))
          → all_frozen s.heap s.globals s.defaults s.ticks ≡ r
          → IfMadeBy (module_of_frozen owner n names s.loaded made r)
      frozen_made (Err e) is = tt
      frozen_made (Ok x) is =
          let ns = naming_of owner n names x.0.0 made in
          named_in ns names x.0.0 x.0.1 made (frozen_in x is) (all_named ns)

      ended_in : IfMadeBy (module_ended owner n names s made)
      ended_in = frozen_made (all_frozen s.heap s.globals s.defaults s.ticks) refl

  -- ---- a whole evaluation
  module _ (limit : ℕ) (files : Files) where
    -- the state of a file before anything was done holds
    pub begins : (n : ℕ) → StateHolds first (state_of_file limit owner n (program_at files n))
    begins n = record {
      owned = refl;
      numbered = λ d i e. absurd (fresh d i e);
      heap = λ d i. absurd i;
      globals = none_bound (length (program_at files n).globals) base;
      loaded = none_bound (length (program_at files n).globals) base;
      defaults = no_defaults (length (functions (program_at files n))) base;
    }

  module _ (limit : ℕ) (files : Files) (paths : List Path) {W : Type 0} (own : OfModule W) where
    abbrev nothing : W → List Set
    nothing w = []

    after_in : (n : ℕ) (r : Final (Whole W) Value Kind) → Gives (held owner base nothing) IsSeen first r
        → IfMadeBy (module_after limit files paths own owner n r)
    after_in n (Err f) g = tt
    after_in n (Ok r) g = ended_in g.0 r.1.state g.2.state n (program_at files n).globals (own.made r.1.work)

    abbrev pub start : ℕ → Whole W
    start n = record { state = state_of_file limit owner n (program_at files n); work = own.first }

    pub starts : (n : ℕ) → WholeHolds nothing first (start n)
    starts n = record { state = begins limit files n; work = λ d i. absurd i }

    pub run_in : (known : Known) (n : ℕ) → OperationsKeep owner base nothing
        → LinkedKeeps base (world paths known) → PlaceKeeps owner base nothing (own.place known)
        → IfMadeBy (run_module limit files paths own known owner n)
    run_in known n keep linked place =
        let ops = language (world paths known) (own.place known) in
        after_in n (top_meaning ops files n (start n))
        (top_levels_keep (held owner base nothing) ops files n first (start n) (keep (world paths known) (own.place known) linked place) (starts n))
