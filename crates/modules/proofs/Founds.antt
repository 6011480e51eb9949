-- What load statements find, and that why a module failed doesn't matter to them.
use Rattle.std.proofs.Common.{◌≡◌, ℕ, ◌+◌, ◌<◌, inl, inr, true, false, ◌||◌, List, [], ◌∷◌, length, map, drop, get_or, Option, Some, None, Result, Ok, Err, sym, ap, ◌∙◌, arith, refl}
use Rattle.std.specs.Prelude.{IfOk, if◌then◌else◌, option_and_then}
use Rattle.std.specs.Option.{option_or}
use Rattle.std.specs.Str.{bytes_eq}
use Rattle.std.specs.List.{list_any}
use Rattle.std.proofs.lemmas.List.{get_or_default, at_drop_more}
use Rattle.std.proofs.lemmas.Slice.Eq.{bytes_eq-Decides}
use Rattle.edges.proofs.Tests.{cases_of}
use Rattle.loading.specs.Loads.{Path, Name, Load, LoadFault, fault_at, names_fault, module_fault, loads_fault}
use Rattle.loading.specs.declared.faults.LoadFaultKind.TheVariants.{MissingFile, LoadedModuleFailed}
use Rattle.loading.specs.Modules.{Sources, value, module_of, any_module}
use Rattle.load_graph.specs.Paths.{ArePaths, IsAt, listed, entry}
use Rattle.load_graph.proofs.Finding.{entry_at, no_entry}
use Rattle.modules.specs.declared.sorting.FileFault.{FileFault}
use Rattle.modules.specs.Modules.{ModulesView, modules_of}
use Rattle.modules.specs.Found.{without_fault, with_fault, found_in}

-- ---- a statement's fault, by what is found

module _ {S K M : Type 0} (globals : M → List Name) (path : Path) (l : Load) where
  abbrev fault_by : Option (Option M) → Option (LoadFault S K)
  fault_by None = Some (fault_at globals path l.line MissingFile)
  fault_by (Some None) = Some (fault_at globals path l.line LoadedModuleFailed)
  fault_by (Some (Some m)) = names_fault globals path l.line l.asked m

  fault_is : (r : Option (Result M (LoadFault S K))) → module_fault globals path l r ≡ fault_by (without_fault r)
  fault_is None = refl
  fault_is (Some (Ok m)) = refl
  fault_is (Some (Err f)) = refl

-- ---- the faults of statements, where the same is found but for faults

module _ {S K M : Type 0} (globals : M → List Name) (path : Path) (at at' : Path → Option (Result M (LoadFault S K))) (same : (q : Path) → without_fault (at q) ≡ without_fault (at' q)) where
  same_named : (t : Option Path) → without_fault (option_and_then at t) ≡ without_fault (option_and_then at' t)
  same_named None = refl
  same_named (Some q) = same q

  same_faults : (ls : List Load) → loads_fault globals path at ls ≡ loads_fault globals path at' ls
  same_faults [] = refl
  same_faults (l ∷ ls) =
      let one = fault_is {S = S} {K = K} globals path l (option_and_then at l.target) ∙ ap (fault_by globals path l) (same_named l.target) ∙ sym (fault_is {S = S} {K = K} globals path l (option_and_then at' l.target)) in
      ap (λ o. option_or o (loads_fault globals path at ls)) one
      ∙ ap (option_or (module_fault globals path l (option_and_then at' l.target))) (same_faults ls)

-- ---- among all modules

value_of : {M F : Type 0} (r : Result M F) → ◌≡◌ {A = Option (Option M)} (Some (value (Some r))) (without_fault (Some r))
value_of (Ok m) = refl
value_of (Err f) = refl

with_is : {M : Type 0} (S K : Type 0) (q : Path) (o : Option (Option M)) → without_fault (with_fault {S = S} {K = K} q o) ≡ o
with_is S K q None = refl
with_is S K q (Some None) = refl
with_is S K q (Some (Some m)) = refl

module _ {T M S K : Type 0} (w : Sources T M S K) where
  at_listed : (ps : List Path) (q : Path) → entry ps (map (λ p. value (Some (module_of w p))) ps) q ≡ without_fault (elim (list_any (bytes_eq q) ps) [ true ↦ Some (module_of w q) | false ↦ None ])
  at_listed [] q = refl
  at_listed (p ∷ ps) q = elim (cases_of (bytes_eq q p)) [
    | inl here ↦
        ap (λ b. if b then Some (value (Some (module_of w p))) else entry ps (map (λ p. value (Some (module_of w p))) ps) q) here
        ∙ ap (λ x. Some (value (Some (module_of w x)))) (sym ((bytes_eq-Decides q p).0 here))
        ∙ value_of (module_of w q)
        ∙ sym (ap (λ b. without_fault (elim (b || list_any (bytes_eq q) ps) [ true ↦ Some (module_of w q) | false ↦ None ])) here)
    | inr other ↦
        ap (λ b. if b then Some (value (Some (module_of w p))) else entry ps (map (λ p. value (Some (module_of w p))) ps) q) other
        ∙ at_listed ps q
        ∙ sym (ap (λ b. without_fault (elim (b || list_any (bytes_eq q) ps) [ true ↦ Some (module_of w q) | false ↦ None ])) other)
  ]

  found_same : (q : Path) → without_fault (found_in (modules_of w) q) ≡ without_fault (any_module w q)
  found_same q = with_is S K q (entry w.modules (map (λ p. value (Some (module_of w p))) w.modules) q) ∙ at_listed w.modules q

  -- the statements of a file that nobody loads
  module _ (m : ModulesView M S K) (globals : M → List Name) (path : Path) (ls : List Load) (is : m ≡ modules_of w) (same : w.globals ≡ globals) where
    any_is : loads_fault globals path (found_in m) ls ≡ loads_fault w.globals path (any_module w) ls
    any_is =
        ap (λ x. loads_fault x path (found_in m) ls) (sym same) ∙ ap (λ x. loads_fault w.globals path (found_in x) ls) is
        ∙ same_faults w.globals path (found_in (modules_of w)) (any_module w) found_same ls

    -- the statements of a file that nobody loads
    pub any_faults : {E : Type 0} (r : Result (Option (LoadFault S K)) E) → IfOk r (λ f. f ≡ loads_fault globals path (found_in m) ls) → IfOk r (λ f. f ≡ loads_fault w.globals path (any_module w) ls)
    any_faults (Ok f) e = e ∙ any_is
    any_faults (Err x) e = e

-- ---- what is read of modules

module _ {M S K : Type 0} (ps : List Path) (values : List (Option M)) (faults : List (FileFault S K)) (m : ModulesView M S K) (is : ◌≡◌ {A = ModulesView M S K} (record { paths = ps; values = values; faults = faults }) m) where
  pub seen_there : ArePaths ps → length values ≡ length ps → (q : Path) (n k : ℕ) → IsAt ps q n → k ≡ n → (d : Option M) → d ≡ get_or values k d → without_fault (found_in m q) ≡ Some d
  seen_there are size q n k at same d read =
      let low : n < length values = let a = at.0 in omega (arith, a, size) in
      ap (λ x. without_fault (found_in x q)) (sym is) ∙ with_is S K q (entry ps values q)
      ∙ ap (entry ps values) (sym at.1) ∙ entry_at ps values n None are.distinct at.0 low
      ∙ ap Some (ap (λ x. get_or values x None) (sym same) ∙ sym (read ∙ get_or_default values k d None (omega (arith, low, same))))

  pub seen_nowhere : (q : Path) → listed ps q ≡ false → without_fault (found_in m q) ≡ None
  seen_nowhere q none = ap (λ x. without_fault (found_in x q)) (sym is) ∙ with_is S K q (entry ps values q) ∙ no_entry ps values q none

-- ---- one after the other

module _ {S K M : Type 0} (globals : M → List Name) (path : Path) (at : Path → Option (Result M (LoadFault S K))) (all : List Load) (i : ℕ) where
  abbrev faults_from : ℕ → Option (LoadFault S K)
  faults_from k = loads_fault globals path at (drop k all)

  -- a statement that has no fault
  pub loads_on : (l : Load) (f : Option (LoadFault S K)) → i < length all → l ≡ get_or all i l → f ≡ module_fault globals path l (option_and_then at l.target) → f ≡ None
      → loads_fault globals path at all ≡ faults_from i → loads_fault globals path at all ≡ faults_from (i + 1)
  loads_on l f low is by none had =
      had ∙ at_drop_more (loads_fault globals path at) all i l low ∙ ap (λ x. loads_fault globals path at (x ∷ drop (i + 1) all)) (sym is)
      ∙ ap (λ r. option_or r (faults_from (i + 1))) (sym by ∙ none)
