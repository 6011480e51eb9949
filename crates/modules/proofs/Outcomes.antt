-- What modules came to, sorted out and found by path.
use Rattle.std.proofs.Common.{◌≡◌, ℕ, ◌<◌, ◌⊎◌, inl, inr, true, false, ◌||◌, List, [], ◌∷◌, ◌++◌, length, map, get_or, Option, Some, None, Result, sym, ap, ◌∙◌, subst, arith, refl, true≢false}
use Rattle.std.specs.Prelude.{if◌then◌else◌, MatchOption}
use Rattle.std.specs.Option.{option_copied, option_flatten}
use Rattle.std.specs.Borrow.{Bor}
use Rattle.std.specs.Str.{bytes_eq}
use Rattle.std.specs.List.{list_any}
use Rattle.std.proofs.lemmas.List.{append-nil, get_or_default, get_or_past}
use Rattle.std.proofs.lemmas.Slice.Eq.{bytes_eq-Decides}
use Rattle.edges.specs.Rows.{has}
use Rattle.edges.proofs.Tests.{cases_of}
use Rattle.edges.proofs.Lists.{below_or_past}
use Rattle.components.specs.Components.{AreInside, Found}
use Rattle.loading.specs.Loads.{Path, Read, LoadFault}
use Rattle.loading.specs.Modules.{Sources, value, module_of}
use Rattle.load_graph.specs.Paths.{ArePaths, IsAt, listed, entry}
use Rattle.load_graph.proofs.Finding.{entry_at, no_entry}
use Rattle.modules.specs.declared.sorting.FileFault.{FileFault}
use Rattle.modules.specs.Modules.{ModulesView, module_in, value_in, fault_in, faults_in, faults_of, modules_of, AreFound}
use Rattle.load_graph.specs.Plan.{IsPlan}
use Rattle.modules.specs.Evaluation.{Evaluation}
use Rattle.modules.specs.Loading.{AreLinks, IsReady}

-- ---- sorting out

-- where nothing is left, what was gathered is all
pub nothing_more : {A : Type 0} (xs rest all : List A) → rest ≡ [] → xs ++ rest ≡ all → xs ≡ all
nothing_more xs rest all none had = sym (append-nil xs) ∙ ap (λ l. xs ++ l) (sym none) ∙ had

-- where one of two lists of one length is empty, both are
pub both_spent : {X Y : Type 0} (xs : List X) (ys : List Y) → length ys ≡ length xs → (length xs ≡ 0) ⊎ (length ys ≡ 0) → (xs ≡ []) × (ys ≡ [])
both_spent [] [] size one = (refl, refl)
both_spent [] (y ∷ ys) size one = absurd (omega (arith, size))
both_spent (x ∷ xs) ys size (inl e) = absurd (omega (arith, e))
both_spent (x ∷ xs) ys size (inr e) = absurd (omega (arith, size, e))

module _ {M S K : Type 0} (f : Path → Result M (LoadFault S K)) where
  pub faults_are : (ps : List Path) → faults_in ps (map (λ p. Some (f p)) ps) ≡ faults_of f ps
  faults_are [] = refl
  faults_are (p ∷ ps) = ap (λ l. fault_in p (Some (f p)) ++ l) (faults_are ps)

  pub values_are : (ps : List Path) → ◌≡◌ {A = List (Option M)} (map value_in (map (λ p. Some (f p)) ps)) (map (λ p. value (Some (f p))) ps)
  values_are [] = refl
  values_are (p ∷ ps) = ap (λ l. value (Some (f p)) ∷ l) (values_are ps)

-- what all modules come to
pub all_modules : {T M S K : Type 0} (w : Sources T M S K) (values : List (Option M)) (faults : List (FileFault S K)) (done : List (Option (Result M (LoadFault S K))))
    → done ≡ map (λ p. Some (module_of w p)) w.modules → values ≡ map value_in done → faults ≡ faults_in w.modules done
    → ◌≡◌ {A = ModulesView M S K} (record { paths = w.modules; values = values; faults = faults }) (modules_of w)
all_modules w values faults done is vs fs =
    let a = vs ∙ ap (map value_in) is ∙ values_are (module_of w) w.modules in
    let b = fs ∙ ap (faults_in w.modules) is ∙ faults_are (module_of w) w.modules in
    λ i. record { paths = w.modules; values = a i; faults = b i }

-- ---- found by path

module _ {T M S K : Type 0} (w : Sources T M S K) where
  at_listed : (ps : List Path) (q : Path) → option_flatten (entry ps (map (λ p. value (Some (module_of w p))) ps) q) ≡ value (elim (list_any (bytes_eq q) ps) [ true ↦ Some (module_of w q) | false ↦ None ])
  at_listed [] q = refl
  at_listed (p ∷ ps) q = elim (cases_of (bytes_eq q p)) [
    | inl here ↦
        ap (λ b. option_flatten (if b then Some (value (Some (module_of w p))) else entry ps (map (λ p. value (Some (module_of w p))) ps) q)) here
        ∙ ap (λ x. value (Some (module_of w x))) (sym ((bytes_eq-Decides q p).0 here))
        ∙ sym (ap (λ b. value (elim (b || list_any (bytes_eq q) ps) [ true ↦ Some (module_of w q) | false ↦ None ])) here)
    | inr other ↦
        ap (λ b. option_flatten (if b then Some (value (Some (module_of w p))) else entry ps (map (λ p. value (Some (module_of w p))) ps) q)) other
        ∙ at_listed ps q
        ∙ sym (ap (λ b. value (elim (b || list_any (bytes_eq q) ps) [ true ↦ Some (module_of w q) | false ↦ None ])) other)
  ]

  pub are_found : AreFound w
  are_found q = at_listed w.modules q

-- ---- what is read of modules

module _ {M S K : Type 0} (ps : List Path) (values : List (Option M)) (faults : List (FileFault S K)) (m : ModulesView M S K) (is : ◌≡◌ {A = ModulesView M S K} (record { paths = ps; values = values; faults = faults }) m) where
  read_as : (r : Option (Bor M)) (o x : Option M) → option_copied r ≡ o → x ≡ o → MatchOption r (x ≡ None) (λ b. x ≡ Some b.now)
  read_as None o x e f = f ∙ sym e
  read_as (Some b) o x e f = f ∙ sym e

  pub found_there : ArePaths ps → length values ≡ length ps → (q : Path) (n k : ℕ) → IsAt ps q n → k ≡ n → (d : Option M) (r : Option (Bor M)) → d ≡ get_or values k d → option_copied r ≡ d
      → MatchOption r (module_in m q ≡ None) (λ b. module_in m q ≡ Some b.now)
  found_there are size q n k at same d r read copied =
      let low : n < length values = let a = at.0 in omega (arith, a, size) in
      read_as r d (module_in m q) copied
      (ap (λ x. module_in x q) (sym is) ∙ ap (λ x. option_flatten (entry ps values x)) (sym at.1) ∙ ap option_flatten (entry_at ps values n None are.distinct at.0 low)
      ∙ ap (λ x. get_or values x None) (sym same) ∙ sym (read ∙ get_or_default values k d None (omega (arith, low, same))))

  pub found_nowhere : (q : Path) → listed ps q ≡ false → module_in m q ≡ None
  found_nowhere q none = ap (λ x. module_in x q) (sym is) ∙ ap option_flatten (no_entry ps values q none)

-- ---- who loads whom, before it is planned

first_of : {X : Type 0} (xs : List X) (n : ℕ) → n < length xs → X
first_of [] n low = absurd (omega (arith, low))
first_of (x ∷ xs) n low = x

pub inside_of : {T E : Type 0} (paths : List Path) (files : List (Result (Read T) E)) (deps : List (List ℕ)) → length files ≡ length paths → AreLinks paths files deps → AreInside deps
inside_of paths files deps size links n d h = elim (below_or_past n (length files)) [
  | inl low ↦ let inside = (links.rows n (get_or files n (first_of files n low)) low).inside d h in let s = links.size in omega (arith, inside, s, size)
  | inr past ↦ let none = get_or_past deps n [] (let s = links.size in omega (arith, s, past)) in absurd (true≢false (sym h ∙ ap (λ ds. has ds d) none))
]

pub ready_of : {T M S K : Type 0} (e : Evaluation T M S K) (paths read : List Path) (files files' files'' : List (Result (Read T) (S × ℕ))) (deps : List (List ℕ)) (f : Found) (hs order : List ℕ) → read ≡ paths → ArePaths paths
    → files ≡ map e.read read → files' ≡ files → files'' ≡ files → AreLinks paths files' deps → IsPlan deps f hs order → IsReady e paths files'' f hs order
ready_of e paths read files files' files'' deps f hs order same are is is' is'' links plan = record {
  paths_are = are;
  files_are = is'' ∙ is ∙ ap (map e.read) same;
  links = subst (AreLinks paths files'') (sym plan.same) (subst (λ fs. AreLinks paths fs deps) (is' ∙ sym is'') links);
  plan = subst (λ g. IsPlan g f hs order) (sym plan.same) plan;
}
