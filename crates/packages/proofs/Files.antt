-- The files of a workspace, one by one.
use Rattle.std.proofs.Common.{◌≡◌, ℕ, inl, inr, Bool, true, false, ◌&&◌, ◌||◌, cond, List, [], ◌∷◌, ◌++◌, length, drop, Option, Some, None, Result, Ok, Err, sym, ap, ◌∙◌, arith, refl, true≢false, codes, length-drop, ◌+◌, ◌-◌}
use Rattle.std.specs.Prelude.{option_map, is_some, if◌then◌else◌, bytes_eq, IfOk, MatchOption}
use Rattle.std.specs.Option.{option_or}
use Rattle.std.specs.List.{list_any, filter, flat_map}
use Rattle.std.specs.Borrow.{Bor}
use Rattle.std.specs.Map.{lookup}
use Rattle.std.proofs.lemmas.Bool.{false≢true}
use Rattle.std.proofs.lemmas.List.{append-nil, append_assoc, drop-drop}
use Rattle.std.proofs.lemmas.Slice.Eq.{bytes_eq-Decides}
use Rattle.lexer.specs.declared.fault.FaultKind.{FaultKind}
use Rattle.ticks.specs.declared.ticks.Kind.{Kind}
use Rattle.workspace.proofs.LabelLemmas.{segment_start}
use Rattle.workspace.specs.FileKinds.{is_build_file, is_module, package_of}
use Rattle.workspace.specs.Workspaces.{Pair, paths_of}
use Rattle.loading.specs.Loads.{Path, LoadFault}
use Rattle.loading.specs.Modules.{Sources, value, any_module, module_of}
use Rattle.modules.proofs.Outcomes.{are_found}
use Rattle.modules.specs.Modules.{ModulesView, fault_in, faults_of, modules_of, module_in}
use Rattle.targets.proofs.Facts.{cases_of, or_left, or_right}
use Rattle.evaluation.specs.declared.handed.Module.{Module}
use Rattle.loader.specs.Files.{loads, build_at, fault_at}
use Rattle.packages.specs.Packages.{first, build_file_of}
use Rattle.packages.specs.Kept.{Fault, Table, ModuleTold, HasMore, kept_at, IsSoFar, IsTurn, AreAll}
use Rattle.packages.proofs.Tables.{first_none}

-- what ends in the segment `BUILD` doesn't end in `.bzl`
pub kinds_apart : (path : List ℕ) → is_build_file path ≡ true → is_module path ≡ true → ⊥
kinds_apart path build bzl =
    let k = segment_start path in
    let five : drop k path ≡ codes "BUILD" = (bytes_eq-Decides (drop k path) (codes "BUILD")).0 build in
    let four : codes ".bzl" ≡ drop (length path - 4) path = (bytes_eq-Decides (codes ".bzl") (drop (length path - 4) path)).0 bzl in
    let size : length path - k ≡ 5 = sym (length-drop k path) ∙ ap length five in
    let place : length path - 4 ≡ k + 1 = omega (arith, size) in
    let same : codes ".bzl" ≡ codes "UILD" =
    four ∙ ap (λ (n : ℕ). drop n path) place ∙ sym (drop-drop 1 k path) ∙ ap (drop 1) five in
    false≢true (ap (λ (t : List ℕ). bytes_eq t (codes "UILD")) same)

not_build : (path : List ℕ) → is_module path ≡ true → is_build_file path ≡ false
not_build path bzl = elim (cases_of (is_build_file path)) [ inl build ↦ absurd (kinds_apart path build bzl) | inr not ↦ not ]

-- ---- the fault of a module

seen_some : {A : Type 0} (r : Option (Bor A)) (x : Option A) → MatchOption r (x ≡ None) (λ b. x ≡ Some b.now) → is_some x ≡ is_some r
seen_some None x h = ap is_some h
seen_some (Some b) x h = ap is_some h

fault_out : (p : Path) (o : Option (Result Module (LoadFault FaultKind Kind))) → is_some (value o) ≡ true → fault_in p o ≡ []
fault_out p None h = absurd (true≢false (sym h))
fault_out p (Some (Ok m)) h = refl
fault_out p (Some (Err f)) h = absurd (true≢false (sym h))

its_fault : (p : Path) (o : Option (Result Module (LoadFault FaultKind Kind))) (x : Result Module (LoadFault FaultKind Kind)) (rest later left : List Fault) (f : Fault) → o ≡ Some x → is_some (value o) ≡ false → rest ≡ fault_in p o ++ later → rest ≡ f ∷ left
    → (left ≡ later) × (f ∷ [] ≡ fault_in p o)
its_fault p None x rest later left f some out e cut = absurd (true≢false (sym (ap is_some some)))
its_fault p (Some (Ok m)) x rest later left f some out e cut = absurd (true≢false out)
its_fault p (Some (Err g)) x rest later left f some out e cut =
    let same : f ∷ left ≡ record { path = p; fault = g } ∷ later = sym cut ∙ e in
    let head : f ≡ record { path = p; fault = g } = cc in
    let tail : left ≡ later = cc in
    (tail, ap (λ (y : Fault). y ∷ []) head)

module _ (w : Sources ℕ Module FaultKind Kind) (m : ModulesView Module FaultKind Kind) (path : Path) (r : Option (Bor Module)) (later rest : List Fault) (are : m ≡ modules_of w) (told : MatchOption r (module_in m path ≡ None) (λ b. module_in m path ≡ Some b.now)) where
  has_module : is_some (value (any_module w path)) ≡ is_some r
  has_module = ap is_some (sym (are_found w path)) ∙ ap (λ x. is_some (module_in x path)) (sym are) ∙ seen_some r (module_in m path) told

  pub no_fault : (old : List Fault) → is_some r ≡ true → rest ≡ fault_in path (any_module w path) ++ later → (rest ≡ later) × (old ≡ old ++ fault_in path (any_module w path))
  no_fault old some e =
      let none = fault_out path (any_module w path) (has_module ∙ some) in
      (e ∙ ap (λ l. l ++ later) none, sym (ap (λ l. old ++ l) none ∙ append-nil old))

  pub one_fault : (old new left : List Fault) (f g : Fault) (x : Result Module (LoadFault FaultKind Kind)) → is_some r ≡ false → any_module w path ≡ Some x → rest ≡ fault_in path (any_module w path) ++ later → rest ≡ f ∷ left → g ≡ f → new ≡ old ++ g ∷ []
      → (left ≡ later) × (new ≡ old ++ fault_in path (any_module w path))
  one_fault old new left f g x none any e cut same grown =
      let t = its_fault path (any_module w path) x rest later left f any (has_module ∙ none) e cut in
      (t.0, grown ∙ ap (λ (y : Fault). old ++ y ∷ []) same ∙ ap (λ l. old ++ l) t.1)

-- ---- one file more

module _ (p : List ℕ) where
  abbrev asked : Path → Bool
  asked q = is_build_file q && bytes_eq p (package_of q)

  first_cut : (b : Bool) (q : Path) (qs : List Path) → first (cond b (q ∷ qs) qs) ≡ option_or (if b then Some q else None) (first qs)
  first_cut true q qs = refl
  first_cut false q qs = refl

  build_cut : (q : Path) (qs : List Path) → build_file_of (q ∷ qs) p ≡ option_or (if asked q then Some q else None) (build_file_of qs p)
  build_cut q qs = first_cut (asked q) q (filter asked qs)

  pub no_more : (q : Path) (qs : List Path) → is_build_file q ≡ false → build_file_of (q ∷ qs) p ≡ build_file_of qs p
  no_more q qs not = build_cut q qs ∙ ap (λ b. option_or (if b && bytes_eq p (package_of q) then Some q else None) (build_file_of qs p)) not

  pub one_more : (q : Path) (qs : List Path) → is_build_file q ≡ true → build_file_of (q ∷ qs) p ≡ option_or (if bytes_eq p (package_of q) then Some q else None) (build_file_of qs p)
  one_more q qs is = build_cut q qs ∙ ap (λ b. option_or (if b && bytes_eq p (package_of q) then Some q else None) (build_file_of qs p)) is

regroup : {A B : Type 0} (k : B → A) (a : Option A) (b : Bool) (q : B) (o : Option B) → option_or (option_or a (if b then Some (k q) else None)) (option_map k o) ≡ option_or a (option_map k (option_or (if b then Some q else None) o))
regroup k (Some x) b q o = refl
regroup k None true q o = refl
regroup k None false q o = refl

in_filter : (x : Path) (qs : List Path) → is_module x ≡ true → list_any (bytes_eq x) qs ≡ true → list_any (bytes_eq x) (filter is_module qs) ≡ true
in_filter x [] is h = h
in_filter x (q ∷ qs) is h = elim (cases_of (bytes_eq x q)) [
  | inl same ↦
      let here : is_module q ≡ true = ap is_module (sym ((bytes_eq-Decides x q).0 same)) ∙ is in
      ap (λ b. list_any (bytes_eq x) (cond b (q ∷ filter is_module qs) (filter is_module qs))) here ∙ or_left (bytes_eq x q) (list_any (bytes_eq x) (filter is_module qs)) same
  | inr other ↦ past (is_module q) (in_filter x qs is (sym (ap (λ b. b || list_any (bytes_eq x) qs) other) ∙ h))
]
  where
    past : (b : Bool) → list_any (bytes_eq x) (filter is_module qs) ≡ true → list_any (bytes_eq x) (cond b (q ∷ filter is_module qs) (filter is_module qs)) ≡ true
    past true h = or_right (bytes_eq x q) (list_any (bytes_eq x) (filter is_module qs)) h
    past false h = h

module _ (files : List Pair) (limit : ℕ) where
  abbrev w : Sources ℕ Module FaultKind Kind
  w = loads files limit

  module _ (path : Path) (later : List Path) (rest left : List Fault) (packages packages' : Table) (told told' : List Fault) (s : IsSoFar files limit (path ∷ later) rest packages told) where
    step : left ≡ faults_of (module_of w) (filter is_module later)
        → ((p : List ℕ) → option_or (lookup (bytes_eq p) packages') (option_map (kept_at files limit) (build_file_of later p)) ≡ option_or (lookup (bytes_eq p) packages) (option_map (kept_at files limit) (build_file_of (path ∷ later) p)))
        → told' ≡ told ++ fault_at files limit path → IsSoFar files limit later left packages' told'
    step rests more new = record {
      within = λ q h. s.within q (or_right (bytes_eq q path) (list_any (bytes_eq q) later) h);
      modules = rests;
      packages_are = λ p. more p ∙ s.packages_are p;
      faults_are =
          ap (λ l. l ++ flat_map (fault_at files limit) later) new ∙ append_assoc told (fault_at files limit path) (flat_map (fault_at files limit) later) ∙ s.faults_are;
    }

    passed : is_module path ≡ false → rest ≡ faults_of (module_of w) (filter is_module later)
    passed not = s.modules ∙ ap (λ b. faults_of (module_of w) (cond b (path ∷ filter is_module later) (filter is_module later))) not

    unbuilt : is_build_file path ≡ false → packages' ≡ packages → (p : List ℕ) → option_or (lookup (bytes_eq p) packages') (option_map (kept_at files limit) (build_file_of later p)) ≡ option_or (lookup (bytes_eq p) packages) (option_map (kept_at files limit) (build_file_of (path ∷ later) p))
    unbuilt not same p =
        ap (λ t. option_or (lookup (bytes_eq p) t) (option_map (kept_at files limit) (build_file_of later p))) same
        ∙ ap (λ o. option_or (lookup (bytes_eq p) packages) (option_map (kept_at files limit) o)) (sym (no_more p path later not))

    -- a source file
    pub other_turn : is_module path ≡ false → is_build_file path ≡ false → left ≡ rest → packages' ≡ packages → told' ≡ told → IsSoFar files limit later left packages' told'
    other_turn bzl build lefts same tolds =
        step (lefts ∙ passed bzl) (unbuilt build same)
        (tolds ∙ sym (append-nil told) ∙ ap (λ l. told ++ l) (sym (ap (λ b. if b then fault_in path (any_module w path) else (if is_build_file path then fault_in path (Some (build_at files limit path)) else [])) bzl
        ∙ ap (λ b. if b then fault_in path (Some (build_at files limit path)) else []) build)))

    -- a BUILD file
    pub build_turn : is_module path ≡ false → is_build_file path ≡ true → left ≡ rest → HasMore (package_of path) (kept_at files limit path) packages packages'
        → told' ≡ told ++ fault_in path (Some (build_at files limit path)) → IsSoFar files limit later left packages' told'
    build_turn bzl build lefts more new =
        step (lefts ∙ passed bzl)
        (λ p. ap (λ o. option_or o (option_map (kept_at files limit) (build_file_of later p))) (more p)
        ∙ regroup (kept_at files limit) (lookup (bytes_eq p) packages) (bytes_eq p (package_of path)) path (build_file_of later p)
        ∙ ap (λ o. option_or (lookup (bytes_eq p) packages) (option_map (kept_at files limit) o)) (sym (one_more p path later build)))
        (new ∙ ap (λ l. told ++ l) (sym (ap (λ b. if b then fault_in path (any_module w path) else (if is_build_file path then fault_in path (Some (build_at files limit path)) else [])) bzl
        ∙ ap (λ b. if b then fault_in path (Some (build_at files limit path)) else []) build)))

    -- a module
    pub module_turn : is_module path ≡ true → (modules : ModulesView Module FaultKind Kind) → modules ≡ modules_of w → packages' ≡ packages
        → ModuleTold modules path rest left told told' → IsSoFar files limit later left packages' told'
    module_turn bzl modules are same tells =
        let here : list_any (bytes_eq path) (path ∷ later) ≡ true = or_left (bytes_eq path path) (list_any (bytes_eq path) later) ((bytes_eq-Decides path path).1 refl) in
        let there : list_any (bytes_eq path) (filter is_module (paths_of files)) ≡ true = in_filter path (paths_of files) bzl (s.within path here) in
        let any : any_module w path ≡ Some (module_of w path) = ap (λ b. elim b [ true ↦ Some (module_of w path) | false ↦ None ]) there in
        let cut : rest ≡ fault_in path (any_module w path) ++ faults_of (module_of w) (filter is_module later) =
        s.modules ∙ ap (λ b. faults_of (module_of w) (cond b (path ∷ filter is_module later) (filter is_module later))) bzl
        ∙ ap (λ o. fault_in path o ++ faults_of (module_of w) (filter is_module later)) (sym any) in
        let t = tells w (faults_of (module_of w) (filter is_module later)) are any cut in
        step t.0 (unbuilt (not_build path bzl) same)
        (t.1 ∙ ap (λ l. told ++ l) (sym (ap (λ b. if b then fault_in path (any_module w path) else (if is_build_file path then fault_in path (Some (build_at files limit path)) else [])) bzl)))

  -- ---- the first file, and the last

  pub at_first : (paths : List Path) (rest : List Fault) (modules : ModulesView Module FaultKind Kind) (packages : Table) (told : List Fault) → paths ≡ paths_of files → modules ≡ modules_of w → rest ≡ modules.faults
      → packages ≡ [] → told ≡ [] → IsSoFar files limit paths rest packages told
  at_first paths rest modules packages told all are rests none untold = record {
    within = λ q h. ap (list_any (bytes_eq q)) (sym all) ∙ h;
    modules = rests ∙ ap (λ (m : ModulesView Module FaultKind Kind). m.faults) are ∙ ap (λ ps. faults_of (module_of w) (filter is_module ps)) (sym all);
    packages_are = λ p. ap (λ (t : Table). option_or (lookup (bytes_eq p) t) (option_map (kept_at files limit) (build_file_of paths p))) none ∙ ap (λ ps. option_map (kept_at files limit) (build_file_of ps p)) all;
    faults_are = ap (λ l. l ++ flat_map (fault_at files limit) paths) untold ∙ ap (flat_map (fault_at files limit)) all;
  }

  pub at_last : (paths : List Path) (rest : List Fault) (packages : Table) (told : List Fault) → paths ≡ [] → IsSoFar files limit paths rest packages told → AreAll files limit packages told
  at_last paths rest packages told none s = record {
    packages_are = λ p. sym (first_none (lookup (bytes_eq p) packages)) ∙ ap (λ ps. option_or (lookup (bytes_eq p) packages) (option_map (kept_at files limit) (build_file_of ps p))) (sym none) ∙ s.packages_are p;
    faults_are = sym (append-nil told) ∙ ap (λ ps. told ++ flat_map (fault_at files limit) ps) (sym none) ∙ s.faults_are;
  }

  -- ---- what a turn hands back

  pub told_turn : {E : Type 0} (path : Path) (rest : List Fault) (packages : Table) (told told' : List Fault) (modules : ModulesView Module FaultKind Kind) (r : Result (Bor (List Fault)) E) → is_module path ≡ true → modules ≡ modules_of w
      → IfOk r (λ left. ModuleTold modules path rest left.now told told') → IfOk r (λ left. IsTurn files limit path rest left.now packages told packages told')
  told_turn path rest packages told told' modules (Ok left) bzl are h = λ later s. module_turn path later rest left.now packages packages told told' s bzl modules are refl h
  told_turn path rest packages told told' modules (Err e) bzl are h = h
