-- A module that is evaluated where all that stand lower are done.
use Rattle.std.proofs.Common.{◌≡◌, ℕ, ◌+◌, ◌<◌, inl, inr, Bool, true, false, ◌&&◌, List, [], ◌∷◌, ◌++◌, length, map, take, get_or, set, Option, Some, None, Result, Ok, Err, sym, ap, ◌∙◌, subst, arith, refl, ltb-true, length-take}
use Rattle.std.specs.Prelude.{slice_index, nat_lt, if◌then◌else◌, option_and_then}
use Rattle.std.specs.Option.{option_or}
use Rattle.std.proofs.lemmas.List.{get_or-map, length-map, get_or-take, get_or_default, get_or_append_left, get_or_push, length_push, get_or-set_same, get_or-set_other, length-set, ext_get_or}
use Rattle.edges.specs.Rows.{row}
use Rattle.edges.proofs.Tests.{cases_of}
use Rattle.edges.proofs.Lists.{below_or_past}
use Rattle.components.specs.Components.{Found, IsFound}
use Rattle.components.proofs.Lists.{same_or}
use Rattle.loading.specs.declared.faults.LoadFaultKind.TheVariants.{LoadCycle}
use Rattle.loading.specs.Loads.{Path, Load, Read, LoadFault, module_path, of_module, of_modules, module_fault, loads_fault, path_at}
use Rattle.loading.specs.Modules.{Sources, targets_in, is_on_cycle, cycle_line, height_of, value, ended, linked, loaded, lower, module_of}
use Rattle.loading.proofs.ByLoads.{by_loads}
use Rattle.load_graph.specs.Paths.{ArePaths, listed, AreNumbers, line_back}
use Rattle.load_graph.proofs.Finding.{number_of_listed, listed_at}
use Rattle.modules.specs.Tables.{Table, module_at, known_at, lower_of}
use Rattle.modules.specs.Evaluation.{Evaluation, sources, unless, linked_by, acyclic_by, module_by}
use Rattle.modules.specs.Loading.{AreLinks, IsReady, IsBelow, AreDone}
use Rattle.modules.proofs.Lookups.{at_number, not_there}
use Rattle.modules.proofs.ByNumber.{line_is, heights_are}

module _ {T M S K : Type 0} (e : Evaluation T M S K) (paths : List Path) (are : ArePaths paths) where
  abbrev w : Sources T M S K
  w = sources e paths

  abbrev R : Type 0
  R = Result M (LoadFault S K)

  abbrev at : ℕ → Path
  at = path_at paths

  abbrev lowers : ℕ → Path → Option R
  lowers n = lower w (height_of w (at n)) (module_of w)

  abbrev pick : Bool → Path → Option R
  pick b q = elim b [ true ↦ Some (module_of w q) | false ↦ None ]

  -- ---- what is known is what stands lower

  module _ (hs : List ℕ) (heights : (m : ℕ) → m < length paths → get_or hs m 0 ≡ height_of w (at m)) (ds : List (Option R)) (n : ℕ) (low : n < length paths) (size : length hs ≡ length paths) (b : IsBelow w hs ds n) where
    abbrev table : Table R
    table = record { paths = paths; known = lower_of hs (get_or hs n 0) ds }

    known_one : (m : ℕ) → m < length paths → module_at table (at m) ≡ lowers n (at m)
    known_one m low' =
        at_number paths hs (get_or hs n 0) ds m are size b.size low'
        ∙ go (nat_lt (get_or hs m 0) (get_or hs n 0)) refl
        ∙ ap (λ x. pick (nat_lt x (get_or hs n 0)) (at m)) (heights m low')
        ∙ ap (λ x. pick (nat_lt (height_of w (at m)) x) (at m)) (heights n low)
        ∙ sym (ap (λ x. pick (x && nat_lt (height_of w (at m)) (height_of w (at n))) (at m)) (listed_at paths m low'))
      where
        go : (x : Bool) → nat_lt (get_or hs m 0) (get_or hs n 0) ≡ x → ◌≡◌ {A = Option R} (if x then get_or ds m None else None) (pick x (at m))
        go true is = b.below m low' (ltb-true (get_or hs m 0) (get_or hs n 0) is)
        go false is = refl

    pub known_is : (q : Path) → module_at table q ≡ lowers n q
    known_is q = elim (cases_of (listed paths q)) [
      | inl there ↦ let m = number_of_listed paths q there in subst (λ x. module_at table x ≡ lowers n x) m.1.1 (known_one m.0 m.1.0)
      | inr none ↦ not_there table q none ∙ sym (ap (λ x. pick (x && nat_lt (height_of w q) (height_of w (at n))) q) none)
    ]

  -- ---- a module over that

  module _ (n : ℕ) (known : Table R) (same : (q : Path) → module_at known q ≡ lowers n q) where
    abbrev cut : List Load → List Load
    cut ls = map (of_module (listed paths)) ls

    found_is : (t : Option Path) → option_and_then (module_at known) t ≡ option_and_then (lowers n) (module_path (listed paths) t)
    found_is None = refl
    found_is (Some q) = same q ∙ go (listed paths q) refl
      where
        go : (x : Bool) → listed paths q ≡ x → lowers n q ≡ option_and_then (lowers n) (if x then Some q else None)
        go true is = refl
        go false is = ap (λ x. pick (x && nat_lt (height_of w q) (height_of w (at n))) q) is

    fault_is : (ls : List Load) → loads_fault {S = S} {K = K} e.globals (at n) (module_at known) ls ≡ loads_fault {S = S} {K = K} e.globals (at n) (lowers n) (cut ls)
    fault_is [] = refl
    fault_is (l ∷ ls) =
        ap (λ o. option_or (module_fault {S = S} {K = K} e.globals (at n) l o) (loads_fault {S = S} {K = K} e.globals (at n) (module_at known) ls)) (found_is l.target)
        ∙ ap (option_or (module_fault {S = S} {K = K} e.globals (at n) (of_module (listed paths) l) (option_and_then (lowers n) (module_path (listed paths) l.target)))) (fault_is ls)

    run_is : ◌≡◌ {A = Path → Option M} (known_at known) (λ q. value (lowers n q))
    run_is = λ i q. value (same q i)

    linked_is : (r : Read T) → linked_by e (at n) r known ≡ linked w (at n) r.tree (lowers n) (loads_fault e.globals (at n) (lowers n) (cut r.loads))
    linked_is r = ap (unless e (at n) r known) (fault_is r.loads) ∙ go (loads_fault {S = S} {K = K} e.globals (at n) (lowers n) (cut r.loads))
      where
        go : (f : Option (LoadFault S K)) → unless e (at n) r known f ≡ linked w (at n) r.tree (lowers n) f
        go (Some f) = refl
        go None = ap (λ k. ended {S = S} (at n) (e.run k (at n) r.tree)) run_is

    module _ (deps : List (List ℕ)) (size : length deps ≡ length paths) (rows : (n : ℕ) → n < length paths → AreNumbers paths (targets_in (of_modules (listed paths) (e.read (path_at paths n)))) (row deps n))
        (numbers : List ℕ) (is_found : IsFound (record { deps = deps; numbers = numbers })) (low : n < length paths) (of_paths : known.paths ≡ paths) where
      by_read : (f : Result (Read T) (S × ℕ)) → e.read (at n) ≡ f → module_by e numbers (get_or numbers n 0) (at n) f known ≡ loaded w (at n) (of_modules (listed paths) f) (lowers n)
      by_read (Err s) is = refl
      by_read (Ok r) is =
          ap (acyclic_by e (at n) r known) (ap (λ ps. line_back ps numbers (get_or numbers n 0) r.loads) of_paths ∙ line_is e paths are deps size rows numbers is_found n low r is)
          ∙ by_cycle (is_on_cycle w (at n))
        where
          by_cycle : (x : Bool) → acyclic_by e (at n) r known (if x then Some (cycle_line w (at n) (cut r.loads)) else None)
              ≡ elim x [ true ↦ Err (record { kind = LoadCycle; path = at n; line = cycle_line w (at n) (cut r.loads) }) | false ↦ linked w (at n) r.tree (lowers n) (loads_fault e.globals (at n) (lowers n) (cut r.loads)) ]
          by_cycle true = refl
          by_cycle false = linked_is r

      pub module_is : module_by e numbers (get_or numbers n 0) (at n) (e.read (at n)) known ≡ module_of w (at n)
      module_is = by_read (e.read (at n)) refl ∙ sym (by_loads w (at n))

-- ---- what is ready is enough

module _ {T M S K : Type 0} (e : Evaluation T M S K) (paths : List Path) (files : List (Result (Read T) (S × ℕ))) (f : Found) (hs order : List ℕ) (ready : IsReady e paths files f hs order) where
  file_at : (n : ℕ) (d : Result (Read T) (S × ℕ)) → n < length paths → get_or files n d ≡ e.read (path_at paths n)
  file_at n d low = ap (λ fs. get_or fs n d) ready.files_are ∙ get_or-map e.read paths n [] d low

  pub files_size : length files ≡ length paths
  files_size = ap length ready.files_are ∙ length-map paths e.read

  pub deps_size : length f.deps ≡ length paths
  deps_size = ready.links.size ∙ files_size

  rows_are : (n : ℕ) → n < length paths → AreNumbers paths (targets_in (of_modules (listed paths) (e.read (path_at paths n)))) (row f.deps n)
  rows_are n low =
      let d : Result (Read T) (S × ℕ) = e.read (path_at paths n) in
      subst (λ x. AreNumbers paths (targets_in (of_modules (listed paths) x)) (row f.deps n)) (file_at n d low) (ready.links.rows n d (let z = files_size in omega (arith, z, low)))

  pub hs_size : length hs ≡ length paths
  hs_size = ready.plan.heights_are.size ∙ deps_size

  -- a module that is evaluated is the one by path
  pub one_is : (n own h : ℕ) (p : Path) (file : Result (Read T) (S × ℕ)) (done : List (Option (Result M (LoadFault S K)))) (hs' : List ℕ) → n < length paths → IsBelow (sources e paths) hs done n
      → hs' ≡ hs → h ≡ get_or hs' n 0 → own ≡ get_or f.numbers n 0 → p ≡ path_at paths n → file ≡ get_or files n file
      → module_by e f.numbers own p file (record { paths = paths; known = lower_of hs' h done }) ≡ module_of (sources e paths) (path_at paths n)
  one_is n own h p file done hs' low below same is own_is p_is file_is =
      let known = known_is e paths ready.paths_are hs (heights_are e paths ready.paths_are f.deps deps_size rows_are hs ready.plan.heights_are) done n low hs_size below in
      ap (λ x. module_by e f.numbers own p file (record { paths = paths; known = lower_of hs' x done })) is
      ∙ ap (λ xs. module_by e f.numbers own p file (record { paths = paths; known = lower_of xs (get_or xs n 0) done })) same
      ∙ ap (λ x. module_by e f.numbers x p file (record { paths = paths; known = lower_of hs (get_or hs n 0) done })) own_is
      ∙ ap (λ x. module_by e f.numbers (get_or f.numbers n 0) x file (record { paths = paths; known = lower_of hs (get_or hs n 0) done })) p_is
      ∙ ap (λ x. module_by e f.numbers (get_or f.numbers n 0) (path_at paths n) x (record { paths = paths; known = lower_of hs (get_or hs n 0) done })) (file_is ∙ file_at n file low)
      ∙ module_is e paths ready.paths_are n (record { paths = paths; known = lower_of hs (get_or hs n 0) done }) known f.deps deps_size rows_are f.numbers ready.plan.components low refl

  pub node_low : (k : ℕ) → k < length order → get_or order k 0 < length paths
  node_low k low = let i = ready.plan.ordered.nodes k low in let z = hs_size in omega (arith, i, z)

  -- ---- one after another

  pub below_of : (k : ℕ) (done : List (Option (Result M (LoadFault S K)))) → k < length order → AreDone (sources e paths) order k done → IsBelow (sources e paths) hs done (get_or order k 0)
  below_of k done low d = record {
    size = d.size;
    below = λ m inside less.
        let j = ready.plan.ordered.all m (let z = hs_size in omega (arith, z, inside)) in
        let earlier : j.0 < k = elim (below_or_past j.0 k) [
          | inl l ↦ l
          | inr past ↦
              let up = ready.plan.ordered.ascends k j.0 past j.1 in
              let e = ap (slice_index hs) j.2 in
              absurd (omega (arith, up, e, less))
        ] in
        subst (λ x. get_or done x None ≡ Some (module_of (sources e paths) (path_at paths x))) j.2 (d.done_are j.0 earlier);
  }

  pub done_more : (k n : ℕ) (done : List (Option (Result M (LoadFault S K)))) (r : Result M (LoadFault S K)) → k < length order → n ≡ get_or order k 0 → AreDone (sources e paths) order k done
      → r ≡ module_of (sources e paths) (path_at paths n) → AreDone (sources e paths) order (k + 1) (set done n (Some r))
  done_more k n done r low is d made = record {
    size = length-set done n (Some r) ∙ d.size;
    done_are = λ j lower. elim (same_or (get_or order j 0) n) [
      | inl here ↦
          ap (λ x. get_or (set done n (Some r)) x None) here
          ∙ get_or-set_same done n (Some r) None (let z = d.size in let i = node_low k low in omega (arith, z, i, is))
          ∙ ap Some made ∙ ap (λ x. Some (module_of (sources e paths) (path_at paths x))) (sym here)
      | inr apart ↦
          let earlier : j < k = elim (below_or_past j k) [
            | inl l ↦ l
            | inr past ↦ absurd (apart (ap (λ x. get_or order x 0) (omega (arith, lower, past)) ∙ sym is))
          ] in
          get_or-set_other done n (get_or order j 0) (Some r) None apart ∙ d.done_are j earlier
    ];
  }

  pub all_done : (done : List (Option (Result M (LoadFault S K)))) → AreDone (sources e paths) order (length order) done → done ≡ map (λ p. Some (module_of (sources e paths) p)) paths
  all_done done d =
      ext_get_or None done (map (λ p. Some (module_of (sources e paths) p)) paths) (d.size ∙ sym (length-map paths (λ p. Some (module_of (sources e paths) p))))
      (λ m low.
      let inside : m < length paths = let z = d.size in omega (arith, z, low) in
      let j = ready.plan.ordered.all m (let z = hs_size in omega (arith, z, inside)) in
      subst (λ x. get_or done x None ≡ Some (module_of (sources e paths) (path_at paths x))) j.2 (d.done_are j.0 j.1)
      ∙ sym (get_or-map (λ p. Some (module_of (sources e paths) p)) paths m [] None inside))

pub none_done : {T M S K : Type 0} (w : Sources T M S K) (order : List ℕ) (done : List (Option (Result M (LoadFault S K)))) (count : ℕ) → length done ≡ count → count ≡ length w.modules → AreDone w order 0 done
none_done w order done count e f = record { size = e ∙ f; done_are = λ j low. absurd (omega (arith, low)) }

-- ---- the rows of files

pub no_links : {T E : Type 0} (paths : List Path) → AreLinks {T = T} {E = E} paths [] []
no_links paths = record { size = refl; rows = λ n d low. absurd (omega (arith, low)) }

pub links_more : {T E : Type 0} (paths : List Path) (files : List (Result (Read T) E)) (i : ℕ) (deps new : List (List ℕ)) (file : Result (Read T) E) (numbers : List ℕ) → i < length files → file ≡ get_or files i file
    → AreLinks paths (take i files) deps → AreNumbers paths (targets_in (of_modules (listed paths) file)) numbers → new ≡ deps ++ numbers ∷ [] → AreLinks paths (take (i + 1) files) new
links_more paths files i deps new file numbers low is links are grown =
    let short = length-take i files in
    let long = length-take (i + 1) files in
    let had = links.size in
    record {
      size = let more = ap length grown ∙ length_push deps numbers in omega (arith, more, had, short, long, low);
      rows = λ n d under. elim (below_or_past n i) [
        | inl old ↦
            let file_same = get_or-take i files n d old ∙ sym (get_or-take (i + 1) files n d (omega (arith, old))) in
            let row_same = sym (ap (λ xs. row xs n) grown ∙ get_or_append_left deps (numbers ∷ []) [] n (omega (arith, old, had, short, low))) in
            subst (λ xs. AreNumbers paths (targets_in (of_modules (listed paths) (get_or (take (i + 1) files) n d))) xs) row_same
            (subst (λ x. AreNumbers paths (targets_in (of_modules (listed paths) x)) (row deps n)) file_same (links.rows n d (omega (arith, old, short, low))))
        | inr past ↦
            let e : n ≡ i = omega (arith, under, past, long) in
            let file_same : file ≡ get_or (take (i + 1) files) n d = is ∙ get_or_default files i file d low ∙ sym (ap (λ x. get_or (take (i + 1) files) x d) e ∙ get_or-take (i + 1) files i d (omega arith)) in
            let row_same : numbers ≡ row new n = sym (ap (λ xs. row xs n) grown ∙ get_or_push deps numbers [] n (let s = links.size in omega (arith, s, short, low, e))) in
            subst (λ xs. AreNumbers paths (targets_in (of_modules (listed paths) (get_or (take (i + 1) files) n d))) xs) row_same
            (subst (λ x. AreNumbers paths (targets_in (of_modules (listed paths) x)) numbers) file_same are)
      ];
    }
