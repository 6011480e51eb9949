-- Modules by number: walks, cycles and heights by number are those by path.
use Rattle.std.proofs.Common.{◌≡◌, ℕ, zero, suc, ◌<◌, inl, inr, Bool, true, false, ◌||◌, List, [], ◌∷◌, length, map, get_or, Option, Some, None, Ok, Contains, sym, ap, ◌∙◌, subst, arith, refl, eqb-true, eq-eqb, nat_eq}
use Rattle.std.specs.Prelude.{slice_index, if◌then◌else◌}
use Rattle.std.specs.List.{list_any, cons_option}
use Rattle.edges.specs.Rows.{row}
use Rattle.edges.specs.Walks.{Walk, Leads, OnCycle}
use Rattle.edges.proofs.Tests.{cases_of, not_both, map_same, Contains-head, Contains-later}
use Rattle.edges.proofs.Lists.{to_has}
use Rattle.components.specs.Components.{IsFound}
use Rattle.components.proofs.Lists.{leads_edge}
use Rattle.levels.specs.Levels.{AreHeights}
use Rattle.loading.specs.Loads.{Path, Load, Read, module_path, of_module, of_modules, path_at}
use Rattle.loading.specs.Modules.{Sources, file, targets, targets_in, loads_of, reaches, is_on_cycle, height_of, cycle_line, leads_to, above_all}
use Rattle.loading.proofs.Trails.{walk_from_reaches, reaches_all}
use Rattle.loading.proofs.Heights.{height_steps, load_is_lower}
use Rattle.loading.proofs.Sources.{from_test, to_test, loaded_module, loading_module}
use Rattle.load_graph.specs.Paths.{ArePaths, listed, AreNumbers, leads_back, line_back}
use Rattle.load_graph.proofs.Finding.{same_number, number_of_listed, listed_at}
use Rattle.load_graph.proofs.Naming.{leads_none, leads_some}
use Rattle.modules.specs.Evaluation.{Evaluation, sources}

-- ---- lists

Contains-map : {X Y : Type 0} (f : X → Y) (xs : List X) (x : X) → Contains xs x → Contains (map f xs) (f x)
Contains-map f [] x c = absurd (omega (arith, c.1))
Contains-map f (y ∷ xs) x (zero, low, e) = (0, omega arith, ap f e)
Contains-map f (y ∷ xs) x (suc i, low, e) = let r = Contains-map f xs x (i, omega (arith, low), e) in (suc r.0, omega (arith, r.1), r.2)

from_map : {X Y : Type 0} (f : X → Y) (xs : List X) (y : Y) → Contains (map f xs) y → (x : X) × Contains xs x × (f x ≡ y)
from_map f [] y c = absurd (omega (arith, c.1))
from_map f (x ∷ xs) y (zero, low, e) = (x, Contains-head x xs, e)
from_map f (x ∷ xs) y (suc i, low, e) = let r = from_map f xs y (i, omega (arith, low), e) in (r.0, Contains-later x xs r.0 r.1, r.2)

map-map : {X Y Z : Type 0} (g : Y → Z) (f : X → Y) (xs : List X) → map g (map f xs) ≡ map (λ x. g (f x)) xs
map-map g f [] = refl
map-map g f (x ∷ xs) = ap (λ l. g (f x) ∷ l) (map-map g f xs)

pub same_bool : (a b : Bool) → (a ≡ true → b ≡ true) → (b ≡ true → a ≡ true) → a ≡ b
same_bool true true f g = refl
same_bool true false f g = sym (f refl)
same_bool false true f g = g refl
same_bool false false f g = refl

module _ {T M S K : Type 0} (e : Evaluation T M S K) (paths : List Path) (are : ArePaths paths) (deps : List (List ℕ)) (size : length deps ≡ length paths)
    (rows : (n : ℕ) → n < length paths → AreNumbers paths (targets_in (of_modules (listed paths) (e.read (path_at paths n)))) (row deps n)) where
  abbrev w : Sources T M S K
  w = sources e paths

  abbrev at : ℕ → Path
  at = path_at paths

  loads_are : (n : ℕ) → n < length paths → map at (row deps n) ≡ loads_of w (at n)
  loads_are n low = (rows n low).named_is ∙ sym (ap (λ b. if b then targets_in (file w (at n)) else []) (listed_at paths n low))

  -- ---- walks

  dep_low : (n m : ℕ) → n < length paths → Contains (row deps n) m → m < length paths
  dep_low n m low c = (rows n low).inside m (to_has (row deps n) m c)

  pub load_of : (n m : ℕ) → n < length paths → Contains (row deps n) m → Contains (loads_of w (at n)) (at m)
  load_of n m low c = subst (λ qs. Contains qs (at m)) (loads_are n low) (Contains-map at (row deps n) m c)

  dep_of : (n : ℕ) (q : Path) → n < length paths → Contains (loads_of w (at n)) q → (m : ℕ) × Contains (row deps n) m × (at m ≡ q)
  dep_of n q low c = from_map at (row deps n) q (subst (λ qs. Contains qs q) (sym (loads_are n low)) c)

  walk_to : (k n m : ℕ) → n < length paths → Walk (row deps) k n m → Walk (loads_of w) k (at n) (at m)
  walk_to zero n m low walk = ap at walk
  walk_to (suc k) n m low walk = (at walk.0, load_of n walk.0 low walk.1, walk_to k walk.0 m (dep_low n walk.0 low walk.1) walk.2)

  walk_from : (k n m : ℕ) → n < length paths → m < length paths → Walk (loads_of w) k (at n) (at m) → Walk (row deps) k n m
  walk_from zero n m low low' walk = same_number paths n m are.distinct low low' walk
  walk_from (suc k) n m low low' walk =
      let d = dep_of n walk.0 low walk.1 in
      (d.0, d.1, walk_from k d.0 m (dep_low n d.0 low d.1) low' (subst (λ q. Walk (loads_of w) k q (at m)) (sym d.2) walk.2))

  -- ---- cycles

  pub cycle_to : (n : ℕ) → n < length paths → OnCycle (row deps) n → is_on_cycle w (at n) ≡ true
  cycle_to n low c = to_test w (at n) (c.0, walk_to (suc c.0) n n low c.1)

  pub cycle_from : (n : ℕ) → n < length paths → is_on_cycle w (at n) ≡ true → OnCycle (row deps) n
  cycle_from n low h = let c = from_test w (at n) h in (c.0, walk_from (suc c.0) n n low low c.1)

  -- ---- heights

  module _ (hs : List ℕ) (heights : AreHeights deps hs) where
    low_deps : (n : ℕ) → n < length paths → n < length deps
    low_deps n low = omega (arith, size, low)

    step_is : (n : ℕ) (b : Bool) → is_on_cycle w (at n) ≡ b → height_of w (at n) ≡ above_all (map (height_of w) (if b then [] else loads_of w (at n)))
    step_is n b is = height_steps (loads_of w) paths (loaded_module w) (loading_module w) (at n) ∙ ap (λ x. above_all (map (height_of w) (if x then [] else loads_of w (at n)))) is

    heights_within : (k n : ℕ) → height_of w (at n) < k → n < length paths → get_or hs n 0 ≡ height_of w (at n)
    heights_within zero n under low = absurd (omega (arith, under))
    heights_within (suc k) n under low = elim (cases_of (is_on_cycle w (at n))) [
      | inl on ↦ heights.cyclic n (low_deps n low) (cycle_from n low on) ∙ sym (step_is n true on)
      | inr off ↦
          heights.others n (low_deps n low) (λ c. not_both (is_on_cycle w (at n)) (cycle_to n low c) off)
          ∙ ap above_all (map_same (slice_index hs) (λ m. height_of w (at m)) (row deps n) (λ m c.
          let lower = load_is_lower (loads_of w) paths (loaded_module w) (loading_module w) (at n) (at m) off (load_of n m low c) in
          heights_within k m (omega (arith, lower, under)) (dep_low n m low c)))
          ∙ ap above_all (sym (map-map (height_of w) at (row deps n)))
          ∙ ap (λ qs. above_all (map (height_of w) qs)) (loads_are n low)
          ∙ sym (step_is n false off)
    ]

    pub heights_are : (n : ℕ) → n < length paths → get_or hs n 0 ≡ height_of w (at n)
    heights_are n low = heights_within (suc (height_of w (at n))) n (omega arith) low

  -- ---- the line of a cycle

  module _ (numbers : List ℕ) (found : IsFound (record { deps = deps; numbers = numbers })) where
    number_size : length numbers ≡ length paths
    number_size = found.components.size ∙ size

    low_found : (n : ℕ) → n < length paths → n < length deps
    low_found n low = omega (arith, size, low)

    -- what a file loads leads back to it exactly where it is of its component
    back_is : (n m : ℕ) → n < length paths → m < length paths → Contains (loads_of w (at n)) (at m) → nat_eq (get_or numbers m 0) (get_or numbers n 0) ≡ reaches (loads_of w) (length paths) (at m) (at n)
    back_is n m low low' c =
        same_bool (nat_eq (get_or numbers m 0) (get_or numbers n 0)) (reaches (loads_of w) (length paths) (at m) (at n))
        (λ h.
        let both = (found.components.together m n (low_found m low') (low_found n low)).0 (eqb-true (get_or numbers m 0) (get_or numbers n 0) h) in
        reaches_all (loads_of w) paths (loaded_module w) both.0.0 (at m) (at n) (walk_to both.0.0 m n low' both.0.1))
        (λ h.
        let back = walk_from_reaches (loads_of w) (length paths) (at m) (at n) h in
        let d = dep_of n (at m) low c in
        let is : d.0 ≡ m = same_number paths d.0 m are.distinct (dep_low n d.0 low d.1) low' d.2 in
        let edge : Leads (row deps) n m = leads_edge (row deps) n m (subst (Contains (row deps n)) is d.1) in
        eq-eqb (get_or numbers m 0) (get_or numbers n 0)
        ((found.components.together m n (low_found m low') (low_found n low)).1 ((back.0, walk_from back.0 m n low' low back.1), edge)))

    abbrev named : List Load → List Path
    named ls = targets (map (of_module (listed paths)) ls)

    abbrev reaching : Path → Path → Bool
    reaching p q = reaches (loads_of w) (length paths) q p

    abbrev or_none : Bool → ℕ → Option ℕ
    or_none b line = if b then Some line else None

    -- the line, where a statement with this target stands before others
    abbrev whole : Path → ℕ → List Path → ℕ → Option Path → Option ℕ
    whole p line others later t = or_none (list_any (reaching p) (cons_option t others)) (if leads_to w p t then line else later)

    split : (b rest' : Bool) (rest : Option ℕ) (line later : ℕ) → rest ≡ or_none rest' later → (if b then Some line else rest) ≡ or_none (b || rest') (if b then line else later)
    split true rest' rest line later is = refl
    split false rest' rest line later is = is

    line_of : (n : ℕ) → n < length paths → (ls : List Load) → ((q : Path) → Contains (named ls) q → Contains (loads_of w (at n)) q)
        → line_back paths numbers (get_or numbers n 0) ls ≡ or_none (list_any (reaching (at n)) (named ls)) (cycle_line w (at n) (map (of_module (listed paths)) ls))
    line_of n low [] among = refl
    line_of n low (l ∷ ls) among = by_target (module_path (listed paths) l.target) refl (λ among'. line_of n low ls among')
      where
        by_target : (t : Option Path) → module_path (listed paths) l.target ≡ t
            → (((q : Path) → Contains (named ls) q → Contains (loads_of w (at n)) q)
            → line_back paths numbers (get_or numbers n 0) ls ≡ or_none (list_any (reaching (at n)) (named ls)) (cycle_line w (at n) (map (of_module (listed paths)) ls)))
            → (if leads_back paths numbers (get_or numbers n 0) l.target then Some l.line else line_back paths numbers (get_or numbers n 0) ls)
            ≡ whole (at n) l.line (named ls) (cycle_line w (at n) (map (of_module (listed paths)) ls)) (module_path (listed paths) l.target)
        by_target None is rest =
            ap (λ b. if b then Some l.line else line_back paths numbers (get_or numbers n 0) ls) (leads_none paths numbers (get_or numbers n 0) l.target is)
            ∙ rest (λ q c. among q (subst (λ t. Contains (cons_option t (named ls)) q) (sym is) c))
            ∙ sym (ap (whole (at n) l.line (named ls) (cycle_line w (at n) (map (of_module (listed paths)) ls))) is)
        by_target (Some q) is rest =
            let there : Contains (loads_of w (at n)) q = among q (subst (λ t. Contains (cons_option t (named ls)) q) (sym is) (Contains-head q (named ls))) in
            let m = number_of_listed paths q (loaded_module w (at n) q there) in
            let at_m : module_path (listed paths) l.target ≡ Some (at m.0) = is ∙ ap Some (sym m.1.1) in
            let back = back_is n m.0 low m.1.0 (subst (Contains (loads_of w (at n))) (sym m.1.1) there) ∙ ap (reaching (at n)) m.1.1 in
            ap (λ b. if b then Some l.line else line_back paths numbers (get_or numbers n 0) ls) (leads_some paths numbers (get_or numbers n 0) l.target m.0 are number_size m.1.0 at_m ∙ back)
            ∙ split (reaching (at n) q) (list_any (reaching (at n)) (named ls)) (line_back paths numbers (get_or numbers n 0) ls) l.line (cycle_line w (at n) (map (of_module (listed paths)) ls))
            (rest (λ x c. among x (subst (λ t. Contains (cons_option t (named ls)) x) (sym is) (Contains-later q (named ls) x c))))
            ∙ sym (ap (whole (at n) l.line (named ls) (cycle_line w (at n) (map (of_module (listed paths)) ls))) is)

    -- of a file that was read
    pub line_is : (n : ℕ) → n < length paths → (r : Read T) → e.read (at n) ≡ Ok r
        → line_back paths numbers (get_or numbers n 0) r.loads ≡ or_none (is_on_cycle w (at n)) (cycle_line w (at n) (map (of_module (listed paths)) r.loads))
    line_is n low r is =
        let same : loads_of w (at n) ≡ named r.loads =
        ap (λ b. if b then targets_in (file w (at n)) else []) (listed_at paths n low) ∙ ap (λ f. targets_in (of_modules (listed paths) f)) is in
        line_of n low r.loads (λ q c. subst (λ qs. Contains qs q) (sym same) c)
        ∙ ap (λ qs. or_none (list_any (reaching (at n)) qs) (cycle_line w (at n) (map (of_module (listed paths)) r.loads))) (sym same)
