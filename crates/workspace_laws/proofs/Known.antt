-- The depsets of the modules that are known, as a list and as loading sees them.
use Rattle.std.proofs.Common.{◌≡◌, inl, inr, ⊎_elim, Bool, true, false, cond, List, [], ◌∷◌, filter, Option, Some, None, refl, sym, subst, true≢false}
use Rattle.std.specs.List.{list_any}
use Rattle.std.specs.Str.{bytes_eq}
use Rattle.std.proofs.lemmas.Slice.Eq.{bytes_eq-Decides}
use Rattle.edges.proofs.Tests.{either, or_left, or_right}
use Rattle.depsets.specs.Flat.{Among}
use Rattle.loading.specs.Loads.{Path}
use Rattle.evaluation.specs.declared.handed.Module.{Module}
use Rattle.evaluation.specs.Evaluated.{Known}
use Rattle.one_tree.specs.Found.{Set}
use Rattle.one_tree.specs.Sets.{AreIn}
use Rattle.one_tree.proofs.Amidst.{among_cases, among_left, among_right}
use Rattle.workspace_laws.specs.Same.{same_set}
use Rattle.workspace_laws.specs.Found.{in_module, in_known, in_modules}
use Rattle.workspace_laws.proofs.Same.{set_decides}

-- ---- the test tells what is in a list

pub among_tested : (d : Set) (ds : List Set) → list_any (same_set d) ds ≡ true → Among d ds
among_tested d [] h = absurd (true≢false (sym h))
among_tested d (e ∷ ds) h = elim (either (same_set d e) (list_any (same_set d) ds) h) [
  | inl here ↦ inl (sym ((set_decides d e).0 here))
  | inr later ↦ inr (among_tested d ds later)
]

pub tested_among : (d : Set) (ds : List Set) → Among d ds → list_any (same_set d) ds ≡ true
tested_among d [] h = absurd h
tested_among d (e ∷ ds) (inl is) = or_left (same_set d e) (list_any (same_set d) ds) ((set_decides d e).1 (sym is))
tested_among d (e ∷ ds) (inr later) = or_right (same_set d e) (list_any (same_set d) ds) (tested_among d ds later)

-- ---- modules by their paths

module _ (known : Known) where
  -- what stands in a module of a listed path stands in the list
  pub listed_in : (paths : List Path) (q : Path) → list_any (bytes_eq q) paths ≡ true
      → AreIn (in_known (known q)) (in_modules known paths)
  listed_in [] q h = absurd (true≢false (sym h))
  listed_in (p ∷ paths) q h = elim (either (bytes_eq q p) (list_any (bytes_eq q) paths) h) [
    | inl here ↦
        subst (λ x. AreIn (in_known (known x)) (in_modules known (p ∷ paths))) (sym ((bytes_eq-Decides q p).0 here))
        (λ d i. among_left d (in_known (known p)) (in_modules known paths) i)
    | inr later ↦ (λ d i. among_right d (in_known (known p)) (in_modules known paths) (listed_in paths q later d i))
  ]

  pub module_in : (paths : List Path) (q : Path) (m : Module) → list_any (bytes_eq q) paths ≡ true
      → known q ≡ Some m → AreIn (in_module m) (in_modules known paths)
  module_in paths q m h e = subst (λ o. AreIn (in_known o) (in_modules known paths)) e (listed_in paths q h)

  -- and what stands there stands in a module
  pub from_module : (paths : List Path) (d : Set) → Among d (in_modules known paths)
      → (q : Path) × (m : Module) × (known q ≡ Some m) × Among d (in_module m)
  from_module [] d i = absurd i
  from_module (p ∷ paths) d i =
      ⊎_elim (λ j. at (known p) refl j) (λ j. from_module paths d j)
      (among_cases d (in_known (known p)) (in_modules known paths) i)
    where
      at : (o : Option Module) → known p ≡ o → Among d (in_known o)
          → (q : Path) × (m : Module) × (known q ≡ Some m) × Among d (in_module m)
      at (Some m) e j = (p, m, e, j)
      at None e j = absurd j

-- a path that is among those that pass is among all
pub any_passing : (p t : Path → Bool) (qs : List Path) → list_any t (filter p qs) ≡ true → list_any t qs ≡ true
any_passing p t [] h = h
any_passing p t (q ∷ qs) h = go (p q) (any_passing p t qs) h
  where
    go : (b : Bool) → (list_any t (filter p qs) ≡ true → list_any t qs ≡ true)
        → list_any t (cond b (q ∷ filter p qs) (filter p qs)) ≡ true → list_any t (q ∷ qs) ≡ true
    go true rest h = elim (either (t q) (list_any t (filter p qs)) h) [
      | inl here ↦ or_left (t q) (list_any t qs) here
      | inr later ↦ or_right (t q) (list_any t qs) (rest later)
    ]
    go false rest h = or_right (t q) (list_any t qs) (rest h)
