-- Names that values take one after the other, each for a number: a number keeps the first.
use Rattle.std.proofs.Common.{◌≡◌, ℕ, zero, suc, ◌<◌, Bool, true, false, ◌&&◌, if◌then◌else◌, nat_eq, List, [], ◌∷◌, replicate, Option, Some, None, slice_get, slice_set, is_some, refl, sym, ap, ap₂, subst, ◌∙◌, arith, eqb-true, eq-eqb}
use Rattle.std.specs.Option.{option_or}
use Rattle.std.proofs.lemmas.Bool.{eqb-false}
use Rattle.std.specs.List.{list_all}
use Rattle.std.proofs.Math.Dec.{eqb-zero-suc, eqb-suc-zero, eqb-suc-suc}
use Rattle.std.proofs.lemmas.Option.{same_Some}
use Rattle.values.specs.View.{FrozenTree}
use Rattle.loading.specs.Loads.{Name}
use Rattle.evaluation.specs.Naming.{is_unnamed, given_once}
use Rattle.endings.specs.Called.{IsFirstName, IsCalled}

-- ---- what one name does

-- the name for a number, where this is the number that is named
abbrev pub name_for : ℕ → Option ℕ → Name → Option Name
name_for i None x = None
name_for i (Some k) x = if nat_eq k i then Some x else None

abbrev pub given_to : Option ℕ → Name → List (Option Name) → List (Option Name)
given_to None x ys = ys
given_to (Some k) x ys = given_once k x ys

-- a place that has no name takes one, if there is one
abbrev pub filled : Option (Option Name) → Option Name → Option (Option Name)
filled None o = None
filled (Some p) o = Some (option_or p o)

filled_none : (q : Option (Option Name)) → q ≡ filled q None
filled_none None = refl
filled_none (Some None) = refl
filled_none (Some (Some y)) = refl

filled_twice : (q : Option (Option Name)) (o p : Option Name) → filled (filled q o) p ≡ filled q (option_or o p)
filled_twice None o p = refl
filled_twice (Some None) o p = refl
filled_twice (Some (Some y)) o p = refl

unless_first : (b : Bool) (p : Option Name) (xs ys : List (Option Name))
    → (if b then p ∷ xs else p ∷ ys) ≡ p ∷ (if b then xs else ys)
unless_first true p xs ys = refl
unless_first false p xs ys = refl

-- no other place changes
other_place : (q : Option (Option Name)) (x : Name) (b : Bool) → b ≡ false → q ≡ filled q (if b then Some x else None)
other_place q x b off = filled_none q ∙ ap (λ b. filled q (if b then Some x else None)) (sym off)

at_place : (k i : ℕ) (x : Name) (ys : List (Option Name))
    → slice_get (given_once k x ys) i ≡ filled (slice_get ys i) (if nat_eq k i then Some x else None)
at_place k i x [] = refl
at_place zero zero x (None ∷ ys) = refl
at_place zero zero x (Some y ∷ ys) = refl
at_place zero (suc i) x (None ∷ ys) = other_place (slice_get ys i) x (nat_eq zero (suc i)) (eqb-zero-suc i)
at_place zero (suc i) x (Some y ∷ ys) = other_place (slice_get ys i) x (nat_eq zero (suc i)) (eqb-zero-suc i)
at_place (suc k) zero x (p ∷ ys) =
    ap (λ l. slice_get l zero) (unless_first (is_unnamed (slice_get ys k)) p (slice_set ys k (Some x)) ys)
    ∙ other_place (Some p) x (nat_eq (suc k) zero) (eqb-suc-zero k)
at_place (suc k) (suc i) x (p ∷ ys) =
    ap (λ l. slice_get l (suc i)) (unless_first (is_unnamed (slice_get ys k)) p (slice_set ys k (Some x)) ys)
    ∙ at_place k i x ys
    ∙ ap (λ b. filled (slice_get ys i) (if b then Some x else None)) (sym (eqb-suc-suc k i))

given_at : (m : Option ℕ) (i : ℕ) (x : Name) (ys : List (Option Name))
    → slice_get (given_to m x ys) i ≡ filled (slice_get ys i) (name_for i m x)
given_at None i x ys = filled_none (slice_get ys i)
given_at (Some k) i x ys = at_place k i x ys

-- ---- what all names do; of a value, the number that takes its name
module _ (takes : Option FrozenTree → Option ℕ) where
  abbrev pub all_given : List Name → List (Option FrozenTree) → List (Option Name) → List (Option Name)
  all_given [] ts ys = ys
  all_given (x ∷ xs) [] ys = ys
  all_given (x ∷ xs) (t ∷ ts) ys = all_given xs ts (given_to (takes t) x ys)

  -- the name of the first value that a number takes
  abbrev pub first_name : ℕ → List Name → List (Option FrozenTree) → Option Name
  first_name i [] ts = None
  first_name i (x ∷ xs) [] = None
  first_name i (x ∷ xs) (t ∷ ts) = option_or (name_for i (takes t) x) (first_name i xs ts)

  all_at : (i : ℕ) (xs : List Name) (ts : List (Option FrozenTree)) (ys : List (Option Name))
      → slice_get (all_given xs ts ys) i ≡ filled (slice_get ys i) (first_name i xs ts)
  all_at i [] ts ys = filled_none (slice_get ys i)
  all_at i (x ∷ xs) [] ys = filled_none (slice_get ys i)
  all_at i (x ∷ xs) (t ∷ ts) ys =
      all_at i xs ts (given_to (takes t) x ys)
      ∙ ap (λ q. filled q (first_name i xs ts)) (given_at (takes t) i x ys)
      ∙ filled_twice (slice_get ys i) (name_for i (takes t) x) (first_name i xs ts)

-- ---- names where nothing had one

none_yet : (m i : ℕ) → i < m → slice_get (replicate {A = Option Name} m None) i ≡ Some None
none_yet zero i h = absurd (omega arith)
none_yet (suc m) zero h = refl
none_yet (suc m) (suc i) h = none_yet m i (omega arith)

from_none : (m i : ℕ) (o p : Option Name) → filled (slice_get (replicate m None) i) o ≡ Some p → (i < m) × (o ≡ p)
from_none zero i o p e = absurd cc
from_none (suc m) zero o p e = (omega arith, same_Some o p e)
from_none (suc m) (suc i) o p e = let rest = from_none m i o p e in (omega (arith, rest.0), rest.1)

pub both : (a b : Bool) → (a && b) ≡ true → (a ≡ true) × (b ≡ true)
both true b e = (refl, e)
both false b e = absurd cc

has_one : (o : Option Name) → is_some o ≡ true → (x : Name) × (o ≡ Some x)
has_one None e = absurd cc
has_one (Some x) e = (x, refl)

all_have : (ys : List (Option Name)) (i : ℕ) (o : Option Name) → list_all is_some ys ≡ true → slice_get ys i ≡ Some o
    → (x : Name) × (o ≡ Some x)
all_have [] i o h e = absurd cc
all_have (y ∷ ys) zero o h e =
    has_one o (subst (λ p. is_some p ≡ true) (same_Some y o e) (both (is_some y) (list_all is_some ys) h).0)
all_have (y ∷ ys) (suc i) o h e = all_have ys i o (both (is_some y) (list_all is_some ys) h).1 e

all_if_each : (ys : List (Option Name)) → ((i : ℕ) (o : Option Name) → slice_get ys i ≡ Some o → is_some o ≡ true)
    → list_all is_some ys ≡ true
all_if_each [] h = refl
all_if_each (y ∷ ys) h = ap₂ (λ a b. a && b) (h zero y refl) (all_if_each ys (λ i o e. h (suc i) o e))

-- ---- The things that are named, as values of globals, and by number; a number takes the name of what it is.
module _ {A : Type 0} (value : A → FrozenTree) (Is : ℕ → A → Type 0) (takes : Option FrozenTree → Option ℕ)
    (taken : (t : Option FrozenTree) (i : ℕ) → takes t ≡ Some i → (a : A) × (t ≡ Some (value a)) × Is i a)
    (takes_it : (a : A) (i : ℕ) → Is i a → takes (Some (value a)) ≡ Some i) where
  later : (i : ℕ) (y : Name) (t : Option FrozenTree) (xs : List Name) (ts : List (Option FrozenTree)) (x : Name)
      → (takes t ≡ Some i → ⊥) → IsFirstName value (Is i) xs ts x → IsFirstName value (Is i) (y ∷ xs) (t ∷ ts) x
  later i y t xs ts x not_it f =
      record { place = suc f.place; name = f.name; thing = f.thing; here = f.here; is = f.is; first = before }
    where
      before : (k : ℕ) (a : A) → k < suc f.place → slice_get (t ∷ ts) k ≡ Some (Some (value a)) → Is i a → ⊥
      before zero a h e is = not_it (ap takes (same_Some t (Some (value a)) e) ∙ takes_it a i is)
      before (suc k) a h e is = f.first k a (omega arith) e is

  at_once : (i : ℕ) (t : Option FrozenTree) (xs : List Name) (ts : List (Option FrozenTree)) (x : Name)
      → takes t ≡ Some i → IsFirstName value (Is i) (x ∷ xs) (t ∷ ts) x
  at_once i t xs ts x e =
      let it = taken t i e in
      record {
        place = zero;
        name = refl;
        thing = it.0;
        here = ap Some it.1;
        is = it.2;
        first = λ k a h e is. absurd (omega (arith, h));
      }

  first_found : (i : ℕ) (xs : List Name) (ts : List (Option FrozenTree)) (x : Name) → first_name takes i xs ts ≡ Some x
      → IsFirstName value (Is i) xs ts x
  first_found i [] ts x e = absurd cc
  first_found i (y ∷ xs) [] x e = absurd cc
  first_found i (y ∷ xs) (t ∷ ts) x e = by (λ f. first_found i xs ts x f) (takes t) refl e
    where
      chosen : (first_name takes i xs ts ≡ Some x → IsFirstName value (Is i) xs ts x) → (k : ℕ) (b : Bool) → takes t ≡ Some k
          → nat_eq k i ≡ b → option_or (if b then Some y else None) (first_name takes i xs ts) ≡ Some x
          → IsFirstName value (Is i) (y ∷ xs) (t ∷ ts) x
      chosen rest k true is same e =
          subst (λ z. IsFirstName value (Is i) (y ∷ xs) (t ∷ ts) z) (same_Some y x e)
          (at_once i t xs ts y (is ∙ ap Some (eqb-true k i same)))
      chosen rest k false is same e =
          later i y t xs ts x (λ f. eqb-false k i same (same_Some k i (sym is ∙ f))) (rest e)

      by : (first_name takes i xs ts ≡ Some x → IsFirstName value (Is i) xs ts x) → (m : Option ℕ) → takes t ≡ m
          → option_or (name_for i m y) (first_name takes i xs ts) ≡ Some x → IsFirstName value (Is i) (y ∷ xs) (t ∷ ts) x
      by rest None is e = later i y t xs ts x (λ f. absurd (let z = sym is ∙ f in cc)) (rest e)
      by rest (Some k) is e = chosen rest k (nat_eq k i) is refl e

  -- a name that a number has is that of the first global that is it
  pub name_is_first : (m i : ℕ) (xs : List Name) (ts : List (Option FrozenTree)) (x : Name)
      → slice_get (all_given takes xs ts (replicate m None)) i ≡ Some (Some x) → IsFirstName value (Is i) xs ts x
  name_is_first m i xs ts x e =
      first_found i xs ts x
      (from_none m i (first_name takes i xs ts) (Some x) (sym (all_at takes i xs ts (replicate m None)) ∙ e)).1

  -- where all have names, each is called by the first global that is it
  pub all_called : (m i : ℕ) (xs : List Name) (ts : List (Option FrozenTree))
      → list_all is_some (all_given takes xs ts (replicate m None)) ≡ true → i < m
      → IsCalled value (Is i) xs ts (slice_get (all_given takes xs ts (replicate m None)) i)
  all_called m i xs ts h lt =
      let o = first_name takes i xs ts in
      let e : slice_get (all_given takes xs ts (replicate m None)) i ≡ Some o =
      all_at takes i xs ts (replicate m None) ∙ ap (λ q. filled q o) (none_yet m i lt) in
      let named = all_have (all_given takes xs ts (replicate m None)) i o h e in
      (named.0, e ∙ ap Some named.1, first_found i xs ts named.0 named.1)

  some_name : (m : Option Name) (o : Option Name) → ((x : Name) × (o ≡ Some x)) → (x : Name) × (option_or m o ≡ Some x)
  some_name None o f = f
  some_name (Some y) o f = (y, refl)

  found_at : (i k : ℕ) (xs : List Name) (ts : List (Option FrozenTree)) (x : Name) (a : A) → slice_get xs k ≡ Some x
      → slice_get ts k ≡ Some (Some (value a)) → Is i a → (y : Name) × (first_name takes i xs ts ≡ Some y)
  found_at i k [] ts x a e f is = absurd cc
  found_at i k (y ∷ xs) [] x a e f is = absurd cc
  found_at i zero (y ∷ xs) (t ∷ ts) x a e f is =
      let here : takes t ≡ Some i = ap takes (same_Some t (Some (value a)) f) ∙ takes_it a i is in (
        y,
        ap (λ m. option_or (name_for i m y) (first_name takes i xs ts)) here
            ∙ ap (λ b. option_or (if b then Some y else None) (first_name takes i xs ts)) (eq-eqb i i refl),
      )
  found_at i (suc k) (y ∷ xs) (t ∷ ts) x a e f is =
      some_name (name_for i (takes t) y) (first_name takes i xs ts) (found_at i k xs ts x a e f is)

  -- where each is the value of a global, all have names
  pub all_named_if : (m : ℕ) (xs : List Name) (ts : List (Option FrozenTree))
      → ((i : ℕ) → i < m → (x : Name) × IsFirstName value (Is i) xs ts x)
      → list_all is_some (all_given takes xs ts (replicate m None)) ≡ true
  all_named_if m xs ts h =
      all_if_each (all_given takes xs ts (replicate m None))
      (λ i o e.
      let it = from_none m i (first_name takes i xs ts) o (sym (all_at takes i xs ts (replicate m None)) ∙ e) in
      let f = h i it.0 in
      let y = found_at i f.1.place xs ts f.0 f.1.thing f.1.name f.1.here f.1.is in
      ap is_some (sym it.1 ∙ y.1))

  -- numbers that are at one place are the same
  pub one_number : (i j : ℕ) (xs : List Name) (ts : List (Option FrozenTree)) (x y : Name)
      → (f : IsFirstName value (Is i) xs ts x) (g : IsFirstName value (Is j) xs ts y) → f.place ≡ g.place → i ≡ j
  one_number i j xs ts x y f g same =
      let one : Some (Some (value f.thing)) ≡ Some (Some (value g.thing)) =
      sym f.here ∙ ap (slice_get ts) same ∙ g.here in
      same_Some i j
      (sym (takes_it f.thing i f.is) ∙ ap takes (same_Some (Some (value f.thing)) (Some (value g.thing)) one)
      ∙ takes_it g.thing j g.is)
