-- What the modules that are known give to an evaluation has no depsets but theirs.
use Rattle.std.proofs.Common.{◌≡◌, ℕ, zero, suc, List, [], ◌∷◌, ◌++◌, Option, Some, None, refl, subst}
use Rattle.std.specs.Prelude.{option_and_then, position, bytes_eq, slice_get}
use Rattle.std.specs.Option.{option_or, option_flatten}
use Rattle.std.specs.List.{flat_map}
use Rattle.depsets.specs.Flat.{Among}
use Rattle.values.specs.Shape.{value_of}
use Rattle.values.specs.View.{FrozenTree}
use Rattle.values.specs.declared.value.Value.{Value}
use Rattle.operations.specs.Names.{listed}
use Rattle.loading.specs.Loads.{Path, Name, path_at}
use Rattle.evaluation.specs.declared.handed.Module.{Module}
use Rattle.evaluation.specs.Evaluated.{Known, frozen_value, global_named, name_value}
use Rattle.evaluation.specs.Worlds.{load_path, defaults_of, world}
use Rattle.one_tree.specs.Found.{Set, in_tree, in_value, in_values, in_fields}
use Rattle.one_tree.specs.Sets.{AreIn}
use Rattle.one_tree.proofs.Amidst.{among_left, among_right}
use Rattle.holding.specs.Places.{LinkedKeeps}
use Rattle.workspace_laws.specs.Found.{in_global, in_module, AllKnown}
use Rattle.workspace_laws.proofs.Named.{one_value}

-- ---- what stands at a place of a list is in the list

at_place : {A : Type 0} (f : A → List Set) (xs : List A) (n : ℕ) (x : A) → slice_get xs n ≡ Some x
    → AreIn (f x) (flat_map f xs)
at_place f [] n x e = absurd (cc)
at_place f (y ∷ xs) zero x e =
    let a : y ≡ x = cc in
    subst (λ z. AreIn (f z) (flat_map f (y ∷ xs))) a (λ d k. among_left d (f y) (flat_map f xs) k)
at_place f (y ∷ xs) (suc n) x e = λ d k. among_right d (f y) (flat_map f xs) (at_place f xs n x e d k)

field_at : (fs : List (Option Value)) (n : ℕ) (v : Value) → option_flatten (slice_get fs n) ≡ Some v
    → AreIn (in_value v) (in_fields fs)
field_at [] n v e = absurd (cc)
field_at (None ∷ fs) zero v e = absurd (cc)
field_at (Some u ∷ fs) zero v e =
    let a : u ≡ v = cc in
    subst (λ z. AreIn (in_value z) (in_fields (Some u ∷ fs))) a
    (λ d k. among_left d (in_value u) (in_fields fs) k)
field_at (None ∷ fs) (suc n) v e = field_at fs n v e
field_at (Some u ∷ fs) (suc n) v e = λ d k. among_right d (in_value u) (in_fields fs) (field_at fs n v e d k)

frozen_at : (ts : List (Option FrozenTree)) (n : ℕ) (v : Value) → frozen_value ts n ≡ Some v
    → AreIn (in_value v) (flat_map in_global ts)
frozen_at [] n v e = absurd (cc)
frozen_at (None ∷ ts) zero v e = absurd (cc)
frozen_at (Some t ∷ ts) zero v e =
    let a : value_of t ≡ v = cc in
    subst (λ z. AreIn (in_value z) (flat_map in_global (Some t ∷ ts))) a
    (λ d k. among_left d (in_tree t) (flat_map in_global ts) (subst (Among d) (one_value t) k))
frozen_at (o ∷ ts) (suc n) v e = λ d k. among_right d (in_global o) (flat_map in_global ts) (frozen_at ts n v e d k)

-- ---- what a module gives

module _ (m : Module) where
  abbrev globals : List Set
  globals = flat_map in_global m.globals

  abbrev loaded : List Set
  loaded = in_fields m.loaded

  abbrev defaults : List Set
  defaults = flat_map in_values m.defaults

  from_globals : AreIn globals (in_module m)
  from_globals d k = among_left d globals (loaded ++ defaults) k

  from_loaded : AreIn loaded (in_module m)
  from_loaded d k = among_right d globals (loaded ++ defaults) (among_left d loaded defaults k)

  from_defaults : AreIn defaults (in_module m)
  from_defaults d k = among_right d globals (loaded ++ defaults) (among_right d loaded defaults k)

  name_in : (n : ℕ) (v : Value) → name_value n m ≡ Some v → AreIn (in_value v) (in_module m)
  name_in n v e = go (frozen_value m.globals n) refl e
    where
      go : (o : Option Value) → frozen_value m.globals n ≡ o → option_or o (option_flatten (slice_get m.loaded n)) ≡ Some v
          → AreIn (in_value v) (in_module m)
      go (Some u) is e = λ d k. from_globals d (frozen_at m.globals n v (cc) d k)
      go None is e = λ d k. from_loaded d (field_at m.loaded n v e d k)

  global_in : (x : Name) (v : Value) → global_named x m ≡ Some v → AreIn (in_value v) (in_module m)
  global_in x v e = go (position (bytes_eq x) m.names) e
    where
      go : (o : Option ℕ) → option_and_then (frozen_value m.globals) o ≡ Some v
          → AreIn (in_value v) (in_module m)
      go (Some n) e = λ d k. from_globals d (frozen_at m.globals n v e d k)
      go None e = absurd (cc)

  default_in : (n : ℕ) → AreIn (in_values (listed (slice_get m.defaults n))) (in_module m)
  default_in n = go (slice_get m.defaults n) refl
    where
      go : (o : Option (List Value)) → slice_get m.defaults n ≡ o → AreIn (in_values (listed o)) (in_module m)
      go (Some vs) e = λ d k. from_defaults d (at_place in_values m.defaults n vs e d k)
      go None e = λ d k. absurd k

-- ---- what all that are known give

module _ (paths : List Path) (known : Known) (base : List Set) (all : AllKnown known base) where
  known_in : (f : Module → Option Value) (o : Option Path) (v : Value)
      → ((m : Module) → f m ≡ Some v → AreIn (in_value v) (in_module m))
      → option_and_then f (option_and_then known o) ≡ Some v → AreIn (in_value v) base
  known_in f None v brings e = absurd (cc)
  known_in f (Some q) v brings e = go (known q) refl e
    where
      go : (o : Option Module) → known q ≡ o → option_and_then f o ≡ Some v → AreIn (in_value v) base
      go None is e = absurd (cc)
      go (Some m) is e = λ d k. all q m is d (brings m e d k)

  known_defaults : (n : ℕ) (o : Option Path) → AreIn (in_values (defaults_of n (option_and_then known o))) base
  known_defaults n None = λ d k. absurd k
  known_defaults n (Some q) = go (known q) refl
    where
      go : (o : Option Module) → known q ≡ o → AreIn (in_values (defaults_of n o)) base
      go None is = λ d k. absurd k
      go (Some m) is = λ d k. all q m is d (default_in m n d k)

  pub known_keep : LinkedKeeps base (world paths known)
  known_keep = record {
    names = λ f n v e. known_in (name_value n) (slice_get paths f) v (λ m. name_in m n v) e;
    defaults = λ id. known_defaults id.number (slice_get paths id.«module»);
    asked = λ f t x v e. known_in (global_named x) (load_path (path_at paths f) t) v (λ m. global_in m x v) e;
  }
