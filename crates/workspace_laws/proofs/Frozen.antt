-- The depsets of frozen globals and defaults were in the heap, or in what the names and the functions had.
use Rattle.std.proofs.Common.{◌≡◌, ℕ, List, [], ◌∷◌, ◌++◌, Option, Some, None, Result, Ok, Err, refl, subst}
use Rattle.std.specs.List.{flat_map}
use Rattle.ticks.specs.Ticking.{Count, Ticking, then_on}
use Rattle.values.specs.View.{FrozenTree}
use Rattle.values.specs.Visits.{all_of}
use Rattle.values.specs.declared.cells.Cell.{Cell}
use Rattle.ticks.specs.declared.ticks.Kind.{Kind}
use Rattle.values.specs.declared.value.Value.{Value}
use Rattle.visits.specs.Freeze.{freeze_at, frozen_slot}
use Rattle.one_tree.specs.Found.{Set, in_tree, in_value, in_values, in_fields, in_heap}
use Rattle.one_tree.specs.Sets.{AreIn}
use Rattle.one_tree.proofs.Changed.{both_in}
use Rattle.one_tree.proofs.Freezes.{freezing_brings_none}
use Rattle.holding.proofs.Steps.{left_in, right_in}
use Rattle.workspace_laws.specs.Found.{in_global}

-- what an answer came from
pub got_then : {A B : Type 0} (r : Ticking A) (f : A → Count → Ticking B) (x : B × Count) → then_on r f ≡ Ok x
    → (p : A × Count) × (r ≡ Ok p) × (f p.0 p.1 ≡ Ok x)
got_then (Ok p) f x e = (p, refl, e)
got_then (Err k) f x e = absurd (cc)

abbrev fine : {A : Type 0} → A → Result A Kind
fine x = Ok x

pub given_back : {A : Type 0} (x y : A) → fine x ≡ fine y → x ≡ y
given_back x y e = cc

-- what all visits give is among what was visited
module _ {A B : Type 0} (in_old : A → List Set) (in_new : B → List Set) (visit : A → Count → Ticking B)
    (s : List Set)
    (brings : (a : A) (c : Count) (x : B × Count) → AreIn (in_old a) s → visit a c ≡ Ok x → AreIn (in_new x.0) s) where
  all_bring : (rest : List A) (c : Count) (x : List B × Count) → AreIn (flat_map in_old rest) s
      → all_of visit rest c ≡ Ok x → AreIn (flat_map in_new x.0) s
  all_bring [] c x i e = subst (λ y. AreIn (flat_map in_new y.0) s) (given_back ([], c) x e) (λ d h. absurd h)
  all_bring (a ∷ rest) c x i e =
      let p = got_then (visit a c) (λ y d. then_on (all_of visit rest d) (λ ys g. Ok (y ∷ ys, g))) x e in
      let q = got_then (all_of visit rest p.0.1) (λ ys g. Ok (p.0.0 ∷ ys, g)) x p.2 in
      subst (λ y. AreIn (flat_map in_new y.0) s) (given_back (p.0.0 ∷ q.0.0, q.0.1) x q.2)
      (both_in (in_new p.0.0) (flat_map in_new q.0.0) s (brings a c p.0 (left_in (in_old a) (flat_map in_old rest) s i) p.1)
      (all_bring rest p.0.1 q.0 (right_in (in_old a) (flat_map in_old rest) s i) q.1))

-- the depsets of values and of fields, as lists of lists
values_flat : (vs : List Value) → in_values vs ≡ flat_map in_value vs
values_flat [] = refl
values_flat (v ∷ vs) = λ i. in_value v ++ values_flat vs i

abbrev in_slot : Option Value → List Set
in_slot None = []
in_slot (Some v) = in_value v

fields_flat : (fs : List (Option Value)) → in_fields fs ≡ flat_map in_slot fs
fields_flat [] = refl
fields_flat (None ∷ fs) = fields_flat fs
fields_flat (Some v ∷ fs) = λ i. in_value v ++ fields_flat fs i

module _ (n : ℕ) (h : List Cell) (s : List Set) (heap : AreIn (in_heap h) s) where
  abbrev frozen : Value → Count → Ticking FrozenTree
  frozen = freeze_at n h

  one_brings : (v : Value) (c : Count) (x : FrozenTree × Count) → AreIn (in_value v) s → frozen v c ≡ Ok x
      → AreIn (in_tree x.0) s
  one_brings v c x i e d k =
      both_in (in_heap h) (in_values (v ∷ [])) s heap (both_in (in_value v) [] s i (λ a b. absurd b)) d
      (freezing_brings_none n h v c x.0 x.1 e d k)

  slot_brings : (o : Option Value) (c : Count) (x : Option FrozenTree × Count) → AreIn (in_slot o) s
      → frozen_slot frozen o c ≡ Ok x → AreIn (in_global x.0) s
  slot_brings None c x i e = subst (λ y. AreIn (in_global y.0) s) (given_back (None, c) x e) (λ d k. absurd k)
  slot_brings (Some v) c x i e =
      let p = got_then (frozen v c) (λ t d. Ok (Some t, d)) x e in
      subst (λ y. AreIn (in_global y.0) s) (given_back (Some p.0.0, p.0.1) x p.2) (one_brings v c p.0 i p.1)

  pub globals_bring : (gs : List (Option Value)) (c : Count) (x : List (Option FrozenTree) × Count)
      → AreIn (in_fields gs) s → all_of (frozen_slot frozen) gs c ≡ Ok x → AreIn (flat_map in_global x.0) s
  globals_bring gs c x i e = all_bring in_slot in_global (frozen_slot frozen) s slot_brings gs c x (subst (λ ds. AreIn ds s) (fields_flat gs) i) e

  values_bring : (vs : List Value) (c : Count) (x : List FrozenTree × Count) → AreIn (in_values vs) s
      → all_of frozen vs c ≡ Ok x → AreIn (flat_map in_tree x.0) s
  values_bring vs c x i e = all_bring in_value in_tree frozen s one_brings vs c x (subst (λ ds. AreIn ds s) (values_flat vs) i) e

  pub defaults_bring : (vss : List (List Value)) (c : Count) (x : List (List FrozenTree) × Count)
      → AreIn (flat_map in_values vss) s → all_of (all_of frozen) vss c ≡ Ok x
      → AreIn (flat_map (flat_map in_tree) x.0) s
  defaults_bring vss c x i e = all_bring in_values (flat_map in_tree) (all_of frozen) s values_bring vss c x i e
