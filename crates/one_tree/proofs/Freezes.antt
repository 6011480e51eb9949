-- Freezing brings no depset that wasn't there.
use Rattle.std.proofs.Common.{◌≡◌, ℕ, zero, suc, Bool, true, false, if◌then◌else◌, List, [], ◌∷◌, ◌++◌, Option, Some, None, Result, Ok, Err, map, slice_get, refl, subst, sym}
use Rattle.values.specs.Shape.{Shape, key, atom, items, entries, fields, nothing, shape, cell_shape, branch_shape, value_of, entry_of, slot_of}
use Rattle.ticks.specs.Ticking.{Count, Ticking, after_tick, then_on, with_count, entered}
use Rattle.values.specs.Tree.{Trees, Pairs, Slots, key as key_tree, leaf, branch, list, tuple, dict, instance, trees, pairs, slots, tree_list, pair_list, slot_list, none as no_trees, more as more_trees, stop, pair, end, missing, given}
use Rattle.values.specs.View.{FrozenTree, FrozenBranch}
use Rattle.values.specs.Visits.{all_of, keys_of}
use Rattle.values.specs.declared.cells.Cell.{Cell}
use Rattle.values.specs.declared.cells.Cell.TheVariants as cell
use Rattle.keys.specs.declared.key.Key.{Key}
use Rattle.leaves.specs.declared.leaf.Leaf.{Leaf}
use Rattle.leaves.specs.declared.leaf.Provider.{Provider}
use Rattle.ticks.specs.declared.ticks.Kind.{Kind}
use Rattle.ticks.specs.declared.ticks.Kind.TheVariants.{Wrong, Deep}
use Rattle.values.specs.declared.value.Value.{Value}
use Rattle.values.specs.declared.value.Value.TheVariants as value
use Rattle.leaves.specs.Leaves.{can_freeze}
use Rattle.visits.specs.Freeze.{frozen_entry, frozen_slot, sequence, built, freeze_at}
use Rattle.one_tree.specs.Found.{Set, in_leaf, in_tree, in_branch, in_trees, in_pairs, in_slots, in_value, in_values, in_entries, in_fields, in_cell, in_heap, together}
use Rattle.one_tree.specs.Laws.{FreezingBringsNone}
use Rattle.one_tree.specs.Sets.{AreIn}
use Rattle.one_tree.proofs.Amidst.{among_left, among_right}
use Rattle.one_tree.proofs.Changed.{both_in}

left_in : (a b s : List Set) → AreIn (a ++ b) s → AreIn a s
left_in a b s i d h = i d (among_left d a b h)

right_in : (a b s : List Set) → AreIn (a ++ b) s → AreIn b s
right_in a b s i d h = i d (among_right d a b h)

-- ---- what an answer came from

ticked_then : {B : Type 0} (r : Result Count Kind) (f : Count → Result B Kind) (x : B) → after_tick r f ≡ Ok x → (c : Count) × (f c ≡ Ok x)
ticked_then (Ok c) f x e = (c, e)
ticked_then (Err k) f x e = absurd (cc)

got_then : {A B : Type 0} (r : Ticking A) (f : A → Count → Ticking B) (x : B × Count) → then_on r f ≡ Ok x → (p : A × Count) × (r ≡ Ok p) × (f p.0 p.1 ≡ Ok x)
got_then (Ok p) f x e = (p, refl, e)
got_then (Err k) f x e = absurd (cc)

abbrev fine : {A : Type 0} → A → Result A Kind
fine x = Ok x

given_back : {A : Type 0} (x y : A) → fine x ≡ fine y → x ≡ y
given_back x y e = cc

-- ---- what a value shows

abbrev shown : Shape → List Set
shown (key x) = []
shown (atom l) = in_leaf l
shown (items j vs) = in_values vs
shown (entries es) = in_entries es
shown (fields p fs) = in_fields fs
shown nothing = []

-- ---- what all visits give is among what was visited

module _ (s : List Set) (fr : Value → Count → Ticking FrozenTree) (k : (v : Value) (c : Count) (x : FrozenTree × Count) → AreIn (in_value v) s → fr v c ≡ Ok x → AreIn (in_tree x.0) s) where
  all_values : (vs : List Value) (c : Count) (x : List FrozenTree × Count) → AreIn (in_values vs) s → all_of fr vs c ≡ Ok x → AreIn (in_trees (trees x.0)) s
  all_values [] c x i e = subst (λ y. AreIn (in_trees (trees y.0)) s) (given_back ([], c) x e) (λ d h. absurd h)
  all_values (v ∷ vs) c x i e =
      let a = got_then (fr v c) (λ y d. then_on (all_of fr vs d) (λ ys g. Ok (y ∷ ys, g))) x e in
      let b = got_then (all_of fr vs a.0.1) (λ ys g. Ok (a.0.0 ∷ ys, g)) x a.2 in
      subst (λ y. AreIn (in_trees (trees y.0)) s) (given_back (a.0.0 ∷ b.0.0, b.0.1) x b.2)
      (both_in (in_tree a.0.0) (in_trees (trees b.0.0)) s (k v c a.0 (left_in (in_value v) (in_values vs) s i) a.1)
      (all_values vs a.0.1 b.0 (right_in (in_value v) (in_values vs) s i) b.1))

  module _ (visit : Count → Result Count Kind) where
    all_entries : (es : List (Key × Value)) (c : Count) (x : List FrozenTree × Count) → AreIn (in_entries es) s → all_of (frozen_entry visit fr) es c ≡ Ok x → AreIn (in_pairs (pairs (keys_of es) x.0)) s
    all_entries [] c x i e = λ d h. absurd h
    all_entries (p ∷ es) c x i e =
        let a = got_then (frozen_entry visit fr p c) (λ y d. then_on (all_of (frozen_entry visit fr) es d) (λ ys g. Ok (y ∷ ys, g))) x e in
        let b = got_then (all_of (frozen_entry visit fr) es a.0.1) (λ ys g. Ok (a.0.0 ∷ ys, g)) x a.2 in
        let t = ticked_then (visit c) (λ d. fr p.1 d) a.0 a.1 in
        subst (λ y. AreIn (in_pairs (pairs (keys_of (p ∷ es)) y.0)) s) (given_back (a.0.0 ∷ b.0.0, b.0.1) x b.2)
        (both_in (in_tree a.0.0) (in_pairs (pairs (keys_of es) b.0.0)) s (k p.1 t.0 a.0 (left_in (in_value p.1) (in_entries es) s i) t.1)
        (all_entries es a.0.1 b.0 (right_in (in_value p.1) (in_entries es) s i) b.1))

  all_fields : (fs : List (Option Value)) (c : Count) (x : List (Option FrozenTree) × Count) → AreIn (in_fields fs) s → all_of (frozen_slot fr) fs c ≡ Ok x → AreIn (in_slots (slots x.0)) s
  all_fields [] c x i e = subst (λ y. AreIn (in_slots (slots y.0)) s) (given_back ([], c) x e) (λ d h. absurd h)
  all_fields (None ∷ fs) c x i e =
      let b = got_then (all_of (frozen_slot fr) fs c) (λ ys g. Ok (None ∷ ys, g)) x e in
      subst (λ y. AreIn (in_slots (slots y.0)) s) (given_back (None ∷ b.0.0, b.0.1) x b.2) (all_fields fs c b.0 i b.1)
  all_fields (Some v ∷ fs) c x i e =
      let a = got_then (frozen_slot fr (Some v) c) (λ y d. then_on (all_of (frozen_slot fr) fs d) (λ ys g. Ok (y ∷ ys, g))) x e in
      let b = got_then (all_of (frozen_slot fr) fs a.0.1) (λ ys g. Ok (a.0.0 ∷ ys, g)) x a.2 in
      let t = got_then (fr v c) (λ y d. Ok (Some y, d)) a.0 a.1 in
      let q = given_back (Some t.0.0, t.0.1) a.0 t.2 in
      subst (λ y. AreIn (in_slots (slots y.0)) s) (given_back (a.0.0 ∷ b.0.0, b.0.1) x b.2)
      (subst (λ z. AreIn (in_slots (slots (z.0 ∷ b.0.0))) s) q
      (both_in (in_tree t.0.0) (in_slots (slots b.0.0)) s (k v c t.0 (left_in (in_value v) (in_fields fs) s i) t.1)
      (all_fields fs a.0.1 b.0 (right_in (in_value v) (in_fields fs) s i) b.1)))

  leaf_is : (b : Bool) (l : Leaf) (c : Count) (x : FrozenTree × Count) → with_count (if b then Ok (leaf l) else Err Wrong) c ≡ Ok x → (leaf l, c) ≡ x
  leaf_is true l c x e = given_back (leaf l, c) x e
  leaf_is false l c x e = absurd (cc)

  in_sequence : (j : Bool) (ts : List FrozenTree) → in_tree (sequence j ts) ≡ in_trees (trees ts)
  in_sequence true ts = refl
  in_sequence false ts = refl

  built_in : (visit : Count → Result Count Kind) (g : Shape) (c : Count) (x : FrozenTree × Count) → AreIn (shown g) s → built visit fr g c ≡ Ok x → AreIn (in_tree x.0) s
  built_in visit (key y) c x i e = subst (λ z. AreIn (in_tree z.0) s) (given_back (key_tree y, c) x e) (λ d h. absurd h)
  built_in visit (atom l) c x i e = subst (λ z. AreIn (in_tree z.0) s) (leaf_is (can_freeze l) l c x e) i
  built_in visit (items j vs) c x i e =
      let a = got_then (all_of fr vs c) (λ ts d. Ok (sequence j ts, d)) x e in
      subst (λ z. AreIn (in_tree z.0) s) (given_back (sequence j a.0.0, a.0.1) x a.2)
      (subst (λ z. AreIn z s) (sym (in_sequence j a.0.0)) (all_values vs c a.0 i a.1))
  built_in visit (entries es) c x i e =
      let a = got_then (all_of (frozen_entry visit fr) es c) (λ ts d. Ok (branch (dict (pairs (keys_of es) ts)), d)) x e in
      subst (λ z. AreIn (in_tree z.0) s) (given_back (branch (dict (pairs (keys_of es) a.0.0)), a.0.1) x a.2) (all_entries visit es c a.0 i a.1)
  built_in visit (fields p fs) c x i e =
      let a = got_then (all_of (frozen_slot fr) fs c) (λ os d. Ok (branch (instance p (slots os)), d)) x e in
      subst (λ z. AreIn (in_tree z.0) s) (given_back (branch (instance p (slots a.0.0)), a.0.1) x a.2) (all_fields fs c a.0 i a.1)
  built_in visit nothing c x i e = absurd (cc)

-- ---- a value shows what is in it, or in its cell

nth_in : (h : List Cell) (n : ℕ) (c : Cell) → slice_get h n ≡ Some c → AreIn (in_cell c) (in_heap h)
nth_in [] n c e = absurd (cc)
nth_in (x ∷ h) zero c e = let a : x ≡ c = cc in subst (λ y. AreIn (in_cell y) (in_heap (x ∷ h))) a (λ d k. among_left d (in_cell x) (in_heap h) k)
nth_in (x ∷ h) (suc n) c e = λ d k. among_right d (in_cell x) (in_heap h) (nth_in h n c e d k)

cell_shows : (c : Cell) (s : List Set) → AreIn (in_cell c) s → AreIn (shown (cell_shape (Some c))) s
cell_shows (cell.List vs n) s i = i
cell_shows (cell.Tuple vs) s i = i
cell_shows (cell.Dict es n) s i = i
cell_shows (cell.Instance p fs) s i = i

found_shows : (h : List Cell) (n : ℕ) (o : Option Cell) (s : List Set) → slice_get h n ≡ o → AreIn (in_heap h) s → AreIn (shown (cell_shape o)) s
found_shows h n None s e i = λ d k. absurd k
found_shows h n (Some c) s e i = cell_shows c s (λ d k. i d (nth_in h n c e d k))

one_value : (t : FrozenTree) → in_value (value_of t) ≡ in_tree t
one_value (key_tree x) = refl
one_value (leaf l) = refl
one_value (branch b) = refl

tree_values : (ts : Trees Leaf Key Provider) → in_values (map value_of (tree_list ts)) ≡ in_trees ts
tree_values no_trees = refl
tree_values (more_trees t ts) = λ i. one_value t i ++ tree_values ts i

pair_values : (ps : Pairs Leaf Key Provider) → in_entries (map entry_of (pair_list ps)) ≡ in_pairs ps
pair_values stop = refl
pair_values (pair x t ps) = λ i. one_value t i ++ pair_values ps i

slot_values : (ss : Slots Leaf Key Provider) → in_fields (map slot_of (slot_list ss)) ≡ in_slots ss
slot_values end = refl
slot_values (missing ss) = slot_values ss
slot_values (given t ss) = λ i. one_value t i ++ slot_values ss i

branch_shows : (b : FrozenBranch) → shown (branch_shape b) ≡ in_branch b
branch_shows (list ts) = tree_values ts
branch_shows (tuple ts) = tree_values ts
branch_shows (dict ps) = pair_values ps
branch_shows (instance p ss) = slot_values ss

value_shows : (h : List Cell) (v : Value) (s : List Set) → AreIn (in_heap h) s → AreIn (in_value v) s → AreIn (shown (shape h v)) s
value_shows h (value.Key x) s i j = j
value_shows h (value.Leaf l) s i j = j
value_shows h (value.Cell n) s i j = found_shows h n (slice_get h n) s refl i
value_shows h (value.Frozen b) s i j = subst (λ z. AreIn z s) (sym (branch_shows b)) j

freezes : (n : ℕ) (h : List Cell) (s : List Set) → AreIn (in_heap h) s → (v : Value) (c : Count) (x : FrozenTree × Count) → AreIn (in_value v) s → freeze_at n h v c ≡ Ok x → AreIn (in_tree x.0) s
unfolding freeze_at
freezes zero h s i v c x j e = let t = ticked_then (entered zero c) (λ d. Err Deep) x e in absurd (let q = t.1 in cc)
freezes (suc n) h s i v c x j e =
    let t = ticked_then (entered (suc n) c) (λ d. built (entered n) (freeze_at n h) (shape h v) d) x e in
    built_in s (freeze_at n h) (λ w d y k q. freezes n h s i w d y k q) (entered n) (shape h v) t.0 x (value_shows h v s i j) t.1

pub freezing_brings_none : FreezingBringsNone
freezing_brings_none n h v c t d e =
    freezes n h (together h (v ∷ [])) (λ a k. among_left a (in_heap h) (in_values (v ∷ [])) k) v c (t, d)
    (λ a k. among_right a (in_heap h) (in_values (v ∷ [])) (among_left a (in_value v) [] k)) e
