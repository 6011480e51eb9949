-- What the steps of operations keep of the depsets that were seen: what a step gives was seen, and the state after it holds.
use Rattle.std.proofs.Common.{◌≡◌, ℕ, zero, suc, Bool, true, false, nat_lt, if◌then◌else◌, List, [], ◌∷◌, ◌++◌, Option, Some, None, Result, Ok, Err, map, length, slice_get, slice_set, refl, subst, sym}
use Rattle.std.specs.Map.{lookup}
use Rattle.depsets.specs.Flat.{nodes}
use Rattle.heap.specs.Cells.{made}
use Rattle.heap.specs.Laws.{Change, heap_after}
use Rattle.values.specs.Shape.{Shape, key, atom, items, entries, fields, nothing, shape, cell_shape, branch_shape, value_of, entry_of, slot_of}
use Rattle.ticks.specs.Ticking.{Count}
use Rattle.values.specs.Tree.{Trees, Pairs, Slots, key as key_tree, leaf, branch, list, tuple, dict, instance, tree_list, pair_list, slot_list, none as no_trees, more as more_trees, stop, pair, end, missing, given}
use Rattle.values.specs.View.{FrozenTree, FrozenBranch}
use Rattle.values.specs.declared.cells.Cell.{Cell}
use Rattle.values.specs.declared.cells.Cell.TheVariants as cell
use Rattle.keys.specs.declared.key.Key.{Key}
use Rattle.leaves.specs.declared.leaf.Leaf.{Leaf}
use Rattle.leaves.specs.declared.leaf.Leaf.TheVariants as plain
use Rattle.leaves.specs.declared.leaf.Provider.{Provider}
use Rattle.values.specs.declared.cells.TheConstants.{LARGEST}
use Rattle.ticks.specs.declared.ticks.Kind.{Kind}
use Rattle.ticks.specs.declared.ticks.Kind.TheVariants.{Large}
use Rattle.values.specs.declared.value.Value.{Value}
use Rattle.values.specs.declared.value.Value.TheVariants as value
use Rattle.operations.specs.Items.{or_fault, at_place}
use Rattle.operations.specs.Making.{placed, make, new_list, new_tuple, entries_in}
use Rattle.operations.specs.Names.{in_slot}
use Rattle.operations.specs.Reading.{sequence_in, leaf_depset, depset_in, of_type}
use Rattle.operations.specs.States.{Op, Doing, then_do, then_give, keeping, with_heap, changed, with_ticks}
use Rattle.operations.specs.declared.made.Made.{Made}
use Rattle.operations.specs.declared.made.Made.TheVariants as new
use Rattle.operations.specs.declared.state.State.{State}
use Rattle.one_tree.specs.Found.{Set, in_leaf, in_branch, in_trees, in_pairs, in_slots, in_tree, in_value, in_values, in_entries, in_fields, in_cell, in_heap, together}
use Rattle.one_tree.specs.Laws.{put_values}
use Rattle.one_tree.specs.Sets.{AreIn}
use Rattle.one_tree.proofs.Amidst.{among_left, among_right}
use Rattle.one_tree.proofs.Changed.{both_in, changes_bring_none}
use Rattle.holding.specs.Held.{Seen, Grows, IsSeen, StateHolds, After}

-- ---- parts of lists of depsets

pub none_in : (s : List Set) → AreIn [] s
none_in s d h = absurd h

pub left_in : (a b s : List Set) → AreIn (a ++ b) s → AreIn a s
left_in a b s i d h = i d (among_left d a b h)

pub right_in : (a b s : List Set) → AreIn (a ++ b) s → AreIn b s
right_in a b s i d h = i d (among_right d a b h)

pub through : (a b c : List Set) → AreIn a b → AreIn b c → AreIn a c
through a b c f g d h = g d (f d h)

pub same_in : (s : List Set) → AreIn s s
same_in s d h = h

-- ---- what is there, if something is

abbrev pub IfSome : {A : Type 0} → (A → Type 0) → Option A → Type 0
IfSome P (Some a) = P a
IfSome P None = Unit {0}

abbrev pub IfGiven : {A : Type 0} → (A → Type 0) → Result A Kind → Type 0
IfGiven P (Ok a) = P a
IfGiven P (Err e) = Unit {0}

pub if_some : {A : Type 0} (P : A → Type 0) (o : Option A) → ((a : A) → o ≡ Some a → P a) → IfSome P o
if_some P (Some a) f = f a refl
if_some P None f = tt

pub if_given : {A : Type 0} (P : A → Type 0) (r : Result A Kind) → ((a : A) → r ≡ Ok a → P a) → IfGiven P r
if_given P (Ok a) f = f a refl
if_given P (Err e) f = tt

-- what holds of all is so of what is given
pub all_given : {A : Type 0} (P : A → Type 0) (r : Result A Kind) → ((a : A) → P a) → IfGiven P r
all_given P (Ok a) f = f a
all_given P (Err e) f = tt

pub either : {A : Type 0} (P : A → Type 0) (b : Bool) (x y : A) → P x → P y → P (if b then x else y)
either P true x y h g = h
either P false x y h g = g

pub of_type_given : {A B : Type 0} (P : A → Type 0) (Q : B → Type 0) (o : Option A) (f : A → Result B Kind)
    → IfSome P o → ((a : A) → P a → IfGiven Q (f a)) → IfGiven Q (of_type o f)
of_type_given P Q (Some a) f h g = g a h
of_type_given P Q None f h g = tt

pub of_type_all : {A B : Type 0} (Q : B → Type 0) (o : Option A) (f : A → Result B Kind) → ((a : A) → IfGiven Q (f a)) → IfGiven Q (of_type o f)
of_type_all Q (Some a) f g = g a
of_type_all Q None f g = tt

pub then_given : {A B : Type 0} (P : A → Type 0) (Q : B → Type 0) (r : Result A Kind) (f : A → Result B Kind)
    → IfGiven P r → ((a : A) → P a → IfGiven Q (f a)) → IfGiven Q (then_give r f)
then_given P Q (Ok a) f h g = g a h
then_given P Q (Err e) f h g = tt

pub then_all : {A B : Type 0} (Q : B → Type 0) (r : Result A Kind) (f : A → Result B Kind) → ((a : A) → IfGiven Q (f a)) → IfGiven Q (then_give r f)
then_all Q (Ok a) f g = g a
then_all Q (Err e) f g = tt

pub or_fault_given : {A : Type 0} (P : A → Type 0) (e : Kind) (o : Option A) → IfSome P o → IfGiven P (or_fault e o)
or_fault_given P e (Some a) h = h
or_fault_given P e None h = tt

-- what a new value has
abbrev pub in_made : Made → List Set
in_made (new.Key k) = []
in_made (new.Leaf l) = in_leaf l
in_made (new.List xs) = in_values xs
in_made (new.Tuple xs) = in_values xs

-- ---- what values have, among depsets that were seen

module _ (s : List Set) where
  abbrev pub HasValue : Value → Type 0
  HasValue v = AreIn (in_value v) s

  abbrev pub HasValues : List Value → Type 0
  HasValues vs = AreIn (in_values vs) s

  abbrev pub HasEntries : List (Key × Value) → Type 0
  HasEntries es = AreIn (in_entries es) s

  abbrev pub HasFields : List (Option Value) → Type 0
  HasFields fs = AreIn (in_fields fs) s

  abbrev pub HasHeap : List Cell → Type 0
  HasHeap h = AreIn (in_heap h) s

  abbrev pub HasMade : Made → Type 0
  HasMade m = AreIn (in_made m) s

pub values_both : (s : List Set) (xs ys : List Value) → HasValues s xs → HasValues s ys → HasValues s (xs ++ ys)
values_both s [] ys i j = j
values_both s (x ∷ xs) ys i j =
    both_in (in_value x) (in_values (xs ++ ys)) s (left_in (in_value x) (in_values xs) s i)
    (values_both s xs ys (right_in (in_value x) (in_values xs) s i) j)

pub one_value_in : (s : List Set) (v : Value) → HasValue s v → HasValues s (v ∷ [])
one_value_in s v i = both_in (in_value v) [] s i (none_in s)

pub mapped_in : {A : Type 0} (s : List Set) (f : A → Value) (xs : List A) → ((a : A) → HasValue s (f a)) → HasValues s (map f xs)
mapped_in s f [] h = none_in s
mapped_in s f (x ∷ xs) h = both_in (in_value (f x)) (in_values (map f xs)) s (h x) (mapped_in s f xs h)

pub keys_in : (s : List Set) (ks : List Key) → HasValues s (map value.Key ks)
keys_in s ks = mapped_in s value.Key ks (λ k. none_in s)

pub entry_values_in : (s : List Set) (es : List (Key × Value)) → HasEntries s es → HasValues s (map (λ e. e.1) es)
entry_values_in s [] i = i
entry_values_in s (e ∷ es) i =
    both_in (in_value e.1) (in_values (map (λ e. e.1) es)) s (left_in (in_value e.1) (in_entries es) s i)
    (entry_values_in s es (right_in (in_value e.1) (in_entries es) s i))

pub value_at_in : (s : List Set) (vs : List Value) (n : ℕ) → HasValues s vs → IfSome (HasValue s) (slice_get vs n)
value_at_in s [] n i = tt
value_at_in s (v ∷ vs) zero i = left_in (in_value v) (in_values vs) s i
value_at_in s (v ∷ vs) (suc n) i = value_at_in s vs n (right_in (in_value v) (in_values vs) s i)

pub value_placed_in : (s : List Set) (vs : List Value) (o : Option ℕ) → HasValues s vs → IfSome (HasValue s) (at_place vs o)
value_placed_in s vs None i = tt
value_placed_in s vs (Some n) i = value_at_in s vs n i

pub slot_at_in : (s : List Set) (fs : List (Option Value)) (n : ℕ) → HasFields s fs → IfSome (HasValue s) (in_slot (slice_get fs n))
slot_at_in s [] n i = tt
slot_at_in s (None ∷ fs) zero i = tt
slot_at_in s (Some v ∷ fs) zero i = left_in (in_value v) (in_fields fs) s i
slot_at_in s (None ∷ fs) (suc n) i = slot_at_in s fs n i
slot_at_in s (Some v ∷ fs) (suc n) i = slot_at_in s fs n (right_in (in_value v) (in_fields fs) s i)

pub slot_placed_in : (s : List Set) (fs : List (Option Value)) (o : Option ℕ) → HasFields s fs → IfSome (HasValue s) (in_slot (at_place fs o))
slot_placed_in s fs None i = tt
slot_placed_in s fs (Some n) i = slot_at_in s fs n i

pub cell_at_in : (s : List Set) (h : List Cell) (n : ℕ) → HasHeap s h → IfSome (λ c. AreIn (in_cell c) s) (slice_get h n)
cell_at_in s [] n i = tt
cell_at_in s (c ∷ cs) zero i = left_in (in_cell c) (in_heap cs) s i
cell_at_in s (c ∷ cs) (suc n) i = cell_at_in s cs n (right_in (in_cell c) (in_heap cs) s i)

pub found_in : (s : List Set) (test : Key → Bool) (es : List (Key × Value)) → HasEntries s es → IfSome (HasValue s) (lookup test es)
found_in s test [] i = tt
found_in s test (e ∷ es) i =
    either (IfSome (HasValue s)) (test e.0) (Some e.1) (lookup test es) (left_in (in_value e.1) (in_entries es) s i)
    (found_in s test es (right_in (in_value e.1) (in_entries es) s i))

pub fields_set_in : (s : List Set) (fs : List (Option Value)) (n : ℕ) (v : Value) → HasFields s fs → HasValue s v
    → HasFields s (slice_set fs n (Some v))
fields_set_in s [] n v i j = i
fields_set_in s (None ∷ fs) zero v i j = both_in (in_value v) (in_fields fs) s j i
fields_set_in s (Some w ∷ fs) zero v i j = both_in (in_value v) (in_fields fs) s j (right_in (in_value w) (in_fields fs) s i)
fields_set_in s (None ∷ fs) (suc n) v i j = fields_set_in s fs n v i j
fields_set_in s (Some w ∷ fs) (suc n) v i j =
    both_in (in_value w) (in_fields (slice_set fs n (Some v))) s (left_in (in_value w) (in_fields fs) s i)
    (fields_set_in s fs n v (right_in (in_value w) (in_fields fs) s i) j)

-- ---- what a value shows

abbrev pub shown : Shape → List Set
shown (key x) = []
shown (atom l) = in_leaf l
shown (items j vs) = in_values vs
shown (entries es) = in_entries es
shown (fields p fs) = in_fields fs
shown nothing = []

cell_shows : (s : List Set) (o : Option Cell) → IfSome (λ c. AreIn (in_cell c) s) o → AreIn (shown (cell_shape o)) s
cell_shows s None h = none_in s
cell_shows s (Some (cell.List vs n)) h = h
cell_shows s (Some (cell.Tuple vs)) h = h
cell_shows s (Some (cell.Dict es n)) h = h
cell_shows s (Some (cell.Instance p fs)) h = h

one_value : (t : FrozenTree) → in_value (value_of t) ≡ in_tree t
one_value (key_tree x) = refl
one_value (leaf l) = refl
one_value (branch b) = refl

tree_values : (ts : Trees Leaf Key Provider) → in_values (map value_of (tree_list ts)) ≡ in_trees ts
tree_values no_trees = refl
tree_values (more_trees t ts) = λ i. one_value t i ++ tree_values ts i

pair_values : (ps : Pairs Leaf Key Provider) → in_entries (map entry_of (pair_list ps)) ≡ in_pairs ps
pair_values stop = refl
pair_values (pair x t ps) = λ i. one_value t i ++ pair_values ps i

slot_values : (ss : Slots Leaf Key Provider) → in_fields (map slot_of (slot_list ss)) ≡ in_slots ss
slot_values end = refl
slot_values (missing ss) = slot_values ss
slot_values (given t ss) = λ i. one_value t i ++ slot_values ss i

branch_shows : (b : FrozenBranch) → shown (branch_shape b) ≡ in_branch b
branch_shows (list ts) = tree_values ts
branch_shows (tuple ts) = tree_values ts
branch_shows (dict ps) = pair_values ps
branch_shows (instance p ss) = slot_values ss

pub shape_shows : (s : List Set) (h : List Cell) (v : Value) → HasHeap s h → HasValue s v → AreIn (shown (shape h v)) s
shape_shows s h (value.Key x) i j = j
shape_shows s h (value.Leaf l) i j = j
shape_shows s h (value.Cell n) i j = cell_shows s (slice_get h n) (cell_at_in s h n i)
shape_shows s h (value.Frozen b) i j = subst (λ z. AreIn z s) (sym (branch_shows b)) j

pub items_shown : (s : List Set) (g : Shape) → AreIn (shown g) s → IfSome (HasValues s) (sequence_in g)
items_shown s (items j xs) i = i
items_shown s (key k) i = tt
items_shown s (atom l) i = tt
items_shown s (entries es) i = tt
items_shown s (fields p fs) i = tt
items_shown s nothing i = tt

leaf_shown : (s : List Set) (l : Leaf) → AreIn (in_leaf l) s → IfSome (λ d. AreIn (nodes d) s) (leaf_depset l)
leaf_shown s (plain.Depset d) i = i
leaf_shown s plain.None i = tt
leaf_shown s (plain.Label t) i = tt
leaf_shown s (plain.File f) i = tt
leaf_shown s (plain.Function f) i = tt
leaf_shown s (plain.BuiltIn b) i = tt
leaf_shown s (plain.Provider p) i = tt
leaf_shown s (plain.Rule r) i = tt
leaf_shown s (plain.Attribute a) i = tt
leaf_shown s (plain.Target n) i = tt
leaf_shown s (plain.Object o) i = tt

pub depset_shown : (s : List Set) (g : Shape) → AreIn (shown g) s → IfSome (λ d. AreIn (nodes d) s) (depset_in g)
depset_shown s (atom l) i = leaf_shown s l i
depset_shown s (items j xs) i = tt
depset_shown s (key k) i = tt
depset_shown s (entries es) i = tt
depset_shown s (fields p fs) i = tt
depset_shown s nothing i = tt

pub entries_shown : (s : List Set) (g : Shape) → AreIn (shown g) s → HasEntries s (entries_in g)
entries_shown s (entries es) i = i
entries_shown s (atom l) i = none_in s
entries_shown s (items j xs) i = none_in s
entries_shown s (key k) i = none_in s
entries_shown s (fields p fs) i = none_in s
entries_shown s nothing i = none_in s

-- ---- changes of a heap, and new cells

pub change_seen : (s : List Set) (h : List Cell) (c : Change) → HasHeap s h → HasValues s (put_values c) → IfGiven (HasHeap s) (heap_after h c)
change_seen s h c i j =
    if_given (HasHeap s) (heap_after h c)
    (λ g e. through (in_heap g) (together h (put_values c)) s (changes_bring_none h g c e) (both_in (in_heap h) (in_values (put_values c)) s i j))

heap_behind : (s : List Set) (h : List Cell) (c : Cell) → HasHeap s h → AreIn (in_cell c) s → HasHeap s (h ++ c ∷ [])
heap_behind s [] c i j = both_in (in_cell c) [] s j (none_in s)
heap_behind s (x ∷ h) c i j =
    both_in (in_cell x) (in_heap (h ++ c ∷ [])) s (left_in (in_cell x) (in_heap h) s i) (heap_behind s h c (right_in (in_cell x) (in_heap h) s i) j)

pub made_seen : (s : List Set) (h : List Cell) (c : Cell) (n : ℕ) → HasHeap s h → AreIn (in_cell c) s
    → IfGiven (λ p. HasValue s p.0 × AreIn (in_heap p.1) s) (made h c n)
made_seen s h c n i j =
    either (IfGiven (λ p. HasValue s p.0 × AreIn (in_heap p.1) s)) (nat_lt LARGEST n) (Err Large) (Ok (value.Cell (length h), h ++ c ∷ []))
    tt (none_in s, heap_behind s h c i j)

-- ---- states

module _ {owner : List ℕ} {base : List Set} where
  -- nothing is said of what is given
  abbrev pub whatever : {A : Type 0} → Seen owner base → A → Type 0
  whatever k a = Unit {0}

  abbrev pub AreSeen : Seen owner base → List Value → Type 0
  AreSeen k vs = AreIn (in_values vs) k.sets

  pub shape_seen : (k : Seen owner base) (s : State) (v : Value) → StateHolds k s → IsSeen k v → AreIn (shown (shape s.heap v)) k.sets
  shape_seen k s v hs i = shape_shows k.sets s.heap v hs.heap i

  pub heap_put : (k : Seen owner base) (s : State) (h : List Cell) → StateHolds k s → AreIn (in_heap h) k.sets → StateHolds k (record s { heap = h })
  heap_put k s h hs i = record { owned = hs.owned; numbered = hs.numbered; heap = i; globals = hs.globals; loaded = hs.loaded; defaults = hs.defaults }

  pub ticks_put : (k : Seen owner base) (s : State) (c : Count) → StateHolds k s → StateHolds k (record s { ticks = c })
  ticks_put k s c hs = record { owned = hs.owned; numbered = hs.numbered; heap = hs.heap; globals = hs.globals; loaded = hs.loaded; defaults = hs.defaults }

  -- what is so of a value, with a state that holds, in the same world
  pub given_here : {A : Type 0} (P : Seen owner base → A → Type 0) (k : Seen owner base) (a : A) (s : State) → StateHolds k s → P k a
      → After P k (Ok (a, s))
  given_here P k a s hs p = (k, same_in k.sets, hs, p)

  pub keeping_after : {A : Type 0} (P : Seen owner base → A → Type 0) (k : Seen owner base) (r : Result A Kind) (s : State) → StateHolds k s
      → IfGiven (P k) r → After P k (keeping r s)
  keeping_after P k (Ok a) s hs p = given_here P k a s hs p
  keeping_after P k (Err e) s hs p = tt

  pub with_heap_after : {A : Type 0} (P : Seen owner base → A → Type 0) (k : Seen owner base) (s : State) (r : Result (A × List Cell) Kind)
      → StateHolds k s → IfGiven (λ p. P k p.0 × AreIn (in_heap p.1) k.sets) r → After P k (with_heap s r)
  with_heap_after P k s (Ok p) hs h = given_here P k p.0 (record s { heap = p.1 }) (heap_put k s p.1 hs h.1) h.0
  with_heap_after P k s (Err e) hs h = tt

  pub changed_after : {A : Type 0} (P : Seen owner base → A → Type 0) (k : Seen owner base) (a : A) (s : State) (r : Result (List Cell) Kind)
      → StateHolds k s → P k a → IfGiven (HasHeap k.sets) r → After P k (changed a s r)
  changed_after P k a s (Ok h) hs p i = given_here P k a (record s { heap = h }) (heap_put k s h hs i) p
  changed_after P k a s (Err e) hs p i = tt

  pub with_ticks_after : {A : Type 0} (P : Seen owner base → A → Type 0) (k : Seen owner base) (s : State) (r : Result (A × Count) Kind)
      → StateHolds k s → IfGiven (λ p. P k p.0) r → After P k (with_ticks s r)
  with_ticks_after P k s (Ok p) hs h = given_here P k p.0 (record s { ticks = p.1 }) (ticks_put k s p.1 hs) h
  with_ticks_after P k s (Err e) hs h = tt

  -- what is so after a world that has grown is so after this one
  pub after_grown : {A : Type 0} (P : Seen owner base → A → Type 0) (k l : Seen owner base) (d : Doing A) → Grows k l → After P l d → After P k d
  after_grown P k l (Ok p) up h = (h.0, through k.sets l.sets h.0.sets up h.1, h.2, h.3)
  after_grown P k l (Err e) up h = tt

  pub then_after : {A B : Type 0} (P : Seen owner base → A → Type 0) (Q : Seen owner base → B → Type 0) (k : Seen owner base) (d : Doing A) (f : A → Op B)
      → After P k d → ((w : Seen owner base) → Grows k w → (a : A) (t : State) → StateHolds w t → P w a → After Q w (f a t)) → After Q k (then_do d f)
  then_after P Q k (Ok p) f h g = after_grown Q k h.0 (f p.0 p.1) h.1 (g h.0 h.1 p.0 p.1 h.2 h.3)
  then_after P Q k (Err e) f h g = tt

  -- ---- new values

  pub new_cell_after : (k : Seen owner base) (s : State) (c : Cell) (n : ℕ) → StateHolds k s → AreIn (in_cell c) k.sets
      → After IsSeen k (with_heap s (made s.heap c n))
  new_cell_after k s c n hs i = with_heap_after IsSeen k s (made s.heap c n) hs (made_seen k.sets s.heap c n hs.heap i)

  pub new_list_after : (k : Seen owner base) (xs : List Value) (s : State) → StateHolds k s → AreIn (in_values xs) k.sets
      → After IsSeen k (new_list xs s)
  new_list_after k xs s hs i = new_cell_after k s (cell.List xs 0) (length xs) hs i

  pub new_tuple_after : (k : Seen owner base) (xs : List Value) (s : State) → StateHolds k s → AreIn (in_values xs) k.sets
      → After IsSeen k (new_tuple xs s)
  new_tuple_after k xs s hs i = new_cell_after k s (cell.Tuple xs) (length xs) hs i

  placed_after : (k : Seen owner base) (m : Made) (s : State) → StateHolds k s → AreIn (in_made m) k.sets → After IsSeen k (placed m s)
  placed_after k (new.Key x) s hs i = given_here IsSeen k (value.Key x) s hs i
  placed_after k (new.Leaf l) s hs i = given_here IsSeen k (value.Leaf l) s hs i
  placed_after k (new.List xs) s hs i = new_list_after k xs s hs i
  placed_after k (new.Tuple xs) s hs i = new_tuple_after k xs s hs i

  pub make_after : (k : Seen owner base) (r : Result Made Kind) (s : State) → StateHolds k s → IfGiven (HasMade k.sets) r → After IsSeen k (make r s)
  make_after k (Ok m) s hs i = placed_after k m s hs i
  make_after k (Err e) s hs i = tt
