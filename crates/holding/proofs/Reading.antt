-- What items, fields, methods that are found, and names keep.
use Rattle.std.proofs.Common.{ℕ, zero, suc, ℤ, Bool, List, [], ◌∷◌, Option, Some, None, Ok, Err, length, drop, nat_lt, nat_eq, slice_get, slice_set, if◌then◌else◌}
use Rattle.std.specs.Prelude.{bytes_eq, codes}
use Rattle.std.specs.Option.{option_or}
use Rattle.std.specs.List.{flat_map}
use Rattle.std.specs.Map.{lookup}
use Rattle.depsets.specs.declared.element.FileRef.{FileRef}
use Rattle.numbers.specs.Places.{place_of}
use Rattle.leaves.specs.Leaves.{same_key}
use Rattle.values.specs.Shape.{Shape, key, atom, items, entries, fields, nothing, shape}
use Rattle.keys.specs.declared.key.Key.{Key}
use Rattle.keys.specs.declared.key.Key.TheVariants as index
use Rattle.leaves.specs.declared.leaf.Leaf.{Leaf}
use Rattle.leaves.specs.declared.leaf.Leaf.TheVariants as plain
use Rattle.leaves.specs.declared.leaf.MadeId.{MadeId}
use Rattle.ticks.specs.declared.ticks.Kind.TheVariants as kind
use Rattle.values.specs.declared.value.Value.{Value}
use Rattle.first_places.specs.Places.{place_named}
use Rattle.operations.specs.Fields.{before_colon, after_colon, label_field, last_part, file_field, leaf_field, shape_field, field, shape_method, Found, plainly, with_method, found_in as found_of, find}
use Rattle.operations.specs.Items.{or_fault, at_place, item_at, byte_text, byte_at, value_at, key_item, item_in, item}
use Rattle.operations.specs.Making.{text}
use Rattle.operations.specs.Names.{Linked, in_slot, name_value, global, set_global, set_loaded, load, function_made, define, listed, defaults}
use Rattle.operations.specs.Reading.{number_in, key_in}
use Rattle.operations.specs.declared.method.Method.{Method}
use Rattle.operations.specs.declared.state.State.{State}
use Rattle.one_tree.specs.Found.{Set, in_values}
use Rattle.one_tree.specs.Sets.{AreIn}
use Rattle.one_tree.proofs.Changed.{both_in}
use Rattle.holding.specs.Held.{Seen, IsSeen, StateHolds, After}
use Rattle.holding.proofs.Steps.{IfSome, IfGiven, either, of_type_all, or_fault_given, none_in, left_in, right_in, value_placed_in, slot_at_in, slot_placed_in, found_in, fields_set_in, HasValue, shown, AreSeen, shape_seen, given_here, keeping_after}

-- ---- items

byte_seen : (s : List Set) (o : Option ℕ) → IfGiven (HasValue s) (byte_text o)
byte_seen s (Some b) = either (IfGiven (HasValue s)) (nat_lt b 128) (Ok (text (b ∷ []))) (Err kind.Index) (none_in s) tt
byte_seen s None = tt

key_item_seen : (s : List Set) (k : Key) (o : Option ℤ) → IfGiven (HasValue s) (key_item k o)
key_item_seen s (index.Text t) o = of_type_all (HasValue s) o (byte_at t) (λ i. byte_seen s (at_place t (place_of i (length t))))
key_item_seen s (index.Number n) o = tt
key_item_seen s (index.Truth b) o = tt

item_seen : (s : List Set) (g m : Shape) → AreIn (shown g) s → IfGiven (HasValue s) (item_in g m)
item_seen s (key k) m i = key_item_seen s k (number_in m)
item_seen s (items j xs) m i =
    of_type_all (HasValue s) (number_in m) (item_at xs)
    (λ n. or_fault_given (HasValue s) kind.Index (at_place xs (place_of n (length xs))) (value_placed_in s xs (place_of n (length xs)) i))
item_seen s (entries es) m i =
    of_type_all (HasValue s) (key_in m) (value_at es) (λ x. or_fault_given (HasValue s) kind.Key (lookup (same_key x) es) (found_in s (same_key x) es i))
item_seen s (atom l) m i = tt
item_seen s (fields p xs) m i = tt
item_seen s nothing m i = tt

-- ---- fields

some_text : (s : List Set) (b : Bool) (t : List ℕ) (o : Option Value) → IfSome (HasValue s) o → IfSome (HasValue s) (if b then Some (text t) else o)
some_text s b t o h = either (IfSome (HasValue s)) b (Some (text t)) o (none_in s) h

label_seen : (s : List Set) (t x : List ℕ) → IfSome (HasValue s) (label_field t x)
label_seen s t x =
    some_text s (bytes_eq x (codes "package")) (before_colon (drop 2 t)) (if bytes_eq x (codes "name") then Some (text (after_colon t)) else None)
    (some_text s (bytes_eq x (codes "name")) (after_colon t) None tt)

file_seen : (s : List Set) (f : FileRef) (x : List ℕ) → IfSome (HasValue s) (file_field f x)
file_seen s f x =
    some_text s (bytes_eq x (codes "path")) f.path (if bytes_eq x (codes "basename") then Some (text (last_part [] f.path)) else None)
    (some_text s (bytes_eq x (codes "basename")) (last_part [] f.path) None tt)

leaf_seen : (s : List Set) (l : Leaf) (x : List ℕ) → IfSome (HasValue s) (leaf_field l x)
leaf_seen s (plain.Label t) x = label_seen s t x
leaf_seen s (plain.File f) x = file_seen s f x
leaf_seen s _ x = tt

field_seen : (s : List Set) (g : Shape) (x : List ℕ) → AreIn (shown g) s → IfSome (HasValue s) (shape_field g x)
field_seen s (fields p xs) x i = slot_placed_in s xs (place_named x p.fields) i
field_seen s (atom l) x i = leaf_seen s l x
field_seen s _ x i = tt

-- what is found of a value was seen, where it is a value
abbrev pub HasFound : List Set → Found → Type 0
HasFound s (plainly v) = HasValue s v
HasFound s (with_method m) = Unit {0}

found_seen : (s : List Set) (o : Option Value) (m : Option Method) → IfSome (HasValue s) o → IfGiven (HasFound s) (found_of o m)
found_seen s (Some v) m h = h
found_seen s None (Some m) h = tt
found_seen s None None h = tt

-- ---- slots and defaults

loaded_seen : (s : List Set) (o p : Option Value) → IfSome (HasValue s) o → IfSome (HasValue s) p → IfSome (HasValue s) (option_or o p)
loaded_seen s (Some v) p h g = h
loaded_seen s None p h g = g

defaults_put : (s : List Set) (ds : List (List Value)) (n : ℕ) (vs : List Value) → AreIn (flat_map in_values ds) s → AreIn (in_values vs) s
    → AreIn (flat_map in_values (slice_set ds n vs)) s
defaults_put s [] n vs i j = i
defaults_put s (d ∷ ds) zero vs i j = both_in (in_values vs) (flat_map in_values ds) s j (right_in (in_values d) (flat_map in_values ds) s i)
defaults_put s (d ∷ ds) (suc n) vs i j =
    both_in (in_values d) (flat_map in_values (slice_set ds n vs)) s (left_in (in_values d) (flat_map in_values ds) s i)
    (defaults_put s ds n vs (right_in (in_values d) (flat_map in_values ds) s i) j)

defaults_at : (s : List Set) (ds : List (List Value)) (n : ℕ) → AreIn (flat_map in_values ds) s → AreIn (in_values (listed (slice_get ds n))) s
defaults_at s [] n i = none_in s
defaults_at s (d ∷ ds) zero i = left_in (in_values d) (flat_map in_values ds) s i
defaults_at s (d ∷ ds) (suc n) i = defaults_at s ds n (right_in (in_values d) (flat_map in_values ds) s i)

module _ {owner : List ℕ} {base : List Set} where
  abbrev pub IsFound : Seen owner base → Found → Type 0
  IsFound k f = HasFound k.sets f

  pub item_after : (k : Seen owner base) (b i : Value) (s : State) → StateHolds k s → IsSeen k b → After IsSeen k (item b i s)
  item_after k b i s hs j =
      keeping_after IsSeen k (item_in (shape s.heap b) (shape s.heap i)) s hs (item_seen k.sets (shape s.heap b) (shape s.heap i) (shape_seen k s b hs j))

  pub field_after : (k : Seen owner base) (v : Value) (x : List ℕ) (s : State) → StateHolds k s → IsSeen k v → After IsSeen k (field v x s)
  field_after k v x s hs i =
      keeping_after IsSeen k (or_fault kind.Name (shape_field (shape s.heap v) x)) s hs
      (or_fault_given (IsSeen k) kind.Name (shape_field (shape s.heap v) x) (field_seen k.sets (shape s.heap v) x (shape_seen k s v hs i)))

  pub find_after : (k : Seen owner base) (v : Value) (x : List ℕ) (s : State) → StateHolds k s → IsSeen k v → After IsFound k (find v x s)
  find_after k v x s hs i =
      keeping_after IsFound k (found_of (shape_field (shape s.heap v) x) (shape_method (shape s.heap v) x)) s hs
      (found_seen k.sets (shape_field (shape s.heap v) x) (shape_method (shape s.heap v) x) (field_seen k.sets (shape s.heap v) x (shape_seen k s v hs i)))

  -- ---- names

  pub global_after : (world : Linked) (k : Seen owner base) (f n : ℕ) (s : State) → StateHolds k s → IfSome (IsSeen k) (world.names f n)
      → After IsSeen k (global world f n s)
  global_after world k f n s hs h =
      let o = if nat_eq f s.file then name_value s n else world.names f n in
      keeping_after IsSeen k (or_fault kind.Unset o) s hs
      (or_fault_given (IsSeen k) kind.Unset o
      (either (IfSome (IsSeen k)) (nat_eq f s.file) (name_value s n) (world.names f n)
      (loaded_seen k.sets (in_slot (slice_get s.globals n)) (in_slot (slice_get s.loaded n))
      (slot_at_in k.sets s.globals n hs.globals) (slot_at_in k.sets s.loaded n hs.loaded)) h))

  pub load_after : (world : Linked) (k : Seen owner base) (f : ℕ) (t x : List ℕ) (s : State) → StateHolds k s
      → IfSome (IsSeen k) (world.asked f t x) → After IsSeen k (load world f t x s)
  load_after world k f t x s hs h = keeping_after IsSeen k (or_fault kind.Unset (world.asked f t x)) s hs (or_fault_given (IsSeen k) kind.Unset (world.asked f t x) h)

  pub set_global_holds : (k : Seen owner base) (f n : ℕ) (v : Value) (s : State) → StateHolds k s → IsSeen k v → StateHolds k (set_global f n v s)
  set_global_holds k f n v s hs i =
      either (StateHolds k) (nat_eq f s.file) (record s { globals = slice_set s.globals n (Some v) }) s
      (record {
        owned = hs.owned;
        numbered = hs.numbered;
        heap = hs.heap;
        globals = fields_set_in k.sets s.globals n v hs.globals i;
        loaded = hs.loaded;
        defaults = hs.defaults;
      }) hs

  pub set_loaded_holds : (k : Seen owner base) (f n : ℕ) (v : Value) (s : State) → StateHolds k s → IsSeen k v → StateHolds k (set_loaded f n v s)
  set_loaded_holds k f n v s hs i =
      either (StateHolds k) (nat_eq f s.file) (record s { loaded = slice_set s.loaded n (Some v) }) s
      (record {
        owned = hs.owned;
        numbered = hs.numbered;
        heap = hs.heap;
        globals = hs.globals;
        loaded = fields_set_in k.sets s.loaded n v hs.loaded i;
        defaults = hs.defaults;
      }) hs

  pub define_after : (k : Seen owner base) (id : MadeId) (x : List ℕ) (vs : List Value) (s : State) → StateHolds k s → AreSeen k vs
      → After IsSeen k (define id x vs s)
  define_after k id x vs s hs i =
      given_here IsSeen k (function_made id x s) (record s { defaults = slice_set s.defaults id.number vs })
      (record {
        owned = hs.owned;
        numbered = hs.numbered;
        heap = hs.heap;
        globals = hs.globals;
        loaded = hs.loaded;
        defaults = defaults_put k.sets s.defaults id.number vs hs.defaults i;
      })
      (none_in k.sets)

  pub defaults_seen : (world : Linked) (k : Seen owner base) (id : MadeId) (s : State) → StateHolds k s → AreSeen k (world.defaults id)
      → AreSeen k (defaults world id s)
  defaults_seen world k id s hs h =
      either (AreSeen k) (nat_eq id.«module» s.file) (listed (slice_get s.defaults id.number)) (world.defaults id) (defaults_at k.sets s.defaults id.number hs.defaults) h
