-- What changes of lists and dicts, and walks, keep.
use Rattle.std.proofs.Common.{◌≡◌, ◌+◌, ℕ, zero, suc, Bool, true, false, List, [], ◌∷◌, ◌++◌, Option, Some, None, Result, Ok, Err, subst}
use Rattle.heap.specs.Cells.{list_changed, dict_changed, joined, indexed, keyed, walk_begun, walk_over, put_at, after, walk_begun_at, ended_at, walk_ended}
use Rattle.heap.specs.Laws.{append, extend, set_index, set_key, heap_after}
use Rattle.values.specs.Shape.{Shape, key, atom, items, entries, fields, nothing, shape}
use Rattle.values.specs.View.{is_walkable}
use Rattle.values.specs.Visits.{keys_of}
use Rattle.values.specs.declared.cells.Cell.{Cell}
use Rattle.values.specs.declared.cells.Cell.TheVariants as cell
use Rattle.ticks.specs.declared.ticks.Kind.{Kind}
use Rattle.ticks.specs.declared.ticks.Kind.TheVariants.{Wrong}
use Rattle.values.specs.declared.value.Value.{Value}
use Rattle.values.specs.declared.value.Value.TheVariants as value
use Rattle.operations.specs.Changes as change
use Rattle.operations.specs.Making.{none, collect, keep, enter, entries_in, is_held, unless_there}
use Rattle.operations.specs.Reading.{number_in, key_in, sequence_in, of_type}
use Rattle.operations.specs.Walks.{walked_items, begun, begin, counting_cell, ended, parts}
use Rattle.operations.specs.declared.state.State.{State}
use Rattle.one_tree.specs.Found.{Set, in_value, in_values, in_entries, in_cell, in_heap}
use Rattle.one_tree.specs.Sets.{AreIn}
use Rattle.one_tree.proofs.Amidst.{among_left}
use Rattle.one_tree.proofs.Changed.{both_in, list-brings}
use Rattle.holding.specs.Held.{Seen, IsSeen, StateHolds, After}
use Rattle.holding.proofs.Steps.{IfGiven, if_given, either, of_type_given, of_type_all, none_in, left_in, right_in, through, one_value_in, keys_in, shown, items_shown, change_seen, HasHeap, AreSeen, whatever, shape_seen, heap_put, given_here, keeping_after, changed_after}

-- ---- changes of a heap

abbrev HasBegun : List Set → Option ℕ × List Cell → Type 0
HasBegun s p = HasHeap s p.1

keyed_seen : (s : List Set) (h : List Cell) (d v : Value) (g : Shape) → HasHeap s h → AreIn (in_value v) s
    → IfGiven (HasHeap s) (of_type (key_in g) (λ i. dict_changed (keyed i v) h d))
keyed_seen s h d v g i j =
    of_type_all (HasHeap s) (key_in g) (λ x. dict_changed (keyed x v) h d) (λ x. change_seen s h (set_key d x v) i (one_value_in s v j))

set_seen : (s : List Set) (h : List Cell) (b v : Value) (g m : Shape) → HasHeap s h → AreIn (in_value v) s
    → IfGiven (HasHeap s) (change.set_in g m h b v)
set_seen s h b v (items j xs) m i l =
    of_type_all (HasHeap s) (number_in m) (λ n. list_changed (indexed n v) h b) (λ n. change_seen s h (set_index b n v) i (one_value_in s v l))
set_seen s h b v (entries es) m i l = keyed_seen s h b v m i l
set_seen s h b v (key x) m i l = tt
set_seen s h b v (atom x) m i l = tt
set_seen s h b v (fields p xs) m i l = tt
set_seen s h b v nothing m i l = tt

unless_seen : (s : List Set) (t : Bool) (r : Result (List Cell) Kind) → IfGiven (HasHeap s) r → IfGiven (HasHeap s) (unless_there t r)
unless_seen s true r h = tt
unless_seen s false r h = h

-- ---- walks

begun_same : (c d : Cell) → walk_begun c ≡ Ok d → AreIn (in_cell d) (in_cell c ++ [])
begun_same (cell.List xs n) d e =
    let a : cell.List xs (n + 1) ≡ d = cc in subst (λ z. AreIn (in_cell z) (in_values xs ++ [])) a (λ x h. among_left x (in_values xs) [] h)
begun_same (cell.Tuple xs) d e =
    let a : cell.Tuple xs ≡ d = cc in subst (λ z. AreIn (in_cell z) (in_values xs ++ [])) a (λ x h. among_left x (in_values xs) [] h)
begun_same (cell.Dict es n) d e =
    let a : cell.Dict es (n + 1) ≡ d = cc in subst (λ z. AreIn (in_cell z) (in_entries es ++ [])) a (λ x h. among_left x (in_entries es) [] h)
begun_same (cell.Instance p fs) d e = absurd (cc)

after_walk : (s : List Set) (n : ℕ) (r : Result (List Cell) Kind) → IfGiven (HasHeap s) r → IfGiven (HasBegun s) (after (λ g. (Some n, g)) r)
after_walk s n (Ok g) h = h
after_walk s n (Err e) h = tt

walk_seen : (s : List Set) (h : List Cell) (v : Value) → HasHeap s h → IfGiven (HasBegun s) (walk_begun_at h v)
walk_seen s h (value.Key x) i = tt
walk_seen s h (value.Leaf l) i = tt
walk_seen s h (value.Cell n) i =
    after_walk s n (put_at h n walk_begun) (if_given (HasHeap s) (put_at h n walk_begun)
    (λ g e. through (in_heap g) (in_heap h ++ []) s (list-brings walk_begun [] begun_same h g (value.Cell n) e) (both_in (in_heap h) [] s i (none_in s))))
walk_seen s h (value.Frozen b) i = either (IfGiven (HasBegun s)) (is_walkable b) (Ok (None, h)) (Err Wrong) i tt

over_same : (c : Cell) (s : List Set) → AreIn (in_cell c) s → AreIn (in_cell (walk_over c)) s
over_same (cell.List xs n) s i = i
over_same (cell.Tuple xs) s i = i
over_same (cell.Dict es n) s i = i
over_same (cell.Instance p fs) s i = i

ended_at_seen : (s : List Set) (h : List Cell) (n : ℕ) → HasHeap s h → HasHeap s (ended_at h n)
ended_at_seen s [] n i = i
ended_at_seen s (c ∷ cs) zero i =
    both_in (in_cell (walk_over c)) (in_heap cs) s (over_same c s (left_in (in_cell c) (in_heap cs) s i)) (right_in (in_cell c) (in_heap cs) s i)
ended_at_seen s (c ∷ cs) (suc n) i =
    both_in (in_cell c) (in_heap (ended_at cs n)) s (left_in (in_cell c) (in_heap cs) s i) (ended_at_seen s cs n (right_in (in_cell c) (in_heap cs) s i))

walk_ended_seen : (s : List Set) (h : List Cell) (o : Option ℕ) → HasHeap s h → HasHeap s (walk_ended h o)
walk_ended_seen s h None i = i
walk_ended_seen s h (Some n) i = ended_at_seen s h n i

walked_seen : (s : List Set) (g : Shape) → AreIn (shown g) s → AreIn (in_values (walked_items g)) s
walked_seen s (items j xs) i = i
walked_seen s (entries es) i = keys_in s (keys_of es)
walked_seen s (key x) i = none_in s
walked_seen s (atom l) i = none_in s
walked_seen s (fields p fs) i = none_in s
walked_seen s nothing i = none_in s

module _ {owner : List ℕ} {base : List Set} where
  -- ---- changes

  pub append_after : (k : Seen owner base) (l v : Value) (s : State) → StateHolds k s → IsSeen k v → After IsSeen k (change.append l v s)
  append_after k l v s hs i =
      changed_after IsSeen k none s (heap_after s.heap (append l v)) hs (none_in k.sets)
      (change_seen k.sets s.heap (append l v) hs.heap (one_value_in k.sets v i))

  pub extend_after : (k : Seen owner base) (l q : Value) (s : State) → StateHolds k s → IsSeen k q → After IsSeen k (change.extend l q s)
  extend_after k l q s hs i =
      let g = shape s.heap q in
      let f = λ (xs : List Value). list_changed (joined xs) s.heap l in
      changed_after IsSeen k none s (of_type (sequence_in g) f) hs (none_in k.sets)
      (of_type_given (AreSeen k) (HasHeap k.sets) (sequence_in g) f (items_shown k.sets g (shape_seen k s q hs i))
      (λ xs j. change_seen k.sets s.heap (extend l xs) hs.heap j))

  pub set_item_after : (k : Seen owner base) (b i v : Value) (s : State) → StateHolds k s → IsSeen k v → After whatever k (change.set_item b i v s)
  set_item_after k b i v s hs j =
      changed_after whatever k tt s (change.set_in (shape s.heap b) (shape s.heap i) s.heap b v) hs tt
      (set_seen k.sets s.heap b v (shape s.heap b) (shape s.heap i) hs.heap j)

  pub collect_after : (k : Seen owner base) (l v : Value) (s : State) → StateHolds k s → IsSeen k v → After whatever k (collect l v s)
  collect_after k l v s hs i =
      changed_after whatever k tt s (heap_after s.heap (append l v)) hs tt
      (change_seen k.sets s.heap (append l v) hs.heap (one_value_in k.sets v i))

  pub keep_after : (k : Seen owner base) (d x v : Value) (s : State) → StateHolds k s → IsSeen k v → After whatever k (keep d x v s)
  keep_after k d x v s hs i =
      changed_after whatever k tt s (of_type (key_in (shape s.heap x)) (λ j. dict_changed (keyed j v) s.heap d)) hs tt
      (keyed_seen k.sets s.heap d v (shape s.heap x) hs.heap i)

  pub enter_after : (k : Seen owner base) (d x v : Value) (s : State) → StateHolds k s → IsSeen k v → After whatever k (enter d x v s)
  enter_after k d x v s hs i =
      let t = is_held (entries_in (shape s.heap d)) (key_in (shape s.heap x)) in
      let r = of_type (key_in (shape s.heap x)) (λ j. dict_changed (keyed j v) s.heap d) in
      changed_after whatever k tt s (unless_there t r) hs tt (unless_seen k.sets t r (keyed_seen k.sets s.heap d v (shape s.heap x) hs.heap i))

  -- ---- walks

  begun_after : (k : Seen owner base) (vs : List Value) (s : State) (r : Result (Option ℕ × List Cell) Kind) → StateHolds k s → AreSeen k vs
      → IfGiven (HasBegun k.sets) r
      → After AreSeen k (begun vs s r)
  begun_after k vs s (Ok p) hs i h = given_here AreSeen k vs (record s { heap = p.1 }) (heap_put k s p.1 hs h) i
  begun_after k vs s (Err e) hs i h = tt

  pub begin_after : (k : Seen owner base) (v : Value) (s : State) → StateHolds k s → IsSeen k v → After AreSeen k (begin v s)
  begin_after k v s hs i =
      begun_after k (walked_items (shape s.heap v)) s (walk_begun_at s.heap v) hs (walked_seen k.sets (shape s.heap v) (shape_seen k s v hs i))
      (walk_seen k.sets s.heap v hs.heap)

  pub ended_holds : (k : Seen owner base) (v : Value) (s : State) → StateHolds k s → StateHolds k (ended v s)
  ended_holds k v s hs = heap_put k s (walk_ended s.heap (counting_cell v)) hs (walk_ended_seen k.sets s.heap (counting_cell v) hs.heap)

  pub parts_after : (k : Seen owner base) (v : Value) (s : State) → StateHolds k s → IsSeen k v → After AreSeen k (parts v s)
  parts_after k v s hs i =
      let g = shape s.heap v in
      keeping_after AreSeen k (of_type (sequence_in g) Ok) s hs
      (of_type_given (AreSeen k) (AreSeen k) (sequence_in g) Ok (items_shown k.sets g (shape_seen k s v hs i)) (λ xs j. j))
