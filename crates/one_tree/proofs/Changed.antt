-- Changes of a heap bring no depset that wasn't there or in what is put.
use Rattle.std.proofs.Common.{◌≡◌, ℕ, zero, suc, Bool, true, false, ◌&&◌, not, nat_lt, if◌then◌else◌, ⊎_elim, List, [], ◌∷◌, ◌++◌, Option, Some, None, Result, Ok, Err, length, slice_set, refl, subst}
use Rattle.indexmap.specs.IndexMap.{insert_entry}
use Rattle.numbers.specs.Places.{place_of}
use Rattle.heap.specs.Cells.{after, put_at, in_list, in_dict, set_at, pushed_items, joined_items, indexed_items, keyed_entries, pushed, joined, indexed, keyed, list_changed, dict_changed}
use Rattle.values.specs.Keyed.{has_key}
use Rattle.heap.specs.Laws.{append, extend, set_index, set_key}
use Rattle.leaves.specs.Leaves.{same_key}
use Rattle.values.specs.declared.cells.Cell.{Cell}
use Rattle.values.specs.declared.cells.Cell.TheVariants as cell
use Rattle.values.specs.declared.cells.TheConstants.{LARGEST}
use Rattle.keys.specs.declared.key.Key.{Key}
use Rattle.ticks.specs.declared.ticks.Kind.{Kind}
use Rattle.ticks.specs.declared.ticks.Kind.TheVariants.{Iterating, Large}
use Rattle.values.specs.declared.value.Value.{Value}
use Rattle.values.specs.declared.value.Value.TheVariants as value
use Rattle.one_tree.specs.Found.{Set, in_value, in_values, in_entries, in_cell, in_heap}
use Rattle.one_tree.specs.Laws.{ChangesBringNone}
use Rattle.one_tree.specs.Sets.{AreIn}
use Rattle.one_tree.proofs.Amidst.{among_cases, among_left, among_right}

-- ---- parts of lists

pub both_in : (a b c : List Set) → AreIn a c → AreIn b c → AreIn (a ++ b) c
both_in a b c f g d h = ⊎_elim (λ p. f d p) (λ p. g d p) (among_cases d a b h)

through : (a b c : List Set) → AreIn a b → AreIn b c → AreIn a c
through a b c f g d h = g d (f d h)

-- a part of what stands before, and what stands behind, are in the whole with more put last
front_in : (a b n : List Set) → AreIn a (a ++ b ++ n)
front_in a b n d h = among_left d (a ++ b) n (among_left d a b h)

wider : (x a b n : List Set) → AreIn x (a ++ n) → AreIn x (a ++ b ++ n)
wider x a b n f d h = ⊎_elim (λ p. among_left d (a ++ b) n (among_left d a b p)) (λ p. among_right d (a ++ b) n p) (among_cases d a n (f d h))

behind : (x a b n : List Set) → AreIn x (b ++ n) → AreIn x (a ++ b ++ n)
behind x a b n f d h = ⊎_elim (λ p. among_left d (a ++ b) n (among_right d a b p)) (λ p. among_right d (a ++ b) n p) (among_cases d b n (f d h))

-- ---- one cell of a heap

module _ (f : Cell → Result Cell Kind) (new : List Set) (brings : (c d : Cell) → f c ≡ Ok d → AreIn (in_cell d) (in_cell c ++ new)) where
  at_head : (c : Cell) (cs g : List Cell) (r : Result Cell Kind) → f c ≡ r → after (λ d. d ∷ cs) r ≡ Ok g → AreIn (in_heap g) (in_heap (c ∷ cs) ++ new)
  at_head c cs g (Err k) e p = absurd (cc)
  at_head c cs g (Ok d) e p =
      let a : d ∷ cs ≡ g = cc in
      subst (λ h. AreIn (in_heap h) (in_heap (c ∷ cs) ++ new)) a
      (both_in (in_cell d) (in_heap cs) (in_heap (c ∷ cs) ++ new)
      (wider (in_cell d) (in_cell c) (in_heap cs) new (brings c d e))
      (behind (in_heap cs) (in_cell c) (in_heap cs) new (λ x h. among_left x (in_heap cs) new h)))

  in_tail : (c : Cell) (cs g : List Cell) (r : Result (List Cell) Kind) → ((ds : List Cell) → r ≡ Ok ds → AreIn (in_heap ds) (in_heap cs ++ new)) → after (λ ds. c ∷ ds) r ≡ Ok g → AreIn (in_heap g) (in_heap (c ∷ cs) ++ new)
  in_tail c cs g (Err k) known p = absurd (cc)
  in_tail c cs g (Ok ds) known p =
      let a : c ∷ ds ≡ g = cc in
      subst (λ h. AreIn (in_heap h) (in_heap (c ∷ cs) ++ new)) a
      (both_in (in_cell c) (in_heap ds) (in_heap (c ∷ cs) ++ new)
      (front_in (in_cell c) (in_heap cs) new)
      (behind (in_heap ds) (in_cell c) (in_heap cs) new (known ds refl)))

  put_at-brings : (h g : List Cell) (i : ℕ) → put_at h i f ≡ Ok g → AreIn (in_heap g) (in_heap h ++ new)
  put_at-brings [] g i p = absurd (cc)
  put_at-brings (c ∷ cs) g zero p = at_head c cs g (f c) refl p
  put_at-brings (c ∷ cs) g (suc i) p = in_tail c cs g (put_at cs i f) (λ ds e. put_at-brings cs ds i e) p

  pub list-brings : (h g : List Cell) (v : Value) → list_changed f h v ≡ Ok g → AreIn (in_heap g) (in_heap h ++ new)
  list-brings h g (value.Key k) p = absurd (cc)
  list-brings h g (value.Leaf l) p = absurd (cc)
  list-brings h g (value.Cell i) p = put_at-brings h g i p
  list-brings h g (value.Frozen b) p = absurd (cc)

  pub dict-brings : (h g : List Cell) (v : Value) → dict_changed f h v ≡ Ok g → AreIn (in_heap g) (in_heap h ++ new)
  dict-brings h g (value.Key k) p = absurd (cc)
  dict-brings h g (value.Leaf l) p = absurd (cc)
  dict-brings h g (value.Cell i) p = put_at-brings h g i p
  dict-brings h g (value.Frozen b) p = absurd (cc)

-- ---- the items of a list, the entries of a dict

unwalked : {A : Type 0} (b : Bool) (r : Result A Kind) (x : A) → (if b then Err Iterating else r) ≡ Ok x → r ≡ Ok x
unwalked true r x e = absurd (cc)
unwalked false r x e = e

module _ (f : List Value → Result (List Value) Kind) (new : List Set) (brings : (xs ys : List Value) → f xs ≡ Ok ys → AreIn (in_values ys) (in_values xs ++ new)) where
  list_after : (xs : List Value) (n : ℕ) (d : Cell) (r : Result (List Value) Kind) → f xs ≡ r → after (λ ys. cell.List ys n) r ≡ Ok d → AreIn (in_cell d) (in_values xs ++ new)
  list_after xs n d (Err k) e p = absurd (cc)
  list_after xs n d (Ok ys) e p =
      let a : cell.List ys n ≡ d = cc in subst (λ c. AreIn (in_cell c) (in_values xs ++ new)) a (brings xs ys e)

  pub in_list-brings : (c d : Cell) → in_list f c ≡ Ok d → AreIn (in_cell d) (in_cell c ++ new)
  in_list-brings (cell.List xs n) d p = list_after xs n d (f xs) refl (unwalked (nat_lt 0 n) (after (λ ys. cell.List ys n) (f xs)) d p)
  in_list-brings (cell.Tuple xs) d p = absurd (cc)
  in_list-brings (cell.Dict es n) d p = absurd (cc)
  in_list-brings (cell.Instance q xs) d p = absurd (cc)

module _ (f : List (Key × Value) → Result (List (Key × Value)) Kind) (new : List Set) (brings : (xs ys : List (Key × Value)) → f xs ≡ Ok ys → AreIn (in_entries ys) (in_entries xs ++ new)) where
  dict_after : (xs : List (Key × Value)) (n : ℕ) (d : Cell) (r : Result (List (Key × Value)) Kind) → f xs ≡ r → after (λ ys. cell.Dict ys n) r ≡ Ok d → AreIn (in_cell d) (in_entries xs ++ new)
  dict_after xs n d (Err k) e p = absurd (cc)
  dict_after xs n d (Ok ys) e p =
      let a : cell.Dict ys n ≡ d = cc in subst (λ c. AreIn (in_cell c) (in_entries xs ++ new)) a (brings xs ys e)

  pub in_dict-brings : (c d : Cell) → in_dict f c ≡ Ok d → AreIn (in_cell d) (in_cell c ++ new)
  in_dict-brings (cell.List xs n) d p = absurd (cc)
  in_dict-brings (cell.Tuple xs) d p = absurd (cc)
  in_dict-brings (cell.Dict es n) d p = dict_after es n d (f es) refl (unwalked (nat_lt 0 n) (after (λ ys. cell.Dict ys n) (f es)) d p)
  in_dict-brings (cell.Instance q xs) d p = absurd (cc)

-- ---- what each change does to them

values_behind : (xs ys : List Value) → AreIn (in_values (xs ++ ys)) (in_values xs ++ in_values ys)
values_behind [] ys = λ d h. h
values_behind (x ∷ xs) ys =
    both_in (in_value x) (in_values (xs ++ ys)) (in_values (x ∷ xs) ++ in_values ys)
    (front_in (in_value x) (in_values xs) (in_values ys)) (behind (in_values (xs ++ ys)) (in_value x) (in_values xs) (in_values ys) (values_behind xs ys))

value_set : (xs : List Value) (i : ℕ) (v : Value) → AreIn (in_values (slice_set xs i v)) (in_values xs ++ in_values (v ∷ []))
value_set [] i v = λ d h. absurd h
value_set (x ∷ xs) zero v =
    both_in (in_value v) (in_values xs) (in_values (x ∷ xs) ++ in_values (v ∷ []))
    (λ d h. among_right d (in_values (x ∷ xs)) (in_values (v ∷ [])) (among_left d (in_value v) [] h))
    (behind (in_values xs) (in_value x) (in_values xs) (in_values (v ∷ [])) (λ d h. among_left d (in_values xs) (in_values (v ∷ [])) h))
value_set (x ∷ xs) (suc i) v =
    both_in (in_value x) (in_values (slice_set xs i v)) (in_values (x ∷ xs) ++ in_values (v ∷ []))
    (front_in (in_value x) (in_values xs) (in_values (v ∷ []))) (behind (in_values (slice_set xs i v)) (in_value x) (in_values xs) (in_values (v ∷ [])) (value_set xs i v))

entry_chosen : (b : Bool) (e : Key × Value) (es is : List (Key × Value)) (v : Value) → AreIn (in_entries is) (in_entries es ++ in_values (v ∷ [])) → AreIn (in_entries (if b then (e.0, v) ∷ es else e ∷ is)) (in_entries (e ∷ es) ++ in_values (v ∷ []))
entry_chosen true e es is v k =
    both_in (in_value v) (in_entries es) (in_entries (e ∷ es) ++ in_values (v ∷ []))
    (λ d h. among_right d (in_entries (e ∷ es)) (in_values (v ∷ [])) (among_left d (in_value v) [] h))
    (behind (in_entries es) (in_value e.1) (in_entries es) (in_values (v ∷ [])) (λ d h. among_left d (in_entries es) (in_values (v ∷ [])) h))
entry_chosen false e es is v k =
    both_in (in_value e.1) (in_entries is) (in_entries (e ∷ es) ++ in_values (v ∷ []))
    (front_in (in_value e.1) (in_entries es) (in_values (v ∷ []))) (behind (in_entries is) (in_value e.1) (in_entries es) (in_values (v ∷ [])) k)

entry_put : (es : List (Key × Value)) (k : Key) (v : Value) → AreIn (in_entries (insert_entry same_key es k v)) (in_entries es ++ in_values (v ∷ []))
entry_put [] k v = λ d h. h
entry_put (e ∷ es) k v = entry_chosen (same_key k e.0) e es (insert_entry same_key es k v) v (entry_put es k v)

unless_full : {A : Type 0} (b : Bool) (x y : A) → (if b then Ok x else Err Large) ≡ Ok y → x ≡ y
unless_full true x y e = cc
unless_full false x y e = absurd (cc)

if_room : {A : Type 0} (b : Bool) (x y : A) → (if b then Err Large else Ok x) ≡ Ok y → x ≡ y
if_room true x y e = absurd (cc)
if_room false x y e = cc

pushed-brings : (v : Value) (xs ys : List Value) → pushed_items v xs ≡ Ok ys → AreIn (in_values ys) (in_values xs ++ in_values (v ∷ []))
pushed-brings v xs ys e =
    subst (λ zs. AreIn (in_values zs) (in_values xs ++ in_values (v ∷ []))) (unless_full (nat_lt (length xs) LARGEST) (xs ++ v ∷ []) ys e) (values_behind xs (v ∷ []))

joined-brings : (vs xs ys : List Value) → joined_items vs xs ≡ Ok ys → AreIn (in_values ys) (in_values xs ++ in_values vs)
joined-brings vs xs ys e = subst (λ zs. AreIn (in_values zs) (in_values xs ++ in_values vs)) (if_room _ (xs ++ vs) ys e) (values_behind xs vs)

set_at-brings : (o : Option ℕ) (v : Value) (xs ys : List Value) → set_at o v xs ≡ Ok ys → AreIn (in_values ys) (in_values xs ++ in_values (v ∷ []))
set_at-brings None v xs ys e = absurd (cc)
set_at-brings (Some i) v xs ys e =
    let a : slice_set xs i v ≡ ys = cc in subst (λ zs. AreIn (in_values zs) (in_values xs ++ in_values (v ∷ []))) a (value_set xs i v)

keyed-brings : (k : Key) (v : Value) (xs ys : List (Key × Value)) → keyed_entries k v xs ≡ Ok ys → AreIn (in_entries ys) (in_entries xs ++ in_values (v ∷ []))
keyed-brings k v xs ys e =
    subst (λ zs. AreIn (in_entries zs) (in_entries xs ++ in_values (v ∷ [])))
    (if_room (not (has_key xs k) && not (nat_lt (length xs) LARGEST)) (insert_entry same_key xs k v) ys e) (entry_put xs k v)

pub changes_bring_none : ChangesBringNone
changes_bring_none h g (append w x) e =
    list-brings (pushed x) (in_values (x ∷ [])) (in_list-brings (pushed_items x) (in_values (x ∷ [])) (pushed-brings x)) h g w e
changes_bring_none h g (extend w xs) e =
    list-brings (joined xs) (in_values xs) (in_list-brings (joined_items xs) (in_values xs) (joined-brings xs)) h g w e
changes_bring_none h g (set_index w i x) e =
    list-brings (indexed i x) (in_values (x ∷ []))
    (in_list-brings (indexed_items i x) (in_values (x ∷ [])) (λ xs ys p. set_at-brings (place_of i (length xs)) x xs ys p)) h g w e
changes_bring_none h g (set_key w k x) e =
    dict-brings (keyed k x) (in_values (x ∷ [])) (in_dict-brings (keyed_entries k x) (in_values (x ∷ [])) (keyed-brings k x)) h g w e
