-- Changes of one cell: the others stay, and what is walked stays.
use Rattle.std.proofs.Common.{◌≡◌, ◌≢◌, ℕ, zero, suc, ◌+◌, Bool, true, false, List, [], ◌∷◌, ◌++◌, Option, Some, None, Result, Ok, Err, length, slice_get, if◌then◌else◌, nat_lt, refl, sym, ap, subst, ◌∙◌}
use Rattle.heap.specs.Cells.{after, put_at, in_list, in_dict, pushed_items, joined_items, indexed_items, keyed_entries, pushed, joined, indexed, keyed, list_changed, dict_changed, walk_begun, walk_begun_at, walk_over, walk_ended, ended_at}
use Rattle.values.specs.View.{is_walkable}
use Rattle.heap.specs.Laws.{Change, append, extend, set_index, set_key, changed_value, heap_after, is_walked, contents, OthersStay, WalkedStay, WalksStay}
use Rattle.keys.specs.declared.key.Key.{Key}
use Rattle.values.specs.declared.value.Value.{Value}
use Rattle.values.specs.declared.value.Value.TheVariants as value
use Rattle.values.specs.declared.cells.Cell.{Cell}
use Rattle.values.specs.declared.cells.Cell.TheVariants as cell
use Rattle.values.specs.declared.cells.TheConstants.{LARGEST}
use Rattle.ticks.specs.declared.ticks.Kind.{Kind}
use Rattle.ticks.specs.declared.ticks.Kind.TheVariants.{Wrong, Iterating, Large}

abbrev pair_second : {A B : Type 0} → B → Result (A × B) Kind → B
pair_second z (Ok p) = p.1
pair_second z (Err k) = z

module _ (f : Cell → Result Cell Kind) where
  module _ (keeps : (c d : Cell) → f c ≡ Ok d → is_walked c ≡ true → contents d ≡ contents c) where
    at_head : (c : Cell) (cs g : List Cell) (r : Result Cell Kind) → f c ≡ r → after (λ d. d ∷ cs) r ≡ Ok g → WalkedStay (c ∷ cs) g
    at_head c cs g (Err k) e p n x q w = absurd (cc)
    at_head c cs g (Ok d) e p zero x q w =
        let a : d ∷ cs ≡ g = cc in let b : c ≡ x = cc in
        (d, (ap (λ l. slice_get l 0) (sym a), keeps c d e (ap is_walked b ∙ w) ∙ ap contents b))
    at_head c cs g (Ok d) e p (suc n) x q w = let a : d ∷ cs ≡ g = cc in (x, (ap (λ l. slice_get l (suc n)) (sym a) ∙ q, refl))

    in_tail : (c : Cell) (cs g : List Cell) (r : Result (List Cell) Kind) → ((ds : List Cell) → r ≡ Ok ds → WalkedStay cs ds) → after (λ ds. c ∷ ds) r ≡ Ok g → WalkedStay (c ∷ cs) g
    in_tail c cs g (Err k) known p n x q w = absurd (cc)
    in_tail c cs g (Ok ds) known p zero x q w = let a : c ∷ ds ≡ g = cc in (x, (ap (λ l. slice_get l 0) (sym a) ∙ q, refl))
    in_tail c cs g (Ok ds) known p (suc n) x q w =
        let a : c ∷ ds ≡ g = cc in let r = known ds refl n x q w in (r.0, (ap (λ l. slice_get l (suc n)) (sym a) ∙ r.1.0, r.1.1))

    put_at-stays : (h g : List Cell) (i : ℕ) → put_at h i f ≡ Ok g → WalkedStay h g
    put_at-stays [] g i p = absurd (cc)
    put_at-stays (c ∷ cs) g zero p = at_head c cs g (f c) refl p
    put_at-stays (c ∷ cs) g (suc i) p = in_tail c cs g (put_at cs i f) (λ ds e. put_at-stays cs ds i e) p

  head_alone : (c : Cell) (cs g : List Cell) (r : Result Cell Kind) (m : ℕ) → after (λ d. d ∷ cs) r ≡ Ok g → m ≢ 0 → slice_get g m ≡ slice_get (c ∷ cs) m
  head_alone c cs g (Err k) m p ne = absurd (cc)
  head_alone c cs g (Ok d) zero p ne = absurd (ne refl)
  head_alone c cs g (Ok d) (suc m) p ne = let a : d ∷ cs ≡ g = cc in ap (λ l. slice_get l (suc m)) (sym a)

  tail_alone : (c : Cell) (cs g : List Cell) (r : Result (List Cell) Kind) (m i : ℕ) → ((ds : List Cell) (n : ℕ) → r ≡ Ok ds → n ≢ i → slice_get ds n ≡ slice_get cs n)
      → after (λ ds. c ∷ ds) r ≡ Ok g → m ≢ suc i → slice_get g m ≡ slice_get (c ∷ cs) m
  tail_alone c cs g (Err k) m i known p ne = absurd (cc)
  tail_alone c cs g (Ok ds) zero i known p ne = let a : c ∷ ds ≡ g = cc in ap (λ l. slice_get l 0) (sym a)
  tail_alone c cs g (Ok ds) (suc m) i known p ne =
      let a : c ∷ ds ≡ g = cc in ap (λ l. slice_get l (suc m)) (sym a) ∙ known ds m refl (λ e. ne (ap suc e))

  put_at-others : (h g : List Cell) (i m : ℕ) → put_at h i f ≡ Ok g → m ≢ i → slice_get g m ≡ slice_get h m
  put_at-others [] g i m p ne = absurd (cc)
  put_at-others (c ∷ cs) g zero m p ne = head_alone c cs g (f c) m p ne
  put_at-others (c ∷ cs) g (suc i) m p ne = tail_alone c cs g (put_at cs i f) m i (λ ds n e u. put_at-others cs ds i n e u) p ne

  list-others : (h g : List Cell) (v : Value) → list_changed f h v ≡ Ok g → OthersStay h g v
  list-others h g (value.Key k) p n ne = absurd (cc)
  list-others h g (value.Leaf l) p n ne = absurd (cc)
  list-others h g (value.Cell i) p n ne = put_at-others h g i n p (λ e. ne (ap value.Cell (sym e)))
  list-others h g (value.Frozen b) p n ne = absurd (cc)

  dict-others : (h g : List Cell) (v : Value) → dict_changed f h v ≡ Ok g → OthersStay h g v
  dict-others h g (value.Key k) p n ne = absurd (cc)
  dict-others h g (value.Leaf l) p n ne = absurd (cc)
  dict-others h g (value.Cell i) p n ne = put_at-others h g i n p (λ e. ne (ap value.Cell (sym e)))
  dict-others h g (value.Frozen b) p n ne = absurd (cc)

pub one-cell : (h g : List Cell) (x : Change) → heap_after h x ≡ Ok g → OthersStay h g (changed_value x)
one-cell h g (append v x) p = list-others (pushed x) h g v p
one-cell h g (extend v xs) p = list-others (joined xs) h g v p
one-cell h g (set_index v i x) p = list-others (indexed i x) h g v p
one-cell h g (set_key v k x) p = dict-others (keyed k x) h g v p

-- what is walked is refused
refused : (b : Bool) (r : Result Cell Kind) (d : Cell) → b ≡ true → (if b then Err Iterating else r) ≡ Ok d → ⊥
refused true r d w p = absurd (cc)
refused false r d w p = absurd (cc)

list-keeps : (f : List Value → Result (List Value) Kind) (c d : Cell) → in_list f c ≡ Ok d → is_walked c ≡ true → contents d ≡ contents c
list-keeps f (cell.List xs n) d p w = absurd (refused (nat_lt 0 n) (after (λ ys. cell.List ys n) (f xs)) d w p)
list-keeps f (cell.Tuple xs) d p w = absurd (cc)
list-keeps f (cell.Dict es n) d p w = absurd (cc)
list-keeps f (cell.Instance q xs) d p w = absurd (cc)

dict-keeps : (f : List (Key × Value) → Result (List (Key × Value)) Kind) (c d : Cell) → in_dict f c ≡ Ok d → is_walked c ≡ true → contents d ≡ contents c
dict-keeps f (cell.List xs n) d p w = absurd (cc)
dict-keeps f (cell.Tuple xs) d p w = absurd (cc)
dict-keeps f (cell.Dict es n) d p w = absurd (refused (nat_lt 0 n) (after (λ fs. cell.Dict fs n) (f es)) d w p)
dict-keeps f (cell.Instance q xs) d p w = absurd (cc)

module _ (f : Cell → Result Cell Kind) (keeps : (c d : Cell) → f c ≡ Ok d → is_walked c ≡ true → contents d ≡ contents c) where
  list-stays : (h g : List Cell) (v : Value) → list_changed f h v ≡ Ok g → WalkedStay h g
  list-stays h g (value.Key k) p = absurd (cc)
  list-stays h g (value.Leaf l) p = absurd (cc)
  list-stays h g (value.Cell i) p = put_at-stays f keeps h g i p
  list-stays h g (value.Frozen b) p = absurd (cc)

  dict-stays : (h g : List Cell) (v : Value) → dict_changed f h v ≡ Ok g → WalkedStay h g
  dict-stays h g (value.Key k) p = absurd (cc)
  dict-stays h g (value.Leaf l) p = absurd (cc)
  dict-stays h g (value.Cell i) p = put_at-stays f keeps h g i p
  dict-stays h g (value.Frozen b) p = absurd (cc)

pub walked-stay : (h g : List Cell) (x : Change) → heap_after h x ≡ Ok g → WalkedStay h g
walked-stay h g (append v x) p = list-stays (pushed x) (list-keeps (pushed_items x)) h g v p
walked-stay h g (extend v xs) p = list-stays (joined xs) (list-keeps (joined_items xs)) h g v p
walked-stay h g (set_index v i x) p = list-stays (indexed i x) (list-keeps (indexed_items i x)) h g v p
walked-stay h g (set_key v k x) p = dict-stays (keyed k x) (dict-keeps (keyed_entries k x)) h g v p

-- a walk that begins changes the count alone
begun-keeps : (c d : Cell) → walk_begun c ≡ Ok d → is_walked c ≡ true → contents d ≡ contents c
begun-keeps (cell.List xs n) d p w = let a : cell.List xs (n + 1) ≡ d = cc in ap contents (sym a)
begun-keeps (cell.Tuple xs) d p w = let a : cell.Tuple xs ≡ d = cc in ap contents (sym a)
begun-keeps (cell.Dict es n) d p w = let a : cell.Dict es (n + 1) ≡ d = cc in ap contents (sym a)
begun-keeps (cell.Instance q xs) d p w = absurd (cc)

same-heap : (h g : List Cell) → h ≡ g → WalkedStay h g
same-heap h g e n c q w = (c, (ap (λ l. slice_get l n) (sym e) ∙ q, refl))

begun-at : (h g : List Cell) (i : ℕ) (m : Option ℕ) (r : Result (List Cell) Kind) → ((x : List Cell) → r ≡ Ok x → WalkedStay h x) → after {A = List Cell} {B = Option ℕ × List Cell} (λ x. (Some i, x)) r ≡ Ok (m, g) → WalkedStay h g
begun-at h g i m (Err k) known p = absurd (cc)
begun-at h g i m (Ok x) known p = let a : x ≡ g = ap (pair_second x) p in subst (λ y. WalkedStay h y) a (known x refl)

begun-frozen : (h g : List Cell) (m : Option ℕ) (b : Bool) (r : Result (Option ℕ × List Cell) Kind) → r ≡ Ok (None, h) → (if b then r else Err Wrong) ≡ Ok (m, g) → WalkedStay h g
begun-frozen h g m true r e p = same-heap h g (ap (pair_second h) (sym e ∙ p))
begun-frozen h g m false r e p = absurd (cc)

begun-stays : (h g : List Cell) (v : Value) (m : Option ℕ) → walk_begun_at h v ≡ Ok (m, g) → WalkedStay h g
begun-stays h g (value.Key k) m p = absurd (cc)
begun-stays h g (value.Leaf l) m p = absurd (cc)
begun-stays h g (value.Cell i) m p = begun-at h g i m (put_at h i walk_begun) (λ x e. put_at-stays walk_begun begun-keeps h x i e) p
begun-stays h g (value.Frozen b) m p = begun-frozen h g m (is_walkable b) (Ok (None, h)) refl p

contents-over : (c : Cell) → contents (walk_over c) ≡ contents c
contents-over (cell.List xs n) = refl
contents-over (cell.Tuple xs) = refl
contents-over (cell.Dict es n) = refl
contents-over (cell.Instance p xs) = refl

ended_at-stays : (h : List Cell) (i : ℕ) → WalkedStay h (ended_at h i)
ended_at-stays [] i n c q w = absurd (cc)
ended_at-stays (x ∷ xs) zero zero c q w = let b : x ≡ c = cc in (walk_over x, (refl, contents-over x ∙ ap contents b))
ended_at-stays (x ∷ xs) zero (suc n) c q w = (c, (q, refl))
ended_at-stays (x ∷ xs) (suc i) zero c q w = (c, (q, refl))
ended_at-stays (x ∷ xs) (suc i) (suc n) c q w = ended_at-stays xs i n c q w

ended-stays : (h : List Cell) (m : Option ℕ) → WalkedStay h (walk_ended h m)
ended-stays h None = same-heap h h refl
ended-stays h (Some i) = ended_at-stays h i

more-stays : (h t : List Cell) → WalkedStay h (h ++ t)
more-stays [] t n c q w = absurd (cc)
more-stays (x ∷ xs) t zero c q w = (c, (q, refl))
more-stays (x ∷ xs) t (suc n) c q w = more-stays xs t n c q w

made-stays : (h g t : List Cell) (v u : Value) (b : Bool) (r : Result (Value × List Cell) Kind) → r ≡ Ok (u, h ++ t) → (if b then Err Large else r) ≡ Ok (v, g) → WalkedStay h g
made-stays h g t v u true r e p = absurd (cc)
made-stays h g t v u false r e p = let a : h ++ t ≡ g = ap (pair_second g) (sym e ∙ p) in subst (λ y. WalkedStay h y) a (more-stays h t)

pub walks-stay : WalksStay
walks-stay = record {
  begun = begun-stays;
  ended = ended-stays;
  new_cell = λ h g c parts v p. made-stays h g (c ∷ []) v (value.Cell (length h)) (nat_lt LARGEST parts) (Ok (value.Cell (length h), h ++ c ∷ [])) refl p;
}
