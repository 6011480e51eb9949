-- Freezing what is frozen gives the same tree, with the ticks of its visit.
use Rattle.std.proofs.Common.{◌≡◌, ℕ, zero, suc, ◌+◌, ◌-◌, Bool, true, false, List, [], ◌∷◌, length, take, Option, Some, None, map, Result, Ok, Err, if◌then◌else◌, refl, sym, ap, ◌∙◌, arith}
use Rattle.values.specs.Tree.{Trees, Pairs, Slots, key as key_tree, leaf, branch, list, tuple, dict, instance, none, more, stop, pair, end, missing, given, trees, tree_list, pairs, pair_list, slots, slot_list}
use Rattle.values.specs.View.{FrozenTree, FrozenBranch}
use Rattle.values.specs.Shape.{shape, tree_shape, branch_shape, value_of, entry_of, slot_of}
use Rattle.ticks.specs.Ticking.{Count, Ticking, ticked, then_on, after_tick, with_count, entered}
use Rattle.values.specs.Visits.{all_of, keys_of}
use Rattle.leaves.specs.Leaves.{can_freeze}
use Rattle.visits.specs.Freeze.{freeze_at, built, frozen_entry, frozen_slot, sequence}
use Rattle.visits.specs.Revisit.{values_in, all_visited, entry_visited, slot_visited, branch_visited, visited, visit_at}
use Rattle.keys.specs.declared.key.Key.{Key}
use Rattle.leaves.specs.declared.leaf.Leaf.{Leaf}
use Rattle.leaves.specs.declared.leaf.Provider.{Provider}
use Rattle.values.specs.declared.value.Value.{Value}
use Rattle.values.specs.declared.cells.Cell.{Cell}
use Rattle.ticks.specs.declared.ticks.Kind.{Kind}
use Rattle.ticks.specs.declared.ticks.Kind.TheVariants.{Wrong, Deep}
use Rattle.values.proofs.VisitLemmas.{after-after, too-deep}

-- a visit, and then the parts
pub opened : (n : ℕ) (h : List Cell) (v : Value) (c : Count) → freeze_at n h v c ≡ after_tick (entered n c) (λ d. built (entered (n - 1)) (freeze_at (n - 1) h) (shape h v) d)
unfolding freeze_at
opened zero h v c = too-deep (ticked c) _ _
opened (suc n) h v c =
    ap (λ m. after_tick (entered (suc n) c) (λ d. built (entered m) (freeze_at m h) (shape h v) d)) (let e : n ≡ suc n - 1 = omega arith in e)

pub visit-opened : (n : ℕ) (t : FrozenTree) (c : Count) → visit_at n t c ≡ after_tick (entered n c) (λ d. visited (entered (n - 1)) (visit_at (n - 1)) t d)
unfolding visit_at
visit-opened zero t c = too-deep (ticked c) _ _
visit-opened (suc n) t c =
    ap (λ m. after_tick (entered (suc n) c) (λ d. visited (entered m) (visit_at m) t d)) (let e : n ≡ suc n - 1 = omega arith in e)

finish : {A B : Type 0} (r : Result Count Kind) (u : A) (b : A → B) → then_on (after_tick r (λ d. Ok (u, d))) (λ x d. Ok (b x, d)) ≡ after_tick r (λ d. Ok (b u, d))
finish (Ok c) u b = refl
finish (Err k) u b = refl

module _ {X A T : Type 0} (from : X → A) (part : X → T) (g : A → Count → Ticking T) (f : T → Count → Result Count Kind)
    (agree : (x : X) (c : Count) → g (from x) c ≡ after_tick (f (part x) c) (λ d. Ok (part x, d))) where
  go : (x : X) (xs : List X) (r : Result Count Kind) → ((d : Count) → all_of g (map from xs) d ≡ after_tick (all_visited f (map part xs) d) (λ e. Ok (map part xs, e)))
      → then_on (after_tick r (λ d. Ok (part x, d))) (λ y d. then_on (all_of g (map from xs) d) (λ ys e. Ok (y ∷ ys, e)))
      ≡ after_tick (after_tick r (λ d. all_visited f (map part xs) d)) (λ d. Ok (part x ∷ map part xs, d))
  go x xs (Err k) known = refl
  go x xs (Ok d) known = ap (λ r. then_on r (λ ys e. Ok (part x ∷ ys, e))) (known d) ∙ finish (all_visited f (map part xs) d) (map part xs) (λ ys. part x ∷ ys)

  all-again : (xs : List X) (c : Count) → all_of g (map from xs) c ≡ after_tick (all_visited f (map part xs) c) (λ d. Ok (map part xs, d))
  all-again [] c = refl
  all-again (x ∷ xs) c =
      ap (λ r. then_on r (λ y d. then_on (all_of g (map from xs) d) (λ ys e. Ok (y ∷ ys, e)))) (agree x c) ∙ go x xs (f (part x) c) (all-again xs)

map-same : {T : Type 0} (ts : List T) → map (λ t. t) ts ≡ ts
map-same [] = refl
map-same (t ∷ ts) = ap (λ l. t ∷ l) (map-same ts)

slots-slot_list : (ss : Slots Leaf Key Provider) → slots (slot_list ss) ≡ ss
slots-slot_list end = refl
slots-slot_list (missing ss) = ap missing (slots-slot_list ss)
slots-slot_list (given t ss) = ap (given t) (slots-slot_list ss)

trees-tree_list : (ts : Trees Leaf Key Provider) → trees (tree_list ts) ≡ ts
trees-tree_list none = refl
trees-tree_list (more t ts) = ap (λ l. more t l) (trees-tree_list ts)

seconds : (ps : Pairs Leaf Key Provider) → map (λ e. e.1) (pair_list ps) ≡ values_in ps
seconds stop = refl
seconds (pair k t ps) = ap (λ l. t ∷ l) (seconds ps)

pairs-again : (ps : Pairs Leaf Key Provider) → pairs (keys_of (map entry_of (pair_list ps))) (values_in ps) ≡ ps
pairs-again stop = refl
pairs-again (pair k t ps) = ap (λ l. pair k t l) (pairs-again ps)

module _ (visit : Count → Result Count Kind) (fr : Value → Count → Ticking FrozenTree) (f : FrozenTree → Count → Result Count Kind)
    (agree : (t : FrozenTree) (c : Count) → fr (value_of t) c ≡ after_tick (f t c) (λ d. Ok (t, d))) where
  leaf-again : (b : Bool) (t : FrozenTree) (c : Count) → with_count (if b then Ok t else Err Wrong) c ≡ after_tick (if b then Ok c else Err Wrong) (λ d. Ok (t, d))
  leaf-again true t c = refl
  leaf-again false t c = refl

  items-again : (ts : Trees Leaf Key Provider) (c : Count) → all_of fr (map value_of (tree_list ts)) c ≡ after_tick (all_visited f (tree_list ts) c) (λ d. Ok (tree_list ts, d))
  items-again ts c =
      all-again value_of (λ t. t) fr f agree (tree_list ts) c ∙ ap (λ l. after_tick (all_visited f l c) (λ d. Ok (l, d))) (map-same (tree_list ts))

  entry-again : (enter : Count → Result Count Kind) (e : Key × FrozenTree) (c : Count)
      → frozen_entry enter fr (entry_of e) c ≡ after_tick (entry_visited enter f e.1 c) (λ d. Ok (e.1, d))
  entry-again enter e c =
      (λ j. after_tick (enter c) (λ d. agree e.1 d j)) ∙ sym (after-after (enter c) (λ d. f e.1 d) (λ d. Ok (e.1, d)))

  entries-again : (enter : Count → Result Count Kind) (ps : Pairs Leaf Key Provider) (c : Count)
      → all_of (frozen_entry enter fr) (map entry_of (pair_list ps)) c ≡ after_tick (all_visited (entry_visited enter f) (values_in ps) c) (λ d. Ok (values_in ps, d))
  entries-again enter ps c =
      all-again entry_of (λ e. e.1) (frozen_entry enter fr) (entry_visited enter f) (entry-again enter) (pair_list ps) c
      ∙ ap (λ l. after_tick (all_visited (entry_visited enter f) l c) (λ d. Ok (l, d))) (seconds ps)

  slot-again : (o : Option FrozenTree) (c : Count) → frozen_slot fr (slot_of o) c ≡ after_tick (slot_visited f o c) (λ d. Ok (o, d))
  slot-again None c = refl
  slot-again (Some t) c = ap (λ r. then_on r (λ u d. Ok (Some u, d))) (agree t c) ∙ finish (f t c) t Some

  slots-again : (os : List (Option FrozenTree)) (c : Count) → all_of (frozen_slot fr) (map slot_of os) c ≡ after_tick (all_visited (slot_visited f) os c) (λ d. Ok (os, d))
  slots-again os c =
      all-again slot_of (λ o. o) (frozen_slot fr) (slot_visited f) slot-again os c
      ∙ ap (λ l. after_tick (all_visited (slot_visited f) l c) (λ d. Ok (l, d))) (map-same os)

  branch-again : (b : FrozenBranch) (c : Count) → built visit fr (branch_shape b) c ≡ after_tick (branch_visited visit f b c) (λ d. Ok (branch b, d))
  branch-again (list ts) c =
      ap (λ r. then_on r (λ us d. Ok (sequence true us, d))) (items-again ts c) ∙ finish (all_visited f (tree_list ts) c) (tree_list ts) (sequence true)
      ∙ ap (λ w. after_tick (all_visited f (tree_list ts) c) (λ d. Ok (branch (list w), d))) (trees-tree_list ts)
  branch-again (tuple ts) c =
      ap (λ r. then_on r (λ us d. Ok (sequence false us, d))) (items-again ts c) ∙ finish (all_visited f (tree_list ts) c) (tree_list ts) (sequence false)
      ∙ ap (λ w. after_tick (all_visited f (tree_list ts) c) (λ d. Ok (branch (tuple w), d))) (trees-tree_list ts)
  branch-again (dict ps) c =
      let ks = keys_of (map entry_of (pair_list ps)) in
      ap (λ r. then_on r (λ us d. Ok (branch (dict (pairs ks us)), d))) (entries-again visit ps c)
      ∙ finish (all_visited (entry_visited visit f) (values_in ps) c) (values_in ps) (λ us. branch (dict (pairs ks us)))
      ∙ ap (λ w. after_tick (all_visited (entry_visited visit f) (values_in ps) c) (λ d. Ok (branch (dict w), d))) (pairs-again ps)
  branch-again (instance p ss) c =
      ap (λ r. then_on r (λ os d. Ok (branch (instance p (slots os)), d))) (slots-again (slot_list ss) c)
      ∙ finish (all_visited (slot_visited f) (slot_list ss) c) (slot_list ss) (λ os. branch (instance p (slots os)))
      ∙ ap (λ w. after_tick (all_visited (slot_visited f) (slot_list ss) c) (λ d. Ok (branch (instance p w), d))) (slots-slot_list ss)

  built-again : (t : FrozenTree) (c : Count) → built visit fr (tree_shape t) c ≡ after_tick (visited visit f t c) (λ d. Ok (t, d))
  built-again (key_tree k) c = refl
  built-again (leaf l) c = leaf-again (can_freeze l) (leaf l) c
  built-again (branch b) c = branch-again b c

shape-value : (h : List Cell) (t : FrozenTree) → shape h (value_of t) ≡ tree_shape t
shape-value h (key_tree k) = refl
shape-value h (leaf l) = refl
shape-value h (branch b) = refl

none_left : (t : FrozenTree) (r : Result Count Kind)
    → after_tick {B = FrozenTree × Count} (after_tick {B = Count} r (λ d. Err Deep)) (λ d. Err Deep)
    ≡ after_tick {B = FrozenTree × Count} (after_tick {B = Count} (after_tick {B = Count} r (λ d. Err Deep)) (λ d. Err Deep)) (λ d. Ok (t, d))
none_left t (Ok d) = refl
none_left t (Err k) = refl

inside : (n : ℕ) (h : List Cell) (t : FrozenTree) (d : Count) → ((u : FrozenTree) (e : Count) → freeze_at n h (value_of u) e ≡ after_tick (visit_at n u e) (λ f. Ok (u, f)))
    → built (entered n) (freeze_at n h) (shape h (value_of t)) d ≡ after_tick (visited (entered n) (visit_at n) t d) (λ e. Ok (t, e))
inside n h t d known = ap (λ s. built (entered n) (freeze_at n h) s d) (shape-value h t) ∙ built-again (entered n) (freeze_at n h) (visit_at n) known t d

-- freezing a frozen value gives its tree, with the ticks of its visit
pub frozen-again : (n : ℕ) (h : List Cell) (t : FrozenTree) (c : Count) → freeze_at n h (value_of t) c ≡ after_tick (visit_at n t c) (λ d. Ok (t, d))
unfolding freeze_at visit_at
frozen-again zero h t c = none_left t (ticked c)
frozen-again (suc n) h t c =
    (λ j. after_tick (entered (suc n) c) (λ d. inside n h t d (frozen-again n h) j)) ∙ sym (after-after (entered (suc n) c) (λ d. visited (entered n) (visit_at n) t d) (λ d. Ok (t, d)))

module _ {T : Type 0} (f : T → Count → Result Count Kind) where
  first : (t : T) (ts us : List T) (c : Count) (r : Result Count Kind) → ts ≡ t ∷ us → f t c ≡ r → all_visited f ts c ≡ after_tick r (λ d. all_visited f us d)
  first t ts us c r p e = ap (λ l. all_visited f l c) p ∙ ap (λ s. after_tick s (λ d. all_visited f us d)) e

  pub visited-next : (t : T) (ts us : List T) (c d : Count) → ts ≡ t ∷ us → f t c ≡ Ok d → all_visited f us d ≡ all_visited f ts c
  visited-next t ts us c d p e = sym (first t ts us c (Ok d) p e)

  pub visited-fault : (t : T) (ts us : List T) (c : Count) (k : Kind) → ts ≡ t ∷ us → f t c ≡ Err k → all_visited f ts c ≡ Err k
  visited-fault t ts us c k p h = first t ts us c (Err k) p h

-- the values of pairs are those of the trees that have a key
pub values-taken : (ks : List Key) (ts : List FrozenTree) → take (length ks) ts ≡ values_in (pairs ks ts)
values-taken [] ts = refl
values-taken (k ∷ ks) [] = refl
values-taken (k ∷ ks) (t ∷ ts) = ap (λ us. t ∷ us) (values-taken ks ts)

pub taken-turn : (t : FrozenTree) (ts us : List FrozenTree) (n m : ℕ) → ts ≡ t ∷ us → m + 1 ≡ n → take n ts ≡ t ∷ take m us
taken-turn t ts us n m p q = let e : n ≡ suc m = omega (arith, q) in λ j. take (e j) (p j)

abbrev tree_got : FrozenTree → Ticking FrozenTree → FrozenTree
tree_got z (Ok p) = p.0
tree_got z (Err k) = z

gives-itself : (r : Result Count Kind) (t u : FrozenTree) (d : Count) → after_tick {B = FrozenTree × Count} r (λ e. Ok (t, e)) ≡ Ok (u, d) → u ≡ t
gives-itself (Ok e) t u d p = sym (ap (tree_got t) p)
gives-itself (Err k) t u d p = absurd (cc)

-- where it succeeds, freezing a frozen value gives it back
pub freezes-to-itself : (n : ℕ) (h : List Cell) (t u : FrozenTree) (c d : Count) → freeze_at n h (value_of t) c ≡ Ok (u, d) → u ≡ t
freezes-to-itself n h t u c d p = gives-itself (visit_at n t c) t u d (sym (frozen-again n h t c) ∙ p)
