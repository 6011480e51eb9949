-- Where all of a frozen value can be frozen, and as many levels and ticks are left as it has, its visit takes those ticks.
use Rattle.std.proofs.Common.{◌≡◌, ℕ, zero, suc, ◌+◌, ◌≤◌, Bool, true, false, Result, Ok, Err, if◌then◌else◌, nat_lt, refl, sym, ap, subst, ◌∙◌, arith}
use Rattle.values.specs.Tree.{Trees, Pairs, Slots, key, leaf, branch, list, tuple, dict, instance, none, more, stop, pair, end, missing, given, tree_list, slot_list}
use Rattle.values.specs.View.{FrozenTree, FrozenBranch}
use Rattle.ticks.specs.Ticking.{Count, Spends, ticked, spent, after_tick, entered}
use Rattle.ticks.specs.Extents.{Measure, IsExtent, both, one, beside, above}
use Rattle.values.specs.Extents.{measure, branch_measure, trees_measure, pairs_measure, slots_measure}
use Rattle.leaves.specs.Leaves.{can_freeze}
use Rattle.visits.specs.Revisit.{AtOnce, values_in, all_visited, entry_visited, slot_visited, branch_visited, leaf_visited, visit_at}
use Rattle.ticks.specs.declared.extent.Extent.{Extent}
use Rattle.keys.specs.declared.key.Key.{Key}
use Rattle.leaves.specs.declared.leaf.Leaf.{Leaf}
use Rattle.leaves.specs.declared.leaf.Provider.{Provider}
use Rattle.ticks.specs.declared.ticks.Kind.{Kind}
use Rattle.ticks.specs.declared.ticks.Kind.TheVariants.{Wrong, Steps}

pub both-left : (a b : Bool) → both a b ≡ true → a ≡ true
both-left true b h = refl
both-left false b h = h

pub both-right : (a b : Bool) → both a b ≡ true → b ≡ true
both-right true b h = h
both-right false b h = ap (λ (x : Bool). if x then b else true) (sym h)

-- room for a visit: levels and ticks
pub record Room (m : Measure) (n : ℕ) (c : Count) : Type 0 where
  pub whole : m.whole ≡ true
  pub levels : m.levels ≤ n
  pub ticks : c.used + m.values ≤ c.limit

abbrev fine : Count → Result Count Kind
fine c = Ok c

spent-twice : (a b : ℕ) (c : Count) → fine (spent b (spent a c)) ≡ fine (spent (a + b) c)
spent-twice a b c =
    let sum : c.used + a + b ≡ c.used + (a + b) = omega arith in
    ap (λ u. Ok (record c { used = u })) sum

spent-none : (c : Count) → fine c ≡ fine (spent 0 c)
spent-none c =
    let sum : c.used ≡ c.used + 0 = omega arith in
    ap (λ u. Ok (record c { used = u })) sum

ticked-fits : (c : Count) → c.used + 1 ≤ c.limit → ticked c ≡ Ok (spent 1 c)
ticked-fits c h =
    let within : nat_lt c.used c.limit ≡ true = grind (arith, h) in
    ap (λ (b : Bool). if b then Ok (spent 1 c) else Err Steps) within

entered-fits : (n : ℕ) (c : Count) → 1 ≤ n → c.used + 1 ≤ c.limit → entered n c ≡ Ok (spent 1 c)
entered-fits zero c positive h = absurd (omega (arith, positive))
entered-fits (suc n) c positive h = ticked-fits c h

leaf-fits : (l : Leaf) (c : Count) → can_freeze l ≡ true → leaf_visited l c ≡ Ok c
leaf-fits l c h = ap (λ (b : Bool). if b then Ok c else Err Wrong) h

-- one visit, and then others
then-fits : (a b : ℕ) (c : Count) (r : Result Count Kind) (f : Count → Result Count Kind) → r ≡ Ok (spent a c) → f (spent a c) ≡ Ok (spent b (spent a c))
    → after_tick r f ≡ Ok (spent (a + b) c)
then-fits a b c r f first rest = ap (λ x. after_tick x f) first ∙ (rest ∙ spent-twice a b c)

-- room for a value above its parts is room for the parts, after its tick
below : (m : Measure) (n : ℕ) (c : Count) → Room (above m) (suc n) c → Room m n (spent 1 c)
below m n c h = record { whole = h.whole; levels = omega (arith, h.levels); ticks = omega (arith, h.ticks) }

-- room for values beside each other is room for the first, and for the others after it
first : (m k : Measure) (n : ℕ) (c : Count) → Room (beside m k) n c → Room m n c
first m k n c h = record { whole = both-left m.whole k.whole h.whole; levels = omega (arith, h.levels); ticks = omega (arith, h.ticks) }

others : (m k : Measure) (n : ℕ) (c : Count) → Room (beside m k) n c → Room k n (spent m.values c)
others m k n c h = record { whole = both-right m.whole k.whole h.whole; levels = omega (arith, h.levels); ticks = omega (arith, h.ticks) }

branch-levels : (b : FrozenBranch) → 1 ≤ (branch_measure b).levels
branch-levels b = omega arith

mutual
  unfolding visit_at

  pub tree-fits : (t : FrozenTree) (n : ℕ) (c : Count) → Room (measure t) n c → visit_at n t c ≡ Ok (spent (measure t).values c)
  tree-fits (key k) zero c h = absurd (omega (arith, h.levels))
  tree-fits (key k) (suc n) c h = ap (λ x. after_tick x (λ d. Ok d)) (ticked-fits c h.ticks)
  tree-fits (leaf l) zero c h = absurd (omega (arith, h.levels))
  tree-fits (leaf l) (suc n) c h = ap (λ x. after_tick x (leaf_visited l)) (ticked-fits c h.ticks) ∙ leaf-fits l (spent 1 c) h.whole
  tree-fits (branch b) zero c h = let some = branch-levels b in absurd (omega (arith, some, h.levels))
  tree-fits (branch b) (suc n) c h = branch-fits b n c h

  branch-fits : (b : FrozenBranch) (n : ℕ) (c : Count) → Room (branch_measure b) (suc n) c
      → after_tick (ticked c) (λ d. branch_visited (entered n) (visit_at n) b d) ≡ Ok (spent (branch_measure b).values c)
  branch-fits (list ts) n c h =
      then-fits 1 (trees_measure ts).values c (ticked c) (λ d. all_visited (visit_at n) (tree_list ts) d) (ticked-fits c (omega (arith, h.ticks)))
      (trees-fits ts n (spent 1 c) (below (trees_measure ts) n c h))
  branch-fits (tuple ts) n c h =
      then-fits 1 (trees_measure ts).values c (ticked c) (λ d. all_visited (visit_at n) (tree_list ts) d) (ticked-fits c (omega (arith, h.ticks)))
      (trees-fits ts n (spent 1 c) (below (trees_measure ts) n c h))
  branch-fits (dict ps) n c h =
      then-fits 1 (pairs_measure ps).values c (ticked c) (λ d. all_visited (entry_visited (entered n) (visit_at n)) (values_in ps) d)
      (ticked-fits c (omega (arith, h.ticks))) (pairs-fits ps n (spent 1 c) (below (pairs_measure ps) n c h))
  branch-fits (instance p ss) n c h =
      then-fits 1 (slots_measure ss).values c (ticked c) (λ d. all_visited (slot_visited (visit_at n)) (slot_list ss) d)
      (ticked-fits c (omega (arith, h.ticks))) (slots-fits ss n (spent 1 c) (below (slots_measure ss) n c h))

  trees-fits : (ts : Trees Leaf Key Provider) (n : ℕ) (c : Count) → Room (trees_measure ts) n c
      → all_visited (visit_at n) (tree_list ts) c ≡ Ok (spent (trees_measure ts).values c)
  trees-fits none n c h = spent-none c
  trees-fits (more t ts) n c h =
      then-fits (measure t).values (trees_measure ts).values c (visit_at n t c) (λ d. all_visited (visit_at n) (tree_list ts) d)
      (tree-fits t n c (first (measure t) (trees_measure ts) n c h))
      (trees-fits ts n (spent (measure t).values c) (others (measure t) (trees_measure ts) n c h))

  pairs-fits : (ps : Pairs Leaf Key Provider) (n : ℕ) (c : Count) → Room (pairs_measure ps) n c
      → all_visited (entry_visited (entered n) (visit_at n)) (values_in ps) c ≡ Ok (spent (pairs_measure ps).values c)
  pairs-fits stop n c h = spent-none c
  pairs-fits (pair k t ps) n c h =
      let v = (measure t).values in
      let vs = (pairs_measure ps).values in
      let rest = beside (measure t) (pairs_measure ps) in
      let key-room = first (one true) rest n c h in
      let rest-room = others (one true) rest n c h in
      let entry = then-fits 1 v c (entered n c) (visit_at n t) (entered-fits n c key-room.levels key-room.ticks)
      (tree-fits t n (spent 1 c) (first (measure t) (pairs_measure ps) n (spent 1 c) rest-room)) in
      let sum : 1 + v + vs ≡ 1 + (v + vs) = omega arith in
      let behind : Room (pairs_measure ps) n (spent (1 + v) c) =
      record { whole = both-right (measure t).whole (pairs_measure ps).whole rest-room.whole; levels = omega (arith, rest-room.levels); ticks = omega (arith, rest-room.ticks) } in
      then-fits (1 + v) vs c (entry_visited (entered n) (visit_at n) t c) (λ d. all_visited (entry_visited (entered n) (visit_at n)) (values_in ps) d)
      entry (pairs-fits ps n (spent (1 + v) c) behind)
      ∙ ap (λ u. Ok (spent u c)) sum

  slots-fits : (ss : Slots Leaf Key Provider) (n : ℕ) (c : Count) → Room (slots_measure ss) n c
      → all_visited (slot_visited (visit_at n)) (slot_list ss) c ≡ Ok (spent (slots_measure ss).values c)
  slots-fits end n c h = spent-none c
  slots-fits (missing ss) n c h = slots-fits ss n c h
  slots-fits (given t ss) n c h =
      then-fits (measure t).values (slots_measure ss).values c (visit_at n t c) (λ d. all_visited (slot_visited (visit_at n)) (slot_list ss) d)
      (tree-fits t n c (first (measure t) (slots_measure ss) n c h))
      (slots-fits ss n (spent (measure t).values c) (others (measure t) (slots_measure ss) n c h))

-- what was noted of a value says how its visit goes, where it fits
pub noted-fits : (e : Extent) (t : FrozenTree) (n : ℕ) (c : Count) → IsExtent e (measure t) → e.is_whole ≡ true → e.levels ≤ n → c.used + e.values ≤ c.limit
    → visit_at n t c ≡ Ok (spent e.values c)
noted-fits e t n c noted whole levels ticks =
    let known = noted.known whole in
    tree-fits t n c (record { whole = known.whole; levels = omega (arith, levels, noted.levels); ticks = omega (arith, ticks, known.values) })
    ∙ ap (λ v. Ok (spent v c)) (sym known.values)

pub at-once : (r : Bool) (n : ℕ) (e : Extent) (before now : Count) → e.is_whole ≡ true → e.levels ≤ n → Spends before e.values r now → AtOnce r n e before now
at-once true n e before now whole levels h = λ t noted. noted-fits e t n before noted whole levels h.0 ∙ ap Ok (sym h.1)
at-once false n e before now whole levels h = h.1

-- what came of trying
pub not-at-once : (r : Bool) (n : ℕ) (e : Extent) (before now : Count) → r ≡ false → AtOnce r n e before now → now ≡ before
not-at-once r n e before now is h = subst (λ x. AtOnce x n e before now) is h
