-- The turns of the countdown: how it starts, what each turn keeps, and how a node is done.
use Rattle.std.proofs.Common.{◌≡◌, ℕ, suc, ◌+◌, ◌-◌, ◌<◌, ◌≤◌, inl, inr, Bool, true, false, ◌||◌, ◌&&◌, List, [], ◌∷◌, ◌++◌, length, map, get_or, take, set, sym, ap, ◌∙◌, subst, arith, refl, true≢false, eqb-true, eq-eqb, if◌then◌else◌}
use Rattle.std.specs.Prelude.{nat_eq}
use Rattle.std.specs.List.{IsDistinct, range_with_len}
use Rattle.std.proofs.lemmas.List.{get_or-map, length-map, take-append-le, take_all, append_assoc, get_or_default, get_or_read}
use Rattle.std.proofs.lemmas.List.FromFn.{length-map-range_with_len, get_or-map-range_with_len}
use Rattle.std.proofs.lemmas.List.Folds.{list_any-append}
use Rattle.std.proofs.lemmas.Map.Steps.{length-le_from_distinct_below}
use Rattle.edges.specs.Rows.{row, has, users_of, IsGraph}
use Rattle.edges.specs.Counting.{Counting, count, counted, zeros}
use Rattle.edges.proofs.Tests.{cases_of, not_both, or_left, or_right, or_none, both_and, and_both, and_none}
use Rattle.edges.proofs.Lists.{has_at, has-get_or, has_more, has_taken, new_at, has_range, has_range_below, has-filter, distinct_range}
use Rattle.edges.proofs.Counting.{retaken, lower_some, lowered_last, lowered_more}

count_all : (ds : List ℕ) → count (λ d. true) ds ≡ length ds
count_all [] = refl
count_all (d ∷ ds) = ap suc (count_all ds)

empty_list : (ds : List ℕ) (d : ℕ) → length ds ≡ 0 → has ds d ≡ true → ⊥
empty_list [] d none h = true≢false (sym h)
empty_list (x ∷ ds) d none h = omega (arith, none)

-- users and dependencies are the same edges
pub user_edge : (plan : List (List ℕ)) (n v : ℕ) → has (users_of plan n) v ≡ true → (v < length plan) × (has (row plan v) n ≡ true)
user_edge plan n v h =
    let two = both_and (has (range_with_len 0 (length plan)) v) (has (row plan v) n) (sym (has-filter (λ m. has (row plan m) n) (range_with_len 0 (length plan)) v) ∙ h) in
    let low = has_range_below (length plan) 0 v two.0 in
    (omega (arith, low.1), two.1)

pub edge_user : (plan : List (List ℕ)) (n v : ℕ) → v < length plan → has (row plan v) n ≡ true → has (users_of plan n) v ≡ true
edge_user plan n v low h =
    has-filter (λ m. has (row plan m) n) (range_with_len 0 (length plan)) v
    ∙ and_both (has (range_with_len 0 (length plan)) v) (has (row plan v) n) (has_range (length plan) 0 v (omega arith) (omega (arith, low))) h

pub starts_counting : (plan : List (List ℕ)) (left order : List ℕ) → left ≡ map length plan → order ≡ zeros left → Counting plan (λ d v. has (take 0 order) d) order left
starts_counting plan left order is starts =
    let long : length left ≡ length plan = ap length is ∙ length-map plan length in
    let in_order : (v : ℕ) → has order v ≡ (has (range_with_len 0 (length left)) v && nat_eq (get_or left v 0) 0) =
    λ v. ap (λ xs. has xs v) starts ∙ has-filter (λ n. nat_eq (get_or left n 0) 0) (range_with_len 0 (length left)) v in
    let deps_len : (v : ℕ) → v < length plan → get_or left v 0 ≡ length (row plan v) =
    λ v low. ap (λ xs. get_or xs v 0) is ∙ get_or-map length plan v [] 0 low in
    let zero_of : (v : ℕ) → has order v ≡ true → (v < length plan) × (get_or left v 0 ≡ 0) =
    λ v h.
    let two = both_and (has (range_with_len 0 (length left)) v) (nat_eq (get_or left v 0) 0) (sym (in_order v) ∙ h) in
    let low = has_range_below (length left) 0 v two.0 in
    (omega (arith, low.1, long), eqb-true (get_or left v 0) 0 two.1) in
    record {
      len = long;
      counts = λ v low. deps_len v low ∙ sym (count_all (row plan v));
      zero_in = λ v low none. in_order v ∙ and_both (has (range_with_len 0 (length left)) v) (nat_eq (get_or left v 0) 0) (has_range (length left) 0 v (omega arith) (omega (arith, low, long))) (eq-eqb (get_or left v 0) 0 none);
      in_zero = zero_of;
      distinct = subst (IsDistinct nat_eq) (sym starts) (distinct_range (λ n. nat_eq (get_or left n 0) 0) 0 (length left));
      after = λ i low d h.
          let z = zero_of (get_or order i 0) (has-get_or order i low) in
          absurd (empty_list (row plan (get_or order i 0)) d (sym (deps_len (get_or order i 0) z.0) ∙ z.1) h);
      taken_in = λ d v h. absurd (true≢false (sym h));
    }

-- no more nodes are in order than there are
pub order_within : (plan : List (List ℕ)) (taken : ℕ → ℕ → Bool) (order left : List ℕ) → Counting plan taken order left → length order ≤ length plan
order_within plan taken order left was = length-le_from_distinct_below order (length plan) was.distinct (λ q h. (was.in_zero q h).0)

pub enters : (plan : List (List ℕ)) (order left gone : List ℕ) (n : ℕ) → Counting plan (λ d v. has gone d) order left → Counting plan (counted gone n []) order left
enters plan order left gone n was =
    let same : (d v : ℕ) → counted gone n [] d v ≡ has gone d = λ d v. ap (λ b. has gone d || b) (and_none (nat_eq d n)) ∙ or_none (has gone d) in
    retaken plan (λ d v. has gone d) (counted gone n []) order left was (λ d v low h. sym (same d v)) (λ d v h. was.taken_in d v (sym (same d v) ∙ h))

module _ (plan : List (List ℕ)) (is_graph : IsGraph plan) (order left gone us : List ℕ) (n k : ℕ) (was : Counting plan (counted gone n (take k us)) order left)
    (users : us ≡ users_of plan n) (within : k < length us) (in_order : has order n ≡ true) (not_gone : has gone n ≡ false) where
  next : ℕ
  next = get_or us k 0

  edge_of : (next < length plan) × (has (row plan next) n ≡ true)
  unfolding next
  edge_of = user_edge plan n next (subst (λ xs. has xs next ≡ true) users (has-get_or us k within))

  pub turn_node : get_or us k 0 < length plan
  unfolding next
  turn_node = edge_of.0

  distinct_users : IsDistinct nat_eq us
  distinct_users = subst (IsDistinct nat_eq) (sym users) (distinct_range (λ m. has (row plan m) n) 0 (length plan))

  before : counted gone n (take k us) n next ≡ false
  unfolding next
  before = ap (λ b. b || (nat_eq n n && has (take k us) next)) not_gone ∙ ap (λ b. nat_eq n n && b) (new_at us k distinct_users within) ∙ and_none (nat_eq n n)

  now_taken : counted gone n (take (k + 1) us) n next ≡ true
  unfolding next
  now_taken = or_right (has gone n) _ (and_both (nat_eq n n) (has (take (k + 1) us) next) (eq-eqb n n refl) (has_more us k next within ∙ or_right (has (take k us) next) (nat_eq next next) (eq-eqb next next refl)))

  others : (d v : ℕ) → (d ≡ n → v ≡ next → ⊥) → counted gone n (take k us) d v ≡ counted gone n (take (k + 1) us) d v
  unfolding next
  others d v apart = elim (cases_of (nat_eq d n)) [
    | inr other ↦ ap (λ b. has gone d || (b && has (take k us) v)) other ∙ sym (ap (λ b. has gone d || (b && has (take (k + 1) us) v)) other)
    | inl same ↦
        let ne : nat_eq v next ≡ false = elim (cases_of (nat_eq v next)) [ inl is ↦ absurd (apart (eqb-true d n same) (eqb-true v next is)) | inr isnt ↦ isnt ] in
        let same_has : has (take (k + 1) us) v ≡ has (take k us) v = has_more us k v within ∙ ap (λ b. has (take k us) v || b) ne ∙ or_none (has (take k us) v) in
        ap (λ b. has gone d || (nat_eq d n && b)) (sym same_has)
  ]

  pub turn_some : 0 < get_or left (get_or us k 0) 0
  unfolding next
  turn_some = lower_some plan is_graph (counted gone n (take k us)) (counted gone n (take (k + 1) us)) order left was n next edge_of.0 edge_of.1 in_order before now_taken others

  pub turned : Counting plan (counted gone n (take (k + 1) us)) (if nat_eq (get_or left (get_or us k 0) 0) 1 then order ++ get_or us k 0 ∷ [] else order) (set left (get_or us k 0) (get_or left (get_or us k 0) 0 - 1))
  unfolding next
  turned = elim (cases_of (nat_eq (get_or left next 0) 1)) [
    | inl one ↦
        subst (λ b. Counting plan (counted gone n (take (k + 1) us)) (if b then order ++ next ∷ [] else order) (set left next (get_or left next 0 - 1))) (sym one)
        (lowered_last plan is_graph (counted gone n (take k us)) (counted gone n (take (k + 1) us)) order left was n next edge_of.0 edge_of.1 in_order before now_taken others (eqb-true (get_or left next 0) 1 one))
    | inr many ↦
        subst (λ b. Counting plan (counted gone n (take (k + 1) us)) (if b then order ++ next ∷ [] else order) (set left next (get_or left next 0 - 1))) (sym many)
        (lowered_more plan is_graph (counted gone n (take k us)) (counted gone n (take (k + 1) us)) order left was n next edge_of.0 edge_of.1 in_order before now_taken others
        (λ e. not_both (nat_eq (get_or left next 0) 1) (eq-eqb (get_or left next 0) 1 e) many))
  ]

-- all users of a node have been gone through
pub leaves : (plan : List (List ℕ)) (order0 order left us : List ℕ) (at n : ℕ) → at < length order0 → n ≡ get_or order0 at 0 → (more : List ℕ) × (order ≡ order0 ++ more)
    → us ≡ users_of plan n → Counting plan (counted (take at order0) n us) order left → Counting plan (λ d v. has (take (at + 1) order) d) order left
leaves plan order0 order left us at n low node_is grown users was =
    let gone = take at order0 in
    let cut : take (at + 1) order ≡ take (at + 1) order0 = ap (take (at + 1)) grown.1 ∙ take-append-le (at + 1) order0 grown.0 (omega (arith, low)) in
    let done : (d : ℕ) → has (take (at + 1) order) d ≡ (has gone d || nat_eq d n) = λ d. ap (λ xs. has xs d) cut ∙ has_more order0 at d low ∙ ap (λ x. has gone d || nat_eq d x) (sym node_is) in
    retaken plan (counted gone n us) (λ d v. has (take (at + 1) order) d) order left was
    (λ d v node h. elim (cases_of (nat_eq d n)) [
      | inl same ↦
          let dep : has (row plan v) n ≡ true = subst (λ x. has (row plan v) x ≡ true) (eqb-true d n same) h in
          let user : has us v ≡ true = subst (λ xs. has xs v ≡ true) (sym users) (edge_user plan n v node dep) in
          or_right (has gone d) (nat_eq d n && has us v) (and_both (nat_eq d n) (has us v) same user) ∙ sym (done d ∙ or_right (has gone d) (nat_eq d n) same)
      | inr other ↦ ap (λ b. has gone d || (b && has us v)) other ∙ sym (done d ∙ ap (λ b. has gone d || b) other)
    ])
    (λ d v h. let k = has_at (take (at + 1) order) d h in has_taken (at + 1) order d h)

-- the node whose turn it is
pub turn_of : (plan : List (List ℕ)) (order left : List ℕ) (at node : ℕ) → Counting plan (λ d v. has (take at order) d) order left → at < length order → node ≡ get_or order at node
    → (node ≡ get_or order at 0) × (node < length plan) × (has order node ≡ true) × (has (take at order) node ≡ false)
turn_of plan order left at node was low is =
    let e : node ≡ get_or order at 0 = is ∙ get_or_default order at node 0 low in
    let inside : has order node ≡ true = subst (λ x. has order x ≡ true) (sym e) (has-get_or order at low) in
    (e, (was.in_zero node inside).0, inside, subst (λ x. has (take at order) x ≡ false) (sym e) (new_at order at was.distinct low))

-- all nodes in order have been gone through
pub finishes : (plan : List (List ℕ)) (order left : List ℕ) (at : ℕ) → Counting plan (λ d v. has (take at order) d) order left → length order ≤ at → Counting plan (λ d v. has order d) order left
finishes plan order left at was past = subst (λ xs. Counting plan (λ d v. has xs d) order left) (take_all at order past) was

pub still : (order0 order : List ℕ) (n : ℕ) → (more : List ℕ) × (order ≡ order0 ++ more) → has order0 n ≡ true → has order n ≡ true
still order0 order n grown h = ap (λ xs. has xs n) grown.1 ∙ list_any-append (nat_eq n) order0 grown.0 ∙ or_left (has order0 n) (has grown.0 n) h

pub grows : (b : Bool) (order0 order order1 : List ℕ) (u : ℕ) → (more : List ℕ) × (order ≡ order0 ++ more) → order1 ≡ (if b then order ++ u ∷ [] else order) → (more : List ℕ) × (order1 ≡ order0 ++ more)
grows true order0 order order1 u grown is = (grown.0 ++ u ∷ [], is ∙ ap (λ xs. xs ++ u ∷ []) grown.1 ∙ append_assoc order0 grown.0 (u ∷ []))
grows false order0 order order1 u grown is = (grown.0, is ∙ grown.1)

pub all_done : (plan : List (List ℕ)) (gone order left us : List ℕ) (n k : ℕ) → length us ≤ k → Counting plan (counted gone n (take k us)) order left → Counting plan (counted gone n us) order left
all_done plan gone order left us n k past was = subst (λ xs. Counting plan (counted gone n xs) order left) (take_all k us past) was

-- the row of a node among all users
pub users_at : (deps users : List (List ℕ)) (n : ℕ) → users ≡ map (users_of deps) (range_with_len 0 (length deps)) → n < length deps → (n < length users) × (row users n ≡ users_of deps n)
users_at deps users n is low =
    let long = ap length is ∙ length-map-range_with_len (users_of deps) 0 (length deps) in
    (omega (arith, long, low), ap (λ us. row us n) is ∙ get_or-map-range_with_len (users_of deps) 0 (length deps) n n _ low (omega arith))

-- the turn of one user of the node at a place in order
module _ (plan : List (List ℕ)) (is_graph : IsGraph plan) (order0 left0 order left us : List ℕ) (at k u : ℕ) (began : Counting plan (λ d v. has (take at order0) d) order0 left0) (place : at < length order0)
    (users : us ≡ users_of plan (get_or order0 at 0)) (within : k < length us) (read : u ≡ get_or us k u) (more : (more : List ℕ) × (order ≡ order0 ++ more))
    (was : Counting plan (counted (take at order0) (get_or order0 at 0) (take k us)) order left) where
  u_is : get_or us k 0 ≡ u
  u_is = sym (get_or_read us k u within read 0)

  in_order : has order (get_or order0 at 0) ≡ true
  in_order = still order0 order (get_or order0 at 0) more (has-get_or order0 at place)

  not_gone : has (take at order0) (get_or order0 at 0) ≡ false
  not_gone = new_at order0 at began.distinct place

  pub user_node : u < length left
  user_node = subst (λ x. x < length left) u_is (let n = turn_node plan is_graph order left (take at order0) us (get_or order0 at 0) k was users within in_order not_gone in omega (arith, n, was.len))

  pub user_some : 0 < get_or left u 0
  user_some = subst (λ x. 0 < get_or left x 0) u_is (turn_some plan is_graph order left (take at order0) us (get_or order0 at 0) k was users within in_order not_gone)

  pub user_counted : (order1 left1 : List ℕ) → order1 ≡ (if nat_eq (get_or left u 0) 1 then order ++ u ∷ [] else order) → left1 ≡ set left u (get_or left u 0 - 1)
      → Counting plan (counted (take at order0) (get_or order0 at 0) (take (k + 1) us)) order1 left1
  user_counted order1 left1 order_is left_is =
      subst (λ x. Counting plan (counted (take at order0) (get_or order0 at 0) (take (k + 1) us)) x left1) (sym order_is)
      (subst (λ x. Counting plan (counted (take at order0) (get_or order0 at 0) (take (k + 1) us)) (if nat_eq (get_or left u 0) 1 then order ++ u ∷ [] else order) x) (sym left_is)
      (subst (λ x. Counting plan (counted (take at order0) (get_or order0 at 0) (take (k + 1) us)) (if nat_eq (get_or left x 0) 1 then order ++ x ∷ [] else order) (set left x (get_or left x 0 - 1))) u_is
      (turned plan is_graph order left (take at order0) us (get_or order0 at 0) k was users within in_order not_gone)))
