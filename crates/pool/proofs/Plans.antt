-- The plan of a board: the rows of the nodes that are not cyclic, by what a graph's rows have.
use Rattle.std.proofs.Common.{◌≡◌, ◌∙◌, ℕ, suc, ◌<◌, ◌≤◌, true, false, refl, eq-eqb, List, [], ◌∷◌, length, take, get_or, sym, subst, arith, get_or-take, length-take}
use Rattle.std.specs.Prelude.{nat_eq}
use Rattle.std.specs.List.{IsDistinct, range_with_len}
use Rattle.std.proofs.lemmas.Map.Keys.{IsDistinct-tail, apart_from_distinct}
use mathlib.Core.Logic.{dite}
use native.Mathlib.Decide.{ℕ_discrete}
use Rattle.board.specs.Journal.{times, deps}
use Rattle.board.proofs.Counts.{times_here, times_else}
use Rattle.edges.specs.Rows.{row, has, users_of, ready_of, IsGraph, IsOrdered}
use Rattle.edges.proofs.Tests.{both_and, not_both}
use Rattle.edges.proofs.Lists.{has_at, has-get_or, has-filter, has_range_below, distinct_range}
use Rattle.edges.proofs.Turns.{user_edge, edge_user}
use Rattle.pool.proofs.Places.{times_some, times_at, deps_inside}

-- ---- what stands in a list

pub has_times : (xs : List ℕ) (x : ℕ) → has xs x ≡ true → 0 < times x xs
has_times xs x h = let k = has_at xs x h in times_some xs x k.0 k.1 k.2

pub times_has : (xs : List ℕ) (x : ℕ) → 0 < times x xs → has xs x ≡ true
times_has xs x some = let k = times_at xs x some in subst (λ (y : ℕ). has xs y ≡ true) k.2 (has-get_or xs k.0 k.1)

pub once : (xs : List ℕ) → IsDistinct nat_eq xs → (x : ℕ) → times x xs ≤ 1
once [] distinct x = omega arith
once (y ∷ ys) distinct x = dite (ℕ_discrete x y)
    (λ e. subst (λ (j : ℕ). times j (y ∷ ys) ≤ 1) (sym e) (let h = times_here y ys in let z = none in omega arith))
    (λ ne. let t = times_else x y ys ne in let r = once ys (IsDistinct-tail nat_eq y ys distinct) x in omega arith)
  where
    none : times y ys ≡ 0
    none = dite (ℕ_discrete (times y ys) 0) (λ z. z) (λ some.
        let k = times_at ys y (omega arith) in
        let lt = k.1 in
        let apart = apart_from_distinct nat_eq (y ∷ ys) 0 (suc k.0) 0 distinct (omega arith) (omega arith) in
        absurd (not_both (nat_eq y y) (eq-eqb y y refl) (subst (λ (z : ℕ). nat_eq y z ≡ false) k.2 apart)))

-- ---- the plan

module _ (rows : List (List ℕ)) (acyclic : ℕ) where
  pub row_taken : (n : ℕ) → n < acyclic → deps (take acyclic rows) n ≡ row rows n
  row_taken n first = get_or-take acyclic rows n [] first

  module _ (order : IsOrdered rows acyclic) where
    pub plan_size : length (take acyclic rows) ≡ acyclic
    plan_size = let w = order.within in let l = length-take acyclic rows in omega arith

    -- an edge of the plan is one of the graph
    pub plan_edge : (n d : ℕ) → 0 < times d (deps (take acyclic rows) n) → (n < acyclic) × (has (row rows n) d ≡ true)
    plan_edge n d some =
        let low = deps_inside (take acyclic rows) n d some in
        let s = plan_size in
        let first : n < acyclic = omega arith in
        (first, times_has (row rows n) d (subst (λ (ds : List ℕ). 0 < times d ds) (row_taken n first) some))

    pub edge_plan : (n d : ℕ) → n < acyclic → has (row rows n) d ≡ true → 0 < times d (deps (take acyclic rows) n)
    edge_plan n d first h = subst (λ (ds : List ℕ). 0 < times d ds) (sym (row_taken n first)) (has_times (row rows n) d h)

    pub plan_inside : (n d : ℕ) → 0 < times d (deps (take acyclic rows) n) → d < length (take acyclic rows)
    plan_inside n d some =
        let e = plan_edge n d some in
        let first = e.0 in
        let down = order.after n d e.0 e.1 in
        let s = plan_size in
        omega arith

    pub plan_distinct : IsGraph rows → (n d : ℕ) → times d (deps (take acyclic rows) n) ≤ 1
    plan_distinct graph n d = dite (ℕ_discrete (times d (deps (take acyclic rows) n)) 0)
        (λ none. omega arith)
        (λ some. let e = plan_edge n d (omega arith) in subst (λ (ds : List ℕ). times d ds ≤ 1) (sym (row_taken n e.0)) (once (row rows n) (graph.distinct n) d))

    -- the users of a node that run, by the plan
    module _ (plan : List (List ℕ)) (is : plan ≡ take acyclic rows) (n : ℕ) (us : List ℕ) (users : us ≡ users_of rows n) where
      pub user_waits : (u : ℕ) → has us u ≡ true → u < acyclic → 0 < times n (deps plan u)
      user_waits u h first =
          subst (λ (p : List (List ℕ)). 0 < times n (deps p u)) (sym is)
          (edge_plan u n first (user_edge rows n u (subst (λ (xs : List ℕ). has xs u ≡ true) users h)).1)

      pub waiter_uses : (u : ℕ) → 0 < times n (deps plan u) → (u < acyclic) × (has us u ≡ true)
      waiter_uses u some =
          let e = plan_edge u n (subst (λ (p : List (List ℕ)). 0 < times n (deps p u)) is some) in
          let first = e.0 in
          let w = order.within in
          (first, subst (λ (xs : List ℕ). has xs u ≡ true) (sym users) (edge_user rows n u (omega arith) e.1))

      pub users_once : (x : ℕ) → times x us ≤ 1
      users_once x = once us (subst (IsDistinct nat_eq) (sym users) (distinct_range (λ m. has (row rows m) n) 0 (length rows))) x

-- a node that depends on none is a node
pub ready_below : (rows : List (List ℕ)) (k : ℕ) → k < length (ready_of rows) → get_or (ready_of rows) k 0 < length rows
ready_below rows k lt =
    let d : ℕ = get_or (ready_of rows) k 0 in
    let two = both_and (has (range_with_len 0 (length rows)) d) (nat_eq (length (row rows d)) 0)
    (sym (has-filter (λ n. nat_eq (length (row rows n)) 0) (range_with_len 0 (length rows)) d) ∙ has-get_or (ready_of rows) k lt) in
    let low = has_range_below (length rows) 0 d two.0 in
    omega (arith, low.1)
