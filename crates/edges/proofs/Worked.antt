-- Worked rows of the definitions, by computation.
use Rattle.std.proofs.Common.{◌≡◌, ℕ, ◌+◌, true, false, List, [], ◌∷◌, refl, sum}
use Rattle.edges.specs.Walks.{is_cyclic}
use Rattle.edges.specs.Rows.{row, users_of, ready_of}
use Rattle.edges.specs.Outcomes.{outcome_of}

-- 3 depends on 1 and 2, and these on 0
diamond : List (List ℕ)
diamond = [] ∷ (0 ∷ []) ∷ (0 ∷ []) ∷ (1 ∷ 2 ∷ []) ∷ []

-- 0 and 1 depend on each other, 2 on 0 and 3, and 3 on none
pair : List (List ℕ)
pair = (1 ∷ []) ∷ (0 ∷ []) ∷ (0 ∷ 3 ∷ []) ∷ [] ∷ []

-- 0 depends on itself, and 1 on none
loop : List (List ℕ)
loop = (0 ∷ []) ∷ [] ∷ []

diamond_has_no_cycle : is_cyclic (row diamond) 4 3 ≡ false
unfolding diamond
diamond_has_no_cycle = refl

diamond_users : users_of diamond 0 ≡ 1 ∷ 2 ∷ []
unfolding diamond
diamond_users = refl

diamond_ready : ready_of diamond ≡ 0 ∷ []
unfolding diamond
diamond_ready = refl

-- one more than the sum of the dependencies' outcomes: the walks that begin at a node
diamond_outcome : outcome_of diamond (λ n. 100) (λ n us. 1 + sum us) 3 ≡ 5
unfolding diamond
diamond_outcome = refl

member_is_cyclic : is_cyclic (row pair) 4 1 ≡ true
unfolding pair
member_is_cyclic = refl

user_of_a_cycle_is_cyclic : is_cyclic (row pair) 4 2 ≡ true
unfolding pair
user_of_a_cycle_is_cyclic = refl

used_by_a_cyclic_node_alone : is_cyclic (row pair) 4 3 ≡ false
unfolding pair
used_by_a_cyclic_node_alone = refl

cyclic_outcome : outcome_of pair (λ n. 100) (λ n us. 1 + sum us) 2 ≡ 100
unfolding pair
cyclic_outcome = refl

itself_is_cyclic : is_cyclic (row loop) 2 0 ≡ true
unfolding loop
itself_is_cyclic = refl
