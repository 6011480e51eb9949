-- What a countdown of dependencies keeps, at each step. (This project's own.)
use Rattle.std.specs.Prelude.{◌≡◌, ℕ, suc, ◌<◌, Bool, true, not, ◌||◌, ◌&&◌, cond, List, [], ◌∷◌}
use Rattle.std.specs.Prelude.{length, take, filter, slice_index, nat_eq, ◌++◌, if◌then◌else◌}
use Rattle.std.specs.List.{IsDistinct, range_with_len}
use Rattle.edges.specs.Rows.{row, has}

-- how many pass
abbrev pub count : (ℕ → Bool) → List ℕ → ℕ
count p [] = 0
count p (x ∷ xs) = cond (p x) (suc (count p xs)) (count p xs)

-- what the counts say: `taken d v` where the edge from v to its dependency d is counted already
pub record Counting (deps : List (List ℕ)) (taken : ℕ → ℕ → Bool)
    (order left : List ℕ) : Type 0 where
  pub len : length left ≡ length deps
  pub counts : (v : ℕ) → v < length deps
      → slice_index left v ≡ count (λ d. not (taken d v)) (row deps v)
  pub zero_in : (v : ℕ) → v < length deps → slice_index left v ≡ 0 → has order v ≡ true
  pub in_zero : (v : ℕ) → has order v ≡ true → (v < length deps) × (slice_index left v ≡ 0)
  pub distinct : IsDistinct nat_eq order
  pub after : (i : ℕ) → i < length order → (d : ℕ) → has (row deps (slice_index order i)) d ≡ true
      → has (take i order) d ≡ true
  pub taken_in : (d v : ℕ) → taken d v ≡ true → has order d ≡ true

-- the edges counted when a node's users were gone through as far as `done`, after all those of the
-- nodes of `gone`
abbrev pub counted : List ℕ → ℕ → List ℕ → ℕ → ℕ → Bool
counted gone n done d v = has gone d || (nat_eq d n && has done v)

-- the places of the zeros
abbrev pub zeros : List ℕ → List ℕ
zeros ns = filter (λ n. nat_eq (slice_index ns n) 0) (range_with_len 0 (length ns))

-- the counts when all edges from the first `at` nodes in order are counted
abbrev pub CountedTo : List (List ℕ) → ℕ → List ℕ → List ℕ → Type 0
CountedTo deps at order left = Counting deps (λ d v. has (take at order) d) order left

-- the order when one dependency more of a node is counted: the node comes next where it was the
-- last
abbrev pub next_order : List ℕ → List ℕ → ℕ → List ℕ
next_order left order node = if nat_eq (slice_index left node) 1 then order ++ node ∷ [] else order
