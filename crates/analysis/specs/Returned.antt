-- Instances that were seen, and a set by which their providers are found. (docs/PROFILE.md,
-- "Implementations"; this project's own.)
use Rattle.std.specs.Prelude.{◌≡◌, ℕ, true, List, Option}
use Rattle.std.specs.Option.{option_cmp, option_map}
use Rattle.std.specs.BTreeSet.{BTreeSet, contains}
use Rattle.std.specs.Ordering.{nat_cmp, ordering_then}
use Rattle.std.specs.declared.cmp.Ordering.{Ordering}
use Rattle.values.specs.View.{FrozenTree}
use Rattle.leaves.specs.declared.leaf.MadeId.{MadeId}
use Rattle.leaves.specs.declared.leaf.Provider.{Provider}
use Rattle.targets.specs.Checks.{offers}
use Rattle.targets.specs.Steps.{are_instances}

-- the number of the module that made something, and its own there
abbrev pub made_numbers : Option MadeId → Option (ℕ × ℕ)
made_numbers made = option_map (λ m. (m.«module», m.number)) made

-- by which numbers a provider is found; `DefaultInfo`, which no module makes, has none
abbrev pub numbers : Provider → Option (ℕ × ℕ)
numbers p = made_numbers p.id

-- the order of such pairs: by the first number, then by the second
abbrev pub pair_cmp : ℕ × ℕ → ℕ × ℕ → Ordering
pair_cmp a b = ordering_then (nat_cmp a.0 b.0) (nat_cmp a.1 b.1)

-- and what has none comes first
abbrev pub numbers_cmp : Option (ℕ × ℕ) → Option (ℕ × ℕ) → Ordering
numbers_cmp = option_cmp pair_cmp

-- the set has just the numbers of the providers that these are instances of
abbrev pub HaveNumbers : List FrozenTree → BTreeSet (Option (ℕ × ℕ)) → Type 0
HaveNumbers ts seen = (p : Provider) → contains numbers_cmp seen (numbers p) ≡ offers ts p

-- values that are instances of different providers, and the set has just their providers' numbers
pub record AreReturned (ts : List FrozenTree) (seen : BTreeSet (Option (ℕ × ℕ))) : Type 0 where
  pub instances : are_instances ts ≡ true
  pub numbered : (p : Provider) → contains numbers_cmp seen (numbers p) ≡ offers ts p
