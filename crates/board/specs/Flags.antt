-- Flags of nodes as bits, and what they say of the values that are known. (This project's own.)
use Rattle.std.specs.Prelude.{◌≡◌, ℕ, ◌*◌, ◌/◌, ◌%◌, ◌<◌, ◌≤◌, Bool, List, length, eqb, Option}
use Rattle.std.specs.Prelude.{None, slice_index, slice_index_or}
use Rattle.std.specs.Int.{bit_at}
use Rattle.board.specs.Views.{is_known}

-- the flag of node n is bit n % 64 of word n / 64
abbrev pub is_up : List ℕ → ℕ → Bool
is_up words n = eqb (bit_at (slice_index words (n / 64)) (n % 64)) 1

-- each node has a flag, which is up exactly where its value is known
pub record Tracks {V : Type 0} (flags : List ℕ) (known : List (Option V)) : Type 0 where
  pub room : length known ≤ 64 * length flags
  pub same : (n : ℕ) → n < length known → is_up flags n ≡ is_known (slice_index_or known n None)
