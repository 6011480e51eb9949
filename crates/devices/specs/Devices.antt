-- What devices tell of their bytes and of their failures (this project's own choice).
--
-- A device counts its failures: each error, an interrupted call too, and each write that takes none
-- of a piece that isn't empty. The count stays at the greatest `u64`.
use Rattle.std.specs.Prelude.{◌≡◌, ◌≤◌, ◌<◌, ◌+◌, ◌-◌, ◌^◌, ◌++◌, ℕ, Bool, true, false, List, []}
use Rattle.std.specs.Prelude.{length, take, min, Option, Result, MatchResult}
use Rattle.std.specs.Io.KnownBytes.{Appends, Consumes, IsAtEnd}

-- the count after one more failure
abbrev pub one_more : ℕ → ℕ
one_more n = min (n + 1) (2 ^ 64 - 1)

-- a call that fails counts, and no other
abbrev pub CountsFailure : {T E : Type 0} → ℕ → ℕ → Result T E → Type 0
CountsFailure old new r = MatchResult r (λ _. new ≡ old) (λ _. new ≡ one_more old)

-- a write that fails counts, and so does one that takes none of a piece that isn't empty; no other
-- write counts
abbrev pub CountsStall : {E : Type 0} → ℕ → ℕ → Result ℕ E → List ℕ → Type 0
CountsStall old new r piece = MatchResult r
    (λ n. ((0 < n → new ≡ old) × (length piece ≡ 0 → new ≡ old))
    × (n ≡ 0 → 0 < length piece → new ≡ one_more old))
    (λ _. new ≡ one_more old)

-- one call failed and no more: the count is one higher, or stays at the greatest `u64`
abbrev pub Failed : ℕ → ℕ → Type 0
Failed old new = new ≡ one_more old

-- the bytes bs came from a source and stand at the end of a text: some if `more` says so, and else
-- the source is at its end
pub record TakesMore (old new : Option (List ℕ)) (before after : List ℕ)
    (more : Bool) : Type 0 where
  pub bytes : List ℕ
  pub grown : after ≡ before ++ bytes
  pub taken : Consumes old new bytes
  pub some : more ≡ true → 0 < length bytes
  pub end : more ≡ false → (bytes ≡ []) × IsAtEnd new

-- a source gave this many bytes
abbrev pub GaveBytes : Option (List ℕ) → Option (List ℕ) → ℕ → Type 0
GaveBytes old new n = (bytes : List ℕ) × Consumes old new bytes × (length bytes ≡ n)

-- a source gave at most this many bytes
abbrev pub GaveAtMost : Option (List ℕ) → Option (List ℕ) → ℕ → Type 0
GaveAtMost old new most = (bytes : List ℕ) × Consumes old new bytes × (length bytes ≤ most)

-- a beginning of a text was written, perhaps none of it and perhaps all
abbrev pub WritesBeginning : Option (List ℕ) → Option (List ℕ) → List ℕ → Type 0
WritesBeginning old new text = (n : ℕ) × (n ≤ length text) × Appends old new (take n text)
