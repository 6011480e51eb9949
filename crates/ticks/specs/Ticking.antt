-- Ticks, visits, and how a call's answer agrees with what a definition gives. (docs/PROFILE.md,
-- "Ticks" and "Depth and size"; this project's own.)
use Rattle.std.specs.Prelude.{◌≡◌, ℕ, zero, suc, ◌+◌, Result, Ok, Err, MatchResult, if◌then◌else◌}
use Rattle.std.specs.Prelude.{nat_lt, ◌≤◌, ◌<◌, Bool, true, false}
use Rattle.ticks.specs.declared.ticks.Kind.{Kind}
use Rattle.ticks.specs.declared.ticks.Kind.TheVariants.{Steps, Deep}
use Rattle.ticks.specs.declared.ticks.Broken.{Broken}
use Rattle.ticks.specs.declared.ticks.Broken.TheVariants as broken

-- ticks used, of a limit
pub record Count : Type 0 where
  pub limit : ℕ
  pub used : ℕ

-- one more, or the fault `steps` where the limit is used up
abbrev pub ticked : Count → Result Count Kind
ticked c = if nat_lt c.used c.limit then Ok (record c { used = c.used + 1 }) else Err Steps

-- what follows a tick, which a fault of the tick cuts off
abbrev pub after_tick : {B : Type 0} → Result Count Kind → (Count → Result B Kind) → Result B Kind
after_tick (Ok c) f = f c
after_tick (Err k) f = Err k

-- a visit with this many levels left: a tick, and then `deep` where none is left
abbrev pub entered : ℕ → Count → Result Count Kind
entered zero c = after_tick (ticked c) (λ d. Err Deep)
entered (suc n) c = ticked c

-- so many ticks more, at once
abbrev pub spent : ℕ → Count → Count
spent n c = record c { used = c.used + n }

-- so many are used at once exactly where so many are left; else none is
abbrev pub Spends : Count → ℕ → Bool → Count → Type 0
Spends before n true now = (before.used + n ≤ before.limit) × (now ≡ spent n before)
Spends before n false now = (before.limit < before.used + n) × (now ≡ before)

-- a value with the ticks, or a fault
abbrev pub Ticking : Type 0 → Type 0
Ticking A = Result (A × Count) Kind

-- what follows a value, with the ticks used by then; a fault cuts it off
abbrev pub then_on : {A B : Type 0} → Ticking A → (A → Count → Ticking B) → Ticking B
then_on (Ok p) f = f p.0 p.1
then_on (Err k) f = Err k

-- an answer that took no tick, with the ticks as they are
abbrev pub with_count : {A : Type 0} → Result A Kind → Count → Ticking A
with_count (Ok x) c = Ok (x, c)
with_count (Err k) c = Err k

-- the fault of the definition, or want of memory, which may stand in place of any answer
abbrev pub FaultOr : {A : Type 0} → Result A Kind → Broken → Type 0
FaultOr r (broken.Kind k) = r ≡ Err k
FaultOr r broken.NoMemory = Unit {0}

-- A call that never answers want of memory (as its type says) answers what the definition gives,
-- with the ticks as they are then.
abbrev pub SaysKind : {A : Type 0} → Ticking A → Result A Kind → Count → Type 0
SaysKind r result now = MatchResult result (λ x. r ≡ Ok (x, now)) (λ k. r ≡ Err k)

-- A call answers what the definition gives, with the state as it is then, of which the definition
-- may know the ticks alone; or it answers want of memory.
abbrev pub Says : {A S : Type 0} → Result (A × S) Kind → Result A Broken → S → Type 0
Says r result now = MatchResult result (λ x. r ≡ Ok (x, now)) (λ e. FaultOr r e)

-- a call that changes a heap does what the definition gives, or leaves it as it was
abbrev pub Changes : {A H : Type 0} → Result (A × H) Kind → Result A Broken → H → H → Type 0
Changes r result old new =
    MatchResult result (λ x. r ≡ Ok (x, new)) (λ e. (new ≡ old) × FaultOr r e)
