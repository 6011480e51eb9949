-- What calls of a function made, at the places of a list. (This project's own.)
use Rattle.std.specs.Prelude.{◌≡◌, ℕ, ◌<◌, List, length, slice_index_or, Option, Some, None, Result}
use Rattle.std.specs.Prelude.{Ok, IfOk, Vec}
use Rattle.std.specs.List.{All}
use Rattle.std.specs.Fn.{FnReturns}
use denote.Param.Members.{Shared}

module _ {F X E : Type 0} (g : Shared F (ℕ × Unit {0}) (Result X E)) (f : F) where
  -- x is what a call of f at a place may give
  abbrev pub MayGive : ℕ → X → Type 0
  MayGive i x = FnReturns g f (i, tt) (Ok x)

  -- a place, and what a call of f there may give
  abbrev pub AreMade : List (ℕ × X) → Type 0
  AreMade = All (λ m. MayGive m.0 m.1)

  -- what threads made, each a list of such places; a list may be missing
  abbrev pub AreListsMade : {A D : Type 0} → List (Result (Vec (ℕ × X) A) D) → Type 0
  AreListsMade = All (λ l. IfOk l (λ made. AreMade made.items))

  -- a slot is empty, or has what a call of f at its place may give
  abbrev pub FitsSlot : ℕ → Option X → Type 0
  FitsSlot i None = Unit
  FitsSlot i (Some x) = MayGive i x

  -- each slot is empty, or has what a call of f at its place may give
  abbrev pub FitSlots : List (Option X) → Type 0
  FitSlots os = (i : ℕ) (d : Option X) → i < length os → FitsSlot i (slice_index_or os i d)

  -- each item is what a call of f at its place may give
  abbrev pub AreGiven : List X → Type 0
  AreGiven xs =
      (i : ℕ) (d : X) → i < length xs
      → (slice_index_or xs i d ≡ slice_index_or xs i d) × MayGive i (slice_index_or xs i d)
