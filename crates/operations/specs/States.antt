-- The form of an operation: from a state to what it gives and the state after it, or to the kind of
-- its fault. A fault ends the evaluation, whose state is thrown away then. And how a call answers
-- an operation.
use Rattle.std.specs.Prelude.{◌≡◌, List, Result, Ok, Err, MatchResult}
use Rattle.ticks.specs.Ticking.{Count, ticked, FaultOr}
use Rattle.values.specs.declared.cells.Cell.{Cell}
use Rattle.ticks.specs.declared.ticks.Kind.{Kind}
use Rattle.ticks.specs.declared.ticks.Broken.{Broken}
use Rattle.operations.specs.declared.state.State.{State}

-- what an operation did: its answer and the state after it, or the kind of its fault
abbrev pub Doing : Type 0 → Type 0
Doing A = Result (A × State) Kind

-- an operation: from the state before it to what it does there
abbrev pub Op : Type 0 → Type 0
Op A = State → Doing A

-- one thing after the other, up to the first fault
abbrev pub then_do : {A B : Type 0} → Doing A → (A → Op B) → Doing B
then_do (Ok p) f = f p.0 p.1
then_do (Err k) f = Err k

-- the same, of what sees no state
abbrev pub then_give : {A B : Type 0} → Result A Kind → (A → Result B Kind) → Result B Kind
then_give (Ok a) f = f a
then_give (Err k) f = Err k

-- what is read of a state changes nothing
abbrev pub keeping : {A : Type 0} → Result A Kind → Op A
keeping (Ok a) s = Ok (a, s)
keeping (Err k) s = Err k

-- the heap alone is changed
abbrev pub with_heap : {A : Type 0} → State → Result (A × List Cell) Kind → Doing A
with_heap s (Ok p) = Ok (p.0, record s { heap = p.1 })
with_heap s (Err k) = Err k

-- the same, and a value is given that is known before
abbrev pub changed : {A : Type 0} → A → State → Result (List Cell) Kind → Doing A
changed a s (Ok h) = Ok (a, record s { heap = h })
changed a s (Err k) = Err k

-- ticks alone are spent
abbrev pub with_ticks : {A : Type 0} → State → Result (A × Count) Kind → Doing A
with_ticks s (Ok p) = Ok (p.0, record s { ticks = p.1 })
with_ticks s (Err k) = Err k

-- the ticks after one more, or the fault that there are no more
abbrev pub ticked_once : State → Result Count Kind → Doing (Unit {0})
ticked_once s (Ok c) = Ok (tt, record s { ticks = c })
ticked_once s (Err k) = Err k

-- one tick: the entry of a function, or one turn of a loop or of a comprehension. (This project's
-- own.)
abbrev pub tick : Op (Unit {0})
tick s = ticked_once s (ticked s.ticks)

-- the heap and the count of depsets are as they were
abbrev pub Stays : State → State → Type 0
Stays old new = (new.heap ≡ old.heap) × (new.depsets ≡ old.depsets)

-- A call does what the operation says: its answer and the state after it are what the operation
-- gives for the state before, or it answers the operation's fault or want of memory. After either
-- the heap and the count of depsets are as they were, and the rest of the state is open.
abbrev pub Does : {A : Type 0} → Op A → State → Result A Broken → State → Type 0
Does f old result new =
    MatchResult result (λ a. f old ≡ Ok (a, new)) (λ e. Stays old new × FaultOr (f old) e)

-- The same, of a call that never answers want of memory, as its type says.
abbrev pub DoesKind : {A : Type 0} → Op A → State → Result A Kind → State → Type 0
DoesKind f old result new =
    MatchResult result (λ a. f old ≡ Ok (a, new)) (λ k. Stays old new × (f old ≡ Err k))

-- A call that reads gives what is to be read.
abbrev pub Gives : {A : Type 0} → Result A Kind → Result A Broken → Type 0
Gives r result = MatchResult result (λ a. r ≡ Ok a) (λ e. FaultOr r e)

-- The same, of a call that never answers want of memory, as its type says.
abbrev pub GivesKind : {A : Type 0} → Result A Kind → Result A Kind → Type 0
GivesKind r result = MatchResult result (λ a. r ≡ Ok a) (λ k. r ≡ Err k)
