-- What each step adds to the journal of the pass that makes it, and what it tells that pass.
-- (docs/ARCHITECTURE.md, "The board"; this project's own.)
use Rattle.std.specs.Prelude.{◌≡◌, ◌≢◌, ℕ, ◌+◌, ◌≤◌, true, false, List, [], ◌∷◌, length, Some}
use Rattle.atomic_table.specs.Table.{Me, Step}
use Rattle.board.specs.declared.journal.Journal.{Journal}
use Rattle.board.specs.Journal.{AtMost, IsUnbegun, MayWait, mark}
use Rattle.board.specs.Lawful.{NothingTwice, WasComplete}
use Rattle.board.specs.Rule.{blank}

-- the journal once the pass has started the node n: one more entry, in front
abbrev pub with_started : ℕ → Journal → Journal
with_started n j = record j { started = n ∷ j.started }

-- the journal once the pass has delivered the edge from d to u
abbrev pub with_delivered : ℕ → ℕ → Journal → Journal
with_delivered d u j = record j { delivered = (d, u) ∷ j.delivered }

-- the journal once the pass has readied the node n, with the last edge into it
abbrev pub with_readied : ℕ → Journal → Journal
with_readied n j = record j { readied = n ∷ j.readied }

-- the journal once the pass has finished the node n
abbrev pub with_finished : ℕ → Journal → Journal
with_finished n j = record j { finished = n ∷ j.finished }

-- the journal once the pass has seen the node n started, by whichever pass
abbrev pub with_seen : ℕ → Journal → Journal
with_seen n j = record j { seen = n ∷ j.seen }

-- the journal once the pass has found the count k, which replaces the one that it found before
abbrev pub with_least : ℕ → Journal → Journal
with_least k j = record j { least = Some k }

-- the journal once the pass has set the halt
abbrev pub with_set : Journal → Journal
with_set j = record j { set = true }

-- the journal once the pass has found the halt set
abbrev pub with_saw : Journal → Journal
with_saw j = record j { saw = true }

-- the first journal of a view, which for a pass at rest is its own
abbrev pub first_journal : List Journal → Journal
first_journal [] = blank []
first_journal (j ∷ js) = j

-- the first journal alone, as a view
abbrev pub head_of : List Journal → List Journal
head_of [] = []
head_of (j ∷ js) = j ∷ []

-- the view without its first journal: what is left of a seat when a pass has been split from it
abbrev pub tail_of : List Journal → List Journal
tail_of [] = []
tail_of (j ∷ js) = js

-- the view of a pass at rest is one journal
abbrev pub IsOne : List Journal → Type 0
IsOne v = v ≡ first_journal v ∷ []

-- what a seat knows of itself: its view, and the slots that it holds, of which a board has none
abbrev pub Mine : Type 0
Mine = Me (Unit {0}) (List Journal)

-- of a step that found a number, the view before and after
abbrev pub Told : (ℕ → Journal → List Journal → Type 0) → Mine → ℕ → Mine → Type 0
Told P m found m' = (m'.1 ≡ m.1) × P found (first_journal m.0) m'.0

-- a node's word was exchanged for the mark where it was 0; at the mark the pass saw the node
-- started, and at any other number an edge is missing
pub record TriedStart (n found : ℕ) (j : Journal) (w : List Journal) : Type 0 where
  pub took : found ≡ 0 → w ≡ with_started n j ∷ []
  pub fresh : found ≡ 0 → IsUnbegun n j
  pub complete : found ≡ 0 → WasComplete n j
  pub other : found ≡ mark → w ≡ with_seen n j ∷ []
  pub early : found ≢ 0 → found ≢ mark → (w ≡ j ∷ []) × MayWait j.plan n j

-- the edge from d to u was delivered, and u was readied where its word went to 0
pub record Delivered (d u found : ℕ) (j : Journal) (w : List Journal) : Type 0 where
  pub last : found ≡ 1 → w ≡ with_readied u (with_delivered d u j) ∷ []
  pub more : found ≢ 1 → w ≡ with_delivered d u j ∷ []

-- the count was found
pub record Counted (found : ℕ) (j : Journal) (w : List Journal) : Type 0 where
  pub lower : AtMost found j.least
  pub rest : found + length j.finished ≤ length j.plan
  pub now : w ≡ with_least found j ∷ []

-- the halt was found set or not
pub record HeardHalt (found : ℕ) (j : Journal) (w : List Journal) : Type 0 where
  pub is_set : found ≡ 1 → w ≡ with_saw j ∷ []
  pub unset : found ≢ 1 → (w ≡ j ∷ []) × (j.set ≡ false) × (j.saw ≡ false)

-- a node's word was the mark or not, and then this pass had neither started the node nor seen it
-- started
pub record LookedAt (n found : ℕ) (j : Journal) (w : List Journal) : Type 0 where
  pub started : found ≡ mark → w ≡ with_seen n j ∷ []
  pub unstarted : found ≢ mark → (w ≡ j ∷ []) × IsUnbegun n j

-- what the compare and exchange that tries to start a node tells its pass
abbrev pub starting : Step (Unit {0}) → Mine → ℕ → Mine → Type 0
starting st m found m' = Told (TriedStart st.word) m found m'

-- what the subtraction from the word of a user of d tells its pass: the edge is delivered
abbrev pub delivering : ℕ → Step (Unit {0}) → Mine → ℕ → Mine → Type 0
delivering d st m found m' = Told (Delivered d st.word) m found m'

-- what the subtraction from the count tells its pass: the node n is finished
abbrev pub finishing : ℕ → Step (Unit {0}) → Mine → ℕ → Mine → Type 0
finishing n st m found m' = Told (λ x j w. w ≡ with_finished n j ∷ []) m found m'

-- what a load of the count tells its pass
abbrev pub counting : Step (Unit {0}) → Mine → ℕ → Mine → Type 0
counting st m found m' = Told Counted m found m'

-- what the store to the halt tells its pass
abbrev pub halting : Step (Unit {0}) → Mine → ℕ → Mine → Type 0
halting st m found m' = Told (λ x j w. w ≡ with_set j ∷ []) m found m'

-- what a load of the halt tells its pass
abbrev pub hearing : Step (Unit {0}) → Mine → ℕ → Mine → Type 0
hearing st m found m' = Told HeardHalt m found m'

-- what a load of a node's word tells its pass
abbrev pub looking : Step (Unit {0}) → Mine → ℕ → Mine → Type 0
looking st m found m' = Told (LookedAt st.word) m found m'

-- a load by a seat with the journals of two passes, which tells that they did nothing twice
abbrev pub comparing : Step (Unit {0}) → Mine → ℕ → Mine → Type 0
comparing st m found m' = (m' ≡ m) × NothingTwice m.0
