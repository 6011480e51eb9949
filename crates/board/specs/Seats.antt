-- What is said of seats. A seat is a token that steps are made with; its view is a list of
-- journals, of which a pass at rest has one. (This project's own.)
use Rattle.std.specs.Prelude.{◌≡◌, ℕ, ◌+◌, List, [], length}
use Rattle.atomic_table.specs.Seated.{TableId}
use Rattle.atomic_table.specs.declared.shared.Seat.{Seat}
use Rattle.board.specs.declared.journal.Journal.{Journal}
use Rattle.board.specs.Steps.{first_journal, IsOne}

-- a seat as a contract sees it: it holds no slot of the table, since a board's table has none
abbrev pub SeatView : Type 0
SeatView = Seat (Unit {0}) (List Journal)

-- the journal of the pass that has this seat
abbrev pub journal_of_seat : SeatView → Journal
journal_of_seat s = first_journal s.me.0

-- the seat is of this table, and has the journal of one pass
abbrev pub IsSeatOf : TableId → SeatView → Type 0
IsSeatOf t s = (s.table_id ≡ t) × IsOne s.me.0

-- what a step leaves of a pass's seat: it is of the same table, with one journal, which may have
-- grown
abbrev pub StaysSeated : SeatView → SeatView → Type 0
StaysSeated old new = (new.table_id ≡ old.table_id) × IsOne new.me.0 × (new.me.1 ≡ old.me.1)

-- the seat is of this table, with these journals in its view
abbrev pub HasJournals : TableId → List Journal → SeatView → Type 0
HasJournals t js s = (s.table_id ≡ t) × (s.me.0 ≡ js) × (s.me.1 ≡ [])

-- the seat was left with these journals in its view
abbrev pub LeftWith : List Journal → SeatView → SeatView → Type 0
LeftWith js old new = (new.table_id ≡ old.table_id) × (new.me.0 ≡ js) × (new.me.1 ≡ old.me.1)

-- the table has a word for each node of the plan, one for the count and one for the halt
abbrev pub HasWordsFor : List (List ℕ) → TableId → Type 0
HasWordsFor plan t = t.words ≡ length plan + 2

-- these are the nodes of the plan, and the table has the words for it
abbrev pub IsSized : ℕ → List (List ℕ) → TableId → Type 0
IsSized nodes plan t = (nodes ≡ length plan) × HasWordsFor plan t
