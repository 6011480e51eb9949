-- What a contract sees of a board, of a pass, and of a closed board. (This project's own.)
use Rattle.std.specs.Prelude.{IfSome, ◌≡◌, ℕ, ◌<◌, ◌⊎◌, slice_set, Bool, true, false, List, [], ◌∷◌}
use Rattle.std.specs.Prelude.{length, map, slice_index_or, Option, None, Some}
use Rattle.std.specs.List.{All}
use Rattle.atomic_table.specs.Seated.{TableId}
use Rattle.once_cell.specs.declared.race.note.Note.{Note}
use Rattle.once_cell.specs.Once.{Agrees}
use Rattle.board.specs.declared.journal.Journal.{Journal}
use Rattle.board.specs.Journal.{times, edge_times, IsUnbegun}
use Rattle.board.specs.Steps.{with_seen}
use Rattle.board.specs.Rule.{blank}

-- a board: which table and cells it has, its plan, and how many passes it was made with
pub record BoardView : Type 0 where
  pub table : TableId
  pub cells : List ℕ
  pub plan : List (List ℕ)
  pub passes : ℕ

-- the cells' names, and what is known of each
pub record MemoryView (V : Type 0) : Type 0 where
  pub cells : List ℕ
  pub known : List (Option V)

-- a pass: of which table it is, what it did and saw, and what it knows
pub record PassView (V : Type 0) : Type 0 where
  pub table : TableId
  pub journal : Journal
  pub memory : MemoryView V

-- a published node
pub record PublishedView : Type 0 where
  pub node : ℕ

-- a closed board: what some pass knew of each node, the count and the halt
pub record ClosedView (V : Type 0) : Type 0 where
  pub known : List (Option V)
  pub left : ℕ
  pub halted : Bool

module _ {V : Type 0} where
  -- whether a value is known
  abbrev pub is_known : Option V → Bool
  is_known None = false
  is_known (Some v) = true

  -- what the pass did and saw
  abbrev pub journal_of : PassView V → Journal
  journal_of p = p.journal

  -- there is something known, or nothing, of each cell
  abbrev pub IsLevel : MemoryView V → Type 0
  IsLevel m = length m.cells ≡ length m.known

  -- the second memory is of the same cells, and speaks of as many values
  abbrev pub SameCells : MemoryView V → MemoryView V → Type 0
  SameCells m m' = (m'.cells ≡ m.cells) × (length m'.known ≡ length m.known)

  -- what a memory knows of the node n
  abbrev pub known_at : MemoryView V → ℕ → Option V
  known_at m n = slice_index_or m.known n None

  -- the memory once the value v of the node n is known to it
  abbrev pub learned : MemoryView V → ℕ → V → MemoryView V
  learned m n v = record m { known = slice_set m.known n (Some v) }

  -- what the pass knows of the node n
  abbrev pub knows : PassView V → ℕ → Option V
  knows p n = known_at p.memory n

  -- what a closed board tells of the node n
  abbrev pub told : ClosedView V → ℕ → Option V
  told c n = slice_index_or c.known n None

  -- the pass with another journal
  abbrev pub with_journal : PassView V → Journal → PassView V
  with_journal p j = record p { journal = j }

  -- the pass once it has learned the value v of the node n
  abbrev pub with_known : PassView V → ℕ → V → PassView V
  with_known p n v = record p { memory = learned p.memory n v }

  -- the pass after it saw the node started
  abbrev pub saw_started : PassView V → ℕ → PassView V
  saw_started p n = with_journal p (with_seen n p.journal)

  -- a read that found no value: the pass saw the node started, or neither did so before nor started
  -- it
  abbrev pub FoundNothing : ℕ → PassView V → PassView V → Type 0
  FoundNothing n old new = ((new ≡ old) × IsUnbegun n old.journal) ⊎ (new ≡ saw_started old n)

  -- a read that found the value: the pass knows it, and may have seen the node started
  abbrev pub FoundValue : ℕ → V → PassView V → PassView V → Type 0
  FoundValue n v old new =
      (new ≡ with_known old n v) ⊎ (new ≡ with_known (saw_started old n) n v)

  -- the pass is of this board
  abbrev pub IsPassOf : BoardView → PassView V → Type 0
  IsPassOf b p = (p.table ≡ b.table) × (p.memory.cells ≡ b.cells) × (p.journal.plan ≡ b.plan)

  -- the pass is of this board, and has done, seen and learned nothing
  abbrev pub IsNew : BoardView → PassView V → Type 0
  IsNew b p = IsPassOf b p × (p.journal ≡ blank b.plan)
      × (length p.memory.known ≡ length b.cells) × ((n : ℕ) → knows p n ≡ None)

  -- the pass published the node, and has not finished it
  pub record IsHeld (p : PassView V) (n : ℕ) : Type 0 where
    pub started : 0 < times n p.journal.started
    pub known : is_known (knows p n) ≡ true
    pub unended : times n p.journal.finished ≡ 0

  -- the pass has delivered no edge from the node
  abbrev pub IsUnsent : PassView V → ℕ → Type 0
  IsUnsent p n = (u : ℕ) → edge_times n u p.journal.delivered ≡ 0

  -- a pass started or saw started what it knows, and knows what it finished or delivered from
  pub record IsBacked (j : Journal) (m : MemoryView V) : Type 0 where
    pub backed : (n : ℕ) → is_known (known_at m n) ≡ true
        → (0 < times n j.started) ⊎ (0 < times n j.seen)
    pub ended : (n : ℕ) → 0 < times n j.finished → is_known (known_at m n) ≡ true
    pub gave : (d u : ℕ) → 0 < edge_times d u j.delivered → is_known (known_at m d) ≡ true

  -- what was known stays known
  abbrev pub Keeps : (ℕ → Option V) → (ℕ → Option V) → Type 0
  Keeps before after = (n : ℕ) (v : V) → before n ≡ Some v → after n ≡ Some v

  -- where both know a value, it is the same
  abbrev pub Agree : (ℕ → Option V) → (ℕ → Option V) → Type 0
  Agree a b = (n : ℕ) (v w : V) → a n ≡ Some v → b n ≡ Some w → v ≡ w

  -- some of these passes knows the node
  abbrev pub Knower : ℕ → List (PassView V) → Type 0
  Knower n [] = ⊥
  Knower n (p ∷ ps) = (is_known (knows p n) ≡ true) ⊎ Knower n ps

  -- the cells that these notes are of
  abbrev pub cells_of : List (Note V) → List ℕ
  cells_of ns = map (λ n. n.cell) ns

  -- what these notes know of their cells
  abbrev pub knowns_of : List (Note V) → List (Option V)
  knowns_of ns = map (λ n. n.known) ns

  -- where both know a value of one node, it is the same
  abbrev pub Same : Option V → Option V → Type 0
  Same a b = IfSome b (Agrees a)

  -- where both know a value of a node below k, it is the same
  abbrev pub AgreeBelow : ℕ → List (Option V) → List (Option V) → Type 0
  AgreeBelow k a b = (n : ℕ) → n < k → Same (slice_index_or a n None) (slice_index_or b n None)

  -- c knows what a or b knows, with that value
  abbrev pub Union : Option V → Option V → Option V → Type 0
  Union a b c = IfSome a (λ x. c ≡ Some x) × IfSome b (λ x. c ≡ Some x)
      × (is_known c ≡ true → (is_known a ≡ true) ⊎ (is_known b ≡ true))

  -- m' knows what m and the passes know, together
  pub record IsGathered (m : MemoryView V) (ps : List (PassView V))
      (m' : MemoryView V) : Type 0 where
    pub cells : m'.cells ≡ m.cells
    pub size : length m'.known ≡ length m.known
    pub own : Keeps (known_at m) (known_at m')
    pub kept : All (λ p. Keeps (knows p) (known_at m')) ps
    pub only : (n : ℕ) → is_known (known_at m' n) ≡ true
        → (is_known (known_at m n) ≡ true) ⊎ Knower n ps
