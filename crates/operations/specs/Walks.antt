-- Walks of `for` and of comprehensions, and unpacking. (Starlark's specification, "For loops" and
-- "Assignments"; that only lists, tuples and dicts are walked, and only lists and tuples unpacked,
-- is this project's own.)
use Rattle.std.specs.Prelude.{ℕ, List, Option, Some, None, Result, Ok, Err}
use Rattle.heap.specs.Cells.{walk_begun_at, walk_ended}
use Rattle.values.specs.Shape.{shape}
pub use Rattle.values.specs.Walks.{walked_items}
use Rattle.values.specs.declared.value.Value.{Value}
use Rattle.values.specs.declared.value.Value.TheVariants as value
use Rattle.values.specs.declared.cells.Cell.{Cell}
use Rattle.ticks.specs.declared.ticks.Kind.{Kind}
use Rattle.operations.specs.States.{Op, Doing, keeping}
use Rattle.operations.specs.Reading.{sequence_in, of_type}
use Rattle.operations.specs.declared.state.State.{State}

-- the items that are walked, and the heap that counts the walk
abbrev pub begun : List Value → State → Result (Option ℕ × List Cell) Kind → Doing (List Value)
begun vs s (Ok p) = Ok (vs, record s { heap = p.1 })
begun vs s (Err k) = Err k

-- a walk begins: its cell counts it, and can't be changed until it ends
abbrev pub begin : Value → Op (List Value)
begin v s = begun (walked_items (shape s.heap v)) s (walk_begun_at s.heap v)

-- the cell that counts the walks over a value, if there is one
abbrev pub counting_cell : Value → Option ℕ
counting_cell (value.Cell n) = Some n
counting_cell _ = None

-- the walk ends with its loop, also by `break` and `return`
abbrev pub ended : Value → State → State
ended v s = record s { heap = walk_ended s.heap (counting_cell v) }

-- the items of a sequence that is unpacked
abbrev pub parts : Value → Op (List Value)
parts v s = keeping (of_type (sequence_in (shape s.heap v)) Ok) s
