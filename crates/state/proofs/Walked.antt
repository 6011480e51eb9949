-- A walk over a value in which nothing is counted: the state stays as it is.
use Rattle.std.proofs.Common.{◌≡◌, Ok, Err, refl, ap}
use Rattle.std.specs.Prelude.{None}
use Rattle.heap.specs.Cells.{walk_begun_at}
use Rattle.values.specs.Shape.{shape}
use Rattle.values.specs.declared.value.Value.{Value}
use Rattle.ticks.specs.declared.ticks.Kind.{Kind}
use Rattle.operations.specs.States.{Stays}
use Rattle.operations.specs.Walks.{begin, begun, walked_items}
use Rattle.operations.specs.declared.state.State.{State}

pub uncounted : (v : Value) (s : State) → walk_begun_at s.heap v ≡ Ok (None, s.heap) → begin v s ≡ Ok (walked_items (shape s.heap v), s)
uncounted v s h = ap (begun (walked_items (shape s.heap v)) s) h

pub uncounted_fault : (v : Value) (s : State) (k : Kind) → walk_begun_at s.heap v ≡ Err k → Stays s s × (begin v s ≡ Err k)
uncounted_fault v s k h = ((refl, refl), ap (begun (walked_items (shape s.heap v)) s) h)
