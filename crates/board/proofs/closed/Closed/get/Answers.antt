use Rattle.std.proofs.Common.{◌≡◌, ◌<◌, ℕ, List, length, map, get_or, ap, ◌∙◌, arith}
use Rattle.std.specs.Prelude.{Option}
use Rattle.std.proofs.lemmas.List.{length-map}
use Rattle.once_cell.specs.Once.{cell_name}
use Rattle.board.specs.Views.{ClosedView, MemoryView, IsLevel}
use Rattle.board.proofs.Backed.{mapped_at}
use Rattle.board.proofs.closed.Closed.get.Goals as goal

within : {V X : Type 0} (f : X → ℕ) (items : List X) (m : MemoryView V) (known : List (Option V)) (n : ℕ) → m.cells ≡ map f items → IsLevel m → m.known ≡ known → n < length known → n < length items
within f items m known n cells level same lt = let a : length (map f items) ≡ length items = simp length-map in let b = ap length cells in let c = ap length same in omega arith

pub index-cell-requires : goal.index-cell-requires
index-cell-requires g c =
    let low = within cell_name c.self.inside.cells.items c.self.inside.memory c.args.self.now.known c.args.n c.self.invariant.0 c.self.invariant.1 (ap (λ (v : ClosedView g.row.V.Denot). v.known) c.self.view_is) c.requires.node in
    omega (arith, low, c.self.inside.cells.ok.0)

pub get_as-requires : goal.get_as-requires
get_as-requires g c =
    let low = within cell_name c.self.inside.cells.items c.self.inside.memory c.args.self.now.known c.args.n c.self.invariant.0 c.self.invariant.1 (ap (λ (v : ClosedView g.row.V.Denot). v.known) c.self.view_is) c.requires.node in
    c.tell.ensures.0 ∙ ap (λ (l : List ℕ). get_or l c.args.n 0) c.self.invariant.0 ∙ mapped_at cell_name c.self.inside.cells.items c.args.n c.index-cell.result.now low c.index-cell.ensures
