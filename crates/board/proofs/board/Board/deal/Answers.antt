use Rattle.std.proofs.Common.{◌≡◌, ◌∙◌, sym, ap, List, length, map, ℕ, get_or}
use Rattle.std.proofs.lemmas.List.{length-map}
use Rattle.std.specs.Prelude.{Option, None}
use Rattle.once_cell.specs.Once.{cell_name}
use Rattle.board.specs.declared.journal.Journal.{Journal}
use Rattle.board.specs.Views.{known_at, BoardView}
use Rattle.board.proofs.Backed.{none_at, backed_new, head_is, one_is, rest_is}
use Rattle.board.proofs.board.Board.deal.Goals as goal

abbrev nothing : (V : Type 0) → Option V
nothing V = None

pub invariant_of-result : goal.invariant_of-result
invariant_of-result g c =
    let e = c.requires.more.1 in let one = one_is _ _ (c.split_first-seat.ensures.first.1 ∙ head_is _ _ _ e) in let m = c.in_ok-memory.memory in let o = c.in_ok-memory.ensures in
    let none : (n : ℕ) → known_at m n ≡ None = λ n. ap (λ (k : List (Option g.row.V.Denot)). get_or k n None) o.1 ∙ none_at c.as_slice.result.now n in (
      one.0,
      c.split_first-seat.ensures.first.2,
      ap length o.0 ∙ (let a : length (map cell_name c.as_slice.result.now) ≡ length c.as_slice.result.now = simp length-map in a) ∙ sym (ap length o.1 ∙ (let b : length (map (λ _. nothing g.row.V.Denot) c.as_slice.result.now) ≡ length c.as_slice.result.now = simp length-map in b)),
      backed_new c.args.self.now.plan _ m one.1 none,
    )

pub returns-clause-ok : goal.returns-clause-ok
returns-clause-ok g c =
    let e = c.requires.more.1 in let one = one_is _ _ (c.split_first-seat.ensures.first.1 ∙ head_is _ _ _ e) in let m = c.in_ok-memory.memory in let o = c.in_ok-memory.ensures in
    let none : (n : ℕ) → known_at m n ≡ None = λ n. ap (λ (k : List (Option g.row.V.Denot)). get_or k n None) o.1 ∙ none_at c.as_slice.result.now n in
    let w : map cell_name c.self.inside.cells.items ≡ c.args.self.now.cells = ap (λ (b : BoardView). b.cells) c.self.view_is in
    let cells : m.cells ≡ c.args.self.now.cells = o.0 ∙ ap (map cell_name) c.as_slice.ensures.value ∙ w in (
      (
        (c.split_first-seat.ensures.first.0 ∙ ap (λ (b : BoardView). b.table) c.self.view_is, cells, ap (λ (h : Journal). h.plan) one.1),
        one.1,
        ap length o.1 ∙ (let b : length (map (λ _. nothing g.row.V.Denot) c.as_slice.result.now) ≡ length c.as_slice.result.now = simp length-map in b) ∙ sym (let a : length (map cell_name c.as_slice.result.now) ≡ length c.as_slice.result.now = simp length-map in a) ∙ ap length (sym o.0 ∙ cells),
        none,
      ),
      rest_is _ _ _ _ e c.split_first-seat.ensures.seat.1,
    )
