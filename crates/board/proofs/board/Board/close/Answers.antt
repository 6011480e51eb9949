use Rattle.std.proofs.Common.{rules, ◌≡◌, ◌∙◌, sym, ap, ◌++◌, map, length}
use Rattle.std.specs.Prelude.{Some}
use Rattle.std.proofs.lemmas.List.{length-map}
use Rattle.std.proofs.lemmas.List.Elements.{All-pop}
use Rattle.once_cell.specs.Once.{cell_name}
use Rattle.board.specs.Views.{BoardView, PassView, IsPassOf, journal_of}
use Rattle.board.proofs.Gathered.{gathered_all, journals_split, ends_so}
use Rattle.board.proofs.board.Board.close.Goals as goal

pub gather_all-seat-requires-clause-passes : goal.gather_all-seat-requires-clause-passes
gather_all-seat-requires-clause-passes g c k d lt =
    let both = All-pop (IsPassOf c.args.self) c.args.passes.items c.pop.new.self.items (Some c.in-Some.last) c.in-Some.ensures.items c.requires.all.1 in let q = both.0 k d lt in (
      q.0 ∙ sym (ap (λ (b : BoardView). b.table) c.self.view_is),
      q.1 ∙ sym both.1.1 ∙ sym (ap (λ (p : PassView g.row.V.Denot). p.memory.cells) c.last.view_is),
    )

pub of-requires : goal.of-requires
of-requires g c =
    let both = All-pop (IsPassOf c.args.self) c.args.passes.items c.pop.new.self.items (Some c.in-Some.last) c.in-Some.ensures.items c.requires.all.1 in let m = c.gather_all-seat.ensures.memory in (
      m.cells ∙ ap (λ (p : PassView g.row.V.Denot). p.memory.cells) c.last.view_is ∙ both.1.1 ∙ sym (ap (λ (b : BoardView). b.cells) c.self.view_is),
      ap length m.cells ∙ c.last.invariant.2 ∙ sym m.size,
    )

pub gather-requires-clause-other : goal.gather-requires-clause-other
gather-requires-clause-other g c =
    let both = All-pop (IsPassOf c.args.self) c.args.passes.items c.pop.new.self.items (Some c.in-Some.last) c.in-Some.ensures.items c.requires.all.1 in (
      ap (λ (p : PassView g.row.V.Denot). p.table) c.last.view_is ∙ both.1.0 ∙ sym (ap (λ (b : BoardView). b.table) c.self.view_is),
      c.last.invariant.1,
    )

pub close_table-left-requires-clause-all : goal.close_table-left-requires-clause-all
close_table-left-requires-clause-all g c =
    let V : Type 0 = g.row.V.Denot in
    let journals : c.gather.new.seat.me.0 ≡ map journal_of c.args.passes.items = c.gather.ensures.1 ∙ (λ i. c.gather_all-seat.ensures.seat.1 i ++ c.last.invariant.0 i)
    ∙ journals_split c.pop.new.self.items c.args.passes.items c.in-Some.last _ c.in-Some.ensures.items (ap (λ (p : PassView V). p.journal) c.last.view_is) in
    let a : length (map journal_of c.args.passes.items) ≡ length c.args.passes.items = simp length-map in ap length journals ∙ a ∙ c.requires.all.0 ∙ sym (ap (λ (b : BoardView). b.passes) c.self.view_is)

pub returns-clause-end : goal.returns-clause-end
returns-clause-end g c =
    let s = c.close_table-left.ensures in let V : Type 0 = g.row.V.Denot in
    let journals : c.gather.new.seat.me.0 ≡ map journal_of c.args.passes.items = c.gather.ensures.1 ∙ (λ i. c.gather_all-seat.ensures.seat.1 i ++ c.last.invariant.0 i)
    ∙ journals_split c.pop.new.self.items c.args.passes.items c.in-Some.last _ c.in-Some.ensures.items (ap (λ (p : PassView V). p.journal) c.last.view_is) in (
      s.0,
      ends_so c.self.inside.table.shared.key.plan c.args.self.plan _ c.len.result _ _ s.0 c.gather.new.seat.me.0 (map journal_of c.args.passes.items) c.of.result.left c.of.result.halted s.1
          (ap (λ (b : BoardView). b.plan) c.self.view_is) journals (search rules) s.2 s.3 c.of.ensures.1 (search rules),
    )

pub returns-clause-size : goal.returns-clause-size
returns-clause-size g c =
    let both = All-pop (IsPassOf c.args.self) c.args.passes.items c.pop.new.self.items (Some c.in-Some.last) c.in-Some.ensures.items c.requires.all.1 in let m = c.gather_all-seat.ensures.memory in
    let a : length (map cell_name c.self.inside.cells.items) ≡ length c.self.inside.cells.items = simp length-map in
    ap length c.of.ensures.0 ∙ m.size ∙ sym c.last.invariant.2 ∙ ap length (ap (λ (p : PassView g.row.V.Denot). p.memory.cells) c.last.view_is ∙ both.1.1 ∙ sym (ap (λ (b : BoardView). b.cells) c.self.view_is)) ∙ a
    ∙ sym c.self.invariant.0 ∙ ap (λ (b : BoardView). length b.plan) c.self.view_is

pub returns-clause-kept : goal.returns-clause-kept
returns-clause-kept g c =
    (gathered_all c.last.inside.memory c.gather_all-seat.new.memory c.pop.new.self.items c.args.passes.items c.in-Some.last c.of.result.known c.gather_all-seat.ensures.memory (ap (λ (p : PassView g.row.V.Denot). p.memory) c.last.view_is)
    c.in-Some.ensures.items c.of.ensures.0).0

pub returns-clause-only : goal.returns-clause-only
returns-clause-only g c =
    (gathered_all c.last.inside.memory c.gather_all-seat.new.memory c.pop.new.self.items c.args.passes.items c.in-Some.last c.of.result.known c.gather_all-seat.ensures.memory (ap (λ (p : PassView g.row.V.Denot). p.memory) c.last.view_is)
    c.in-Some.ensures.items c.of.ensures.0).1
