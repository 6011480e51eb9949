use Rattle.std.proofs.Common.{rules, arith, ◌≡◌, ◌+◌, true, length, sym, subst}
use Rattle.std.specs.Prelude.{Some}
use Rattle.std.proofs.lemmas.List.Elements.{All-pop, All-weaker}
use Rattle.board.specs.Views.{PassView, IsNew}
use Rattle.pool.specs.Ends.{IsFine, IsQuiet, IsGathering}
use Rattle.pool.proofs.Gathers.{gathering, new_is_quiet, on_true}
use Rattle.pool.proofs.threads.in_scope.Goals as goal

pub work_alone-requires-clause-pass : goal.work_alone-requires-clause-pass
work_alone-requires-clause-pass g c κs within =
    let b = c.args.site.now.board.now in
    let step = g.A.Analyse.step c.args.site.now.analyse.now in
    let fits = g.A.Analyse.fits c.args.site.now.analyse.now in
    let popped = c.in-Some-Some-Some in
    let rest = (All-pop (IsNew b) c.args.passes.items c.pop-2.new.self.items (Some popped.own) popped.ensures'.items c.requires.new).0 in
    new_is_quiet step fits b popped.pass (All-pop (IsNew b) c.pop-2.new.self.items c.pop-3.new.self.items (Some popped.pass) popped.ensures''.items rest).1

pub with_others-requires-clause-ends : goal.with_others-requires-clause-ends
with_others-requires-clause-ends g c κs within =
    let popped = c.in-Some-Some-Some in
    (All-pop (λ e. g.S.Shelf.nodes e ≡ length c.args.site.now.graph.now.deps) c.args.ends.items c.pop.new.self.items (Some popped.end) popped.ensures.items c.requires.shelves).0

pub with_others-requires-clause-passes : goal.with_others-requires-clause-passes
with_others-requires-clause-passes g c κs within =
    let b = c.args.site.now.board.now in
    let popped = c.in-Some-Some-Some in
    let rest = (All-pop (IsNew b) c.args.passes.items c.pop-2.new.self.items (Some popped.own) popped.ensures'.items c.requires.new).0 in (
      omega (arith, popped.ensures'.len, popped.ensures''.len, c.args.passes.ok.0, c.requires.all),
      (All-pop (IsNew b) c.pop-2.new.self.items c.pop-3.new.self.items (Some popped.pass) popped.ensures''.items rest).0,
    )

pub with_others-requires-clause-own : goal.with_others-requires-clause-own
with_others-requires-clause-own g c κs within =
    let popped = c.in-Some-Some-Some in
    (All-pop (IsNew c.args.site.now.board.now) c.args.passes.items c.pop-2.new.self.items (Some popped.own) popped.ensures'.items c.requires.new).1

pub returns-in-Some-clause-all : goal.returns-in-Some-clause-all
returns-in-Some-clause-all g c =
    let V : Type 0 = g.row.V.Denot in
    let b = c.args.site.now.board.now in
    let step = g.A.Analyse.step c.args.site.now.analyse.now in
    let fits = g.A.Analyse.fits c.args.site.now.analyse.now in
    let popped = c.in-Some-Some-Some in
    let first = All-pop (IsNew b) c.args.passes.items c.pop-2.new.self.items (Some popped.own) popped.ensures'.items c.requires.new in
    let second = All-pop (IsNew b) c.pop-2.new.self.items c.pop-3.new.self.items (Some popped.pass) popped.ensures''.items first.0 in
    let p : PassView V = c.work_alone.new.pass in
    let ends_well : c.ended_well.result ≡ true = search rules in
    let fine : IsFine step fits b p = record { sound = c.work_alone.ensures.pass; ended = on_true _ _ (c.ended_well.ensures p.journal c.in-Some.ensures.ending) ends_well } in
    let count : length c.pop-3.new.self.items + 2 ≡ b.passes = omega (arith, popped.ensures'.len, popped.ensures''.len, c.pop-3.new.self.ok.0, c.args.passes.ok.0, c.requires.all) in
    let quiet = All-weaker (IsNew b) (IsQuiet step fits b) (new_is_quiet step fits b) c.pop-3.new.self.items second.0 in
    subst (IsGathering step fits b) (sym c.with_own.ensures)
    (gathering step fits b c.pop-3.new.self.items popped.own p quiet fine count first.1)
