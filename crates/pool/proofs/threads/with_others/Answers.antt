use Rattle.std.proofs.Common.{rules, arith, ◌≡◌, ◌+◌, true, length, sym, subst}
use Rattle.std.proofs.lemmas.List.Elements.{All-weaker}
use Rattle.board.specs.Views.{PassView, IsNew}
use Rattle.pool.specs.Ends.{IsFine, IsQuiet, IsGathering}
use Rattle.pool.proofs.Gathers.{gathering, fine_is_quiet, on_true, when_true}
use Rattle.pool.proofs.threads.with_others.Goals as goal

pub returns-clause-all : goal.returns-clause-all
returns-clause-all g c =
    let V : Type 0 = g.row.V.Denot in
    let b = c.args.site.now.board.now in
    let step = g.A.Analyse.step c.args.site.now.analyse.now in
    let fits = g.A.Analyse.fits c.args.site.now.analyse.now in
    let joined = c.join_all-back.ensures in
    let p : PassView V = c.run_worker-pass.result.0 in
    let ended = c.run_worker-pass.ensures in
    let well : c.join_all-back.result.1 ≡ true = search rules in
    let ends_well : c.ended_well.result ≡ true = search rules in
    let all : c.start_all-handles.result.1 ≡ true = search rules in
    let started = when_true _ _ _ c.start_all-handles.ensures.all all in
    let len = c.join_all-back.result.0.ok.0 in
    let fine : IsFine step fits b p = record { sound = ended.pass; ended = on_true _ _ (c.ended_well.ensures p.journal ended.ending) ends_well } in
    let new : IsNew b c.start_all-handles.new.own = subst (λ (q : PassView V). IsNew b q) (sym started.1) c.requires.own in
    let count : length c.join_all-back.result.0.items + 2 ≡ b.passes = omega (arith, len, joined.count, started.0, c.requires.passes.0) in
    let quiet = All-weaker (IsFine step fits b) (IsQuiet step fits b) (fine_is_quiet step fits b) c.join_all-back.result.0.items (on_true _ _ joined.fine well) in
    subst (IsGathering step fits b) (sym c.with_own.ensures)
    (gathering step fits b c.join_all-back.result.0.items c.start_all-handles.new.own p quiet fine count new)
