use Rattle.std.proofs.Common.{◌≡◌, ℕ, ap, ◌∙◌}
use Rattle.std.specs.Prelude.{Some}
use Rattle.board.specs.Steps.{with_finished}
use Rattle.board.specs.Views.{PassView, PublishedView, MemoryView, known_at, knows, with_journal, Keeps}
use Rattle.pool.specs.Settled.{IsSound}
use Rattle.pool.proofs.Settles.{keeps_new, stepped_keeps, sound_keeps, sound_finished}
use Rattle.pool.proofs.worker.complete.Goals as goal

pub returns-in_ok-has_more-in-Ok-clause-pass : goal.returns-in_ok-has_more-in-Ok-clause-pass
returns-in_ok-has_more-in-Ok-clause-pass g c =
    let V : Type 0 = g.row.V.Denot in
    let step = g.A.Analyse.step c.args.site.now.analyse.now in
    let fits = g.A.Analyse.fits c.args.site.now.analyse.now in
    let b = c.args.site.now.board.now in
    let n : ℕ = c.args.n in
    let p0 : PassView V = c.args.pass.now in
    let p1 : PassView V = c.publish.new.pass in
    let p2 : PassView V = c.deliver_all.new.pass in
    let k01 : Keeps (knows p0) (knows p1) = keeps_new (knows p0) (knows p1) n c.requires.started.1 c.publish.ensures.others in
    let k12 : Keeps (knows p1) (knows p2) = λ m v e. ap (λ (z : MemoryView V). known_at z m) c.deliver_all.ensures.memory ∙ e in
    let s1 : IsSound step fits b p1 = sound_keeps step fits b p0 p1 c.publish.ensures.of k01 (ap (λ (z : PassView V). z.journal.finished) c.in-Ok.ensures.ok) c.requires.pass in
    let s2 : IsSound step fits b p2 = sound_keeps step fits b p1 p2 c.deliver_all.ensures.of k12 c.deliver_all.ensures.finished s1 in
    let own : knows p2 n ≡ Some c.args.value = k12 n c.args.value c.in-Ok.ensures.value in
    let stepped = stepped_keeps step fits b.plan (knows p0) (knows p2) n c.args.value (λ m v e. k12 m v (k01 m v e)) c.requires.stepped in
    let node : c.deliver_all.new.published.node ≡ n = ap (λ (z : PublishedView). z.node) c.deliver_all.ensures.same ∙ c.in-Ok.ensures.held.0 in
    sound_finished step fits b p2 c.finish.new.pass n c.args.value c.finish.ensures.of (c.finish.ensures.pass ∙ ap (λ (k : ℕ). with_journal p2 (with_finished k p2.journal)) node) own stepped s2
