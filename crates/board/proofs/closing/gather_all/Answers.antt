use Rattle.std.proofs.Common.{rules, ◌∙◌, ap, subst, refl, ℕ, [], ◌∷◌, ◌++◌}
use Rattle.board.specs.Views.{PassView, known_at, knows, Union}
use Rattle.board.proofs.Gathered.{gathered_more, journals_split}
use Rattle.board.proofs.closing.gather_all.Goals as goal

pub loop-pass-preserved : goal.loop-pass-preserved
loop-pass-preserved g c =
    let P : PassView g.row.V.Denot → Type 0 = λ p. (n : ℕ) → Union (known_at c.loop-pass.memory n) (knows p n) (known_at c.merge.new.self n) in
    record {
      seat = (
        search rules,
        search rules,
        c.gather.ensures.1 ∙ (λ i. c.loop-pass.invariant.seat.2 i ++ c.pass.invariant.0 i)
            ∙ journals_split c.loop-pass.yielded (c.loop-pass.yielded ++ c.in-Some.pass ∷ []) c.in-Some.pass _ refl (ap (λ (p : PassView g.row.V.Denot). p.journal) c.pass.view_is),
      );
      memory = gathered_more c.args.memory.now c.loop-pass.memory c.merge.new.self c.loop-pass.yielded c.in-Some.pass c.loop-pass.invariant.memory c.merge.ensures.cells (subst P c.pass.view_is c.merge.ensures.known);
    }
