use Rattle.std.proofs.Common.{arith, ◌∙◌, ◌<◌, sym, subst}
use Rattle.std.specs.List.{All}
use Rattle.std.proofs.lemmas.List.Elements.{All-push}
use Rattle.board.specs.Views.{IsNew}
use Rattle.board.proofs.Backed.{peel_blanks}
use Rattle.board.proofs.board.Board.deal_all.Goals as goal

pub loop-preserved : goal.loop-preserved
loop-preserved g c =
    let l = c.loop.invariant.left in let t = c.loop-test.true in let lt : 0 < l.0 = omega arith in
    let p = peel_blanks c.args.self.now.plan l.0 c.loop.seat.me.0 c.deal.new.seat.me.0 l.2 lt c.in_ok-deal.ensures.ok.1 in
    let made = c.loop.invariant.made in
    let items = c.in_ok-push.ensures.items in
    record {
      left = (p.0, omega arith, p.2);
      place = (c.deal.ensures.seat.0 ∙ c.loop.invariant.place.0, c.deal.ensures.seat.1);
      made = (
        omega (arith, c.in_ok-push.ensures.len, c.loop.all.ok.0, c.push.new.self.ok.0, made.0),
        subst (All (IsNew c.args.self.now)) (sym items) (All-push (IsNew c.args.self.now) c.loop.all.items _ made.1 c.in_ok-deal.ensures.ok.0),
      );
    }
