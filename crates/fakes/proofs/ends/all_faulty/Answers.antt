use Rattle.std.proofs.Common.{arith, ◌≡◌, ℕ, sym, subst}
use Rattle.std.specs.List.{All}
use Rattle.std.proofs.lemmas.List.Elements.{All-rest, All-push}
use Rattle.fakes.proofs.ends.all_faulty.Goals as goal

pub loop-end-preserved : goal.loop-end-preserved
loop-end-preserved g c =
    let was = c.loop-end.invariant in
    let step = c.in-Some.ensures.steps in
    let push = c.in_ok-push.ensures in
    record {
      can_next = tt;
      is_finite = tt;
      whole = omega (arith, step.1, push.len, was.whole);
      left = All-rest (λ e. g.S.Shelf.nodes e ≡ c.args.nodes) c.in-Some.end _ _ step.0 was.left;
      done = subst (All (λ (e : ℕ). e ≡ c.args.nodes)) (sym push.items) (All-push (λ (e : ℕ). e ≡ c.args.nodes) c.loop-end.all.items c.at_fault.result was.done c.at_fault.ensures);
    }
