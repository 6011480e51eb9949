use Rattle.std.proofs.Common.{arith, ◌≡◌, ℕ, ◌+◌, sym, subst, add-one}
use Rattle.std.specs.List.{All}
use Rattle.std.proofs.lemmas.List.Elements.{All-push}
use Rattle.shelves.proofs.steal.StealShelf.ends_of.Goals as goal

pub loop-own-preserved : goal.loop-own-preserved
loop-own-preserved c =
    let was = c.loop-own.invariant in
    let step = c.in-Some.ensures.steps in
    let push = c.in_ok-push.ensures in
    record {
      whole = omega (arith, step.1, push.len, was.whole);
      links = omega (arith, step.1, c.in-Some-pop.ensures.len, was.links);
      told = λ k w low. let h = rw (step.0, add-one) at (was.told (k + 1) w (omega (arith, step.1))) in h;
      nodes = subst (All (λ (e : ℕ). e ≡ c.args.nodes)) (sym push.items) (All-push (λ (e : ℕ). e ≡ c.args.nodes) c.loop-own.ends.items c.made.result was.nodes c.made.ensures);
    }
