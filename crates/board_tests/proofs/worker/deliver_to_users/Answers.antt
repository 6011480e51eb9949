use Rattle.std.proofs.Common.{◌≡◌, ◌≢◌, ℕ, ◌<◌, ◌≤◌, List, get_or, sym, refl, ap, ◌∙◌, subst, arith}
use mathlib.Core.Logic.{dite}
use native.Mathlib.Decide.{ℕ_discrete}
use Rattle.board.specs.Journal.{times, edge_times, deps}
use Rattle.board.specs.Views.{IsHeld, PublishedView}
use Rattle.board_tests.proofs.Places.{times_some, times_at, apart}
use Rattle.board_tests.proofs.worker.deliver_to_users.Goals as goal

pub deliver-requires-clause-edge : goal.deliver-requires-clause-edge
deliver-requires-clause-edge g c =
    let us : List ℕ = c.users-users.result.now in let u : ℕ = get_or us c.loop-i.i 0 in
    let here : 0 < times u us = times_some us u c.loop-i.i c.loop-i-test.true refl in
    let edge = c.users-users.ensures.graph.using c.args.n u (subst (λ (l : List ℕ). 0 < times u l) c.users-users.ensures.value here) in
    let node : c.loop-i.published.node ≡ c.args.n = ap (λ (p : PublishedView). p.node) c.loop-i.invariant.same ∙ c.requires.node.1 in
    subst (λ (n : ℕ). 0 < times n (deps c.args.board.now.plan u)) (sym node) (subst (λ (p : List (List ℕ)). 0 < times c.args.n (deps p u)) (sym c.requires.pass.1) edge)

pub loop-i-preserved : goal.loop-i-preserved
loop-i-preserved g c =
    let us : List ℕ = c.users-users.result.now in let i : ℕ = c.loop-i.i in let n : ℕ = c.args.n in let lt = c.loop-i-test.true in
    let was : List (ℕ × ℕ) = c.loop-i.pass.journal.delivered in let now : List (ℕ × ℕ) = c.deliver.new.pass.journal.delivered in
    let node : c.loop-i.published.node ≡ n = ap (λ (p : PublishedView). p.node) c.loop-i.invariant.same ∙ c.requires.node.1 in
    let once : (x : ℕ) → times x us ≤ 1 = λ x. subst (λ (l : List ℕ). times x l ≤ 1) (sym c.users-users.ensures.value) (c.users-users.ensures.graph.users_distinct n x) in
    let sent : 0 < edge_times n (get_or us i 0) now = subst (λ (m : ℕ). 0 < edge_times m (get_or us i 0) now) node c.deliver.ensures.sent in
    let others : (u : ℕ) → u ≢ get_or us i 0 → edge_times n u now ≡ edge_times n u was = λ u ne. subst (λ (m : ℕ). edge_times m u now ≡ edge_times m u was) node (c.deliver.ensures.others u ne) in
    record {
      pass = c.deliver.ensures.of;
      held = subst (IsHeld c.deliver.new.pass) node c.deliver.ensures.held;
      same = c.deliver.ensures.same ∙ c.loop-i.invariant.same;
      sent = λ k l. dite (ℕ_discrete k i) (λ e. subst (λ (j : ℕ). 0 < edge_times n (get_or us j 0) now) (sym e) sent)
          (λ ne. let o = others (get_or us k 0) (apart us once k i (omega arith) lt) in let s = c.loop-i.invariant.sent k (omega arith) in omega arith);
      unsent = λ k le l. let o = others (get_or us k 0) (λ q. apart us once i k (omega arith) l (sym q)) in let s = c.loop-i.invariant.unsent k (omega arith) l in o ∙ s;
    }

pub returns-clause-whole : goal.returns-clause-whole
returns-clause-whole g c u p =
    let us : List ℕ = c.users-users.result.now in let used = c.users-users.ensures.graph.used u c.args.n p in
    let at = times_at us u (subst (λ (l : List ℕ). 0 < times u l) (sym c.users-users.ensures.value) used) in let lt = at.1 in let end = c.loop-i-test.false in
    subst (λ (x : ℕ). 0 < edge_times c.args.n x c.loop-i.pass.journal.delivered) at.2 (c.loop-i.invariant.sent at.0 (omega arith))
