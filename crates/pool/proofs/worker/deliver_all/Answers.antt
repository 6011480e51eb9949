use Rattle.std.proofs.Common.{◌≡◌, ◌≢◌, ℕ, ◌<◌, ◌≤◌, true, List, length, get_or, sym, ap, ◌∙◌, subst, arith}
use Rattle.std.proofs.lemmas.List.{get_or_read}
use mathlib.Core.Logic.{dite}
use native.Mathlib.Decide.{ℕ_discrete}
use Rattle.board.specs.Journal.{times, edge_times, deps}
use Rattle.board.specs.Views.{IsHeld, PublishedView}
use Rattle.edges.specs.Rows.{has, users_of}
use Rattle.edges.proofs.Lists.{has_at, has-get_or}
use Rattle.pool.proofs.Places.{apart}
use Rattle.pool.proofs.Plans.{plan_size, user_waits, waiter_uses, users_once}
use Rattle.pool.proofs.worker.deliver_all.Goals as goal

pub deliver_one-requires-clause-nodes : goal.deliver_one-requires-clause-nodes
deliver_one-requires-clause-nodes g c =
    let order = c.acyclic-acyclic.ensures.order in
    let size = plan_size c.args.graph.now.deps c.args.graph.now.acyclic order in
    let plan = ap (λ (p : List (List ℕ)). length p) c.requires.graph in
    (omega (arith, c.acyclic-acyclic.ensures.value, size, plan), omega (arith, c.acyclic-acyclic.ensures.value, order.within, c.requires.shelf, c.loop-user.invariant.shelf))

pub deliver_one-requires-clause-first : goal.deliver_one-requires-clause-first
deliver_one-requires-clause-first g c =
    let us : List ℕ = c.users-users.result.now in let i : ℕ = c.loop-user.user-index in
    let here : c.user-item.result ≡ get_or us i 0 = get_or_read us i c.user-item.result c.loop-user-test.true c.user-item.is 0 in
    let node : c.loop-user.published.node ≡ c.args.n = ap (λ (p : PublishedView). p.node) c.loop-user.invariant.same ∙ c.requires.node.1 in
    ap (λ (m : ℕ). edge_times m c.user-item.result c.loop-user.pass.journal.delivered) node
    ∙ ap (λ (u : ℕ). edge_times c.args.n u c.loop-user.pass.journal.delivered) here ∙ c.loop-user.invariant.unsent i (omega arith) c.loop-user-test.true

pub deliver_one-requires-clause-edge : goal.deliver_one-requires-clause-edge
deliver_one-requires-clause-edge g c first =
    let us : List ℕ = c.users-users.result.now in let i : ℕ = c.loop-user.user-index in
    let here : c.user-item.result ≡ get_or us i 0 = get_or_read us i c.user-item.result c.loop-user-test.true c.user-item.is 0 in
    let order = c.acyclic-acyclic.ensures.order in
    let users : us ≡ users_of c.args.graph.now.deps c.args.n = c.users-users.ensures ∙ ap (users_of c.args.graph.now.deps) c.of.ensures in
    let used : has us c.user-item.result ≡ true = subst (λ (u : ℕ). has us u ≡ true) (sym here) (has-get_or us i c.loop-user-test.true) in
    let edge : 0 < times c.args.n (deps c.args.board.now.plan c.user-item.result) =
    user_waits c.args.graph.now.deps c.args.graph.now.acyclic order c.args.board.now.plan c.requires.graph c.args.n us users c.user-item.result used (omega (arith, first, c.acyclic-acyclic.ensures.value)) in
    let node : c.loop-user.published.node ≡ c.args.n = ap (λ (p : PublishedView). p.node) c.loop-user.invariant.same ∙ c.requires.node.1 in
    subst (λ (m : ℕ). 0 < times m (deps c.args.board.now.plan c.user-item.result)) (sym node) edge

pub loop-user-preserved : goal.loop-user-preserved
loop-user-preserved g c =
    let us : List ℕ = c.users-users.result.now in let i : ℕ = c.loop-user.user-index in let n : ℕ = c.args.n in let lt = c.loop-user-test.true in
    let here : c.user-item.result ≡ get_or us i 0 = get_or_read us i c.user-item.result lt c.user-item.is 0 in
    let was = c.loop-user.invariant in let step = c.deliver_one.ensures in
    let old : List (ℕ × ℕ) = c.loop-user.pass.journal.delivered in let now : List (ℕ × ℕ) = c.deliver_one.new.pass.journal.delivered in
    let node : c.loop-user.published.node ≡ n = ap (λ (p : PublishedView). p.node) was.same ∙ c.requires.node.1 in
    let order = c.acyclic-acyclic.ensures.order in
    let users : us ≡ users_of c.args.graph.now.deps n = c.users-users.ensures ∙ ap (users_of c.args.graph.now.deps) c.of.ensures in
    let once : (x : ℕ) → times x us ≤ 1 = users_once c.args.graph.now.deps c.args.graph.now.acyclic order c.args.board.now.plan c.requires.graph n us users in
    let sent : get_or us i 0 < c.acyclic-acyclic.result → 0 < edge_times n (get_or us i 0) now = λ first.
    subst (λ (u : ℕ). 0 < edge_times n u now) here (subst (λ (m : ℕ). 0 < edge_times m c.user-item.result now) node (step.sent (omega (arith, first, here)))) in
    let others : (u : ℕ) → u ≢ get_or us i 0 → edge_times n u now ≡ edge_times n u old =
    λ u ne. subst (λ (m : ℕ). edge_times m u now ≡ edge_times m u old) node (step.others u (λ e. ne (e ∙ here))) in
    record {
      of = step.of;
      shelf = step.shelf ∙ was.shelf;
      held = subst (IsHeld c.deliver_one.new.pass) node step.held;
      same = step.same ∙ was.same;
      memory = step.memory ∙ was.memory;
      finished = step.finished ∙ was.finished;
      set = step.set ∙ was.set;
      sent = λ k l first. dite (ℕ_discrete k i)
          (λ e. subst (λ (j : ℕ). 0 < edge_times n (get_or us j 0) now) (sym e) (sent (subst (λ (j : ℕ). get_or us j 0 < c.acyclic-acyclic.result) e first)))
          (λ ne. let o = others (get_or us k 0) (apart us once k i (omega arith) lt) in let s = was.sent k (omega arith) first in omega arith);
      unsent = λ k le l. let o = others (get_or us k 0) (λ q. apart us once i k (omega arith) l (sym q)) in let s = was.unsent k (omega arith) l in o ∙ s;
    }

pub returns-clause-whole : goal.returns-clause-whole
returns-clause-whole g c u p =
    let us : List ℕ = c.users-users.result.now in
    let order = c.acyclic-acyclic.ensures.order in
    let users : us ≡ users_of c.args.graph.now.deps c.args.n = c.users-users.ensures ∙ ap (users_of c.args.graph.now.deps) c.of.ensures in
    let used = waiter_uses c.args.graph.now.deps c.args.graph.now.acyclic order c.args.board.now.plan c.requires.graph c.args.n us users u p in
    let at = has_at us u used.1 in let lt = at.1 in let end = c.loop-user-test.false in
    let first : get_or us at.0 0 < c.acyclic-acyclic.result = omega (arith, at.2, used.0, c.acyclic-acyclic.ensures.value) in
    subst (λ (x : ℕ). 0 < edge_times c.args.n x c.loop-user.pass.journal.delivered) at.2 (c.loop-user.invariant.sent at.0 (omega arith) first)
