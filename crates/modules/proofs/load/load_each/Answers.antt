use Rattle.std.proofs.Common.{◌≡◌, length, get_or, sym, ap, subst, arith, refl}
use Rattle.modules.specs.Evaluation.{sources}
use Rattle.modules.specs.Loading.{IsReady, IsBelow, AreDone}
use Rattle.modules.proofs.Doing.{node_low, below_of, done_more, all_done, none_done}
use Rattle.modules.proofs.load.load_each.Goals as goal

pub loop-n-init : goal.loop-n-init
loop-n-init g c =
    let paths = c.args.paths.now in
    record {
      done_to = none_done (sources (g.E.Evaluate.meaning c.args.evaluator.now) paths) c.deref-n-items.result.now c.in_ok-done.done.items (length c.as_slice.result.now) c.in_ok-done.ensures (ap length c.as_slice.ensures.value);
    }

pub load_one-requires-clause-node : goal.load_one-requires-clause-node
load_one-requires-clause-node g c =
    let e = g.E.Evaluate.meaning c.args.evaluator.now in
    let plan = c.args.plan.now in
    let items = c.deref-n-items.result.now in
    let ready = subst (IsReady e c.args.paths.now c.args.files.now plan.components plan.heights.items) (sym c.deref-n-items.ensures.value) c.requires.ready in
    node_low e c.args.paths.now c.args.files.now plan.components plan.heights.items items ready c.loop-n.n-index c.loop-n-test.true

pub load_one-requires-clause-below : goal.load_one-requires-clause-below
load_one-requires-clause-below g c =
    let e = g.E.Evaluate.meaning c.args.evaluator.now in
    let plan = c.args.plan.now in
    let items = c.deref-n-items.result.now in
    let ready = subst (IsReady e c.args.paths.now c.args.files.now plan.components plan.heights.items) (sym c.deref-n-items.ensures.value) c.requires.ready in
    subst (λ ds. IsBelow (sources e c.args.paths.now) plan.heights.items ds (get_or items c.loop-n.n-index 0)) (sym c.deref.ensures.value)
    (below_of e c.args.paths.now c.args.files.now plan.components plan.heights.items items ready c.loop-n.n-index c.loop-n.done.items c.loop-n-test.true c.loop-n.invariant.done_to)

pub index_mut-requires : goal.index_mut-requires
index_mut-requires g c =
    let e = g.E.Evaluate.meaning c.args.evaluator.now in
    let plan = c.args.plan.now in
    let items = c.deref-n-items.result.now in
    let ready = subst (IsReady e c.args.paths.now c.args.files.now plan.components plan.heights.items) (sym c.deref-n-items.ensures.value) c.requires.ready in
    let low = node_low e c.args.paths.now c.args.files.now plan.components plan.heights.items items ready c.loop-n.n-index c.loop-n-test.true in
    omega (arith, low, c.loop-n.invariant.done_to.size, c.loop-n.done.ok.0)

pub loop-n-preserved : goal.loop-n-preserved
loop-n-preserved g c =
    let e = g.E.Evaluate.meaning c.args.evaluator.now in
    let plan = c.args.plan.now in
    let items = c.deref-n-items.result.now in
    let ready = subst (IsReady e c.args.paths.now c.args.files.now plan.components plan.heights.items) (sym c.deref-n-items.ensures.value) c.requires.ready in
    record {
      done_to = done_more e c.args.paths.now c.args.files.now plan.components plan.heights.items items ready c.loop-n.n-index (get_or items c.loop-n.n-index 0) c.loop-n.done.items c.in_ok-loaded.loaded c.loop-n-test.true refl c.loop-n.invariant.done_to c.in_ok-loaded.ensures;
    }

pub returns : goal.returns
returns g c =
    let e = g.E.Evaluate.meaning c.args.evaluator.now in
    let plan = c.args.plan.now in
    let items = c.deref-n-items.result.now in
    let ready = subst (IsReady e c.args.paths.now c.args.files.now plan.components plan.heights.items) (sym c.deref-n-items.ensures.value) c.requires.ready in
    let all : c.loop-n.n-index ≡ length items = omega (arith, c.loop-n-test.false, c.loop-n.auto.n-index-end) in
    all_done e c.args.paths.now c.args.files.now plan.components plan.heights.items items ready c.loop-n.done.items (subst (λ k. AreDone (sources e c.args.paths.now) items k c.loop-n.done.items) all c.loop-n.invariant.done_to)
