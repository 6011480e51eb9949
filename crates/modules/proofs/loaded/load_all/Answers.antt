use Rattle.std.proofs.Common.{◌≡◌, ◌∙◌, List, length, map, sym, ap}
use Rattle.std.proofs.lemmas.List.{length-map}
use Rattle.modules.specs.Modules.{value_in, faults_in}
use Rattle.modules.specs.Evaluation.{sources}
use Rattle.modules.proofs.Outcomes.{inside_of, ready_of, all_modules}
use Rattle.modules.proofs.loaded.load_all.Goals as goal

same_length : {X Y : Type 0} (f : X → Y) (xs read : List X) (ys : List Y) → ys ≡ map f read → read ≡ xs → length ys ≡ length xs
same_length f xs read ys e same = ap length e ∙ length-map read f ∙ ap length same

pub of-requires-2 : goal.of-requires-2
of-requires-2 g c =
    let e = g.E.Evaluate.meaning c.args.evaluator.now in
    record { inside = inside_of c.in_ok-paths.paths c.deref.result.now c.in_ok-deps.deps (same_length e.read c.in_ok-paths.paths c.as_slice.result.now c.deref.result.now (c.deref.ensures.value ∙ c.in_ok-files.ensures) c.as_slice.ensures.value) c.in_ok-deps.ensures }

pub load_each-requires : goal.load_each-requires
load_each-requires g c =
    let e = g.E.Evaluate.meaning c.args.evaluator.now in
    let plan = c.in_ok-plan.plan in
    record {
      ready = ready_of e c.in_ok-paths.paths c.as_slice.result.now c.in_ok-files.files.items c.deref.result.now c.deref-2.result.now c.in_ok-deps.deps plan.components plan.heights.items plan.order.items c.as_slice.ensures.value c.as_slice.ensures.paths
          c.in_ok-files.ensures c.deref.ensures.value c.deref-2.ensures.value c.in_ok-deps.ensures c.in_ok-plan.ensures;
    }

pub sorted_out-requires : goal.sorted_out-requires
sorted_out-requires g c = record { size = ap length c.in_ok-done.ensures ∙ length-map c.in_ok-paths.paths _ ∙ ap length (sym c.as_slice-2.ensures.value) }

pub invariant_of-result : goal.invariant_of-result
invariant_of-result g c =
    ap length c.in_ok-values.ensures.values ∙ length-map c.in_ok-done.done.items value_in ∙ ap length c.in_ok-done.ensures ∙ length-map c.in_ok-paths.paths _

pub returns-clause-modules : goal.returns-clause-modules
returns-clause-modules g c =
    all_modules (sources (g.E.Evaluate.meaning c.args.evaluator.now) c.in_ok-paths.paths) c.in_ok-values.values.items c.in_ok-values.faults.items c.in_ok-done.done.items c.in_ok-done.ensures c.in_ok-values.ensures.values
    (c.in_ok-values.ensures.faults ∙ ap (λ ps. faults_in ps c.in_ok-done.done.items) c.as_slice-2.ensures.value)
