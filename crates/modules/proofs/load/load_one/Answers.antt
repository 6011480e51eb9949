use Rattle.std.proofs.Common.{◌≡◌, ◌∙◌, ℕ, ◌<◌, length, get_or, [], List, Result, sym, ap, arith, rules}
use Rattle.std.proofs.lemmas.List.{get_or_default}
use Rattle.std.proofs.lemmas.Result.{IfOk-weaker}
use Rattle.loading.specs.Loads.{Path, LoadFault, path_at}
use Rattle.loading.specs.Modules.{module_of}
use Rattle.modules.specs.Tables.{Table, lower_of}
use Rattle.modules.specs.Evaluation.{sources, module_by}
use Rattle.modules.proofs.Doing.{one_is, hs_size, deps_size, files_size}
use Rattle.modules.proofs.load.load_one.Goals as goal

path_read : (paths read : List Path) (n : ℕ) (p : Path) → read ≡ paths → n < length paths → p ≡ get_or read n p → p ≡ path_at paths n
path_read paths read n p same low is = is ∙ ap (λ ps. get_or ps n p) same ∙ get_or_default paths n p [] low

height_read : (hs read : List ℕ) (n h count : ℕ) → length hs ≡ count → n < count → h ≡ get_or hs n h → hs ≡ read → h ≡ get_or read n 0
height_read hs read n h count size low is same = is ∙ get_or_default hs n h 0 (omega (arith, size, low)) ∙ ap (λ xs. get_or xs n 0) same

pub index-requires : goal.index-requires
index-requires g c =
    let plan = c.args.plan.now in
    let size = hs_size (g.E.Evaluate.meaning c.args.evaluator.now) c.args.paths.now c.args.files.now plan.components plan.heights.items plan.order.items c.requires.ready in
    omega (arith, size, c.requires.node, plan.heights.ok.0)

pub number-own-requires : goal.number-own-requires
number-own-requires g c =
    let plan = c.args.plan.now in
    let size = deps_size (g.E.Evaluate.meaning c.args.evaluator.now) c.args.paths.now c.args.files.now plan.components plan.heights.items plan.order.items c.requires.ready in
    omega (arith, size, c.requires.node, c.of.ensures)

pub offset_bounds-as_slice-n : goal.offset_bounds-as_slice-n
offset_bounds-as_slice-n g c =
    let low : c.args.n < length c.as_slice.result.now = omega (arith, ap length c.as_slice.ensures.value, c.requires.node) in
    search rules

pub offset_bounds-files-n : goal.offset_bounds-files-n
offset_bounds-files-n g c =
    let plan = c.args.plan.now in
    let size = files_size (g.E.Evaluate.meaning c.args.evaluator.now) c.args.paths.now c.args.files.now plan.components plan.heights.items plan.order.items c.requires.ready in
    let low : c.args.n < length c.args.files.now = omega (arith, size, c.requires.node) in
    search rules

pub bounds-as_slice-n : goal.bounds-as_slice-n
bounds-as_slice-n g c = omega (arith, ap length c.as_slice.ensures.value, c.requires.node)

pub invariant_of-known : goal.invariant_of-known
invariant_of-known g c =
    let plan = c.args.plan.now in
    (ap length c.deref.ensures.value ∙ hs_size (g.E.Evaluate.meaning c.args.evaluator.now) c.args.paths.now c.args.files.now plan.components plan.heights.items plan.order.items c.requires.ready, c.requires.below.size)

pub bounds-files-n : goal.bounds-files-n
bounds-files-n g c =
    let plan = c.args.plan.now in
    let size = files_size (g.E.Evaluate.meaning c.args.evaluator.now) c.args.paths.now c.args.files.now plan.components plan.heights.items plan.order.items c.requires.ready in
    omega (arith, size, c.requires.node)

pub returns : goal.returns
returns g c =
    let e = g.E.Evaluate.meaning c.args.evaluator.now in
    let paths = c.args.paths.now in
    let plan = c.args.plan.now in
    let n = c.args.n in
    let known : Table (Result g.row.M.Denot (LoadFault g.row.S.Denot g.row.K.Denot)) = record { paths = paths; known = lower_of c.deref.result.now c.index.result.now c.args.done.now } in
    IfOk-weaker c.module_by.result (λ r. r ≡ module_by e plan.components.numbers c.number-own.result c.index-as_slice-n.result c.index-files-n.result known) (λ r. r ≡ module_of (sources e paths) (path_at paths n))
    (λ r is. is ∙ one_is e paths c.args.files.now plan.components plan.heights.items plan.order.items c.requires.ready n c.number-own.result c.index.result.now c.index-as_slice-n.result c.index-files-n.result c.args.done.now c.deref.result.now c.requires.node c.requires.below
    c.deref.ensures.value (height_read plan.heights.items c.deref.result.now n c.index.result.now (length paths) (hs_size e paths c.args.files.now plan.components plan.heights.items plan.order.items c.requires.ready) c.requires.node c.index.ensures (sym c.deref.ensures.value)) (c.number-own.ensures.number ∙ ap (λ k. get_or plan.components.numbers k 0) c.of.ensures)
    (path_read paths c.as_slice.result.now n c.index-as_slice-n.result c.as_slice.ensures.value c.requires.node c.index-as_slice-n.is) c.index-files-n.is)
    c.module_by.ensures
