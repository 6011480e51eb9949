use Rattle.std.proofs.Common.{◌≡◌, ℕ, ◌<◌, ◌∙◌, List, length, take, ap, subst, arith}
use Rattle.std.specs.Prelude.{unwrap_or}
use Rattle.board.specs.Views.{told}
use Rattle.pool.specs.Gathered.{GatheredView, outcome_in}
use Rattle.pool.specs.Settled.{Settled}
use Rattle.pool.proofs.Gathers.{whole, settled}
use Rattle.pool.proofs.Outcomes.{has_outcomes}
use Rattle.pool.proofs.Plans.{plan_size}
use Rattle.pool.proofs.running.gather.Goals as goal

pub of-requires-clause-whole : goal.of-requires-clause-whole
of-requires-clause-whole g c =
    let end = c.close.ensures.end in
    whole (g.A.Analyse.step c.args.analyse.now) (g.A.Analyse.fits c.args.analyse.now) c.args.board end.0 c.args.passes.items c.close.result end.1 c.close.ensures.kept c.requires.all c.close.ensures.size

pub returns-clause-outcomes : goal.returns-clause-outcomes
returns-clause-outcomes g c fit n lt =
    let V : Type 0 = g.row.V.Denot in
    let a = c.args.analyse.now in
    let end = c.close.ensures.end in
    let rows : List (List ℕ) = c.args.graph.now.deps in
    let acyclic : ℕ = c.args.graph.now.acyclic in
    let order = c.acyclic-acyclic.ensures.order in
    let step = g.A.Analyse.step a in
    let fits = g.A.Analyse.fits a in
    let size : length c.args.board.plan ≡ acyclic = ap (λ (p : List (List ℕ)). length p) c.requires.plan ∙ plan_size rows acyclic order in
    let each : (m : ℕ) → m < acyclic → Settled step fits (take acyclic rows) (told c.close.result) m =
    λ m first. subst (λ (p : List (List ℕ)). Settled step fits p (told c.close.result) m) c.requires.plan
    (settled step fits c.args.board end.0 c.args.passes.items c.close.result end.1 c.close.ensures.kept c.requires.all m (omega (arith, first, size))) in
    ap (λ (z : GatheredView V). outcome_in z n) c.of.ensures
    ∙ ap (λ (v : V). unwrap_or (told c.close.result n) v) c.requires.cycle
    ∙ has_outcomes (g.A.Analyse.cycle a) step fits rows acyclic order c.close.result each (c.close.ensures.size ∙ size) fit n lt
