use Rattle.std.proofs.Common.{◌≡◌, ◌∙◌, IfOk, List, map, ap, subst}
use Rattle.std.specs.Prelude.{zip}
use Rattle.workspace.specs.Labels.{LabelParts}
use Rattle.workspace.specs.Workspaces.{paths_of}
use Rattle.targets.specs.Resolving.{named}
use Rattle.targets.specs.Steps.{step, target_outcome}
use Rattle.packages.specs.Packages.{package_at}
use Rattle.target_outcomes.specs.Implementing.{implement}
use Rattle.loader.specs.Loaded.{LoadedView}
use Rattle.answers.proofs.label.LabelAnalysis.analyse_one.Goals as goal

pub returns-in-Target : goal.returns-in-Target
returns-in-Target c =
    let l = c.args.label.now in
    let os = map (λ r. r.now) c.args.outcomes.now in
    let t = c.in-Target.target.now in
    let kept = c.self.invariant in
    let seen = c.self.view_is in
    let targets_are : c.self.inside.targets.now ≡ c.args.self.now = cc in
    let analysis_is : c.self.inside.analysis ≡ c.args.self.now = cc in
    let is = rw c.in-Target.is at c.in_ok-target.ensures.named in
    let own = rw c.in-Target.is at c.in_ok-target.ensures.dependencies in
    subst (λ m. IfOk c.target_outcome.result (λ o. o ≡ m))
    (ap (λ (v : LoadedView). target_outcome (implement v.files v.limit) l t (zip c.in-Target.dependencies.now os)) analysis_is
    ∙ ap (λ (ds : List LabelParts). target_outcome (implement c.args.self.now.files c.args.self.now.limit) l t (zip ds os)) own
    ∙ ap (λ n. step (implement c.args.self.now.files c.args.self.now.limit) l n os) is
    ∙ ap (λ (v : LoadedView). step (implement c.args.self.now.files c.args.self.now.limit) l (named (paths_of v.files) (package_at v.files v.limit) l) os) targets_are)
    c.target_outcome.ensures
