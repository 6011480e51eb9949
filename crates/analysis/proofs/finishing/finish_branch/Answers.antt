use Rattle.std.proofs.Common.{◌≡◌, ◌∙◌, ap, sym, refl}
use Rattle.std.proofs.lemmas.Result.{IfOk-weaker}
use Rattle.values.specs.Tree.{branch}
use Rattle.values.specs.View.{node_branch}
use Rattle.targets.specs.Steps.{Implemented, with_instances, if_instances, branch_instances}
use Rattle.analysis.proofs.Lists.{list_instances}
use Rattle.analysis.proofs.finishing.finish_branch.Goals as goal

pub returns-in-List : goal.returns-in-List
returns-in-List c =
    let i : Implemented = record { result = branch c.args.returned.now; files = c.args.files.now; actions = c.args.actions } in
    let is : if_instances c.as_slice.result.now ≡ branch_instances c.args.returned.now =
    ap if_instances c.as_slice.ensures.value ∙ list_instances c.args.returned.now c.in-List.values.items (ap node_branch (sym c.in-List.is) ∙ c.node.ensures) in
    IfOk-weaker c.finish_list.result _ _ (λ o h. h i refl refl ∙ ap (with_instances c.args.label.now i) is) c.finish_list.ensures
