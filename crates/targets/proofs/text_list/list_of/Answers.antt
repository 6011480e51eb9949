use Rattle.std.proofs.Common.{ap, ◌∙◌}
use Rattle.values.specs.Tree.{branch}
use Rattle.targets.proofs.TextLists.{texts_of_list, is_of_its_texts}
use Rattle.targets.proofs.text_list.list_of.Goals as goal

pub invariant_of-result : goal.invariant_of-result
invariant_of-result c =
    is_of_its_texts c.of_branch.result c.args.trees.items (c.of_branch.ensures ∙ ap branch c.in_ok-list.ensures) c.requires

pub returns : goal.returns
returns c = texts_of_list c.of_branch.result c.args.trees.items (c.of_branch.ensures ∙ ap branch c.in_ok-list.ensures)
