use Rattle.std.proofs.Common.{◌∙◌}
use Rattle.depsets.specs.Own.{own_id, own_direct}
use Rattle.depsets.specs.Rose.{label}
use Rattle.depsets.specs.Elements.{same_element}
use Rattle.depsets.specs.Orders.{is_preorder}
use Rattle.depsets.specs.Listed.{same_id}
use Rattle.depsets.specs.Alike.{id_own, id_same, element_own}
use Rattle.depsets.proofs.Skip.{steps-visit}
use Rattle.depsets.proofs.Walked.{walked-flat}
use Rattle.depsets.proofs.depset.Depset.list_whole.Goals as goal

pub returns-in-Some-clause-items : goal.returns-in-Some-clause-items
returns-in-Some-clause-items c coherent = c.in-Some.ensures.items ∙ walked-flat c.args.self.now coherent

pub returns-in-Some-clause-steps : goal.returns-in-Some-clause-steps
returns-in-Some-clause-steps c coherent =
    c.in-Some.ensures.steps ∙ steps-visit own_id own_direct same_id same_element id_same id_own element_own (is_preorder (label c.args.self.now).order) c.args.self.now coherent

pub returns-clause-items : goal.returns-clause-items
returns-clause-items c coherent = c.in_ok-listing.ensures.items ∙ walked-flat c.args.self.now coherent

pub returns-clause-steps : goal.returns-clause-steps
returns-clause-steps c coherent =
    c.in_ok-listing.ensures.steps ∙ steps-visit own_id own_direct same_id same_element id_same id_own element_own (is_preorder (label c.args.self.now).order) c.args.self.now coherent
