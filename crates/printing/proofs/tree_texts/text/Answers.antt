use Rattle.std.proofs.Common.{◌++◌, ap, ◌∙◌}
use Rattle.depsets.specs.Listed.{walked}
use Rattle.printing.specs.TreeTexts.{text_by}
use Rattle.printing.proofs.TreeTextLemmas.{text-coherent}
use Rattle.printing.proofs.tree_texts.text.Goals as goal

pub returns-clause-walk : goal.returns-clause-walk
returns-clause-walk c = c.in_ok-put_tree.ensures ∙ ap (λ o. o ++ text_by walked c.args.value.now) c.new-out.ensures.bytes

pub returns-clause-plain : goal.returns-clause-plain
returns-clause-plain c coherent =
    c.in_ok-put_tree.ensures ∙ ap (λ o. o ++ text_by walked c.args.value.now) c.new-out.ensures.bytes
    ∙ text-coherent c.args.value.now coherent
