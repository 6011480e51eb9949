use Rattle.std.proofs.Common.{◌∙◌, string_bytes}
use Rattle.leaf_texts.specs.Texts.{element_text}
use Rattle.leaf_texts.proofs.TextLemmas.{joined-next}
use Rattle.leaf_texts.proofs.texts.put_elements.Goals as goal

pub loop-i-preserved : goal.loop-i-preserved
loop-i-preserved c =
    joined-next element_text c.args.elements.now c.loop-i.i (string_bytes c.loop-i.out) c.at.result.now (string_bytes c.put_element_at.new.out) c.at.ensures
    c.in_ok-put_element_at.ensures
    ∙ c.loop-i.invariant
