use Rattle.std.proofs.Common.{option_copied, string_bytes, sym, ap, ◌∙◌, subst}
use Rattle.values.specs.Seeing.{item_value}
use Rattle.printing.specs.Repr.{string_in, Prints}
use Rattle.printing.proofs.ReprLemmas.{whole-string}
use Rattle.printing.proofs.reprs.put_whole.Goals as goal

pub returns-in-Some : goal.returns-in-Some
returns-in-Some c =
    let found = ap string_in (sym c.see_item-shown.ensures) ∙ sym c.text_in.ensures ∙ ap option_copied c.in-Some.is in
    subst (λ r. Prints r c.put_itself.result (string_bytes c.args.out.now) (string_bytes c.put_itself.new.out) c.put_itself.new.ticks)
    (sym (whole-string c.args.left c.args.heap.now (item_value c.args.item) c.args.ticks.now c.in-Some.text.now found)) c.put_itself.ensures
