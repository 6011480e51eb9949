use Rattle.std.proofs.Common.{◌≡◌, rules, w64, to_z, of_z, sym, ap, ◌∙◌, subst}
use Rattle.ticks.specs.Ticking.{Says}
use Rattle.values.specs.Seeing.{item_value}
use Rattle.operations.specs.Reading.{number_in}
use Rattle.calls.specs.NumberTexts.{number_told}
use Rattle.calls.proofs.NumberTexts.{number_repr}
use Rattle.calls.proofs.built_ins.text_of_item.Goals as goal

pub returns-in-Some : goal.returns-in-Some
returns-in-Some c =
    let n = c.in-Some.number in
    let same : to_z w64 (of_z w64 n) ≡ n = search rules in
    let found = ap number_in (sym c.see_item.ensures) ∙ sym c.number_of.ensures ∙ c.in-Some.is in
    subst (λ r. Says r c.number_text.result c.number_text.new.ticks)
    (ap (λ m. number_told m c.args.ticks.now) same ∙ sym (number_repr c.args.heap.now (item_value c.args.item) c.args.ticks.now n found))
    c.number_text.ensures
