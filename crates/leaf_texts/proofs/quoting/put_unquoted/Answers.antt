use Rattle.std.proofs.Common.{◌≡◌, ◌++◌, string_bytes, sym, ap, ◌∙◌, true}
use Rattle.std.specs.List.{list_all}
use Rattle.leaf_texts.specs.Texts.{is_bare}
use Rattle.leaf_texts.proofs.QuotedLemmas.{escape-all_bare}
use Rattle.leaf_texts.proofs.quoting.put_unquoted.Goals as goal

pub returns : goal.returns
returns c =
    let bare : list_all is_bare c.args.text.now ≡ true =
    ap (list_all is_bare) (sym c.as_bytes.ensures.value) ∙ sym c.are_bare.ensures ∙ c.if-not-are_bare.false in
    c.in_ok-push_str.ensures.bytes ∙ ap (λ l. string_bytes c.args.out.now ++ l) (sym (escape-all_bare c.args.text.now bare))
