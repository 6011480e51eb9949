use Rattle.std.proofs.Common.{◌≡◌, ◌∙◌, sym, subst, ap}
use Rattle.std.specs.List.{list_any}
use Rattle.meaning.specs.Entry.{same_function}
use Rattle.frames.specs.Answers.{id_seen}
use Rattle.call_stack.specs.ActiveView.{ids_seen}
use Rattle.call_stack.proofs.Lists.{active_found}
use Rattle.call_stack.proofs.active.Active.contains.Goals as goal

pub returns : goal.returns
returns g c =
    let f = c.args.function in
    subst (λ xs. c.is_among.result ≡ list_any (same_function (id_seen f)) (ids_seen xs)) c.self.view_is
    (c.is_among.ensures ∙ ap (list_any (λ g. same_function (id_seen f) (id_seen g))) c.as_slice.ensures.value ∙ sym (active_found f c.self.inside.functions.items))
