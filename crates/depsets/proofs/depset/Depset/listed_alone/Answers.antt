use Rattle.std.proofs.Common.{◌+◌, ◌≤◌, length, ◌∙◌, ap, sym, subst}
use Rattle.depsets.proofs.Walked.{walked-alone, walked_steps-alone, no_items}
use Rattle.depsets.proofs.depset.Depset.listed_alone.Goals as goal

pub returns-clause-items : goal.returns-clause-items
returns-clause-items c =
    let none_below = sym c.children.ensures ∙ no_items c.children.result.now (sym c.is_empty.ensures ∙ c.if-not-is_empty.false) in
    let few = subst (λ l. length l ≤ 1) c.direct-direct.ensures c.if-direct-gt1.false in
    c.own.ensures ∙ c.direct-direct.ensures ∙ sym (walked-alone c.args.self.now none_below few)

pub returns-clause-steps : goal.returns-clause-steps
returns-clause-steps c =
    let none_below = sym c.children.ensures ∙ no_items c.children.result.now (sym c.is_empty.ensures ∙ c.if-not-is_empty.false) in
    ap (λ l. 1 + length l) c.direct-direct.ensures ∙ sym (walked_steps-alone c.args.self.now none_below)
