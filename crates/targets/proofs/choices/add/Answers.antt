use Rattle.std.proofs.Common.{sym, subst}
use Rattle.targets.specs.Choosing.{HasMore}
use Rattle.targets.proofs.KeyTables.{has_more}
use Rattle.targets.proofs.choices.add.Goals as goal

pub returns : goal.returns
returns c =
    let olds = c.args.table.now.keys in
    let news = c.insert.new.self.keys in
    subst (λ v. HasMore v olds news) c.in_ok-share.ensures (subst (HasMore c.in_ok-share.field-0 olds) (sym c.in_ok-insert.ensures.keys) (has_more c.in_ok-share.field-0 olds))
