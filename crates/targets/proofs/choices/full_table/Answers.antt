use Rattle.std.proofs.Common.{◌||◌, take, take_all, sym, ap, ◌∙◌, arith}
use Rattle.std.specs.List.{list_any}
use Rattle.std.proofs.lemmas.List.Folds.{list_any_more}
use Rattle.leaves.specs.Leaves.{same_key}
use Rattle.targets.proofs.choices.full_table.Goals as goal

pub loop-key-preserved : goal.loop-key-preserved
loop-key-preserved c k =
    let xs = c.args.listed.now in
    let i = c.loop-key.key-index in
    c.in_ok-add.ensures k ∙ ap (λ b. b || same_key k c.key-item.result) (c.loop-key.invariant k)
    ∙ ap (λ x. list_any (same_key k) (take i xs) || same_key k x) c.key-item.is
    ∙ sym (list_any_more (same_key k) xs i c.key-item.result c.loop-key-test.true)

pub returns : goal.returns
returns c k = c.loop-key.invariant k ∙ ap (list_any (same_key k)) (take_all c.loop-key.key-index c.args.listed.now (omega (arith, c.loop-key-test.false)))
