use Rattle.std.proofs.Common.{[], ◌∷◌, ◌++◌, sym, ap, ◌∙◌, nat_eq, length}
use Rattle.edges.specs.Rows.{row}
use Rattle.edges.proofs.Lists.{chosen, unchosen}
use Rattle.edges.proofs.edges.ready_of.Goals as goal
use Rattle.edges.proofs.edges.ready_of.Goals.{then-is_empty+in_ok-push, else-is_empty}

pub loop-n-preserved : goal.loop-n-preserved
loop-n-preserved c =
    let list = c.row.ensures ∙ ap (row c.args.deps.now) c.of-node.ensures in
    let test = c.is_empty.ensures ∙ ap (λ l. nat_eq (length l) 0) list in
    elim c.if-is_empty.branch [
      | then-is_empty+in_ok-push w ↦
          ap (λ v. v.items) w.ready-is ∙ w.in_ok-push.ensures.items ∙ ap (λ n. c.loop-n.ready.items ++ n ∷ []) c.of-node.ensures ∙ ap (λ xs. xs ++ c.loop-n.n ∷ []) c.loop-n.invariant
          ∙ sym (chosen (λ n. nat_eq (length (row c.args.deps.now n)) 0) c.loop-n.n (sym test ∙ w.if-is_empty.true))
      | else-is_empty w ↦
          ap (λ v. v.items) w.ready-is ∙ c.loop-n.invariant
          ∙ sym (unchosen (λ n. nat_eq (length (row c.args.deps.now n)) 0) c.loop-n.n (sym test ∙ w.if-is_empty.false))
    ]
