use Rattle.std.proofs.Common.{[], ◌∷◌, ◌++◌, sym, ap, ◌∙◌, filter, get_or, eq-eqb, nat_eq, not, append_assoc}
use Rattle.std.specs.List.{range_with_len}
use Rattle.edges.proofs.Lists.{chosen, unchosen, ne_eqb}
use Rattle.edges.proofs.numbering.append_rest.Goals as goal
use Rattle.edges.proofs.numbering.append_rest.Goals.{then-count-ne0+in_ok-push, else-count-ne0}

pub loop-n-preserved : goal.loop-n-preserved
loop-n-preserved c = elim c.if-count-ne0.branch [
  | then-count-ne0+in_ok-push w ↦
      ap (λ v. v.items) w.order-is ∙ w.in_ok-push.ensures.items ∙ ap (λ n. c.loop-n.order.items ++ n ∷ []) w.of.ensures ∙ ap (λ xs. xs ++ c.loop-n.n ∷ []) c.loop-n.invariant
      ∙ append_assoc c.args.order.now.items (filter (λ n. not (nat_eq (get_or c.args.left.now n 0) 0)) (range_with_len 0 c.loop-n.n)) (c.loop-n.n ∷ [])
      ∙ ap (λ xs. c.args.order.now.items ++ xs) (sym (chosen (λ n. not (nat_eq (get_or c.args.left.now n 0) 0)) c.loop-n.n (ap not (ne_eqb (get_or c.args.left.now c.loop-n.n 0) 0 w.if-count-ne0.true))))
  | else-count-ne0 w ↦
      ap (λ v. v.items) w.order-is ∙ c.loop-n.invariant
      ∙ ap (λ xs. c.args.order.now.items ++ xs) (sym (unchosen (λ n. not (nat_eq (get_or c.args.left.now n 0) 0)) c.loop-n.n (ap not (eq-eqb (get_or c.args.left.now c.loop-n.n 0) 0 w.if-count-ne0.false))))
]
