use Rattle.std.proofs.Common.{[], ◌∷◌, ◌++◌, sym, ap, ◌∙◌, get_or, eq-eqb, nat_eq}
use Rattle.edges.proofs.Lists.{chosen, unchosen, ne_eqb}
use Rattle.edges.proofs.countdown.starts.Goals as goal
use Rattle.edges.proofs.countdown.starts.Goals.{then-count-eq0+in_ok-push, else-count-eq0}

pub loop-n-preserved : goal.loop-n-preserved
loop-n-preserved c = elim c.if-count-eq0.branch [
  | then-count-eq0+in_ok-push w ↦
      ap (λ v. v.items) w.order-is ∙ w.in_ok-push.ensures.items ∙ ap (λ n. c.loop-n.order.items ++ n ∷ []) w.of.ensures ∙ ap (λ xs. xs ++ c.loop-n.n ∷ []) c.loop-n.invariant
      ∙ sym (chosen (λ n. nat_eq (get_or c.args.left.now n 0) 0) c.loop-n.n (eq-eqb (get_or c.args.left.now c.loop-n.n 0) 0 w.if-count-eq0.true))
  | else-count-eq0 w ↦
      ap (λ v. v.items) w.order-is ∙ c.loop-n.invariant
      ∙ sym (unchosen (λ n. nat_eq (get_or c.args.left.now n 0) 0) c.loop-n.n (ne_eqb (get_or c.args.left.now c.loop-n.n 0) 0 w.if-count-eq0.false))
]
