use Rattle.std.proofs.Common.{◌≡◌, ℕ, ◌++◌, List, length, sym, ap, ◌∙◌, subst}
use Rattle.edges.specs.Rows.{IsGraph, has}
use Rattle.edges.specs.Counting.{Counting}
use Rattle.edges.specs.Orders.{rest, IsOrder}
use Rattle.edges.proofs.Orders.{whole_order}
use Rattle.edges.proofs.numbering.order_of.Goals as goal

-- the order that was told of, with the rest behind it
appended : (given : List (List ℕ)) (order left now lent : List ℕ) (acyclic : ℕ) → IsGraph given → Counting given (λ d v. has order d) order left → acyclic ≡ length order → lent ≡ left → now ≡ order ++ rest lent → IsOrder given now acyclic
appended given order left now lent acyclic is_graph ended count lent_is is =
    subst (λ n. IsOrder given now n) (sym count) (subst (λ xs. IsOrder given xs (length order)) (sym (is ∙ ap (λ l. order ++ rest l) lent_is)) (whole_order given is_graph order left ended))

pub returns : goal.returns
returns c =
    appended c.args.given.now c.in_ok-order.order.items c.in_ok-order.left.items c.append_rest.new.order.items c.deref.result.now c.len-acyclic.result c.requires.graph c.in_ok-order.ensures (c.len-acyclic.ensures ∙ c.in_ok-order.order.ok.0) c.deref.ensures.value c.in_ok-append_rest.ensures
