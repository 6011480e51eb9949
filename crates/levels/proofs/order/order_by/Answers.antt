use Rattle.std.proofs.Common.{◌≡◌, ◌∙◌, ℕ, map, subst, sym, ap}
use Rattle.std.proofs.lemmas.Result.{IfOk-weaker}
use Rattle.levels.specs.Levels.{IsOrderBy}
use Rattle.levels.proofs.Sorted.{ordered}
use Rattle.levels.proofs.order.order_by.Goals as goal

pub returns : goal.returns
returns c =
    let keys = c.args.keys.now in
    let sorted = c.sort_unstable.new.self.items in
    let is : IsOrderBy keys (map (λ (p : ℕ × ℕ). p.1) sorted) = ordered keys c.in_ok-pairs.pairs.items sorted c.in_ok-pairs.ensures c.sort_unstable.ensures.permutation c.sort_unstable.ensures.sorted in
    IfOk-weaker c.places.result (λ v. v.items ≡ map (λ (p : ℕ × ℕ). p.1) c.deref.result.now) (λ v. IsOrderBy keys v.items)
    (λ v e. subst (IsOrderBy keys) (sym (e ∙ ap (map (λ (p : ℕ × ℕ). p.1)) c.deref.ensures.value)) is) c.places.ensures
