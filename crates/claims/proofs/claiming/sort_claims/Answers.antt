use Rattle.claims.proofs.SortedClaims.{sorted_in_order, eq_ties}
use Rattle.claims.proofs.claiming.sort_claims.Goals as goal

pub returns : goal.returns
returns c =
    sorted_in_order eq_ties c.args.claims.now.items c.sort.new.self.items c.dedup.new.self.items c.in_ok-sort.ensures.permutation c.in_ok-sort.ensures.sorted c.dedup.ensures.filtered
