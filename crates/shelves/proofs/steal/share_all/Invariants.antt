use Rattle.std.proofs.Common.{◌≡◌, vec_len}
use Rattle.std.specs.List.{All}
use Rattle.shelves.proofs.steal.share_all.Given as goal

abbrev pub invariant-loop-i : goal.invariant-loop-i
invariant-loop-i l = (vec_len l.ends ≡ vec_len l.fn.ends) × All (λ e. e ≡ l.nodes) l.ends.items
