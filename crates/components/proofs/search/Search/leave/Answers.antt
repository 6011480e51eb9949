use Rattle.std.proofs.Common.{◌≡◌, Some, ◌++◌, ◌∙◌, ap, sym, length, ◌<◌, ◌-◌, subst, arith}
use Rattle.std.specs.Option.{option_to_list}
use Rattle.std.specs.Vec.{vec_len}
use Rattle.components.specs.Search.{start_of}
use Rattle.components.proofs.search.Search.leave.Goals as goal

pub returns-clause-starts : goal.returns-clause-starts
returns-clause-starts c =
    let items = c.self.inside.starts.items in
    let view = ap (λ v. v.starts) c.self.view_is in
    let size : vec_len c.self.inside.starts ≡ length items = omega (arith, c.self.inside.starts.ok.0) in
    let some : 0 < length items = subst (λ l. 0 < length l) (sym view) c.requires.last.0 in
    let is = c.requires.last.1 ∙ ap (λ l. start_of l (length l - 1)) (sym view) in
    let popped = c.pop-last.ensures.value (record { nodes = 0; edges = 0 }) (omega (arith, some, size)) ∙ ap (λ k. Some (start_of items (k - 1))) size ∙ ap Some (sym is) in
    sym view ∙ c.pop-last.ensures.items ∙ ap (λ r. c.pop-last.new.self.items ++ option_to_list r) popped
