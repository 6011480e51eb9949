use Rattle.std.proofs.Common.{rules, ◌≡◌, ◌∙◌, ap, false, true}
use Rattle.board.specs.Views.{known_at, is_known}
use Rattle.board.proofs.NoteLists.{some_is}
use Rattle.board.proofs.Gathered.{union_learned, learned_sizes}
use Rattle.board.proofs.memory.Memory.add.Goals as goal

pub returns-else-has-2-clause-cells : goal.returns-else-has-2-clause-cells
returns-else-has-2-clause-cells g c =
    let yes : is_known (known_at c.args.other.now c.args.n) ≡ true = search rules in
    let s = some_is (known_at c.args.other.now c.args.n) yes in
    learned_sizes c.args.self.now c.learn.new.self c.args.n s.0 ((c.learn.ensures.value s.0 (c.tell.ensures.1 ∙ s.1)).0 ∙ ap (λ m. Rattle.board.specs.Views.learned m c.args.n s.0) (search rules))

pub returns-else-has-2-clause-here : goal.returns-else-has-2-clause-here
returns-else-has-2-clause-here g c =
    let yes : is_known (known_at c.args.other.now c.args.n) ≡ true = search rules in
    let no_ : is_known (known_at c.args.self.now c.args.n) ≡ false = search rules in
    let s = some_is (known_at c.args.other.now c.args.n) yes in
    union_learned (known_at c.args.self.now c.args.n) (known_at c.args.other.now c.args.n) (known_at c.learn.new.self c.args.n) s.0 no_ s.1 (c.learn.ensures.value s.0 (c.tell.ensures.1 ∙ s.1)).1
