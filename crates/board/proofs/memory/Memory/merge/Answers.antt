use Rattle.std.proofs.Common.{◌≡◌, ◌+◌, ◌<◌, ◌≤◌, ℕ, min, refl, arith, ◌∙◌}
use Rattle.board.specs.Views.{known_at, Union}
use Rattle.board.proofs.NoteLists.{as_many, not_up, union_none, skipped, merged_one, merged_all}
use Rattle.board.proofs.memory.Memory.merge.Goals as goal

none_below : {X : Type 0} (k : ℕ) → k < 0 → X
none_below k lt = absurd (omega arith)

passes_over : (n sum next nodes : ℕ) → n < nodes → nodes < 18446744073709551616 → sum ≡ min (n + 64) 18446744073709551615 → next ≡ min sum nodes → (n ≤ next) × (next ≤ n + 64)
passes_over n sum next nodes low fits a b = (omega arith, omega arith)

pub returns-then-is_new-clause-known : goal.returns-then-is_new-clause-known
returns-then-is_new-clause-known g c n =
    union_none (known_at c.args.self.now n) (known_at c.args.other.now n) (not_up c.other.inside.notes.items c.other.inside.flags c.args.other.now n c.other.view_is c.other.invariant (c.if-is_new.ensures n))

pub loop-n-init : goal.loop-n-init
loop-n-init g c = record {
  cells = refl;
  size = refl;
  nodes = c.len-nodes.ensures ∙ c.self.inside.notes.ok.0 ∙ as_many c.self.inside.notes.items c.args.self.now c.self.view_is;
  below = λ k lt. none_below k lt;
  above = λ k le. refl;
}

pub loop-n-preserved-then-is_blank : goal.loop-n-preserved-then-is_blank
loop-n-preserved-then-is_blank g c =
    let i = c.loop-n.invariant in let p = passes_over c.loop-n.n c.saturating_add.result c.min-n.result c.len-nodes.result c.loop-n-test.true c.len-nodes.type_inv c.saturating_add.ensures c.min-n.ensures in
    record {
      cells = i.cells;
      size = i.size;
      nodes = i.nodes;
      below = skipped c.args.self.now c.args.other.now c.loop-n.self c.loop-n.n c.min-n.result c.if-n-eq0.true p.1
          (λ k e. not_up c.other.inside.notes.items c.other.inside.flags c.args.other.now k c.other.view_is c.other.invariant (c.if-is_blank.ensures k e)) i.below i.above;
      above = λ k le. i.above k (omega (arith, le, p.0));
    }

pub loop-n-preserved : goal.loop-n-preserved
loop-n-preserved g c = let i = c.loop-n.invariant in record {
  cells = c.add.ensures.cells.0 ∙ i.cells;
  size = c.add.ensures.cells.1 ∙ i.size;
  nodes = i.nodes;
  below = merged_one c.args.self.now c.args.other.now c.loop-n.self c.add.new.self c.loop-n.n c.add.ensures.here c.add.ensures.others i.below i.above;
  above = λ k le. c.add.ensures.others k (omega arith) ∙ i.above k (omega arith);
}

pub returns-clause-known : goal.returns-clause-known
returns-clause-known g c =
    let i = c.loop-n.invariant in
    merged_all c.args.self.now c.args.other.now c.loop-n.self c.len-nodes.result c.loop-n.n c.requires.1 i.nodes c.loop-n-test.false i.below i.above
