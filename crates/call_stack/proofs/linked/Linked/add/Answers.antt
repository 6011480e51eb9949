use Rattle.std.proofs.Common.{subst, sym}
use Rattle.meaning.specs.Linked.{AreFileCodes}
use Rattle.call_stack.proofs.Lists.{still_compiled}
use Rattle.call_stack.proofs.linked.Linked.add.Goals as goal

pub invariant_of-self : goal.invariant_of-self
invariant_of-self c = record { compiled = subst (λ x. ∥ AreFileCodes x ∥₁) (sym c.push.ensures.items) (still_compiled _ _ c.args.code c.args.self.now.compiled c.functions-compiled.ensures.compiled) }
