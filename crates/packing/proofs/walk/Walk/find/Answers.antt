use Rattle.std.proofs.Common.{refl, subst, sym, List, ℕ}
use Rattle.std.specs.Prelude.{Contains}
use Rattle.packing.proofs.WalkLemmas.{grows-found, insert-has, stays-found}
use Rattle.packing.proofs.walk.Walk.find.Goals as goal

pub returns-clause-grows : goal.returns-clause-grows
returns-clause-grows c at is = grows-found at c.args.self.now _ c.args.path c.in_ok-insert.ensures.keys refl refl is

pub returns-clause-has : goal.returns-clause-has
returns-clause-has c =
    subst (λ (ks : List (List ℕ)). Contains ks c.args.path) (sym c.in_ok-insert.ensures.keys) (insert-has c.args.self.now.files.keys c.args.path)

pub returns-clause-only : goal.returns-clause-only
returns-clause-only c at reached = stays-found at c.args.self.now _ c.args.path c.in_ok-insert.ensures.keys refl refl reached
