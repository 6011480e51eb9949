-- What holds of states and of values while something is evaluated, over a world that only grows:
-- what is known at a point stays known (this project's own notion; the depsets that an evaluation
-- has seen are such a world).
use Rattle.std.specs.Prelude.{List, [], ◌∷◌, Option, Some, None, Result, Ok, Err}
use Rattle.program_tree.specs.Names.{Name}
use Rattle.meaning.specs.Operations.{Callee, plain, method, Arguments}

-- a notion of what holds, by worlds of what is known
pub record Kept (S V : Type 0) : Type 1 where
  -- what is known at a point
  pub World : Type 0
  -- the second world knows what the first knows, and maybe more
  pub grows : World → World → Type 0
  pub same : (k : World) → grows k k
  pub further : (k l m : World) → grows k l → grows l m → grows k m
  -- a state holds, and a value is good, in a world; a good value stays good as the world grows
  pub holds : World → S → Type 0
  pub good : World → V → Type 0
  pub stays : (k l : World) (v : V) → grows k l → good k v → good l v

module _ {S V : Type 0} (r : Kept S V) where
  -- each of these values is good
  abbrev pub goods : r.World → List V → Type 0
  goods k [] = Unit {0}
  goods k (v ∷ vs) = r.good k v × goods k vs

  -- each of these values with names is good
  abbrev pub named_goods : r.World → List (Name × V) → Type 0
  named_goods k [] = Unit {0}
  named_goods k (p ∷ ps) = r.good k p.1 × named_goods k ps

  -- what is set in a slot, if anything is, is good
  abbrev pub good_slot : r.World → Option V → Type 0
  good_slot k None = Unit {0}
  good_slot k (Some v) = r.good k v

  -- what is set in these slots is good
  abbrev pub good_slots : r.World → List (Option V) → Type 0
  good_slots k [] = Unit {0}
  good_slots k (o ∷ os) = good_slot k o × good_slots k os

  -- what a call calls is a good value, or a method of one
  abbrev pub good_callee : r.World → Callee V → Type 0
  good_callee k (plain v) = r.good k v
  good_callee k (method v x) = r.good k v

  -- all arguments of a call are good
  abbrev pub good_arguments : r.World → Arguments V → Type 0
  good_arguments k a = goods k a.items × named_goods k a.named

  -- What is given, if it is given, is so in a world that has grown, in which the state holds that
  -- comes after.
  abbrev pub Gives : {A E : Type 0} → (r.World → A → Type 0) → r.World → Result (A × S) E → Type 0
  Gives P k (Ok p) = (w : r.World) × r.grows k w × r.holds w p.1 × P w p.0
  Gives P k (Err e) = Unit {0}

  -- nothing is asked of what is given
  abbrev pub anything : {A : Type 0} → r.World → A → Type 0
  anything k a = Unit {0}
