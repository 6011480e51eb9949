-- Comprehensions: which names are set in them, and their ticks.
use Rattle.std.proofs.Common.{◌≡◌, [], ◌∷◌, Some, refl}
use Rattle.std.specs.Prelude.{Ok, codes}
use Rattle.grammar.specs.Tree.{equal}
use Rattle.program_tree.specs.Resolved as tree
use Rattle.program_tree.specs.Resolved.{Term, numeral, choice, operates, each, each_pair, only_if, give_back, step, Program}
use Rattle.meaning.specs.Operations.{unset}
use Rattle.meaning.specs.Outcome.{put, slot_value}
use Rattle.meaning.specs.Entry.{entry}
use Rattle.meaning.specs.Expressions.{eval}
use Rattle.meaning.specs.Statements.{exec}
use Rattle.meaning.specs.Calls.{invoke}
use Rattle.meaning.proofs.Small.{nothing, number, list_at, found, steps, fresh}
use Rattle.meaning.proofs.Written.{lines, local, list, one, each_in, own, sets, sets_global, calls, def, file, ends_with, fault_at, cell}

-- x = E
abbrev assigning : Term → Program
assigning e = file (codes "x" ∷ []) (lines 1 (sets_global 0 e ∷ []))

-- [q for p in [1] for q in [7]], in slots 0 and 1
abbrev sevens : Term
sevens = each (own 0 2) (local 1) (each_in 0 (one 1) (each_in 1 (one 7) tree.done))

-- x = [y for a in [q for p in [1] for q in [7]] for y in [y]]: what the first operand leaves in the slots isn't seen
abbrev leftover : Program
leftover = assigning (each (own 0 2) (local 1) (each_in 0 sevens (each_in 1 (list (local 1 ∷ [])) tree.done)))

leftover_is_unset : (ends_with leftover 3 ≡ fault_at (found unset) 1) × (ends_with leftover 2 ≡ fault_at steps 1)
unfolding eval exec invoke put slot_value
leftover_is_unset = (refl, refl)

-- x = [y for a in [q for p in [1] for q in [7]] if y for y in [5]]
abbrev tested : Program
tested = assigning (each (own 0 2) (local 1) (each_in 0 sevens (only_if (local 1) (each_in 1 (one 5) tree.done))))

tested_is_unset : (ends_with tested 3 ≡ fault_at (found unset) 1) × (ends_with tested 2 ≡ fault_at steps 1)
unfolding eval exec invoke put slot_value
tested_is_unset = (refl, refl)

-- x = {y: a for a in [q for p in [1] for q in [7]] for y in [y]}
abbrev keyed : Program
keyed = assigning (each_pair (own 0 2) (local 1) (local 0) (each_in 0 sevens (each_in 1 (list (local 1 ∷ [])) tree.done)))

keyed_is_unset : (ends_with keyed 3 ≡ fault_at (found unset) 1) × (ends_with keyed 2 ≡ fault_at steps 1)
unfolding eval exec invoke put slot_value
keyed_is_unset = (refl, refl)

-- def f():
--     l = [1]
--     return [v for u in [q for p in l for q in l] for v in [v] if v]
-- x = f()
abbrev inside : Program
inside = file (codes "f" ∷ codes "x" ∷ []) (step 1 (def 0 [] 3 (lines 2 (
    sets 0 (one 1) ∷
    give_back (Some (each (own 1 3) (local 2)
    (each_in 1 (each (own 1 3) (local 2) (each_in 1 (local 0) (each_in 2 (local 0) tree.done)))
    (each_in 2 (list (local 2 ∷ [])) (only_if (local 2) tree.done))))) ∷ [])))
    (lines 4 (sets_global 1 (calls 0 []) ∷ [])))

-- a tick of the call, on line 4, and three turns, on line 3
inside_is_unset : (ends_with inside 4 ≡ fault_at (found unset) 3) × (ends_with inside 3 ≡ fault_at steps 3) × (ends_with inside 0 ≡ fault_at steps 4)
unfolding eval exec invoke put slot_value entry
inside_is_unset = (refl, refl, refl)

-- x = [v for u in [1, 2] for v in ([v] if u == 2 else [5])]: a name keeps its value from turn to turn
abbrev kept : Program
kept = assigning (each (own 0 2) (local 1)
    (each_in 0 (list (numeral 1 ∷ numeral 2 ∷ []))
    (each_in 1 (choice (list (local 1 ∷ [])) (operates equal (local 0) (numeral 2)) (one 5)) tree.done)))

-- four turns and two comparisons
kept_is_five : ends_with kept 6 ≡ Ok (
  nothing,
  record (fresh 0) {
    globals = (0, list_at 0) ∷ [];
    cells =
        cell (number 5 ∷ number 5 ∷ []) ∷ cell (number 1 ∷ number 2 ∷ []) ∷ cell (number 5 ∷ []) ∷ cell (number 5 ∷ []) ∷ [];
  },
)
unfolding eval exec invoke put slot_value
kept_is_five = refl

-- x = [[w for u in [1] for w in ([w] if k == 2 else [5])] for k in [1, 2]]: and loses it from one evaluation to the next
abbrev lost : Program
lost = assigning (each (own 0 1)
    (each (own 1 3) (local 2) (each_in 1 (one 1)
    (each_in 2 (choice (list (local 2 ∷ [])) (operates equal (local 0) (numeral 2)) (one 5)) tree.done)))
    (each_in 0 (list (numeral 1 ∷ numeral 2 ∷ [])) tree.done))

lost_is_unset : (ends_with lost 7 ≡ fault_at (found unset) 1) × (ends_with lost 6 ≡ fault_at steps 1)
unfolding eval exec invoke put slot_value
lost_is_unset = (refl, refl)

-- x = [w for u in [1, 2] for w in [u, 5]]: a tick a turn and no other
abbrev counted : Program
counted = assigning (each (own 0 2) (local 1)
    (each_in 0 (list (numeral 1 ∷ numeral 2 ∷ [])) (each_in 1 (list (local 0 ∷ numeral 5 ∷ [])) tree.done)))

counted_six : ends_with counted 6 ≡ Ok (
  nothing,
  record (fresh 0) {
    globals = (0, list_at 0) ∷ [];
    cells =
        cell (number 1 ∷ number 5 ∷ number 2 ∷ number 5 ∷ []) ∷ cell (number 1 ∷ number 2 ∷ []) ∷
        cell (number 1 ∷ number 5 ∷ []) ∷ cell (number 2 ∷ number 5 ∷ []) ∷ [];
  },
)
unfolding eval exec invoke put slot_value
counted_six = refl

counted_five : ends_with counted 5 ≡ fault_at steps 1
unfolding eval exec invoke put slot_value
counted_five = refl

-- x = [u for u in [1] for w in [2]]: the names of a clause stay while those behind it are walked
abbrev stays : Program
stays = assigning (each (own 0 2) (local 0) (each_in 0 (one 1) (each_in 1 (one 2) tree.done)))

stays_one : ends_with stays 2 ≡ Ok (
  nothing,
  record (fresh 0) {
    globals = (0, list_at 0) ∷ [];
    cells =
        cell (number 1 ∷ []) ∷ cell (number 1 ∷ []) ∷ cell (number 2 ∷ []) ∷ [];
  },
)
unfolding eval exec invoke put slot_value
stays_one = refl
