-- Loops: their ticks, their walks, and how they are left.
use Rattle.std.proofs.Common.{◌≡◌, ℕ, List, [], ◌∷◌, ◌++◌, Some, refl}
use Rattle.std.specs.Prelude.{Ok, codes}
use Rattle.grammar.specs.Tree.{equal, not_equal}
use Rattle.program_tree.specs.Resolved as tree
use Rattle.program_tree.specs.Resolved.{Term, numeral, operates, each, only_if, Steps, no_steps, step, Statement, add_to, evaluate, pass, break_loop, give_back, branch, loop, no_branches, a_branch, Program}
use Rattle.meaning.specs.Names.{slot}
use Rattle.meaning.specs.Operations.{arity}
use Rattle.meaning.specs.Outcome.{Final, put, slot_value}
use Rattle.meaning.specs.Entry.{entry}
use Rattle.meaning.specs.Expressions.{eval}
use Rattle.meaning.specs.Statements.{exec}
use Rattle.meaning.specs.Calls.{invoke}
use Rattle.meaning.proofs.Small.{Value, nothing, number, list_at, function, Kind, found, steps, iterating, failed, Small, fresh}
use Rattle.meaning.proofs.Written.{lines, local, list, each_in, own, sets, sets_global, calls, len_of, fails, append, def, file, ends_with, fault_at, called_with, cell}

abbrev numbers : List Term
numbers = numeral 1 ∷ numeral 2 ∷ numeral 3 ∷ []

abbrev small_numbers : List Value
small_numbers = number 1 ∷ number 2 ∷ number 3 ∷ []

abbrev is : ℕ → ℕ → Term
is n k = operates equal (local n) (numeral k)

-- if E: and statements, at a line
abbrev when : ℕ → Term → Steps → Statement
when n e body = branch (a_branch n e body no_branches) no_steps

-- a function without parameters, and x = f()
abbrev calling : ℕ → Steps → ℕ → Program
calling slots body n = file (codes "f" ∷ codes "x" ∷ []) (step 1 (def 0 [] slots body) (step n (sets_global 1 (calls 0 [])) no_steps))

abbrev made : Value → List Value → ℕ → Final Small Value Kind
made v vs n = Ok (
  nothing,
  record (fresh n) {
    cells = cell vs ∷ [];
    functions = (1, codes "f", []) ∷ [];
    globals = (1, v) ∷ (0, function (record { file = 0; number = 1 })) ∷ [];
  },
)

-- def f():
--     x = [1]
--     y = x
--     x += y
--     return y
abbrev shared : Program
shared = calling 2 (lines 2 (
    sets 0 (list (numeral 1 ∷ [])) ∷ sets 1 (local 0) ∷ add_to (slot 0) (local 1) ∷ give_back (Some (local 1)) ∷ [])) 6

shared_is_extended : ends_with shared 1 ≡ made (list_at 0) (number 1 ∷ number 1 ∷ []) 0
unfolding eval exec invoke put slot_value entry
shared_is_extended = refl

-- def f():
--     l = [1]
--     for x in l: l.append(x)
-- and the same with
--     for x in l: break
--     l.append(2)
abbrev appending : Program
appending = calling 2 (lines 2 (
    sets 0 (list (numeral 1 ∷ [])) ∷ loop (slot 1 ∷ []) (local 0) (step 3 (evaluate (append (local 0) (local 1))) no_steps) ∷ [])) 4

abbrev leaving : Program
leaving = calling 2 (lines 2 (
    sets 0 (list (numeral 1 ∷ [])) ∷ loop (slot 1 ∷ []) (local 0) (step 3 break_loop no_steps) ∷
    evaluate (append (local 0) (numeral 2)) ∷ [])) 5

walks_are_counted : (ends_with appending 9 ≡ fault_at iterating 3) × (ends_with leaving 2 ≡ made nothing (number 1 ∷ number 2 ∷ []) 0)
unfolding eval exec invoke put slot_value entry
walks_are_counted = (refl, refl)

-- def f():
--     for n in [1, 2, 3]:
--         pass
abbrev passing : Program
passing = calling 1 (lines 2 (loop (slot 0 ∷ []) (list numbers) (lines 3 (pass ∷ [])) ∷ [])) 4

-- called from outside, at line 1, it takes a tick there and three at the `for`
passing_ticks : (called_with passing 1 [] 4 ≡ Ok (nothing, record (fresh 0) { cells = cell small_numbers ∷ [] })) ×
    (called_with passing 1 [] 3 ≡ fault_at steps 2) × (called_with passing 1 [] 0 ≡ fault_at steps 1)
unfolding eval exec invoke put slot_value entry
passing_ticks = (refl, refl, refl)

-- def f(l):
--     for x in l:
--         if x == 2:
--             return len(l)
--     return 0
-- def g():
--     l = [1, 2, 3]
--     l.append(f(l))
--     return l
-- z = g()
abbrev returning : Program
returning = file (codes "f" ∷ codes "g" ∷ codes "z" ∷ []) (
    step 1 (def 0 (codes "l" ∷ []) 2 (
    step 2 (loop (slot 1 ∷ []) (local 0) (lines 3 (
    when 3 (is 1 2) (lines 4 (give_back (Some (len_of (local 0))) ∷ [])) ∷ []))) (
    lines 5 (give_back (Some (numeral 0)) ∷ [])))) (
    step 6 (def 1 [] 1 (lines 7 (
    sets 0 (list numbers) ∷ evaluate (append (local 0) (calls 0 (local 0 ∷ []))) ∷ give_back (Some (local 0)) ∷ []))) (
    lines 10 (sets_global 2 (calls 1 []) ∷ []))))

abbrev returned : Final Small Value Kind
returned = Ok (
  nothing,
  record (fresh 0) {
    cells = cell (small_numbers ++ number 3 ∷ []) ∷ [];
    functions = (2, codes "g", []) ∷ (1, codes "f", []) ∷ [];
    globals = (2, list_at 0) ∷ (1, function (record { file = 0; number = 2 })) ∷ (0, function (record { file = 0; number = 1 })) ∷ [];
  },
)

-- two entries, two turns and two comparisons; the walk ended with its loop
returning_ticks : (ends_with returning 6 ≡ returned) × (ends_with returning 5 ≡ fault_at steps 3)
unfolding eval exec invoke put slot_value entry
returning_ticks = (refl, refl)

-- def f(l):
--     for x in l:
--         for y in l:
--             if y == 2:
--                 break
--         if x == 2:
--             return [z for z in l if z != x]
--     return l
-- w = f([1, 2, 3])
abbrev nested : Program
nested = file (codes "f" ∷ codes "w" ∷ []) (
    step 1 (def 0 (codes "l" ∷ []) 4 (
    step 2 (loop (slot 1 ∷ []) (local 0) (
    step 3 (loop (slot 2 ∷ []) (local 0) (lines 4 (when 4 (is 2 2) (lines 5 (break_loop ∷ [])) ∷ []))) (
    lines 6 (when 6 (is 1 2) (lines 7 (
    give_back (Some (each (own 3 4) (local 3) (each_in 3 (local 0) (only_if (operates not_equal (local 3) (local 1)) tree.done)))) ∷ [])) ∷ [])))) (
    lines 8 (give_back (Some (local 0)) ∷ [])))) (
    lines 9 (sets_global 1 (calls 0 (list numbers ∷ [])) ∷ [])))

abbrev nested_gives : Final Small Value Kind
nested_gives = Ok (
  nothing,
  record (fresh 0) {
    cells = cell small_numbers ∷ cell (number 1 ∷ number 3 ∷ []) ∷ [];
    functions = (1, codes "f", []) ∷ [];
    globals = (1, list_at 1) ∷ (0, function (record { file = 0; number = 1 })) ∷ [];
  },
)

-- one entry, two outer and four inner turns, six comparisons by `==`, three turns and three comparisons of the comprehension
nested_ticks : (ends_with nested 19 ≡ nested_gives) × (ends_with nested 18 ≡ fault_at steps 7)
unfolding eval exec invoke put slot_value entry
nested_ticks = (refl, refl)

-- def f():
--     if 0:
--         pass
--     elif fail():
--         pass
abbrev conditions : Program
conditions = calling 0 (lines 2 (
    branch (a_branch 2 (numeral 0) (lines 3 (pass ∷ [])) (a_branch 4 fails (lines 5 (pass ∷ [])) no_branches)) no_steps ∷ [])) 6

-- def f():
--     for x, y in [[1, 2], [3]]:
--         pass
abbrev unpacking : Program
unpacking = calling 2 (lines 2 (
    loop (slot 0 ∷ slot 1 ∷ []) (list (list (numeral 1 ∷ numeral 2 ∷ []) ∷ list (numeral 3 ∷ []) ∷ [])) (lines 3 (pass ∷ [])) ∷ [])) 4

-- the test of an `elif` stands at its own line; what a turn begins with stands at the `for`, and its tick comes first
faults_have_lines : (ends_with conditions 1 ≡ fault_at failed 4) × (ends_with unpacking 3 ≡ fault_at (found arity) 2) ×
    (ends_with unpacking 2 ≡ fault_at steps 2)
unfolding eval exec invoke put slot_value entry
faults_have_lines = (refl, refl, refl)
