-- Functions: defaults, recursion, names that loads bind, and calls from outside.
use Rattle.std.proofs.Common.{◌≡◌, ℕ, [], ◌∷◌, Option, Some, None, refl}
use Rattle.std.specs.Prelude.{Ok, codes}
use Rattle.program_tree.specs.Resolved.{numeral, operates, invokes, selects, no_keywords, load, evaluate, pass, give_back, define, step, Program}
use Rattle.grammar.specs.Tree.{both}
use Rattle.meaning.specs.Operations.{FunctionId, arity, recursion, deep, plain}
use Rattle.meaning.specs.Outcome.{Final, put, slot_value}
use Rattle.meaning.specs.Entry.{entry}
use Rattle.meaning.specs.Functions.{def_line}
use Rattle.meaning.specs.Expressions.{eval}
use Rattle.meaning.specs.Statements.{exec}
use Rattle.meaning.specs.Calls.{invoke}
use Rattle.meaning.proofs.Small.{Value, nothing, number, text, list_at, function, Kind, found, steps, no_name, failed, Small, fresh, small}
use Rattle.meaning.proofs.Written.{lines, terms, local, outer, list, sets_global, calls, len_of, fails, append, def, file, ends_with, fault_at, called_with, cell}

abbrev id : ℕ → FunctionId
id n = record { file = 0; number = n }

-- def f(l = []):
--     l.append(1)
--     return len(l)
-- x = f()
-- y = f()
abbrev kept : Program
kept = file (codes "f" ∷ codes "x" ∷ codes "y" ∷ []) (
    step 1 (define 0 0 (codes "l" ∷ []) (terms (list [] ∷ [])) 1 (lines 2 (
    evaluate (append (local 0) (numeral 1)) ∷ give_back (Some (len_of (local 0))) ∷ []))) (
    lines 4 (sets_global 1 (calls 0 []) ∷ sets_global 2 (calls 0 []) ∷ [])))

-- a default is made once, and a tick is taken at each call alone
kept_defaults : ends_with kept 2 ≡ Ok (
  nothing,
  record (fresh 0) {
    cells = cell (number 1 ∷ number 1 ∷ []) ∷ [];
    functions = (1, codes "f", list_at 0 ∷ []) ∷ [];
    globals = (2, number 2) ∷ (1, number 1) ∷ (0, function (id 1)) ∷ [];
  },
)
unfolding eval exec invoke put slot_value entry
kept_defaults = refl

-- def f():
--     return g()
-- def g():
--     return f()
-- x = f()
abbrev mutual_calls : Program
mutual_calls = file (codes "f" ∷ codes "g" ∷ codes "x" ∷ []) (
    step 1 (def 0 [] 0 (lines 2 (give_back (Some (calls 1 [])) ∷ []))) (
    step 3 (def 1 [] 0 (lines 4 (give_back (Some (calls 0 [])) ∷ []))) (
    lines 5 (sets_global 2 (calls 0 []) ∷ []))))

recursion_is_refused : (ends_with mutual_calls 2 ≡ fault_at (found recursion) 4) × (ends_with mutual_calls 1 ≡ fault_at steps 2)
unfolding eval exec invoke put slot_value entry
recursion_is_refused = (refl, refl)

-- def f():
--     return g()
-- def g():
--     return 1
-- x = f()
-- y = f()
abbrev again : Program
again = file (codes "f" ∷ codes "g" ∷ codes "x" ∷ codes "y" ∷ []) (
    step 1 (def 0 [] 0 (lines 2 (give_back (Some (calls 1 [])) ∷ []))) (
    step 3 (def 1 [] 0 (lines 4 (give_back (Some (numeral 1)) ∷ []))) (
    lines 5 (sets_global 2 (calls 0 []) ∷ sets_global 3 (calls 0 []) ∷ []))))

abbrev called_again : ℕ → Final Small Value Kind
called_again n = Ok (
  nothing,
  record (fresh n) {
    functions = (2, codes "g", []) ∷ (1, codes "f", []) ∷ [];
    globals = (3, number 1) ∷ (2, number 1) ∷ (1, function (id 2)) ∷ (0, function (id 1)) ∷ [];
  },
)

again_is_well : ends_with again 4 ≡ called_again 0
unfolding eval exec invoke put slot_value entry
again_is_well = refl

-- where no more functions may become active, a call is refused after the tests of its arguments and before its tick
abbrev deepest : Value → Final Small Value Kind
deepest v = invoke small (again ∷ []) 0 (record { file = 0; at = 7; active = [] }) (plain v) (record { items = []; named = [] }) (fresh 0)

deep_is_refused : deepest (function (id 1)) ≡ fault_at (found deep) 7
unfolding invoke entry
deep_is_refused = refl

-- x = [].foo(fail()): what is called comes before the arguments;  x = 1(fail()): that it can't be called comes after them
abbrev absent : Program
absent = file (codes "x" ∷ []) (lines 1 (sets_global 0 (invokes (selects (list []) (codes "foo")) (terms (fails ∷ [])) no_keywords) ∷ []))

abbrev uncalled : Program
uncalled = file (codes "x" ∷ []) (lines 1 (sets_global 0 (invokes (numeral 1) (terms (fails ∷ [])) no_keywords) ∷ []))

callees_come_first : (ends_with absent 0 ≡ fault_at no_name 1) × (ends_with uncalled 0 ≡ fault_at failed 1)
unfolding eval exec invoke put slot_value entry
callees_come_first = (refl, refl)

-- def g(a, b): return a and b
-- x = g([], 1)
-- y = g(2, 3)
abbrev conjunction : Program
conjunction = file (codes "g" ∷ codes "x" ∷ codes "y" ∷ []) (lines 1 (
    def 0 (codes "a" ∷ codes "b" ∷ []) 2 (lines 1 (give_back (Some (operates both (local 0) (local 1))) ∷ [])) ∷
    sets_global 1 (calls 0 (numeral 0 ∷ numeral 1 ∷ [])) ∷ sets_global 2 (calls 0 (numeral 2 ∷ numeral 3 ∷ [])) ∷ []))

conjunction_gives_operands : ends_with conjunction 2 ≡ Ok (
  nothing,
  record (fresh 0) {
    functions = (1, codes "g", []) ∷ [];
    globals = (2, number 3) ∷ (1, number 0) ∷ (0, function (id 1)) ∷ [];
  },
)
unfolding eval exec invoke put slot_value entry
conjunction_gives_operands = refl

-- load("m", "x")
-- y = x
-- def f(): pass
-- def g(): pass
abbrev loading : Program
loading = file (codes "x" ∷ codes "y" ∷ codes "f" ∷ codes "g" ∷ []) (lines 1 (
    load (codes "m") (record { asked = codes "x"; binds = 0 } ∷ []) ∷
    sets_global 1 (outer 0) ∷ def 2 [] 0 (lines 3 (pass ∷ [])) ∷ def 3 [] 0 (lines 4 (pass ∷ [])) ∷ []))

-- a loaded name is none of the file's globals; functions have the names of their `def`s
loading_apart : ends_with loading 0 ≡ Ok (
  nothing,
  record (fresh 0) {
    functions = (2, codes "g", []) ∷ (1, codes "f", []) ∷ [];
    loads = (0, text (codes "x")) ∷ [];
    globals = (3, function (id 2)) ∷ (2, function (id 1)) ∷ (1, text (codes "x")) ∷ [];
  },
)
unfolding eval exec invoke put slot_value
loading_apart = refl

abbrev line_of : ℕ → Option ℕ
line_of m = def_line (loading ∷ []) (id m)

lines_of_functions : (line_of 0 ≡ None) × (line_of 1 ≡ Some 3) × (line_of 2 ≡ Some 4) × (line_of 3 ≡ None)
lines_of_functions = (refl, refl, refl, refl)

-- a function is called from outside at the line of its `def`: there stand its tick, and arguments that don't fit
called_from_outside : (called_with loading 2 (nothing ∷ []) 4 ≡ fault_at (found arity) 4) ×
    (called_with loading 2 [] 0 ≡ fault_at steps 4) × (called_with loading 2 [] 1 ≡ Ok (nothing, fresh 0))
unfolding eval exec invoke put slot_value entry
called_from_outside = (refl, refl, refl)

-- x = 1
-- def f(a = fail()): pass
-- a default is evaluated where the `def` is run
abbrev defaulting : Program
defaulting = file (codes "x" ∷ codes "f" ∷ []) (lines 1 (
    sets_global 0 (numeral 1) ∷
    define 0 1 (codes "a" ∷ []) (terms (fails ∷ [])) 1 (lines 2 (pass ∷ [])) ∷ []))

defaults_have_lines : ends_with defaulting 0 ≡ fault_at failed 2
unfolding eval exec invoke put slot_value
defaults_have_lines = refl
