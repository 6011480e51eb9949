-- Programs as their trees, and how they end.
use Rattle.std.proofs.Common.{ℕ, ◌+◌, List, [], ◌∷◌}
use Rattle.std.specs.Prelude.{Err, codes}
use Rattle.program_tree.specs.Names.{Name}
use Rattle.program_tree.specs.Resolved.{Term, named, numeral, listing, invokes, selects, Terms, no_terms, more_terms, Keywords, no_keywords, more_keywords, Rounds, for_each, Statement, assign, define, Steps, no_steps, step, Program, program}
use Rattle.meaning.specs.Names.{OwnSlots, slot, global, builtin, len_function, fail_function}
use Rattle.meaning.specs.Outcome.{Final}
use Rattle.meaning.specs.Calls.{function_meaning, top_meaning}
use Rattle.meaning.proofs.Small.{Value, Kind, Cell, Small, fresh, small}

-- statements at lines that count on from n
abbrev pub lines : ℕ → List Statement → Steps
lines n [] = no_steps
lines n (s ∷ ss) = step n s (lines (n + 1) ss)

abbrev pub terms : List Term → Terms
terms [] = no_terms
terms (e ∷ es) = more_terms e (terms es)

abbrev pub keywords : List (Name × Term) → Keywords
keywords [] = no_keywords
keywords (k ∷ ks) = more_keywords k.0 k.1 (keywords ks)

-- a local name, a global, a list, a comprehension's `for`, an assignment to one name
abbrev pub local : ℕ → Term
local n = named (slot n)

abbrev pub outer : ℕ → Term
outer n = named (global n)

abbrev pub list : List Term → Term
list es = listing (terms es)

abbrev pub one : ℕ → Term
one n = list (numeral n ∷ [])

abbrev pub each_in : ℕ → Term → Rounds → Rounds
each_in n e r = for_each (slot n ∷ []) e r

-- the slots of a comprehension, from one up to another
abbrev pub own : ℕ → ℕ → OwnSlots
own first end = record { first = first; end = end }

abbrev pub sets : ℕ → Term → Statement
sets n e = assign (slot n ∷ []) e

abbrev pub sets_global : ℕ → Term → Statement
sets_global n e = assign (global n ∷ []) e

-- a call of a global, of `len` and of a method, with arguments by position
abbrev pub calls : ℕ → List Term → Term
calls n es = invokes (outer n) (terms es) no_keywords

abbrev pub len_of : Term → Term
len_of e = invokes (named (builtin len_function)) (terms (e ∷ [])) no_keywords

abbrev pub fails : Term
fails = invokes (named (builtin fail_function)) no_terms no_keywords

abbrev pub append : Term → Term → Term
append f e = invokes (selects f (codes "append")) (terms (e ∷ [])) no_keywords

-- a function without parameters with a default, with so many slots; it gets its number in its file
abbrev pub def : ℕ → List Name → ℕ → Steps → Statement
def n ps slots body = define 0 n ps no_terms slots body

-- a file that loads nothing
abbrev pub file : List Name → Steps → Program
file names steps = program names 0 steps

-- how the top level of a file ends, with so many ticks
abbrev pub ends_with : Program → ℕ → Final Small Value Kind
ends_with p n = top_meaning small (p ∷ []) 0 (fresh n)

abbrev pub fault_at : Kind → ℕ → Final Small Value Kind
fault_at k n = Err (record { kind = k; file = 0; line = n })

-- how a function of the file ends that is called from outside, before anything was done
abbrev pub called_with : Program → ℕ → List Value → ℕ → Final Small Value Kind
called_with p m vs n =
    function_meaning small (p ∷ []) (record { file = 0; number = m }) (record { items = vs; named = [] }) (fresh n)

-- a list that isn't walked
abbrev pub cell : List Value → Cell
cell vs = record { items = vs; walks = 0 }
