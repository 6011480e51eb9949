-- In which order parts of expressions and statements are evaluated: each part puts its number into a list.
use Rattle.std.proofs.Common.{◌≡◌, ℕ, zero, suc, ◌+◌, List, [], ◌∷◌, map, Option, Some, None, refl}
use Rattle.std.specs.Prelude.{Ok, Err, slice_get, codes}
use Rattle.grammar.specs.Tree.{add, both, either}
use Rattle.program_tree.specs.Resolved as tree
use Rattle.program_tree.specs.Resolved.{Term, numeral, choice, dict, more_pairs, no_pairs, operates, subscript, invokes, each_pair, Statement, assign, assign_item, add_to_item, evaluate, give_back, Program}
use Rattle.meaning.specs.Names.{slot}
use Rattle.meaning.specs.Outcome.{Final, put, slot_value}
use Rattle.meaning.specs.Entry.{entry}
use Rattle.meaning.specs.Expressions.{eval}
use Rattle.meaning.specs.Statements.{exec}
use Rattle.meaning.specs.Calls.{invoke}
use Rattle.meaning.proofs.Small.{Value, number, Kind, Cell, Small}
use Rattle.meaning.proofs.Written.{lines, terms, keywords, local, outer, list, each_in, own, sets_global, calls, append, def, file, ends_with}

abbrev items_of : Option Cell → List Value
items_of None = []
items_of (Some c) = c.items

-- what the first list of a file holds when its top level has ended
abbrev first_list : Final Small Value Kind → List Value
first_list (Ok r) = items_of (slice_get r.1.cells 0)
first_list (Err e) = []

-- part n, with the value n; part n, with the value 0; part n, with a list of one number
abbrev part : ℕ → Term
part n = calls 2 (numeral n ∷ [])

abbrev zero_part : ℕ → Term
zero_part n = calls 3 (numeral n ∷ [])

abbrev list_part : ℕ → Term
list_part n = calls 4 (numeral n ∷ [])

-- a function of n that puts n into the first list and gives this back
abbrev notes : ℕ → Term → Statement
notes g e = def g (codes "n" ∷ []) 1 (lines 3 (evaluate (append (outer 0) (local 0)) ∷ give_back (Some e) ∷ []))

-- l = [], k = [0], the three functions above, def f(a, b): return a, and a function with these statements, which is called
abbrev noting : List Statement → Program
noting body = file (codes "l" ∷ codes "k" ∷ codes "s" ∷ codes "t" ∷ codes "h" ∷ codes "f" ∷ codes "m" ∷ codes "z" ∷ []) (lines 1 (
    sets_global 0 (list []) ∷ sets_global 1 (list (numeral 0 ∷ [])) ∷
    notes 2 (local 0) ∷ notes 3 (numeral 0) ∷ notes 4 (outer 1) ∷
    def 5 (codes "a" ∷ codes "b" ∷ []) 2 (lines 9 (give_back (Some (local 0)) ∷ [])) ∷
    def 6 [] 4 (lines 10 body) ∷ sets_global 7 (calls 6 []) ∷ []))

-- the numbers from the one behind n on, so many
abbrev from : ℕ → ℕ → List Value
from n zero = []
from n (suc k) = number (n + 1) ∷ from (n + 1) k

-- [s(1), s(2)]; f(s(3), b = s(4)); s(5) + s(6); s(8) if s(7) else s(99); {s(9): s(10), s(11): s(12)};
-- {s(14): s(15) for x in [s(13)]}; h(16)[s(17)]; t(18) and s(99); s(19) or s(99); s(20) and s(21)
abbrev expressions : List Term
expressions =
    list (part 1 ∷ part 2 ∷ []) ∷
    invokes (outer 5) (terms (part 3 ∷ [])) (keywords ((codes "b", part 4) ∷ [])) ∷
    operates add (part 5) (part 6) ∷
    choice (part 8) (part 7) (part 99) ∷
    dict (more_pairs (part 9) (part 10) (more_pairs (part 11) (part 12) no_pairs)) ∷
    each_pair (own 3 4) (part 14) (part 15) (each_in 3 (list (part 13 ∷ [])) tree.done) ∷
    subscript (list_part 16) (part 17) ∷
    operates both (zero_part 18) (part 99) ∷
    operates either (part 19) (part 99) ∷
    operates both (part 20) (part 21) ∷ []

expressions_in_order : first_list (ends_with (noting (map evaluate expressions)) 99) ≡ from 0 21
unfolding eval exec invoke put slot_value entry
expressions_in_order = refl

-- h(2)[t(3)] = s(1); h(4)[t(5)] += s(6); x, y = [s(7), s(8)]; return s(9)
abbrev statements : List Statement
statements =
    assign_item (list_part 2) (zero_part 3) (part 1) ∷
    add_to_item (list_part 4) (zero_part 5) (part 6) ∷
    assign (slot 0 ∷ slot 1 ∷ []) (list (part 7 ∷ part 8 ∷ [])) ∷
    give_back (Some (part 9)) ∷
    evaluate (part 99) ∷ []

statements_in_order : first_list (ends_with (noting statements) 99) ≡ from 0 9
unfolding eval exec invoke put slot_value entry
statements_in_order = refl
