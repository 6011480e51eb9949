-- The statements of a file stand in their places, and what their names stand for is there.
use Rattle.std.proofs.Common.{◌≡◌, ℕ, ◌<◌, ◌≤◌, Bool, true, false, not, ◌&&◌, ◌||◌, List, [], ◌∷◌, ◌++◌, length, map, max, Option, Some, None, refl, ap, ◌∙◌, arith, length-append}
use Rattle.std.specs.Prelude.{bytes_eq}
use Rattle.std.specs.List.{AllByRecursion, list_all}
use Rattle.std.proofs.lemmas.List.Folds.{list_any-append}
use Rattle.grammar.specs.BareLines.{Param, required, optional, Item, Form, loads, defines, if_head, elif_head, else_head, for_head, assigns, assigns_at, increases, increases_at, evaluates, passes, breaks, continues, returns, Lines, no_lines, a_line}
use Rattle.program_tree.specs.Names.{Name, Scope, or_else, among, apart, distinct, once, width, param_name, form_binds, lines_bind, function_scope, scope_of}
use Rattle.file_syntax.specs.Scopes.{none_predeclared}
use Rattle.file_syntax.specs.Scopes.{scoped, param_scoped, defaults_last, form_scoped, line_scoped, adds_to_name, top_line_scoped, unless, lines_fault, top_fault}
use Rattle.program_tree.specs.Resolved.{Statement, load, assign, assign_item, add_to, add_to_item, evaluate, pass, break_loop, continue_loop, give_back, branch, loop, define, Steps, no_steps, step, Made, made, defaults, binding_of, global_of, terms_slots, branches_slots, steps_slots, with_number, next_number, numbered}
use Rattle.program_tree.specs.declared.program.Loaded.{Loaded}
use Rattle.file_syntax.specs.IsProgram.{Around, at_top, in_function, in_loop, InFunction, IsTarget, count, AreTerms, IsStatement, AreBranches, AreSteps}
use Rattle.file_syntax.proofs.NamePlaces.{both, not_both}
use Rattle.file_syntax.proofs.NamePlaces.{among_once, stay_first, all_among, Binds, bound_global, target}
use Rattle.file_syntax.proofs.TermRanges.{term_ranges}
use Rattle.file_syntax.proofs.TokensFit.{split_all}
use Rattle.file_syntax.proofs.WellFormed.{ParamWell, LinesWell}

-- a line without fault
pub line_parts : (n : ℕ) (b : Bool) (o r : Option ℕ) → or_else (unless n b) (or_else o r) ≡ None → (b ≡ true) × (o ≡ None) × (r ≡ None)
line_parts n true None r h = (refl, refl, h)
line_parts n true (Some k) r h = absurd cc
line_parts n false o r h = absurd cc

form_parts : (s : Scope) (n : ℕ) (f : Form) (o r : Option ℕ) → or_else (unless n (line_scoped s f)) (or_else o r) ≡ None
    → (form_scoped s f ≡ true) × (o ≡ None) × (r ≡ None)
form_parts s n f o r h =
    let q = line_parts n (line_scoped s f) o r h in
    ((both (none_predeclared (form_binds f)) (form_scoped s f) q.0).1, q.1, q.2)

-- nothing is added to a name of the top level
abbrev pub AddsWell : Around → Lines → Type 0
AddsWell p no_lines = Unit {0}
AddsWell p (a_line n f inner ls) = (adds_to_name f ≡ true → InFunction p) × AddsWell p ls

adds_in : (p : Around) → InFunction p → (ls : Lines) → AddsWell p ls
adds_in p h no_lines = tt
adds_in p h (a_line n f inner ls) = ((λ _. h), adds_in p h ls)

targets : (p : Around) (n : ℕ) (s : Scope) (xs : List Name) → width s.levels ≤ n → AllByRecursion (Binds p s) xs
    → AllByRecursion (IsTarget p (length s.globals) n) (map (binding_of s) xs)
targets p n s [] le h = tt
targets p n s (x ∷ xs) le h = (target p n s x h.0 le, targets p n s xs le h.1)

items_bind : (s : Scope) (is : List Item) → AllByRecursion (Binds at_top s) (map (λ (i : Item). i.binds) is)
    → AllByRecursion {X = Loaded} (λ i. i.binds < length s.globals) (map (λ i. record { asked = i.asked; binds = global_of s i.binds }) is)
items_bind s [] h = tt
items_bind s (i ∷ is) h = (bound_global s i.binds h.0.1, items_bind s is h.1)

in_loops : (p : Around) (s : Scope) → InFunction p → (x : Name) → Binds p s x → Binds in_loop s x
in_loops at_top s k x h = absurd k
in_loops in_function s k x h = h
in_loops in_loop s k x h = h

all_in_loops : (p : Around) (s : Scope) → InFunction p → (xs : List Name) → AllByRecursion (Binds p s) xs → AllByRecursion (Binds in_loop s) xs
all_in_loops p s k [] h = tt
all_in_loops p s k (x ∷ xs) h = (in_loops p s k x h.0, all_in_loops p s k xs h.1)

-- defaults
few_defaults : (s : Scope) (ps : List Param) → count (defaults s ps) ≤ length (map param_name ps)
few_defaults s [] = omega arith
few_defaults s (required x ∷ ps) = let k = few_defaults s ps in omega (arith, k)
few_defaults s (optional x a ∷ ps) = let k = few_defaults s ps in omega (arith, k)

defaults_range : (n : ℕ) (s : Scope) (ps : List Param) → AllByRecursion ParamWell ps → list_all (param_scoped s) ps ≡ true → width s.levels ≤ n
    → terms_slots (defaults s ps) ≤ n → AreTerms (length s.globals) n (defaults s ps)
defaults_range n s [] w h le fit = tt
defaults_range n s (required x ∷ ps) w h le fit = defaults_range n s ps w.1 (both true _ h).1 le fit
defaults_range n s (optional x a ∷ ps) w h le fit =
    let k = both (scoped s a) (list_all (param_scoped s) ps) h in
    (term_ranges n s a w.0 k.0 le (omega (arith, fit)), defaults_range n s ps w.1 k.1 le (omega (arith, fit)))

-- the names of a function
pub among_behind : (x : Name) (xs ys : List Name) → among x ys ≡ true → among x (xs ++ ys) ≡ true
among_behind x xs ys h = list_any-append (bytes_eq x) xs ys ∙ by (among x xs) (among x ys) h
  where
    by : (a b : Bool) → b ≡ true → (a || b) ≡ true
    by true b e = refl
    by false b e = e

function_names : (s : Scope) (ps : List Param) (inner : Lines) → AllByRecursion (Binds in_function (function_scope s ps inner)) (lines_bind inner)
function_names s ps inner =
    let names = map param_name ps ++ lines_bind inner in
    all_among _ (lines_bind inner) (λ x h. (once names, refl, among_once x names (among_behind x (map param_name ps) (lines_bind inner) h)))

params_fit : (s : Scope) (ps : List Param) (inner : Lines) → distinct (map param_name ps) ≡ true
    → length (map param_name ps) ≤ width (function_scope s ps inner).levels
params_fit s ps inner h =
    let r = stay_first (map param_name ps) (lines_bind inner) h in
    let e = ap length r.1 in
    let k = length-append (map param_name ps) r.0 in
    omega (arith, e, k)

-- what is made of lines stands in its place, as far as it has room in the frame
abbrev IsMade : Around → ℕ → ℕ → Made → Type 0
IsMade p g n m =
    (branches_slots m.branches ≤ n → AreBranches p g n m.branches)
    × (steps_slots m.other ≤ n → AreSteps p g n m.other)
    × (steps_slots m.steps ≤ n → AreSteps p g n m.steps)

lines_made : (p : Around) (n : ℕ) (s : Scope) (ls : Lines) → LinesWell p ls → AddsWell p ls → lines_fault s ls ≡ None → width s.levels ≤ n
    → AllByRecursion (Binds p s) (lines_bind ls) → IsMade p (length s.globals) n (made s ls)
lines_made p n s no_lines w adds h le names = ((λ _. tt), (λ _. tt), λ _. tt)
lines_made at_top n s (a_line k (loads m is) inner ls) w adds h le names =
    let q = form_parts s k (loads m is) (lines_fault s inner) (lines_fault s ls) h in
    let x = split_all (Binds at_top s) (map (λ i. i.binds) is) (lines_bind inner ++ lines_bind ls) names in
    let r = lines_made at_top n s ls w.2 adds.1 q.2 le (split_all (Binds at_top s) (lines_bind inner) (lines_bind ls) x.1).1 in
    ((λ _. tt), (λ _. tt), λ fit. ((tt, items_bind s is x.0), r.2 (omega (arith, fit)), w.3))
lines_made in_function n s (a_line k (loads m is) inner ls) w adds h le names = absurd w.0
lines_made in_loop n s (a_line k (loads m is) inner ls) w adds h le names = absurd w.0
lines_made at_top n s (a_line k (defines f ps) inner ls) w adds h le names =
    let t = function_scope s ps inner in
    let q = form_parts s k (defines f ps) (lines_fault t inner) (lines_fault s ls) h in
    let d = both (distinct (map param_name ps)) (defaults_last ps && (none_predeclared (map param_name ps) && list_all (param_scoped s) ps)) q.0 in
    let i = both (defaults_last ps) (none_predeclared (map param_name ps) && list_all (param_scoped s) ps) d.1 in
    let j = both (none_predeclared (map param_name ps)) (list_all (param_scoped s) ps) i.1 in
    let room = max (width t.levels) (steps_slots (made t inner).steps) in
    let body = lines_made in_function room t inner w.1 (adds_in in_function tt inner) q.1 (omega arith) (function_names s ps inner) in
    let r = lines_made at_top n s ls w.2 adds.1 q.2 le names.1 in
    let some = params_fit s ps inner d.0 in (
      (λ _. tt),
      (λ _. tt),
      λ fit. (
        (tt, bound_global s f names.0.1, d.0, omega (arith, some), few_defaults s ps, defaults_range n s ps w.0.1 j.1 le (omega (arith, fit)), body.2 (omega arith)),
        r.2 (omega (arith, fit)),
        w.3,
      ),
    )
lines_made in_function n s (a_line k (defines f ps) inner ls) w adds h le names = absurd w.0.0
lines_made in_loop n s (a_line k (defines f ps) inner ls) w adds h le names = absurd w.0.0
lines_made p n s (a_line k (if_head a) inner ls) w adds h le names =
    let q = form_parts s k (if_head a) (lines_fault s inner) (lines_fault s ls) h in
    let x = split_all (Binds p s) (lines_bind inner) (lines_bind ls) names in
    let i = lines_made p n s inner w.1 (adds_in p w.0.0 inner) q.1 le x.0 in
    let r = lines_made p n s ls w.2 adds.1 q.2 le x.1 in (
      (λ _. tt),
      (λ _. tt),
      λ fit. (
        (w.0.0, (term_ranges n s a w.0.1 q.0 le (omega (arith, fit)), i.2 (omega (arith, fit)), r.0 (omega (arith, fit)), w.3), r.1 (omega (arith, fit))),
        r.2 (omega (arith, fit)),
        w.3,
      ),
    )
lines_made p n s (a_line k (elif_head a) inner ls) w adds h le names =
    let q = form_parts s k (elif_head a) (lines_fault s inner) (lines_fault s ls) h in
    let x = split_all (Binds p s) (lines_bind inner) (lines_bind ls) names in
    let i = lines_made p n s inner w.1 (adds_in p w.0.0 inner) q.1 le x.0 in
    let r = lines_made p n s ls w.2 adds.1 q.2 le x.1 in
    ((λ fit. (term_ranges n s a w.0.1 q.0 le (omega (arith, fit)), i.2 (omega (arith, fit)), r.0 (omega (arith, fit)), w.3)), r.1, r.2)
lines_made p n s (a_line k else_head inner ls) w adds h le names =
    let q = form_parts s k else_head (lines_fault s inner) (lines_fault s ls) h in
    let x = split_all (Binds p s) (lines_bind inner) (lines_bind ls) names in
    let i = lines_made p n s inner w.1 (adds_in p w.0 inner) q.1 le x.0 in
    let r = lines_made p n s ls w.2 adds.1 q.2 le x.1 in
    ((λ _. tt), i.2, r.2)
lines_made p n s (a_line k (for_head y ys a) inner ls) w adds h le names =
    let q = form_parts s k (for_head y ys a) (lines_fault s inner) (lines_fault s ls) h in
    let x = split_all (Binds p s) (y ∷ ys) (lines_bind inner ++ lines_bind ls) names in
    let z = split_all (Binds p s) (lines_bind inner) (lines_bind ls) x.1 in
    let i = lines_made in_loop n s inner w.1 (adds_in in_loop tt inner) q.1 le (all_in_loops p s w.0.0 (lines_bind inner) z.0) in
    let r = lines_made p n s ls w.2 adds.1 q.2 le z.1 in (
      (λ _. tt),
      (λ _. tt),
      λ fit. (
        (w.0.0, targets p n s (y ∷ ys) le x.0, term_ranges n s a w.0.1 q.0 le (omega (arith, fit)), i.2 (omega (arith, fit))),
        r.2 (omega (arith, fit)),
        w.3,
      ),
    )
lines_made p n s (a_line k (assigns y ys a) inner ls) w adds h le names =
    let q = form_parts s k (assigns y ys a) (lines_fault s inner) (lines_fault s ls) h in
    let x = split_all (Binds p s) (y ∷ ys) (lines_bind inner ++ lines_bind ls) names in
    let r = lines_made p n s ls w.2 adds.1 q.2 le (split_all (Binds p s) (lines_bind inner) (lines_bind ls) x.1).1 in
    ((λ _. tt), (λ _. tt), λ fit. ((targets p n s (y ∷ ys) le x.0, term_ranges n s a w.0 q.0 le (omega (arith, fit))), r.2 (omega (arith, fit)), w.3))
lines_made p n s (a_line k (assigns_at f a b) inner ls) w adds h le names =
    let q = form_parts s k (assigns_at f a b) (lines_fault s inner) (lines_fault s ls) h in
    let d = both (scoped s f) (scoped s a && scoped s b) q.0 in
    let e = both (scoped s a) (scoped s b) d.1 in
    let r = lines_made p n s ls w.2 adds.1 q.2 le (split_all (Binds p s) (lines_bind inner) (lines_bind ls) names).1 in (
      (λ _. tt),
      (λ _. tt),
      λ fit. (
        (term_ranges n s f w.0.0 d.0 le (omega (arith, fit)), term_ranges n s a w.0.1 e.0 le (omega (arith, fit)), term_ranges n s b w.0.2 e.1 le (omega (arith, fit))),
        r.2 (omega (arith, fit)),
        w.3,
      ),
    )
lines_made p n s (a_line k (increases y a) inner ls) w adds h le names =
    let q = form_parts s k (increases y a) (lines_fault s inner) (lines_fault s ls) h in
    let x = split_all (Binds p s) (lines_bind inner) (lines_bind ls) names.1 in
    let r = lines_made p n s ls w.2 adds.1 q.2 le x.1 in
    ((λ _. tt), (λ _. tt), λ fit. ((adds.0 refl, target p n s y names.0 le, term_ranges n s a w.0 q.0 le (omega (arith, fit))), r.2 (omega (arith, fit)), w.3))
lines_made p n s (a_line k (increases_at f a b) inner ls) w adds h le names =
    let q = form_parts s k (increases_at f a b) (lines_fault s inner) (lines_fault s ls) h in
    let d = both (scoped s f) (scoped s a && scoped s b) q.0 in
    let e = both (scoped s a) (scoped s b) d.1 in
    let r = lines_made p n s ls w.2 adds.1 q.2 le (split_all (Binds p s) (lines_bind inner) (lines_bind ls) names).1 in (
      (λ _. tt),
      (λ _. tt),
      λ fit. (
        (term_ranges n s f w.0.0 d.0 le (omega (arith, fit)), term_ranges n s a w.0.1 e.0 le (omega (arith, fit)), term_ranges n s b w.0.2 e.1 le (omega (arith, fit))),
        r.2 (omega (arith, fit)),
        w.3,
      ),
    )
lines_made p n s (a_line k (evaluates a) inner ls) w adds h le names =
    let q = form_parts s k (evaluates a) (lines_fault s inner) (lines_fault s ls) h in
    let r = lines_made p n s ls w.2 adds.1 q.2 le (split_all (Binds p s) (lines_bind inner) (lines_bind ls) names).1 in
    ((λ _. tt), (λ _. tt), λ fit. (term_ranges n s a w.0 q.0 le (omega (arith, fit)), r.2 (omega (arith, fit)), w.3))
lines_made p n s (a_line k passes inner ls) w adds h le names =
    let q = form_parts s k passes (lines_fault s inner) (lines_fault s ls) h in
    let r = lines_made p n s ls w.2 adds.1 q.2 le (split_all (Binds p s) (lines_bind inner) (lines_bind ls) names).1 in
    ((λ _. tt), (λ _. tt), λ fit. (tt, r.2 (omega (arith, fit)), w.3))
lines_made p n s (a_line k breaks inner ls) w adds h le names =
    let q = form_parts s k breaks (lines_fault s inner) (lines_fault s ls) h in
    let r = lines_made p n s ls w.2 adds.1 q.2 le (split_all (Binds p s) (lines_bind inner) (lines_bind ls) names).1 in
    ((λ _. tt), (λ _. tt), λ fit. (w.0, r.2 (omega (arith, fit)), w.3))
lines_made p n s (a_line k continues inner ls) w adds h le names =
    let q = form_parts s k continues (lines_fault s inner) (lines_fault s ls) h in
    let r = lines_made p n s ls w.2 adds.1 q.2 le (split_all (Binds p s) (lines_bind inner) (lines_bind ls) names).1 in
    ((λ _. tt), (λ _. tt), λ fit. (w.0, r.2 (omega (arith, fit)), w.3))
lines_made p n s (a_line k (returns None) inner ls) w adds h le names =
    let q = form_parts s k (returns None) (lines_fault s inner) (lines_fault s ls) h in
    let r = lines_made p n s ls w.2 adds.1 q.2 le (split_all (Binds p s) (lines_bind inner) (lines_bind ls) names).1 in
    ((λ _. tt), (λ _. tt), λ fit. (w.0, r.2 (omega (arith, fit)), w.3))
lines_made p n s (a_line k (returns (Some a)) inner ls) w adds h le names =
    let q = form_parts s k (returns (Some a)) (lines_fault s inner) (lines_fault s ls) h in
    let r = lines_made p n s ls w.2 adds.1 q.2 le (split_all (Binds p s) (lines_bind inner) (lines_bind ls) names).1 in
    ((λ _. tt), (λ _. tt), λ fit. ((w.0.0, term_ranges n s a w.0.1 q.0 le (omega (arith, fit))), r.2 (omega (arith, fit)), w.3))

-- the top level breaks no rule of lines, and adds to no name
pub top_parts : (s : Scope) (before : List Name) (ls : Lines) → top_fault s before ls ≡ None → (lines_fault s ls ≡ None) × AddsWell at_top ls
top_parts s before no_lines h = (refl, tt)
top_parts s before (a_line n f inner ls) h =
    let o = lines_fault (scope_of s f inner) inner in
    let q = line_parts n (top_line_scoped s before f) o (top_fault s (form_binds f ++ before) ls) h in
    let a = both (distinct (form_binds f)) (apart (form_binds f) before && (not (adds_to_name f) && line_scoped s f)) q.0 in
    let b = both (apart (form_binds f) before) (not (adds_to_name f) && line_scoped s f) a.1 in
    let c = both (not (adds_to_name f)) (line_scoped s f) b.1 in
    let r = top_parts s (form_binds f ++ before) ls q.2 in (
      ap (λ t. or_else (unless n t) (or_else o (lines_fault s ls))) c.1 ∙ ap (λ t. or_else t (lines_fault s ls)) q.1 ∙ r.0,
      ((λ e. not_both (not (adds_to_name f)) c.0 (ap not e)), r.1),
    )

pub top_made : (s : Scope) (ls : Lines) → s.levels ≡ [] → LinesWell at_top ls → top_fault s [] ls ≡ None
    → AllByRecursion (Binds at_top s) (lines_bind ls) → AreSteps at_top (length s.globals) (steps_slots (made s ls).steps) (made s ls).steps
top_made s ls e w h names =
    let q = top_parts s [] ls h in
    let k = ap width e in
    (lines_made at_top (steps_slots (made s ls).steps) s ls w q.1 q.0 (omega (arith, k)) names).2 (omega arith)

-- the numbers of functions change nothing of this, and given once they stay
statement_numbered : (p : Around) (g n k : ℕ) (st : Statement) → IsStatement p g n st → IsStatement p g n (with_number k st)
statement_numbered p g n k (load m is) h = h
statement_numbered p g n k (assign bs a) h = h
statement_numbered p g n k (assign_item f a b) h = h
statement_numbered p g n k (add_to x a) h = h
statement_numbered p g n k (add_to_item f a b) h = h
statement_numbered p g n k (evaluate a) h = h
statement_numbered p g n k pass h = h
statement_numbered p g n k break_loop h = h
statement_numbered p g n k continue_loop h = h
statement_numbered p g n k (give_back a) h = h
statement_numbered p g n k (branch bs other) h = h
statement_numbered p g n k (loop bs a inner) h = h
statement_numbered p g n k (define j x ps ds m inner) h = h

pub steps_numbered : (p : Around) (g n k : ℕ) (ss : Steps) → AreSteps p g n ss → AreSteps p g n (numbered k ss)
steps_numbered p g n k no_steps h = tt
steps_numbered p g n k (step l st ss) h = (statement_numbered p g n k st h.0, steps_numbered p g n (next_number k st) ss h.1, h.2)

abbrev Stays : ℕ → Statement → Type 0
Stays k st = (with_number k (with_number k st) ≡ with_number k st) × (next_number k (with_number k st) ≡ next_number k st)

number_stays : (k : ℕ) (st : Statement) → Stays k st
number_stays k (load m is) = (refl, refl)
number_stays k (assign bs a) = (refl, refl)
number_stays k (assign_item f a b) = (refl, refl)
number_stays k (add_to x a) = (refl, refl)
number_stays k (add_to_item f a b) = (refl, refl)
number_stays k (evaluate a) = (refl, refl)
number_stays k pass = (refl, refl)
number_stays k break_loop = (refl, refl)
number_stays k continue_loop = (refl, refl)
number_stays k (give_back a) = (refl, refl)
number_stays k (branch bs other) = (refl, refl)
number_stays k (loop bs a inner) = (refl, refl)
number_stays k (define j x ps ds m inner) = (refl, refl)

pub numbers_stay : (k : ℕ) (ss : Steps) → numbered k (numbered k ss) ≡ numbered k ss
numbers_stay k no_steps = refl
numbers_stay k (step l st ss) =
    let e = number_stays k st in
    let rest = numbered (next_number k st) ss in
    ap (λ t. step l t (numbered (next_number k (with_number k st)) rest)) e.0
    ∙ ap (λ m. step l (with_number k st) (numbered m rest)) e.1
    ∙ ap (step l (with_number k st)) (numbers_stay (next_number k st) ss)
