-- The numbers of the names of a file: its loads bind the first ones, its other statements those behind.
use Rattle.std.proofs.Common.{◌≡◌, ℕ, suc, ◌+◌, Bool, true, false, not, ◌&&◌, ◌||◌, List, [], ◌∷◌, ◌++◌, length, map, None, refl, sym, ap, ◌∙◌, subst, arith, append_assoc, length-append}
use Rattle.std.specs.Prelude.{bytes_eq, option_map, position, unwrap_or}
use Rattle.std.specs.List.{AllByRecursion}
use Rattle.std.proofs.lemmas.List.{map-append}
use Rattle.std.proofs.lemmas.List.Folds.{list_any-append}
use Rattle.lexer.specs.declared.file_kind.FileKind.{FileKind}
use Rattle.grammar.specs.Tree as expr
use Rattle.grammar.specs.Tree.{Expr}
use Rattle.grammar.specs.Statements as written
use Rattle.grammar.specs.Places.{Place, top_of, still_early}
use Rattle.grammar.specs.Blocks as laid
use Rattle.grammar.specs.Blocks.{Block, IsBlock}
use Rattle.grammar.specs.BareLines.{Item, Form, loads, defines, if_head, elif_head, else_head, for_head, assigns, assigns_at, increases, increases_at, evaluates, passes, breaks, continues, returns, Lines, no_lines, a_line, bare_item, bare_lines, without_commas}
use Rattle.program_tree.specs.Names.{Name, Scope, or_else, among, apart, distinct, once, without, form_binds, loads_bind, lines_bind, slot_of, predeclared, file_scope, scope_of}
use Rattle.program_tree.specs.declared.names.Binding.TheVariants.{Slot as slot, Global as global, Builtin as builtin}
use Rattle.file_syntax.specs.Scopes.{line_scoped, adds_to_name, top_line_scoped, lines_fault, top_fault}
use Rattle.program_tree.specs.Resolved.{Statement, load, assign, assign_item, add_to, add_to_item, evaluate, pass, break_loop, continue_loop, give_back, branch, loop, define, Steps, no_steps, step, made, steps_of, binding_of, global_of, with_number, next_number, numbered}
use Rattle.program_tree.specs.declared.program.Loaded.{Loaded}
use Rattle.file_syntax.specs.IsProgram.{at_top, loaded_numbers, globals_among, own_numbers, all_loaded, all_own, numbers_from}
use Rattle.file_syntax.proofs.NamePlaces.{both, not_both, same, has_place}
use Rattle.file_syntax.proofs.NamePlaces.{without_front, all_among}
use Rattle.file_syntax.proofs.NamePlaces.{same_name}
use Rattle.file_syntax.proofs.OwnPlaces.{not_before, place_is}
use Rattle.file_syntax.proofs.TokensFit.{split_all}
use Rattle.file_syntax.proofs.WellFormed.{LinesWell}
use Rattle.file_syntax.proofs.LineRanges.{AddsWell, among_behind, line_parts, top_parts}

-- what the lines of a top level bind themselves, but for loads
abbrev own_by : Form → List Name
own_by (defines x ps) = x ∷ []
own_by (assigns x xs a) = x ∷ xs
own_by f = []

abbrev own_bind : Lines → List Name
own_bind no_lines = []
own_bind (a_line n f inner ls) = own_by f ++ own_bind ls

abbrev top_bind : Lines → List Name
top_bind no_lines = []
top_bind (a_line n f inner ls) = form_binds f ++ top_bind ls

-- the names that loads bind come first, and behind another binding there is no load
abbrev TopNames : Bool → Lines → Type 0
TopNames early ls =
    (lines_bind ls ≡ loads_bind ls ++ own_bind ls) × (early ≡ false → loads_bind ls ≡ []) × (lines_bind ls ≡ top_bind ls)

pass_by : (xs ls ms os : List Name) → ls ≡ ms ++ os → ms ≡ [] → xs ++ ls ≡ ms ++ (xs ++ os)
pass_by xs ls ms os e n = ap (λ l. xs ++ l) (e ∙ ap (λ m. m ++ os) n) ∙ ap (λ m. m ++ (xs ++ os)) (sym n)

still_late : (early : Bool) (a : Expr) → early ≡ false → still_early early (written.simple (written.evaluates a)) ≡ false
still_late early (expr.identifier x) e = refl
still_late early (expr.integer n) e = refl
still_late early (expr.text s) e = e
still_late early (expr.display b ms) e = refl
still_late early (expr.comprehension b m cs) e = refl
still_late early (expr.conditional a c b) e = refl
still_late early (expr.operation o a b) e = refl
still_late early (expr.signed s a) e = refl
still_late early (expr.field f x) e = refl
still_late early (expr.index f a) e = refl
still_late early (expr.call f ms) e = refl

top_names : (p : Place) (after early : Bool) (c : ℕ) (b : Block) → IsBlock p after early c b → LinesWell at_top (bare_lines b) → AddsWell at_top (bare_lines b)
    → TopNames early (bare_lines b)
top_names p after early c laid.no_lines h w adds = (refl, (λ _. refl), refl)
top_names p after early c (laid.plain_line n (written.loads m is) b) h w adds =
    let ls = bare_lines b in
    let r = top_names p _ _ c b h.2 w.2 adds.1 in
    let xs = map (λ (i : Item). i.binds) (without_commas bare_item is) in (
      ap (λ l. xs ++ l) r.0 ∙ sym (append_assoc xs (loads_bind ls) (own_bind ls)),
      (λ e. not_both early h.0.early_there e),
      ap (λ l. xs ++ l) r.2,
    )
top_names p after early c (laid.plain_line n (written.simple (written.assigns x xs l)) b) h w adds =
    let ls = bare_lines b in
    let r = top_names p _ _ c b h.2 w.2 adds.1 in
    (pass_by (x ∷ xs) (lines_bind ls) (loads_bind ls) (own_bind ls) r.0 (r.1 refl), (λ _. r.1 refl), ap (λ l. (x ∷ xs) ++ l) r.2)
top_names p after early c (laid.plain_line n (written.simple (written.increases x a)) b) h w adds = absurd (adds.0 refl)
top_names p after early c (laid.plain_line n (written.simple (written.evaluates a)) b) h w adds =
    let r = top_names p _ _ c b h.2 w.2 adds.1 in (r.0, (λ e. r.1 (still_late early a e)), r.2)
top_names p after early c (laid.plain_line n (written.simple (written.assigns_at f a l)) b) h w adds =
    let r = top_names p _ _ c b h.2 w.2 adds.1 in (r.0, (λ _. r.1 refl), r.2)
top_names p after early c (laid.plain_line n (written.simple (written.increases_at f a d)) b) h w adds =
    let r = top_names p _ _ c b h.2 w.2 adds.1 in (r.0, (λ _. r.1 refl), r.2)
top_names p after early c (laid.plain_line n (written.simple written.passes) b) h w adds =
    let r = top_names p _ _ c b h.2 w.2 adds.1 in (r.0, (λ _. r.1 refl), r.2)
top_names p after early c (laid.plain_line n (written.simple written.breaks) b) h w adds =
    let r = top_names p _ _ c b h.2 w.2 adds.1 in (r.0, (λ _. r.1 refl), r.2)
top_names p after early c (laid.plain_line n (written.simple written.continues) b) h w adds =
    let r = top_names p _ _ c b h.2 w.2 adds.1 in (r.0, (λ _. r.1 refl), r.2)
top_names p after early c (laid.plain_line n (written.simple written.returns) b) h w adds =
    let r = top_names p _ _ c b h.2 w.2 adds.1 in (r.0, (λ _. r.1 refl), r.2)
top_names p after early c (laid.plain_line n (written.simple (written.returns_list l)) b) h w adds =
    let r = top_names p _ _ c b h.2 w.2 adds.1 in (r.0, (λ _. r.1 refl), r.2)
top_names p after early c (laid.plain_line n (written.defines x ps body) b) h w adds =
    let ls = bare_lines b in
    let r = top_names p _ _ c b h.2 w.2 adds.1 in
    (pass_by (x ∷ []) (lines_bind ls) (loads_bind ls) (own_bind ls) r.0 (r.1 refl), (λ _. r.1 refl), ap (λ l. x ∷ l) r.2)
top_names p after early c (laid.plain_line n (written.if_head a body) b) h w adds = absurd w.0.0
top_names p after early c (laid.plain_line n (written.elif_head a body) b) h w adds = absurd w.0.0
top_names p after early c (laid.plain_line n (written.else_head body) b) h w adds = absurd w.0
top_names p after early c (laid.plain_line n (written.for_head x xs a body) b) h w adds = absurd w.0.0
top_names p after early c (laid.head_line n (written.loads m is) d inner b) h w adds = let k = h.1 in absurd cc
top_names p after early c (laid.head_line n (written.simple s) d inner b) h w adds = let k = h.1 in absurd cc
top_names p after early c (laid.head_line n (written.defines x ps body) d inner b) h w adds =
    let ls = bare_lines b in
    let r = top_names p _ _ c b h.5 w.2 adds.1 in
    (pass_by (x ∷ []) (lines_bind ls) (loads_bind ls) (own_bind ls) r.0 (r.1 refl), (λ _. r.1 refl), ap (λ l. x ∷ l) r.2)
top_names p after early c (laid.head_line n (written.if_head a body) d inner b) h w adds = absurd w.0.0
top_names p after early c (laid.head_line n (written.elif_head a body) d inner b) h w adds = absurd w.0.0
top_names p after early c (laid.head_line n (written.else_head body) d inner b) h w adds = absurd w.0
top_names p after early c (laid.head_line n (written.for_head x xs a body) d inner b) h w adds = absurd w.0.0

-- names that a top level binds are distinct
untrue : (b : Bool) → not b ≡ true → b ≡ false
untrue true h = absurd cc
untrue false h = refl

and_true : (a b : Bool) → a ≡ true → b ≡ true → (a && b) ≡ true
and_true true b h k = k
and_true false b h k = absurd cc

or_not : (b : Bool) → not b ≡ true → not (b || false) ≡ true
or_not true h = absurd cc
or_not false h = refl

neither : (a b : Bool) → not (a || b) ≡ true → (not a ≡ true) × (not b ≡ true)
neither true b h = absurd cc
neither false b h = (refl, h)

unequal : (x y : Name) → not (bytes_eq y x) ≡ true → bytes_eq x y ≡ false
unequal x y h = by (bytes_eq x y) refl
  where
    by : (b : Bool) → bytes_eq x y ≡ b → bytes_eq x y ≡ false
    by true e = not_both (bytes_eq y x) (subst (λ z. bytes_eq z x ≡ true) (same_name x y e) (same x)) (untrue (bytes_eq y x) h)
    by false e = e

apart_both : (zs xs ys : List Name) → apart zs (xs ++ ys) ≡ true → (apart zs xs ≡ true) × (apart zs ys ≡ true)
apart_both [] xs ys h = (refl, refl)
apart_both (z ∷ zs) xs ys h =
    let k = both (not (among z (xs ++ ys))) (apart zs (xs ++ ys)) h in
    let j = neither (among z xs) (among z ys) (sym (ap not (list_any-append (bytes_eq z) xs ys)) ∙ k.0) in
    let r = apart_both zs xs ys k.1 in
    (and_true (not (among z xs)) (apart zs xs) j.0 r.0, and_true (not (among z ys)) (apart zs ys) j.1 r.1)

apart_joined : (xs ys zs : List Name) → apart xs zs ≡ true → apart ys zs ≡ true → apart (xs ++ ys) zs ≡ true
apart_joined [] ys zs h k = k
apart_joined (x ∷ xs) ys zs h k =
    let j = both (not (among x zs)) (apart xs zs) h in
    and_true (not (among x zs)) (apart (xs ++ ys) zs) j.0 (apart_joined xs ys zs j.1 k)

apart_parts : (x : Name) (xs ys : List Name) → apart ys (x ∷ xs) ≡ true → (among x ys ≡ false) × (apart ys xs ≡ true)
apart_parts x xs [] h = (refl, refl)
apart_parts x xs (y ∷ ys) h =
    let k = both (not (bytes_eq y x || among y xs)) (apart ys (x ∷ xs)) h in
    let j = neither (bytes_eq y x) (among y xs) k.0 in
    let r = apart_parts x xs ys k.1 in
    (ap (λ b. b || among x ys) (unequal x y j.0) ∙ r.0, and_true (not (among y xs)) (apart ys xs) j.1 r.1)

distinct_both : (xs ys : List Name) → distinct xs ≡ true → distinct ys ≡ true → apart ys xs ≡ true → distinct (xs ++ ys) ≡ true
distinct_both [] ys h k a = k
distinct_both (x ∷ xs) ys h k a =
    let j = both (not (among x xs)) (distinct xs) h in
    let p = apart_parts x xs ys a in
    let out = ap not (list_any-append (bytes_eq x) xs ys ∙ ap (λ b. among x xs || b) p.0) ∙ or_not (among x xs) j.0 in
    and_true (not (among x (xs ++ ys))) (distinct (xs ++ ys)) out (distinct_both xs ys j.1 k p.1)

top_distinct : (s : Scope) (before : List Name) (ls : Lines) → top_fault s before ls ≡ None → (distinct (top_bind ls) ≡ true) × (apart (top_bind ls) before ≡ true)
top_distinct s before no_lines h = (refl, refl)
top_distinct s before (a_line n f inner ls) h =
    let q = line_parts n (top_line_scoped s before f) (lines_fault (scope_of s f inner) inner) (top_fault s (form_binds f ++ before) ls) h in
    let a = both (distinct (form_binds f)) (apart (form_binds f) before && (not (adds_to_name f) && line_scoped s f)) q.0 in
    let b = both (apart (form_binds f) before) (not (adds_to_name f) && line_scoped s f) a.1 in
    let r = top_distinct s (form_binds f ++ before) ls q.2 in
    let e = apart_both (top_bind ls) (form_binds f) before r.1 in
    (distinct_both (form_binds f) (top_bind ls) a.0 r.0 e.0, apart_joined (form_binds f) (top_bind ls) before b.0 e.1)

behind_nothing : {A : Type 0} (xs : List A) → xs ++ [] ≡ xs
behind_nothing [] = refl
behind_nothing (x ∷ xs) = ap (λ l. x ∷ l) (behind_nothing xs)

without_same : (x : Name) (xs : List Name) → among x xs ≡ false → without x xs ≡ xs
without_same x xs h = subst (λ l. without x l ≡ l) (behind_nothing xs) (without_front x xs [] h)

once_distinct : (xs : List Name) → distinct xs ≡ true → once xs ≡ xs
once_distinct [] h = refl
once_distinct (x ∷ xs) h =
    let k = both (not (among x xs)) (distinct xs) h in
    ap (λ l. x ∷ without x l) (once_distinct xs k.1) ∙ ap (λ l. x ∷ l) (without_same x xs (untrue (among x xs) k.0))

-- the places of distinct names are one after the other
abbrev place_of : List Name → Name → ℕ
place_of names x = unwrap_or (position (bytes_eq x) names) 0

places : (front xs behind : List Name) → distinct (front ++ (xs ++ behind)) ≡ true
    → map (place_of (front ++ (xs ++ behind))) xs ≡ numbers_from (length front) (length xs)
places front [] behind h = refl
places front (x ∷ xs) behind h =
    let all = front ++ (x ∷ (xs ++ behind)) in
    let first = place_is x front (xs ++ behind) (not_before x front (xs ++ behind) h) in
    let e : (front ++ x ∷ []) ++ (xs ++ behind) ≡ front ++ (x ∷ (xs ++ behind)) = append_assoc front (x ∷ []) (xs ++ behind) in
    let r = places (front ++ x ∷ []) xs behind (subst (λ l. distinct l ≡ true) (sym e) h) in
    let k = length-append front (x ∷ []) in
    let n : length (front ++ x ∷ []) ≡ suc (length front) = omega (arith, k) in
    ap (λ o. unwrap_or o 0 ∷ map (place_of (front ++ (x ∷ (xs ++ behind)))) xs) first
    ∙ ap (λ l. length front ∷ l) (ap (λ l. map (place_of l) xs) (sym e) ∙ r ∙ ap (λ m. numbers_from m (length xs)) n)

-- the numbers that statements bind are those of the names that their lines bind
same_items : (s : Scope) (is : List Item)
    → map (λ (i : Loaded). i.binds) (map (λ (i : Item). record { asked = i.asked; binds = global_of s i.binds }) is) ≡ map (global_of s) (map (λ (i : Item). i.binds) is)
same_items s [] = refl
same_items s (i ∷ is) = ap (λ l. global_of s i.binds ∷ l) (same_items s is)

loaded_made : (s : Scope) (ls : Lines) → all_loaded (made s ls).steps ≡ map (global_of s) (loads_bind ls)
loaded_made s no_lines = refl
loaded_made s (a_line n (loads m is) inner ls) =
    let xs = map (λ (i : Item). i.binds) is in
    ap (λ l. l ++ all_loaded (made s ls).steps) (same_items s is)
    ∙ ap (λ l. map (global_of s) xs ++ l) (loaded_made s ls)
    ∙ sym (map-append (global_of s) xs (loads_bind ls))
loaded_made s (a_line n (defines x ps) inner ls) = loaded_made s ls
loaded_made s (a_line n (if_head a) inner ls) = loaded_made s ls
loaded_made s (a_line n (elif_head a) inner ls) = loaded_made s ls
loaded_made s (a_line n else_head inner ls) = loaded_made s ls
loaded_made s (a_line n (for_head x xs a) inner ls) = loaded_made s ls
loaded_made s (a_line n (assigns x xs a) inner ls) = loaded_made s ls
loaded_made s (a_line n (assigns_at f a b) inner ls) = loaded_made s ls
loaded_made s (a_line n (increases x a) inner ls) = loaded_made s ls
loaded_made s (a_line n (increases_at f a b) inner ls) = loaded_made s ls
loaded_made s (a_line n (evaluates a) inner ls) = loaded_made s ls
loaded_made s (a_line n passes inner ls) = loaded_made s ls
loaded_made s (a_line n breaks inner ls) = loaded_made s ls
loaded_made s (a_line n continues inner ls) = loaded_made s ls
loaded_made s (a_line n (returns a) inner ls) = loaded_made s ls

are_globals : (s : Scope) → s.levels ≡ [] → (xs : List Name) → AllByRecursion (λ x. among x s.globals ≡ true) xs
    → globals_among (map (binding_of s) xs) ≡ map (global_of s) xs
are_globals s e [] h = refl
are_globals s e (x ∷ xs) h =
    let p = has_place x s.globals h.0 in
    let b : binding_of s x ≡ global p.0 =
    ap (λ ls. unwrap_or (or_else (option_map slot (slot_of x ls)) (or_else (option_map global (position (bytes_eq x) s.globals)) (option_map builtin (predeclared x)))) (slot 0)) e
    ∙ ap (λ o. unwrap_or (or_else None (or_else (option_map global o) (option_map builtin (predeclared x)))) (slot 0)) p.1 in
    let g : global_of s x ≡ p.0 = ap (λ o. unwrap_or o 0) p.1 in
    ap (λ v. globals_among (v ∷ map (binding_of s) xs)) b
    ∙ ap (λ l. p.0 ∷ l) (are_globals s e xs h.1)
    ∙ ap (λ k. k ∷ map (global_of s) xs) (sym g)

own_made : (s : Scope) (ls : Lines) → s.levels ≡ [] → LinesWell at_top ls → AddsWell at_top ls → AllByRecursion (λ x. among x s.globals ≡ true) (own_bind ls)
    → all_own (made s ls).steps ≡ map (global_of s) (own_bind ls)
own_made s no_lines e w adds names = refl
own_made s (a_line n (defines x ps) inner ls) e w adds names = ap (λ l. global_of s x ∷ l) (own_made s ls e w.2 adds.1 names.1)
own_made s (a_line n (assigns x xs a) inner ls) e w adds names =
    let k = split_all (λ y. among y s.globals ≡ true) (x ∷ xs) (own_bind ls) names in
    ap (λ l. l ++ all_own (made s ls).steps) (are_globals s e (x ∷ xs) k.0)
    ∙ ap (λ l. map (global_of s) (x ∷ xs) ++ l) (own_made s ls e w.2 adds.1 k.1)
    ∙ sym (map-append (global_of s) (x ∷ xs) (own_bind ls))
own_made s (a_line n (if_head a) inner ls) e w adds names = absurd w.0.0
own_made s (a_line n (elif_head a) inner ls) e w adds names = absurd w.0.0
own_made s (a_line n else_head inner ls) e w adds names = absurd w.0
own_made s (a_line n (for_head x xs a) inner ls) e w adds names = absurd w.0.0
own_made s (a_line n (increases x a) inner ls) e w adds names = absurd (adds.0 refl)
own_made s (a_line n (loads m is) inner ls) e w adds names = own_made s ls e w.2 adds.1 names
own_made s (a_line n (assigns_at f a b) inner ls) e w adds names = own_made s ls e w.2 adds.1 names
own_made s (a_line n (increases_at f a b) inner ls) e w adds names = own_made s ls e w.2 adds.1 names
own_made s (a_line n (evaluates a) inner ls) e w adds names = own_made s ls e w.2 adds.1 names
own_made s (a_line n passes inner ls) e w adds names = own_made s ls e w.2 adds.1 names
own_made s (a_line n breaks inner ls) e w adds names = own_made s ls e w.2 adds.1 names
own_made s (a_line n continues inner ls) e w adds names = own_made s ls e w.2 adds.1 names
own_made s (a_line n (returns a) inner ls) e w adds names = own_made s ls e w.2 adds.1 names

-- the numbers of functions change nothing of this
abbrev Stays : ℕ → Statement → Type 0
Stays k st = (loaded_numbers (with_number k st) ≡ loaded_numbers st) × (own_numbers (with_number k st) ≡ own_numbers st)

number_stays : (k : ℕ) (st : Statement) → Stays k st
number_stays k (load m is) = (refl, refl)
number_stays k (assign bs a) = (refl, refl)
number_stays k (assign_item f a b) = (refl, refl)
number_stays k (add_to x a) = (refl, refl)
number_stays k (add_to_item f a b) = (refl, refl)
number_stays k (evaluate a) = (refl, refl)
number_stays k pass = (refl, refl)
number_stays k break_loop = (refl, refl)
number_stays k continue_loop = (refl, refl)
number_stays k (give_back a) = (refl, refl)
number_stays k (branch bs other) = (refl, refl)
number_stays k (loop bs a inner) = (refl, refl)
number_stays k (define j x ps ds m inner) = (refl, refl)

numbers_stay : (k : ℕ) (ss : Steps) → (all_loaded (numbered k ss) ≡ all_loaded ss) × (all_own (numbered k ss) ≡ all_own ss)
numbers_stay k no_steps = (refl, refl)
numbers_stay k (step l st ss) =
    let e = number_stays k st in
    let rest = numbered (next_number k st) ss in
    let r = numbers_stay (next_number k st) ss in (
      ap (λ x. x ++ all_loaded rest) e.0 ∙ ap (λ x. loaded_numbers st ++ x) r.0,
      ap (λ x. x ++ all_own rest) e.1 ∙ ap (λ x. own_numbers st ++ x) r.1,
    )

-- loads bind the first numbers of a file, its other statements those behind
abbrev pub Numbered : Lines → Type 0
Numbered ls =
    let ss = numbered 1 (steps_of (file_scope ls) ls) in
    let k = length (loads_bind ls) in
    (all_loaded ss ≡ numbers_from 0 k) × ((n : ℕ) × (length (once (lines_bind ls)) ≡ k + n) × (all_own ss ≡ numbers_from k n))

pub file_numbers : (kind : FileKind) (b : Block) → IsBlock (top_of kind) false true 0 b → LinesWell at_top (bare_lines b)
    → top_fault (file_scope (bare_lines b)) [] (bare_lines b) ≡ None → Numbered (bare_lines b)
file_numbers kind b h w f =
    let ls = bare_lines b in
    let s = file_scope ls in
    let firsts = loads_bind ls in
    let owns = own_bind ls in
    let adds = (top_parts s [] ls f).1 in
    let t = top_names (top_of kind) false true 0 b h w adds in
    let d : distinct (lines_bind ls) ≡ true = subst (λ l. distinct l ≡ true) (sym t.2) (top_distinct s [] ls f).0 in
    let g : once (lines_bind ls) ≡ firsts ++ owns = once_distinct (lines_bind ls) d ∙ t.0 in
    let both_distinct : distinct (firsts ++ owns) ≡ true = subst (λ l. distinct l ≡ true) t.0 d in
    let more : firsts ++ owns ≡ firsts ++ (owns ++ []) = ap (λ o. firsts ++ o) (sym (behind_nothing owns)) in
    let names = all_among (λ x. among x s.globals ≡ true) owns (λ x k. subst (λ l. among x l ≡ true) (sym g) (among_behind x firsts owns k)) in
    let stay = numbers_stay 1 (steps_of s ls) in
    let count = ap length g in
    let sum = length-append firsts owns in (
      stay.0 ∙ loaded_made s ls ∙ ap (λ l. map (place_of l) firsts) g ∙ places [] firsts owns both_distinct,
      (
        length owns,
        omega (arith, count, sum),
        stay.1
            ∙ own_made s ls refl w adds names
            ∙ ap (λ l. map (place_of l) owns) (g ∙ more)
            ∙ places firsts owns [] (subst (λ l. distinct l ≡ true) more both_distinct),
      ),
    )
