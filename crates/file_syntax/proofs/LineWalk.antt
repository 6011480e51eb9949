-- Logical lines without a fault are passed, and a fault behind them is found.
use Rattle.std.proofs.Common.{ℕ, ◌≡◌, ◌≢◌, Bool, false, List, [], ◌∷◌, ◌++◌, refl, sym, ap, subst, ◌∙◌, append_assoc, Err, arith}
use Rattle.std.specs.List.{AllByRecursion}
use Rattle.std.proofs.lemmas.List.{append-nil}
use Rattle.lexer.specs.Tokens.{Placed}
use Rattle.lexer.specs.Layout.{◌>>=◌, is_colon, mark_of, at_start, line_starts}
use Rattle.lexer.specs.LaidOut.{IsLogicalLine, BeginsOff, OnOwnLines, BlocksBehind, joined, last_line, ends_with_colon}
use Rattle.lexer.proofs.BlockLaws.{blocks_as}
use Rattle.lexer.proofs.TurnLaws.{starts_there, starts_not}
use Rattle.lexer.proofs.LayoutLemmas.{at_end}
use Rattle.lexer.proofs.LayoutBackLaws.{Numbered}
use Rattle.file_syntax.specs.IndentFault.{OpenBracket, OpenBehind, BlocksAfter, AreFirstLines, last_of, IsIndentFault, wrong_column, wrong_bracket, never_closed, no_block, IsBracketFault}
use Rattle.file_syntax.proofs.Steps.{Layout, all_held, standing}
use Rattle.file_syntax.proofs.OpenLaws.{open_as, misses_as, none_held, logical_open}
use Rattle.file_syntax.proofs.ColumnLaws.{column_fault_as}
use Rattle.file_syntax.proofs.StepLaws.{behind, newly, turn_middle, turn_first, Refuses, pass_token, stop_token}

-- a state by its parts
abbrev state : List OpenBracket → List ℕ → Bool → ℕ → ℕ → Layout
state us columns head first last = record { unclosed = all_held us; columns = columns; head = head; first = first; last = last }

-- more tokens of a logical line are passed
run_tail : (cs ts : List Placed) (us vs : List OpenBracket) (columns : List ℕ) (head : Bool) (first last n : ℕ)
    → OpenBehind us last cs vs → Refuses (state vs columns (ends_with_colon head cs) first (last_line last cs)) ts n
    → Refuses (state us columns head first last) (cs ++ ts) n
run_tail [] ts us vs columns head first last n h r = subst (λ (l : List OpenBracket). Refuses (state l columns head first last) ts n) h r
run_tail (c ∷ cs) ts us vs columns head first last n h r =
    let s = state us columns head first last in
    let off = starts_not s c.line (λ e. h.0 (none_held us e)) in
    let m = mark_of c.token in
    pass_token s (behind m c.line columns first (all_held h.1.0)) c (cs ++ ts) n
    (turn_middle s m c.line c.column off ∙ rw (open_as m us h.1.0 c.line h.1.1) refl)
    (run_tail cs ts h.1.0 vs columns (is_colon m) first c.line n h.1.2 r)

-- the first tokens of a logical line are passed
run_begun : (c : Placed) (cs ts prior : List Placed) (columns kept : List ℕ) (vs : List OpenBracket) (n : ℕ)
    → c.line ≢ last_line 0 prior → BlocksBehind (ends_with_colon false prior) c.column columns kept
    → OpenBehind [] c.line (c ∷ cs) vs → Refuses (standing (c ∷ cs) kept vs) ts n
    → Refuses (standing prior columns []) (c ∷ cs ++ ts) n
run_begun c cs ts prior columns kept vs n off b h r =
    let s = standing prior columns [] in
    let m = mark_of c.token in
    let on = starts_there s c.line refl off in
    pass_token s (behind m c.line kept c.line (all_held h.1.0)) c (cs ++ ts) n
    (turn_first s m c.line c.column on ∙ ap (λ r. r >>= newly s m c.line) (blocks_as (ends_with_colon false prior) s c.line c.column kept refl b)
    ∙ rw (open_as m [] h.1.0 c.line h.1.1) refl)
    (run_tail cs ts h.1.0 vs kept (is_colon m) c.line c.line n h.1.2 r)

-- whole logical lines are passed
run_lines : (lines : List (List Placed)) (ts prior : List Placed) (columns after : List ℕ) (n : ℕ)
    → AllByRecursion IsLogicalLine lines → BeginsOff (last_line 0 prior) lines → OnOwnLines lines
    → BlocksAfter columns (ends_with_colon false prior) lines after
    → Refuses (standing (last_of prior lines) after []) ts n → Refuses (standing prior columns []) (joined lines ++ ts) n
run_lines [] ts prior columns after n l o a b r = subst (λ (k : List ℕ). Refuses (standing prior k []) ts n) b r
run_lines ([] ∷ lines) ts prior columns after n l o a b r = absurd l.0
run_lines ((c ∷ cs) ∷ lines) ts prior columns after n l o a b r =
    subst (λ (k : List Placed). Refuses (standing prior columns []) k n) (sym (append_assoc (c ∷ cs) (joined lines) ts))
    (run_begun c cs (joined lines ++ ts) prior columns b.0 [] n o b.1 (logical_open (c ∷ cs) [] c.line l.0)
    (run_lines lines ts (c ∷ cs) b.0 after n l.1 a.0 a.1 b.2 r))

-- the first line of a text begins behind line 0
begins_off : (lines : List (List Placed)) (ts : List Placed) → Numbered (joined lines ++ ts) → AllByRecursion IsLogicalLine lines → BeginsOff 0 lines
begins_off [] ts h l = tt
begins_off ([] ∷ lines) ts h l = absurd l.0
begins_off ((c ∷ cs) ∷ lines) ts h l = λ e. absurd (omega (arith, h))

-- the first logical lines of a text are passed
run_first : (lines : List (List Placed)) (blocks : List ℕ) (rest ts : List Placed) (n : ℕ) → Numbered ts → joined lines ++ rest ≡ ts
    → AreFirstLines lines blocks → Refuses (standing (last_of [] lines) blocks []) rest n → line_starts 0 at_start ts ≡ Err n
run_first lines blocks rest ts n h w a r =
    ap (line_starts 0 at_start) (sym w)
    ∙ run_lines lines rest [] [] blocks n a.logical
    (begins_off lines rest (subst (λ (l : List Placed). Numbered l) (sym w) h) a.logical) a.apart a.nested r 0

-- the first fault of the relation is found
pub indent_fault_as : (ts : List Placed) (n : ℕ) → Numbered ts → IsIndentFault ts n → line_starts 0 at_start ts ≡ Err n
indent_fault_as ts n h (wrong_column lines blocks t further w a off f) =
    let prior = last_of [] lines in
    let s = standing prior blocks [] in
    let m = mark_of t.token in
    run_first lines blocks (t ∷ further) ts n h w a
    (stop_token s t further n (turn_first s m t.line t.column (starts_there s t.line refl off)
    ∙ ap (λ r. r >>= newly s m t.line) (column_fault_as s prior t n refl refl f)))
indent_fault_as ts n h (wrong_bracket lines blocks [] t further us w a b o on f e) =
    let prior = last_of [] lines in
    let s = standing prior blocks [] in
    let m = mark_of t.token in
    let missed = misses_as m [] t.line (subst (IsBracketFault m) o f) in
    run_first lines blocks (t ∷ further) ts n h w a
    (stop_token s t further n (turn_first s m t.line t.column (starts_there s t.line refl b.0)
    ∙ ap (λ r. r >>= newly s m t.line) (blocks_as (ends_with_colon false prior) s t.line t.column b.1.0 refl b.1.1)
    ∙ rw missed (ap Err (sym e))))
indent_fault_as ts n h (wrong_bracket lines blocks (c ∷ cs) t further us w a b o on f e) =
    let prior = last_of [] lines in
    let s = standing (c ∷ cs) b.1.0 us in
    let m = mark_of t.token in
    run_first lines blocks (c ∷ cs ++ t ∷ further) ts n h w a
    (run_begun c cs (t ∷ further) prior blocks b.1.0 us n b.0 b.1.1 o
    (stop_token s t further n (turn_middle s m t.line t.column (starts_not s t.line (λ k. on (none_held us k)))
    ∙ rw (misses_as m us t.line f) (ap Err (sym e)))))
indent_fault_as ts n h (never_closed lines blocks [] u us w a b o e) = absurd cc
indent_fault_as ts n h (never_closed lines blocks (c ∷ cs) u us w a b o e) =
    let prior = last_of [] lines in
    run_first lines blocks (c ∷ cs ++ []) ts n h (ap (λ l. joined lines ++ l) (append-nil (c ∷ cs)) ∙ w) a
    (run_begun c cs [] prior blocks b.1.0 (u ∷ us) n b.0 b.1.1 o
    (λ place. at_end place (standing (c ∷ cs) b.1.0 (u ∷ us)) ∙ ap Err (sym e)))
indent_fault_as ts n h (no_block lines blocks w a c e) =
    let prior = last_of [] lines in
    run_first lines blocks [] ts n h (append-nil (joined lines) ∙ w) a
    (λ place. at_end place (standing prior blocks []) ∙ rw c (ap Err (sym e)))
