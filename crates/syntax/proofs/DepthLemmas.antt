-- How deep lines are, by how deep each of them is; and how many lines there are, those of their blocks too.
use Rattle.std.proofs.Common.{◌≡◌, ◌+◌, ◌-◌, ◌<◌, ◌≤◌, ◌++◌, ◌∷◌, [], ℕ, zero, suc, List, ap, arith, drop, length, subst, sym, take}
use Rattle.std.proofs.Math.ListN.{get_or}
use Rattle.grammar.specs.BareDepth.{lines_depth}
use Rattle.grammar.specs.BareLines.{Lines, a_line, no_lines}
use Rattle.grammar.specs.LineView.{line_of, line_step, lines}
use Rattle.grammar.specs.declared.statements.Line.{Line, out-Line}
use Rattle.grammar.specs.declared.statements.Line.TheFolds.{fold_out-Line}
use Rattle.scopes.proofs.NameLemmas.{drop_at}
use Rattle.syntax.specs.Resolves.{before_lines, line_depth}

-- a line and what stands behind it
pub line_is : (l : Line) (rest : Lines) → line_of l rest ≡ before_lines l rest
line_is l rest = ap (λ f. f rest) (fold_out-Line (Lines → Lines) line_step l)

line_seen : (l : Line) (ls : List Line) → lines (l ∷ ls) ≡ before_lines l (lines ls)
line_seen l ls = line_is l (lines ls)

-- the first line of some, and those behind it
pub first_depth : (l : Line) (ls : List Line) (n : ℕ) → lines_depth (lines (l ∷ ls)) ≤ n → (line_depth l ≤ n) × (lines_depth (lines ls) ≤ n)
first_depth l ls n h =
    let e = subst (λ r. lines_depth r ≤ n) (line_seen l ls) h in (omega (arith, e), omega (arith, e))

more_depth : (l : Line) (ls : List Line) (n : ℕ) → line_depth l ≤ n → lines_depth (lines ls) ≤ n → lines_depth (lines (l ∷ ls)) ≤ n
more_depth l ls n h k =
    let e : lines_depth (before_lines l (lines ls)) ≤ n = omega (arith, h, k) in
    subst (λ r. lines_depth r ≤ n) (sym (line_seen l ls)) e

-- lines from a place on, and up to one
drop_depth : (ls : List Line) (i n : ℕ) → lines_depth (lines ls) ≤ n → lines_depth (lines (drop i ls)) ≤ n
drop_depth ls zero n h = h
drop_depth [] (suc i) n h = h
drop_depth (l ∷ ls) (suc i) n h = drop_depth ls i n (first_depth l ls n h).1

-- the line before a place
pub depth_before : (l : Line) (ls : List Line) (i n : ℕ) → l ≡ get_or ls (i - 1) l → lines_depth (lines ls) ≤ n → 0 < i → i ≤ length ls → line_depth l ≤ n
depth_before l ls i n e h some within =
    let here = subst (λ ks. lines_depth (lines ks) ≤ n) (drop_at ls (i - 1) l (omega (arith, some, within)) e) (drop_depth ls (i - 1) n h) in
    (first_depth l (drop (i - 1 + 1) ls) n here).0

-- how many lines there are, with those of their blocks
abbrev pub count : Lines → ℕ
count no_lines = 0
count (a_line n f inner ls) = suc (count inner + count ls)

abbrev pub own_count : Line → ℕ
own_count l = suc (count (lines (out-Line l).block.items))

first_count : (l : Line) (ls : List Line) → count (lines (l ∷ ls)) ≡ own_count l + count (lines ls)
first_count l ls = let e = ap count (line_seen l ls) in omega (arith, e)

drop_count : (ls : List Line) (i : ℕ) → count (lines (drop i ls)) ≤ count (lines ls)
drop_count ls zero = omega (arith)
drop_count [] (suc i) = omega (arith)
drop_count (l ∷ ls) (suc i) = let k = drop_count ls i in let e = first_count l ls in omega (arith, k, e)

pub count_before : (l : Line) (ls : List Line) (i : ℕ) → l ≡ get_or ls (i - 1) l → 0 < i → i ≤ length ls → own_count l ≤ count (lines ls)
count_before l ls i e some within =
    let k = drop_count ls (i - 1) in
    let here = ap (λ ks. count (lines ks)) (drop_at ls (i - 1) l (omega (arith, some, within)) e) in
    let f = first_count l (drop (i - 1 + 1) ls) in
    omega (arith, k, here, f)

pub take_depth : (ls : List Line) (i n : ℕ) → lines_depth (lines ls) ≤ n → lines_depth (lines (take i ls)) ≤ n
take_depth ls zero n h = omega (arith)
take_depth [] (suc i) n h = h
take_depth (l ∷ ls) (suc i) n h =
    let e = first_depth l ls n h in more_depth l (take i ls) n e.0 (take_depth ls i n e.1)

-- the last line, and those before it
pub last_depth : (ls : List Line) (l : Line) (n : ℕ) → lines_depth (lines (ls ++ l ∷ [])) ≤ n → (line_depth l ≤ n) × (lines_depth (lines ls) ≤ n)
last_depth [] l n h = first_depth l [] n h
last_depth (k ∷ ls) l n h =
    let e = first_depth k (ls ++ l ∷ []) n h in
    let f = last_depth ls l n e.1 in (f.0, more_depth k ls n e.0 f.1)
