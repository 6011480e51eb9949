-- The blocks of a file that was laid out are held_open at once: so no more of them than that are inside of one another.
use Rattle.std.proofs.Common.{◌≡◌, ℕ, ◌≤◌, ◌<◌, ◌+◌, Bool, true, false, List, [], ◌∷◌, ◌++◌, ◌⊎◌, inl, inr, drop, length, map, refl, sym, ap, ◌∙◌, subst, arith}
use Rattle.std.specs.List.{AllByRecursion}
use Rattle.lexer.specs.Layout.{innermost}
use Rattle.lexer.specs.LaidOut.{first_column, ends_with_colon, BlocksBehind, InBlocks}
use Rattle.lexer.specs.Tokens.{Placed}
use Rattle.grammar.specs.Places.{Place, inside_of, takes_else, still_early}
use Rattle.grammar.specs.Statements.{Body, block, inline, Form, loads, simple, defines, if_head, elif_head, else_head, for_head}
use Rattle.grammar.specs.Blocks.{Block, no_lines, plain_line, head_line, Laid, some_lines, block_laid, IsBlock, laid, SpellsFile}
use Rattle.grammar.specs.BareLines.{bare_lines, body_lines, own_lines}
use Rattle.file_syntax.proofs.ProgramDepths.{lines_nesting}

-- the columns of open blocks, the innermost at this one, and each outer one at a smaller
abbrev Stack : ℕ → List ℕ → Type 0
Stack c [] = c ≡ 0
Stack c (x ∷ xs) = (x ≡ c) × ((d : ℕ) × (d < c) × Stack d xs)

-- a line of the block at a column may come: its block is held_open, perhaps with deeper ones, or is opened by it
abbrev Comes : Block → ℕ → List ℕ → List ℕ → Type 0
Comes b c before held_open =
    ((deeper : List ℕ) × (before ≡ deeper ++ held_open) × AllByRecursion (λ x. c < x) deeper × (length held_open ≤ 32)) ⊎ ((held_open ≡ c ∷ before) × (some_lines b ≡ true))

stack_at : (c : ℕ) (held_open : List ℕ) → Stack c held_open → innermost held_open ≡ c
stack_at c [] h = sym h
stack_at c (x ∷ xs) h = h.0

-- of the blocks of a stack none is deeper than the innermost
stack_below : (c : ℕ) (held_open deeper after : List ℕ) → Stack c held_open → held_open ≡ deeper ++ after → innermost after ≤ c
stack_below c held_open [] after h e = let k = ap innermost e in let j = stack_at c held_open h in omega (arith, k, j)
stack_below c [] (y ∷ ys) after h e = absurd cc
stack_below c (x ∷ xs) (y ∷ ys) after h e = let k = stack_below h.1.0 xs ys after h.1.2 (ap (drop 1) e) in let j = h.1.1 in omega (arith, k, j)

-- down to the block at a column, there is one way
down_to : (c : ℕ) (held_open deeper other after : List ℕ) → Stack c held_open → AllByRecursion (λ x. c < x) deeper → AllByRecursion (λ x. c < x) other
    → deeper ++ held_open ≡ other ++ after → innermost after ≡ c → after ≡ held_open
down_to c held_open [] [] after h a b e i = sym e
down_to c held_open [] (y ∷ ys) after h a b e i = let k = ap innermost e in let j = stack_at c held_open h in let m = b.0 in absurd (omega (arith, k, j, m))
down_to c held_open (x ∷ xs) [] after h a b e i = let k = ap innermost e in let m = a.0 in absurd (omega (arith, k, i, m))
down_to c held_open (x ∷ xs) (y ∷ ys) after h a b e i = down_to c held_open xs ys after h a.1 b.1 (ap (drop 1) e) i

opened_by : (head : Bool) (c : ℕ) (before after : List ℕ) → Stack c (c ∷ before) → BlocksBehind head c before after → (after ≡ c ∷ before) × (length (c ∷ before) ≤ 32)
opened_by true c before after h b = (b.2, let k = b.1 in omega (arith, k))
opened_by false c before after h b = let k = stack_below h.1.0 before b.1.0 after h.1.2 b.1.1 in let j = h.1.1 in let i = b.0 in absurd (omega (arith, k, j, i))

stays_in : (head : Bool) (c : ℕ) (held_open deeper after : List ℕ) → Stack c held_open → AllByRecursion (λ x. c < x) deeper → BlocksBehind head c (deeper ++ held_open) after → after ≡ held_open
stays_in true c held_open [] after h a b = let k = b.0 in let j = stack_at c held_open h in absurd (omega (arith, k, j))
stays_in true c held_open (x ∷ xs) after h a b = let k = b.0 in let j = a.0 in absurd (omega (arith, k, j))
stays_in false c held_open deeper after h a b = down_to c held_open deeper b.1.0 after h a b.1.2 b.1.1 b.0

-- behind the beginning of a line of a block, that block is the innermost held_open one
line_in : (b : Block) (head : Bool) (c : ℕ) (held_open before after : List ℕ) → Stack c held_open → Comes b c before held_open → BlocksBehind head c before after → (after ≡ held_open) × (length held_open ≤ 32)
line_in b head c held_open before after h (inl d) e =
    (stays_in head c held_open d.0 after h d.2 (subst (λ x. BlocksBehind head c x after) d.1 e), d.3)
line_in b head c held_open before after h (inr d) e =
    let k = opened_by head c before after (subst (Stack c) d.0 h) e in
    (k.0 ∙ sym d.0, subst (λ x. length x ≤ 32) (sym d.0) k.1)

-- what comes behind the lines of a block at a column
record After (c : ℕ) (held_open : List ℕ) (rest : List Laid) : Type 0 where
  before : List ℕ
  head : Bool
  lines : List (List Placed)
  deeper : List ℕ
  is_open : before ≡ deeper ++ held_open
  above : AllByRecursion (λ x. c < x) deeper
  spelled : map laid lines ≡ rest
  nested : InBlocks before head lines

all_above : (c d : ℕ) (deeper : List ℕ) → c < d → AllByRecursion (λ x. d < x) deeper → AllByRecursion (λ x. c < x) (deeper ++ d ∷ [])
all_above c d [] lt h = (lt, tt)
all_above c d (x ∷ xs) lt h = (let k = h.0 in omega (arith, k, lt), all_above c d xs lt h.1)

put_under : (d : ℕ) (deeper held_open : List ℕ) → deeper ++ d ∷ held_open ≡ (deeper ++ d ∷ []) ++ held_open
put_under d [] held_open = refl
put_under d (x ∷ xs) held_open = ap (λ l. x ∷ l) (put_under d xs held_open)

column_of : (l : List Placed) → first_column l ≡ (laid l).column
column_of [] = refl
column_of (t ∷ ts) = refl

abbrev first_at : List Laid → ℕ
first_at [] = 0
first_at (l ∷ ls) = l.column

-- a statement on the line of its head is one block
body_flat : (n : ℕ) (b : Body) → lines_nesting (body_lines n b) ≤ 1
body_flat n block = omega (arith)
body_flat n (inline s) = omega (arith)

own_flat : (n : ℕ) (f : Form) → lines_nesting (own_lines n f) ≤ 1
own_flat n (loads s items) = omega (arith)
own_flat n (simple s) = omega (arith)
own_flat n (defines x ps b) = body_flat n b
own_flat n (if_head a b) = body_flat n b
own_flat n (elif_head a b) = body_flat n b
own_flat n (else_head b) = body_flat n b
own_flat n (for_head x xs a b) = body_flat n b

held : (b : Block) (p : Place) (after early : Bool) (c : ℕ) (held_open : List ℕ) (rest : List Laid) (before : List ℕ) (head : Bool) (lines : List (List Placed))
    → IsBlock p after early c b → Stack c held_open → Comes b c before held_open → map laid lines ≡ block_laid c b rest → InBlocks before head lines
    → (lines_nesting (bare_lines b) + length held_open ≤ 34) × After c held_open rest
held no_lines p after early c held_open rest before head lines k st (inl d) e h =
    (let i = d.3 in omega (arith, i), record { before = before; head = head; lines = lines; deeper = d.0; is_open = d.1; above = d.2; spelled = e; nested = h })
held no_lines p after early c held_open rest before head lines k st (inr d) e h = let i = d.1 in absurd cc
held (plain_line n f b) p after early c held_open rest before head [] k st d e h = absurd cc
held (plain_line n f b) p after early c held_open rest before head (l ∷ ls) k st d e h =
    let at = column_of l ∙ ap first_at e in
    let q = line_in (plain_line n f b) head c held_open before h.0 st d (subst (λ x. BlocksBehind head x before h.0) at h.1) in
    let r = held b p (takes_else f) (still_early early f) c held_open rest held_open (ends_with_colon false l) ls k.2 st (inl ([], refl, tt, q.1)) (ap (drop 1) e) (subst (λ x. InBlocks x (ends_with_colon false l) ls) q.0 h.2) in
    let own = own_flat n f in
    let i = r.0 in
    let j = q.1 in
    (omega (arith, own, i, j), r.1)
held (head_line n f m inner b) p after early c held_open rest before head [] k st d e h = absurd cc
held (head_line n f m inner b) p after early c held_open rest before head (l ∷ ls) k st d e h =
    let at = column_of l ∙ ap first_at e in
    let q = line_in (head_line n f m inner b) head c held_open before h.0 st d (subst (λ x. BlocksBehind head x before h.0) at h.1) in
    let lt : c < m = k.2 in
    let i = held inner (inside_of p f) false false m (m ∷ held_open) (block_laid c b rest) held_open (ends_with_colon false l) ls k.4 (refl, (c, lt, st)) (inr (refl, k.3)) (ap (drop 1) e) (subst (λ x. InBlocks x (ends_with_colon false l) ls) q.0 h.2) in
    let u = i.1 in
    let r = held b p (takes_else f) (still_early early f) c held_open rest u.before u.head u.lines k.5 st (inl (u.deeper ++ m ∷ [], u.is_open ∙ put_under m u.deeper held_open, all_above c m u.deeper lt u.above, q.1)) u.spelled u.nested in
    let x = i.0 in
    let y = r.0 in
    (omega (arith, x, y), r.1)

pub blocks_within : (p : Place) (lines : List (List Placed)) (tree : Block) → SpellsFile p lines tree → InBlocks [] false lines → lines_nesting (bare_lines tree) ≤ 34
blocks_within p lines tree h e =
    let r = held tree p false true 0 [] [] [] false lines h.is_block refl (inl ([], refl, tt, omega (arith))) h.whole e in
    let i = r.0 in
    omega (arith, i)
