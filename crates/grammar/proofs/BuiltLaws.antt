-- The lines of a file that has a tree, put into their blocks, are those of the tree.
use Rattle.std.proofs.Common.{◌≡◌, ℕ, ◌<◌, Bool, true, false, List, [], ◌∷◌, map, refl, sym, ap, subst, ◌∙◌, ◌==◌, Option, Some, None, Ok, arith}
use Rattle.std.specs.Prelude.{option_map}
use Rattle.std.specs.List.{cons_option}
use Rattle.std.proofs.lemmas.Bool.Decides.{nat_tests}
use Rattle.lexer.specs.Tokens.{Placed}
use Rattle.grammar.specs.Statements.{Form, loads, simple, defines, if_head, elif_head, else_head, for_head, block, inline, IsForm, form_spelled}
use Rattle.grammar.specs.Places.{Place, opens}
use Rattle.grammar.specs.Blocks.{Block, no_lines, plain_line, head_line, Laid, some_lines, block_laid, IsBlock, laid}
use Rattle.grammar.specs.BareLines as bare
use Rattle.grammar.specs.BareLines.{bare_form, own_lines, bare_lines}
use Rattle.grammar.specs.BlockReading.{file_reads}
use Rattle.grammar.specs.Built.{Made, Pending, put, attached, innermost, around, onto, built, made, made_line, made_lines}
use Rattle.grammar.proofs.LinesRead.{is_read_form}
use Rattle.grammar.proofs.FilesRead.{file_sound}

-- the innermost block that is pending is less deep
abbrev Under : ℕ → List Pending → Type 0
Under c [] = Unit {0}
Under c (p ∷ ps) = p.column < c

-- the lines of a block before those of others
abbrev with_block : ℕ → Block → List Pending → List Pending
with_block c no_lines ps = ps
with_block c (plain_line n f b) ps = record { column = c; lines = bare_lines (plain_line n f b) } ∷ ps
with_block c (head_line n f d inner b) ps = record { column = c; lines = bare_lines (head_line n f d inner b) } ∷ ps

put_same : (c n : ℕ) (f : bare.Form) (inner : bare.Lines) (p : Pending) (ps : List Pending) → p.column ≡ c
    → put c (bare.a_line n f inner) (p ∷ ps) ≡ record { column = c; lines = bare.a_line n f inner p.lines } ∷ ps
put_same c n f inner p ps e = let test : (p.column == c) ≡ true = grind (arith, nat_tests) in rw (test, put) refl

put_other : (c n : ℕ) (f : bare.Form) (inner : bare.Lines) (p : Pending) (ps : List Pending) → p.column < c
    → put c (bare.a_line n f inner) (p ∷ ps) ≡ record { column = c; lines = bare.a_line n f inner bare.no_lines } ∷ p ∷ ps
put_other c n f inner p ps e = let test : (p.column == c) ≡ false = grind (arith, nat_tests) in rw (test, put) refl

-- a line before those of its block
put_block : (c n : ℕ) (f : bare.Form) (inner : bare.Lines) (b : Block) (ps : List Pending) → Under c ps
    → put c (bare.a_line n f inner) (with_block c b ps) ≡ record { column = c; lines = bare.a_line n f inner (bare_lines b) } ∷ ps
put_block c n f inner no_lines [] h = refl
put_block c n f inner no_lines (p ∷ ps) h = put_other c n f inner p ps h
put_block c n f inner (plain_line m g b) ps h = put_same c n f inner (record { column = c; lines = bare_lines (plain_line m g b) }) ps refl
put_block c n f inner (head_line m g d k b) ps h = put_same c n f inner (record { column = c; lines = bare_lines (head_line m g d k b) }) ps refl

-- a line that opens no block has what belongs to it on it
attach_plain : (n c : ℕ) (f : Form) (ps : List Pending) → opens f ≡ false → attached (made n c f) ps ≡ put c (bare.a_line n (bare_form f) (own_lines n f)) ps
attach_plain n c (loads s items) ps e = refl
attach_plain n c (simple s) ps e = refl
attach_plain n c (defines x l block) ps e = absurd cc
attach_plain n c (defines x l (inline s)) ps e = refl
attach_plain n c (if_head a block) ps e = absurd cc
attach_plain n c (if_head a (inline s)) ps e = refl
attach_plain n c (elif_head a block) ps e = absurd cc
attach_plain n c (elif_head a (inline s)) ps e = refl
attach_plain n c (else_head block) ps e = absurd cc
attach_plain n c (else_head (inline s)) ps e = refl
attach_plain n c (for_head x xs a block) ps e = absurd cc
attach_plain n c (for_head x xs a (inline s)) ps e = refl

attach_head : (n c : ℕ) (f : Form) (ps : List Pending) → opens f ≡ true → attached (made n c f) ps ≡ put c (bare.a_line n (bare_form f) (innermost ps)) (around ps)
attach_head n c (loads s items) ps e = absurd cc
attach_head n c (simple s) ps e = absurd cc
attach_head n c (defines x l block) ps e = refl
attach_head n c (defines x l (inline s)) ps e = absurd cc
attach_head n c (if_head a block) ps e = refl
attach_head n c (if_head a (inline s)) ps e = absurd cc
attach_head n c (elif_head a block) ps e = refl
attach_head n c (elif_head a (inline s)) ps e = absurd cc
attach_head n c (else_head block) ps e = refl
attach_head n c (else_head (inline s)) ps e = absurd cc
attach_head n c (for_head x xs a block) ps e = refl
attach_head n c (for_head x xs a (inline s)) ps e = absurd cc

-- a line with a form is read as that
made_first : (l : Laid) (ls : List Laid) (f : Form) → IsForm f → l.tokens ≡ form_spelled f → made_lines (l ∷ ls) ≡ made l.line l.column f ∷ made_lines ls
made_first l ls f h t =
    let e : made_line l ≡ Some (made l.line l.column f) = ap (option_map (made l.line l.column)) (is_read_form l.tokens f (record { is_form = h; whole = t })) in
    by_line (made_line l) e
  where
    by_line : (r : Option Made) → r ≡ Some (made l.line l.column f) → cons_option r (made_lines ls) ≡ made l.line l.column f ∷ made_lines ls
    by_line None e = absurd cc
    by_line (Some m) e = let same : m ≡ made l.line l.column f = cc in ap (λ m. m ∷ made_lines ls) same

under_block : (c d : ℕ) (b : Block) (ps : List Pending) → c < d → Under c ps → Under d (with_block c b ps)
under_block c d no_lines [] less h = tt
under_block c d no_lines (p ∷ ps) less h = omega (arith, less, h)
under_block c d (plain_line n f b) ps less h = less
under_block c d (head_line n f e k b) ps less h = less

innermost_block : (d : ℕ) (b : Block) (ps : List Pending) → some_lines b ≡ true → innermost (with_block d b ps) ≡ bare_lines b
innermost_block d no_lines ps e = absurd cc
innermost_block d (plain_line n f b) ps e = refl
innermost_block d (head_line n f k i b) ps e = refl

around_block : (d : ℕ) (b : Block) (ps : List Pending) → some_lines b ≡ true → around (with_block d b ps) ≡ ps
around_block d no_lines ps e = absurd cc
around_block d (plain_line n f b) ps e = refl
around_block d (head_line n f k i b) ps e = refl

abbrev pends : List Laid → List Pending
pends ls = onto (made_lines ls) []

block_built : (p : Place) (after early : Bool) (c : ℕ) (b : Block) (rest : List Laid) → IsBlock p after early c b → Under c (pends rest)
    → pends (block_laid c b rest) ≡ with_block c b (pends rest)
block_built p after early c no_lines rest h u = refl
block_built p after early c (plain_line n f b) rest h u =
    ap (λ ms. onto ms []) (made_first (record { line = n; column = c; tokens = form_spelled f }) (block_laid c b rest) f h.0.is_form refl)
    ∙ ap (attached (made n c f)) (block_built p _ _ c b rest h.2 u)
    ∙ attach_plain n c f (with_block c b (pends rest)) h.1
    ∙ put_block c n (bare_form f) (own_lines n f) b (pends rest) u
block_built p after early c (head_line n f d inner b) rest h u =
    let behind = block_built p _ _ c b rest h.5 u in
    let under : Under d (pends (block_laid c b rest)) = subst (Under d) (sym behind) (under_block c d b (pends rest) h.2 u) in
    ap (λ ms. onto ms []) (made_first (record { line = n; column = c; tokens = form_spelled f }) (block_laid d inner (block_laid c b rest)) f h.0.is_form refl)
    ∙ ap (attached (made n c f)) (block_built _ false false d inner (block_laid c b rest) h.4 under ∙ ap (with_block d inner) behind)
    ∙ attach_head n c f (with_block d inner (with_block c b (pends rest))) h.1
    ∙ ap (λ i. put c (bare.a_line n (bare_form f) i) (around (with_block d inner (with_block c b (pends rest))))) (innermost_block d inner (with_block c b (pends rest)) h.3)
    ∙ ap (put c (bare.a_line n (bare_form f) (bare_lines inner))) (around_block d inner (with_block c b (pends rest)) h.3)
    ∙ put_block c n (bare_form f) (bare_lines inner) b (pends rest) u

outermost_block : (b : Block) → innermost (with_block 0 b []) ≡ bare_lines b
outermost_block no_lines = refl
outermost_block (plain_line n f b) = refl
outermost_block (head_line n f d k b) = refl

-- the lines of a file are put into the blocks of its tree
pub file_built : (p : Place) (lines : List (List Placed)) (b : Block) → file_reads p (map laid lines) ≡ Ok b → built (made_lines (map laid lines)) ≡ bare_lines b
file_built p lines b e =
    let h = file_sound p lines b e in
    ap (λ ls. innermost (pends ls)) h.whole ∙ ap innermost (block_built p false true 0 b [] h.is_block tt) ∙ outermost_block b
