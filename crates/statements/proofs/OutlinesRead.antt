-- The outlines of lines tell which is refused.
use Rattle.std.proofs.Common.{◌≡◌, ℕ, ◌<◌, Bool, true, false, List, [], ◌∷◌, map, refl, sym, ap, ◌∙◌, inl, inr, ◌&&◌, ◌==◌, nat_le, nat_lt, Option, Some, None, Result, Ok, Err, if◌then◌else◌, arith}
use Rattle.std.proofs.lemmas.Bool.Decides.{nat_tests}
use Rattle.statements.specs.declared.outline.Open.{Open}
use Rattle.grammar.specs.Tree.{text}
use Rattle.lexer.specs.Layout.{◌>>=◌}
use Rattle.grammar.specs.Statements.{Simple, evaluates, Body, block, inline, Form, loads, simple, defines, if_head, elif_head, else_head, for_head}
use Rattle.grammar.specs.FormReading.{form_reads}
use Rattle.grammar.specs.Depth.{form_depth}
use Rattle.grammar.specs.Places.{Place, top_of_module, top_of_build, in_function, in_loop, stands, simple_stands, inside_of, body_stands, follows, takes_else, early_enough, still_early, opens}
use Rattle.grammar.specs.Blocks.{Block, Laid}
use Rattle.grammar.specs.BlockReading as reading
use Rattle.grammar.specs.BlockReading.{Around, if_fits, ended, with_line, with_head, headed, formed, in_block, read_lines, outermost, file_reads}
use Rattle.statements.specs.Outlines as outline
use Rattle.statements.specs.Outlines.{simple_shape, body_of, formed_of, form_outline, outline_of, place_of, down_to, pass, first_of, stepped}
use Rattle.grammar.proofs.FilesRead.{block_here, outer_block}
use Rattle.grammar.proofs.StatementFaults.{TooFew, none_read, few_read, off_block}

-- a statement on one line stands where its outline does
simple_same : (p : Place) (s : Simple) → simple_stands p s ≡ outline.shape_stands (place_of p) (simple_shape s)
simple_same top_of_module (evaluates (text s)) = refl
simple_same top_of_build (evaluates (text s)) = refl
simple_same in_function (evaluates (text s)) = refl
simple_same in_loop (evaluates (text s)) = refl
simple_same top_of_module s = refl
simple_same top_of_build s = refl
simple_same in_function s = refl
simple_same in_loop s = refl

body_same : (p : Place) (b : Body) → body_stands p b ≡ outline.body_stands (place_of p) (body_of b)
body_same p block = refl
body_same p (inline s) = simple_same p s

alone : (b : Bool) → b ≡ (b && true)
alone true = refl
alone false = refl

simple_alone : (p : Place) (s : Simple) → outline.shape_stands (place_of p) (simple_shape s) ≡ outline.formed_stands (place_of p) (formed_of (simple s))
simple_alone p s = alone (outline.shape_stands (place_of p) (simple_shape s))

top_alone : (p : Place) → stands p (loads [] Rattle.grammar.specs.Statements.none_more) ≡ (outline.is_top (place_of p) && true)
top_alone top_of_module = refl
top_alone top_of_build = refl
top_alone in_function = refl
top_alone in_loop = refl

-- a form stands where its outline does
stands_same : (p : Place) (f : Form) → stands p f ≡ outline.formed_stands (place_of p) (formed_of f)
stands_same p (loads s items) = top_alone p
stands_same p (simple s) = simple_same p s ∙ simple_alone p s
stands_same top_of_module (defines x ps b) = body_same in_function b
stands_same top_of_build (defines x ps b) = refl
stands_same in_function (defines x ps b) = refl
stands_same in_loop (defines x ps b) = refl
stands_same top_of_module (if_head a b) = refl
stands_same top_of_build (if_head a b) = refl
stands_same in_function (if_head a b) = body_same in_function b
stands_same in_loop (if_head a b) = body_same in_loop b
stands_same top_of_module (elif_head a b) = refl
stands_same top_of_build (elif_head a b) = refl
stands_same in_function (elif_head a b) = body_same in_function b
stands_same in_loop (elif_head a b) = body_same in_loop b
stands_same top_of_module (else_head b) = refl
stands_same top_of_build (else_head b) = refl
stands_same in_function (else_head b) = body_same in_function b
stands_same in_loop (else_head b) = body_same in_loop b
stands_same top_of_module (for_head x xs a b) = refl
stands_same top_of_build (for_head x xs a b) = refl
stands_same in_function (for_head x xs a b) = body_same in_loop b
stands_same in_loop (for_head x xs a b) = body_same in_loop b

follows_same : (after : Bool) (f : Form) → follows after f ≡ outline.follows after (formed_of f).shape
follows_same after (simple (evaluates (text s))) = refl
follows_same after (simple s) = refl
follows_same after f = refl

takes_same : (f : Form) → takes_else f ≡ outline.takes_else (formed_of f).shape
takes_same (simple (evaluates (text s))) = refl
takes_same (simple s) = refl
takes_same f = refl

early_same : (early : Bool) (f : Form) → early_enough early f ≡ outline.early_enough early (formed_of f).shape
early_same early (simple (evaluates (text s))) = refl
early_same early (simple s) = refl
early_same early f = refl

still_same : (early : Bool) (f : Form) → still_early early f ≡ outline.still_early early (formed_of f).shape
still_same early (simple (evaluates (text s))) = refl
still_same early (simple s) = refl
still_same early f = refl

opens_same : (f : Form) → opens f ≡ outline.opens (formed_of f).body
opens_same (simple s) = refl
opens_same (loads s items) = refl
opens_same (defines x ps block) = refl
opens_same (defines x ps (inline s)) = refl
opens_same (if_head a block) = refl
opens_same (if_head a (inline s)) = refl
opens_same (elif_head a block) = refl
opens_same (elif_head a (inline s)) = refl
opens_same (else_head block) = refl
opens_same (else_head (inline s)) = refl
opens_same (for_head x xs a block) = refl
opens_same (for_head x xs a (inline s)) = refl

within_same : (p : Place) (f : Form) → place_of (inside_of p f) ≡ outline.within (place_of p) (formed_of f).shape
within_same p (simple (evaluates (text s))) = refl
within_same p (simple s) = refl
within_same p f = refl

-- an open block, as the outlines have it
abbrev pub open_of : Around → Open
open_of o = record { column = o.column; place = place_of o.place; after = o.after; early = o.early }

behind_same : (o : Around) (f : Form) → outline.behind (open_of o) (formed_of f) ≡ open_of (reading.behind o f)
behind_same o f =
    ap (λ (b : Bool). record { column = o.column; place = place_of o.place; after = b; early = outline.still_early o.early (formed_of f).shape }) (sym (takes_same f))
    ∙ ap (λ (b : Bool). record { column = o.column; place = place_of o.place; after = takes_else f; early = b }) (sym (still_same o.early f))

inside_same : (o : Around) (f : Form) (d : ℕ) → outline.inside (open_of o) (formed_of f) d ≡ open_of (reading.inside o f d)
inside_same o f d = ap (λ (p : Rattle.statements.specs.declared.outline.Place.Place). record { column = d; place = p; after = false; early = false }) (sym (within_same o.place f))

-- which of two a choice is, written one way and the other
choice_same : {A : Type 0} (b : Bool) (x y : A) → (elim b as (λ _. A) [ true ↦ x | false ↦ y ]) ≡ (if b then x else y)
choice_same true x y = refl
choice_same false x y = refl

column_same : (l : Laid) (ls : List Laid) → reading.block_column l ls ≡ outline.block_column (outline_of l) (first_of (map outline_of ls))
column_same l [] = refl
column_same l (m ∷ ms) = choice_same (nat_lt l.column m.column) (Ok m.column) (Err m.line)

-- where a result has a fault
fault_at : {A : Type 0} → Result A ℕ → Option ℕ
fault_at (Ok a) = None
fault_at (Err n) = Some n

ended_fault : (r : Result (List Block) ℕ) → fault_at (ended r) ≡ fault_at r
unfolding fault_at
ended_fault (Ok bs) = refl
ended_fault (Err n) = refl

line_fault : (n : ℕ) (f : Form) (r : Result (List Block) ℕ) → (r ≡ Ok [] → ⊥) → fault_at (with_line n f r) ≡ fault_at r
unfolding fault_at
line_fault n f (Ok []) h = absurd (h refl)
line_fault n f (Ok (b ∷ bs)) h = refl
line_fault n f (Err m) h = refl

head_fault : (n : ℕ) (f : Form) (d : ℕ) (r : Result (List Block) ℕ) → (TooFew r → ⊥) → fault_at (with_head n f d r) ≡ fault_at r
unfolding fault_at
head_fault n f d (Ok []) h = absurd (h (inl refl))
head_fault n f d (Ok (b ∷ [])) h = absurd (h (inr (b, refl)))
head_fault n f d (Ok (b ∷ c ∷ bs)) h = refl
head_fault n f d (Err m) h = refl

-- what is read of lines and what their outlines come to have a fault at the same line
abbrev Same : List Laid → Type 0
Same ls = (os : List Around) → fault_at (read_lines ls os) ≡ fault_at (pass (map outline_of ls) (map open_of os))

fits_flag : (a b c : Bool) → (a && (b && (c && true))) ≡ (a && (b && c))
fits_flag false b c = refl
fits_flag true false c = refl
fits_flag true true false = refl
fits_flag true true true = refl

unfit_flag : (a b c : Bool) → (a && (b && (c && false))) ≡ false
unfit_flag false b c = refl
unfit_flag true false c = refl
unfit_flag true true false = refl
unfit_flag true true true = refl

fits_same : (o : Around) (f : Form) → nat_le (form_depth f) 200 ≡ true → reading.fits o f ≡ outline.fits (open_of o) (formed_of f)
fits_same o f d =
    ap (λ e. stands o.place f && (follows o.after f && (early_enough o.early f && e))) d
    ∙ fits_flag (stands o.place f) (follows o.after f) (early_enough o.early f)
    ∙ ap (λ a. a && (follows o.after f && early_enough o.early f)) (stands_same o.place f)
    ∙ ap (λ b. outline.formed_stands (place_of o.place) (formed_of f) && (b && early_enough o.early f)) (follows_same o.after f)
    ∙ ap (λ c. outline.formed_stands (place_of o.place) (formed_of f) && (outline.follows o.after (formed_of f).shape && c)) (early_same o.early f)

unfit : (o : Around) (f : Form) → nat_le (form_depth f) 200 ≡ false → reading.fits o f ≡ false
unfit o f d =
    ap (λ e. stands o.place f && (follows o.after f && (early_enough o.early f && e))) d
    ∙ unfit_flag (stands o.place f) (follows o.after f) (early_enough o.early f)

module _ (l : Laid) (ls : List Laid) (ih : Same ls) where
  abbrev next : Option Rattle.statements.specs.declared.outline.Outline.Outline
  next = first_of (map outline_of ls)

  abbrev then_pass : Result (List Open) ℕ → Result (List Open) ℕ
  then_pass r = r >>= pass (map outline_of ls)

  plain_same : (o : Around) (os : List Around) (f : Form) → fault_at (with_line l.line f (read_lines ls (reading.behind o f ∷ os))) ≡ fault_at (pass (map outline_of ls) (outline.behind (open_of o) (formed_of f) ∷ map open_of os))
  plain_same o os f =
      line_fault l.line f (read_lines ls (reading.behind o f ∷ os)) (none_read ls (reading.behind o f) os)
      ∙ ih (reading.behind o f ∷ os)
      ∙ ap (λ q. fault_at (pass (map outline_of ls) (q ∷ map open_of os))) (sym (behind_same o f))

  headed_same : (o : Around) (os : List Around) (f : Form) (r : Result ℕ ℕ) → fault_at (headed (read_lines ls) ls l o os f r) ≡ fault_at (then_pass (r >>= λ column. Ok (outline.inside (open_of o) (formed_of f) column ∷ outline.behind (open_of o) (formed_of f) ∷ map open_of os)))
  unfolding fault_at
  headed_same o os f (Err n) = refl
  headed_same o os f (Ok d) =
      head_fault l.line f d (read_lines ls (reading.inside o f d ∷ reading.behind o f ∷ os)) (few_read ls (reading.inside o f d) (reading.behind o f) os)
      ∙ ih (reading.inside o f d ∷ reading.behind o f ∷ os)
      ∙ ap (λ q. fault_at (pass (map outline_of ls) (open_of (reading.inside o f d) ∷ q ∷ map open_of os))) (sym (behind_same o f))
      ∙ ap (λ q. fault_at (pass (map outline_of ls) (q ∷ outline.behind (open_of o) (formed_of f) ∷ map open_of os))) (sym (inside_same o f d))

  opened_same : (o : Around) (os : List Around) (f : Form) → fault_at (formed (read_lines ls) ls l o os (Some f)) ≡ fault_at (then_pass (outline.opened (open_of o) (map open_of os) (formed_of f) (outline_of l) next))
  opened_same o os f = by_opens (opens f) (outline.opens (formed_of f).body) refl refl (opens_same f)
    where
      by_opens : (a b : Bool) → opens f ≡ a → outline.opens (formed_of f).body ≡ b → opens f ≡ outline.opens (formed_of f).body → fault_at (formed (read_lines ls) ls l o os (Some f)) ≡ fault_at (then_pass (outline.opened (open_of o) (map open_of os) (formed_of f) (outline_of l) next))
      by_opens true true h k e =
          rw (h, formed, k, outline.opened) (ap (λ r. fault_at (headed (read_lines ls) ls l o os f r)) (column_same l ls) ∙ headed_same o os f (outline.block_column (outline_of l) next))
      by_opens false false h k e = rw (h, formed, k, outline.opened) (plain_same o os f)
      by_opens true false h k e = let x : Path Bool true false = sym h ∙ e ∙ k in absurd cc
      by_opens false true h k e = let x : Path Bool false true = sym h ∙ e ∙ k in absurd cc

  form_same : (o : Around) (os : List Around) (r : Option Form) → fault_at (formed (read_lines ls) ls l o os (if_fits o r)) ≡ fault_at (then_pass (outline.formed (open_of o) (map open_of os) (outline_of l) next (form_outline r)))
  unfolding fault_at
  form_same o os None = refl
  form_same o os (Some f) = by_depth (nat_le (form_depth f) 200) (reading.fits o f) refl refl
    where
      by_depth : (d a : Bool) → nat_le (form_depth f) 200 ≡ d → reading.fits o f ≡ a → fault_at (formed (read_lines ls) ls l o os (if_fits o (Some f))) ≡ fault_at (then_pass (outline.formed (open_of o) (map open_of os) (outline_of l) next (form_outline (Some f))))
      by_depth false a d h = let no : reading.fits o f ≡ false = unfit o f d in rw (no, if_fits, d, form_outline) refl
      by_depth true true d h =
          let there : outline.fits (open_of o) (formed_of f) ≡ true = sym (fits_same o f d) ∙ h in
          rw (h, if_fits, d, form_outline, there, outline.formed) (opened_same o os f)
      by_depth true false d h =
          let there : outline.fits (open_of o) (formed_of f) ≡ false = sym (fits_same o f d) ∙ h in
          rw (h, if_fits, d, form_outline, there, outline.formed) refl

  -- the block of a line is found at its column
  here : (o : Around) (qs : List Open) → l.column ≡ o.column → stepped (outline_of l) next (open_of o ∷ qs) ≡ outline.formed (open_of o) qs (outline_of l) next (form_outline (form_reads l.tokens))
  here o qs c =
      let same : (l.column == o.column) ≡ true = grind (arith, nat_tests) in
      let not_below : nat_lt l.column o.column ≡ false = grind (arith, nat_tests) in
      rw (not_below, stepped, down_to, same, outline.in_block) refl

  passed : (o : Around) (qs : List Open) → l.column < o.column → stepped (outline_of l) next (open_of o ∷ qs) ≡ stepped (outline_of l) next qs
  passed o qs less = let below : nat_lt l.column o.column ≡ true = grind (arith, nat_tests) in rw (below, stepped, down_to) refl

  off : (o : Around) (qs : List Open) → (l.column == o.column) ≡ false → nat_lt l.column o.column ≡ false → stepped (outline_of l) next (open_of o ∷ qs) ≡ Err l.line
  off o qs other not_below = rw (not_below, stepped, down_to, other, outline.in_block) refl

  around_same : (o : Around) (os : List Around) → fault_at (in_block (read_lines ls) ls l os) ≡ fault_at (then_pass (stepped (outline_of l) next (map open_of os)))
      → fault_at (in_block (read_lines ls) ls l (o ∷ os)) ≡ fault_at (then_pass (stepped (outline_of l) next (map open_of (o ∷ os))))
  unfolding fault_at
  around_same o os outer = by_column (l.column == o.column) (nat_lt l.column o.column) refl refl
    where
      by_column : (a b : Bool) → (l.column == o.column) ≡ a → nat_lt l.column o.column ≡ b
          → fault_at (in_block (read_lines ls) ls l (o ∷ os)) ≡ fault_at (then_pass (stepped (outline_of l) next (map open_of (o ∷ os))))
      by_column true b h k =
          let c : l.column ≡ o.column = grind (arith, nat_tests) in
          ap fault_at (block_here (read_lines ls) ls l o os c)
          ∙ form_same o os (form_reads l.tokens)
          ∙ ap (λ r. fault_at (then_pass r)) (sym (here o (map open_of os) c))
      by_column false true h k =
          let less : l.column < o.column = grind (arith, nat_tests) in
          ap fault_at (outer_block (read_lines ls) ls l o os less)
          ∙ ended_fault (in_block (read_lines ls) ls l os)
          ∙ outer
          ∙ ap (λ r. fault_at (then_pass r)) (sym (passed o (map open_of os) less))
      by_column false false h k =
          ap fault_at (off_block (read_lines ls) ls l o os h k) ∙ ap (λ r. fault_at (then_pass r)) (sym (off o (map open_of os) h k))

  block_same : (os : List Around) → fault_at (in_block (read_lines ls) ls l os) ≡ fault_at (then_pass (stepped (outline_of l) next (map open_of os)))
  unfolding fault_at
  block_same [] = refl
  block_same (o ∷ os) = around_same o os (block_same os)

same : (ls : List Laid) → Same ls
unfolding read_lines pass fault_at
same [] os = refl
same (l ∷ ls) os = block_same l ls (same ls) os

outermost_fault : (r : Result (List Block) ℕ) → fault_at (outermost r) ≡ fault_at r
unfolding fault_at
outermost_fault (Ok []) = refl
outermost_fault (Ok (b ∷ bs)) = refl
outermost_fault (Err n) = refl

at_fault : {A B : Type 0} (r : Result A ℕ) (q : Result B ℕ) (n : ℕ) → fault_at r ≡ fault_at q → r ≡ Err n → q ≡ Err n
unfolding fault_at
at_fault (Ok a) q n e h = absurd cc
at_fault (Err m) (Ok b) n e h = absurd cc
at_fault (Err m) (Err k) n e h = let x : Path (Option ℕ) (Some m) (Some k) = e in cc

file_same : (p : Place) (ls : List Laid) → fault_at (file_reads p ls) ≡ fault_at (pass (map outline_of ls) (outline.top_level (place_of p) ∷ []))
file_same p ls = outermost_fault (read_lines ls (reading.top_level p ∷ [])) ∙ same ls (reading.top_level p ∷ [])

-- a file is refused at a line exactly where its outlines are
pub outlines_is : (p : Place) (ls : List Laid) (n : ℕ) → file_reads p ls ≡ Err n → pass (map outline_of ls) (outline.top_level (place_of p) ∷ []) ≡ Err n
outlines_is p ls n e = at_fault (file_reads p ls) (pass (map outline_of ls) (outline.top_level (place_of p) ∷ [])) n (file_same p ls) e

pub outlines_as : (p : Place) (ls : List Laid) (n : ℕ) → pass (map outline_of ls) (outline.top_level (place_of p) ∷ []) ≡ Err n → file_reads p ls ≡ Err n
outlines_as p ls n e = at_fault (pass (map outline_of ls) (outline.top_level (place_of p) ∷ [])) (file_reads p ls) n (sym (file_same p ls)) e
