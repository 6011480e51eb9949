-- What is read of the logical lines of a file is its tree, and what has a tree is read.
use Rattle.std.proofs.Common.{◌≡◌, ℕ, ◌≤◌, ◌<◌, Bool, true, false, List, [], ◌∷◌, map, refl, sym, ap, subst, ◌∙◌, inl, inr, ◌⊎◌, nat_le, nat_lt, ◌==◌, ◌&&◌, Option, Some, None, Result, Ok, Err, arith}
use Rattle.std.proofs.lemmas.Bool.Decides.{nat_tests}
use Rattle.lexer.specs.Tokens.{Token, Placed}
use Rattle.grammar.specs.Statements.{Form, form_spelled}
use Rattle.grammar.specs.FormReading.{form_reads}
use Rattle.grammar.specs.Depth.{form_depth}
use Rattle.grammar.specs.Places.{Place, stands, follows, early_enough, opens}
use Rattle.grammar.specs.Blocks.{Block, no_lines, plain_line, head_line, Laid, some_lines, block_laid, Fits, IsBlock, laid, SpellsFile}
use Rattle.grammar.specs.BlockReading.{Around, top_level, behind, inside, fits, if_fits, form_there, block_column, ended, with_line, with_head, headed, formed, in_block, read_lines, outermost, file_reads}
use Rattle.grammar.proofs.LinesRead.{is_read_form}
use Rattle.grammar.proofs.LinesSound.{form_is}

-- which way a choice went
pub chose : {A : Type 0} (b : Bool) (x y z : A) → (elim b as (λ _. A) [ true ↦ x | false ↦ y ]) ≡ z
    → ((b ≡ true) × (x ≡ z)) ⊎ ((b ≡ false) × (y ≡ z))
chose true x y z e = inl (refl, e)
chose false x y z e = inr (refl, e)

-- what each of the open blocks still has: a block for each
abbrev pub AreBlocks : List Around → List Block → Type 0
AreBlocks [] [] = Unit {0}
AreBlocks [] (b ∷ bs) = ⊥
AreBlocks (o ∷ os) [] = ⊥
AreBlocks (o ∷ os) (b ∷ bs) = IsBlock o.place o.after o.early o.column b × AreBlocks os bs

-- the lines of these blocks, of the innermost first
abbrev pub all_laid : List Around → List Block → List Laid
all_laid [] bs = []
all_laid (o ∷ os) [] = []
all_laid (o ∷ os) (b ∷ bs) = block_laid o.column b (all_laid os bs)

pub record Left (ls : List Laid) (os : List Around) (bs : List Block) : Type 0 where
  pub are : AreBlocks os bs
  pub whole : ls ≡ all_laid os bs

-- where no line is left nothing is
pub nothing_left : (os : List Around) → Left [] os (map (λ _. no_lines) os)
nothing_left [] = record { are = tt; whole = refl }
nothing_left (o ∷ os) = let h = nothing_left os in record { are = (tt, h.are); whole = h.whole }

both_true : (a b : Bool) → (a && b) ≡ true → (a ≡ true) × (b ≡ true)
both_true true b e = (refl, e)
both_true false b e = absurd cc

-- a form that is found is that of the tokens, and fits
pub fits_there : (o : Around) (ts : List Token) (r : Option Form) (f : Form) → form_reads ts ≡ r → if_fits o r ≡ Some f
    → Fits o.place o.after o.early f × (ts ≡ form_spelled f)
fits_there o ts None f e h = absurd cc
fits_there o ts (Some g) f e h = elim (chose (fits o g) (Some g) None (Some f) h) [
  | inl k ↦
      let same : g ≡ f = let m = k.1 in cc in
      let spells = form_is ts g e in
      let a = both_true (stands o.place g) _ k.0 in
      let b = both_true (follows o.after g) _ a.1 in
      let c = both_true (early_enough o.early g) _ b.1 in
      let low : nat_le (form_depth g) 200 ≡ true = c.1 in
      let shallow : form_depth g ≤ 200 = grind (arith, nat_tests) in
      rw (← same) (record { is_form = spells.is_form; stands_there = a.0; follows_there = b.0; early_there = c.0; not_deep = shallow }, spells.whole)
  | inr k ↦ let m : None ≡ Some f = k.1 in absurd cc
]

-- what stands in front of what is left
pub line_is : (n : ℕ) (f : Form) (r : Result (List Block) ℕ) (bs : List Block) → with_line n f r ≡ Ok bs
    → (b : Block) × (others : List Block) × (r ≡ Ok (b ∷ others)) × (bs ≡ plain_line n f b ∷ others)
line_is n f (Ok []) bs e = absurd cc
line_is n f (Ok (b ∷ others)) bs e = (b, others, refl, cc)
line_is n f (Err m) bs e = absurd cc

pub head_is : (n : ℕ) (f : Form) (d : ℕ) (r : Result (List Block) ℕ) (bs : List Block) → with_head n f d r ≡ Ok bs
    → (b c : Block) × (others : List Block) × (r ≡ Ok (b ∷ c ∷ others)) × (bs ≡ head_line n f d b c ∷ others)
head_is n f d (Ok []) bs e = absurd cc
head_is n f d (Ok (b ∷ [])) bs e = absurd cc
head_is n f d (Ok (b ∷ c ∷ others)) bs e = (b, c, others, refl, cc)
head_is n f d (Err m) bs e = absurd cc

pub ended_is : (r : Result (List Block) ℕ) (bs : List Block) → ended r ≡ Ok bs
    → (others : List Block) × (r ≡ Ok others) × (bs ≡ no_lines ∷ others)
ended_is (Ok others) bs e = (others, refl, cc)
ended_is (Err m) bs e = absurd cc

-- the next line is deeper
next_is : (h : Laid) (d : ℕ) (ls : List Laid) → block_column h ls ≡ Ok d → (l : Laid) × (further : List Laid) × (ls ≡ l ∷ further) × (l.column ≡ d) × (h.column < d)
next_is h d [] e = absurd cc
next_is h d (l ∷ ls) e = elim (chose (nat_lt h.column l.column) (Ok l.column) (Err l.line) (Ok d) e) [
  | inl k ↦
      let same : l.column ≡ d = let m = k.1 in cc in
      let test : nat_lt h.column l.column ≡ true = k.0 in
      let less : h.column < d = grind (arith, nat_tests) in
      (l, ls, refl, same, less)
  | inr k ↦ let m : Err l.line ≡ Ok d = k.1 in absurd cc
]

abbrev first_has_lines : List Block → Bool
first_has_lines [] = false
first_has_lines (b ∷ bs) = some_lines b

-- a line that is read in a block is a line of it
formed_some : (rest : List Around → Result (List Block) ℕ) (ls : List Laid) (l : Laid) (o : Around) (os : List Around) (r : Option Form) (bs : List Block)
    → formed rest ls l o os r ≡ Ok bs → first_has_lines bs ≡ true
formed_some rest ls l o os None bs e = absurd cc
formed_some rest ls l o os (Some f) bs e = elim (chose (opens f) (headed rest ls l o os f (block_column l ls)) (with_line l.line f (rest (behind o f ∷ os))) (Ok bs) e) [
  | inl k ↦ by_head (block_column l ls) k.1
  | inr k ↦ let h = line_is l.line f (rest (behind o f ∷ os)) bs k.1 in rw h.3 refl
]
  where
    by_head : (d : Result ℕ ℕ) → headed rest ls l o os f d ≡ Ok bs → first_has_lines bs ≡ true
    by_head (Err m) e = absurd cc
    by_head (Ok d) e = let h = head_is l.line f d (rest (inside o f d ∷ behind o f ∷ os)) bs e in rw h.4 refl

pub same_column : (n m : ℕ) → n ≡ m → (n == m) ≡ true
same_column n m e = grind (arith, nat_tests)

pub block_here : (rest : List Around → Result (List Block) ℕ) (ls : List Laid) (l : Laid) (o : Around) (os : List Around) → l.column ≡ o.column
    → in_block rest ls l (o ∷ os) ≡ formed rest ls l o os (form_there o l.tokens)
block_here rest ls l o os c = rw (same_column l.column o.column c, in_block) refl

first_some : (l : Laid) (ls : List Laid) (o : Around) (os : List Around) (bs : List Block) → l.column ≡ o.column
    → read_lines (l ∷ ls) (o ∷ os) ≡ Ok bs → first_has_lines bs ≡ true
unfolding read_lines
first_some l ls o os bs c e = formed_some (read_lines ls) ls l o os (form_there o l.tokens) bs (sym (block_here (read_lines ls) ls l o os c) ∙ e)

-- a line of a form at a column
as_laid : (l : Laid) (c : ℕ) (f : Form) (ls : List Laid) → l.column ≡ c → l.tokens ≡ form_spelled f
    → Path (List Laid) (l ∷ ls) (record { line = l.line; column = c; tokens = form_spelled f } ∷ ls)
as_laid l c f ls e t = ap (λ c. record { line = l.line; column = c; tokens = l.tokens } ∷ ls) e ∙ ap (λ t. record { line = l.line; column = c; tokens = t } ∷ ls) t

-- a line of the innermost block, and what is left behind it
plain_left : (l : Laid) (ls : List Laid) (o : Around) (os : List Around) (f : Form) (b : Block) (bs : List Block)
    → l.column ≡ o.column → Fits o.place o.after o.early f → l.tokens ≡ form_spelled f → opens f ≡ false
    → Left ls (behind o f ∷ os) (b ∷ bs) → Left (l ∷ ls) (o ∷ os) (plain_line l.line f b ∷ bs)
plain_left l ls o os f b bs c fit t shut h = record {
  are = ((fit, shut, h.are.0), h.are.1);
  whole = ap (λ ls. l ∷ ls) h.whole ∙ as_laid l o.column f (block_laid o.column b (all_laid os bs)) c t;
}

head_left : (l : Laid) (ls : List Laid) (o : Around) (os : List Around) (f : Form) (d : ℕ) (b c : Block) (bs : List Block)
    → l.column ≡ o.column → Fits o.place o.after o.early f → l.tokens ≡ form_spelled f → opens f ≡ true → o.column < d → some_lines b ≡ true
    → Left ls (inside o f d ∷ behind o f ∷ os) (b ∷ c ∷ bs) → Left (l ∷ ls) (o ∷ os) (head_line l.line f d b c ∷ bs)
head_left l ls o os f d b c bs column fit t open_ less some h = record {
  are = ((fit, open_, less, some, h.are.0, h.are.1.0), h.are.1.1);
  whole = ap (λ ls. l ∷ ls) h.whole ∙ as_laid l o.column f (block_laid d b (block_laid o.column c (all_laid os bs))) column t;
}

-- what is read is what is left
abbrev pub Sound : List Laid → Type 0
Sound ls = (os : List Around) (bs : List Block) → read_lines ls os ≡ Ok bs → Left ls os bs

head_sound : (l : Laid) (ls : List Laid) → Sound ls → (o : Around) (os : List Around) (f : Form) (bs : List Block)
    → l.column ≡ o.column → Fits o.place o.after o.early f → l.tokens ≡ form_spelled f → opens f ≡ true
    → (d : Result ℕ ℕ) → block_column l ls ≡ d → headed (read_lines ls) ls l o os f d ≡ Ok bs → Left (l ∷ ls) (o ∷ os) bs
head_sound l ls ih o os f bs c fit t open_ (Err m) g e = absurd cc
head_sound l ls ih o os f bs c fit t open_ (Ok d) g e =
    let h = head_is l.line f d (read_lines ls (inside o f d ∷ behind o f ∷ os)) bs e in
    let n = next_is l d ls g in
    let less : o.column < d = let k = n.4 in omega (arith, k, c) in
    let some = first_some n.0 n.1 (inside o f d) (behind o f ∷ os) (h.0 ∷ h.1 ∷ h.2) n.3 (subst (λ (x : List Laid). read_lines x (inside o f d ∷ behind o f ∷ os) ≡ Ok (h.0 ∷ h.1 ∷ h.2)) n.2 h.3) in
    rw h.4 (head_left l ls o os f d h.0 h.1 h.2 c fit t open_ less some (ih (inside o f d ∷ behind o f ∷ os) (h.0 ∷ h.1 ∷ h.2) h.3))

formed_sound : (l : Laid) (ls : List Laid) → Sound ls → (o : Around) (os : List Around) (bs : List Block)
    → l.column ≡ o.column → (r : Option Form) → form_there o l.tokens ≡ r → formed (read_lines ls) ls l o os r ≡ Ok bs → Left (l ∷ ls) (o ∷ os) bs
formed_sound l ls ih o os bs c None g e = absurd cc
formed_sound l ls ih o os bs c (Some f) g e =
    let fit = fits_there o l.tokens (form_reads l.tokens) f refl g in
    elim (chose (opens f) (headed (read_lines ls) ls l o os f (block_column l ls)) (with_line l.line f (read_lines ls (behind o f ∷ os))) (Ok bs) e) [
      | inl k ↦ head_sound l ls ih o os f bs c fit.0 fit.1 k.0 (block_column l ls) refl k.1
      | inr k ↦
          let h = line_is l.line f (read_lines ls (behind o f ∷ os)) bs k.1 in
          rw h.3 (plain_left l ls o os f h.0 h.1 c fit.0 fit.1 k.0 (ih (behind o f ∷ os) (h.0 ∷ h.1) h.2))
    ]

block_sound : (l : Laid) (ls : List Laid) → Sound ls → (os : List Around) (bs : List Block)
    → in_block (read_lines ls) ls l os ≡ Ok bs → Left (l ∷ ls) os bs
block_sound l ls ih [] bs e = absurd cc
block_sound l ls ih (o ∷ os) bs e = elim (chose (l.column == o.column) _ _ (Ok bs) e) [
  | inl k ↦
      let test : (l.column == o.column) ≡ true = k.0 in
      let c : l.column ≡ o.column = grind (arith, nat_tests) in
      formed_sound l ls ih o os bs c (form_there o l.tokens) refl k.1
  | inr k ↦ elim (chose (nat_lt l.column o.column) _ _ (Ok bs) k.1) [
    | inl j ↦
        let h = ended_is (in_block (read_lines ls) ls l os) bs j.1 in
        let left = block_sound l ls ih os h.0 h.1 in
        rw h.2 (record { are = (tt, left.are); whole = left.whole })
    | inr j ↦ let m : Err l.line ≡ Ok bs = j.1 in absurd cc
  ]
]

pub sound : (ls : List Laid) → Sound ls
unfolding read_lines
sound [] os bs e = let same : map (λ _. no_lines) os ≡ bs = cc in rw (← same) (nothing_left os)
sound (l ∷ ls) os bs e = block_sound l ls (sound ls) os bs e

-- the one block of the top level
outermost_is : (r : Result (List Block) ℕ) (b : Block) → outermost r ≡ Ok b → ((r ≡ Ok []) × (b ≡ no_lines)) ⊎ ((bs : List Block) × (r ≡ Ok (b ∷ bs)))
outermost_is (Ok []) b e = inl (refl, cc)
outermost_is (Ok (c ∷ bs)) b e = let same : c ≡ b = cc in inr (bs, rw same refl)
outermost_is (Err n) b e = absurd cc

alone_left : (p : Place) (ls : List Laid) (b : Block) (bs : List Block) → Left ls (top_level p ∷ []) (b ∷ bs) → IsBlock p false true 0 b × (ls ≡ block_laid 0 b [])
alone_left p ls b bs h = (h.are.0, h.whole)

none_left : (p : Place) (ls : List Laid) → Left ls (top_level p ∷ []) [] → ⊥
none_left p ls h = h.are

-- what is read is the tree of the lines
pub file_sound : (p : Place) (lines : List (List Placed)) (b : Block) → file_reads p (map laid lines) ≡ Ok b → SpellsFile p lines b
file_sound p lines b e = elim (outermost_is (read_lines (map laid lines) (top_level p ∷ [])) b e) [
  | inl k ↦ absurd (none_left p (map laid lines) (sound (map laid lines) (top_level p ∷ []) [] k.0))
  | inr k ↦ let h = alone_left p (map laid lines) b k.0 (sound (map laid lines) (top_level p ∷ []) (b ∷ k.0) k.1) in record { is_block = h.0; whole = h.1 }
]

-- each open block is deeper than the one around it
abbrev pub Deeper : ℕ → List Around → Type 0
Deeper c [] = Unit {0}
Deeper c (o ∷ os) = (o.column < c) × Deeper o.column os

abbrev pub Ordered : List Around → Type 0
Ordered [] = Unit {0}
Ordered (o ∷ os) = Deeper o.column os

-- the first of some lines is less deep
abbrev LessDeep : ℕ → List Laid → Type 0
LessDeep c [] = Unit {0}
LessDeep c (l ∷ ls) = l.column < c

laid_less : (c d : ℕ) (b : Block) (ls : List Laid) → c < d → LessDeep c ls → LessDeep d (block_laid c b ls)
laid_less c d no_lines [] less h = tt
laid_less c d no_lines (l ∷ ls) less h = omega (arith, less, h)
laid_less c d (plain_line n f b) ls less h = less
laid_less c d (head_line n f e b k) ls less h = less

all_less : (c : ℕ) (os : List Around) (bs : List Block) → Deeper c os → LessDeep c (all_laid os bs)
all_less c [] bs h = tt
all_less c (o ∷ os) [] h = tt
all_less c (o ∷ os) (b ∷ bs) h = laid_less o.column c b (all_laid os bs) h.0 (all_less o.column os bs h.1)

-- no lines are those of blocks without lines
none_laid : (os : List Around) (bs : List Block) → AreBlocks os bs → [] ≡ all_laid os bs → map (λ _. no_lines) os ≡ bs
none_laid [] [] a e = refl
none_laid [] (b ∷ bs) a e = absurd a
none_laid (o ∷ os) [] a e = absurd a
none_laid (o ∷ os) (no_lines ∷ bs) a e = ap (λ l. no_lines ∷ l) (none_laid os bs a.1 e)
none_laid (o ∷ os) (plain_line n f b ∷ bs) a e = absurd cc
none_laid (o ∷ os) (head_line n f d b k ∷ bs) a e = absurd cc

fitting : (o : Around) (f : Form) → fits o f ≡ true → if_fits o (Some f) ≡ Some f
fitting o f e = rw (e, if_fits) refl

-- a form in its place is found there
pub found_there : (o : Around) (ts : List Token) (f : Form) → Fits o.place o.after o.early f → ts ≡ form_spelled f → form_there o ts ≡ Some f
found_there o ts f h t =
    let reads = is_read_form ts f (record { is_form = h.is_form; whole = t }) in
    let shallow : nat_le (form_depth f) 200 ≡ true = let k = h.not_deep in grind (arith, nat_tests) in
    ap (if_fits o) reads ∙ fitting o f (rw (h.stands_there, h.follows_there, h.early_there, shallow) refl)

-- a block with lines begins at its column
next_deeper : (l : Laid) (d : ℕ) (b : Block) (ls : List Laid) → l.column < d → some_lines b ≡ true → block_column l (block_laid d b ls) ≡ Ok d
next_deeper l d no_lines ls less h = absurd cc
next_deeper l d (plain_line n f b) ls less h = let test : nat_lt l.column d ≡ true = grind (arith, nat_tests) in rw (test, block_column) refl
next_deeper l d (head_line n f e b k) ls less h = let test : nat_lt l.column d ≡ true = grind (arith, nat_tests) in rw (test, block_column) refl

-- what has a tree is read
abbrev pub Complete : List Laid → Type 0
Complete ls = (os : List Around) (bs : List Block) → Ordered os → AreBlocks os bs → ls ≡ all_laid os bs → read_lines ls os ≡ Ok bs

head_of : Laid → List Laid → Laid
head_of d [] = d
head_of d (l ∷ ls) = l

tail_of : List Laid → List Laid
tail_of [] = []
tail_of (l ∷ ls) = ls

same_head : (l m : Laid) (ls ms : List Laid) → Path (List Laid) (l ∷ ls) (m ∷ ms) → l ≡ m
unfolding head_of
same_head l m ls ms e = ap (head_of l) e

same_tail : (l m : Laid) (ls ms : List Laid) → Path (List Laid) (l ∷ ls) (m ∷ ms) → ls ≡ ms
unfolding tail_of
same_tail l m ls ms e = ap tail_of e

-- a line that is passed in a block that has ended
pub outer_block : (rest : List Around → Result (List Block) ℕ) (ls : List Laid) (l : Laid) (o : Around) (os : List Around) → l.column < o.column
    → in_block rest ls l (o ∷ os) ≡ ended (in_block rest ls l os)
outer_block rest ls l o os less =
    let off : (l.column == o.column) ≡ false = grind (arith, nat_tests) in
    let below : nat_lt l.column o.column ≡ true = grind (arith, nat_tests) in
    rw (off, below, in_block) refl

plain_read : (l : Laid) (ls : List Laid) → Complete ls → (o : Around) (os : List Around) (n : ℕ) (f : Form) (b : Block) (bs : List Block)
    → Deeper o.column os → AreBlocks (o ∷ os) (plain_line n f b ∷ bs) → l ≡ record { line = n; column = o.column; tokens = form_spelled f } → ls ≡ block_laid o.column b (all_laid os bs)
    → in_block (read_lines ls) ls l (o ∷ os) ≡ Ok (plain_line n f b ∷ bs)
plain_read l ls ih o os n f b bs ordered a e t =
    block_here (read_lines ls) ls l o os (ap (λ l. l.column) e)
    ∙ ap (formed (read_lines ls) ls l o os) (found_there o l.tokens f a.0.0 (ap (λ l. l.tokens) e))
    ∙ rw (a.0.1, formed) (ap (with_line l.line f) (ih (behind o f ∷ os) (b ∷ bs) ordered (a.0.2, a.1) t))
    ∙ ap (λ n. Ok (plain_line n f b ∷ bs)) (ap (λ l. l.line) e)

head_read : (l : Laid) (ls : List Laid) → Complete ls → (o : Around) (os : List Around) (n : ℕ) (f : Form) (d : ℕ) (b c : Block) (bs : List Block)
    → Deeper o.column os → AreBlocks (o ∷ os) (head_line n f d b c ∷ bs) → l ≡ record { line = n; column = o.column; tokens = form_spelled f } → ls ≡ block_laid d b (block_laid o.column c (all_laid os bs))
    → in_block (read_lines ls) ls l (o ∷ os) ≡ Ok (head_line n f d b c ∷ bs)
head_read l ls ih o os n f d b c bs ordered a e t =
    let same : l.column ≡ o.column = ap (λ l. l.column) e in
    let less : l.column < d = let k = a.0.2 in omega (arith, k, same) in
    block_here (read_lines ls) ls l o os (ap (λ l. l.column) e)
    ∙ ap (formed (read_lines ls) ls l o os) (found_there o l.tokens f a.0.0 (ap (λ l. l.tokens) e))
    ∙ rw (a.0.1, formed) (
    ap (headed (read_lines ls) ls l o os f) (ap (block_column l) t ∙ next_deeper l d b (block_laid o.column c (all_laid os bs)) less a.0.3)
    ∙ ap (with_head l.line f d) (ih (inside o f d ∷ behind o f ∷ os) (b ∷ c ∷ bs) (a.0.2, ordered) (a.0.4, (a.0.5, a.1)) t)
    ∙ ap (λ n. Ok (head_line n f d b c ∷ bs)) (ap (λ l. l.line) e))

block_read : (l : Laid) (ls : List Laid) → Complete ls → (os : List Around) (bs : List Block) → Ordered os → AreBlocks os bs → Path (List Laid) (l ∷ ls) (all_laid os bs)
    → in_block (read_lines ls) ls l os ≡ Ok bs
block_read l ls ih [] bs ordered a e = absurd cc
block_read l ls ih (o ∷ os) [] ordered a e = absurd a
block_read l ls ih (o ∷ os) (no_lines ∷ bs) ordered a e =
    let less : l.column < o.column = subst (LessDeep o.column) (sym e) (all_less o.column os bs ordered) in
    outer_block (read_lines ls) ls l o os less ∙ ap ended (block_read l ls ih os bs (shallower o os ordered) a.1 e)
  where
    shallower : (o : Around) (os : List Around) → Deeper o.column os → Ordered os
    shallower o [] h = tt
    shallower o (q ∷ os) h = h.1
block_read l ls ih (o ∷ os) (plain_line n f b ∷ bs) ordered a e = plain_read l ls ih o os n f b bs ordered a (same_head _ _ _ _ e) (same_tail _ _ _ _ e)
block_read l ls ih (o ∷ os) (head_line n f d b c ∷ bs) ordered a e = head_read l ls ih o os n f d b c bs ordered a (same_head _ _ _ _ e) (same_tail _ _ _ _ e)

pub complete : (ls : List Laid) → Complete ls
unfolding read_lines
complete [] os bs ordered a e = ap Ok (none_laid os bs a e)
complete (l ∷ ls) os bs ordered a e = block_read l ls (complete ls) os bs ordered a e

-- what has a tree is read
pub file_complete : (p : Place) (lines : List (List Placed)) (b : Block) → SpellsFile p lines b → file_reads p (map laid lines) ≡ Ok b
file_complete p lines b h = ap outermost (complete (map laid lines) (top_level p ∷ []) (b ∷ []) tt (h.is_block, tt) h.whole)
