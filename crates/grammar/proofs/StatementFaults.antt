-- The line at which a file is refused is the first with which the lines so far no longer begin a file.
use Rattle.std.proofs.Common.{◌≡◌, ℕ, suc, ◌<◌, Bool, true, false, List, [], ◌∷◌, ◌++◌, map, refl, sym, ap, subst, ◌∙◌, inl, inr, ◌⊎◌, nat_lt, ◌==◌, Option, Some, None, Result, Ok, Err, arith}
use Rattle.std.proofs.lemmas.Bool.Decides.{nat_tests}
use Rattle.lexer.specs.declared.token.Word.TheVariants.{Pass}
use Rattle.lexer.specs.Tokens.{word}
use Rattle.grammar.specs.Statements.{Form, form_spelled, simple, passes}
use Rattle.grammar.specs.FormReading.{form_reads}
use Rattle.grammar.specs.Places.{Place, top_of_module, top_of_build, in_function, in_loop, simple_stands, opens}
use Rattle.grammar.specs.Blocks.{Block, no_lines, plain_line, head_line, Laid, block_laid, Fits, IsBlock}
use Rattle.grammar.specs.BlockReading.{Around, top_level, behind, inside, form_there, block_column, ended, with_line, with_head, headed, formed, in_block, read_lines, outermost, file_reads}
use Rattle.grammar.proofs.FilesRead.{Left, fits_there, line_is, head_is, ended_is, block_here, found_there, outer_block, sound, complete}
use Rattle.grammar.specs.StatementFault.{BeginsFile, IsStatementFault}

-- the last of some lines is not the head of a block that is to come
abbrev pub LastShut : List Laid → Type 0
LastShut [] = Unit {0}
LastShut (l ∷ []) = (f : Form) → l.tokens ≡ form_spelled f → opens f ≡ false
LastShut (l ∷ m ∷ ls) = LastShut (m ∷ ls)

-- lines are refused at one of them: with it nothing is read, whatever follows, and before it other lines could follow
pub record Refusal (os : List Around) (ls : List Laid) (n : ℕ) : Type 0 where
  pub before : List Laid
  pub at : Laid
  pub rest : List Laid
  pub whole : ls ≡ before ++ at ∷ rest
  pub line : at.line ≡ n
  pub never : (more : List Laid) (bs : List Block) → read_lines (before ++ at ∷ more) os ≡ Ok bs → ⊥
  pub further : List Laid
  pub blocks : List Block
  pub goes : read_lines (before ++ further) os ≡ Ok blocks

-- a line is refused itself, or one behind it
record Later (l : Laid) (ls : List Laid) (os : List Around) (n : ℕ) : Type 0 where
  before : List Laid
  at : Laid
  rest : List Laid
  whole : ls ≡ before ++ at ∷ rest
  line : at.line ≡ n
  never : (more : List Laid) (bs : List Block) → in_block (read_lines (before ++ at ∷ more)) (before ++ at ∷ more) l os ≡ Ok bs → ⊥
  further : List Laid
  blocks : List Block
  goes : in_block (read_lines (before ++ further)) (before ++ further) l os ≡ Ok blocks

record Now (l : Laid) (os : List Around) (n : ℕ) : Type 0 where
  line : l.line ≡ n
  never : (more : List Laid) (bs : List Block) → in_block (read_lines more) more l os ≡ Ok bs → ⊥

refused_line : (l : Laid) (ls : List Laid) (os : List Around) (n : ℕ) → Now l os n ⊎ Later l ls os n → Refusal os (l ∷ ls) n
unfolding read_lines
refused_line l ls os n (inl h) = record { before = []; at = l; rest = ls; whole = refl; line = h.line; never = h.never; further = []; blocks = map (λ _. no_lines) os; goes = refl }
refused_line l ls os n (inr h) = record { before = l ∷ h.before; at = h.at; rest = h.rest; whole = ap (λ ls. l ∷ ls) h.whole; line = h.line; never = h.never; further = h.further; blocks = h.blocks; goes = h.goes }

-- where nothing is read of what goes around an answer, nothing is read
not_ok : {A : Type 0} (r : Result A ℕ) (n : ℕ) (a : A) → r ≡ Err n → r ≡ Ok a → ⊥
not_ok (Ok b) n a e h = cc
not_ok (Err m) n a e h = cc

same_line : {A : Type 0} (n m : ℕ) → Path (Result A ℕ) (Err n) (Err m) → n ≡ m
same_line n m e = cc

ended_err : (r : Result (List Block) ℕ) (n : ℕ) → ended r ≡ Err n → r ≡ Err n
ended_err (Ok bs) n e = absurd cc
ended_err (Err m) n e = cc

line_err : (m : ℕ) (f : Form) (r : Result (List Block) ℕ) (n : ℕ) → with_line m f r ≡ Err n → (r ≡ Err n) ⊎ (r ≡ Ok [])
line_err m f (Ok []) n e = inr refl
line_err m f (Ok (b ∷ bs)) n e = absurd cc
line_err m f (Err k) n e = inl cc

-- too few blocks to be those of two open ones
abbrev pub TooFew : Result (List Block) ℕ → Type 0
TooFew r = (r ≡ Ok []) ⊎ ((b : Block) × (r ≡ Ok (b ∷ [])))

head_err : (m : ℕ) (f : Form) (d : ℕ) (r : Result (List Block) ℕ) (n : ℕ) → with_head m f d r ≡ Err n → (r ≡ Err n) ⊎ TooFew r
head_err m f d (Ok []) n e = inr (inl refl)
head_err m f d (Ok (b ∷ [])) n e = inr (inr (b, refl))
head_err m f d (Ok (b ∷ c ∷ bs)) n e = absurd cc
head_err m f d (Err k) n e = inl cc

pub none_read : (ls : List Laid) (o : Around) (os : List Around) → read_lines ls (o ∷ os) ≡ Ok [] → ⊥
none_read ls o os e = (sound ls (o ∷ os) [] e).are

one_read : (ls : List Laid) (o p : Around) (os : List Around) (b : Block) → read_lines ls (o ∷ p ∷ os) ≡ Ok (b ∷ []) → ⊥
one_read ls o p os b e = (sound ls (o ∷ p ∷ os) (b ∷ []) e).are.1

pub few_read : (ls : List Laid) (o p : Around) (os : List Around) → TooFew (read_lines ls (o ∷ p ∷ os)) → ⊥
few_read ls o p os (inl e) = none_read ls o (p ∷ os) e
few_read ls o p os (inr h) = one_read ls o p os h.0 h.1

-- what goes on behind a line or a head goes on from it
goes_line : (m : ℕ) (f : Form) (ls : List Laid) (o : Around) (os : List Around) (bs : List Block) → read_lines ls (o ∷ os) ≡ Ok bs
    → (cs : List Block) × (with_line m f (read_lines ls (o ∷ os)) ≡ Ok cs)
goes_line m f ls o os [] e = absurd (none_read ls o os e)
goes_line m f ls o os (b ∷ bs) e = (plain_line m f b ∷ bs, ap (with_line m f) e)

goes_head : (m : ℕ) (f : Form) (d : ℕ) (ls : List Laid) (o p : Around) (os : List Around) (bs : List Block) → read_lines ls (o ∷ p ∷ os) ≡ Ok bs
    → (cs : List Block) × (with_head m f d (read_lines ls (o ∷ p ∷ os)) ≡ Ok cs)
goes_head m f d ls o p os [] e = absurd (none_read ls o (p ∷ os) e)
goes_head m f d ls o p os (b ∷ []) e = absurd (one_read ls o p os b e)
goes_head m f d ls o p os (b ∷ c ∷ bs) e = (head_line m f d b c ∷ bs, ap (with_head m f d) e)

-- `pass` may stand in each block
abbrev pass_at : ℕ → Laid
pass_at d = record { line = 0; column = d; tokens = word Pass ∷ [] }

pass_stands : (p : Place) → simple_stands p passes ≡ true
pass_stands top_of_module = refl
pass_stands top_of_build = refl
pass_stands in_function = refl
pass_stands in_loop = refl

pass_read : (o : Around) (os : List Around) → (bs : List Block) × (read_lines (pass_at o.column ∷ []) (o ∷ os) ≡ Ok bs)
unfolding read_lines
pass_read o os =
    let fit : Fits o.place o.after o.early (simple passes) =
    record { is_form = tt; stands_there = pass_stands o.place; follows_there = refl; early_there = refl; not_deep = omega arith } in (
      plain_line 0 (simple passes) no_lines ∷ map (λ _. no_lines) os,
      block_here (read_lines []) [] (pass_at o.column) o os refl
          ∙ ap (formed (read_lines []) [] (pass_at o.column) o os) (found_there o (word Pass ∷ []) (simple passes) fit refl),
    )

-- a line at the column of an ended block
passed_over : (l : Laid) (ls : List Laid) (o : Around) (os : List Around) (n : ℕ) → l.column < o.column → Now l os n ⊎ Later l ls os n → Now l (o ∷ os) n ⊎ Later l ls (o ∷ os) n
passed_over l ls o os n less (inl h) = inl (record {
  line = h.line;
  never = λ more bs e. let k = ended_is (in_block (read_lines more) more l os) bs (sym (outer_block (read_lines more) more l o os less) ∙ e) in h.never more k.0 k.1;
})
passed_over l ls o os n less (inr h) = inr (record {
  before = h.before;
  at = h.at;
  rest = h.rest;
  whole = h.whole;
  line = h.line;
  never = λ more bs e.
      let ms = h.before ++ h.at ∷ more in
      let k = ended_is (in_block (read_lines ms) ms l os) bs (sym (outer_block (read_lines ms) ms l o os less) ∙ e) in h.never more k.0 k.1;
  further = h.further;
  blocks = no_lines ∷ h.blocks;
  goes = let ms = h.before ++ h.further in outer_block (read_lines ms) ms l o os less ∙ ap ended h.goes;
})

-- a line at no column of a block
pub off_block : (rest : List Around → Result (List Block) ℕ) (ls : List Laid) (l : Laid) (o : Around) (os : List Around) → (l.column == o.column) ≡ false → nat_lt l.column o.column ≡ false
    → in_block rest ls l (o ∷ os) ≡ Err l.line
off_block rest ls l o os off above = rw (off, above, in_block) refl

plain_here : (rest : List Around → Result (List Block) ℕ) (ls : List Laid) (l : Laid) (o : Around) (os : List Around) (f : Form) → l.column ≡ o.column → form_there o l.tokens ≡ Some f → opens f ≡ false
    → in_block rest ls l (o ∷ os) ≡ with_line l.line f (rest (behind o f ∷ os))
plain_here rest ls l o os f c g h = block_here rest ls l o os c ∙ ap (formed rest ls l o os) g ∙ rw (h, formed) refl

head_here : (rest : List Around → Result (List Block) ℕ) (ls : List Laid) (l : Laid) (o : Around) (os : List Around) (f : Form) → l.column ≡ o.column → form_there o l.tokens ≡ Some f → opens f ≡ true
    → in_block rest ls l (o ∷ os) ≡ headed rest ls l o os f (block_column l ls)
head_here rest ls l o os f c g h = block_here rest ls l o os c ∙ ap (formed rest ls l o os) g ∙ rw (h, formed) refl

next_deeper : (l m : Laid) (ls : List Laid) → nat_lt l.column m.column ≡ true → block_column l (m ∷ ls) ≡ Ok m.column
next_deeper l m ls test = rw (test, block_column) refl

next_shallow : (l m : Laid) (ls : List Laid) → nat_lt l.column m.column ≡ false → block_column l (m ∷ ls) ≡ Err m.line
next_shallow l m ls test = rw (test, block_column) refl

deeper_here : (rest : List Around → Result (List Block) ℕ) (m : Laid) (ls : List Laid) (l : Laid) (o : Around) (os : List Around) (f : Form) → l.column ≡ o.column → form_there o l.tokens ≡ Some f → opens f ≡ true
    → nat_lt l.column m.column ≡ true
    → in_block rest (m ∷ ls) l (o ∷ os) ≡ with_head l.line f m.column (rest (inside o f m.column ∷ behind o f ∷ os))
deeper_here rest m ls l o os f c g h test = head_here rest (m ∷ ls) l o os f c g h ∙ ap (headed rest (m ∷ ls) l o os f) (next_deeper l m ls test)

shallow_here : (rest : List Around → Result (List Block) ℕ) (m : Laid) (ls : List Laid) (l : Laid) (o : Around) (os : List Around) (f : Form) → l.column ≡ o.column → form_there o l.tokens ≡ Some f → opens f ≡ true
    → nat_lt l.column m.column ≡ false
    → in_block rest (m ∷ ls) l (o ∷ os) ≡ Err m.line
shallow_here rest m ls l o os f c g h test = head_here rest (m ∷ ls) l o os f c g h ∙ ap (headed rest (m ∷ ls) l o os f) (next_shallow l m ls test)

-- behind a line that stands there and opens no block
behind_line : (l : Laid) (ls : List Laid) (o : Around) (os : List Around) (f : Form) (n : ℕ) → l.column ≡ o.column → form_there o l.tokens ≡ Some f → opens f ≡ false
    → Refusal (behind o f ∷ os) ls n → Later l ls (o ∷ os) n
behind_line l ls o os f n c g h r =
    let ns = r.before ++ r.further in
    let goes = goes_line l.line f ns (behind o f) os r.blocks r.goes in
    record {
      before = r.before;
      at = r.at;
      rest = r.rest;
      whole = r.whole;
      line = r.line;
      never = λ more bs e.
          let ms = r.before ++ r.at ∷ more in
          let k = line_is l.line f (read_lines ms (behind o f ∷ os)) bs (sym (plain_here (read_lines ms) ms l o os f c g h) ∙ e) in r.never more (k.0 ∷ k.1) k.2;
      further = r.further;
      blocks = goes.0;
      goes = plain_here (read_lines ns) ns l o os f c g h ∙ goes.1;
    }

-- a head without a deeper line behind it
behind_shallow : (l m : Laid) (ls : List Laid) (o : Around) (os : List Around) (f : Form) (n : ℕ) → l.column ≡ o.column → form_there o l.tokens ≡ Some f → opens f ≡ true
    → nat_lt l.column m.column ≡ false → m.line ≡ n → Later l (m ∷ ls) (o ∷ os) n
behind_shallow l m ls o os f n c g h test e =
    let d = suc l.column in
    let below : nat_lt l.column d ≡ true = grind (arith, nat_tests) in
    let p = pass_read (inside o f d) (behind o f ∷ os) in
    let goes = goes_head l.line f d (pass_at d ∷ []) (inside o f d) (behind o f) os p.0 p.1 in
    record {
      before = [];
      at = m;
      rest = ls;
      whole = refl;
      line = e;
      never = λ more bs k. let shallow = shallow_here (read_lines (m ∷ more)) m more l o os f c g h test in let j : Path (Result (List Block) ℕ) (Err m.line) (Ok bs) = sym shallow ∙ k in cc;
      further = pass_at d ∷ [];
      blocks = goes.0;
      goes = deeper_here (read_lines (pass_at d ∷ [])) (pass_at d) [] l o os f c g h below ∙ goes.1;
    }

head_of : Laid → List Laid → Laid
head_of d [] = d
head_of d (l ∷ ls) = l

same_head : (l m : Laid) (ls ms : List Laid) → Path (List Laid) (l ∷ ls) (m ∷ ms) → l ≡ m
unfolding head_of
same_head l m ls ms e = ap (head_of l) e

-- behind a head with its block
behind_head : (l m : Laid) (ls : List Laid) (o : Around) (os : List Around) (f : Form) (n : ℕ) → l.column ≡ o.column → form_there o l.tokens ≡ Some f → opens f ≡ true
    → nat_lt l.column m.column ≡ true → Refusal (inside o f m.column ∷ behind o f ∷ os) (m ∷ ls) n → Later l (m ∷ ls) (o ∷ os) n
behind_head l m ls o os f n c g h test r = by_before r.before refl
  where
    at_first : r.before ≡ [] → Later l (m ∷ ls) (o ∷ os) n
    at_first none =
        let whole : Path (List Laid) (m ∷ ls) (r.at ∷ r.rest) = r.whole ∙ ap (λ b. b ++ r.at ∷ r.rest) none in
        let same = same_head m r.at ls r.rest whole in
        let p = pass_read (inside o f m.column) (behind o f ∷ os) in
        let goes = goes_head l.line f m.column (pass_at m.column ∷ []) (inside o f m.column) (behind o f) os p.0 p.1 in
        record {
          before = [];
          at = m;
          rest = ls;
          whole = refl;
          line = ap (λ l. l.line) same ∙ r.line;
          never = λ more bs e.
              let k = head_is l.line f m.column (read_lines (m ∷ more) (inside o f m.column ∷ behind o f ∷ os)) bs (sym (deeper_here (read_lines (m ∷ more)) m more l o os f c g h test) ∙ e) in
              r.never more (k.0 ∷ k.1 ∷ k.2) (ap (λ ls. read_lines ls (inside o f m.column ∷ behind o f ∷ os)) (ap (λ b. b ++ r.at ∷ more) none ∙ ap (λ a. a ∷ more) (sym same)) ∙ k.3);
          further = pass_at m.column ∷ [];
          blocks = goes.0;
          goes = deeper_here (read_lines (pass_at m.column ∷ [])) (pass_at m.column) [] l o os f c g h test ∙ goes.1;
        }

    at_later : (q : Laid) (qs : List Laid) → r.before ≡ q ∷ qs → Later l (m ∷ ls) (o ∷ os) n
    at_later q qs some =
        let whole : Path (List Laid) (m ∷ ls) (q ∷ (qs ++ r.at ∷ r.rest)) = r.whole ∙ ap (λ b. b ++ r.at ∷ r.rest) some in
        let same = same_head m q ls (qs ++ r.at ∷ r.rest) whole in
        let as_before : m ∷ qs ≡ r.before = ap (λ a. a ∷ qs) same ∙ sym some in
        let ns = qs ++ r.further in
        let going : read_lines (m ∷ ns) (inside o f m.column ∷ behind o f ∷ os) ≡ Ok r.blocks = ap (λ b. read_lines (b ++ r.further) (inside o f m.column ∷ behind o f ∷ os)) as_before ∙ r.goes in
        let goes = goes_head l.line f m.column (m ∷ ns) (inside o f m.column) (behind o f) os r.blocks going in
        record {
          before = m ∷ qs;
          at = r.at;
          rest = r.rest;
          whole = r.whole ∙ ap (λ b. b ++ r.at ∷ r.rest) (sym as_before);
          line = r.line;
          never = λ more bs e.
              let ms = qs ++ r.at ∷ more in
              let k = head_is l.line f m.column (read_lines (m ∷ ms) (inside o f m.column ∷ behind o f ∷ os)) bs (sym (deeper_here (read_lines (m ∷ ms)) m ms l o os f c g h test) ∙ e) in
              r.never more (k.0 ∷ k.1 ∷ k.2) (ap (λ b. read_lines (b ++ r.at ∷ more) (inside o f m.column ∷ behind o f ∷ os)) (sym as_before) ∙ k.3);
          further = r.further;
          blocks = goes.0;
          goes = deeper_here (read_lines (m ∷ ns)) m ns l o os f c g h test ∙ goes.1;
        }

    by_before : (b : List Laid) → r.before ≡ b → Later l (m ∷ ls) (o ∷ os) n
    by_before [] e = at_first e
    by_before (q ∷ qs) e = at_later q qs e

-- where lines are refused one of them is
abbrev pub Refused : List Laid → Type 0
Refused ls = (os : List Around) (n : ℕ) → read_lines ls os ≡ Err n → Refusal os ls n

head_refused : (l : Laid) (ls : List Laid) → Refused ls → LastShut (l ∷ ls) → (o : Around) (os : List Around) (f : Form) (n : ℕ) → l.column ≡ o.column → form_there o l.tokens ≡ Some f → opens f ≡ true
    → in_block (read_lines ls) ls l (o ∷ os) ≡ Err n → Later l ls (o ∷ os) n
head_refused l [] ih shut o os f n c g h e =
    let fit = fits_there o l.tokens (form_reads l.tokens) f refl g in
    let k : Path Bool true false = sym h ∙ shut f fit.1 in absurd cc
head_refused l (m ∷ ls) ih shut o os f n c g h e = by_test (nat_lt l.column m.column) refl
  where
    by_test : (b : Bool) → nat_lt l.column m.column ≡ b → Later l (m ∷ ls) (o ∷ os) n
    by_test false test = behind_shallow l m ls o os f n c g h test (same_line {A = List Block} m.line n (sym (shallow_here (read_lines (m ∷ ls)) m ls l o os f c g h test) ∙ e))
    by_test true test = elim (head_err l.line f m.column (read_lines (m ∷ ls) (inside o f m.column ∷ behind o f ∷ os)) n (sym (deeper_here (read_lines (m ∷ ls)) m ls l o os f c g h test) ∙ e)) [
      | inl k ↦ behind_head l m ls o os f n c g h test (ih (inside o f m.column ∷ behind o f ∷ os) n k)
      | inr k ↦ absurd (few_read (m ∷ ls) (inside o f m.column) (behind o f) os k)
    ]

line_refused : (l : Laid) (ls : List Laid) → Refused ls → LastShut (l ∷ ls) → (o : Around) (os : List Around) (n : ℕ) → l.column ≡ o.column
    → in_block (read_lines ls) ls l (o ∷ os) ≡ Err n → Now l (o ∷ os) n ⊎ Later l ls (o ∷ os) n
line_refused l ls ih shut o os n c e = by_form (form_there o l.tokens) refl
  where
    by_opens : (f : Form) → form_there o l.tokens ≡ Some f → (b : Bool) → opens f ≡ b → Later l ls (o ∷ os) n
    by_opens f g true h = head_refused l ls ih shut o os f n c g h e
    by_opens f g false h = elim (line_err l.line f (read_lines ls (behind o f ∷ os)) n (sym (plain_here (read_lines ls) ls l o os f c g h) ∙ e)) [
      | inl k ↦ behind_line l ls o os f n c g h (ih (behind o f ∷ os) n k)
      | inr k ↦ absurd (none_read ls (behind o f) os k)
    ]

    by_form : (r : Option Form) → form_there o l.tokens ≡ r → Now l (o ∷ os) n ⊎ Later l ls (o ∷ os) n
    by_form (Some f) g = inr (by_opens f g (opens f) refl)
    by_form None g = inl (record {
      line = same_line {A = List Block} l.line n (sym (block_here (read_lines ls) ls l o os c ∙ ap (formed (read_lines ls) ls l o os) g) ∙ e);
      never = λ more bs k. let j : Path (Result (List Block) ℕ) (Err l.line) (Ok bs) = sym (block_here (read_lines more) more l o os c ∙ ap (formed (read_lines more) more l o os) g) ∙ k in cc;
    })

-- a line in the innermost block, or in one around it, of which this is known
around_refused : (l : Laid) (ls : List Laid) → Refused ls → LastShut (l ∷ ls) → (o : Around) (os : List Around) (n : ℕ)
    → ((n : ℕ) → in_block (read_lines ls) ls l os ≡ Err n → Now l os n ⊎ Later l ls os n)
    → in_block (read_lines ls) ls l (o ∷ os) ≡ Err n → Now l (o ∷ os) n ⊎ Later l ls (o ∷ os) n
around_refused l ls ih shut o os n outer e = by_column (l.column == o.column) (nat_lt l.column o.column) refl refl
  where
    by_column : (a b : Bool) → (l.column == o.column) ≡ a → nat_lt l.column o.column ≡ b → Now l (o ∷ os) n ⊎ Later l ls (o ∷ os) n
    by_column true b h k = let c : l.column ≡ o.column = grind (arith, nat_tests) in line_refused l ls ih shut o os n c e
    by_column false true h k =
        let less : l.column < o.column = grind (arith, nat_tests) in
        passed_over l ls o os n less (outer n (ended_err (in_block (read_lines ls) ls l os) n (sym (outer_block (read_lines ls) ls l o os less) ∙ e)))
    by_column false false h k = inl (record {
      line = same_line {A = List Block} l.line n (sym (off_block (read_lines ls) ls l o os h k) ∙ e);
      never = λ more bs j. let i : Path (Result (List Block) ℕ) (Err l.line) (Ok bs) = sym (off_block (read_lines more) more l o os h k) ∙ j in cc;
    })

block_refused : (l : Laid) (ls : List Laid) → Refused ls → LastShut (l ∷ ls) → (os : List Around) (n : ℕ)
    → in_block (read_lines ls) ls l os ≡ Err n → Now l os n ⊎ Later l ls os n
block_refused l ls ih shut [] n e = inl (record { line = cc; never = λ more bs k. let j : Path (Result (List Block) ℕ) (Err l.line) (Ok bs) = k in cc })
block_refused l ls ih shut (o ∷ os) n e = around_refused l ls ih shut o os n (λ n e. block_refused l ls ih shut os n e) e

shut_behind : (l : Laid) (ls : List Laid) → LastShut (l ∷ ls) → LastShut ls
shut_behind l [] h = tt
shut_behind l (m ∷ ls) h = h

pub refused : (ls : List Laid) → LastShut ls → Refused ls
unfolding read_lines
refused [] h os n e = absurd cc
refused (l ∷ ls) h os n e = refused_line l ls os n (block_refused l ls (refused ls (shut_behind l ls h)) h os n e)

-- the lines that begin a file
outermost_err : (r : Result (List Block) ℕ) (n : ℕ) → outermost r ≡ Err n → r ≡ Err n
outermost_err (Ok []) n e = absurd cc
outermost_err (Ok (b ∷ bs)) n e = absurd cc
outermost_err (Err m) n e = cc

one_of : (p : Place) (ls : List Laid) (bs : List Block) → read_lines ls (top_level p ∷ []) ≡ Ok bs
    → (b : Block) × IsBlock p false true 0 b × (ls ≡ block_laid 0 b [])
one_of p ls bs e = by_blocks bs (sound ls (top_level p ∷ []) bs e)
  where
    by_blocks : (bs : List Block) → Left ls (top_level p ∷ []) bs → (b : Block) × IsBlock p false true 0 b × (ls ≡ block_laid 0 b [])
    by_blocks [] h = absurd h.are
    by_blocks (b ∷ bs) h = (b, h.are.0, h.whole)

one_more : (before : List Laid) (at : Laid) (more : List Laid) → Path (List Laid) ((before ++ at ∷ []) ++ more) (before ++ at ∷ more)
one_more [] at more = refl
one_more (l ∷ before) at more = ap (λ ls. l ∷ ls) (one_more before at more)

behind_more : (u v w : List Laid) → Path (List Laid) ((u ++ v) ++ w) (u ++ (v ++ w))
behind_more [] v w = refl
behind_more (l ∷ u) v w = ap (λ ls. l ∷ ls) (behind_more u v w)

-- what is refused is the first fault of the statements
pub first_fault : (p : Place) (ls : List Laid) (n : ℕ) → LastShut ls → file_reads p ls ≡ Err n → IsStatementFault p ls n
first_fault p ls n shut e =
    let r = refused ls shut (top_level p ∷ []) n (outermost_err (read_lines ls (top_level p ∷ [])) n e) in
    let b = one_of p (r.before ++ r.further) r.blocks r.goes in
    record {
      before = r.before;
      at = r.at;
      behind = r.rest;
      whole = r.whole;
      line = r.line;
      goes_well = record { further = r.further; tree = b.0; is_block = b.1; whole = b.2 };
      ends_there = λ h.
          r.never h.further (h.tree ∷ []) (complete (r.before ++ r.at ∷ h.further) (top_level p ∷ []) (h.tree ∷ []) tt (h.is_block, tt) (sym (one_more r.before r.at h.further) ∙ h.whole));
    }

no_more : (ls : List Laid) → ls ++ [] ≡ ls
no_more [] = refl
no_more (l ∷ ls) = ap (λ ls. l ∷ ls) (no_more ls)

read_whole : (p : Place) (ls : List Laid) (b : Block) → file_reads p ls ≡ Ok b → (b : Block) × IsBlock p false true 0 b × (ls ≡ block_laid 0 b [])
read_whole p ls b e = by_read (read_lines ls (top_level p ∷ [])) refl e
  where
    by_read : (r : Result (List Block) ℕ) → read_lines ls (top_level p ∷ []) ≡ r → outermost r ≡ Ok b → (b : Block) × IsBlock p false true 0 b × (ls ≡ block_laid 0 b [])
    by_read (Ok bs) e h = one_of p ls bs e
    by_read (Err n) e h = absurd cc

shorter_begins : (p : Place) (u v : List Laid) → BeginsFile p (u ++ v) → BeginsFile p u
shorter_begins p u v h = record { further = v ++ h.further; tree = h.tree; is_block = h.is_block; whole = sym (behind_more u v h.further) ∙ h.whole }

tail_of : List Laid → List Laid
tail_of [] = []
tail_of (l ∷ ls) = ls

same_tail : (l m : Laid) (ls ms : List Laid) → Path (List Laid) (l ∷ ls) (m ∷ ms) → ls ≡ ms
unfolding tail_of
same_tail l m ls ms e = ap tail_of e

-- where the front of a list is no longer of some kind is settled by the list
same_place : (P : List Laid → Type 0) → ((u v : List Laid) → P (u ++ v) → P u) → (a b : List Laid) (x y : Laid) (xs ys : List Laid) → Path (List Laid) (a ++ x ∷ xs) (b ++ y ∷ ys)
    → P a → ¬ P (a ++ x ∷ []) → P b → ¬ P (b ++ y ∷ []) → x ≡ y
same_place P less [] [] x y xs ys e h j k i = same_head x y xs ys e
same_place P less [] (q ∷ b) x y xs ys e h j k i = absurd (j (subst (λ (z : Laid). P (z ∷ [])) (sym (same_head x q xs (b ++ y ∷ ys) e)) (less (q ∷ []) b k)))
same_place P less (q ∷ a) [] x y xs ys e h j k i = absurd (i (subst (λ (z : Laid). P (z ∷ [])) (same_head q y (a ++ x ∷ xs) ys e) (less (q ∷ []) a h)))
same_place P less (q ∷ a) (r ∷ b) x y xs ys e h j k i =
    let same = same_head q r (a ++ x ∷ xs) (b ++ y ∷ ys) e in
    same_place (λ u. P (q ∷ u)) (λ u v. less (q ∷ u) v) a b x y xs ys (same_tail q r (a ++ x ∷ xs) (b ++ y ∷ ys) e) h j
    (subst (λ (z : Laid). P (z ∷ b)) (sym same) k) (λ h. i (subst (λ (z : Laid). P (z ∷ (b ++ y ∷ []))) same h))

-- the first fault of the statements is refused
pub fault_refused : (p : Place) (ls : List Laid) (n : ℕ) → LastShut ls → IsStatementFault p ls n → file_reads p ls ≡ Err n
fault_refused p ls n shut h = by_answer (file_reads p ls) refl
  where
    tree_of : (b : Block) → file_reads p ls ≡ Ok b → BeginsFile p ls
    tree_of b e = let t = read_whole p ls b e in record { further = []; tree = t.0; is_block = t.1; whole = no_more ls ∙ t.2 }

    by_answer : (r : Result Block ℕ) → file_reads p ls ≡ r → file_reads p ls ≡ Err n
    by_answer (Ok b) e = absurd (h.ends_there (shorter_begins p (h.before ++ h.at ∷ []) h.behind (subst (BeginsFile p) (h.whole ∙ sym (one_more h.before h.at h.behind)) (tree_of b e))))
    by_answer (Err m) e =
        let k = first_fault p ls m shut e in
        let same = same_place (BeginsFile p) (shorter_begins p) k.before h.before k.at h.at k.behind h.behind (sym k.whole ∙ h.whole) k.goes_well k.ends_there h.goes_well h.ends_there in
        e ∙ ap Err (sym k.line ∙ ap (λ l. l.line) same ∙ h.line)
