-- What a text is read as, by the relation and by the passes.
use Rattle.std.proofs.Common.{ℕ, zero, suc, ◌≡◌, ◌+◌, ◌≤◌, Bool, true, false, not, ◌&&◌, cond, nat_lt, List, [], ◌∷◌, length, refl, ap, ◌∙◌, Option, Some, None, Result, Ok, Err, arith}
use Rattle.std.specs.Prelude.{option_map}
use Rattle.std.specs.List.{AllPass, list_all, prefix_len}
use Rattle.std.proofs.lemmas.Bool.Decides.{nat_tests}
use Rattle.std.proofs.lemmas.List.Sums.{AllPass-from_list_all, list_all-from_AllPass, prefix_len-le-length}
use Rattle.lexer.specs.declared.fault.SyntaxFault.{SyntaxFault}
use Rattle.lexer.specs.Tokens.{Placed}
use Rattle.lexer.specs.Characters.{is_character, line_at, character_fault}
use Rattle.lexer.specs.Begins.{Begins, space, line_end, comment, token, nothing, begins}
use Rattle.lexer.specs.Scan.{preceded, scan, tokens_of}
use Rattle.lexer.specs.Layout.{line_starts, at_start}
use Rattle.lexer.specs.Lines.{lines_at, lines_of, laid_out, scanned, reading}
use Rattle.lexer.specs.LaidOut.{IsReading}
use Rattle.lexer.specs.Parts.{IsTokens}
use Rattle.lexer.proofs.ReadingLemmas.{read_as}
use Rattle.lexer.proofs.ConsistLaws.{tokens_are, tokens_as}
use Rattle.lexer.proofs.LayoutLaws.{preceded_is}
use Rattle.lexer.proofs.LayoutBackLaws.{Numbered, laid_out_is, laid_out_as}

-- where all elements pass the longest prefix of those that do is the list
whole_prefix : (t : ℕ → Bool) (xs : List ℕ) → list_all t xs ≡ true → prefix_len (λ b. not (not (t b))) xs ≡ length xs
whole_prefix t [] e = refl
whole_prefix t (x ∷ xs) e = step (t x) (list_all t xs) (prefix_len (λ b. not (not (t b))) xs) (length xs) e (whole_prefix t xs)
  where
    step : (b r : Bool) (n m : ℕ) → (b && r) ≡ true → (r ≡ true → n ≡ m) → cond (not (not b)) (1 + n) 0 ≡ suc m
    step true r n m e h = let k : n ≡ m = h e in omega arith
    step false r n m e h = absurd cc

-- where the longest prefix of elements that pass is the list, all pass
all_of_prefix : (t : ℕ → Bool) (xs : List ℕ) → prefix_len (λ b. not (not (t b))) xs ≡ length xs → list_all t xs ≡ true
all_of_prefix t [] e = refl
all_of_prefix t (x ∷ xs) e = step (t x) (list_all t xs) (prefix_len (λ b. not (not (t b))) xs) (length xs) e (all_of_prefix t xs)
  where
    step : (b r : Bool) (n m : ℕ) → cond (not (not b)) (1 + n) 0 ≡ suc m → (n ≡ m → r ≡ true) → (b && r) ≡ true
    step true r n m e h = h (omega arith)
    step false r n m e h = absurd (omega arith)

-- a place that is sought and not found
not_found : (b : Bool) (f : ℕ → ℕ) (i : ℕ) → option_map f (cond b (Some i) None) ≡ None → b ≡ false
not_found true f i e = absurd cc
not_found false f i e = refl

-- a text of characters has no fault of characters
no_fault : (text : List ℕ) → AllPass is_character text → None ≡ character_fault text
no_fault text h =
    let n : prefix_len (λ b. not (not (is_character b))) text ≡ length text =
    whole_prefix is_character text (list_all-from_AllPass is_character text h) in
    let test : nat_lt (prefix_len (λ b. not (not (is_character b))) text) (length text) ≡ false = grind (arith, nat_tests) in
    rw test refl

-- a text with no fault of characters is of characters
all_characters : (text : List ℕ) → character_fault text ≡ None → AllPass is_character text
all_characters text e =
    let test = not_found (nat_lt (prefix_len (λ b. not (not (is_character b))) text) (length text)) (line_at text) _ e in
    let low = prefix_len-le-length (λ b. not (not (is_character b))) text in
    let n : prefix_len (λ b. not (not (is_character b))) text ≡ length text = grind (arith, nat_tests) in
    AllPass-from_list_all is_character text (all_of_prefix is_character text n)

-- the first of some tokens stands on this line of the file or on a later one
abbrev From : ℕ → List Placed → Type 0
From line [] = Unit {0}
From line (t ∷ ts) = line ≤ t.line

-- what stands on a later line or behind it stands behind the line before
sooner : (line : ℕ) (ts : List Placed) → From (line + 1) ts → From line ts
sooner line [] h = tt
sooner line (t ∷ ts) h = omega arith

-- what is found from a line on stands there or later
from_line : (inside line column : ℕ) (bs : List ℕ) (ts : List Placed) → scan inside line column bs ≡ Ok ts → From line ts
unfolding scan
from_line inside line column [] ts e = let n : [] ≡ ts = cc in rw (← n) tt
from_line (suc n) line column (b ∷ bs) ts e = from_line n line (column + 1) bs ts e
from_line zero line column (b ∷ bs) ts e =
    by_beginning (begins b bs) line column bs ts (from_line 0 line (column + 1) bs ts)
    (from_line 0 (line + 1) 0 bs ts) (λ n. from_line n line (column + 1) bs ts) e
  where
    by_beginning : (at : Begins) (line column : ℕ) (bs : List ℕ) (ts : List Placed)
        → (scan 0 line (column + 1) bs ≡ Ok ts → From line ts)
        → (scan 0 (line + 1) 0 bs ≡ Ok ts → From (line + 1) ts)
        → ((n : ℕ) → scan n line (column + 1) bs ≡ Ok ts → From line ts)
        → (elim at as (λ _. Result (List Placed) ℕ) [
          | space ↦ scan 0 line (column + 1) bs
          | line_end ↦ scan 0 (line + 1) 0 bs
          | comment n ↦ scan n line (column + 1) bs
          | token t n ↦ preceded (record { token = t; line = line; column = column } ∷ []) (scan n line (column + 1) bs)
          | nothing ↦ Err line
        ]) ≡ Ok ts
        → From line ts
    by_beginning space line column bs ts h k m e = h e
    by_beginning line_end line column bs ts h k m e = sooner line ts (k e)
    by_beginning (comment n) line column bs ts h k m e = m n e
    by_beginning (token t n) line column bs ts h k m e =
        let p = preceded_is (record { token = t; line = line; column = column } ∷ []) ts (scan n line (column + 1) bs) e in
        rw p.2 (omega arith)
    by_beginning nothing line column bs ts h k m e = absurd cc

-- the tokens of a text stand on lines from 1 on
numbered : (text : List ℕ) (ts : List Placed) → tokens_of text ≡ Ok ts → Numbered ts
unfolding tokens_of
numbered text ts e = from_one ts (from_line 0 1 0 text ts e)
  where
    from_one : (ts : List Placed) → From 1 ts → Numbered ts
    from_one [] h = tt
    from_one (t ∷ ts) h = omega arith

-- what the passes go through without fault
passes : (text : List ℕ) (lines : List (List Placed)) (c : Option ℕ) → scanned text c ≡ Ok lines
    → (c ≡ None) × (laid_out (tokens_of text) ≡ Ok lines)
passes text lines (Some line) e = absurd cc
passes text lines None e = (refl, e)

-- the pass over the tokens was without fault
tokens_passed : (r : Result (List Placed) ℕ) (lines : List (List Placed)) → laid_out r ≡ Ok lines
    → (ts : List Placed) × (r ≡ Ok ts) × (lines_of ts (line_starts 0 at_start ts) ≡ Ok lines)
tokens_passed (Err line) lines e = absurd cc
tokens_passed (Ok ts) lines e = (ts, refl, e)

-- the pass over brackets and columns was without fault
places_passed : (ts : List Placed) (r : Result (List ℕ) ℕ) (lines : List (List Placed)) → lines_of ts r ≡ Ok lines
    → (places : List ℕ) × (r ≡ Ok places) × (lines_at places ts ≡ lines)
places_passed ts (Err line) lines e = absurd cc
places_passed ts (Ok places) lines e = (places, refl, cc)

-- what a text is read as is its reading
pub reading_is : (text : List ℕ) (lines : List (List Placed)) → reading text ≡ Ok lines → IsReading text lines
unfolding reading
reading_is text lines e =
    let a = passes text lines (character_fault text) e in
    let b = tokens_passed (tokens_of text) lines a.1 in
    let c = places_passed b.0 (line_starts 0 at_start b.0) lines b.2 in
    record {
      characters = all_characters text a.0;
      tokens = b.0;
      read = tokens_are text b.0 b.1;
      laid_out = rw c.2 at (laid_out_is b.0 c.0 (numbered text b.0 b.1) c.1);
    }

-- a text is read as its reading
pub reading_as : (text : List ℕ) (lines : List (List Placed)) → IsReading text lines → reading text ≡ Ok lines
reading_as text lines r =
    let scanned = tokens_as text r.tokens r.read in
    let p = laid_out_as r.tokens lines (numbered text r.tokens scanned) r.laid_out in
    read_as text r.tokens p.0 (no_fault text r.characters) scanned p.1 ∙ ap Ok p.2

-- a text that is refused has no reading
pub refused : (text : List ℕ) (f : SyntaxFault) (lines : List (List Placed)) → reading text ≡ Err f → ¬ IsReading text lines
refused text f lines e r = let other = reading_as text lines r in absurd cc

-- a text has at most one reading
pub same_reading : (text : List ℕ) (a b : List (List Placed)) → IsReading text a → IsReading text b → a ≡ b
same_reading text a b r s =
    let x = reading_as text a r in
    let y = reading_as text b s in
    cc

-- a text has at most one list of tokens
pub same_tokens : (text : List ℕ) (a b : List Placed) → IsTokens text a → IsTokens text b → a ≡ b
same_tokens text a b r s =
    let x = tokens_as text a r in
    let y = tokens_as text b s in
    cc
