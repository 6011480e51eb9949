-- The fault that the pass over tokens finds is where no part begins, and the other way round.
use Rattle.std.proofs.Common.{ℕ, zero, suc, ◌≡◌, ◌≢◌, ◌+◌, ◌≤◌, List, [], ◌∷◌, ◌++◌, length, take, drop, refl, sym, ap, subst, ◌∙◌, append_assoc, length-append, Result, Ok, Err, arith}
use Rattle.std.proofs.lemmas.List.{take-append-drop, take_at, take-append-le, drop_at, drop-append-le, length-take-le}
use Rattle.lexer.specs.Characters.{newline}
use Rattle.lexer.specs.Tokens.{Token, Placed}
use Rattle.lexer.specs.Begins.{Begins, space, line_end, comment, token, nothing, begins}
use Rattle.lexer.specs.Scan.{preceded, scan, tokens_of}
use Rattle.lexer.specs.Fits.{IsLongest, IsComment}
use Rattle.lexer.specs.Parts.{Part, blank, line_break, remark, spelled}
use Rattle.lexer.proofs.ScanLemmas.{scan_skip}
use Rattle.lexer.proofs.FitsLaws.{none_empty, begins_longest, longest_begins, nothing_fits}
use Rattle.lexer.proofs.PartLaws.{space_is, line_end_is, comment_is, comment_begins, nothing_begins}
use Rattle.file_syntax.specs.TokenFault.{AreParts, NoPartBegins, IsTokenFault}
use Rattle.file_syntax.proofs.LineEnds.{line_ends, one_end, no_end, ends_of_both, token_no_ends, comment_no_ends}

-- the first token fault of what is left of a text from a line on
record IsFaultFrom (start : ℕ) (text : List ℕ) (line : ℕ) : Type 0 where
  pub before : List ℕ
  pub behind : List ℕ
  pub text_is : before ++ behind ≡ text
  pub parts : List Part
  pub are_parts : AreParts parts before behind
  pub no_part : NoPartBegins behind
  pub line_is : line ≡ start + line_ends before

-- the same, where the part of n bytes before it is known
joined : (p : Part) (n start line : ℕ) (text : List ℕ) → n ≤ length text → line_ends (take n text) ≡ 0
    → ((parts : List Part) (before behind : List ℕ) → before ++ behind ≡ text → n ≤ length before
    → AreParts parts (drop n before) behind → AreParts (p ∷ parts) before behind)
    → IsFaultFrom start (drop n text) line → IsFaultFrom start text line
joined p n start line text within none join f =
    let long : length (take n text) ≡ n = length-take-le n text within in
    let whole : (take n text ++ f.before) ++ f.behind ≡ text =
    append_assoc (take n text) f.before f.behind ∙ ap (λ l. take n text ++ l) f.text_is ∙ take-append-drop n text in
    let rest : drop n (take n text ++ f.before) ≡ f.before = drop_at (take n text) f.before n long in
    let enough : n ≤ length (take n text ++ f.before) = omega (arith, length-append (take n text) f.before) in
    let count : line_ends (take n text ++ f.before) ≡ line_ends f.before = ends_of_both (take n text) f.before ∙ omega arith in
    record {
      before = take n text ++ f.before;
      behind = f.behind;
      text_is = whole;
      parts = p ∷ f.parts;
      are_parts = join f.parts (take n text ++ f.before) f.behind whole enough (subst (λ (l : List ℕ). AreParts f.parts l f.behind) (sym rest) f.are_parts);
      no_part = f.no_part;
      line_is = f.line_is ∙ ap (λ k. start + k) (sym count);
    }

-- the same behind a space
behind_space : (start line b : ℕ) (bs : List ℕ) → b ≡ 32 → IsFaultFrom start bs line → IsFaultFrom start (b ∷ bs) line
behind_space start line b bs e f = record {
  before = b ∷ f.before;
  behind = f.behind;
  text_is = ap (λ l. b ∷ l) f.text_is;
  parts = blank ∷ f.parts;
  are_parts = (f.before, ap (λ c. c ∷ f.before) e, f.are_parts);
  no_part = f.no_part;
  line_is = f.line_is ∙ ap (λ k. start + k) (sym (no_end b f.before (omega arith)));
}

-- the same behind the end of a line
behind_line_end : (start line b : ℕ) (bs : List ℕ) → b ≡ newline → IsFaultFrom (start + 1) bs line → IsFaultFrom start (b ∷ bs) line
behind_line_end start line b bs e f = record {
  before = b ∷ f.before;
  behind = f.behind;
  text_is = ap (λ l. b ∷ l) f.text_is;
  parts = line_break ∷ f.parts;
  are_parts = (f.before, ap (λ c. c ∷ f.before) e, f.are_parts);
  no_part = f.no_part;
  line_is =
      let count : line_ends (b ∷ f.before) ≡ 1 + line_ends f.before = ap (λ c. line_ends (c ∷ f.before)) e ∙ one_end f.before in
      let same : start + 1 + line_ends f.before ≡ start + line_ends (b ∷ f.before) = omega arith in
      f.line_is ∙ same;
}

-- a comment stands within the text
comment_within : (text : List ℕ) (n : ℕ) → IsComment text n → n ≤ length text
comment_within text n c =
    let whole : length text ≡ length (35 ∷ c.0) + length c.1 = ap length c.2 ∙ length-append (35 ∷ c.0) c.1 in
    omega (arith, c.5)

-- the same behind a comment
behind_comment : (n start line : ℕ) (text : List ℕ) → IsComment text n → IsFaultFrom start (drop n text) line → IsFaultFrom start text line
behind_comment n start line text c f =
    joined (remark n) n start line text (comment_within text n c) (comment_no_ends text n c)
    (λ parts before behind whole within h. (within, subst (λ (l : List ℕ). IsComment l n) (sym whole) c, h)) f

-- the same behind a token
behind_token : (t : Token) (n start line : ℕ) (text : List ℕ) → IsLongest text n t → IsFaultFrom start (drop n text) line → IsFaultFrom start text line
behind_token t n start line text l f =
    joined (spelled t n) n start line text l.0.0 (token_no_ends text n t l)
    (λ parts before behind whole within h. (within, subst (λ (m : List ℕ). IsLongest m n t) (sym whole) l, h)) f

-- at a space a space begins
space_begins : (bs : List ℕ) → begins 32 bs ≡ space
unfolding begins
space_begins bs = refl

-- at a newline the line ends
line_end_begins : (bs : List ℕ) → begins newline bs ≡ line_end
unfolding begins
line_end_begins bs = refl

-- at a `#` something begins
comment_begins_at : (bs : List ℕ) → begins 35 bs ≢ nothing
unfolding begins
comment_begins_at bs e = absurd cc

-- where nothing begins no part does
no_part_is : (b : ℕ) (bs : List ℕ) → begins b bs ≡ nothing → NoPartBegins (b ∷ bs)
no_part_is b bs e = (
  λ s. let other : nothing ≡ space = sym e ∙ ap (λ c. begins c bs) s ∙ space_begins bs in absurd cc,
  λ s. let other : nothing ≡ line_end = sym e ∙ ap (λ c. begins c bs) s ∙ line_end_begins bs in absurd cc,
  λ s. comment_begins_at bs (ap (λ c. begins c bs) (sym s) ∙ e),
  nothing_fits b bs e,
)

-- what is left of a text behind n bytes, read from byte `b` on
counted : (start line n b : ℕ) (bs : List ℕ) → IsFaultFrom start (drop n bs) line → IsFaultFrom start (drop (n + 1) (b ∷ bs)) line
counted start line n b bs f =
    let one : suc n ≡ n + 1 = omega arith in
    subst (λ (m : ℕ). IsFaultFrom start (drop m (b ∷ bs)) line) one f

-- by what begins at a byte, the fault of what is left from there on
by_beginning : (at : Begins) (b start column line : ℕ) (bs : List ℕ) → begins b bs ≡ at
    → ((n start column : ℕ) → scan n start column bs ≡ Err line → IsFaultFrom start (drop n bs) line)
    → (elim at as (λ _. Result (List Placed) ℕ) [
      | space ↦ scan 0 start (column + 1) bs
      | line_end ↦ scan 0 (start + 1) 0 bs
      | comment n ↦ scan n start (column + 1) bs
      | token t n ↦ preceded (record { token = t; line = start; column = column } ∷ []) (scan n start (column + 1) bs)
      | nothing ↦ Err start
    ]) ≡ Err line
    → IsFaultFrom start (b ∷ bs) line
by_beginning space b start column line bs s further e = behind_space start line b bs (space_is b bs s) (further 0 start (column + 1) e)
by_beginning line_end b start column line bs s further e = behind_line_end start line b bs (line_end_is b bs s) (further 0 (start + 1) 0 e)
by_beginning (comment n) b start column line bs s further e =
    behind_comment (n + 1) start line (b ∷ bs) (comment_is b n bs s) (counted start line n b bs (further n start (column + 1) e))
by_beginning (token t n) b start column line bs s further e =
    behind_token t (n + 1) start line (b ∷ bs) (begins_longest b bs t n s)
    (counted start line n b bs (further n start (column + 1) (passed_on (record { token = t; line = start; column = column } ∷ []) (scan n start (column + 1) bs) line e)))
  where
    passed_on : (ts : List Placed) (r : Result (List Placed) ℕ) (line : ℕ) → preceded ts r ≡ Err line → r ≡ Err line
    passed_on ts (Ok us) line e = absurd cc
    passed_on ts (Err n) line e = e
by_beginning nothing b start column line bs s further e = record {
  before = [];
  behind = b ∷ bs;
  text_is = refl;
  parts = [];
  are_parts = refl;
  no_part = no_part_is b bs s;
  line_is = let same : start ≡ line = cc in let none : line_ends [] ≡ 0 = refl in omega arith;
}

-- the fault that is found in a text is its first
found : (bs : List ℕ) (n start column line : ℕ) → scan n start column bs ≡ Err line → IsFaultFrom start (drop n bs) line
unfolding scan
found [] n start column line e = absurd cc
found (b ∷ bs) (suc n) start column line e = found bs n start (column + 1) line e
found (b ∷ bs) zero start column line e = by_beginning (begins b bs) b start column line bs refl (λ n start column. found bs n start column line) e

-- the place behind a front is on the line that the ends of lines in the front tell
line_told : (before behind text : List ℕ) → before ++ behind ≡ text → line_ends (take (length before) text) ≡ line_ends before
line_told before behind text e = ap line_ends (ap (take (length before)) (sym e) ∙ take_at before behind (length before) refl)

-- the line that the pass finds is that of the first place where no part begins
pub token_fault_is : (text : List ℕ) (line : ℕ) → tokens_of text ≡ Err line → IsTokenFault text line
unfolding tokens_of
token_fault_is text line e =
    let f = found text 0 1 0 line e in
    record {
      before = f.before;
      behind = f.behind;
      text_is = f.text_is;
      parts = f.parts;
      are_parts = f.are_parts;
      no_part = f.no_part;
      line_is =
          let told = line_told f.before f.behind text f.text_is in
          let same : 1 + line_ends f.before ≡ line_ends (take (length f.before) text) + 1 = omega arith in
          f.line_is ∙ same;
    }

-- the pass goes over a part: a space
over_space : (line column : ℕ) (bs : List ℕ) → scan 0 line column (32 ∷ bs) ≡ scan 0 line (column + 1) bs
unfolding scan begins
over_space line column bs = refl

-- the end of a line
over_line_end : (line column : ℕ) (bs : List ℕ) → scan 0 line column (newline ∷ bs) ≡ scan 0 (line + 1) 0 bs
unfolding scan begins
over_line_end line column bs = refl

-- the bytes of a part
over : (b n line column : ℕ) (bs : List ℕ) → scan n line (column + 1) bs ≡ scan 0 line (column + 1 + n) (drop (n + 1) (b ∷ bs))
over b n line column bs =
    let one : suc n ≡ n + 1 = omega arith in
    scan_skip n line (column + 1) bs ∙ ap (λ m. scan 0 line (column + 1 + n) (drop m (b ∷ bs))) one

-- a comment
over_comment : (b n line column fault : ℕ) (bs : List ℕ) → begins b bs ≡ comment n
    → ((next : ℕ) → scan 0 line next (drop (n + 1) (b ∷ bs)) ≡ Err fault) → scan 0 line column (b ∷ bs) ≡ Err fault
unfolding scan
over_comment b n line column fault bs e h = rw (e, scan) (over b n line column bs ∙ h (column + 1 + n))

-- a token
over_token : (b n line column fault : ℕ) (bs : List ℕ) (t : Token) → begins b bs ≡ token t n
    → ((next : ℕ) → scan 0 line next (drop (n + 1) (b ∷ bs)) ≡ Err fault) → scan 0 line column (b ∷ bs) ≡ Err fault
unfolding scan
over_token b n line column fault bs t e h =
    rw (e, scan) (ap (λ r. preceded (record { token = t; line = line; column = column } ∷ []) r) (over b n line column bs ∙ h (column + 1 + n)))

-- where nothing begins is the fault
at_nothing : (b line column : ℕ) (bs : List ℕ) → begins b bs ≡ nothing → scan 0 line column (b ∷ bs) ≡ Err line
unfolding scan
at_nothing b line column bs e = rw (e, scan) refl

-- the same, of the text and the length of the comment or of the token
over_remark : (text : List ℕ) (n line column fault : ℕ) → IsComment text n
    → ((next : ℕ) → scan 0 line next (drop n text) ≡ Err fault) → scan 0 line column text ≡ Err fault
over_remark text n line column fault c =
    let Goal : List ℕ → ℕ → Type 0 = λ text n. ((next : ℕ) → scan 0 line next (drop n text) ≡ Err fault) → scan 0 line column text ≡ Err fault in
    let shown : Goal (35 ∷ c.0 ++ c.1) (length c.0 + 1) =
    over_comment 35 (length c.0) line column fault (c.0 ++ c.1) (comment_begins c.0 c.1 c.3 c.4) in
    subst (λ (m : ℕ). Goal text m) (sym c.5) (subst (λ (l : List ℕ). Goal l (length c.0 + 1)) (sym c.2) shown)

-- the same of a token
over_spelled : (text : List ℕ) (n line column fault : ℕ) (t : Token) → IsLongest text n t
    → ((next : ℕ) → scan 0 line next (drop n text) ≡ Err fault) → scan 0 line column text ≡ Err fault
over_spelled text zero line column fault t l h = absurd (none_empty t l.0.1)
over_spelled [] (suc n) line column fault t l h = absurd (omega (arith, l.0.0))
over_spelled (b ∷ bs) (suc n) line column fault t l h =
    let one : suc n ≡ n + 1 = omega arith in
    let longest : IsLongest (b ∷ bs) (n + 1) t = subst (λ (k : ℕ). IsLongest (b ∷ bs) k t) one l in
    over_token b n line column fault bs t (longest_begins b bs t n longest)
    (subst (λ (k : ℕ). (next : ℕ) → scan 0 line next (drop k (b ∷ bs)) ≡ Err fault) one h)

-- no end of a line is among the first n bytes
shorter : (n : ℕ) (before behind : List ℕ) → n ≤ length before → line_ends (take n (before ++ behind)) ≡ 0
    → line_ends (drop n before) ≡ line_ends before
shorter n before behind within none =
    let same : line_ends (take n before) ≡ 0 = ap line_ends (sym (take-append-le n before behind within)) ∙ none in
    let whole : line_ends before ≡ line_ends (take n before) + line_ends (drop n before) =
    ap line_ends (sym (take-append-drop n before)) ∙ ends_of_both (take n before) (drop n before) in
    omega arith

-- behind parts a text is refused where none begins
refused : (parts : List Part) (before behind : List ℕ) (line column : ℕ) → AreParts parts before behind → NoPartBegins behind
    → scan 0 line column (before ++ behind) ≡ Err (line + line_ends before)
refused [] before [] line column h none = absurd none
refused [] before (b ∷ bs) line column h none =
    let no : line_ends before ≡ 0 = ap line_ends h in
    let same : line ≡ line + line_ends before = omega arith in
    ap (λ l. scan 0 line column (l ++ b ∷ bs)) h
    ∙ at_nothing b line column bs (nothing_begins b bs none.0 none.1 none.2 none.3)
    ∙ ap Err same
refused (blank ∷ parts) before behind line column h none =
    let count : line_ends before ≡ line_ends h.0 = ap line_ends h.1 ∙ no_end 32 h.0 (λ e. absurd (omega arith)) in
    ap (λ l. scan 0 line column (l ++ behind)) h.1
    ∙ over_space line column (h.0 ++ behind)
    ∙ refused parts h.0 behind line (column + 1) h.2 none
    ∙ ap (λ k. Err (line + k)) (sym count)
refused (line_break ∷ parts) before behind line column h none =
    let count : line_ends before ≡ 1 + line_ends h.0 = ap line_ends h.1 ∙ one_end h.0 in
    let same : line + 1 + line_ends h.0 ≡ line + line_ends before = omega arith in
    ap (λ l. scan 0 line column (l ++ behind)) h.1
    ∙ over_line_end line column (h.0 ++ behind)
    ∙ refused parts h.0 behind (line + 1) 0 h.2 none
    ∙ ap Err same
refused (remark n ∷ parts) before behind line column h none =
    over_remark (before ++ behind) n line column (line + line_ends before) h.1
    (λ next. ap (scan 0 line next) (drop-append-le n before behind h.0)
    ∙ refused parts (drop n before) behind line next h.2 none
    ∙ ap (λ k. Err (line + k)) (shorter n before behind h.0 (comment_no_ends (before ++ behind) n h.1)))
refused (spelled t n ∷ parts) before behind line column h none =
    over_spelled (before ++ behind) n line column (line + line_ends before) t h.1
    (λ next. ap (scan 0 line next) (drop-append-le n before behind h.0)
    ∙ refused parts (drop n before) behind line next h.2 none
    ∙ ap (λ k. Err (line + k)) (shorter n before behind h.0 (token_no_ends (before ++ behind) n t h.1)))

-- the first place where no part begins is found
pub token_fault_as : (text : List ℕ) (line : ℕ) → IsTokenFault text line → tokens_of text ≡ Err line
unfolding tokens_of
token_fault_as text line f =
    let told = line_told f.before f.behind text f.text_is in
    let same : 1 + line_ends f.before ≡ line = omega (arith, f.line_is) in
    ap (scan 0 1 0) (sym f.text_is) ∙ refused f.parts f.before f.behind 1 0 f.are_parts f.no_part ∙ ap Err same
