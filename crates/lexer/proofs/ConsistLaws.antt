-- The tokens that are found byte by byte are those of the parts that a text consists of, and the other way round.
use Rattle.std.proofs.Common.{ℕ, zero, suc, ◌≡◌, ◌+◌, List, [], ◌∷◌, ◌++◌, length, drop, refl, sym, ap, subst, ◌∙◌, add-zero, Result, Ok, Err, arith}
use Rattle.lexer.specs.Characters.{newline}
use Rattle.lexer.specs.Tokens.{Token, Placed}
use Rattle.lexer.specs.Begins.{Begins, space, line_end, comment, token, nothing, begins}
use Rattle.lexer.specs.Scan.{preceded, scan, tokens_of}
use Rattle.lexer.specs.Fits.{IsLongest, IsComment}
use Rattle.lexer.specs.Parts.{Part, blank, line_break, remark, spelled, Consists, IsTokens}
use Rattle.lexer.proofs.LayoutLaws.{preceded_is}
use Rattle.lexer.proofs.ScanLemmas.{scan_skip}
use Rattle.lexer.proofs.FitsLaws.{none_empty, begins_longest, longest_begins}
use Rattle.lexer.proofs.PartLaws.{space_is, line_end_is, comment_is, comment_begins}

-- the parts of what is left of a text behind some bytes
abbrev Left : ℕ → ℕ → ℕ → List ℕ → List Placed → Type 0
Left n line column bs ts = (parts : List Part) × Consists parts line (column + n) (drop n bs) ts

-- what is left behind a part of n further bytes
moved : (parts : List Part) (n line column b : ℕ) (bs : List ℕ) (ts : List Placed)
    → Consists parts line (column + 1 + n) (drop n bs) ts
    → Consists parts line (column + (n + 1)) (drop (n + 1) (b ∷ bs)) ts
moved parts n line column b bs ts h =
    let one : suc n ≡ n + 1 = omega arith in
    let same : column + 1 + n ≡ column + (n + 1) = omega arith in
    let rest : drop n bs ≡ drop (n + 1) (b ∷ bs) = ap (λ m. drop m (b ∷ bs)) one in
    subst (λ (k : ℕ). Consists parts line k (drop (n + 1) (b ∷ bs)) ts) same
    (subst (λ (l : List ℕ). Consists parts line (column + 1 + n) l ts) rest h)

-- what is left where a byte is read alone
alone : (parts : List Part) (line column : ℕ) (bs : List ℕ) (ts : List Placed)
    → Consists parts line (column + 0) (drop 0 bs) ts
    → Consists parts line column bs ts
alone parts line column bs ts h = subst (λ (k : ℕ). Consists parts line k bs ts) (add-zero column) h

-- by what begins at a byte, the parts of what is left from there on
by_beginning : (at : Begins) (b line column : ℕ) (bs : List ℕ) (ts : List Placed) → begins b bs ≡ at
    → ((n line column : ℕ) (ts : List Placed) → scan n line column bs ≡ Ok ts → Left n line column bs ts)
    → (elim at as (λ _. Result (List Placed) ℕ) [
      | space ↦ scan 0 line (column + 1) bs
      | line_end ↦ scan 0 (line + 1) 0 bs
      | comment n ↦ scan n line (column + 1) bs
      | token t n ↦ preceded (record { token = t; line = line; column = column } ∷ []) (scan n line (column + 1) bs)
      | nothing ↦ Err line
    ]) ≡ Ok ts
    → (parts : List Part) × Consists parts line column (b ∷ bs) ts
by_beginning space b line column bs ts s further e =
    let r = further 0 line (column + 1) ts e in
    (blank ∷ r.0, (bs, ap (λ c. c ∷ bs) (space_is b bs s), alone r.0 line (column + 1) bs ts r.1))
by_beginning line_end b line column bs ts s further e =
    let r = further 0 (line + 1) 0 ts e in
    (line_break ∷ r.0, (bs, ap (λ c. c ∷ bs) (line_end_is b bs s), alone r.0 (line + 1) 0 bs ts r.1))
by_beginning (comment n) b line column bs ts s further e =
    let r = further n line (column + 1) ts e in
    (remark (n + 1) ∷ r.0, (comment_is b n bs s, moved r.0 n line column b bs ts r.1))
by_beginning (token t n) b line column bs ts s further e =
    let p = preceded_is (record { token = t; line = line; column = column } ∷ []) ts (scan n line (column + 1) bs) e in
    let r = further n line (column + 1) p.0 p.1 in
    (spelled t (n + 1) ∷ r.0, (begins_longest b bs t n s, (p.0, p.2, moved r.0 n line column b bs p.0 r.1)))
by_beginning nothing b line column bs ts s further e = absurd cc

-- what is found in a text is that of its parts
left_is : (bs : List ℕ) (n line column : ℕ) (ts : List Placed) → scan n line column bs ≡ Ok ts → Left n line column bs ts
unfolding scan
left_is [] zero line column ts e = ([], (refl, let none : [] ≡ ts = cc in sym none))
left_is [] (suc n) line column ts e = ([], (refl, let none : [] ≡ ts = cc in sym none))
left_is (b ∷ bs) (suc n) line column ts e =
    let r = left_is bs n line (column + 1) ts e in
    let same : column + 1 + n ≡ column + suc n = omega arith in
    (r.0, subst (λ (k : ℕ). Consists r.0 line k (drop n bs) ts) same r.1)
left_is (b ∷ bs) zero line column ts e =
    let r = by_beginning (begins b bs) b line column bs ts refl (left_is bs) e in
    (r.0, subst (λ (k : ℕ). Consists r.0 line k (b ∷ bs) ts) (sym (add-zero column)) r.1)

-- a space is passed over
behind_space : (line column : ℕ) (bs : List ℕ) → scan 0 line column (32 ∷ bs) ≡ scan 0 line (column + 1) bs
unfolding scan begins
behind_space line column bs = refl

-- a newline ends a line
behind_newline : (line column : ℕ) (bs : List ℕ) → scan 0 line column (newline ∷ bs) ≡ scan 0 (line + 1) 0 bs
unfolding scan begins
behind_newline line column bs = refl

-- bytes that were read are passed over
passed_over : (b n line column : ℕ) (bs : List ℕ)
    → scan n line (column + 1) bs ≡ scan 0 line (column + (n + 1)) (drop (n + 1) (b ∷ bs))
passed_over b n line column bs =
    let one : suc n ≡ n + 1 = omega arith in
    let same : column + 1 + n ≡ column + (n + 1) = omega arith in
    let rest : drop n bs ≡ drop (n + 1) (b ∷ bs) = ap (λ m. drop m (b ∷ bs)) one in
    scan_skip n line (column + 1) bs ∙ ap (λ k. scan 0 line k (drop n bs)) same ∙ ap (λ l. scan 0 line (column + (n + 1)) l) rest

-- a comment is passed over
behind_comment : (b n line column : ℕ) (bs : List ℕ) → begins b bs ≡ comment n
    → scan 0 line column (b ∷ bs) ≡ scan 0 line (column + (n + 1)) (drop (n + 1) (b ∷ bs))
unfolding scan
behind_comment b n line column bs e = rw (e, scan) (passed_over b n line column bs)

-- a token comes before what is found behind it
behind_token : (b n line column : ℕ) (bs : List ℕ) (t : Token) → begins b bs ≡ token t n
    → scan 0 line column (b ∷ bs)
    ≡ preceded (record { token = t; line = line; column = column } ∷ []) (scan 0 line (column + (n + 1)) (drop (n + 1) (b ∷ bs)))
unfolding scan
behind_token b n line column bs t e =
    rw (e, scan) (ap (λ r. preceded (record { token = t; line = line; column = column } ∷ []) r) (passed_over b n line column bs))

-- the same, of the text and the length of the comment
comment_passed : (text : List ℕ) (n line column : ℕ) → IsComment text n
    → scan 0 line column text ≡ scan 0 line (column + n) (drop n text)
comment_passed text n line column c =
    let long : n ≡ length c.0 + 1 = c.5 in
    let found = behind_comment 35 (length c.0) line column (c.0 ++ c.1) (comment_begins c.0 c.1 c.3 c.4) in
    rw (c.2, long) found

-- the same, of the text and the length of the token
token_passed : (text : List ℕ) (n line column : ℕ) (t : Token) → IsLongest text n t
    → scan 0 line column text
    ≡ preceded (record { token = t; line = line; column = column } ∷ []) (scan 0 line (column + n) (drop n text))
token_passed text zero line column t l = absurd (none_empty t l.0.1)
token_passed [] (suc n) line column t l = absurd (omega (arith, l.0.0))
token_passed (b ∷ bs) (suc n) line column t l =
    let one : suc n ≡ n + 1 = omega arith in
    let longest : IsLongest (b ∷ bs) (n + 1) t = subst (λ (k : ℕ). IsLongest (b ∷ bs) k t) one l in
    let P : ℕ → Type 0 = λ k. scan 0 line column (b ∷ bs)
    ≡ preceded (record { token = t; line = line; column = column } ∷ []) (scan 0 line (column + k) (drop k (b ∷ bs))) in
    subst P (sym one) (behind_token b n line column bs t (longest_begins b bs t n longest))

-- the tokens of the parts of a text are found in it
left_as : (parts : List Part) (line column : ℕ) (text : List ℕ) (ts : List Placed) → Consists parts line column text ts
    → scan 0 line column text ≡ Ok ts
unfolding scan
left_as [] line column text ts h = rw (h.0, h.1) refl
left_as (blank ∷ parts) line column text ts h =
    ap (λ l. scan 0 line column l) h.1 ∙ behind_space line column h.0 ∙ left_as parts line (column + 1) h.0 ts h.2
left_as (line_break ∷ parts) line column text ts h =
    ap (λ l. scan 0 line column l) h.1 ∙ behind_newline line column h.0 ∙ left_as parts (line + 1) 0 h.0 ts h.2
left_as (remark n ∷ parts) line column text ts h =
    comment_passed text n line column h.0 ∙ left_as parts line (column + n) (drop n text) ts h.1
left_as (spelled t n ∷ parts) line column text ts h =
    token_passed text n line column t h.0
    ∙ ap (λ r. preceded (record { token = t; line = line; column = column } ∷ []) r)
    (left_as parts line (column + n) (drop n text) h.1.0 h.1.2)
    ∙ ap Ok (sym h.1.1)

-- the tokens that are found in a text are its tokens
pub tokens_are : (text : List ℕ) (ts : List Placed) → tokens_of text ≡ Ok ts → IsTokens text ts
unfolding tokens_of
tokens_are text ts e = left_is text 0 1 0 ts e

-- the tokens of a text are found in it
pub tokens_as : (text : List ℕ) (ts : List Placed) → IsTokens text ts → tokens_of text ≡ Ok ts
unfolding tokens_of
tokens_as text ts h = left_as h.0 1 0 text ts h.1
