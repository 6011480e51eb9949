-- Laws of the scan, one beginning at a time.
use Rattle.std.proofs.Common.{ℕ, zero, suc, add-zero, ◌≡◌, ◌+◌, ◌<◌, ◌≤◌, List, [], ◌∷◌, ◌++◌, length, drop, refl, sym, ap, ◌∙◌, add-one, drop-cons, append_assoc, slice_index, Result, Ok, Err, arith}
use Rattle.std.proofs.lemmas.List.{drop-drop, drop_all}
use Rattle.lexer.specs.Tokens.{Token}
use Rattle.lexer.specs.Begins.{space, line_end, comment, token, nothing, begins}
use Rattle.lexer.specs.Scan.{preceded, scan}

-- bytes that belong to what began before are passed over
pub scan_skip : (n line column : ℕ) (bs : List ℕ) → scan n line column bs ≡ scan 0 line (column + n) (drop n bs)
unfolding scan
scan_skip zero line column [] = refl
scan_skip (suc n) line column [] = refl
scan_skip zero line column (b ∷ bs) = rw (add-zero column) refl
scan_skip (suc n) line column (b ∷ bs) =
    let e : column + 1 + n ≡ column + suc n = omega arith in
    scan_skip n line (column + 1) bs ∙ ap (λ k. scan 0 line k (drop n bs)) e

-- a text from a place on is its byte there and what follows
pub opened : (text : List ℕ) (at : ℕ) → at < length text → drop at text ≡ slice_index text at ∷ drop (at + 1) text
opened text at h = rw add-one (drop-cons text at 0 h)

pub at_space : (text : List ℕ) (at line column : ℕ) → at < length text
    → space ≡ begins (slice_index text at) (drop (at + 1) text)
    → scan 0 line column (drop at text) ≡ scan 0 line (column + 1) (drop (at + 1) text)
unfolding scan
at_space text at line column h e = rw (opened text at h, ← e, scan) refl

pub at_line_end : (text : List ℕ) (at line column : ℕ) → at < length text
    → line_end ≡ begins (slice_index text at) (drop (at + 1) text)
    → scan 0 line column (drop at text) ≡ scan 0 (line + 1) 0 (drop (at + 1) text)
unfolding scan
at_line_end text at line column h e = rw (opened text at h, ← e, scan) refl

pub at_comment : (text : List ℕ) (at n line column : ℕ) → at < length text
    → comment n ≡ begins (slice_index text at) (drop (at + 1) text)
    → scan 0 line column (drop at text) ≡ scan n line (column + 1) (drop (at + 1) text)
unfolding scan
at_comment text at n line column h e = rw (opened text at h, ← e, scan) refl

pub at_token : (text : List ℕ) (at n line column : ℕ) (t : Token) → at < length text
    → token t n ≡ begins (slice_index text at) (drop (at + 1) text)
    → scan 0 line column (drop at text)
    ≡ preceded (record { token = t; line = line; column = column } ∷ []) (scan n line (column + 1) (drop (at + 1) text))
unfolding scan
at_token text at n line column t h e = rw (opened text at h, ← e, scan) refl

pub at_nothing : (text : List ℕ) (at line column : ℕ) → at < length text
    → nothing ≡ begins (slice_index text at) (drop (at + 1) text)
    → scan 0 line column (drop at text) ≡ Err line
unfolding scan
at_nothing text at line column h e = rw (opened text at h, ← e, scan) refl

-- what began at a place is passed over as a whole
pub passed : (text : List ℕ) (at n line column : ℕ)
    → scan n line (column + 1) (drop (at + 1) text) ≡ scan 0 line (column + 1 + n) (drop (at + 1 + n) text)
passed text at n line column =
    scan_skip n line (column + 1) (drop (at + 1) text)
    ∙ ap (λ bs. scan 0 line (column + 1 + n) bs) (drop-drop n (at + 1) text)

pub preceded_more : {A : Type 0} (ts us : List A) (r : Result (List A) ℕ) → preceded ts (preceded us r) ≡ preceded (ts ++ us) r
preceded_more ts us (Ok vs) = ap Ok (sym (append_assoc ts us vs))
preceded_more ts us (Err line) = refl

pub preceded_none : {A : Type 0} (r : Result (List A) ℕ) → preceded [] r ≡ r
preceded_none (Ok ts) = refl
preceded_none (Err line) = refl

-- nothing is left at the end of a text
pub scan_end : (text : List ℕ) (at line column : ℕ) → length text ≤ at → scan 0 line column (drop at text) ≡ Ok []
unfolding scan
scan_end text at line column h = rw (drop_all at text h) refl
