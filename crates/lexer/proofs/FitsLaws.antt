-- What begins is the longest token that fits, and the other way round.
use Rattle.std.proofs.Common.{ℕ, zero, suc, ◌≡◌, ◌+◌, ◌≤◌, inl, inr, List, [], ◌∷◌, ◌++◌, length, take, drop, sym, ap, subst, ◌∙◌, add-one, arith}
use Rattle.std.proofs.lemmas.List.{take-append-drop, length-take-le}
use Rattle.lexer.specs.Tokens.{Token, name, number, string, word, mark}
use Rattle.lexer.specs.Words.{word_or_name}
use Rattle.lexer.specs.Begins.{token, nothing, begins}
use Rattle.lexer.specs.Fits.{IsWordLike, Spells, StandsOff, Fits, IsLongest}
use Rattle.lexer.proofs.WordLaws.{word_as, name_as, word_like}
use Rattle.lexer.proofs.BeginLaws.{begins_one, IsToken, BeginsAsLong, name_is, name_as_long, number_is, number_as_long}
use Rattle.lexer.proofs.MarkLaws.{MarkBegins, mark_begins, mark_is, mark_as_long}
use Rattle.lexer.proofs.StringLaws.{string_is, string_as_long}

-- what begins is a token as the relation has it
token_is : (b : ℕ) (bs : List ℕ) (t : Token) (k : ℕ) → begins b bs ≡ token t k → IsToken b bs t k
token_is b bs t k e = elim (begins_one b bs t k e) [
  | inl s ↦ string_is b bs t k s.0 s.1
  | inr r ↦ elim r [
    | inl n ↦ number_is b bs t k n.0 n.1
    | inr q ↦ elim q [
      | inl w ↦ name_is b bs t k w.0 w.1
      | inr m ↦ mark_is b bs t k m
    ]
  ]
]

-- where bytes spell a token, one that is at least as long begins
as_long : (b : ℕ) (front further : List ℕ) (u : Token) → Spells (b ∷ front) u → StandsOff u further
    → BeginsAsLong b (front ++ further) (length front) u
as_long b front further (name w) h off =
    let like : IsWordLike (b ∷ front) = subst (λ (w : List ℕ). IsWordLike w) (sym h.0) h.1 in
    name_as_long b front further (name w) like (ap word_or_name h.0 ∙ name_as w h.2)
as_long b front further (number n) h off = number_as_long b front further n h off
as_long b front further (string s) h off = string_as_long b front further s h
as_long b front further (word k) h off = name_as_long b front further (word k) (word_like k (b ∷ front) h) (word_as k (b ∷ front) h)
as_long b front further (mark m) h off = mark_as_long m b front further h

-- no bytes at all spell no token
pub none_empty : (u : Token) → Spells [] u → ⊥
none_empty (name w) h = subst (λ (w : List ℕ). IsWordLike w) (sym h.0) h.1
none_empty (number n) h = h.0
none_empty (string s) h = let e = h.4 in absurd cc
none_empty (word k) h = word_like k [] h
none_empty (mark m) h = subst (λ (text : List ℕ). MarkBegins text [] m) (sym h) (mark_begins m [])

-- where bytes fit, one that is at least as long begins
fits_begins : (b : ℕ) (bs : List ℕ) (n : ℕ) (u : Token) → Fits (b ∷ bs) (suc n) u → BeginsAsLong b bs n u
fits_begins b bs n u f =
    let within : n ≤ length bs = omega arith in
    let long : length (take n bs) ≡ n = length-take-le n bs within in
    rw (take-append-drop n bs, long) at (as_long b (take n bs) (drop n bs) u f.1 f.2)

-- what begins fits
token_fits : (b : ℕ) (bs : List ℕ) (t : Token) (k : ℕ) → begins b bs ≡ token t k → Fits (b ∷ bs) (k + 1) t
token_fits b bs t k e =
    let s = token_is b bs t k e in
    let shown : Fits (b ∷ bs) (suc k) t = (omega arith, s.1, s.2) in
    rw add-one shown

-- what fits is no longer than what begins
no_longer : (b : ℕ) (bs : List ℕ) (t : Token) (k : ℕ) → begins b bs ≡ token t k → (m : ℕ) (u : Token)
    → Fits (b ∷ bs) m u → m ≤ k + 1
no_longer b bs t k e zero u f = omega arith
no_longer b bs t k e (suc n) u f =
    let g = fits_begins b bs n u f in
    let both : token t k ≡ token g.0 g.1 = sym e ∙ g.2 in
    let same : k ≡ g.1 = cc in
    omega arith

-- what begins is the longest token that fits
pub begins_longest : (b : ℕ) (bs : List ℕ) (t : Token) (k : ℕ) → begins b bs ≡ token t k → IsLongest (b ∷ bs) (k + 1) t
begins_longest b bs t k e = (token_fits b bs t k e, no_longer b bs t k e)

-- the same token, and as long
alike : (t u : Token) (k n : ℕ) → t ≡ u → k ≡ n → token u n ≡ token t k
alike t u k n e l = cc

-- the longest token that fits begins
pub longest_begins : (b : ℕ) (bs : List ℕ) (t : Token) (k : ℕ) → IsLongest (b ∷ bs) (k + 1) t → begins b bs ≡ token t k
longest_begins b bs t k l =
    let one : k + 1 ≡ suc k = omega arith in
    let f : Fits (b ∷ bs) (suc k) t = subst (λ (n : ℕ). Fits (b ∷ bs) n t) one l.0 in
    let g = fits_begins b bs k t f in
    let most : g.1 + 1 ≤ k + 1 = l.1 (g.1 + 1) g.0 (token_fits b bs g.0 g.1 g.2) in
    let same : k ≡ g.1 = omega arith in
    let u : t ≡ g.0 = g.4 same in
    g.2 ∙ alike t g.0 k g.1 u same

-- where nothing begins no token fits
pub nothing_fits : (b : ℕ) (bs : List ℕ) → begins b bs ≡ nothing → (n : ℕ) (t : Token) → ¬ Fits (b ∷ bs) n t
nothing_fits b bs e zero t f = none_empty t f.1
nothing_fits b bs e (suc n) t f =
    let g = fits_begins b bs n t f in
    let both : nothing ≡ token g.0 g.1 = sym e ∙ g.2 in
    absurd cc
