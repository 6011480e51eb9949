-- No end of a line stands in a token or in a comment.
use Rattle.std.proofs.Common.{ℕ, ◌≡◌, ◌≢◌, ◌+◌, Bool, true, false, not, ◌&&◌, cond, ◌==◌, List, [], ◌∷◌, ◌++◌, length, take, refl, sym, ap, subst, ◌∙◌, flat_map, zero-add, arith}
use Rattle.std.specs.List.{AllByRecursion, list_all, count_by}
use Rattle.std.proofs.lemmas.Bool.Decides.{nat_tests}
use Rattle.std.proofs.lemmas.List.{take_at}
use Rattle.std.proofs.lemmas.List.Sums.{sum_by-cons, sum_by-append}
use Rattle.lexer.specs.declared.token.Mark.{Mark}
use Rattle.lexer.specs.declared.token.Mark.TheVariants.{OpenParen}
use Rattle.lexer.specs.Characters.{newline}
use Rattle.lexer.specs.Tokens.{Token, name, number, string, word, mark}
use Rattle.lexer.specs.Strings.{backslash, is_quote, is_escape}
use Rattle.lexer.specs.Begins.{is_letter, is_digit, is_word_byte}
use Rattle.lexer.specs.Fits.{IsWordLike, IsNumeral, Piece, plain, escape, piece_text, IsPiece, Spells, IsLongest, IsComment, text_of}
use Rattle.lexer.proofs.WordLaws.{word_like}

-- the number of the ends of lines in some bytes
abbrev pub line_ends : List ℕ → ℕ
line_ends bytes = count_by (λ b. b == newline) bytes

-- what an end of a line, and what another byte counts
pub one_end : (bs : List ℕ) → line_ends (newline ∷ bs) ≡ 1 + line_ends bs
one_end bs = sum_by-cons (λ b. cond (b == newline) 1 0) newline bs

-- what another byte counts
pub no_end : (b : ℕ) (bs : List ℕ) → b ≢ newline → line_ends (b ∷ bs) ≡ line_ends bs
no_end b bs other =
    let test : (b == newline) ≡ false = grind (arith, nat_tests) in
    sum_by-cons (λ b. cond (b == newline) 1 0) b bs ∙ ap (λ t. cond t 1 0 + line_ends bs) test ∙ zero-add (line_ends bs)

-- the ends of lines in bytes that stand one behind the other
pub ends_of_both : (xs ys : List ℕ) → line_ends (xs ++ ys) ≡ line_ends xs + line_ends ys
ends_of_both xs ys = sum_by-append (λ b. cond (b == newline) 1 0) xs ys

-- bytes of which none ends a line
abbrev NoEnds : List ℕ → Type 0
NoEnds bs = AllByRecursion (λ b. b ≢ newline) bs

-- where no byte ends a line none is counted
count_none : (bs : List ℕ) → NoEnds bs → line_ends bs ≡ 0
count_none [] h = refl
count_none (b ∷ bs) h = no_end b bs h.0 ∙ count_none bs h.1

-- where two tests hold at once each does
both_true : (a b : Bool) → (a && b) ≡ true → (a ≡ true) × (b ≡ true)
both_true true b e = (refl, e)
both_true false b e = absurd cc

-- a byte that passes a test that an end of a line fails is none
passes_no_end : (p : ℕ → Bool) (b : ℕ) → p newline ≡ false → p b ≡ true → b ≢ newline
passes_no_end p b n h e = let same : p b ≡ p newline = ap p e in absurd cc

-- bytes that pass such a test
pass_no_ends : (p : ℕ → Bool) (bs : List ℕ) → p newline ≡ false → list_all p bs ≡ true → NoEnds bs
pass_no_ends p [] n h = tt
pass_no_ends p (b ∷ bs) n h =
    let both = both_true (p b) (list_all p bs) h in
    (passes_no_end p b n both.0, pass_no_ends p bs n both.1)

-- two such pieces make one
no_ends_both : (xs ys : List ℕ) → NoEnds xs → NoEnds ys → NoEnds (xs ++ ys)
no_ends_both [] ys h k = k
no_ends_both (x ∷ xs) ys h k = (h.0, no_ends_both xs ys h.1 k)

-- no line ends in a name or a word
word_no_ends : (bs : List ℕ) → IsWordLike bs → NoEnds bs
word_no_ends [] h = tt
word_no_ends (b ∷ bs) h = (passes_no_end is_letter b refl h.0, pass_no_ends is_word_byte bs refl h.1)

-- no line ends in a number
numeral_no_ends : (bs : List ℕ) → IsNumeral bs → NoEnds bs
numeral_no_ends [] h = tt
numeral_no_ends (b ∷ bs) h = (passes_no_end is_digit b refl h.0, pass_no_ends is_digit bs refl h.1)

-- no line ends in a piece of a string
piece_no_ends : (quote : ℕ) (p : Piece) → IsPiece quote p → NoEnds (piece_text p)
piece_no_ends quote (plain b) h = (h.1, tt)
piece_no_ends quote (escape b) h = (passes_no_end (λ b. not (b == newline)) backslash refl refl, (passes_no_end is_escape b refl h, tt))

-- no line ends in the body of a string
pieces_no_ends : (quote : ℕ) (ps : List Piece) → AllByRecursion (IsPiece quote) ps → NoEnds (flat_map piece_text ps)
pieces_no_ends quote [] h = tt
pieces_no_ends quote (p ∷ ps) h = no_ends_both (piece_text p) (flat_map piece_text ps) (piece_no_ends quote p h.0) (pieces_no_ends quote ps h.1)

-- no line ends in a mark
mark_passes : (m : Mark) → list_all (λ b. not (b == newline)) (text_of m) ≡ true
mark_passes OpenParen = refl
mark_passes _ = refl

-- no line ends in what spells a token
spelled_no_ends : (bs : List ℕ) (t : Token) → Spells bs t → NoEnds bs
spelled_no_ends bs (name w) h = subst NoEnds (sym h.0) (word_no_ends w h.1)
spelled_no_ends bs (number n) h = numeral_no_ends bs h.0
spelled_no_ends bs (string s) h =
    let quoted : h.0 ≢ newline = passes_no_end is_quote h.0 refl h.2 in
    subst NoEnds (sym h.4) (quoted, no_ends_both (flat_map piece_text h.1) (h.0 ∷ []) (pieces_no_ends h.0 h.1 h.3) (quoted, tt))
spelled_no_ends bs (word k) h = word_no_ends bs (word_like k bs h)
spelled_no_ends bs (mark m) h = subst NoEnds (sym h) (pass_no_ends (λ b. not (b == newline)) (text_of m) refl (mark_passes m))

-- no line ends in a token
pub token_no_ends : (text : List ℕ) (n : ℕ) (t : Token) → IsLongest text n t → line_ends (take n text) ≡ 0
token_no_ends text n t l = count_none (take n text) (spelled_no_ends (take n text) t l.0.1)

-- no line ends in a comment
pub comment_no_ends : (text : List ℕ) (n : ℕ) → IsComment text n → line_ends (take n text) ≡ 0
comment_no_ends text n c =
    let long : length (35 ∷ c.0) ≡ n = omega (arith, c.5) in
    let front : take n text ≡ 35 ∷ c.0 = ap (take n) c.2 ∙ take_at (35 ∷ c.0) c.1 n long in
    ap line_ends front ∙ count_none (35 ∷ c.0) (passes_no_end (λ b. not (b == newline)) 35 refl refl, c.3)
