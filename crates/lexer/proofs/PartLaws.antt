-- The tokens that are found byte by byte are those of the parts that a text consists of, and the other way round.
use Rattle.std.proofs.Common.{ℕ, ◌≡◌, ◌≢◌, ◌+◌, Bool, true, false, not, ◌⊎◌, inl, inr, ◌==◌, List, [], ◌∷◌, ◌++◌, length, take, drop, refl, sym, ap, subst, Option, Some, None, arith, if◌then◌else◌}
use Rattle.std.specs.List.{AllByRecursion, list_all}
use Rattle.std.proofs.lemmas.Bool.Decides.{nat_tests}
use Rattle.std.proofs.lemmas.List.{take-append-drop, length-take-le}
use Rattle.lexer.specs.Characters.{newline}
use Rattle.lexer.specs.declared.token.Mark.{Mark}
use Rattle.lexer.specs.Tokens.{Token, mark}
use Rattle.lexer.specs.Marks.{punctuation, operator}
use Rattle.lexer.specs.Strings.{is_quote}
use Rattle.lexer.specs.Begins.{Begins, space, line_end, comment, token, nothing, is_digit, is_letter, run_length, string_of, string_at, name_at, number_token, number_at, mark_at, pair_at, begins}
use Rattle.lexer.specs.Fits.{Fits, AtLineEnd, IsComment}
use Rattle.lexer.proofs.RunLaws.{either, passes_next, run_passes, run_exact, run_within, run_stops}
use Rattle.lexer.proofs.FitsLaws.{begins_longest}

-- a token is no space, end of line or comment
abbrev IsTokenOrNone : Begins → Type 0
IsTokenOrNone (token t n) = Unit {0}
IsTokenOrNone nothing = Unit {0}
IsTokenOrNone _ = ⊥

-- where a quote stands a string begins or nothing
string_alone : (bs : List ℕ) (o : Option ℕ) → IsTokenOrNone (string_of bs o)
string_alone bs None = tt
string_alone bs (Some n) = tt

-- where a digit stands a number begins or nothing
number_alone : (more : ℕ) (o : Option ℕ) → IsTokenOrNone (number_token more o)
number_alone more None = tt
number_alone more (Some n) = tt

-- where another byte stands a mark begins or nothing
mark_alone : (two one other : Option Mark) → IsTokenOrNone (elim two as (λ _. Begins) [
  | Some m ↦ token (mark m) 1
  | None ↦ elim one as (λ _. Begins) [
    | Some m ↦ token (mark m) 0
    | None ↦ elim other as (λ _. Begins) [ Some m ↦ token (mark m) 0 | None ↦ nothing ]
  ]
])
mark_alone (Some m) one other = tt
mark_alone None (Some m) other = tt
mark_alone None None (Some m) = tt
mark_alone None None None = tt

-- what begins, by tests in order
by_tests : (a b c d e f : Bool) (n : ℕ) (quoted numeral named marked at : Begins)
    → IsTokenOrNone quoted → IsTokenOrNone numeral → IsTokenOrNone named → IsTokenOrNone marked
    → (if a then space else if b then line_end else if c then comment n
    else if d then quoted else if e then numeral else if f then named else marked) ≡ at
    → ((at ≡ space) × (a ≡ true)) ⊎ ((at ≡ line_end) × (b ≡ true)) ⊎ ((at ≡ comment n) × (c ≡ true)) ⊎ IsTokenOrNone at
by_tests true b c d e f n q u m r at i j k l h = inl (sym h, refl)
by_tests false true c d e f n q u m r at i j k l h = inr (inl (sym h, refl))
by_tests false false true d e f n q u m r at i j k l h = inr (inr (inl (sym h, refl)))
by_tests false false false true e f n q u m r at i j k l h = inr (inr (inr (subst IsTokenOrNone h i)))
by_tests false false false false true f n q u m r at i j k l h = inr (inr (inr (subst IsTokenOrNone h j)))
by_tests false false false false false true n q u m r at i j k l h = inr (inr (inr (subst IsTokenOrNone h k)))
by_tests false false false false false false n q u m r at i j k l h = inr (inr (inr (subst IsTokenOrNone h l)))

-- a space, an end of line and a comment begin at their own byte alone
begins_other : (b : ℕ) (bs : List ℕ) (at : Begins) → begins b bs ≡ at
    → ((at ≡ space) × ((b == 32) ≡ true)) ⊎ ((at ≡ line_end) × ((b == newline) ≡ true))
    ⊎ ((at ≡ comment (run_length (λ c. not (c == newline)) bs)) × ((b == 35) ≡ true)) ⊎ IsTokenOrNone at
unfolding begins
begins_other b bs at e =
    by_tests (b == 32) (b == newline) (b == 35) (is_quote b) (is_digit b) (is_letter b) (run_length (λ c. not (c == newline)) bs)
    (string_at b bs) (number_at b bs) (name_at b bs) (mark_at b bs) at
    (string_alone bs _) (number_alone _ _) tt (mark_alone (pair_at b bs) (punctuation b) (operator b)) e

-- a space begins at a space alone
pub space_is : (b : ℕ) (bs : List ℕ) → begins b bs ≡ space → b ≡ 32
space_is b bs e = elim (begins_other b bs space e) [
  | inl s ↦ let test : (b == 32) ≡ true = s.1 in grind (arith, nat_tests)
  | inr o ↦ elim o [
    | inl s ↦ let no = s.0 in absurd cc
    | inr p ↦ elim p [ inl s ↦ let no = s.0 in absurd cc | inr s ↦ absurd s ]
  ]
]

-- a line ends at a newline alone
pub line_end_is : (b : ℕ) (bs : List ℕ) → begins b bs ≡ line_end → b ≡ newline
line_end_is b bs e = elim (begins_other b bs line_end e) [
  | inl s ↦ let no = s.0 in absurd cc
  | inr o ↦ elim o [
    | inl s ↦ let test : (b == newline) ≡ true = s.1 in grind (arith, nat_tests)
    | inr p ↦ elim p [ inl s ↦ let no = s.0 in absurd cc | inr s ↦ absurd s ]
  ]
]

-- a comment begins at a `#` alone, and takes what is no newline
comment_runs : (b n : ℕ) (bs : List ℕ) → begins b bs ≡ comment n → (b ≡ 35) × (n ≡ run_length (λ c. not (c == newline)) bs)
comment_runs b n bs e = elim (begins_other b bs (comment n) e) [
  | inl s ↦ let no = s.0 in absurd cc
  | inr o ↦ elim o [
    | inl s ↦ let no = s.0 in absurd cc
    | inr p ↦ elim p [
      | inl s ↦
          let test : (b == 35) ≡ true = s.1 in
          let same = s.0 in
          (grind (arith, nat_tests), cc)
      | inr s ↦ absurd s
    ]
  ]
]

-- bytes that pass the test of a comment are no newlines
none_ends : (bs : List ℕ) → list_all (λ c. not (c == newline)) bs ≡ true → AllByRecursion (λ b. b ≢ newline) bs
none_ends [] h = tt
none_ends (b ∷ bs) h = elim (either (b == newline)) [
  | inl t ↦ let no : false ≡ true = rw t at h in absurd cc
  | inr f ↦ (unlike b f, none_ends bs (rw f at h))
]
  where
    unlike : (b : ℕ) → (b == newline) ≡ false → b ≢ newline
    unlike b test = grind (arith, nat_tests)

-- no newlines pass the test of a comment
ends_none : (bs : List ℕ) → AllByRecursion (λ b. b ≢ newline) bs → list_all (λ c. not (c == newline)) bs ≡ true
ends_none [] h = refl
ends_none (b ∷ bs) h =
    let other : b ≢ newline = h.0 in
    let test : (b == newline) ≡ false = grind (arith, nat_tests) in
    rw test (ends_none bs h.1)

-- what doesn't go on a comment is at the end of a line
at_end_is : (bs : List ℕ) → passes_next (λ c. not (c == newline)) bs ≡ false → AtLineEnd bs
at_end_is [] h = tt
at_end_is (b ∷ bs) h = grind (arith, nat_tests)

-- what is at the end of a line doesn't go on a comment
at_end_as : (bs : List ℕ) → AtLineEnd bs → passes_next (λ c. not (c == newline)) bs ≡ false
at_end_as [] h = refl
at_end_as (b ∷ bs) h = grind (arith, nat_tests)

-- a comment that begins is one
pub comment_is : (b n : ℕ) (bs : List ℕ) → begins b bs ≡ comment n → IsComment (b ∷ bs) (n + 1)
comment_is b n bs e =
    let r = comment_runs b n bs e in
    let run = run_length (λ c. not (c == newline)) bs in
    let long : length (take run bs) ≡ run = length-take-le run bs (run_within (λ c. not (c == newline)) bs) in
    let shown : IsComment (b ∷ bs) (run + 1) = (
      take run bs,
      drop run bs,
      rw (r.0, take-append-drop run bs) refl,
      none_ends (take run bs) (run_passes (λ c. not (c == newline)) bs),
      at_end_is (drop run bs) (run_stops (λ c. not (c == newline)) bs),
      ap (λ m. m + 1) (sym long),
    ) in
    subst (λ (m : ℕ). IsComment (b ∷ bs) (m + 1)) (sym r.1) shown

-- where a comment stands it begins
pub comment_begins : (body further : List ℕ) → AllByRecursion (λ b. b ≢ newline) body → AtLineEnd further
    → begins 35 (body ++ further) ≡ comment (length body)
unfolding begins
comment_begins body further h e =
    ap comment (run_exact (λ c. not (c == newline)) body further (ends_none body h) (at_end_as further e))

-- where no token fits, and no space, end of line or comment stands, nothing begins
pub nothing_begins : (b : ℕ) (bs : List ℕ) → b ≢ 32 → b ≢ newline → b ≢ 35 → ((n : ℕ) (t : Token) → ¬ Fits (b ∷ bs) n t)
    → begins b bs ≡ nothing
nothing_begins b bs x y z none = by_what (begins b bs) refl
  where
    by_what : (at : Begins) → begins b bs ≡ at → at ≡ nothing
    by_what space e = absurd (x (space_is b bs e))
    by_what line_end e = absurd (y (line_end_is b bs e))
    by_what (comment n) e = absurd (z (comment_runs b n bs e).0)
    by_what (token t n) e = absurd (none (n + 1) t (begins_longest b bs t n e).0)
    by_what nothing e = refl
