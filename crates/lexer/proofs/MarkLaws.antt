-- The marks that begin are as the relation has them.
use Rattle.std.proofs.Common.{ℕ, ◌≡◌, Bool, true, false, ◌&&◌, ◌⊎◌, inl, inr, ◌==◌, List, [], ◌∷◌, ◌++◌, length, refl, sym, subst, ◌∙◌, Option, Some, None, arith, if◌then◌else◌}
use Rattle.std.specs.List.{AllByRecursion}
use Rattle.std.proofs.lemmas.Bool.Decides.{nat_tests}
use Rattle.lexer.specs.declared.token.Mark.{Mark}
use Rattle.lexer.specs.declared.token.Mark.TheVariants.{OpenParen, CloseParen, OpenBracket, CloseBracket, OpenBrace, CloseBrace, Comma, Colon, Dot, Assign, AddAssign, Equal, NotEqual, Less, Greater, LessEqual, GreaterEqual, Plus, Minus, Star, FloorDivide, Percent}
use Rattle.lexer.specs.Tokens.{Token, mark}
use Rattle.lexer.specs.Marks.{pair_mark, punctuation, operator}
use Rattle.lexer.specs.Begins.{Begins, token, nothing, pair_at, mark_at, begins}
use Rattle.lexer.specs.Fits.{text_of}
use Rattle.lexer.proofs.BeginLaws.{IsToken, BeginsAsLong}

-- a mark with the first byte of it and, where it has two, the second
record Entry : Type 0 where
  first : ℕ
  second : ℕ
  kind : Mark

-- the mark of the first entry that begins with a byte
abbrev look_up : List Entry → ℕ → Option Mark
look_up [] b = None
look_up (e ∷ es) b = if b == e.first then Some e.kind else look_up es b

-- the mark of the first entry that is these two bytes
abbrev look_up_pair : List Entry → ℕ → ℕ → Option Mark
look_up_pair [] b c = None
look_up_pair (e ∷ es) b c = if b == e.first && c == e.second then Some e.kind else look_up_pair es b c

-- two bytes that pass a test are those
both : (b c x y : ℕ) → (b == x && c == y) ≡ true → (b ≡ x) × (c ≡ y)
both b c x y e = (grind (arith, nat_tests), grind (arith, nat_tests))

-- a mark of one byte that is looked up is written so
looked_up : (es : List Entry) (b : ℕ) (m : Mark) → AllByRecursion (λ e. text_of e.kind ≡ e.first ∷ []) es
    → look_up es b ≡ Some m → text_of m ≡ b ∷ []
looked_up [] b m h e = absurd cc
looked_up (x ∷ es) b m h e =
    step (b == x.first) (λ t. let test : (b == x.first) ≡ true = t in grind (arith, nat_tests)) (looked_up es b m h.1) e
  where
    step : (t : Bool) → (t ≡ true → b ≡ x.first) → (look_up es b ≡ Some m → text_of m ≡ b ∷ [])
        → (if t then Some x.kind else look_up es b) ≡ Some m → text_of m ≡ b ∷ []
    step true same further e =
        let j : x.kind ≡ m = cc in
        let s : b ≡ x.first = same refl in
        rw (← j, s) h.0
    step false same further e = further e

-- a mark of two bytes too
looked_up_pair : (es : List Entry) (b c : ℕ) (m : Mark) → AllByRecursion (λ e. text_of e.kind ≡ e.first ∷ e.second ∷ []) es
    → look_up_pair es b c ≡ Some m → text_of m ≡ b ∷ c ∷ []
looked_up_pair [] b c m h e = absurd cc
looked_up_pair (x ∷ es) b c m h e = step (b == x.first && c == x.second) (both b c x.first x.second) (looked_up_pair es b c m h.1) e
  where
    step : (t : Bool) → (t ≡ true → (b ≡ x.first) × (c ≡ x.second)) → (look_up_pair es b c ≡ Some m → text_of m ≡ b ∷ c ∷ [])
        → (if t then Some x.kind else look_up_pair es b c) ≡ Some m → text_of m ≡ b ∷ c ∷ []
    step true same further e =
        let j : x.kind ≡ m = cc in
        let s = same refl in
        rw (← j, s.0, s.1) h.0
    step false same further e = further e

-- a mark of one byte
abbrev single : ℕ → Mark → Entry
single b m = record { first = b; second = 0; kind = m }

-- a mark of two bytes
abbrev pair : ℕ → ℕ → Mark → Entry
pair b c m = record { first = b; second = c; kind = m }

-- the marks of two bytes are written as they are read
pair_is : (b c : ℕ) (m : Mark) → pair_mark b c ≡ Some m → text_of m ≡ b ∷ c ∷ []
pair_is b c m e =
    let table : List Entry =
    pair 43 61 AddAssign ∷ pair 61 61 Equal ∷ pair 33 61 NotEqual ∷ pair 60 61 LessEqual
    ∷ pair 62 61 GreaterEqual ∷ pair 47 47 FloorDivide ∷ [] in
    looked_up_pair table b c m (refl, (refl, (refl, (refl, (refl, (refl, tt)))))) e

-- the marks that enclose or separate too
punctuation_is : (b : ℕ) (m : Mark) → punctuation b ≡ Some m → text_of m ≡ b ∷ []
punctuation_is b m e =
    let table : List Entry =
    single 40 OpenParen ∷ single 41 CloseParen ∷ single 91 OpenBracket ∷ single 93 CloseBracket ∷ single 123 OpenBrace
    ∷ single 125 CloseBrace
    ∷ single 44 Comma ∷ single 58 Colon ∷ single 46 Dot ∷ [] in
    looked_up table b m (refl, (refl, (refl, (refl, (refl, (refl, (refl, (refl, (refl, tt))))))))) e

-- the other marks of one byte too
operator_is : (b : ℕ) (m : Mark) → operator b ≡ Some m → text_of m ≡ b ∷ []
operator_is b m e =
    let table : List Entry =
    single 61 Assign ∷ single 60 Less ∷ single 62 Greater ∷ single 43 Plus
    ∷ single 45 Minus ∷ single 42 Star ∷ single 37 Percent ∷ [] in
    looked_up table b m (refl, (refl, (refl, (refl, (refl, (refl, (refl, tt))))))) e

-- a mark that is read is of two bytes, or of one
by_marks : (two one other : Option Mark) (t : Token) (k : ℕ)
    → (elim two as (λ _. Begins) [
      | Some m ↦ token (mark m) 1
      | None ↦ elim one as (λ _. Begins) [
        | Some m ↦ token (mark m) 0
        | None ↦ elim other as (λ _. Begins) [ Some m ↦ token (mark m) 0 | None ↦ nothing ]
      ]
    ]) ≡ token t k
    → (m : Mark) × (mark m ≡ t) × (((two ≡ Some m) × (1 ≡ k)) ⊎ (((one ≡ Some m) ⊎ (other ≡ Some m)) × (0 ≡ k)))
by_marks (Some m) one other t k e = (m, cc, inl (refl, cc))
by_marks None (Some m) other t k e = (m, cc, inr (inl refl, cc))
by_marks None None (Some m) t k e = (m, cc, inr (inr refl, cc))
by_marks None None None t k e = absurd cc

-- a mark of two bytes that begins is one
pair_token : (b : ℕ) (bs : List ℕ) (m : Mark) → pair_at b bs ≡ Some m → IsToken b bs (mark m) 1
pair_token b [] m e = absurd cc
pair_token b (c ∷ bs) m e = (omega arith, sym (pair_is b c m e), tt)

-- a mark that begins is one
pub mark_is : (b : ℕ) (bs : List ℕ) (t : Token) (k : ℕ) → mark_at b bs ≡ token t k → IsToken b bs t k
mark_is b bs t k e =
    let r = by_marks (pair_at b bs) (punctuation b) (operator b) t k e in
    let shown : IsToken b bs (mark r.0) k = elim r.2 [
      | inl two ↦ subst (λ (n : ℕ). IsToken b bs (mark r.0) n) two.1 (pair_token b bs r.0 two.0)
      | inr one ↦ subst (λ (n : ℕ). IsToken b bs (mark r.0) n) one.1 (elim one.0 [
        | inl p ↦ (omega arith, sym (punctuation_is b r.0 p), tt)
        | inr o ↦ (omega arith, sym (operator_is b r.0 o), tt)
      ])
    ] in
    subst (λ (u : Token). IsToken b bs u k) r.1 shown

-- where one byte is a mark, that one or a longer one begins
single_as_long : (b : ℕ) (m : Mark) (further : List ℕ) → begins b further ≡ mark_at b further
    → (punctuation b ≡ Some m) ⊎ ((punctuation b ≡ None) × (operator b ≡ Some m)) → BeginsAsLong b further 0 (mark m)
single_as_long b m further h one = by_pair (pair_at b further) refl
  where
    by_pair : (two : Option Mark) → pair_at b further ≡ two → BeginsAsLong b further 0 (mark m)
    by_pair (Some other) e = (mark other, 1, h ∙ rw (e, mark_at) refl, omega arith, λ z. absurd (omega arith))
    by_pair None e = elim one [
      | inl p ↦ (mark m, 0, h ∙ rw (e, p, mark_at) refl, omega arith, λ z. refl)
      | inr o ↦ (mark m, 0, h ∙ rw (e, o.0, o.1, mark_at) refl, omega arith, λ z. refl)
    ]

-- what is written as a mark begins it or a longer one
abbrev pub MarkBegins : List ℕ → List ℕ → Mark → Type 0
MarkBegins [] further m = ⊥
MarkBegins (b ∷ front) further m = BeginsAsLong b (front ++ further) (length front) (mark m)

-- every mark, as it is written, begins itself or a longer one
pub mark_begins : (m : Mark) (further : List ℕ) → MarkBegins (text_of m) further m
unfolding begins
mark_begins OpenParen further = single_as_long 40 OpenParen further refl (inl refl)
mark_begins CloseParen further = single_as_long 41 CloseParen further refl (inl refl)
mark_begins OpenBracket further = single_as_long 91 OpenBracket further refl (inl refl)
mark_begins CloseBracket further = single_as_long 93 CloseBracket further refl (inl refl)
mark_begins OpenBrace further = single_as_long 123 OpenBrace further refl (inl refl)
mark_begins CloseBrace further = single_as_long 125 CloseBrace further refl (inl refl)
mark_begins Comma further = single_as_long 44 Comma further refl (inl refl)
mark_begins Colon further = single_as_long 58 Colon further refl (inl refl)
mark_begins Dot further = single_as_long 46 Dot further refl (inl refl)
mark_begins Assign further = single_as_long 61 Assign further refl (inr (refl, refl))
mark_begins Less further = single_as_long 60 Less further refl (inr (refl, refl))
mark_begins Greater further = single_as_long 62 Greater further refl (inr (refl, refl))
mark_begins Plus further = single_as_long 43 Plus further refl (inr (refl, refl))
mark_begins Minus further = single_as_long 45 Minus further refl (inr (refl, refl))
mark_begins Star further = single_as_long 42 Star further refl (inr (refl, refl))
mark_begins Percent further = single_as_long 37 Percent further refl (inr (refl, refl))
mark_begins AddAssign further = (mark AddAssign, 1, refl, omega arith, λ z. refl)
mark_begins Equal further = (mark Equal, 1, refl, omega arith, λ z. refl)
mark_begins NotEqual further = (mark NotEqual, 1, refl, omega arith, λ z. refl)
mark_begins LessEqual further = (mark LessEqual, 1, refl, omega arith, λ z. refl)
mark_begins GreaterEqual further = (mark GreaterEqual, 1, refl, omega arith, λ z. refl)
mark_begins FloorDivide further = (mark FloorDivide, 1, refl, omega arith, λ z. refl)

-- bytes that are written as a mark begin it or a longer one
pub mark_as_long : (m : Mark) (b : ℕ) (front further : List ℕ) → b ∷ front ≡ text_of m
    → BeginsAsLong b (front ++ further) (length front) (mark m)
mark_as_long m b front further e = subst (λ (text : List ℕ). MarkBegins text further m) (sym e) (mark_begins m further)
