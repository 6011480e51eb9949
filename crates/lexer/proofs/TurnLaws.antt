-- What one token makes of a layout: the definition by steps and the relations say the same.
use Rattle.std.proofs.Common.{ℕ, ◌≡◌, ◌≢◌, true, false, not, ◌&&◌, ◌==◌, List, [], ◌∷◌, refl, sym, ap, subst, ◌∙◌, Option, Result, Ok, Err, arith}
use Rattle.std.proofs.lemmas.Bool.Decides.{nat_tests}
use Rattle.lexer.specs.declared.token.Mark.{Mark}
use Rattle.lexer.specs.declared.layout.Bracket.{Bracket}
use Rattle.lexer.specs.declared.layout.Open.{Open}
use Rattle.lexer.specs.declared.layout.Layout.{Layout}
use Rattle.lexer.specs.Layout.{◌>>=◌, nothing_open, starts, begun, columns_at, after_token, is_colon, turn}
use Rattle.lexer.specs.LaidOut.{BracketsBehind, BlocksBehind}
use Rattle.lexer.proofs.BracketLaws.{kinds, brackets_are, brackets_as}
use Rattle.lexer.proofs.BlockLaws.{blocks_are, blocks_as}

-- a step that found no fault, and what followed it
pub stepped : {A B : Type 0} (r : Result A ℕ) (f : A → Result B ℕ) (y : B) → (r >>= f) ≡ Ok y
    → (x : A) × (r ≡ Ok x) × (f x ≡ Ok y)
stepped (Ok x) f y e = (x, refl, e)
stepped (Err line) f y e = absurd cc

-- a token begins a logical line only where no bracket is open and it stands on another line of the file
pub starts_off : (s : Layout) (line : ℕ) → starts s line ≡ true → (kinds s.unclosed ≡ []) × (line ≢ s.last)
starts_off s line e = off s.unclosed line s.last e
  where
    off : (unclosed : List Open) (line last : ℕ) → (nothing_open unclosed && not (line == last)) ≡ true
        → (kinds unclosed ≡ []) × (line ≢ last)
    off [] line last e = (refl, grind (arith, nat_tests))
    off (o ∷ unclosed) line last e = absurd cc

-- a token that begins no logical line, where no bracket is open, stands on the line of the token before
pub goes_on_line : (s : Layout) (line : ℕ) → starts s line ≡ false → kinds s.unclosed ≡ [] → line ≡ s.last
goes_on_line s line e k = same s.unclosed line s.last e k
  where
    same : (unclosed : List Open) (line last : ℕ) → (nothing_open unclosed && not (line == last)) ≡ false
        → kinds unclosed ≡ [] → line ≡ last
    same [] line last e k = grind (arith, nat_tests)
    same (o ∷ unclosed) line last e k = absurd cc

-- where no bracket is open a token on another line of the file begins a logical line
pub starts_there : (s : Layout) (line : ℕ) → kinds s.unclosed ≡ [] → line ≢ s.last → starts s line ≡ true
starts_there s line k n = there s.unclosed line s.last k n
  where
    there : (unclosed : List Open) (line last : ℕ) → kinds unclosed ≡ [] → line ≢ last
        → (nothing_open unclosed && not (line == last)) ≡ true
    there [] line last k n = grind (arith, nat_tests)
    there (o ∷ unclosed) line last k n = absurd cc

-- a token that stands on the line of the one before, unless a bracket is open, begins no logical line
pub starts_not : (s : Layout) (line : ℕ) → (kinds s.unclosed ≡ [] → line ≡ s.last) → starts s line ≡ false
starts_not s line h = there s.unclosed line s.last h
  where
    there : (unclosed : List Open) (line last : ℕ) → (kinds unclosed ≡ [] → line ≡ last)
        → (nothing_open unclosed && not (line == last)) ≡ false
    there [] line last h = let e : line ≡ last = h refl in grind (arith, nat_tests)
    there (o ∷ unclosed) line last h = refl

-- how a layout stands behind a token
pub record Behind (m : Option Mark) (line : ℕ) (brackets : List Bracket) (blocks : List ℕ) (after : Layout) : Type 0 where
  pub brackets_kept : kinds after.unclosed ≡ brackets
  pub blocks_kept : after.columns ≡ blocks
  pub colon : after.head ≡ is_colon m
  pub on_line : after.last ≡ line

-- what follows once a token's logical line has begun
abbrev taken : Option Mark → ℕ → Layout → Result Layout ℕ
taken m line u =
    after_token u.unclosed m line >>= λ unclosed.
    Ok (record { unclosed = unclosed; columns = u.columns; head = is_colon m; first = u.first; last = line })

-- a token that is taken changes the brackets as the relation says, and leaves the blocks as they are
taken_is : (u after : Layout) (m : Option Mark) (line : ℕ) → taken m line u ≡ Ok after
    → BracketsBehind m (kinds u.unclosed) (kinds after.unclosed) × Behind m line (kinds after.unclosed) u.columns after
taken_is u after m line e =
    let b = stepped (after_token u.unclosed m line) _ after e in
    let made : record { unclosed = b.0; columns = u.columns; head = is_colon m; first = u.first; last = line } ≡ after = cc in
    subst
    (λ (l : Layout). BracketsBehind m (kinds u.unclosed) (kinds l.unclosed) × Behind m line (kinds l.unclosed) u.columns l)
    made (
      brackets_are m u.unclosed b.0 line b.1,
      record { brackets_kept = refl; blocks_kept = refl; colon = refl; on_line = refl },
    )

-- a token in the middle of a logical line begins none
begun_middle : (s : Layout) (line column : ℕ) → starts s line ≡ false → begun s line column ≡ Ok s
begun_middle s line column n = rw n refl

-- a token that begins a logical line finds its block first
abbrev line_begun : Layout → ℕ → ℕ → Result Layout ℕ
line_begun s line column = columns_at s line column >>= λ columns. Ok (record s { columns = columns; first = line })

-- a token that begins a logical line has found its block
begun_first : (s : Layout) (line column : ℕ) → starts s line ≡ true → begun s line column ≡ line_begun s line column
begun_first s line column n = rw n refl

-- a line that has begun stands in the blocks of the relation, and with the brackets of before
line_begun_is : (s u : Layout) (line column : ℕ) → line_begun s line column ≡ Ok u
    → (u.unclosed ≡ s.unclosed) × BlocksBehind s.head column s.columns u.columns
line_begun_is s u line column e =
    let c = stepped (columns_at s line column) _ u e in
    let made : record s { columns = c.0; first = line } ≡ u = cc in
    subst
    (λ (l : Layout). (l.unclosed ≡ s.unclosed) × BlocksBehind s.head column s.columns l.columns)
    made
    (refl, blocks_are s line column c.0 c.1)

-- a token in the middle of a logical line leaves the blocks as they are
pub middle_is : (s after : Layout) (m : Option Mark) (line column : ℕ) → starts s line ≡ false
    → turn s m line column ≡ Ok after
    → BracketsBehind m (kinds s.unclosed) (kinds after.unclosed) × Behind m line (kinds after.unclosed) s.columns after
unfolding turn
middle_is s after m line column n e =
    taken_is s after m line (sym (ap (λ r. r >>= taken m line) (begun_middle s line column n)) ∙ e)

-- a token that begins a logical line makes of the blocks what the relation says
pub first_is : (s after : Layout) (m : Option Mark) (line column : ℕ) → starts s line ≡ true
    → turn s m line column ≡ Ok after
    → BracketsBehind m (kinds s.unclosed) (kinds after.unclosed)
    × ((blocks : List ℕ) × BlocksBehind s.head column s.columns blocks × Behind m line (kinds after.unclosed) blocks after)
unfolding turn
first_is s after m line column n e =
    let same = sym (ap (λ r. r >>= taken m line) (begun_first s line column n)) in
    let a = stepped (line_begun s line column) (taken m line) after (same ∙ e) in
    let b = line_begun_is s a.0 line column a.1 in
    let t = taken_is a.0 after m line a.2 in (
      subst (λ (unclosed : List Open). BracketsBehind m (kinds unclosed) (kinds after.unclosed)) b.0 t.0,
      (a.0.columns, b.1, t.1),
    )

-- what a token in the middle of a logical line comes to
pub middle_as : (s : Layout) (m : Option Mark) (line column : ℕ) (brackets : List Bracket) → starts s line ≡ false
    → BracketsBehind m (kinds s.unclosed) brackets
    → (after : Layout) × (turn s m line column ≡ Ok after) × Behind m line brackets s.columns after
unfolding turn
middle_as s m line column brackets n h =
    let b = brackets_as m s.unclosed line brackets h in (
      record { unclosed = b.0; columns = s.columns; head = is_colon m; first = s.first; last = line },
      rw (n, b.1) refl,
      record { brackets_kept = b.2; blocks_kept = refl; colon = refl; on_line = refl },
    )

-- what a token that begins a logical line comes to
pub first_as : (s : Layout) (m : Option Mark) (line column : ℕ) (brackets : List Bracket) (blocks : List ℕ)
    → starts s line ≡ true
    → BracketsBehind m (kinds s.unclosed) brackets → BlocksBehind s.head column s.columns blocks
    → (after : Layout) × (turn s m line column ≡ Ok after) × Behind m line brackets blocks after
unfolding turn
first_as s m line column brackets blocks n h k =
    let b = brackets_as m s.unclosed line brackets h in
    let c : columns_at s line column ≡ Ok blocks = blocks_as s.head s line column blocks refl k in (
      record { unclosed = b.0; columns = blocks; head = is_colon m; first = line; last = line },
      rw (n, c, b.1) refl,
      record { brackets_kept = b.2; blocks_kept = refl; colon = refl; on_line = refl },
    )
