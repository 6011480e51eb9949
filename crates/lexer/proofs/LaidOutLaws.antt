-- The layout that is found token by token is the one that the relation has, and the other way round.
use Rattle.std.proofs.Common.{ℕ, ◌≡◌, ◌≢◌, Bool, true, false, List, [], ◌∷◌, refl, Ok}
use Rattle.std.specs.List.{AllByRecursion}
use Rattle.lexer.specs.declared.layout.Bracket.{Bracket}
use Rattle.lexer.specs.declared.layout.Layout.{Layout}
use Rattle.lexer.specs.Tokens.{Placed}
use Rattle.lexer.specs.Layout.{is_colon, mark_of, starts, turn}
use Rattle.lexer.specs.LaidOut.{BracketsBehind, GoesOn, IsLogicalLine, BeginsOff, OnOwnLines, BlocksBehind, InBlocks, last_line, ends_with_colon}
use Rattle.lexer.proofs.BracketLaws.{kinds}
use Rattle.lexer.proofs.TurnLaws.{Behind, starts_there, starts_not, middle_as, first_as}

-- what is left of a layout: the end of the logical line, and whole lines behind it, where these brackets and blocks are
-- open, and the token before stands on line `last` and is a `:` or not
pub record Rest (brackets : List Bracket) (last : ℕ) (blocks : List ℕ) (colon : Bool) (front : List Placed)
    (lines : List (List Placed)) : Type 0 where
  pub goes_on : GoesOn brackets last front
  pub logical : AllByRecursion IsLogicalLine lines
  pub behind : BeginsOff (last_line last front) lines
  pub apart : OnOwnLines lines
  pub nested : InBlocks blocks (ends_with_colon colon front) lines

-- a token more at the end of the logical line
pub rest_middle : (t : Placed) (front : List Placed) (lines : List (List Placed)) (before after : List Bracket)
    (last : ℕ) (blocks : List ℕ) (colon : Bool)
    → (before ≡ [] → t.line ≡ last) → BracketsBehind (mark_of t.token) before after
    → Rest after t.line blocks (is_colon (mark_of t.token)) front lines → Rest before last blocks colon (t ∷ front) lines
rest_middle t front lines before after last blocks colon h b r = record {
  goes_on = (h, (after, b, r.goes_on));
  logical = r.logical;
  behind = r.behind;
  apart = r.apart;
  nested = r.nested;
}

-- a token that begins a logical line
pub rest_first : (t : Placed) (front : List Placed) (lines : List (List Placed)) (after : List Bracket)
    (last : ℕ) (blocks kept : List ℕ) (colon : Bool)
    → t.line ≢ last → BracketsBehind (mark_of t.token) [] after → BlocksBehind colon t.column blocks kept
    → Rest after t.line kept (is_colon (mark_of t.token)) front lines → Rest [] last blocks colon [] ((t ∷ front) ∷ lines)
rest_first t front lines after last blocks kept colon n b k r = record {
  goes_on = refl;
  logical = ((λ e. refl, (after, b, r.goes_on)), r.logical);
  behind = n;
  apart = (r.behind, r.apart);
  nested = (kept, k, r.nested);
}

-- what is left behind a token, as the layout there has it
pub rest_behind : (t : Placed) (front : List Placed) (lines : List (List Placed)) (brackets : List Bracket) (blocks : List ℕ) (after : Layout)
    → Behind (mark_of t.token) t.line brackets blocks after
    → Rest (kinds after.unclosed) after.last after.columns after.head front lines
    → Rest brackets t.line blocks (is_colon (mark_of t.token)) front lines
rest_behind t front lines brackets blocks after b r = rw (b.brackets_kept, b.blocks_kept, b.colon, b.on_line) at r

-- the same the other way round
rest_ahead : (t : Placed) (front : List Placed) (lines : List (List Placed)) (brackets : List Bracket) (blocks : List ℕ) (after : Layout)
    → Behind (mark_of t.token) t.line brackets blocks after
    → Rest brackets t.line blocks (is_colon (mark_of t.token)) front lines
    → Rest (kinds after.unclosed) after.last after.columns after.head front lines
rest_ahead t front lines brackets blocks after b r = rw (b.brackets_kept, b.blocks_kept, b.colon, b.on_line) r

-- what is left behind a token in the middle of a logical line
pub middle_left : (s : Layout) (t : Placed) (front : List Placed) (lines : List (List Placed))
    → Rest (kinds s.unclosed) s.last s.columns s.head (t ∷ front) lines
    → (after : Layout) × (turn s (mark_of t.token) t.line t.column ≡ Ok after) × (starts s t.line ≡ false)
    × Rest (kinds after.unclosed) after.last after.columns after.head front lines
middle_left s t front lines r =
    let n = starts_not s t.line r.goes_on.0 in
    let a = middle_as s (mark_of t.token) t.line t.column r.goes_on.1.0 n r.goes_on.1.1 in (
      a.0,
      a.1,
      n,
      rest_ahead t front lines r.goes_on.1.0 s.columns a.0 a.2 (record {
        goes_on = r.goes_on.1.2;
        logical = r.logical;
        behind = r.behind;
        apart = r.apart;
        nested = r.nested;
      }),
    )

-- what is left behind a token that begins a logical line
pub first_left : (s : Layout) (t : Placed) (front : List Placed) (lines : List (List Placed))
    → Rest (kinds s.unclosed) s.last s.columns s.head [] ((t ∷ front) ∷ lines)
    → (after : Layout) × (turn s (mark_of t.token) t.line t.column ≡ Ok after) × (starts s t.line ≡ true)
    × Rest (kinds after.unclosed) after.last after.columns after.head front lines
first_left s t front lines r =
    let n = starts_there s t.line r.goes_on r.behind in
    let brackets : List Bracket = r.logical.0.1.0 in
    let b : BracketsBehind (mark_of t.token) (kinds s.unclosed) brackets = rw r.goes_on r.logical.0.1.1 in
    let a = first_as s (mark_of t.token) t.line t.column brackets r.nested.0 n b r.nested.1 in (
      a.0,
      a.1,
      n,
      rest_ahead t front lines brackets r.nested.0 a.0 a.2 (record {
        goes_on = r.logical.0.1.2;
        logical = r.logical.1;
        behind = r.apart.0;
        apart = r.apart.1;
        nested = r.nested.2;
      }),
    )
