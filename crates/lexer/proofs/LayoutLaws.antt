-- The places that are found token by token cut the tokens into the lines of the relation, and the other way round.
use Rattle.std.proofs.Common.{ℕ, ◌≡◌, ◌+◌, inl, inr, Bool, true, false, List, [], ◌∷◌, ◌++◌, length, refl, sym, ap, subst, ◌∙◌, Result, Ok, Err, if◌then◌else◌}
use Rattle.std.proofs.lemmas.List.{length_push}
use Rattle.lexer.specs.declared.layout.Open.{Open}
use Rattle.lexer.specs.declared.layout.Layout.{Layout}
use Rattle.lexer.specs.Tokens.{Placed}
use Rattle.lexer.specs.Scan.{preceded}
use Rattle.lexer.specs.Layout.{mark_of, starts, turn, ended, line_starts}
use Rattle.lexer.specs.LaidOut.{joined}
use Rattle.lexer.proofs.LayoutLemmas.{at_end}
use Rattle.lexer.proofs.RunLaws.{either}
use Rattle.lexer.proofs.BracketLaws.{kinds}
use Rattle.lexer.proofs.TurnLaws.{stepped, starts_off, goes_on_line, middle_is, first_is}
use Rattle.lexer.proofs.CutLaws.{Cuts, cut_middle, cut_first}
use Rattle.lexer.proofs.LaidOutLaws.{Rest, rest_middle, rest_first, rest_behind}

-- a reading that goes on behind some items
pub preceded_is : {A : Type 0} (ts us : List A) (r : Result (List A) ℕ) → preceded ts r ≡ Ok us
    → (vs : List A) × (r ≡ Ok vs) × (us ≡ ts ++ vs)
preceded_is ts us (Ok vs) e = (vs, refl, cc)
preceded_is ts us (Err line) e = absurd cc

-- a token that was passed, and the places that were found behind it
token_passed : (place : ℕ) (s : Layout) (t : Placed) (ts : List Placed) (places : List ℕ)
    → line_starts place s (t ∷ ts) ≡ Ok places
    → (after : Layout) × (turn s (mark_of t.token) t.line t.column ≡ Ok after)
    × ((further : List ℕ) × (line_starts (place + 1) after ts ≡ Ok further)
    × (places ≡ (if starts s t.line then place ∷ [] else []) ++ further))
unfolding line_starts
token_passed place s t ts places e =
    let a = stepped (turn s (mark_of t.token) t.line t.column) _ places e in
    (a.0, a.1, preceded_is (if starts s t.line then place ∷ [] else []) places (line_starts (place + 1) a.0 ts) a.2)

-- how a text ends without fault
ended_is : (s : Layout) (places : List ℕ) → ended s ≡ Ok places → (kinds s.unclosed ≡ []) × (s.head ≡ false) × (places ≡ [])
ended_is s places e = closed s.unclosed s.head s.first e
  where
    closed : (unclosed : List Open) (head : Bool) (first : ℕ)
        → (elim unclosed as (λ _. Result (List ℕ) ℕ) [ [] ↦ if head then Err first else Ok [] | o ∷ others ↦ Err o.line ]) ≡ Ok places
        → (kinds unclosed ≡ []) × (head ≡ false) × (places ≡ [])
    closed [] true first e = absurd cc
    closed [] false first e = (refl, refl, cc)
    closed (o ∷ others) head first e = absurd cc

-- where no bracket is open, and the last token is no `:`, a text ends without fault
pub ended_as : (s : Layout) → kinds s.unclosed ≡ [] → s.head ≡ false → ended s ≡ Ok []
ended_as s k h = closed s.unclosed s.head s.first k h
  where
    closed : (unclosed : List Open) (head : Bool) (first : ℕ) → kinds unclosed ≡ [] → head ≡ false
        → (elim unclosed as (λ _. Result (List ℕ) ℕ) [ [] ↦ if head then Err first else Ok [] | o ∷ others ↦ Err o.line ]) ≡ Ok []
    closed [] true first k h = absurd cc
    closed [] false first k h = refl
    closed (o ∷ others) head first k h = absurd cc

-- the lines that places cut out of the tokens behind a layout are laid out as the relation has it
pub record Found (place : ℕ) (s : Layout) (pre ts : List Placed) (places : List ℕ) : Type 0 where
  pub front : List Placed
  pub lines : List (List Placed)
  pub cuts : Cuts place pre ts places front lines
  pub whole : front ++ joined lines ≡ ts
  pub rest : Rest (kinds s.unclosed) s.last s.columns s.head front lines

-- one token more in the middle of a line
found_middle : (place : ℕ) (s after : Layout) (pre ts : List Placed) (t : Placed) (places further : List ℕ)
    → starts s t.line ≡ false → turn s (mark_of t.token) t.line t.column ≡ Ok after
    → places ≡ (if starts s t.line then place ∷ [] else []) ++ further
    → Found (place + 1) after (pre ++ t ∷ []) ts further → Found place s pre (t ∷ ts) places
found_middle place s after pre ts t places further n e p f =
    let m = middle_is s after (mark_of t.token) t.line t.column n e in
    let same : places ≡ further = rw n at p in
    let made : Found place s pre (t ∷ ts) further = record {
      front = t ∷ f.front;
      lines = f.lines;
      cuts = cut_middle place pre ts t further f.front f.lines f.cuts;
      whole = ap (λ l. t ∷ l) f.whole;
      rest = rest_middle t f.front f.lines (kinds s.unclosed) (kinds after.unclosed) s.last s.columns s.head (goes_on_line s t.line n) m.0
          (rest_behind t f.front f.lines (kinds after.unclosed) s.columns after m.1 f.rest);
    } in
    subst (λ (l : List ℕ). Found place s pre (t ∷ ts) l) (sym same) made

-- one token more that begins a line
found_first : (place : ℕ) (s after : Layout) (pre ts : List Placed) (t : Placed) (places further : List ℕ)
    → length pre ≡ place
    → starts s t.line ≡ true → turn s (mark_of t.token) t.line t.column ≡ Ok after
    → places ≡ (if starts s t.line then place ∷ [] else []) ++ further
    → Found (place + 1) after (pre ++ t ∷ []) ts further → Found place s pre (t ∷ ts) places
found_first place s after pre ts t places further l n e p f =
    let m = first_is s after (mark_of t.token) t.line t.column n e in
    let off = starts_off s t.line n in
    let same : places ≡ place ∷ further = rw n at p in
    let left : Rest [] s.last s.columns s.head [] ((t ∷ f.front) ∷ f.lines) =
    rest_first t f.front f.lines (kinds after.unclosed) s.last s.columns m.1.0 s.head off.1 (rw off.0 at m.0) m.1.1
    (rest_behind t f.front f.lines (kinds after.unclosed) m.1.0 after m.1.2 f.rest) in
    let made : Found place s pre (t ∷ ts) (place ∷ further) = record {
      front = [];
      lines = (t ∷ f.front) ∷ f.lines;
      cuts = cut_first place pre ts t further f.front f.lines l f.cuts;
      whole = ap (λ l. t ∷ l) f.whole;
      rest = rw off.0 left;
    } in
    subst (λ (l : List ℕ). Found place s pre (t ∷ ts) l) (sym same) made

-- one token more behind `pre`
pub push_length : (pre : List Placed) (t : Placed) (place : ℕ) → length pre ≡ place → length (pre ++ t ∷ []) ≡ place + 1
push_length pre t place e = length_push pre t ∙ ap (λ n. n + 1) e

-- what is found behind a layout is laid out as the relation has it
pub found : (ts : List Placed) (place : ℕ) (s : Layout) (pre : List Placed) (places : List ℕ) → length pre ≡ place
    → line_starts place s ts ≡ Ok places → Found place s pre ts places
found [] place s pre places l e =
    let n = ended_is s places (sym (at_end place s) ∙ e) in
    let made : Found place s pre [] [] = record {
      front = [];
      lines = [];
      cuts = record { none_before = tt; front_is = refl; lines_are = refl };
      whole = refl;
      rest = record { goes_on = n.0; logical = tt; behind = tt; apart = tt; nested = n.1 };
    } in
    subst (λ (l : List ℕ). Found place s pre [] l) (sym n.2) made
found (t ∷ ts) place s pre places l e =
    let p = token_passed place s t ts places e in
    let f = found ts (place + 1) p.0 (pre ++ t ∷ []) p.2.0 (push_length pre t place l) p.2.1 in
    elim (either (starts s t.line)) [
      | inl n ↦ found_first place s p.0 pre ts t places p.2.0 l n p.1 p.2.2 f
      | inr n ↦ found_middle place s p.0 pre ts t places p.2.0 n p.1 p.2.2 f
    ]
