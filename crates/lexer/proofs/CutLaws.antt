-- How the places of first tokens cut a list of tokens into logical lines.
use Rattle.std.proofs.Common.{ℕ, suc, ◌≡◌, ◌+◌, ◌-◌, ◌≤◌, List, [], ◌∷◌, ◌++◌, length, take, refl, sym, ap, ◌∙◌, append_assoc, length-append, arith}
use Rattle.std.proofs.lemmas.List.{drop_at, take_all}
use Rattle.lexer.specs.Tokens.{Placed}
use Rattle.lexer.specs.Lines.{lines_at}

-- no line begins before a place
abbrev pub NoneBefore : ℕ → List ℕ → Type 0
NoneBefore place [] = Unit {0}
NoneBefore place (next ∷ places) = place ≤ next

-- the tokens from a place on that come before the next line
abbrev pub front_of : ℕ → List ℕ → List Placed → List Placed
front_of place [] ts = ts
front_of place (next ∷ places) ts = take (next - place) ts

-- one token more before the next line
front_more : (place : ℕ) (places : List ℕ) (t : Placed) (ts : List Placed) → NoneBefore (place + 1) places
    → front_of place places (t ∷ ts) ≡ t ∷ front_of (place + 1) places ts
front_more place [] t ts h = refl
front_more place (next ∷ places) t ts h =
    let e : next - place ≡ suc (next - (place + 1)) = omega arith in
    rw e refl

-- none begins before an earlier place either
none_sooner : (place : ℕ) (places : List ℕ) → NoneBefore (place + 1) places → NoneBefore place places
none_sooner place [] h = tt
none_sooner place (next ∷ places) h = omega arith

-- the line that begins at a place is the token there and those before the next line
line_more : (pre ts : List Placed) (t : Placed) (place : ℕ) (places : List ℕ) → length pre ≡ place
    → NoneBefore (place + 1) places
    → lines_at (place ∷ places) (pre ++ t ∷ ts) ≡ (t ∷ front_of (place + 1) places ts) ∷ lines_at places (pre ++ t ∷ ts)
line_more pre ts t place [] e h =
    let n : length (pre ++ t ∷ ts) - place ≡ length (t ∷ ts) = omega (arith, length-append pre (t ∷ ts)) in
    let within : length (t ∷ ts) ≤ length (t ∷ ts) = omega arith in
    rw (drop_at pre (t ∷ ts) place e, n, take_all (length (t ∷ ts)) (t ∷ ts) within) refl
line_more pre ts t place (next ∷ places) e h =
    let n : next - place ≡ suc (next - (place + 1)) = omega arith in
    rw (drop_at pre (t ∷ ts) place e, n) refl

-- places cut the tokens `ts`, which stand behind others, into the end of a line and whole lines
pub record Cuts (place : ℕ) (pre ts : List Placed) (places : List ℕ) (front : List Placed) (lines : List (List Placed)) : Type 0 where
  pub none_before : NoneBefore place places
  pub front_is : front_of place places ts ≡ front
  pub lines_are : lines_at places (pre ++ ts) ≡ lines

-- a token more at the end of a line
pub cut_middle : (place : ℕ) (pre ts : List Placed) (t : Placed) (places : List ℕ) (front : List Placed) (lines : List (List Placed))
    → Cuts (place + 1) (pre ++ t ∷ []) ts places front lines → Cuts place pre (t ∷ ts) places (t ∷ front) lines
cut_middle place pre ts t places front lines c = record {
  none_before = none_sooner place places c.none_before;
  front_is = front_more place places t ts c.none_before ∙ ap (λ l. t ∷ l) c.front_is;
  lines_are = ap (λ l. lines_at places l) (sym (append_assoc pre (t ∷ []) ts)) ∙ c.lines_are;
}

-- a token that begins a line
pub cut_first : (place : ℕ) (pre ts : List Placed) (t : Placed) (places : List ℕ) (front : List Placed) (lines : List (List Placed))
    → length pre ≡ place → Cuts (place + 1) (pre ++ t ∷ []) ts places front lines
    → Cuts place pre (t ∷ ts) (place ∷ places) [] ((t ∷ front) ∷ lines)
cut_first place pre ts t places front lines e c =
    let n : place - place ≡ 0 = omega arith in
    let further : lines_at places (pre ++ t ∷ ts) ≡ lines =
    ap (λ l. lines_at places l) (sym (append_assoc pre (t ∷ []) ts)) ∙ c.lines_are in
    record {
      none_before = omega arith;
      front_is = rw n refl;
      lines_are = line_more pre ts t place places e c.none_before ∙ rw (c.front_is, further) refl;
    }
