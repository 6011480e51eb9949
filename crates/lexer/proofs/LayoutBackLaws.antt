-- Lines that the relation has are found token by token.
use Rattle.std.proofs.Common.{ℕ, ◌≡◌, ◌+◌, ◌<◌, true, false, List, [], ◌∷◌, ◌++◌, length, refl, sym, subst, ◌∙◌, Ok, arith}
use Rattle.lexer.specs.declared.layout.Layout.{Layout}
use Rattle.lexer.specs.Tokens.{Placed}
use Rattle.lexer.specs.Layout.{mark_of, starts, turn, at_start, line_starts}
use Rattle.lexer.specs.Lines.{lines_at}
use Rattle.lexer.specs.LaidOut.{BeginsOff, joined, IsLaidOut}
use Rattle.lexer.proofs.LayoutLemmas.{behind_token, at_end}
use Rattle.lexer.proofs.BracketLaws.{kinds}
use Rattle.lexer.proofs.CutLaws.{Cuts, cut_middle, cut_first}
use Rattle.lexer.proofs.LaidOutLaws.{Rest, middle_left, first_left}
use Rattle.lexer.proofs.LayoutLaws.{ended_as, push_length, found}

-- places that are found, and cut the tokens into these lines
pub record Placing (place : ℕ) (s : Layout) (pre ts front : List Placed) (lines : List (List Placed)) : Type 0 where
  pub places : List ℕ
  pub are_found : line_starts place s ts ≡ Ok places
  pub cuts : Cuts place pre ts places front lines

-- one token more at the end of a line that is found
placing_middle : (place : ℕ) (s after : Layout) (pre ts front : List Placed) (lines : List (List Placed)) (t : Placed)
    → starts s t.line ≡ false → turn s (mark_of t.token) t.line t.column ≡ Ok after
    → Placing (place + 1) after (pre ++ t ∷ []) ts front lines → Placing place s pre (t ∷ ts) (t ∷ front) lines
placing_middle place s after pre ts front lines t n e p = record {
  places = p.places;
  are_found = behind_token place s after t ts e ∙ rw (n, p.are_found) refl;
  cuts = cut_middle place pre ts t p.places front lines p.cuts;
}

-- one token more that begins a line that is found
placing_first : (place : ℕ) (s after : Layout) (pre ts front : List Placed) (lines : List (List Placed)) (t : Placed)
    → length pre ≡ place
    → starts s t.line ≡ true → turn s (mark_of t.token) t.line t.column ≡ Ok after
    → Placing (place + 1) after (pre ++ t ∷ []) ts front lines → Placing place s pre (t ∷ ts) [] ((t ∷ front) ∷ lines)
placing_first place s after pre ts front lines t l n e p = record {
  places = place ∷ p.places;
  are_found = behind_token place s after t ts e ∙ rw (n, p.are_found) refl;
  cuts = cut_first place pre ts t p.places front lines l p.cuts;
}

-- lines that the relation has behind a layout are found there
pub placed : (ts : List Placed) (place : ℕ) (s : Layout) (pre front : List Placed) (lines : List (List Placed))
    → length pre ≡ place
    → front ++ joined lines ≡ ts → Rest (kinds s.unclosed) s.last s.columns s.head front lines
    → Placing place s pre ts front lines
placed [] place s pre [] [] l w r = record {
  places = [];
  are_found = at_end place s ∙ ended_as s r.goes_on r.nested;
  cuts = record { none_before = tt; front_is = refl; lines_are = refl };
}
placed [] place s pre [] ([] ∷ lines) l w r = absurd r.logical.0
placed [] place s pre [] ((u ∷ us) ∷ lines) l w r = absurd cc
placed [] place s pre (u ∷ front) lines l w r = absurd cc
placed (t ∷ ts) place s pre [] [] l w r = absurd cc
placed (t ∷ ts) place s pre [] ([] ∷ lines) l w r = absurd r.logical.0
placed (t ∷ ts) place s pre [] ((u ∷ us) ∷ lines) l w r =
    let same : t ≡ u = cc in
    let others : us ++ joined lines ≡ ts = cc in
    let n = first_left s u us lines r in
    let p = placed ts (place + 1) n.0 (pre ++ u ∷ []) us lines (push_length pre u place l) others n.3 in
    rw same (placing_first place s n.0 pre ts us lines u l n.2 n.1 p)
placed (t ∷ ts) place s pre (u ∷ front) lines l w r =
    let same : t ≡ u = cc in
    let others : front ++ joined lines ≡ ts = cc in
    let n = middle_left s u front lines r in
    let p = placed ts (place + 1) n.0 (pre ++ u ∷ []) front lines (push_length pre u place l) others n.3 in
    rw same (placing_middle place s n.0 pre ts front lines u n.2 n.1 p)

-- the lines of a file count from 1: the first token stands on one
abbrev pub Numbered : List Placed → Type 0
Numbered [] = Unit {0}
Numbered (t ∷ ts) = 0 < t.line

-- at the start of a file no logical line goes on
from_start : (ts front : List Placed) (lines : List (List Placed)) → Numbered ts → front ++ joined lines ≡ ts
    → Rest [] 0 [] false front lines → IsLaidOut ts lines
from_start ts [] lines h w r = record { whole = w; logical = r.logical; apart = r.apart; nested = r.nested }
from_start [] (u ∷ front) lines h w r = absurd cc
from_start (t ∷ ts) (u ∷ front) lines h w r =
    let same : t ≡ u = cc in
    let above : 0 < u.line = rw same at h in
    let none : u.line ≡ 0 = r.goes_on.0 refl in
    absurd (omega arith)

-- the first line begins behind the start of the file
begins_off : (ts : List Placed) (lines : List (List Placed)) → Numbered ts → IsLaidOut ts lines → BeginsOff 0 lines
begins_off ts [] h i = tt
begins_off ts ([] ∷ lines) h i = absurd i.logical.0
begins_off [] ((u ∷ us) ∷ lines) h i = let w = i.whole in absurd cc
begins_off (t ∷ ts) ((u ∷ us) ∷ lines) h i =
    let w = i.whole in
    let same : t ≡ u = cc in
    let above : 0 < u.line = rw same at h in
    λ e. absurd (omega arith)

-- the lines that are found are laid out as the relation has it
pub laid_out_is : (ts : List Placed) (places : List ℕ) → Numbered ts → line_starts 0 at_start ts ≡ Ok places
    → IsLaidOut ts (lines_at places ts)
laid_out_is ts places h e =
    let f = found ts 0 at_start [] places refl e in
    subst (λ (l : List (List Placed)). IsLaidOut ts l) (sym f.cuts.lines_are) (from_start ts f.front f.lines h f.whole f.rest)

-- the lines of the relation are found
pub laid_out_as : (ts : List Placed) (lines : List (List Placed)) → Numbered ts → IsLaidOut ts lines
    → (places : List ℕ) × (line_starts 0 at_start ts ≡ Ok places) × (lines_at places ts ≡ lines)
laid_out_as ts lines h i =
    let p = placed ts 0 at_start [] [] lines refl i.whole (record {
      goes_on = refl;
      logical = i.logical;
      behind = begins_off ts lines h i;
      apart = i.apart;
      nested = i.nested;
    }) in
    (p.places, p.are_found, p.cuts.lines_are)
