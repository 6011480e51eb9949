-- The fault below the statements that the passes find is the first one of the relations, and the other way round.
use Rattle.std.proofs.Common.{ℕ, ◌≡◌, ◌+◌, ◌≤◌, Bool, true, false, ◌&&◌, not, cond, nat_lt, List, [], ◌∷◌, ◌++◌, length, drop, refl, sym, ap, subst, ◌∙◌, Option, Some, None, Result, Ok, Err, arith}
use Rattle.std.specs.Prelude.{option_map}
use Rattle.std.specs.List.{AllPass, list_all, prefix_len}
use Rattle.std.proofs.lemmas.Bool.Decides.{nat_tests}
use Rattle.std.proofs.lemmas.List.{take_all}
use Rattle.std.proofs.lemmas.List.Sums.{AllPass-from_list_all, list_all-from_AllPass}
use Rattle.lexer.specs.declared.fault.FaultKind.{FaultKind}
use Rattle.lexer.specs.declared.fault.FaultKind.TheVariants as pass
use Rattle.lexer.specs.declared.fault.SyntaxFault.{SyntaxFault}
use Rattle.lexer.specs.Characters.{is_character, line_at, character_fault}
use Rattle.lexer.specs.Tokens.{Placed}
use Rattle.lexer.specs.Scan.{tokens_of}
use Rattle.lexer.specs.Layout.{at_start, line_starts}
use Rattle.lexer.specs.Lines.{fault, laid_out, scanned, lines_of, reading}
use Rattle.lexer.specs.Parts.{Part, blank, line_break, remark, spelled, Consists, IsTokens}
use Rattle.lexer.proofs.ConsistLaws.{tokens_are, tokens_as}
use Rattle.lexer.proofs.LayoutBackLaws.{Numbered}
use Rattle.lexer.proofs.ReadingLemmas.{fault_of_characters, fault_of_tokens, fault_of_layout}
use Rattle.file_syntax.specs.LineFault.{IsLineFault, in_characters, in_tokens, in_layout}
use Rattle.file_syntax.proofs.CharacterFaults.{front_passes, character_fault_is, character_fault_as}
use Rattle.file_syntax.proofs.TokenFaults.{token_fault_is, token_fault_as}
use Rattle.file_syntax.proofs.IndentFaults.{indent_fault_is}
use Rattle.file_syntax.proofs.LineWalk.{indent_fault_as}

-- the first of some tokens stands on this line of the file or on a later one
abbrev From : ℕ → List Placed → Type 0
From line [] = Unit {0}
From line (t ∷ ts) = line ≤ t.line

-- what stands on a later line or behind it stands behind the line before
sooner : (line : ℕ) (ts : List Placed) → From (line + 1) ts → From line ts
sooner line [] h = tt
sooner line (t ∷ ts) h = omega arith

-- the tokens of what is left of a text stand from its line on
from_line : (parts : List Part) (line column : ℕ) (text : List ℕ) (ts : List Placed) → Consists parts line column text ts → From line ts
from_line [] line column text ts h = subst (λ (l : List Placed). From line l) (sym h.1) tt
from_line (blank ∷ parts) line column text ts h = from_line parts line (column + 1) h.0 ts h.2
from_line (line_break ∷ parts) line column text ts h = sooner line ts (from_line parts (line + 1) 0 h.0 ts h.2)
from_line (remark n ∷ parts) line column text ts h = from_line parts line (column + n) (drop n text) ts h.1
from_line (spelled t n ∷ parts) line column text ts h =
    let here : From line (record { token = t; line = line; column = column } ∷ h.1.0) = omega arith in
    subst (λ (l : List Placed). From line l) (sym h.1.1) here

-- lines count from 1
pub numbered : (text : List ℕ) (ts : List Placed) → IsTokens text ts → Numbered ts
numbered text ts h = from_one ts (from_line h.0 1 0 text ts h.1)
  where
    from_one : (ts : List Placed) → From 1 ts → Numbered ts
    from_one [] h = tt
    from_one (t ∷ ts) h = omega arith

-- all of a list passes only where each of its elements does
passes_there : (p : ℕ → Bool) (xs ys : List ℕ) (y : ℕ) → list_all p (xs ++ y ∷ ys) ≡ true → p y ≡ true
passes_there p [] ys y h = first (p y) (list_all p ys) h
  where
    first : (a b : Bool) → (a && b) ≡ true → a ≡ true
    first true b e = refl
    first false b e = e
passes_there p (x ∷ xs) ys y h = passes_there p xs ys y (second (p x) (list_all p (xs ++ y ∷ ys)) h)
  where
    second : (a b : Bool) → (a && b) ≡ true → b ≡ true
    second true b e = e
    second false b e = absurd cc

-- a text of characters has no fault of characters, and the other way round
no_fault : (text : List ℕ) → AllPass is_character text → None ≡ character_fault text
no_fault text h = by_fault (character_fault text) refl
  where
    by_fault : (o : Option ℕ) → character_fault text ≡ o → None ≡ character_fault text
    by_fault None e = sym e
    by_fault (Some line) e =
        let f = character_fault_is text line e in
        let all = subst (λ (l : List ℕ). list_all is_character l ≡ true) (sym f.text_is) (list_all-from_AllPass is_character text h) in
        let is = passes_there is_character f.before f.behind f.byte all in
        let no = f.no_character in
        absurd cc

-- a place that is sought and not found
not_found : (b : Bool) (f : ℕ → ℕ) (i : ℕ) → option_map f (cond b (Some i) None) ≡ None → b ≡ false
not_found true f i e = absurd cc
not_found false f i e = refl

-- the same the other way round
all_characters : (text : List ℕ) → character_fault text ≡ None → AllPass is_character text
all_characters text e =
    let place = prefix_len (λ b. not (not (is_character b))) text in
    let test : nat_lt place (length text) ≡ false = not_found (nat_lt place (length text)) (line_at text) place e in
    let whole : length text ≤ place = grind (arith, nat_tests) in
    AllPass-from_list_all is_character text
    (subst (λ (l : List ℕ). list_all is_character l ≡ true) (take_all place text whole) (front_passes is_character text))

-- a fault by its pass and its line
fault_seen : (k : FaultKind) (line : ℕ) (f : SyntaxFault) → Path (Result (List (List Placed)) SyntaxFault) (fault k line) (Err f) → (f.kind ≡ k) × (line ≡ f.line)
fault_seen k line f e =
    let same : f ≡ record { line = line; kind = k } = cc in
    (ap (λ (g : SyntaxFault). g.kind) same, sym (ap (λ (g : SyntaxFault). g.line) same))

-- the same the other way round
seen_fault : (k : FaultKind) (f : SyntaxFault) → f.kind ≡ k → Path (Result (List (List Placed)) SyntaxFault) (fault k f.line) (Err f)
seen_fault k f e = ap (λ (k : FaultKind). Err (record { line = f.line; kind = k })) (sym e)

-- the fault that the passes find is the first one of the relation
pub line_fault_is : (text : List ℕ) (f : SyntaxFault) → reading text ≡ Err f → IsLineFault text f
unfolding reading
line_fault_is text f e = by_characters (character_fault text) refl e
  where
    by_places : (ts : List Placed) → character_fault text ≡ None → tokens_of text ≡ Ok ts → (r : Result (List ℕ) ℕ) → line_starts 0 at_start ts ≡ r
        → lines_of ts r ≡ Err f → IsLineFault text f
    by_places ts c t (Ok places) h e = absurd cc
    by_places ts c t (Err line) h e =
        let s = fault_seen pass.Indent line f e in
        let tokens = tokens_are text ts t in
        in_layout s.0 (all_characters text c) ts tokens (indent_fault_is ts f.line (numbered text ts tokens) (h ∙ ap Err s.1))

    by_tokens : character_fault text ≡ None → (r : Result (List Placed) ℕ) → tokens_of text ≡ r → laid_out r ≡ Err f → IsLineFault text f
    by_tokens c (Ok ts) h e = by_places ts c h (line_starts 0 at_start ts) refl e
    by_tokens c (Err line) h e =
        let s = fault_seen pass.Token line f e in
        in_tokens s.0 (all_characters text c) (token_fault_is text f.line (h ∙ ap Err s.1))

    by_characters : (o : Option ℕ) → character_fault text ≡ o → scanned text o ≡ Err f → IsLineFault text f
    by_characters None h e = by_tokens h (tokens_of text) refl e
    by_characters (Some line) h e =
        let s = fault_seen pass.Character line f e in
        in_characters s.0 (character_fault_is text f.line (h ∙ ap Some s.1))

-- the first fault of the relation is found
pub line_fault_as : (text : List ℕ) (f : SyntaxFault) → IsLineFault text f → reading text ≡ Err f
line_fault_as text f (in_characters k h) =
    fault_of_characters text f.line (sym (character_fault_as text f.line h)) ∙ seen_fault pass.Character f k
line_fault_as text f (in_tokens k c h) =
    fault_of_tokens text f.line (no_fault text c) (token_fault_as text f.line h) ∙ seen_fault pass.Token f k
line_fault_as text f (in_layout k c ts t h) =
    fault_of_layout text ts f.line (no_fault text c) (tokens_as text ts t) (indent_fault_as ts f.line (numbered text ts t) h)
    ∙ seen_fault pass.Indent f k
