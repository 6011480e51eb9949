-- The rules of the top level, line by line.
use Rattle.std.proofs.Common.{◌≡◌, ℕ, Bool, true, false, not, ◌&&◌, ◌||◌, List, [], ◌∷◌, ◌++◌, Option, Some, None, refl, sym, ap, ◌∙◌}
use Rattle.std.specs.Prelude.{bytes_eq}
use Rattle.std.proofs.lemmas.List.Folds.{list_any-append}
use Rattle.program_tree.specs.Names.{Name, Scope, or_else, among, apart, distinct}
use Rattle.grammar.specs.BareLines.{Form, Lines, no_lines, a_line}
use Rattle.program_tree.specs.Names.{form_binds, scope_of}
use Rattle.syntax.specs.Resolves.{binds_anew}
use Rattle.file_syntax.specs.Scopes.{adds_to_name, line_scoped, lines_fault, top_fault, top_line_scoped, unless}

-- the rules of the top level look only at which names were bound before
apart_same : (b c : List Name) → ((x : Name) → among x b ≡ among x c) → (xs : List Name) → apart xs b ≡ apart xs c
apart_same b c h [] = refl
apart_same b c h (x ∷ xs) = ap (λ m. not m && apart xs b) (h x) ∙ ap (λ m. not (among x c) && m) (apart_same b c h xs)

more_same : (b c : List Name) → ((x : Name) → among x b ≡ among x c) → (ys : List Name) (x : Name) → among x (ys ++ b) ≡ among x (ys ++ c)
more_same b c h ys x = list_any-append (bytes_eq x) ys b ∙ ap (λ m. among x ys || m) (h x) ∙ sym (list_any-append (bytes_eq x) ys c)

pub top_same : (s : Scope) (b c : List Name) → ((x : Name) → among x b ≡ among x c) → (ls : Lines) → top_fault s b ls ≡ top_fault s c ls
top_same s b c h no_lines = refl
top_same s b c h (a_line n f inner ls) =
    ap (λ m. or_else (unless n (distinct (form_binds f) && (m && (not (adds_to_name f) && line_scoped s f)))) (or_else (lines_fault (scope_of s f inner) inner) (top_fault s (form_binds f ++ b) ls))) (apart_same b c h (form_binds f))
    ∙ ap (λ m. or_else (unless n (top_line_scoped s c f)) (or_else (lines_fault (scope_of s f inner) inner) m)) (top_same s (form_binds f ++ b) (form_binds f ++ c) (more_same b c h (form_binds f)) ls)

-- a line that breaks no rule leaves those behind it, and one that breaks one stands before them
pub line_passed : (b : Bool) (n : ℕ) (o r : Option ℕ) → or_else (unless n b) o ≡ None → or_else (unless n b) (or_else o r) ≡ r
line_passed true n None r e = refl
line_passed true n (Some m) r e = absurd cc
line_passed false n o r e = absurd cc

pub line_stops : (b : Bool) (n : ℕ) (o r : Option ℕ) (m : ℕ) → or_else (unless n b) o ≡ Some m → or_else (unless n b) (or_else o r) ≡ Some m
line_stops true n None r m e = absurd cc
line_stops true n (Some k) r m e = e
line_stops false n o r m e = e

-- the first of four, where the third is the last of its own
pub or_line : (p u i t : Option ℕ) → or_else (or_else p (or_else u (or_else i None))) t ≡ or_else p (or_else u (or_else i t))
or_line (Some a) u i t = refl
or_line None (Some a) i t = refl
or_line None None (Some a) t = refl
or_line None None None t = refl

pub or_none : (o : Option ℕ) → or_else o None ≡ o
or_none None = refl
or_none (Some n) = refl

three_hold : (a b c d : Bool) → (a && (b && c)) ≡ true → (a && (b && (c && d))) ≡ d
three_hold true true true d e = refl
three_hold true true false d e = absurd cc
three_hold true false c d e = absurd cc
three_hold false b c d e = absurd cc

one_fails : (a b c d : Bool) → (a && (b && c)) ≡ false → (a && (b && (c && d))) ≡ false
one_fails true true true d e = absurd cc
one_fails true true false d e = refl
one_fails true false c d e = refl
one_fails false b c d e = refl

-- a line of the top level that binds what it may
pub top_bound : (s : Scope) (keys new : List Name) (n : ℕ) (f : Form) (inner rest : Lines) → binds_anew keys f ≡ true → ((x : Name) → among x new ≡ among x (form_binds f ++ keys))
    → top_fault s keys (a_line n f inner rest) ≡ or_else (unless n (line_scoped s f)) (or_else (lines_fault (scope_of s f inner) inner) (top_fault s new rest))
top_bound s keys new n f inner rest e h =
    let b = three_hold (distinct (form_binds f)) (apart (form_binds f) keys) (not (adds_to_name f)) (line_scoped s f) e in
    ap (λ m. or_else (unless n m) (or_else (lines_fault (scope_of s f inner) inner) (top_fault s (form_binds f ++ keys) rest))) b
    ∙ ap (λ o. or_else (unless n (line_scoped s f)) (or_else (lines_fault (scope_of s f inner) inner) o)) (sym (top_same s new (form_binds f ++ keys) h rest))

-- and one that doesn't
pub top_rebound : (s : Scope) (keys : List Name) (n : ℕ) (f : Form) (inner rest : Lines) → binds_anew keys f ≡ false → top_fault s keys (a_line n f inner rest) ≡ Some n
top_rebound s keys n f inner rest e =
    ap (λ m. or_else (unless n m) (or_else (lines_fault (scope_of s f inner) inner) (top_fault s (form_binds f ++ keys) rest)))
    (one_fails (distinct (form_binds f)) (apart (form_binds f) keys) (not (adds_to_name f)) (line_scoped s f) e)
