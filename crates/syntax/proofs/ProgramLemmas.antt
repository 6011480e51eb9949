-- Things put before others, and comprehensions without clauses.
use Rattle.std.proofs.Common.{◌≡◌, ℕ, List, [], ◌∷◌, ◌++◌, ◌∙◌, length, map, take, Option, Some, None, refl, ap, sym}
use Rattle.std.specs.Prelude.{option_map, IfOk, Result, Ok, Err}
use Rattle.grammar.specs.Bare.{Tree, Rest, done, for_each, only_if}
use Rattle.program_tree.specs.ProgramView.{onto}
use Rattle.syntax.specs.Resolves.{first_tree}
use Rattle.grammar.specs.BareLines.{Form, Lines, a_line, no_lines}
use Rattle.grammar.specs.LineView.{lines_of}
use Rattle.program_tree.specs.Names.{Scope, scope_of, width}
use Rattle.program_tree.specs.Resolved.{Head, Made, Steps, head, made, steps_of, with_line}

pub take_whole : {A : Type 0} (xs : List A) → take (length xs) xs ≡ xs
take_whole [] = refl
take_whole (x ∷ xs) = ap (λ ys. x ∷ ys) (take_whole xs)

pub onto_last : {A B R : Type 0} (f : B → R → R) (g : A → B) (xs : List A) (x : A) (r : R) → onto f (map g (xs ++ x ∷ [])) r ≡ onto f (map g xs) (f (g x) r)
onto_last f g [] x r = refl
onto_last f g (y ∷ ys) x r = ap (f (g y)) (onto_last f g ys x r)

-- lines one after the other, with none behind them
pub lines_onto : (fs : List (Lines → Lines)) → onto (λ f r. f r) fs no_lines ≡ lines_of fs
lines_onto [] = refl
lines_onto (f ∷ fs) = ap f (lines_onto fs)

pub no_clause : {A B : Type 0} (f : A → B) (g : Tree → B) (o : Option A) (r : Rest) → o ≡ None → option_map f o ≡ option_map g (first_tree r) → r ≡ done
no_clause f g None done n e = refl
no_clause f g None (for_each x xs a r) n e = absurd cc
no_clause f g None (only_if a r) n e = absurd cc
no_clause f g (Some b) r n e = absurd cc

-- a line before those behind it, by what was made of them, of its block, and of itself
pub line_made : (s : Scope) (n k : ℕ) (f : Form) (ls whole rest : Lines) (h : Head) (inner : Steps) (m : Made) → whole ≡ a_line n f ls rest
    → h ≡ head s f → inner ≡ steps_of (scope_of s f ls) ls → k ≡ width (scope_of s f ls).levels → made s rest ≡ m → made s whole ≡ with_line h n k inner m
line_made s n k f ls whole rest h inner m ew eh ei ek em =
    ap (made s) ew
    ∙ ap (λ x. with_line x n (width (scope_of s f ls).levels) (steps_of (scope_of s f ls) ls) (made s rest)) (sym eh)
    ∙ ap (λ x. with_line h n x (steps_of (scope_of s f ls) ls) (made s rest)) (sym ek)
    ∙ ap (λ x. with_line h n k x (made s rest)) (sym ei)
    ∙ ap (with_line h n k inner) em

-- what follows from an answer
pub if_ok_then : {A E : Type 0} (r : Result A E) (P Q : A → Type 0) → ((x : A) → P x → Q x) → IfOk r P → IfOk r Q
if_ok_then (Ok x) P Q f h = f x h
if_ok_then (Err e) P Q f h = tt
