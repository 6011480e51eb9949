-- Lines that are read one after the other.
use Rattle.std.proofs.Common.{◌≡◌, ◌+◌, ℕ, zero, suc, ◌≤◌, Bool, List, [], ◌∷◌, ◌++◌, length, map, drop, slice_get, Option, Some, refl, sym, ap, ◌∙◌, arith}
use Rattle.std.specs.Prelude.{filter_map, option_map, Result, Ok, Err, IfOk}
use Rattle.std.specs.List.{cons_option}
use Rattle.std.proofs.lemmas.List.{drop_all}
use Rattle.statements.specs.declared.outline.Outline.{Outline}
use Rattle.statements.specs.declared.outline.Formed.{Formed}
use Rattle.lexer.specs.Tokens.{Placed, Token}
use Rattle.grammar.specs.Blocks.{Laid, laid}
use Rattle.grammar.specs.Built.{Made}
use Rattle.grammar.specs.FormDescent.{Shaped, reads_form}
use Rattle.statements.specs.FormView.{formed_as, is_text, line_read, outline_read}

-- what follows of a value that there may be
pub if_ok_then : {A E : Type 0} (r : Result A E) (P Q : A → Type 0) → ((x : A) → P x → Q x) → IfOk r P → IfOk r Q
if_ok_then (Ok x) P Q f h = f x h
if_ok_then (Err e) P Q f h = tt

drop_next : {A : Type 0} (xs : List A) (i : ℕ) (x : A) → slice_get xs i ≡ Some x → drop i xs ≡ x ∷ drop (suc i) xs
drop_next [] i x e = absurd cc
drop_next (y ∷ ys) zero x e = cc
drop_next (y ∷ ys) (suc i) x e = drop_next ys i x e

pub drop_at : {A : Type 0} (xs : List A) (i : ℕ) (x : A) → slice_get xs i ≡ Some x → drop i xs ≡ x ∷ drop (i + 1) xs
drop_at xs i x e = let n : suc i ≡ i + 1 = Prim.omega arith in drop_next xs i x e ∙ ap (λ k. x ∷ drop k xs) n

append_none : {A : Type 0} (xs : List A) → xs ++ [] ≡ xs
append_none [] = refl
append_none (x ∷ xs) = ap (λ l. x ∷ l) (append_none xs)

append_more : {A : Type 0} (xs : List A) (x : A) (l : List A) → (xs ++ x ∷ []) ++ l ≡ xs ++ x ∷ l
append_more [] x l = refl
append_more (y ∷ xs) x l = ap (λ t. y ∷ t) (append_more xs x l)

pub outlines_next : (lines : List (List Placed)) (i : ℕ) (line : List Placed) (os new : List Outline) → slice_get lines i ≡ Some line → new ≡ os ++ outline_read (laid line) ∷ []
    → os ++ map outline_read (map laid (drop i lines)) ≡ new ++ map outline_read (map laid (drop (i + 1) lines))
outlines_next lines i line os new e n =
    ap (λ ls. os ++ map outline_read (map laid ls)) (drop_at lines i line e)
    ∙ sym (append_more os (outline_read (laid line)) (map outline_read (map laid (drop (i + 1) lines))))
    ∙ ap (λ o. o ++ map outline_read (map laid (drop (i + 1) lines))) (sym n)

pub reads_next : (lines : List (List Placed)) (i : ℕ) (line : List Placed) (rs new : List Made) → slice_get lines i ≡ Some line → ((ms : List Made) → new ++ ms ≡ rs ++ cons_option (line_read (laid line)) ms)
    → rs ++ filter_map line_read (map laid (drop i lines)) ≡ new ++ filter_map line_read (map laid (drop (i + 1) lines))
reads_next lines i line rs new e n =
    ap (λ ls. rs ++ filter_map line_read (map laid ls)) (drop_at lines i line e)
    ∙ sym (n (filter_map line_read (map laid (drop (i + 1) lines))))

pub outlines_end : (lines : List (List Placed)) (i : ℕ) (os : List Outline) → length lines ≤ i → os ++ map outline_read (map laid (drop i lines)) ≡ os
outlines_end lines i os h = ap (λ ls. os ++ map outline_read (map laid ls)) (drop_all i lines h) ∙ append_none os

pub reads_end : (lines : List (List Placed)) (i : ℕ) (rs : List Made) → length lines ≤ i → rs ++ filter_map line_read (map laid (drop i lines)) ≡ rs
reads_end lines i rs h = ap (λ ls. rs ++ filter_map line_read (map laid ls)) (drop_all i lines h) ∙ append_none rs

-- what is read of the tokens of a line
abbrev outline_by : ℕ → ℕ → Option Formed → Outline
outline_by n k f = record { line = n; column = k; form = f }

pub outline_as : (l : Laid) (ts : List Token) (n k : ℕ) (t : Bool) (o : Option Shaped) → n ≡ l.line → k ≡ l.column → l.tokens ≡ ts → t ≡ is_text ts → o ≡ reads_form ts → outline_by n k (option_map (formed_as t) o) ≡ outline_read l
outline_as l ts n k t o a b c d e =
    ap (λ x. outline_by x k (option_map (formed_as t) o)) a
    ∙ ap (λ x. outline_by l.line x (option_map (formed_as t) o)) b
    ∙ ap (λ x. outline_by l.line l.column (option_map (formed_as x) o)) (d ∙ ap is_text (sym c))
    ∙ ap (λ x. outline_by l.line l.column (option_map (formed_as (is_text l.tokens)) x)) (e ∙ ap reads_form (sym c))

abbrev made_by : ℕ → ℕ → Shaped → Made
made_by n k s = record { number = n; column = k; form = s.0; body = s.1 }

pub read_as : (l : Laid) (ts : List Token) (n k : ℕ) (o : Option Shaped) → n ≡ l.line → k ≡ l.column → l.tokens ≡ ts → o ≡ reads_form ts → option_map (made_by n k) o ≡ line_read l
read_as l ts n k o a b c e =
    ap (λ x. option_map (made_by x k) o) a
    ∙ ap (λ x. option_map (made_by l.line x) o) b
    ∙ ap (option_map (made_by l.line l.column)) (e ∙ ap reads_form (sym c))
