-- Some expressions and lines with what is read of them, by computation.
use Rattle.std.specs.Prelude.{◌≡◌, ℕ, List, [], ◌∷◌, Some, None, refl}
use Rattle.lexer.specs.declared.token.Word.TheVariants.{Def, Else, For, If, In, Load, Not, Return}
use Rattle.lexer.specs.declared.token.Mark.TheVariants.{OpenParen, CloseParen, OpenBracket, CloseBracket, OpenBrace, CloseBrace, Comma, Colon, Dot, Assign, Less, Minus, Plus, Star}
use Rattle.lexer.specs.declared.layout.Bracket.TheVariants.{Round, Square, Curly}
use Rattle.lexer.specs.Tokens.{Token, Placed, name, number, string, word, mark}
use Rattle.grammar.specs.Tree.{Expr, identifier, integer, display, comprehension, conditional, operation, signed, negation, opposite, add, multiply, not_within, no_members, last_member, next_member, plain, entry, field, no_clauses, for_clause, if_clause}
use Rattle.grammar.specs.Front.{next, sign_at, name_at, keyword_at, behind_close, behind_comma, behind_colon, behind_else, is_for, names_in, head_at}
use Rattle.grammar.specs.Reading.{chain, member, members, clauses, atom, suffixes, e9, e8, e7, e6, e5, e4, e3, e2, e1, read, reads}
use Rattle.grammar.specs.Statements.{simple, assigns_at, returns_list, followed, alone, loads, renamed, and_more, none_more, defines, block, inline, required, last_one}
use Rattle.grammar.specs.FormReading.{lead, then_at, names_to, string_at, commas, listed, simple_at, form_at, form_reads}
use Rattle.grammar.specs.Bare.{bare, tuple, more_trees, no_trees}
use Rattle.grammar.specs.Depth.{depth}
use Rattle.grammar.specs.Places.{top_of_module}
use Rattle.grammar.specs.Blocks.{no_lines, plain_line, head_line, SpellsFile}
use Rattle.std.proofs.Common.{arith}

-- the names of the rows
abbrev pub f : List ℕ
f = 102 ∷ []

abbrev pub x : List ℕ
x = 120 ∷ []

abbrev pub y : List ℕ
y = 121 ∷ []

abbrev pub z : List ℕ
z = 122 ∷ []

pub expressions :
    (reads (number 1 ∷ mark Less ∷ number 2 ∷ mark Less ∷ number 3 ∷ []) ≡ None)
    × (reads (name f ∷ mark OpenParen ∷ name x ∷ mark Assign ∷ number 1 ∷ mark Comma ∷ number 2 ∷ mark CloseParen ∷ []) ≡ None)
    × (reads (name f ∷ mark OpenParen ∷ mark Comma ∷ mark CloseParen ∷ []) ≡ None)
    × (reads (mark OpenBracket ∷ mark Comma ∷ mark CloseBracket ∷ []) ≡ None)
    × (reads (mark OpenParen ∷ name x ∷ word For ∷ name x ∷ word In ∷ name y ∷ mark CloseParen ∷ []) ≡ None)
    × (reads (name x ∷ word If ∷ name y ∷ word Else ∷ name z ∷ word If ∷ name f ∷ word Else ∷ name x ∷ []) ≡ Some (conditional (identifier x) (identifier y) (conditional (identifier z) (identifier f) (identifier x))))
    × (reads (number 1 ∷ mark Plus ∷ number 2 ∷ mark Star ∷ number 3 ∷ mark Plus ∷ number 4 ∷ []) ≡ Some (operation add (operation add (integer 1) (operation multiply (integer 2) (integer 3))) (integer 4)))
    × (reads (word Not ∷ name x ∷ word Not ∷ word In ∷ name y ∷ []) ≡ Some (signed negation (operation not_within (identifier x) (identifier y))))
    × (reads (mark Minus ∷ name x ∷ mark Dot ∷ name y ∷ []) ≡ Some (signed opposite (field (identifier x) y)))
    × (reads (mark OpenParen ∷ name x ∷ mark Comma ∷ mark CloseParen ∷ []) ≡ Some (display Round (next_member (plain (identifier x)) no_members)))
    × (reads (mark OpenBracket ∷ name x ∷ word For ∷ name x ∷ word In ∷ name y ∷ word If ∷ name x ∷ mark CloseBracket ∷ []) ≡ Some (comprehension Square (plain (identifier x)) (for_clause x [] (identifier y) (if_clause (identifier x) no_clauses))))
    × (reads (mark OpenBrace ∷ name x ∷ mark Colon ∷ name y ∷ mark CloseBrace ∷ []) ≡ Some (display Curly (last_member (entry (identifier x) (identifier y)))))
unfolding chain next sign_at name_at keyword_at behind_close behind_comma behind_colon behind_else is_for names_in head_at member members clauses atom suffixes e9 e8 e7 e6 e5 e4 e3 e2 e1 read
expressions = (refl, refl, refl, refl, refl, refl, refl, refl, refl, refl, refl, refl)

pub lines :
    (form_reads (name x ∷ mark Comma ∷ mark Assign ∷ name y ∷ []) ≡ None)
    × (form_reads (name x ∷ mark Assign ∷ number 1 ∷ mark Comma ∷ []) ≡ None)
    × (form_reads (number 1 ∷ mark Comma ∷ number 2 ∷ []) ≡ None)
    × (form_reads (mark OpenParen ∷ name x ∷ mark CloseParen ∷ mark Assign ∷ number 1 ∷ []) ≡ None)
    × (form_reads (name x ∷ mark Dot ∷ name y ∷ mark Assign ∷ number 1 ∷ []) ≡ None)
    × (form_reads (word Load ∷ mark OpenParen ∷ string x ∷ mark CloseParen ∷ []) ≡ None)
    × (form_reads (word Def ∷ name f ∷ mark OpenParen ∷ mark Comma ∷ mark CloseParen ∷ mark Colon ∷ []) ≡ None)
    × (form_reads (mark OpenParen ∷ name x ∷ mark CloseParen ∷ mark OpenBracket ∷ number 0 ∷ mark CloseBracket ∷ mark Assign ∷ number 1 ∷ []) ≡ Some (simple (assigns_at (display Round (last_member (plain (identifier x)))) (integer 0) (alone (integer 1)))))
    × (form_reads (word Load ∷ mark OpenParen ∷ string x ∷ mark Comma ∷ name y ∷ mark Assign ∷ string z ∷ mark Comma ∷ mark CloseParen ∷ []) ≡ Some (loads x (and_more (renamed y z) none_more)))
    × (form_reads (word Def ∷ name f ∷ mark OpenParen ∷ name x ∷ mark CloseParen ∷ mark Colon ∷ word Return ∷ name x ∷ mark Comma ∷ name y ∷ []) ≡ Some (defines f (last_one (required x)) (inline (returns_list (followed (identifier x) (alone (identifier y)))))))
unfolding lead then_at names_to string_at commas listed simple_at form_at chain next sign_at name_at keyword_at behind_close behind_comma behind_colon behind_else is_for names_in head_at member members clauses atom suffixes e9 e8 e7 e6 e5 e4 e3 e2 e1 read
lines = (refl, refl, refl, refl, refl, refl, refl, refl, refl, refl)

-- brackets alone add nothing
pub brackets : (a : Expr) → (bare (display Round (last_member (plain a))) ≡ bare a) × (depth (display Round (last_member (plain a))) ≡ depth a)
brackets a = (refl, refl)

-- a comma makes a tuple
pub comma : (a : Expr) → bare (display Round (next_member (plain a) no_members)) ≡ tuple (more_trees (bare a) no_trees)
comma a = refl

abbrev at : ℕ → ℕ → Token → Placed
at n c t = record { token = t; line = n; column = c }

-- a function with its block, which is one line
pub file : SpellsFile top_of_module
    ((at 1 0 (word Def) ∷ at 1 4 (name f) ∷ at 1 5 (mark OpenParen) ∷ at 1 6 (name x) ∷ at 1 7 (mark CloseParen) ∷ at 1 8 (mark Colon) ∷ []) ∷ (at 2 4 (word Return) ∷ at 2 11 (name x) ∷ []) ∷ [])
    (head_line 1 (defines f (last_one (required x)) block) 4 (plain_line 2 (simple (returns_list (alone (identifier x)))) no_lines) no_lines)
file = record {
  is_block = (
    record { is_form = (tt, tt); stands_there = refl; follows_there = refl; early_there = refl; not_deep = Prim.omega arith },
    refl,
    Prim.omega arith,
    refl,
    (record { is_form = tt; stands_there = refl; follows_there = refl; early_there = refl; not_deep = Prim.omega arith }, refl, tt),
    tt,
  );
  whole = refl;
}
