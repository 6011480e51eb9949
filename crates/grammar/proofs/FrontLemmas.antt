-- What stands at the front of tokens is spelled there, and what is spelled there is found.
use Rattle.std.proofs.Common.{◌≡◌, ℕ, ◌≤◌, Bool, true, false, List, [], ◌∷◌, Option, Some, None, refl, ap, ◌∙◌, arith}
use Rattle.lexer.specs.declared.token.Word.TheVariants.{And, Else, For, If, In, Not, Or}
use Rattle.lexer.specs.declared.token.Mark.TheVariants.{OpenParen, CloseParen, OpenBracket, CloseBracket, OpenBrace, CloseBrace, Comma, Colon, Dot, Assign, Equal, NotEqual, Less, Greater, LessEqual, GreaterEqual, Plus, Minus, Star, FloorDivide, Percent}
use Rattle.lexer.specs.declared.token.Mark.{Mark}
use Rattle.lexer.specs.declared.layout.Bracket.{Bracket}
use Rattle.lexer.specs.declared.layout.Bracket.TheVariants.{Round, Square, Curly}
use Rattle.lexer.specs.Layout.{opening}
use Rattle.lexer.specs.Tokens.{Token, name, number, string, word, mark}
use Rattle.grammar.specs.Tree.{Operator, either, both, equal, not_equal, less, greater, less_equal, greater_equal, within, not_within, add, subtract, multiply, divide, remainder, Sign, negation, opposite}
use Rattle.grammar.specs.Levels.{operator_level, sign_level}
use Rattle.grammar.specs.Spelling.{operator_spelled, sign_token, open_mark, close_mark, names_spelled}
use Rattle.grammar.specs.Front.{Next, operator, dot_next, index_next, call_next, if_next, assign_next, nothing, next, sign_at, name_at, keyword_step, keyword_at, behind_close, behind_comma, behind_colon, behind_else, names_in, Head, for_head, if_head, no_head, for_step, head_at}

-- what is said to come next is there
abbrev pub NextSpells : Next → List Token → Type 0
NextSpells (operator o u) ts = ts ≡ operator_spelled o u
NextSpells (dot_next u) ts = ts ≡ mark Dot ∷ u
NextSpells (index_next u) ts = ts ≡ mark OpenBracket ∷ u
NextSpells (call_next u) ts = ts ≡ mark OpenParen ∷ u
NextSpells (if_next u) ts = ts ≡ word If ∷ u
NextSpells (assign_next u) ts = ts ≡ mark Assign ∷ u
NextSpells nothing ts = Unit {0}

pub next_sound : (ts : List Token) → NextSpells (next ts) ts
unfolding next
next_sound (word Or ∷ ts) = refl
next_sound (word And ∷ ts) = refl
next_sound (mark Equal ∷ ts) = refl
next_sound (mark NotEqual ∷ ts) = refl
next_sound (mark Less ∷ ts) = refl
next_sound (mark Greater ∷ ts) = refl
next_sound (mark LessEqual ∷ ts) = refl
next_sound (mark GreaterEqual ∷ ts) = refl
next_sound (word In ∷ ts) = refl
next_sound (word Not ∷ word In ∷ ts) = refl
next_sound (mark Plus ∷ ts) = refl
next_sound (mark Minus ∷ ts) = refl
next_sound (mark Star ∷ ts) = refl
next_sound (mark FloorDivide ∷ ts) = refl
next_sound (mark Percent ∷ ts) = refl
next_sound (mark Dot ∷ ts) = refl
next_sound (mark OpenBracket ∷ ts) = refl
next_sound (mark OpenParen ∷ ts) = refl
next_sound (word If ∷ ts) = refl
next_sound (mark Assign ∷ ts) = refl
next_sound _ = tt

abbrev pub SignSpells : Option (Sign × List Token) → List Token → Type 0
SignSpells None ts = Unit {0}
SignSpells (Some r) ts = ts ≡ sign_token r.0 ∷ r.1

pub sign_sound : (ts : List Token) → SignSpells (sign_at ts) ts
unfolding sign_at
sign_sound (word Not ∷ ts) = refl
sign_sound (mark Minus ∷ ts) = refl
sign_sound _ = tt

abbrev pub NameSpells : Option (List ℕ × List Token) → List Token → Type 0
NameSpells None ts = Unit {0}
NameSpells (Some r) ts = ts ≡ name r.0 ∷ r.1

pub name_sound : (ts : List Token) → NameSpells (name_at ts) ts
unfolding name_at
name_sound (name x ∷ ts) = refl
name_sound _ = tt

abbrev pub KeywordSpells : Option (List ℕ × List Token) → List Token → Type 0
KeywordSpells None ts = Unit {0}
KeywordSpells (Some r) ts = ts ≡ name r.0 ∷ mark Assign ∷ r.1

keyword_spells : (x : List ℕ) (ts : List Token) (r : Next) → NextSpells r ts → KeywordSpells (keyword_step x r) (name x ∷ ts)
keyword_spells x ts (assign_next u) h = ap (λ v. name x ∷ v) h
keyword_spells x ts (operator o u) h = tt
keyword_spells x ts (dot_next u) h = tt
keyword_spells x ts (index_next u) h = tt
keyword_spells x ts (call_next u) h = tt
keyword_spells x ts (if_next u) h = tt
keyword_spells x ts nothing h = tt

pub keyword_sound : (ts : List Token) → KeywordSpells (keyword_at ts) ts
unfolding keyword_at
keyword_sound (name x ∷ ts) = keyword_spells x ts (next ts) (next_sound ts)
keyword_sound _ = tt

-- this token, and what is behind it
abbrev pub Behind : Token → Option (List Token) → List Token → Type 0
Behind t None ts = Unit {0}
Behind t (Some u) ts = ts ≡ t ∷ u

pub close_sound : (b : Bracket) (ts : List Token) → Behind (mark (close_mark b)) (behind_close b ts) ts
unfolding behind_close
close_sound Round (mark CloseParen ∷ ts) = refl
close_sound Square (mark CloseBracket ∷ ts) = refl
close_sound Curly (mark CloseBrace ∷ ts) = refl
close_sound _ _ = tt

pub comma_sound : (ts : List Token) → Behind (mark Comma) (behind_comma ts) ts
unfolding behind_comma
comma_sound (mark Comma ∷ ts) = refl
comma_sound _ = tt

pub colon_sound : (ts : List Token) → Behind (mark Colon) (behind_colon ts) ts
unfolding behind_colon
colon_sound (mark Colon ∷ ts) = refl
colon_sound _ = tt

pub else_sound : (ts : List Token) → Behind (word Else) (behind_else ts) ts
unfolding behind_else
else_sound (word Else ∷ ts) = refl
else_sound _ = tt

abbrev pub NamesSpell : Option (List (List ℕ) × List Token) → List Token → Type 0
NamesSpell None ts = Unit {0}
NamesSpell (Some r) ts = ts ≡ names_spelled r.0 (word In ∷ r.1)

names_spell : (x : List ℕ) (ts : List Token) (r : Option (List (List ℕ) × List Token)) → NamesSpell r ts → NamesSpell (elim r [ None ↦ None | Some r ↦ Some (x ∷ r.0, r.1) ]) (mark Comma ∷ name x ∷ ts)
names_spell x ts None h = tt
names_spell x ts (Some r) h = ap (λ v. mark Comma ∷ name x ∷ v) h

pub names_sound : (ts : List Token) → NamesSpell (names_in ts) ts
unfolding names_in
names_sound (mark Comma ∷ name x ∷ ts) = names_spell x ts (names_in ts) (names_sound ts)
names_sound (word In ∷ ts) = refl
names_sound _ = tt

abbrev pub HeadSpells : Head → List Token → Type 0
HeadSpells (for_head x xs u) ts = ts ≡ word For ∷ name x ∷ names_spelled xs (word In ∷ u)
HeadSpells (if_head u) ts = ts ≡ word If ∷ u
HeadSpells no_head ts = Unit {0}

for_spells : (x : List ℕ) (ts : List Token) (r : Option (List (List ℕ) × List Token)) → NamesSpell r ts → HeadSpells (for_step x r) (word For ∷ name x ∷ ts)
for_spells x ts None h = tt
for_spells x ts (Some r) h = ap (λ v. word For ∷ name x ∷ v) h

pub head_sound : (ts : List Token) → HeadSpells (head_at ts) ts
unfolding head_at
head_sound (word For ∷ name x ∷ ts) = for_spells x ts (names_in ts) (names_sound ts)
head_sound (word If ∷ ts) = refl
head_sound _ = tt

pub opening_sound : (m : Mark) (b : Bracket) → Path (Option Bracket) (opening m) (Some b) → mark m ≡ mark (open_mark b)
opening_sound OpenParen Round e = refl
opening_sound OpenBracket Square e = refl
opening_sound OpenBrace Curly e = refl
opening_sound _ _ e = Prim.cc

-- the level at which an expression may go on
abbrev pub tail_of : Next → ℕ
tail_of (operator o u) = operator_level o
tail_of (dot_next u) = 9
tail_of (index_next u) = 9
tail_of (call_next u) = 9
tail_of (if_next u) = 1
tail_of (assign_next u) = 0
tail_of nothing = 0

abbrev pub tail : List Token → ℕ
tail ts = tail_of (next ts)

abbrev pub free_of : Next → Bool
free_of (assign_next u) = false
free_of _ = true

-- no `=` comes next
abbrev pub Free : List Token → Type 0
Free ts = free_of (next ts) ≡ true

-- nothing goes on, and no `=` comes next
abbrev pub Ends : List Token → Type 0
Ends ts = (tail ts ≡ 0) × Free ts

pub next_operator : (o : Operator) (ts : List Token) → next (operator_spelled o ts) ≡ operator o ts
unfolding next
next_operator either ts = refl
next_operator both ts = refl
next_operator equal ts = refl
next_operator not_equal ts = refl
next_operator less ts = refl
next_operator greater ts = refl
next_operator less_equal ts = refl
next_operator greater_equal ts = refl
next_operator within ts = refl
next_operator not_within ts = refl
next_operator add ts = refl
next_operator subtract ts = refl
next_operator multiply ts = refl
next_operator divide ts = refl
next_operator remainder ts = refl

pub next_close : (b : Bracket) (ts : List Token) → next (mark (close_mark b) ∷ ts) ≡ nothing
unfolding next
next_close Round ts = refl
next_close Square ts = refl
next_close Curly ts = refl

pub close_found : (b : Bracket) (ts : List Token) → behind_close b (mark (close_mark b) ∷ ts) ≡ Some ts
unfolding behind_close
close_found Round ts = refl
close_found Square ts = refl
close_found Curly ts = refl

pub comma_unclosed : (b : Bracket) (ts : List Token) → behind_close b (mark Comma ∷ ts) ≡ None
unfolding behind_close
comma_unclosed Round ts = refl
comma_unclosed Square ts = refl
comma_unclosed Curly ts = refl

pub opening_found : (b : Bracket) → opening (open_mark b) ≡ Some b
opening_found Round = refl
opening_found Square = refl
opening_found Curly = refl

pub names_found : (xs : List (List ℕ)) (ts : List Token) → names_in (names_spelled xs (word In ∷ ts)) ≡ Some (xs, ts)
unfolding names_in
names_found [] ts = refl
names_found (x ∷ xs) ts = ap (λ r. elim r [ None ↦ None | Some r ↦ Some (x ∷ r.0, r.1) ]) (names_found xs ts)

-- the level of an expression that may begin there
unfoldable pub front : List Token → ℕ
front (name x ∷ ts) = 9
front (number n ∷ ts) = 9
front (string s ∷ ts) = 9
front (mark OpenParen ∷ ts) = 9
front (mark OpenBracket ∷ ts) = 9
front (mark OpenBrace ∷ ts) = 9
front (word Not ∷ ts) = 4
front (mark Minus ∷ ts) = 8
front _ = 0

pub front_open : (b : Bracket) (ts : List Token) → front (mark (open_mark b) ∷ ts) ≡ 9
unfolding front
front_open Round ts = refl
front_open Square ts = refl
front_open Curly ts = refl

pub front_sign : (s : Sign) (ts : List Token) → front (sign_token s ∷ ts) ≡ sign_level s
unfolding front
front_sign negation ts = refl
front_sign opposite ts = refl

front_close : (b : Bracket) (ts : List Token) → front (mark (close_mark b) ∷ ts) ≡ 0
unfolding front
front_close Round ts = refl
front_close Square ts = refl
front_close Curly ts = refl

-- no closing bracket stands where an expression begins
pub front_unclosed : (b : Bracket) (ts : List Token) → 1 ≤ front ts → behind_close b ts ≡ None
front_unclosed b ts h = go (behind_close b ts) (close_sound b ts)
  where
    go : (r : Option (List Token)) → Behind (mark (close_mark b)) r ts → r ≡ None
    go None e = refl
    go (Some u) e = let zero_front : front ts ≡ 0 = ap front e ∙ front_close b u in absurd (Prim.omega (arith, h, zero_front))

-- no keyword stands before a name that nothing is assigned to
pub name_free : (x : List ℕ) (ts : List Token) → Free ts → keyword_at (name x ∷ ts) ≡ None
unfolding keyword_at
name_free x ts h = go (next ts) h
  where
    go : (r : Next) → free_of r ≡ true → keyword_step x r ≡ None
    go (assign_next u) e = Prim.cc
    go (operator o u) e = refl
    go (dot_next u) e = refl
    go (index_next u) e = refl
    go (call_next u) e = refl
    go (if_next u) e = refl
    go nothing e = refl
