-- What is left of a logical line, and what is taken from its front.
use Rattle.std.specs.Prelude.{◌≡◌, ◌≢◌, ◌≤◌, ◌==◌, ℕ, Bool, true, false, List, [], ◌∷◌, map, Option}
use Rattle.std.specs.Prelude.{Some, None, Result, Ok, Err}
use Rattle.lexer.specs.declared.token.Token as found
use Rattle.lexer.specs.declared.token.Word.TheVariants.{If, Not}
use Rattle.lexer.specs.declared.token.Mark.TheVariants.{OpenParen, OpenBracket, Dot, Assign, Minus}
use Rattle.lexer.specs.declared.layout.Bracket.{Bracket}
use Rattle.grammar.specs.declared.ahead.Suffix.{Suffix}
use Rattle.grammar.specs.declared.ahead.Suffix.TheVariants as suffix
use Rattle.grammar.specs.declared.ahead.Stop.{Stop}
use Rattle.grammar.specs.declared.ahead.Stop.TheVariants as stop
use Rattle.lexer.specs.Layout.{opening}
use Rattle.lexer.specs.Tokens.{Token, name, number, string, word, mark}
use Rattle.lexer.specs.Seen.{token_seen}
use Rattle.grammar.specs.Tree.{Operator}
use Rattle.grammar.specs.Levels.{operator_level}
use Rattle.grammar.specs.declared.ahead.Head as heads
use Rattle.grammar.specs.declared.ahead.Head.TheVariants as h
use Rattle.grammar.specs.Front.{Next, operator, next, Head, for_head, if_head, no_head}

-- the program's tokens without their places
abbrev pub tokens_seen : List ℕ → List found.Token → List Token
tokens_seen text ts = map (λ t. token_seen text t.kind) ts

-- nothing is left
abbrev pub is_done : List Token → Bool
is_done [] = true
is_done (t ∷ ts) = false

-- something of the front was passed by, or it isn't there and nothing was
abbrev pub Passes : Option (List Token) → Bool → List Token → List Token → Type 0
Passes o true old new = o ≡ Some new
Passes o false old new = (o ≡ None) × (new ≡ old)

-- this token was passed by, or it doesn't come next and nothing was
abbrev pub PassesToken : Token → Bool → List Token → List Token → Type 0
PassesToken t true old new = old ≡ t ∷ new
PassesToken t false old new = ((ts : List Token) → old ≢ t ∷ ts) × (new ≡ old)

-- as of `Passes`, of something that is kept
abbrev pub Takes : {X A : Type 0} → (X → A) → Option (A × List Token) → Option X → List Token
    → List Token → Type 0
Takes view o (Some x) old new = o ≡ Some (view x, new)
Takes view o None old new = (o ≡ None) × (new ≡ old)

-- what a function that reads ensures: the definition's outcome, unless memory is refused
abbrev pub Reads : {X A : Type 0} → (X → A) → Option (A × List Token) → Result X Stop → List Token
    → Type 0
Reads view o (Ok x) new = o ≡ Some (view x, new)
Reads view o (Err stop.NoForm) new = o ≡ None
Reads view o (Err stop.NoMemory) new = Unit {0}

-- something, where a test holds
abbrev pub given : {A : Type 0} → Bool → A → Option A
given true a = Some a
given false a = None

-- the operator that comes next, if one does
abbrev pub operator_of : Next → Option (Operator × List Token)
operator_of (operator o u) = Some (o, u)
operator_of _ = None

-- an operator of a level, if it comes next (Starlark specification, "Binary operators": precedence)
abbrev pub of_level : ℕ → Next → Option (Operator × List Token)
of_level l (operator o u) = given (operator_level o == l) (o, u)
of_level l _ = None

-- the operator of this level that comes next, if one does, with the tokens behind it
abbrev pub operator_at : ℕ → List Token → Option (Operator × List Token)
operator_at l ts = of_level l (next ts)

-- what is behind `not`, where that comes next (Starlark specification, "Unary operators")
unfoldable pub behind_not : List Token → Option (List Token)
behind_not (word Not ∷ ts) = Some ts
behind_not _ = None

-- what is behind `-`, where that comes next (Starlark specification, "Unary operators")
unfoldable pub behind_minus : List Token → Option (List Token)
behind_minus (mark Minus ∷ ts) = Some ts
behind_minus _ = None

-- what is behind the `if` of a conditional, where that comes next (Starlark specification,
-- "Conditional expressions")
unfoldable pub behind_if : List Token → Option (List Token)
behind_if (word If ∷ ts) = Some ts
behind_if _ = None

-- no operator comes next
abbrev pub Ends : List Token → Type 0
Ends ts = (l : ℕ) → operator_at l ts ≡ None

-- `not` was passed by before an expression of a level that may have it, or it doesn't come next
-- there
abbrev pub Negates : ℕ → Bool → List Token → List Token → Type 0
Negates l true old new = (l ≤ 4) × (behind_not old ≡ Some new)
Negates l false old new = (l ≤ 4 → behind_not old ≡ None) × (new ≡ old)

-- how an expression goes on: with a field, an index or a call
unfoldable pub suffix_at : List Token → Option (Suffix × List Token)
suffix_at (mark Dot ∷ ts) = Some (suffix.Attribute, ts)
suffix_at (mark OpenBracket ∷ ts) = Some (suffix.Index, ts)
suffix_at (mark OpenParen ∷ ts) = Some (suffix.Call, ts)
suffix_at _ = None

-- the name of an argument or a parameter with its `=`
unfoldable pub named_at : List Token → Option (List ℕ × List Token)
named_at (name x ∷ mark Assign ∷ ts) = Some (x, ts)
named_at _ = None

-- a number that comes next, with the tokens behind it
unfoldable pub number_at : List Token → Option (ℕ × List Token)
number_at (number n ∷ ts) = Some (n, ts)
number_at _ = None

-- a string that comes next, with the tokens behind it
unfoldable pub string_at : List Token → Option (List ℕ × List Token)
string_at (string s ∷ ts) = Some (s, ts)
string_at _ = None

-- something that was found, with the tokens behind it
abbrev pub with_rest : {A B : Type 0} → Option A → B → Option (A × B)
with_rest None b = None
with_rest (Some a) b = Some (a, b)

-- the bracket that is opened next, with the tokens behind it
unfoldable pub bracket_at : List Token → Option (Bracket × List Token)
bracket_at (mark m ∷ ts) = with_rest (opening m) ts
bracket_at _ = None

-- the same of a function that makes something of what was read
abbrev pub Makes : {X A : Type 0} → (X → A) → Option A → Result X Stop → Type 0
Makes view o (Ok x) = o ≡ Some (view x)
Makes view o (Err stop.NoForm) = o ≡ None
Makes view o (Err stop.NoMemory) = Unit {0}

-- how a clause of a comprehension begins was taken, or nothing was
abbrev pub HasHead : Head → heads.Head → List Token → List Token → Type 0
HasHead head (h.For x xs) old new = head ≡ for_head x xs.items new
HasHead head h.If old new = head ≡ if_head new
HasHead head h.Other old new = (head ≡ no_head) × (new ≡ old)
