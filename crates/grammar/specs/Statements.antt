-- The forms of a logical line.
use Rattle.std.specs.Prelude.{◌≡◌, ℕ, Bool, true, false, List, [], ◌∷◌}
use Rattle.lexer.specs.declared.token.Word.TheVariants.{Break, Continue, Def, Elif, Else, For, If}
use Rattle.lexer.specs.declared.token.Word.TheVariants.{In, Load, Pass, Return}
use Rattle.lexer.specs.declared.token.Mark.TheVariants.{OpenParen, CloseParen, Comma, Colon, Assign}
use Rattle.lexer.specs.declared.token.Mark.TheVariants.{AddAssign}
use Rattle.lexer.specs.Tokens.{Token, name, string, word, mark}
use Rattle.grammar.specs.Tree.{Expr, index}
use Rattle.grammar.specs.Levels.{IsTree}
use Rattle.grammar.specs.Spelling.{spelled, names_spelled}

-- one expression, or several, which are a tuple (Starlark specification, "Expressions"); no comma
-- at the end, which is this project's own choice
pub data Listed : Type 0 where
  alone : Expr → Listed
  followed : Expr → Listed → Listed

-- a statement on one line, without a head (Starlark specification, "Assignments", "Augmented
-- assignments", "Expression statements", "Pass statements", "Break and Continue", "Return
-- statements"). A target is names or an index; that nothing else is one is this project's own
-- choice
pub data Simple : Type 0 where
  assigns : List ℕ → List (List ℕ) → Listed → Simple
  assigns_at : Expr → Expr → Listed → Simple
  increases : List ℕ → Expr → Simple
  increases_at : Expr → Expr → Expr → Simple
  evaluates : Expr → Simple
  passes breaks continues returns : Simple
  returns_list : Listed → Simple

-- what is behind the `:` of a head: nothing, and a block follows, or one simple statement
pub data Body : Type 0 where
  block : Body
  inline : Simple → Body

-- a parameter, without a default or with one (Starlark specification, "Function definitions")
pub data Param : Type 0 where
  required : List ℕ → Param
  optional : List ℕ → Expr → Param

-- what a `load` binds: a string's own name, or another one (Starlark specification, "Load
-- statements")
pub data Item : Type 0 where
  same_name : List ℕ → Item
  renamed : List ℕ → List ℕ → Item

-- things with a comma behind each but the last. A comma at the end has nothing behind it
pub data Commas (A : Type 0) : Type 0 where
  none_more : Commas A
  last_one : A → Commas A
  and_more : A → Commas A → Commas A

-- a logical line (Starlark specification, "Statements")
pub data Form : Type 0 where
  loads : List ℕ → Commas Item → Form
  simple : Simple → Form
  defines : List ℕ → Commas Param → Body → Form
  if_head elif_head : Expr → Body → Form
  else_head : Body → Form
  for_head : List ℕ → List (List ℕ) → Expr → Body → Form

-- each of several expressions is one, by its levels
abbrev pub AreListed : Listed → Type 0
AreListed (alone a) = IsTree a
AreListed (followed a l) = IsTree a × AreListed l

-- each expression in a statement is one; so is an index that is assigned to
abbrev pub IsSimple : Simple → Type 0
IsSimple (assigns x xs l) = AreListed l
IsSimple (assigns_at f a l) = IsTree (index f a) × AreListed l
IsSimple (increases x a) = IsTree a
IsSimple (increases_at f a b) = IsTree (index f a) × IsTree b
IsSimple (evaluates a) = IsTree a
IsSimple (returns_list l) = AreListed l
IsSimple _ = Unit {0}

-- the same of the statement behind the `:` of a head, if there is one
abbrev pub IsBody : Body → Type 0
IsBody block = Unit {0}
IsBody (inline s) = IsSimple s

-- a default is any expression (Starlark specification, "Function definitions")
abbrev pub IsParam : Param → Type 0
IsParam (required x) = Unit {0}
IsParam (optional x a) = IsTree a

-- each default of parameters is an expression
abbrev pub AreParams : Commas Param → Type 0
AreParams none_more = Unit {0}
AreParams (last_one p) = IsParam p
AreParams (and_more p ps) = IsParam p × AreParams ps

-- a `load` binds something
abbrev pub some_more : {A : Type 0} → Commas A → Bool
some_more none_more = false
some_more _ = true

-- each expression of a logical line is one, and a `load` binds something
abbrev pub IsForm : Form → Type 0
IsForm (loads s items) = some_more items ≡ true
IsForm (simple s) = IsSimple s
IsForm (defines x ps body) = AreParams ps × IsBody body
IsForm (if_head a body) = IsTree a × IsBody body
IsForm (elif_head a body) = IsTree a × IsBody body
IsForm (else_head body) = IsBody body
IsForm (for_head x xs a body) = IsTree a × IsBody body

-- the tokens of expressions with commas between them, with which a logical line ends
abbrev pub listed_spelled : Listed → List Token
listed_spelled (alone a) = spelled a []
listed_spelled (followed a l) = spelled a (mark Comma ∷ listed_spelled l)

-- the tokens of a statement without a head, with which a logical line ends
abbrev pub simple_spelled : Simple → List Token
simple_spelled (assigns x xs l) = name x ∷ names_spelled xs (mark Assign ∷ listed_spelled l)
simple_spelled (assigns_at f a l) = spelled (index f a) (mark Assign ∷ listed_spelled l)
simple_spelled (increases x a) = name x ∷ mark AddAssign ∷ spelled a []
simple_spelled (increases_at f a b) = spelled (index f a) (mark AddAssign ∷ spelled b [])
simple_spelled (evaluates a) = spelled a []
simple_spelled passes = word Pass ∷ []
simple_spelled breaks = word Break ∷ []
simple_spelled continues = word Continue ∷ []
simple_spelled returns = word Return ∷ []
simple_spelled (returns_list l) = word Return ∷ listed_spelled l

-- the tokens behind a head: `:`, and the statement on the same line where there is one
abbrev pub body_spelled : Body → List Token
body_spelled block = mark Colon ∷ []
body_spelled (inline s) = mark Colon ∷ simple_spelled s

-- the tokens of a parameter (Starlark specification, "Function definitions")
abbrev pub param_spelled : Param → List Token → List Token
param_spelled (required x) ts = name x ∷ ts
param_spelled (optional x a) ts = name x ∷ mark Assign ∷ spelled a ts

-- the tokens of what a `load` binds (Starlark specification, "Load statements")
abbrev pub item_spelled : Item → List Token → List Token
item_spelled (same_name s) ts = string s ∷ ts
item_spelled (renamed x s) ts = name x ∷ mark Assign ∷ string s ∷ ts

-- the tokens of things with commas between them; a comma at the end has nothing behind it
abbrev pub commas_spelled : {A : Type 0} → (A → List Token → List Token) → Commas A → List Token
    → List Token
commas_spelled f none_more ts = ts
commas_spelled f (last_one a) ts = f a ts
commas_spelled f (and_more a as') ts = f a (mark Comma ∷ commas_spelled f as' ts)

-- the tokens of a logical line (Starlark specification, "Statements")
abbrev pub form_spelled : Form → List Token
form_spelled (loads s items) =
    word Load ∷ mark OpenParen ∷ string s ∷ mark Comma
    ∷ commas_spelled item_spelled items (mark CloseParen ∷ [])
form_spelled (simple s) = simple_spelled s
form_spelled (defines x ps body) =
    word Def ∷ name x ∷ mark OpenParen
    ∷ commas_spelled param_spelled ps (mark CloseParen ∷ body_spelled body)
form_spelled (if_head a body) = word If ∷ spelled a (body_spelled body)
form_spelled (elif_head a body) = word Elif ∷ spelled a (body_spelled body)
form_spelled (else_head body) = word Else ∷ body_spelled body
form_spelled (for_head x xs a body) =
    word For ∷ name x ∷ names_spelled xs (word In ∷ spelled a (body_spelled body))

-- these tokens are those of this form
pub record SpellsForm (ts : List Token) (f : Form) : Type 0 where
  pub is_form : IsForm f
  pub whole : ts ≡ form_spelled f
