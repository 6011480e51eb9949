-- Reading the form of a logical line from its tokens.
use Rattle.std.specs.Prelude.{ℕ, zero, suc, Bool, true, List, [], ◌∷◌, Option, Some, None, length}
use Rattle.lexer.specs.declared.token.Word.{Word}
use Rattle.lexer.specs.declared.token.Word.TheVariants.{Break, Continue, Def, Elif, Else, For, If}
use Rattle.lexer.specs.declared.token.Word.TheVariants.{Load, Not, Pass, Return}
use Rattle.lexer.specs.declared.token.Mark.TheVariants.{Comma, Assign, AddAssign}
use Rattle.lexer.specs.declared.layout.Bracket.TheVariants.{Round}
use Rattle.lexer.specs.Tokens.{Token, name, string, word, mark}
use Rattle.grammar.specs.Tree.{Expr, identifier, index}
use Rattle.grammar.specs.Front.{Next, call_next, assign_next, next, name_at, keyword_at, names_in}
use Rattle.grammar.specs.Front.{behind_close, behind_comma, behind_colon}
use Rattle.grammar.specs.Reading.{Parse, then_read, Row, whole, read, if_last}
use Rattle.grammar.specs.Statements.{Listed, alone, followed, Simple, assigns, assigns_at}
use Rattle.grammar.specs.Statements.{increases, increases_at, evaluates, passes, breaks, continues}
use Rattle.grammar.specs.Statements.{returns, returns_list, Body, block, inline, Param, required}
use Rattle.grammar.specs.Statements.{optional, Item, same_name, renamed, Commas, none_more}
use Rattle.grammar.specs.Statements.{last_one, and_more, some_more, Form, loads, simple, defines}
use Rattle.grammar.specs.Statements.{if_head, elif_head, else_head, for_head}

-- what follows, where something was found
abbrev pub then_found : {A B : Type 0} → Option A → (A → Option B) → Option B
then_found None f = None
then_found (Some a) f = f a

-- how a line begins: with a word that begins no expression, or with what may be one
pub data Lead : Type 0 where
  no_tokens : Lead
  leads : Word → List Token → Lead
  no_word : Lead

-- how a line begins, by its first token; `not` begins an expression
unfoldable pub lead : List Token → Lead
lead [] = no_tokens
lead (word Not ∷ ts) = no_word
lead (word w ∷ ts) = leads w ts
lead _ = no_word

-- what is behind an expression in a line
pub data Then : Type 0 where
  ended : Then
  assigned increased listing : List Token → Then
  other : Then

-- what is behind an expression: the end, `=`, `+=`, a comma, or something else
unfoldable pub then_at : List Token → Then
then_at [] = ended
then_at (mark Assign ∷ ts) = assigned ts
then_at (mark AddAssign ∷ ts) = increased ts
then_at (mark Comma ∷ ts) = listing ts
then_at _ = other

-- the names behind commas, and the tokens behind `=`
unfoldable pub names_to : List Token → Option (List (List ℕ) × List Token)
names_to (mark Comma ∷ name x ∷ ts) =
    elim (names_to ts) [ None ↦ None | Some r ↦ Some (x ∷ r.0, r.1) ]
names_to (mark Assign ∷ ts) = Some ([], ts)
names_to _ = None

-- a string that comes next, with the tokens behind it
unfoldable pub string_at : List Token → Option (List ℕ × List Token)
string_at (string s ∷ ts) = Some (s, ts)
string_at _ = None

-- what a `load` binds, by whether a name and `=` come next
abbrev pub renamed_step : List Token → Option (List ℕ × List Token) → Option (Item × List Token)
renamed_step ts None = then_read (string_at ts) (λ s u. Some (same_name s, u))
renamed_step ts (Some r) = then_read (string_at r.1) (λ s u. Some (renamed r.0 s, u))

-- one thing that a `load` binds (Starlark specification, "Load statements")
abbrev pub item_at : Parse Item
item_at ts = renamed_step ts (keyword_at ts)

-- behind a thing: the closing bracket, or a comma and more things
abbrev pub after_one : {A : Type 0} → Parse (Commas A) → A → Option (List Token)
    → Option (List Token) → Option (Commas A × List Token)
after_one more a (Some u) c = Some (last_one a, u)
after_one more a None (Some u) = then_read (more u) (λ l v. Some (and_more a l, v))
after_one more a None None = None

-- the closing bracket, or one thing and what is behind it
abbrev pub commas_step : {A : Type 0} → Parse (Commas A) → Parse A → List Token
    → Option (List Token) → Option (Commas A × List Token)
commas_step more one ts (Some u) = Some (none_more, u)
commas_step more one ts None =
    then_read (one ts) (λ a u. after_one more a (behind_close Round u) (behind_comma u))

-- things with commas, and the closing bracket behind them
unfoldable pub commas : {A : Type 0} → Parse A → ℕ → Parse (Commas A)
commas one zero ts = None
commas one (suc k) ts = commas_step (commas one k) one ts (behind_close Round ts)

-- what is behind `(`, where that comes next
abbrev pub open_at : Next → Option (List Token)
open_at (call_next ts) = Some ts
open_at _ = None

-- what is assigned to: names or an index
abbrev pub assign_to : Expr → List (List ℕ) → Listed → Option Simple
assign_to (identifier x) xs l = Some (assigns x xs l)
assign_to (index f a) [] l = Some (assigns_at f a l)
assign_to _ _ _ = None

-- what `+=` adds to: a name or an index (Starlark specification, "Augmented assignments")
abbrev pub increase : Expr → Expr → Option Simple
increase (identifier x) b = Some (increases x b)
increase (index f a) b = Some (increases_at f a b)
increase _ b = None

-- with what reads expressions, and the most turns that a loop makes
module _ (inside : Row → Parse Expr) (most : ℕ) where
  -- the end, or a comma and more expressions
  abbrev pub listed_step : (List Token → Option Listed) → Expr → Then → Option Listed
  listed_step more a ended = Some (alone a)
  listed_step more a (listing u) = then_found (more u) (λ l. Some (followed a l))
  listed_step more a _ = None

  -- an expression up to the end, or several with commas between them, in at most so many turns
  unfoldable pub listed : ℕ → List Token → Option Listed
  listed zero ts = None
  listed (suc k) ts = then_found (inside whole ts) (λ r. listed_step (listed k) r.0 (then_at r.1))

  -- an assignment to an expression and to the names behind it, where names up to `=` come next
  abbrev pub names_step : Expr → Option (List (List ℕ) × List Token) → Option Simple
  names_step e None = None
  names_step e (Some r) = then_found (listed most r.1) (assign_to e r.0)

  -- an expression alone, or one to which something is assigned, by what is behind it
  abbrev pub target_step : Expr → List Token → Then → Option Simple
  target_step e u ended = Some (evaluates e)
  target_step e u (assigned v) = names_step e (Some ([], v))
  target_step e u (increased v) = then_found (if_last (inside whole v)) (increase e)
  target_step e u (listing v) = names_step e (names_to u)
  target_step e u other = None

  -- a statement that begins with a word of its own
  abbrev pub simple_word : Word → List Token → Option Simple
  simple_word Pass [] = Some passes
  simple_word Break [] = Some breaks
  simple_word Continue [] = Some continues
  simple_word Return [] = Some returns
  simple_word Return (t ∷ ts) = then_found (listed most (t ∷ ts)) (λ l. Some (returns_list l))
  simple_word _ _ = None

  -- a statement without a head, by how it begins
  abbrev pub simple_lead : List Token → Lead → Option Simple
  simple_lead ts no_tokens = None
  simple_lead ts (leads w u) = simple_word w u
  simple_lead ts no_word = then_found (inside whole ts) (λ r. target_step r.0 r.1 (then_at r.1))

  -- a statement without a head
  unfoldable pub simple_at : List Token → Option Simple
  simple_at ts = simple_lead ts (lead ts)

  -- what belongs to a head: the statement behind its `:`, or the block that follows where the line
  -- ends there
  abbrev pub inline_step : List Token → Option Simple → Option Body
  inline_step u (Some s) = Some (inline s)
  inline_step [] None = Some block
  inline_step (t ∷ u) None = None

  -- what belongs to a head, from what is behind its `:`, if it has one
  abbrev pub body_step : Option (List Token) → Option Body
  body_step None = None
  body_step (Some u) = inline_step u (simple_at u)

  -- the `:` of a head, and what is behind it
  abbrev pub body_at : List Token → Option Body
  body_at ts = body_step (behind_colon ts)

  -- a parameter, by whether `=` and a default are behind its name
  abbrev pub default_step : List ℕ → List Token → Next → Option (Param × List Token)
  default_step x u (assign_next v) = then_read (inside whole v) (λ a w. Some (optional x a, w))
  default_step x u _ = Some (required x, u)

  -- a parameter of a `def` (Starlark specification, "Function definitions")
  abbrev pub param_at : Parse Param
  param_at ts = then_read (name_at ts) (λ x u. default_step x u (next u))

  -- an expression, `:` and what is behind it
  abbrev pub headed : (Expr → Body → Form) → List Token → Option Form
  headed make ts =
      then_found (inside whole ts) (λ r. then_found (body_at r.1) (λ b. Some (make r.0 b)))

  -- the head of a function, behind its `def`
  abbrev pub def_at : List Token → Option Form
  def_at ts =
      then_found (name_at ts) (λ r. then_found (open_at (next r.1)) (λ u.
      then_found (commas param_at most u) (λ ps. then_found (body_at ps.1) (λ b.
      Some (defines r.0 ps.0 b)))))

  -- a `load`, where it binds something and its line ends with it
  abbrev pub load_end : List ℕ → Commas Item → List Token → Bool → Option Form
  load_end s l [] true = Some (loads s l)
  load_end s l _ _ = None

  -- a `load`, behind that word: the module's name, and what is bound
  abbrev pub load_at : List Token → Option Form
  load_at ts =
      then_found (open_at (next ts)) (λ u. then_found (string_at u) (λ s.
      then_found (behind_comma s.1) (λ v. then_found (commas item_at most v) (λ l.
      load_end s.0 l.0 l.1 (some_more l.0)))))

  -- a line that is a statement without a head
  abbrev pub simply : List Token → Option Form
  simply ts = then_found (simple_at ts) (λ s. Some (simple s))

  -- a logical line that begins with a word, by that word
  abbrev pub form_word : List Token → Word → List Token → Option Form
  form_word ts Load u = load_at u
  form_word ts Def u = def_at u
  form_word ts If u = headed if_head u
  form_word ts Elif u = headed elif_head u
  form_word ts Else u = then_found (body_at u) (λ b. Some (else_head b))
  form_word ts For u =
      then_found (name_at u) (λ r. then_found (names_in r.1) (λ s. headed (for_head r.0 s.0) s.1))
  form_word ts _ u = simply ts

  -- a logical line, by how it begins
  abbrev pub form_lead : List Token → Lead → Option Form
  form_lead ts no_tokens = None
  form_lead ts (leads w u) = form_word ts w u
  form_lead ts no_word = simply ts

  -- a logical line
  unfoldable pub form_at : List Token → Option Form
  form_at ts = form_lead ts (lead ts)

-- as many turns as there are tokens, and one more, are enough
abbrev pub form_reads : List Token → Option Form
form_reads ts = form_at (read (suc (length ts))) (suc (length ts)) ts
