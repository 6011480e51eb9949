-- Reading the form of a logical line, none of whose expressions is more than 200 deep.
use Rattle.std.specs.Prelude.{ℕ, zero, suc, ◌-◌, Bool, true, false, List, [], ◌∷◌, ◌++◌, length}
use Rattle.std.specs.Prelude.{Option, Some, None}
use Rattle.lexer.specs.declared.token.Word.TheVariants.{And, Break, Continue, Def, Elif, Else, For}
use Rattle.lexer.specs.declared.token.Word.TheVariants.{If, In, Load, Or, Pass, Reserved, Return}
use Rattle.lexer.specs.declared.token.Mark.TheVariants.{OpenParen, Assign, AddAssign}
use Rattle.lexer.specs.declared.layout.Bracket.TheVariants.{Round}
use Rattle.grammar.specs.declared.parts.Row.TheVariants.{Whole}
use Rattle.grammar.specs.declared.ahead.Opening.{Opening}
use Rattle.grammar.specs.declared.ahead.Opening.TheVariants as o
use Rattle.lexer.specs.Tokens.{Token, word, mark}
use Rattle.grammar.specs.Bare.{Tree}
use Rattle.grammar.specs.BareLines.{Param, required, optional, Item, Form, loads, defines, if_head}
use Rattle.grammar.specs.BareLines.{elif_head, else_head, for_head, assigns, assigns_at, increases}
use Rattle.grammar.specs.BareLines.{increases_at, evaluates, passes, breaks, continues, returns}
use Rattle.grammar.specs.Built.{Belongs, nothing, block, statement}
use Rattle.grammar.specs.Front.{name_at, names_in, behind_comma, behind_colon}
use Rattle.grammar.specs.Reading.{Parse, then_read}
use Rattle.grammar.specs.FormReading.{then_found, names_to}
use Rattle.grammar.specs.Ahead.{given, is_done, named_at, string_at}
use Rattle.grammar.specs.Descent.{Part, Target, target_name, target_at, target_in, Several}
use Rattle.grammar.specs.Descent.{no_items, with_item, tuple_part, gather, if_all, read}

-- how a line begins: with a word that begins no expression, or with none
unfoldable pub opening_at : List Token → Option (Opening × List Token)
opening_at [] = Some (o.Other, [])
opening_at (word Load ∷ ts) = Some (o.Load, ts)
opening_at (word Def ∷ ts) = Some (o.Def, ts)
opening_at (word If ∷ ts) = Some (o.If, ts)
opening_at (word Elif ∷ ts) = Some (o.Elif, ts)
opening_at (word Else ∷ ts) = Some (o.Else, ts)
opening_at (word For ∷ ts) = Some (o.For, ts)
opening_at (word Pass ∷ ts) = Some (o.Pass, ts)
opening_at (word Break ∷ ts) = Some (o.Break, ts)
opening_at (word Continue ∷ ts) = Some (o.Continue, ts)
opening_at (word Return ∷ ts) = Some (o.Return, ts)
opening_at (word And ∷ ts) = Some (o.Other, ts)
opening_at (word In ∷ ts) = Some (o.Other, ts)
opening_at (word Or ∷ ts) = Some (o.Other, ts)
opening_at (word Reserved ∷ ts) = Some (o.Other, ts)
opening_at _ = None

-- what is behind `=`, where that comes next
unfoldable pub behind_assign : List Token → Option (List Token)
behind_assign (mark Assign ∷ ts) = Some ts
behind_assign _ = None

-- what is behind `+=`, where that comes next
unfoldable pub behind_add : List Token → Option (List Token)
behind_add (mark AddAssign ∷ ts) = Some ts
behind_add _ = None

-- what is behind `(`, where that comes next
unfoldable pub behind_open : List Token → Option (List Token)
behind_open (mark OpenParen ∷ ts) = Some ts
behind_open _ = None

-- an assignment to a part and to the names behind it: to names, or to one index (Starlark
-- specification, "Assignments"). What is in brackets alone, and all else, is no target
abbrev pub assigned : Part → List (List ℕ) → Tree → Option Form
assigned p xs t = assigned_to p.is_target (target_in p.tree) xs t
  where
    assigned_to : Bool → Option Target → List (List ℕ) → Tree → Option Form
    assigned_to true (Some (target_name x)) xs t = Some (assigns x xs t)
    assigned_to true (Some (target_at f a)) [] t = Some (assigns_at f a t)
    assigned_to _ _ _ _ = None

-- `+=` to a part that is a name or an index (Starlark specification, "Augmented assignments")
abbrev pub increased : Part → Tree → Option Form
increased p t = increased_to p.is_target (target_in p.tree) t
  where
    increased_to : Bool → Option Target → Tree → Option Form
    increased_to true (Some (target_name x)) t = Some (increases x t)
    increased_to true (Some (target_at f a)) t = Some (increases_at f a t)
    increased_to _ _ _ = None

-- a line, and what belongs to it
abbrev pub Shaped : Type 0
Shaped = Form × Belongs

-- with so many turns
module _ (n : ℕ) where
  -- the end, or a comma and more expressions
  abbrev pub more_step : (Several → List Token → Option Several) → Several → List Token
      → Option (List Token) → Option Several
  more_step more s u None = given (is_done u) s
  more_step more s u (Some v) = more s v

  -- expressions with commas between them, up to the end
  unfoldable pub more_values : ℕ → Several → List Token → Option Several
  more_values zero s ts = None
  more_values (suc k) s ts =
      then_found (read n Whole 199 ts)
      (λ p. more_step (more_values k) (with_item s p.0) p.1 (behind_comma p.1))

  -- the expression alone at the end, or a comma, which makes a tuple
  abbrev pub value_step : ℕ → Part → List Token → Option (List Token) → Option Tree
  value_step k a u None = given (is_done u) a.tree
  value_step k a u (Some v) =
      then_found (more_values k (with_item no_items a) v)
      (λ s. then_found (tuple_part 200 s) (λ p. Some p.tree))

  -- an expression up to the end, or several, which are a tuple
  unfoldable pub value : List Token → Option Tree
  value ts = then_found (read n Whole 200 ts) (λ p. value_step (n - 1) p.0 p.1 (behind_comma p.1))

  -- an assignment to several names, where names up to `=` come next
  abbrev pub names_step : Part → Option (List (List ℕ) × List Token) → Option Form
  names_step a None = None
  names_step a (Some r) = then_found (value r.1) (assigned a r.0)

  -- `+=` where that comes next, or names and `=`
  abbrev pub add_step : Part → List Token → Option (List Token) → Option Form
  add_step a u (Some v) = then_found (if_all (read n Whole 200 v)) (increased a)
  add_step a u None = names_step a (names_to u)

  -- `=` where that comes next, or one of the others
  abbrev pub assign_step : Part → List Token → Option (List Token) → Option Form
  assign_step a u (Some v) = then_found (value v) (assigned a [])
  assign_step a u None = add_step a u (behind_add u)

  -- an expression alone, or one to which something is assigned
  abbrev pub target_step : Part → List Token → Bool → Option Form
  target_step a u true = Some (evaluates a.tree)
  target_step a u false = assign_step a u (behind_assign u)

  -- a line that begins with an expression
  unfoldable pub expression_line : List Token → Option Form
  expression_line ts = then_found (read n Whole 200 ts) (λ p. target_step p.0 p.1 (is_done p.1))

  -- `return` alone, or with a value (Starlark specification, "Return statements")
  abbrev pub return_step : List Token → Bool → Option Form
  return_step u true = Some (returns None)
  return_step u false = then_found (value u) (λ t. Some (returns (Some t)))

  -- a statement without a head, by how it begins
  abbrev pub simple_step : List Token → Option (Opening × List Token) → Option Form
  simple_step ts None = expression_line ts
  simple_step ts (Some (o.Pass, u)) = given (is_done u) passes
  simple_step ts (Some (o.Break, u)) = given (is_done u) breaks
  simple_step ts (Some (o.Continue, u)) = given (is_done u) continues
  simple_step ts (Some (o.Return, u)) = return_step u (is_done u)
  simple_step ts _ = None

  -- a statement without a head
  unfoldable pub simple : List Token → Option Form
  simple ts = simple_step ts (opening_at ts)

  -- what belongs to a head: the block that follows, or the statement behind its `:`
  abbrev pub inline_step : List Token → Bool → Option Belongs
  inline_step u true = Some block
  inline_step u false = then_found (simple u) (λ f. Some (statement f))

  -- what belongs to a head, from what is behind its `:`, if it has one
  abbrev pub body_step : Option (List Token) → Option Belongs
  body_step None = None
  body_step (Some u) = inline_step u (is_done u)

  -- the `:` of a head, and what is behind it
  unfoldable pub body : List Token → Option Belongs
  body ts = body_step (behind_colon ts)

  -- a parameter, by whether `=` and a default are behind its name
  abbrev pub default_step : List ℕ → List Token → Option (List Token) → Option (Param × List Token)
  default_step x u None = Some (required x, u)
  default_step x u (Some v) = then_read (read n Whole 200 v) (λ a w. Some (optional x a.tree, w))

  -- a parameter of a `def` (Starlark specification, "Function definitions")
  unfoldable pub param : Parse Param
  param ts = then_read (name_at ts) (λ x u. default_step x u (behind_assign u))

  -- one parameter more, at the end
  abbrev pub with_param : List Param → Param → List Param
  with_param ps p = ps ++ p ∷ []

  -- the parameters of a `def`, up to the closing bracket
  unfoldable pub params : Parse (List Param)
  params ts = gather param with_param Round n [] ts

  -- what a `load` binds, by whether a name and `=` come next
  abbrev pub item_step : List Token → Option (List ℕ × List Token) → Option (Item × List Token)
  item_step ts None = then_read (string_at ts) (λ s u. Some (record { binds = s; asked = s }, u))
  item_step ts (Some p) =
      then_read (string_at p.1) (λ s u. Some (record { binds = p.0; asked = s }, u))

  -- one thing that a `load` binds (Starlark specification, "Load statements")
  unfoldable pub item : Parse Item
  item ts = item_step ts (named_at ts)

  -- one thing more that a `load` binds, at the end
  abbrev pub with_item_of : List Item → Item → List Item
  with_item_of is i = is ++ i ∷ []

  -- the things that a `load` binds, up to the closing bracket
  unfoldable pub items : Parse (List Item)
  items ts = gather item with_item_of Round n [] ts

  -- a head with what belongs to it, where its `:` was found
  abbrev pub bodied : Form → Option Belongs → Option Shaped
  bodied f None = None
  bodied f (Some b) = Some (f, b)

  -- an expression and a body
  unfoldable pub headed : (Tree → Form) → List Token → Option Shaped
  headed make ts = then_found (read n Whole 200 ts) (λ p. bodied (make p.0.tree) (body p.1))

  -- behind the name of a `def`: its parameters, and its `:`
  abbrev pub def_open : List ℕ → Option (List Token) → Option Shaped
  def_open x None = None
  def_open x (Some u) = then_found (params u) (λ ps. bodied (defines x ps.0) (body ps.1))

  -- the head of a function, behind its `def`
  unfoldable pub def_line : List Token → Option Shaped
  def_line ts = then_found (name_at ts) (λ r. def_open r.0 (behind_open r.1))

  -- a `load` binds something
  abbrev pub some_items : List Item → Bool
  some_items [] = false
  some_items (i ∷ is) = true

  -- a `load`, where it binds something and its line ends with it
  abbrev pub load_end : List ℕ → List Item → Bool → Bool → Option Shaped
  load_end s is true true = Some (loads s is, nothing)
  load_end s is _ _ = None

  -- behind the module that a `load` names: a comma, and what it binds
  abbrev pub load_comma : List ℕ → Option (List Token) → Option Shaped
  load_comma s None = None
  load_comma s (Some u) = then_found (items u) (λ l. load_end s l.0 (some_items l.0) (is_done l.1))

  -- behind `load`: a bracket, and the module's name
  abbrev pub load_open : Option (List Token) → Option Shaped
  load_open None = None
  load_open (Some u) = then_found (string_at u) (λ s. load_comma s.0 (behind_comma s.1))

  -- a `load`, behind that word
  unfoldable pub load_line : List Token → Option Shaped
  load_line ts = load_open (behind_open ts)

  -- the head of a loop, behind its `for`: names, `in`, an expression and the `:`
  unfoldable pub for_line : List Token → Option Shaped
  for_line ts =
      then_found (name_at ts) (λ r. then_found (names_in r.1) (λ s. headed (for_head r.0 s.0) s.1))

  -- a line to which nothing belongs
  abbrev pub plainly : Option Form → Option Shaped
  plainly None = None
  plainly (Some f) = Some (f, nothing)

  -- a logical line, by how it begins
  abbrev pub form_step : List Token → Option (Opening × List Token) → Option Shaped
  form_step ts None = plainly (simple_step ts None)
  form_step ts (Some (o.Load, u)) = load_line u
  form_step ts (Some (o.Def, u)) = def_line u
  form_step ts (Some (o.If, u)) = headed if_head u
  form_step ts (Some (o.Elif, u)) = headed elif_head u
  form_step ts (Some (o.Else, u)) = bodied else_head (body u)
  form_step ts (Some (o.For, u)) = for_line u
  form_step ts (Some (w, u)) = plainly (simple_step ts (Some (w, u)))

  -- a logical line, with what belongs to it
  unfoldable pub form : List Token → Option Shaped
  form ts = form_step ts (opening_at ts)

-- as many turns as there are tokens, and one more, are enough
unfoldable pub reads_form : List Token → Option Shaped
reads_form ts = form (suc (length ts)) ts
