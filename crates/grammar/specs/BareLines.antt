-- The lines of a file without what only their writing has: a statement on the line of its head is
-- the one line of a block.
use Rattle.std.specs.Prelude.{ℕ, List, [], ◌∷◌, Option, Some, None}
use Rattle.grammar.specs.Statements as written
use Rattle.grammar.specs.Blocks as laid
use Rattle.grammar.specs.Bare.{Tree, tuple, Trees, no_trees, more_trees, bare}

-- a parameter, without a default or with one (Starlark specification, "Function definitions")
pub data Param : Type 0 where
  required : List ℕ → Param
  optional : List ℕ → Tree → Param

-- what a `load` asks for: the name that it binds, and the one in the module (Starlark
-- specification, "Load statements")
pub record Item : Type 0 where
  pub binds : List ℕ
  pub asked : List ℕ

-- a line (Starlark specification, "Statements"). A head has its lines in the block behind it; a
-- first name stands before the others
pub data Form : Type 0 where
  loads : List ℕ → List Item → Form
  defines : List ℕ → List Param → Form
  if_head elif_head : Tree → Form
  else_head : Form
  for_head : List ℕ → List (List ℕ) → Tree → Form
  assigns : List ℕ → List (List ℕ) → Tree → Form
  assigns_at : Tree → Tree → Tree → Form
  increases : List ℕ → Tree → Form
  increases_at : Tree → Tree → Tree → Form
  evaluates : Tree → Form
  passes breaks continues : Form
  returns : Option Tree → Form

-- lines one after the other, each with the number of its first line in the file, and the lines of
-- its block
pub data Lines : Type 0 where
  no_lines : Lines
  a_line : ℕ → Form → Lines → Lines → Lines

-- the trees of several expressions, in their order
abbrev pub listed_trees : written.Listed → Trees
listed_trees (written.alone a) = more_trees (bare a) no_trees
listed_trees (written.followed a l) = more_trees (bare a) (listed_trees l)

-- one expression is itself, several are a tuple (Starlark specification, "Expressions")
abbrev pub listed_tree : written.Listed → Tree
listed_tree (written.alone a) = bare a
listed_tree (written.followed a l) = tuple (listed_trees (written.followed a l))

-- the line that a statement without a head is
abbrev pub bare_simple : written.Simple → Form
bare_simple (written.assigns x xs l) = assigns x xs (listed_tree l)
bare_simple (written.assigns_at f a l) = assigns_at (bare f) (bare a) (listed_tree l)
bare_simple (written.increases x a) = increases x (bare a)
bare_simple (written.increases_at f a b) = increases_at (bare f) (bare a) (bare b)
bare_simple (written.evaluates a) = evaluates (bare a)
bare_simple written.passes = passes
bare_simple written.breaks = breaks
bare_simple written.continues = continues
bare_simple written.returns = returns None
bare_simple (written.returns_list l) = returns (Some (listed_tree l))

-- things without their commas
abbrev pub without_commas : {A B : Type 0} → (A → B) → written.Commas A → List B
without_commas f written.none_more = []
without_commas f (written.last_one a) = f a ∷ []
without_commas f (written.and_more a l) = f a ∷ without_commas f l

-- a parameter, with the tree of its default where it has one
abbrev pub bare_param : written.Param → Param
bare_param (written.required x) = required x
bare_param (written.optional x a) = optional x (bare a)

-- what a `load` asks for: a string alone binds the name that it asks for
abbrev pub bare_item : written.Item → Item
bare_item (written.same_name s) = record { binds = s; asked = s }
bare_item (written.renamed x s) = record { binds = x; asked = s }

-- the line that a form is, without what belongs to a head
abbrev pub bare_form : written.Form → Form
bare_form (written.loads s items) = loads s (without_commas bare_item items)
bare_form (written.simple s) = bare_simple s
bare_form (written.defines x ps body) = defines x (without_commas bare_param ps)
bare_form (written.if_head a body) = if_head (bare a)
bare_form (written.elif_head a body) = elif_head (bare a)
bare_form (written.else_head body) = else_head
bare_form (written.for_head x xs a body) = for_head x xs (bare a)

-- the statement on the line of a head, which has the head's number; none where a block follows
abbrev pub body_lines : ℕ → written.Body → Lines
body_lines n written.block = no_lines
body_lines n (written.inline s) = a_line n (bare_simple s) no_lines no_lines

-- the same of each form: only a head can have such a statement
abbrev pub own_lines : ℕ → written.Form → Lines
own_lines n (written.loads s items) = no_lines
own_lines n (written.simple s) = no_lines
own_lines n (written.defines x ps body) = body_lines n body
own_lines n (written.if_head a body) = body_lines n body
own_lines n (written.elif_head a body) = body_lines n body
own_lines n (written.else_head body) = body_lines n body
own_lines n (written.for_head x xs a body) = body_lines n body

-- the lines of a block
abbrev pub bare_lines : laid.Block → Lines
bare_lines laid.no_lines = no_lines
bare_lines (laid.plain_line n f b) = a_line n (bare_form f) (own_lines n f) (bare_lines b)
bare_lines (laid.head_line n f column inner b) =
    a_line n (bare_form f) (bare_lines inner) (bare_lines b)
