-- What evaluation does to values and to a state, as a record of operations. What each of them does
-- is said by the crates above: this one only puts them in order, and all that it says is so for
-- every such record. (This project's own.)
--
-- `S` is the type of states: the heap, the names of files, the ticks, and whatever else operations
-- change. `V` is the type of values, `K` that of the kinds of fault.
use Rattle.std.specs.Prelude.{ℕ, List, Option, Bool, Result}
use Rattle.grammar.specs.Tree.{Operator, Sign}
use Rattle.program_tree.specs.Names.{Name}
use Rattle.meaning.specs.Names.{Predeclared}

-- an operation on a state: what it gives and the state after it, or the kind of its fault
abbrev pub Operation : Type 0 → Type 0 → Type 0 → Type 0
Operation S K A = S → Result (A × S) K

-- the faults that evaluation itself finds, whatever the values are: a name that isn't set yet, a
-- value that can't be called, arguments that don't fit, a function that is active already, and too
-- many active functions
pub data Refusal : Type 0 where
  unset wrong_type arity recursion deep : Refusal

-- a function written in Starlark: the number of its file among those that are linked, and its own
-- number in that file, from 1 on in the order of the text. Number 0 is the file's top level
pub record FunctionId : Type 0 where
  pub file : ℕ
  pub number : ℕ

-- what a call calls: a value, or a method of a value
pub data Callee (V : Type 0) : Type 0 where
  plain : V → Callee V
  method : V → Name → Callee V

-- the arguments of a call: those by position, and those by name in the order of the text
pub record Arguments (V : Type 0) : Type 0 where
  pub items : List V
  pub named : List (Name × V)

-- all that evaluation asks of values and of a state
pub record Operations (S V K : Type 0) : Type 0 where
  -- the kinds of the faults that evaluation finds
  pub refusal : Refusal → K
  -- the values that a file writes out, and those that each file finds bound
  pub number : ℕ → V
  pub string : List ℕ → V
  pub none : V
  pub predeclared : Predeclared → V
  -- whether a value counts as true
  pub truth : S → V → Bool
  -- one tick, or the fault of the tick that is one too many
  pub tick : Operation S K Unit
  -- `x + y` and the other operators but `and` and `or`; `not x` and `-x`; what `x += y` assigns to
  -- `x`
  pub binary : Operator → V → V → Operation S K V
  pub sign : Sign → V → Operation S K V
  pub increase : V → V → Operation S K V
  -- `x.NAME`; `x[i]`; and `x[i] = v`, of x, i and v
  pub field : V → Name → Operation S K V
  pub item : V → V → Operation S K V
  pub set_item : V → V → V → Operation S K Unit
  -- a new list or tuple of these items; a list that a comprehension makes gets an item more
  pub new_list : List V → Operation S K V
  pub new_tuple : List V → Operation S K V
  pub collect : V → V → Operation S K Unit
  -- a new dict without entries; an entry more (dict, key, value) of a display, and of a
  -- comprehension, where the later value of a key stays
  pub new_dict : Operation S K V
  pub enter : V → V → V → Operation S K Unit
  pub keep : V → V → V → Operation S K Unit
  -- a walk over a value begins, and gives the items that it goes over; it ends
  pub begin : V → Operation S K (List V)
  pub end : V → S → S
  -- the items of a sequence that is unpacked
  pub parts : V → Operation S K (List V)
  -- the value of a name of the top level, by the number of the file and the name's number in it: a
  -- global of the file, or a name that one of its loads binds
  pub global : ℕ → ℕ → Operation S K V
  -- a global of the file gets a value; it is frozen and named when the file ends
  pub set_global : ℕ → ℕ → V → S → S
  -- a name that a load binds gets its value; it is no global of the file, which doesn't hand it on
  pub set_loaded : ℕ → ℕ → V → S → S
  -- what a load asks for: the file that loads, the text of the label, the name in the module
  pub loaded : ℕ → List ℕ → Name → Operation S K V
  -- the function that a `def` makes, with its name and the values of its defaults, and the defaults
  -- that were kept
  pub define : FunctionId → Name → List V → Operation S K V
  pub defaults : FunctionId → S → List V
  -- which function written in Starlark a value is, if it is one
  pub function : V → Option FunctionId
  -- what `x.NAME` is where it is called: a method of `x`, or the value of its field
  pub find : V → Name → Operation S K (Callee V)
  -- a call of what isn't written in Starlark
  pub call : Callee V → Arguments V → Operation S K V
