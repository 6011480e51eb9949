-- The functions of files, by their numbers, and the lines of their `def`s. (Starlark specification,
-- "Function definitions".)
use Rattle.std.specs.Prelude.{ℕ, List, [], ◌∷◌, map, Option, Some, None, slice_get, unwrap_or}
use Rattle.program_tree.specs.Names.{Name}
use Rattle.program_tree.specs.Resolved.{Statement, define, Steps, no_steps, step, Program}
use Rattle.meaning.specs.Operations.{FunctionId}
use Rattle.meaning.specs.Entry.{in_file}

-- a function: its name, the line of its `def`, its parameters, how many slots it has, those of
-- comprehensions too, and its statements
pub record Function : Type 0 where
  pub name : Name
  pub line : Option ℕ
  pub params : List Name
  pub slots : ℕ
  pub body : Steps

-- the function of a statement at line n, if that is a `def`, before others. It has the name that it
-- binds at the top level, of which the tree has the number
abbrev pub before : List Name → ℕ → Statement → List Function → List Function
before names n (define k x ps ds slots body) fs =
    record {
      name = unwrap_or (slice_get names x) [];
      line = Some n;
      params = ps;
      slots = slots;
      body = body;
    } ∷ fs
before names n _ fs = fs

-- the functions that statements define, in the order of the text
abbrev pub functions_of : List Name → Steps → List Function
functions_of names no_steps = []
functions_of names (step n st rest) = before names n st (functions_of names rest)

-- a file's top level, which has no name, no `def` and no parameters
abbrev pub top_level : Program → Function
top_level p = record { name = []; line = None; params = []; slots = p.slots; body = p.steps }

-- all functions of a file, by number
abbrev pub functions : Program → List Function
functions p = top_level p ∷ functions_of p.globals p.steps

-- the files that are linked, whose paths stand beside them
abbrev pub Files : Type 0
Files = List Program

-- the function of this number in its file, if there is one
abbrev pub function_at : Files → FunctionId → Option Function
function_at files f = in_file (slice_get (map functions files) f.file) f.number

-- the name of a function that was looked up
abbrev pub its_name : Option Function → Name
its_name None = []
its_name (Some d) = d.name

-- the name of the function of this number
abbrev pub function_name : Files → FunctionId → Name
function_name files f = its_name (function_at files f)

-- the line of the `def` of a function that was looked up
abbrev pub its_line : Option Function → Option ℕ
its_line None = None
its_line (Some d) = d.line

-- the line of the `def` of a function, at which it is called from outside; a top level has none
abbrev pub def_line : Files → FunctionId → Option ℕ
def_line files f = its_line (function_at files f)
