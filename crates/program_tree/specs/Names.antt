-- Names: which a file finds bound, which it binds, and for what a name stands.
use Rattle.std.specs.Prelude.{ℕ, ◌+◌, Bool, true, not, ◌&&◌, List, [], ◌∷◌, ◌++◌, map, length}
use Rattle.std.specs.Prelude.{position, Option, Some, None, option_map, bytes_eq, codes}
use Rattle.std.specs.Prelude.{if◌then◌else◌}
use Rattle.std.specs.List.{list_any, list_all}
use Rattle.grammar.specs.Bare.{Rest, done, for_each, only_if}
use Rattle.grammar.specs.BareLines.{Param, required, optional, Form, loads, defines, for_head}
use Rattle.grammar.specs.BareLines.{assigns, increases, Lines, no_lines, a_line}
pub use Rattle.program_tree.specs.declared.names.Binding.{Binding}
pub use Rattle.program_tree.specs.declared.names.Binding.TheVariants.{
  Slot as slot,
  Global as global,
  Builtin as builtin,
}
pub use Rattle.program_tree.specs.declared.names.Predeclared.{Predeclared}
pub use Rattle.program_tree.specs.declared.names.Predeclared.TheVariants.{
  NoneValue as none_value,
  TrueValue as true_value,
  FalseValue as false_value,
  LenFunction as len_function,
  StrFunction as str_function,
  RangeFunction as range_function,
  ListFunction as list_function,
  FailFunction as fail_function,
  DepsetFunction as depset_function,
  ProviderFunction as provider_function,
  RuleFunction as rule_function,
  AttrModule as attr_module,
  DefaultInfo as default_info,
}

-- a name, by its bytes
abbrev pub Name : Type 0
Name = List ℕ

-- of the names that each file finds bound, those of constants: `None`, `True` and `False`
abbrev pub predeclared_value : Name → Option Predeclared
predeclared_value x =
    if bytes_eq x (codes "None") then Some none_value else
    if bytes_eq x (codes "True") then Some true_value else
    if bytes_eq x (codes "False") then Some false_value else
    None

-- those of functions of the language
abbrev pub predeclared_function : Name → Option Predeclared
predeclared_function x =
    if bytes_eq x (codes "len") then Some len_function else
    if bytes_eq x (codes "str") then Some str_function else
    if bytes_eq x (codes "range") then Some range_function else
    if bytes_eq x (codes "list") then Some list_function else
    if bytes_eq x (codes "fail") then Some fail_function else
    None

-- those that Bazel adds for rules, providers and depsets
abbrev pub predeclared_for_rules : Name → Option Predeclared
predeclared_for_rules x =
    if bytes_eq x (codes "depset") then Some depset_function else
    if bytes_eq x (codes "provider") then Some provider_function else
    if bytes_eq x (codes "rule") then Some rule_function else
    if bytes_eq x (codes "attr") then Some attr_module else
    if bytes_eq x (codes "DefaultInfo") then Some default_info else
    None

-- the first that is there
abbrev pub or_else : {A : Type 0} → Option A → Option A → Option A
or_else None b = b
or_else (Some a) b = Some a

-- what a name stands for in a file that doesn't bind it, if anything (Starlark specification,
-- "Built-in constants and functions"; Bazel's documentation of the globals of `BUILD` and `.bzl`
-- files). That no other name is bound in each file is this project's own choice
abbrev pub predeclared : Name → Option Predeclared
predeclared x =
    or_else (predeclared_value x) (or_else (predeclared_function x) (predeclared_for_rules x))

-- whether a name stands in a list of names
abbrev pub among : Name → List Name → Bool
among x xs = list_any (bytes_eq x) xs

-- no name stands there twice
abbrev pub distinct : List Name → Bool
distinct [] = true
distinct (x ∷ xs) = not (among x xs) && distinct xs

-- none of these names stands among those
abbrev pub apart : List Name → List Name → Bool
apart xs ys = list_all (λ x. not (among x ys)) xs

-- a list of names, with each place of one of them left out
abbrev pub without : Name → List Name → List Name
without x [] = []
without x (y ∷ ys) = if bytes_eq x y then without x ys else y ∷ without x ys

-- each name once, at its first place
abbrev pub once : List Name → List Name
once [] = []
once (x ∷ xs) = x ∷ without x (once xs)

-- the name of a parameter, with or without a default
abbrev pub param_name : Param → Name
param_name (required x) = x
param_name (optional x a) = x

-- the names that a line binds (Starlark specification, "Name binding and variables"): `load`,
-- `def`, an assignment and `for` do. That `x += e` does too is the specification's rule for
-- functions, and this project's own choice at the top level
abbrev pub form_binds : Form → List Name
form_binds (loads s items) = map (λ i. i.binds) items
form_binds (defines x ps) = x ∷ []
form_binds (for_head x xs a) = x ∷ xs
form_binds (assigns x xs a) = x ∷ xs
form_binds (increases x a) = x ∷ []
form_binds f = []

-- the names that loads bind, in the order of the text: those of lines of the top level, where alone
-- a `load` stands
abbrev pub loaded_by : Form → List Name
loaded_by (loads s items) = map (λ i. i.binds) items
loaded_by f = []

-- the names that the loads of a file bind, in the order of the text, once for each binding
abbrev pub loads_bind : Lines → List Name
loads_bind no_lines = []
loads_bind (a_line n f inner ls) = loaded_by f ++ loads_bind ls

-- what the block of a head binds around it: a function keeps its names to itself
abbrev pub passed_on : Form → List Name → List Name
passed_on (defines x ps) xs = []
passed_on f xs = xs

-- the names that lines bind, in the order of the text, once for each binding
abbrev pub lines_bind : Lines → List Name
lines_bind no_lines = []
lines_bind (a_line n f inner ls) = form_binds f ++ (passed_on f (lines_bind inner) ++ lines_bind ls)

-- the names of a comprehension, which has one scope of its own
abbrev pub clause_names : Rest → List Name
clause_names done = []
clause_names (for_each x xs a r) = x ∷ xs ++ clause_names r
clause_names (only_if a r) = clause_names r

-- what is in scope somewhere in a file: the names that its top level binds, by number; and those of
-- the slots in use, which the comprehensions and the function around bind, the innermost level
-- first
pub record Scope : Type 0 where
  pub globals : List Name
  pub levels : List (List Name)

-- how many slots levels have
abbrev pub width : List (List Name) → ℕ
width [] = 0
width (l ∷ ls) = width ls + length l

-- the slot of a name: its place in the innermost level that has it, behind the slots of the levels
-- around that one
abbrev pub slot_of : Name → List (List Name) → Option ℕ
slot_of x [] = None
slot_of x (l ∷ ls) =
    or_else (option_map (λ n. width ls + n) (position (bytes_eq x) l)) (slot_of x ls)

-- a name stands for the innermost binding that there is (Starlark specification, "Name binding and
-- variables"): a slot of a comprehension or of the function, a name of the top level, or what each
-- file finds bound
abbrev pub stands_for : Scope → Name → Option Binding
stands_for s x =
    or_else (option_map slot (slot_of x s.levels))
    (or_else (option_map global (position (bytes_eq x) s.globals))
    (option_map builtin (predeclared x)))

-- the top level of a file; a name has one number, by its first binding
abbrev pub file_scope : Lines → Scope
file_scope ls = record { globals = once (lines_bind ls); levels = [] }

-- a function binds its parameters, then what its lines bind; a name has one slot, by its first
-- binding
abbrev pub function_scope : Scope → List Param → Lines → Scope
function_scope s ps ls =
    record { globals = s.globals; levels = once (map param_name ps ++ lines_bind ls) ∷ [] }

-- the scope of the block of a head
abbrev pub scope_of : Scope → Form → Lines → Scope
scope_of s (defines x ps) ls = function_scope s ps ls
scope_of s f ls = s

-- inside of a comprehension
abbrev pub inside_of : Scope → Rest → Scope
inside_of s r = record { globals = s.globals; levels = once (clause_names r) ∷ s.levels }
