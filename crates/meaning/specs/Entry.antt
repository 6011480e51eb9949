-- What a call needs to know of a function: which one is called, and what its parameters get
-- (Starlark specification, "Function and method calls").
use Rattle.std.specs.Prelude.{ℕ, ◌-◌, Bool, nat_eq, if◌then◌else◌, ◌&&◌, List, [], ◌∷◌, ◌++◌}
use Rattle.std.specs.Prelude.{length, map, Option, Some, None, option_map, bytes_eq, replicate}
use Rattle.std.specs.Prelude.{slice_get}
use Rattle.std.specs.List.{list_any, list_all}
use Rattle.std.specs.Map.{lookup}
use Rattle.program_tree.specs.Names.{Name, or_else}
use Rattle.meaning.specs.Operations.{FunctionId, Callee, plain, method, Arguments, Operations}
use Rattle.meaning.specs.Outcome.{Slots}

-- whether two functions are one: they are of one file, and have one number there
abbrev pub same_function : FunctionId → FunctionId → Bool
same_function f g = nat_eq f.file g.file && nat_eq f.number g.number

-- a function of a file, if there is that file, by its number
abbrev pub in_file : {A : Type 0} → Option (List A) → ℕ → Option A
in_file None n = None
in_file (Some fs) n = slice_get fs n

-- which function written in Starlark is called
abbrev pub called : {S V K : Type 0} → Operations S V K → Callee V → Option FunctionId
called ops (plain v) = ops.function v
called ops (method v x) = None

-- names, each with its value
abbrev pub paired : {V : Type 0} → List Name → List V → List (Name × V)
paired [] vs = []
paired (x ∷ xs) [] = []
paired (x ∷ xs) (v ∷ vs) = (x, v) ∷ paired xs vs

-- this one before the others, if all are there
abbrev pub before_all : {A : Type 0} → Option A → Option (List (Option A)) →
    Option (List (Option A))
before_all None rest = None
before_all (Some a) None = None
before_all (Some a) (Some xs) = Some (Some a ∷ xs)

-- whether a parameter gets an argument by name
abbrev pub is_named : {V : Type 0} → Name → List (Name × V) → Bool
is_named p named = list_any (λ n. bytes_eq p n.0) named

-- what each parameter gets: its value by position, or by its name, or its default. None where one
-- gets nothing, where one gets a value by position and another by name, and where there are more
-- positions than parameters
abbrev pub filled : {V : Type 0} → List Name → List V → List (Name × V) → List (Option V) →
    Option (Slots V)
filled [] [] named ds = Some []
filled [] (v ∷ vs) named ds = None
filled (p ∷ ps) vs named [] = None
filled (p ∷ ps) (v ∷ vs) named (d ∷ ds) =
    if is_named p named then None else before_all (Some v) (filled ps vs named ds)
filled (p ∷ ps) [] named (d ∷ ds) =
    before_all (or_else (lookup (bytes_eq p) named) d) (filled ps [] named ds)

-- the defaults are those of the last parameters; the parameters before them have none
abbrev pub defaults_of : {V : Type 0} → List Name → List V → List (Option V)
defaults_of params defaults = replicate (length params - length defaults) None ++ map Some defaults

-- each argument by name is one of a parameter
abbrev pub all_known : {V : Type 0} → List Name → List (Name × V) → Bool
all_known params named = list_all (λ n. list_any (bytes_eq n.0) params) named

-- the slots at the entry of a function, where the arguments fit its parameters: these come first,
-- and nothing is set in the others
unfoldable pub entry : {V : Type 0} → List Name → ℕ → List V → Arguments V → Option (Slots V)
entry params slots defaults given =
    if all_known params given.named
    then option_map (λ l. l ++ replicate (slots - length params) None)
    (filled params given.items given.named (defaults_of params defaults))
    else None
