-- What an action runs: how it is given, and what it may be. (Bazel documentation, "actions";
-- docs/PROFILE.md, "Calls for files and actions".)
use Rattle.std.specs.Prelude.{ℕ, List, [], ◌∷◌, Option, Some, codes}
use Rattle.values.specs.Shape.{Shape}
use Rattle.values.specs.declared.value.Value.{Value}
use Rattle.operations.specs.Arguments.{Given, Bound}
use Rattle.operations.specs.Reading.{string_in}
use Rattle.calls.specs.Parameters.{got_at}
use Rattle.contexts.specs.Actions.{executable_in}
use Rattle.implementations.specs.declared.programs.Program.{Program}
use Rattle.implementations.specs.declared.programs.Program.TheVariants.{Executable, Command}

-- the name of the parameter that tells what an action runs: `executable` of `run`, `command` of
-- `run_shell`
abbrev pub parameter : Program → List ℕ
parameter Executable = codes "executable"
parameter Command = codes "command"

-- the first word of the action that a value of it gives, if it may be one: a string, and of
-- `executable` a File too
abbrev pub program_in : Program → Shape → Option (List ℕ)
program_in Executable s = executable_in s
program_in Command s = string_in s

-- what the parameters of `run` or `run_shell` get in a call that has outputs and what it runs
abbrev pub given_parts : Value → Value → Given → Bound
given_parts outputs word g =
    Some outputs ∷ Some word ∷ got_at 2 (codes "inputs") g
    ∷ got_at 3 (codes "arguments") g ∷ got_at 4 (codes "mnemonic") g ∷ []
