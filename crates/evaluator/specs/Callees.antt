-- What is called, by what was found under its name. (This project's own.)
use Rattle.std.specs.Prelude.{ℕ, List, Option, Some, None}
use Rattle.values.specs.declared.value.Value.{Value}
use Rattle.meaning.specs.Operations as meant

-- a field that was found, or a method of the owner
abbrev pub callee_found : Value → List ℕ → Option Value → meant.Callee Value
callee_found owner name (Some v) = meant.plain v
callee_found owner name None = meant.method owner name
