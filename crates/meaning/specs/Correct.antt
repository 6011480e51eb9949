-- The compiled code does what its files mean. (This project's own.)
use Rattle.std.specs.Prelude.{◌≡◌, ◌≢◌, ℕ, suc, [], Option, Some, None, replicate}
use Rattle.meaning.specs.Operations.{FunctionId, Callee, Arguments, wrong_type, Operations}
use Rattle.meaning.specs.Outcome.{Final}
use Rattle.meaning.specs.Functions.{Function, Files, function_at, def_line}
use Rattle.meaning.specs.Calls.{outside, call_meaning, function_meaning, top_meaning}
use Rattle.meaning.specs.Instructions.{FunctionCode, Codes, code_at, code_line}
use Rattle.meaning.specs.Machine.{frame_of, Next, continuing, faults, starts, start}
use Rattle.meaning.specs.Performing.{ends, gets_stuck, run_from}
use Rattle.meaning.specs.StatementCode.{code_of}

module _ {S V K : Type 0} (ops : Operations S V K) (codes : Codes) where
  -- how the machine begins where a value is called at a line of a file
  abbrev pub call_start : ℕ → ℕ → Callee V → Arguments V → S → Next S V K
  call_start file at g given s = start ops codes (outside file at) g given [] s

  -- how it begins at the line of a `def`, if the function has one
  abbrev pub function_from : FunctionId → Arguments V → S → Option ℕ → Next S V K
  function_from f given s None = faults (outside f.file 0) (ops.refusal wrong_type)
  function_from f given s (Some n) =
      starts ops codes (outside f.file n) f given [] s (code_at codes f)

  -- how it begins where a function is called at the line of its `def`
  abbrev pub function_start : FunctionId → Arguments V → S → Next S V K
  function_start f given s = function_from f given s (code_line codes f)

  -- how it begins with the code of a top level, if there is that file
  abbrev pub top_from : ℕ → S → Option FunctionCode → Next S V K
  top_from file s None = faults (outside file 0) (ops.refusal wrong_type)
  top_from file s (Some d) =
      continuing (frame_of (record { file = file; number = 0 }) (replicate d.slots None)) [] [] s

  -- how it begins where the top level of a file is run
  abbrev pub top_start : ℕ → S → Next S V K
  top_start file s = top_from file s (code_at codes (record { file = file; number = 0 }))

  -- a run ends so, in no other way, and never comes to where no instruction can be run
  pub record Ends (x : Next S V K) (o : Final S V K) : Type 0 where
    pub comes : (n : ℕ) × (run_from ops codes n x ≡ ends o)
    pub only : (n : ℕ) (p : Final S V K) → run_from ops codes n x ≡ ends p → p ≡ o
    pub never_stuck : (n : ℕ) → run_from ops codes n x ≢ gets_stuck

-- For all files, whatever the operations do: a call ends with the value, the state and so the ticks
-- of its meaning, or with the fault of its meaning, of that kind, file and line
abbrev pub CallsAreMeant : {S V K : Type 0} → Operations S V K → Type 0
CallsAreMeant {S} {V} ops =
    (files : Files) (file at : ℕ) (g : Callee V) (given : Arguments V) (s : S) →
    Ends ops (code_of files) (call_start ops (code_of files) file at g given s)
    (call_meaning ops files file at g given s)

-- so does each function, by its number, with any arguments
abbrev pub FunctionsAreMeant : {S V K : Type 0} → Operations S V K → Type 0
FunctionsAreMeant {S} {V} ops = (files : Files) (f : FunctionId) (given : Arguments V) (s : S) →
    Ends ops (code_of files) (function_start ops (code_of files) f given s)
    (function_meaning ops files f given s)

-- and so does the top level of each file
abbrev pub TopLevelsAreMeant : {S V K : Type 0} → Operations S V K → Type 0
TopLevelsAreMeant {S} ops = (files : Files) (file : ℕ) (s : S) →
    Ends ops (code_of files) (top_start ops (code_of files) file s) (top_meaning ops files file s)

-- the line of a function's `def` can be read in the codes
abbrev pub LinesAreKept : Type 0
LinesAreKept = (files : Files) (f : FunctionId) → code_line (code_of files) f ≡ def_line files f

-- and each function but the top levels has one
abbrev pub EachHasALine : Type 0
EachHasALine = (files : Files) (file m : ℕ) (d : Function) →
    function_at files (record { file = file; number = suc m }) ≡ Some d →
    (n : ℕ) × (def_line files (record { file = file; number = suc m }) ≡ Some n)
