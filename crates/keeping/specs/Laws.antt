-- What calls and top levels keep. (This project's own.)
use Rattle.std.specs.Prelude.{ℕ}
use Rattle.meaning.specs.Operations.{FunctionId, Arguments, Operations}
use Rattle.meaning.specs.Functions.{Files}
use Rattle.meaning.specs.Calls.{function_meaning, top_meaning}
use Rattle.keeping.specs.Kept.{Kept, good_arguments, Gives}
use Rattle.keeping.specs.Owed.{EachKeeps}

-- A function that is called from outside gives a good value, where its arguments are good and the
-- state holds.
abbrev pub CallsKeep : Type 0 → Type 0 → Type 0 → Type 1
CallsKeep S V K =
    (r : Kept S V) (ops : Operations S V K) (files : Files) (f : FunctionId) (given : Arguments V)
    (k : r.World) (s : S) → EachKeeps r ops → good_arguments r k given → r.holds k s
    → Gives r r.good k (function_meaning ops files f given s)

-- The state after the top level of a file holds, where that before it does.
abbrev pub TopLevelsKeep : Type 0 → Type 0 → Type 0 → Type 1
TopLevelsKeep S V K =
    (r : Kept S V) (ops : Operations S V K) (files : Files) (file : ℕ) (k : r.World) (s : S)
    → EachKeeps r ops → r.holds k s → Gives r r.good k (top_meaning ops files file s)
