-- Where operations agree, so do calls and top levels: each does the same by either record of them.
-- (This project's own.)
use Rattle.std.specs.Prelude.{◌≡◌, ℕ}
use Rattle.meaning.specs.Operations.{FunctionId, Arguments, Operations}
use Rattle.meaning.specs.Functions.{Files}
use Rattle.meaning.specs.Calls.{function_meaning, top_meaning}
use Rattle.keeping.specs.Kept.{Kept, good_arguments}
use Rattle.keeping.specs.Owed.{EachKeeps}
use Rattle.agreeing.specs.Agreed.{EachAgrees}

-- A function that is called from outside does the same, where its arguments are good and the state
-- holds: it ends with one value and one state, or with one fault.
abbrev pub CallsAgree : Type 0 → Type 0 → Type 0 → Type 1
CallsAgree S V K =
    (r : Kept S V) (ops other : Operations S V K) (files : Files) (f : FunctionId)
    (given : Arguments V) (k : r.World) (s : S) → EachKeeps r ops → EachAgrees r ops other →
    good_arguments r k given → r.holds k s →
    function_meaning ops files f given s ≡ function_meaning other files f given s

-- So does the top level of a file, where the state before it holds.
abbrev pub TopLevelsAgree : Type 0 → Type 0 → Type 0 → Type 1
TopLevelsAgree S V K =
    (r : Kept S V) (ops other : Operations S V K) (files : Files) (file : ℕ) (k : r.World)
    (s : S) → EachKeeps r ops → EachAgrees r ops other → r.holds k s →
    top_meaning ops files file s ≡ top_meaning other files file s
