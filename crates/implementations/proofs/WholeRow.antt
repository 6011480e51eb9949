-- A worked call of an implementation that declares a File and writes it, by computation.
use Rattle.std.specs.Prelude.{◌≡◌, ℕ, ◌+◌, List, [], ◌∷◌, codes, None, Some, Ok, refl}
use Rattle.program_tree.specs.Resolved.{Program, program, Term, quoted, named, selects, invokes, Terms, no_terms, more_terms, no_keywords, Statement, assign, evaluate, define, Steps, no_steps, step}
use Rattle.meaning.specs.Names.{slot}
use Rattle.meaning.specs.Outcome.{put, slot_value}
use Rattle.meaning.specs.Entry.{entry}
use Rattle.meaning.specs.Expressions.{eval}
use Rattle.meaning.specs.Statements.{exec}
use Rattle.meaning.specs.Calls.{invoke}
use Rattle.depsets.specs.declared.element.FileRef.{FileRef}
use Rattle.values.specs.Tree.{leaf}
use Rattle.leaves.specs.declared.leaf.FunctionRef.{FunctionRef}
use Rattle.leaves.specs.declared.leaf.Leaf.TheVariants as plain
use Rattle.actions.specs.declared.action.Action.{Action}
use Rattle.actions.specs.declared.action.Inputs.TheVariants as inputs
use Rattle.visits.specs.Freeze.{freeze_at}
use Rattle.workspace.specs.Labels.{LabelParts}
use Rattle.workspace.specs.Paths.{are_segments}
use Rattle.targets.specs.declared.target.Target.{Target}
use Rattle.evaluation.specs.Runs.{run_implementation}
use Rattle.implementations.specs.Implementations.{target_world}

abbrev path : List ℕ
path = codes "a/r.bzl"

abbrev label : LabelParts
label = record { «package» = codes "a"; name = codes "x" }

abbrev implementation : FunctionRef
implementation = record { id = record { «module» = 0; number = 1 }; path = path; name = codes "_i" }

abbrev target : Target
target = record { label = label; rule = record { implementation = implementation; attributes = [] }; values = [] }

abbrev lines : ℕ → List Statement → Steps
lines n [] = no_steps
lines n (s ∷ ss) = step n s (lines (n + 1) ss)

abbrev terms : List Term → Terms
terms [] = no_terms
terms (e ∷ es) = more_terms e (terms es)

-- ctx.actions.NAME(..)
abbrev action : List ℕ → List Term → Term
action name arguments = invokes (selects (selects (named (slot 0)) (codes "actions")) name) (terms arguments) no_keywords

-- def _i(ctx):
--     o = ctx.actions.declare_file("o")
--     ctx.actions.write(o, "hi")
abbrev writing : Program
writing =
    program (codes "_i" ∷ []) 0 (lines 1 (
    define 0 0 (codes "ctx" ∷ []) no_terms 2
    (lines 2 (assign (slot 1 ∷ []) (action (codes "declare_file") (quoted (codes "o") ∷ [])) ∷ evaluate (action (codes "write") (named (slot 1) ∷ quoted (codes "hi") ∷ [])) ∷ [])) ∷ []))

abbrev o : FileRef
o = record { path = codes "a/o"; owner = codes "//a:x" }

abbrev writes_o : Action
writes_o = record { mnemonic = codes "FileWrite"; outputs = o ∷ []; inputs = inputs.Files []; words = []; content = Some (codes "hi") }

writes : run_implementation 100 (writing ∷ []) (path ∷ []) target_world (λ q. None) label target []
    ≡ Ok (record { result = leaf plain.None; files = o ∷ []; actions = writes_o ∷ [] })
unfolding eval exec invoke put slot_value entry freeze_at are_segments
writes = refl
