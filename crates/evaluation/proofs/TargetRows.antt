-- Worked calls of implementations, by computation.
use Rattle.std.specs.Prelude.{◌≡◌, ℕ, List, [], ◌∷◌, codes, Some, None, Result, Ok, Err, refl}
use Rattle.program_tree.specs.Resolved.{Program, program, numeral, named, give_back, define, loop, pass, invokes, no_terms, no_keywords, Steps}
use Rattle.program_tree.specs.declared.names.Predeclared.TheVariants as predeclared
use Rattle.meaning.specs.Names.{slot, builtin}
use Rattle.meaning.specs.Outcome.{put, slot_value}
use Rattle.meaning.specs.Entry.{entry}
use Rattle.meaning.specs.Expressions.{eval}
use Rattle.meaning.specs.Statements.{exec}
use Rattle.meaning.specs.Calls.{invoke}
use Rattle.values.specs.Tree.{leaf}
use Rattle.leaves.specs.declared.leaf.FunctionRef.{FunctionRef}
use Rattle.leaves.specs.declared.leaf.Leaf.TheVariants as plain
use Rattle.ticks.specs.declared.ticks.Kind.{Kind}
use Rattle.ticks.specs.declared.ticks.Kind.TheVariants as kind
use Rattle.visits.specs.Freeze.{freeze_at}
use Rattle.workspace.specs.Labels.{LabelParts}
use Rattle.targets.specs.Steps.{Implemented, Fault}
use Rattle.targets.specs.declared.target.Target.{Target}
use Rattle.evaluation.specs.Runs.{run_implementation}
use Rattle.evaluation.proofs.Small.{small_target, lines, terms, local, list}

abbrev path : List ℕ
path = codes "a/r.bzl"

abbrev label : LabelParts
label = record { «package» = codes "a"; name = codes "x" }

-- def _i(ctx): .., the one function of the one file; and a target of its rule
abbrev implementation : FunctionRef
implementation = record { id = record { «module» = 0; number = 1 }; path = path; name = codes "_i" }

abbrev target : Target
target = record { label = label; rule = record { implementation = implementation; attributes = [] }; values = [] }

abbrev with_body : Steps → Program
with_body body = program (codes "_i" ∷ []) 0 (lines 1 (define 0 0 (codes "ctx" ∷ []) no_terms 2 body ∷ []))

-- what the call comes to, with so many ticks
abbrev implements : Program → ℕ → Result Implemented Fault
implements p limit = run_implementation limit (p ∷ []) (path ∷ []) small_target (λ q. None) label target []

abbrev fault_at : Kind → ℕ → Result Implemented Fault
fault_at k n = Err (record { kind = k; path = path; line = n })

-- def _i(ctx):
--     for n in range(9):
--         pass
abbrev nine_turns : Program
nine_turns =
    with_body (lines 2 (
    loop (slot 1 ∷ []) (invokes (named (builtin predeclared.RangeFunction)) (terms (numeral 9 ∷ [])) no_keywords)
    (lines 3 (pass ∷ [])) ∷ []))

-- one tick for the entry, nine turns, and one value frozen, which is None; the fault of freezing stands at the `def`
eleven_ticks : implements nine_turns 11 ≡ Ok (record { result = leaf plain.None; files = []; actions = [] })
unfolding eval exec invoke put slot_value entry freeze_at
eleven_ticks = refl

ten_ticks : implements nine_turns 10 ≡ fault_at kind.Steps 1
unfolding eval exec invoke put slot_value entry freeze_at
ten_ticks = refl

nine_ticks : implements nine_turns 9 ≡ fault_at kind.Steps 2
unfolding eval exec invoke put slot_value entry freeze_at
nine_ticks = refl

no_tick : implements nine_turns 0 ≡ fault_at kind.Steps 1
unfolding eval exec invoke put slot_value entry freeze_at
no_tick = refl

-- def _i(ctx):
--     return [ctx]
abbrev gives_context : Program
gives_context = with_body (lines 2 (give_back (Some (list (local 0 ∷ []))) ∷ []))

context_is_not_frozen : implements gives_context 100 ≡ fault_at kind.Wrong 1
unfolding eval exec invoke put slot_value entry freeze_at
context_is_not_frozen = refl

-- def _i(): pass
abbrev no_parameter : Program
no_parameter = program (codes "_i" ∷ []) 0 (lines 4 (define 0 0 [] no_terms 0 (lines 4 (pass ∷ [])) ∷ []))

arguments_do_not_fit : implements no_parameter 100 ≡ fault_at kind.Arity 4
unfolding eval exec invoke put slot_value entry freeze_at
arguments_do_not_fit = refl
