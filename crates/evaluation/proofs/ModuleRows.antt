-- Worked modules, by computation.
use Rattle.std.specs.Prelude.{◌≡◌, ℕ, pos, List, [], ◌∷◌, codes, Some, None, Result, Ok, Err, refl}
use Rattle.program_tree.specs.Resolved.{Program, program, numeral, give_back, define}
use Rattle.meaning.specs.Names.{builtin}
use Rattle.program_tree.specs.declared.names.Predeclared.TheVariants as predeclared
use Rattle.program_tree.specs.Resolved as resolved
use Rattle.meaning.specs.Outcome.{put, slot_value}
use Rattle.meaning.specs.Entry.{entry}
use Rattle.meaning.specs.Expressions.{eval}
use Rattle.meaning.specs.Statements.{exec}
use Rattle.meaning.specs.Calls.{invoke}
use Rattle.values.specs.Tree.{key, leaf, branch, none, more}
use Rattle.values.specs.Tree as tree
use Rattle.values.specs.Shape.{value_of}
use Rattle.values.specs.View.{FrozenTree}
use Rattle.leaves.specs.declared.leaf.Leaf.TheVariants as plain
use Rattle.leaves.specs.declared.leaf.ExportName.TheVariants as export
use Rattle.leaves.specs.declared.leaf.ProviderRef.TheVariants as provider
use Rattle.keys.specs.declared.key.Key.TheVariants as index
use Rattle.ticks.specs.declared.ticks.Kind.{Kind}
use Rattle.ticks.specs.declared.ticks.Kind.TheVariants as kind
use Rattle.visits.specs.Freeze.{freeze_at}
use Rattle.loading.specs.declared.faults.Ending.{Ending}
use Rattle.loading.specs.declared.faults.Ending.TheVariants.{Faulted, Unnamed}
use Rattle.evaluation.specs.Evaluated.{Module}
use Rattle.targets.specs.declared.declarations.Declarations.{Declarations}
use Rattle.evaluation.specs.Runs.{run_module}
use Rattle.evaluation.proofs.Small.{small_module, lines, terms, outer, local, list, sets, calls}

abbrev path : List ℕ
path = codes "a/p.bzl"

-- a module that loads nothing and is the only file, and what it comes to with so many ticks
abbrev alone : Program → ℕ → Result Module (Ending Kind)
alone p limit = run_module limit (p ∷ []) (path ∷ []) small_module (λ q. None) path 0

abbrev fault_at : Kind → ℕ → Result Module (Ending Kind)
fault_at k n = Err (Faulted (record { kind = k; path = path; line = n }))

abbrev one_two : FrozenTree
one_two = branch (tree.list (more (key (index.Number (pos 1))) (more (key (index.Number (pos 2))) none)))

abbrev nothing : Declarations
nothing = record { providers = 0; rules = []; attributes = [] }

-- x = [1, 2]
abbrev two_items : Program
two_items = program (codes "x" ∷ []) 0 (lines 1 (sets 0 (list (numeral 1 ∷ numeral 2 ∷ [])) ∷ []))

-- three ticks are enough, since three values are frozen; with two the fault is that of freezing
list_is_frozen : alone two_items 3
    ≡ Ok (record {
      names = codes "x" ∷ [];
      globals = Some one_two ∷ [];
      loaded = None ∷ [];
      defaults = [] ∷ [];
      made = nothing;
    })
unfolding eval exec invoke put slot_value entry freeze_at
list_is_frozen = refl

no_tick_left : alone two_items 2 ≡ fault_at kind.Steps 0
unfolding eval exec invoke put slot_value entry freeze_at
no_tick_left = refl

-- x = [1, 2]
-- def f(l = x): return l
-- y = f()
abbrev with_default : Program
with_default =
    program (codes "x" ∷ codes "f" ∷ codes "y" ∷ []) 0
    (lines 1 (
    sets 0 (list (numeral 1 ∷ numeral 2 ∷ [])) ∷
    define 0 1 (codes "l" ∷ []) (terms (outer 0 ∷ [])) 1 (lines 2 (give_back (Some (local 0)) ∷ [])) ∷
    sets 2 (calls (outer 1)) ∷ []))

abbrev f : FrozenTree
f = leaf (plain.Function (record { id = record { «module» = 0; number = 1 }; path = path; name = codes "f" }))

-- A call takes a tick; the list is frozen as `x`, as `y` and as the default of `f`, and `f` itself is one value.
default_is_frozen : alone with_default 11
    ≡ Ok (record {
      names = codes "x" ∷ codes "f" ∷ codes "y" ∷ [];
      globals = Some one_two ∷ Some f ∷ Some one_two ∷ [];
      loaded = None ∷ None ∷ None ∷ [];
      defaults = [] ∷ (value_of one_two ∷ []) ∷ [];
      made = nothing;
    })
unfolding eval exec invoke put slot_value entry freeze_at
default_is_frozen = refl

defaults_take_ticks : alone with_default 10 ≡ fault_at kind.Steps 0
unfolding eval exec invoke put slot_value entry freeze_at
defaults_take_ticks = refl

-- P = provider()
-- Q = P
-- L = [P]
abbrev makes_provider : resolved.Term
makes_provider = calls (resolved.named (builtin predeclared.ProviderFunction))

abbrev two_names : Program
two_names =
    program (codes "P" ∷ codes "Q" ∷ codes "L" ∷ []) 0
    (lines 1 (sets 0 makes_provider ∷ sets 1 (outer 0) ∷ sets 2 (list (outer 0 ∷ [])) ∷ []))

abbrev p : FrozenTree
p = leaf (plain.Provider (record {
  id = Some (record { «module» = 0; number = 0 });
  name = provider.Exported (record { path = path; name = export.Global (codes "P") });
  fields = [];
}))

-- both names have the provider, which is called by the first, in the list too
first_name_is_taken : alone two_names 100
    ≡ Ok (record {
      names = codes "P" ∷ codes "Q" ∷ codes "L" ∷ [];
      globals = Some p ∷ Some p ∷ Some (branch (tree.list (more p none))) ∷ [];
      loaded = None ∷ None ∷ None ∷ [];
      defaults = [] ∷ [];
      made = record { providers = 1; rules = []; attributes = [] };
    })
unfolding eval exec invoke put slot_value entry freeze_at
first_name_is_taken = refl

-- L = [provider()]
abbrev in_a_list : Program
in_a_list = program (codes "L" ∷ []) 0 (lines 1 (sets 0 (list (makes_provider ∷ [])) ∷ []))

-- no global has it as its value; and a fault of freezing comes before that
list_names_nothing : alone in_a_list 2 ≡ Err Unnamed
unfolding eval exec invoke put slot_value entry freeze_at
list_names_nothing = refl

freezing_comes_first : alone in_a_list 1 ≡ fault_at kind.Steps 0
unfolding eval exec invoke put slot_value entry freeze_at
freezing_comes_first = refl

-- x = attr
abbrev an_object : Program
an_object = program (codes "x" ∷ []) 0 (lines 1 (sets 0 (resolved.named (builtin predeclared.AttrModule)) ∷ []))

object_is_not_frozen : alone an_object 1 ≡ fault_at kind.Wrong 0
unfolding eval exec invoke put slot_value entry freeze_at
object_is_not_frozen = refl

-- x = 1()
abbrev number_called : Program
number_called = program (codes "x" ∷ []) 0 (lines 7 (sets 0 (calls (numeral 1)) ∷ []))

fault_at_its_line : alone number_called 0 ≡ fault_at kind.Wrong 7
unfolding eval exec invoke put slot_value entry freeze_at
fault_at_its_line = refl
