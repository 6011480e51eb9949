-- Worked calls of the methods of `ctx.actions`, by computation.
use Rattle.std.specs.Prelude.{◌≡◌, ℕ, pos, List, [], ◌∷◌, Some, None, Ok, Err, refl, codes, replicate}
use Rattle.depsets.specs.declared.element.Element.TheVariants as element
use Rattle.depsets.specs.declared.element.FileRef.{FileRef}
use Rattle.values.specs.declared.cells.Cell.{Cell}
use Rattle.values.specs.declared.cells.Cell.TheVariants as cell
use Rattle.leaves.specs.declared.leaf.Leaf.TheVariants as plain
use Rattle.ticks.specs.declared.ticks.Kind.TheVariants as fault
use Rattle.values.specs.declared.value.Value.{Value}
use Rattle.values.specs.declared.value.Value.TheVariants as value
use Rattle.actions.specs.declared.action.Action.{Action}
use Rattle.actions.specs.declared.action.Inputs.{Inputs}
use Rattle.actions.specs.declared.action.Inputs.TheVariants as inputs
use Rattle.operations.specs.Arguments.{Given}
use Rattle.operations.specs.Making.{none, number, text}
use Rattle.workspace.specs.Paths.{are_segments}
use Rattle.contexts.specs.Actions.{Working, method_call, method_named}
use Rattle.contexts.specs.declared.method.ActionMethod.TheVariants as method
use Rattle.contexts.specs.declared.work.Work.{Work}
use Rattle.contexts.proofs.Small.{x, s_file, file_of, depset, d_files}

abbrev at_places : List Value → Given
at_places vs = record { items = vs; names = []; values = [] }

abbrev by_names : List (List ℕ) → List Value → Given
by_names ns vs = record { items = []; names = ns; values = vs }

abbrev file_value : FileRef → Value
file_value f = value.Leaf (plain.File f)

-- the list in a cell
abbrev at : ℕ → Value
at n = value.Cell n

abbrev list : List Value → Cell
list vs = cell.List vs 0

-- ---- names

write_is_one : method_named (codes "write") ≡ Some method.Write
write_is_one = refl

args_is_none : method_named (codes "args") ≡ None
args_is_none = refl

-- ---- ctx.actions.declare_file

abbrev nothing : Work
nothing = record { files = []; actions = [] }

abbrev o : FileRef
o = file_of (codes "a/o") (codes "//a:x")

abbrev p : FileRef
p = file_of (codes "a/b/p") (codes "//a:x")

abbrev with_o : Work
with_o = record { files = o ∷ []; actions = [] }

abbrev both : Work
both = record { files = o ∷ p ∷ []; actions = [] }

abbrev declare : Given → Work → Working
declare g w = method_call x method.DeclareFile [] g w

declares : declare (at_places (text (codes "o") ∷ [])) nothing ≡ Ok (file_value o, with_o)
unfolding are_segments
declares = refl

-- the next one, by its name, in a folder below the package
declares_next : declare (by_names (codes "name" ∷ []) (text (codes "b/p") ∷ [])) with_o ≡ Ok (file_value p, both)
unfolding are_segments
declares_next = refl

-- in the root package
declares_in_root : method_call (record { «package» = []; name = codes "x" }) method.DeclareFile [] (at_places (text (codes "o") ∷ [])) nothing
    ≡ Ok (file_value (file_of (codes "o") (codes "//:x")), record nothing { files = file_of (codes "o") (codes "//:x") ∷ [] })
unfolding are_segments
declares_in_root = refl

declares_again : declare (at_places (text (codes "o") ∷ [])) with_o ≡ Err fault.Key
unfolding are_segments
declares_again = refl

no_name : declare (at_places (text [] ∷ [])) nothing ≡ Err fault.Wrong
unfolding are_segments
no_name = refl

no_segment : declare (at_places (text (codes "../o") ∷ [])) nothing ≡ Err fault.Wrong
unfolding are_segments
no_segment = refl

-- 200 bytes with the package are too many by one
too_long : declare (at_places (text (replicate 199 97) ∷ [])) nothing ≡ Err fault.Wrong
unfolding are_segments
too_long = refl

number_is_no_name : declare (at_places (number (pos 1) ∷ [])) nothing ≡ Err fault.Wrong
number_is_no_name = refl

two_names : declare (at_places (text (codes "o") ∷ text (codes "p") ∷ [])) nothing ≡ Err fault.Arity
two_names = refl

-- ---- ctx.actions.write

abbrev write : Given → Work → Working
write g w = method_call x method.Write [] g w

abbrev done : Work → Action → Working
done w a = Ok (none, record w { actions = a ∷ [] })

abbrev writes_o : Action
writes_o = record { mnemonic = codes "FileWrite"; outputs = o ∷ []; inputs = inputs.Files []; words = []; content = Some (codes "hi") }

writes : write (at_places (file_value o ∷ text (codes "hi") ∷ [])) with_o ≡ done with_o writes_o
writes = refl

writes_by_name : write (by_names (codes "content" ∷ codes "output" ∷ []) (text (codes "hi") ∷ file_value o ∷ [])) with_o ≡ done with_o writes_o
writes_by_name = refl

no_content : write (at_places (none ∷ [])) with_o ≡ Err fault.Arity
no_content = refl

content_is_a_string : write (at_places (file_value s_file ∷ none ∷ [])) with_o ≡ Err fault.Wrong
content_is_a_string = refl

output_is_a_file : write (at_places (text (codes "a/o") ∷ text [] ∷ [])) with_o ≡ Err fault.Wrong
output_is_a_file = refl

-- a source file, and a File of another target with the path
output_of_another : write (at_places (file_value s_file ∷ text [] ∷ [])) with_o ≡ Err fault.Place
output_of_another = refl

output_of_the_path : write (at_places (file_value (file_of (codes "a/o") (codes "//a:y")) ∷ text [] ∷ [])) with_o ≡ Err fault.Place
output_of_the_path = refl

-- ---- ctx.actions.run, over cells that hold lists

abbrev run : List Cell → List (List ℕ) → List Value → Work → Working
run h ns vs w = method_call x method.Run h (by_names ns vs) w

abbrev needs : List (List ℕ)
needs = codes "outputs" ∷ codes "executable" ∷ []

abbrev with_need : List ℕ → List (List ℕ)
with_need n = codes "outputs" ∷ codes "executable" ∷ n ∷ []

abbrev outputs : List Cell
outputs = list (file_value o ∷ file_value p ∷ []) ∷ []

abbrev runs_with : List ℕ → Inputs → List (List ℕ) → List ℕ → Action
runs_with word from arguments mnemonic =
    record { mnemonic = mnemonic; outputs = o ∷ p ∷ []; inputs = from; words = word ∷ arguments; content = None }

runs : run outputs needs (at 0 ∷ text (codes "cc") ∷ []) both ≡ done both (runs_with (codes "cc") (inputs.Files []) [] (codes "Action"))
runs = refl

-- any File may be run, and is its path
runs_file : run outputs needs (at 0 ∷ file_value s_file ∷ []) both ≡ done both (runs_with (codes "a/s.txt") (inputs.Files []) [] (codes "Action"))
runs_file = refl

runs_all : run (list (file_value o ∷ file_value p ∷ []) ∷ cell.Tuple (file_value s_file ∷ []) ∷ list (text (codes "-c") ∷ text [] ∷ []) ∷ [])
    (codes "mnemonic" ∷ codes "outputs" ∷ codes "arguments" ∷ codes "executable" ∷ codes "inputs" ∷ [])
    (text (codes "Cc") ∷ at 0 ∷ at 2 ∷ text (codes "cc") ∷ at 1 ∷ []) both
    ≡ done both (runs_with (codes "cc") (inputs.Files (s_file ∷ [])) (codes "-c" ∷ [] ∷ []) (codes "Cc"))
runs_all = refl

-- a depset of Files is kept as it is
runs_depset : run outputs (with_need (codes "inputs")) (at 0 ∷ text [] ∷ value.Leaf (plain.Depset d_files) ∷ []) both
    ≡ done both (runs_with [] (inputs.Depset d_files) [] (codes "Action"))
runs_depset = refl

-- `arity`: a position, an unknown name, a missing executable; and no outputs, before any `type`
by_position : method_call x method.Run [] (at_places (none ∷ [])) both ≡ Err fault.Arity
by_position = refl

unknown_name : run outputs (with_need (codes "command")) (at 0 ∷ text [] ∷ text [] ∷ []) both ≡ Err fault.Arity
unknown_name = refl

no_executable : run outputs (codes "outputs" ∷ []) (at 0 ∷ []) both ≡ Err fault.Arity
no_executable = refl

no_outputs : run (list [] ∷ []) needs (at 0 ∷ none ∷ []) both ≡ Err fault.Arity
no_outputs = refl

-- `type`
outputs_are_a_sequence : run [] needs (file_value o ∷ text [] ∷ []) both ≡ Err fault.Wrong
outputs_are_a_sequence = refl

outputs_are_files : run (list (text (codes "a/o") ∷ []) ∷ []) needs (at 0 ∷ text [] ∷ []) both ≡ Err fault.Wrong
outputs_are_files = refl

executable_is_a_word : run outputs needs (at 0 ∷ none ∷ []) both ≡ Err fault.Wrong
executable_is_a_word = refl

inputs_are_files : run (list (file_value o ∷ []) ∷ list (none ∷ []) ∷ []) (with_need (codes "inputs")) (at 0 ∷ text [] ∷ at 1 ∷ []) both ≡ Err fault.Wrong
inputs_are_files = refl

inputs_of_texts : run outputs (with_need (codes "inputs")) (at 0 ∷ text [] ∷ value.Leaf (plain.Depset (depset 1 (element.Text (codes "t") ∷ []))) ∷ []) both ≡ Err fault.Wrong
inputs_of_texts = refl

inputs_not_none : run outputs (with_need (codes "inputs")) (at 0 ∷ text [] ∷ none ∷ []) both ≡ Err fault.Wrong
inputs_not_none = refl

arguments_are_strings : run (list (file_value o ∷ []) ∷ list (number (pos 1) ∷ []) ∷ []) (with_need (codes "arguments")) (at 0 ∷ text [] ∷ at 1 ∷ []) both ≡ Err fault.Wrong
arguments_are_strings = refl

no_mnemonic : run outputs (with_need (codes "mnemonic")) (at 0 ∷ text [] ∷ text [] ∷ []) both ≡ Err fault.Wrong
no_mnemonic = refl

mnemonic_of_letters : run outputs (with_need (codes "mnemonic")) (at 0 ∷ text [] ∷ text (codes "C2") ∷ []) both ≡ Err fault.Wrong
mnemonic_of_letters = refl

-- after `type` all of `place`, and then `key`
type_first : run (list (file_value s_file ∷ []) ∷ []) (with_need (codes "mnemonic")) (at 0 ∷ text [] ∷ none ∷ []) both ≡ Err fault.Wrong
type_first = refl

place_first : run (list (file_value o ∷ file_value o ∷ file_value s_file ∷ []) ∷ []) needs (at 0 ∷ text [] ∷ []) both ≡ Err fault.Place
place_first = refl

output_twice : run (list (file_value o ∷ file_value p ∷ file_value o ∷ []) ∷ []) needs (at 0 ∷ text [] ∷ []) both ≡ Err fault.Key
output_twice = refl

-- ---- ctx.actions.run_shell

abbrev run_shell : List Cell → List (List ℕ) → List Value → Work → Working
run_shell h ns vs w = method_call x method.RunShell h (by_names ns vs) w

shells : run_shell outputs (codes "outputs" ∷ codes "command" ∷ []) (at 0 ∷ text (codes "touch $1") ∷ []) both
    ≡ done both (runs_with (codes "touch $1") (inputs.Files []) [] (codes "Action"))
shells = refl

command_is_a_string : run_shell outputs (codes "outputs" ∷ codes "command" ∷ []) (at 0 ∷ file_value s_file ∷ []) both ≡ Err fault.Wrong
command_is_a_string = refl

no_command : run_shell outputs needs (at 0 ∷ text [] ∷ []) both ≡ Err fault.Arity
no_command = refl
