-- The methods of `ctx.actions` (Bazel documentation, "actions"; what each takes and refuses is
-- docs/PROFILE.md, "Calls for files and actions"). They read the heap, and what they declare is the
-- work.
use Rattle.std.specs.Prelude.{ℕ, Bool, true, false, not, ◌&&◌, nat_eq, List, [], ◌∷◌}
use Rattle.std.specs.Prelude.{◌++◌, length, Option, Some, None, option_and_then, Result, Ok, Err}
use Rattle.std.specs.Prelude.{codes, bytes_eq, if◌then◌else◌}
use Rattle.std.specs.Char.{is_ascii_alphabetic}
use Rattle.std.specs.List.{list_all}
use Rattle.depsets.specs.Own.{Own}
use Rattle.depsets.specs.Rose.{Rose}
use Rattle.depsets.specs.declared.element.FileRef.{FileRef}
use Rattle.values.specs.Shape.{Shape, key, atom, items, shape}
use Rattle.values.specs.declared.cells.Cell.{Cell}
use Rattle.keys.specs.declared.key.Key.TheVariants as index
use Rattle.leaves.specs.declared.leaf.Leaf.{Leaf}
use Rattle.leaves.specs.declared.leaf.Leaf.TheVariants as plain
use Rattle.ticks.specs.declared.ticks.Kind.{Kind}
use Rattle.ticks.specs.declared.ticks.Kind.TheVariants as fault
use Rattle.values.specs.declared.value.Value.{Value}
use Rattle.values.specs.declared.value.Value.TheVariants as value
use Rattle.actions.specs.declared.action.Action.{Action}
use Rattle.actions.specs.declared.action.Inputs.{Inputs}
use Rattle.actions.specs.declared.action.Inputs.TheVariants as inputs
use Rattle.operations.specs.Arguments.{Given, Parameter, Bound, wanted, wanted_by_name, named_only}
use Rattle.operations.specs.Arguments.{bound}
use Rattle.operations.specs.BuiltIns.{argument}
use Rattle.operations.specs.Depsets.{gathered, put_last, all_in}
use Rattle.operations.specs.Instances.{only_files}
use Rattle.operations.specs.Making.{none}
use Rattle.operations.specs.Reading.{string_in, sequence_in, of_type}
use Rattle.operations.specs.States.{then_give}
use Rattle.workspace.specs.Labels.{LabelParts, label_text, label_path, is_label}
use Rattle.contexts.specs.Works.{is_among, repeats}
use Rattle.contexts.specs.declared.method.ActionMethod.{ActionMethod}
use Rattle.contexts.specs.declared.method.ActionMethod.TheVariants as method
use Rattle.contexts.specs.declared.work.Work.{Work}

-- the method of `ctx.actions` of this name, if there is one
abbrev pub method_named : List ℕ → Option ActionMethod
method_named x =
    if bytes_eq x (codes "declare_file") then Some method.DeclareFile else
    if bytes_eq x (codes "write") then Some method.Write else
    if bytes_eq x (codes "run") then Some method.Run else
    if bytes_eq x (codes "run_shell") then Some method.RunShell else
    None

-- what a call gives, and the work after it; or the kind of its fault
abbrev pub Working : Type 0
Working = Result (Value × Work) Kind

-- ---- ctx.actions.declare_file(name)

-- the label of this name in the package of another label
abbrev pub below : LabelParts → List ℕ → LabelParts
below l name = record l { name = name }

-- the File of this name that the target of a label declares
abbrev pub file_named : LabelParts → List ℕ → FileRef
file_named l name = record { path = label_path (below l name); owner = label_text l }

-- the work with one declared File more
abbrev pub with_file : Work → FileRef → Work
with_file w f = record w { files = w.files ++ f ∷ [] }

-- `type` where package and name don't make a path, and then `key` where the File is declared
-- already
abbrev pub declared : LabelParts → Work → List ℕ → Working
declared l w name =
    if not (is_label (below l name)) then Err fault.Wrong else
    if is_among (file_named l name) w.files then Err fault.Key else
    Ok (value.Leaf (plain.File (file_named l name)), with_file w (file_named l name))

-- a call of it, for the target of a label; a name that is no string is `type`
abbrev pub declare_file : LabelParts → List Cell → Given → Work → Working
declare_file l h g w =
    then_give (argument (codes "name") g) (λ v. of_type (string_in (shape h v)) (declared l w))

-- ---- an action more: an output that isn't among the declared Files is `place`, as each File is
-- whose owner is another label; and one that stands there twice is `key`

-- the work with one registered action more
abbrev pub with_action : Work → Action → Work
with_action w a = record w { actions = w.actions ++ a ∷ [] }

-- the action is registered, and the call gives None
abbrev pub registered : Work → Action → Working
registered w a =
    if not (list_all (λ f. is_among f w.files) a.outputs) then Err fault.Place else
    if repeats a.outputs then Err fault.Key else
    Ok (none, with_action w a)

-- ---- ctx.actions.write(output, content)

-- the File that a leaf is, if it is one
abbrev pub leaf_file : Leaf → Option FileRef
leaf_file (plain.File f) = Some f
leaf_file _ = None

-- the File that a value is, if it is one
abbrev pub file_in : Shape → Option FileRef
file_in (atom l) = leaf_file l
file_in _ = None

-- both have to be given, by position or by name
abbrev pub write_parameters : List Parameter
write_parameters = wanted (codes "output") ∷ wanted (codes "content") ∷ []

-- the action that writes these bytes to a File; it has no inputs and no words
abbrev pub file_write : FileRef → List ℕ → Action
file_write f content =
    record {
      mnemonic = codes "FileWrite";
      outputs = f ∷ [];
      inputs = inputs.Files [];
      words = [];
      content = Some content;
    }

-- `type` where the output is no File or the content is no string, and else the action is registered
abbrev pub written : Work → Option FileRef → Option (List ℕ) → Working
written w (Some f) (Some t) = registered w (file_write f t)
written w _ _ = Err fault.Wrong

-- what a call of `write` does with what its two parameters got
abbrev pub write_with : List Cell → Work → Bound → Working
write_with h w (Some f ∷ Some t ∷ []) = written w (file_in (shape h f)) (string_in (shape h t))
write_with h w _ = Err fault.Arity

-- a call of `write`
abbrev pub write : List Cell → Given → Work → Working
write h g w = then_give (bound write_parameters g) (write_with h w)

-- ---- ctx.actions.run(*, outputs, executable, inputs = [], arguments = [], mnemonic = "Action"),
-- and run_shell with a command

-- the parameters of both methods, which differ in one word: `executable` or `command`
abbrev pub run_parameters : List ℕ → List Parameter
run_parameters word =
    wanted_by_name (codes "outputs") ∷ wanted_by_name word ∷ named_only (codes "inputs")
    ∷ named_only (codes "arguments") ∷ named_only (codes "mnemonic") ∷ []

-- no output is `arity`, before any `type`
abbrev pub some_outputs : Option (List Value) → Result (List Value) Kind
some_outputs None = Err fault.Wrong
some_outputs (Some []) = Err fault.Arity
some_outputs (Some (v ∷ vs)) = Ok (v ∷ vs)

-- the path of the File that a leaf is, if it is one
abbrev pub leaf_path : Leaf → Option (List ℕ)
leaf_path (plain.File f) = Some f.path
leaf_path _ = None

-- the first word of the action that `executable` gives: a string, or the path of a File
abbrev pub executable_in : Shape → Option (List ℕ)
executable_in (key (index.Text t)) = Some t
executable_in (atom l) = leaf_path l
executable_in _ = None

-- Files as the inputs of an action, or the fault of reading them
abbrev pub files_from : Result (List FileRef) Kind → Result Inputs Kind
files_from (Ok fs) = Ok (inputs.Files fs)
files_from (Err k) = Err k

-- a depset as the inputs of an action, or the fault of reading it
abbrev pub depset_from : Result (Rose Own) Kind → Result Inputs Kind
depset_from (Ok d) = Ok (inputs.Depset d)
depset_from (Err k) = Err k

-- the inputs that a leaf gives: a depset that is empty or of Files, and else `type`
abbrev pub leaf_inputs : Leaf → Result Inputs Kind
leaf_inputs (plain.Depset d) = depset_from (only_files d)
leaf_inputs _ = Err fault.Wrong

-- `inputs`: a sequence of Files, or a depset that is empty or of Files
abbrev pub shown_inputs : List Cell → Shape → Result Inputs Kind
shown_inputs h (items j xs) = files_from (all_in file_in h xs)
shown_inputs h (atom l) = leaf_inputs l
shown_inputs h _ = Err fault.Wrong

-- what `inputs` gives; where it isn't given there are none
abbrev pub inputs_in : List Cell → Option Value → Result Inputs Kind
inputs_in h None = Ok (inputs.Files [])
inputs_in h (Some v) = shown_inputs h (shape h v)

-- whether a text may be a mnemonic: one or more letters, A-Z or a-z
abbrev pub is_mnemonic : List ℕ → Bool
is_mnemonic t = not (nat_eq (length t) 0) && list_all is_ascii_alphabetic t

-- the text, if it may be a mnemonic
abbrev pub if_mnemonic : List ℕ → Option (List ℕ)
if_mnemonic t = if is_mnemonic t then Some t else None

-- what `mnemonic` gives: `Action` where it isn't given, and `type` where it is no such string
abbrev pub mnemonic_in : List Cell → Option Value → Result (List ℕ) Kind
mnemonic_in h None = Ok (codes "Action")
mnemonic_in h (Some v) = of_type (option_and_then if_mnemonic (string_in (shape h v))) Ok

-- the words of an action, with the strings of `arguments` put behind those that there are
abbrev pub with_strings : List Cell → List Value → List (List ℕ) → Result (List (List ℕ)) Kind
with_strings h vs words = gathered (λ v ws. put_last ws (string_in (shape h v))) vs words

-- what `arguments` gives, after the first word; what is no sequence of strings is `type`
abbrev pub words_in : List Cell → List ℕ → Option Value → Result (List (List ℕ)) Kind
words_in h word None = Ok (word ∷ [])
words_in h word (Some v) = of_type (sequence_in (shape h v)) (λ vs. with_strings h vs (word ∷ []))

-- the action of these outputs, inputs, words and mnemonic; it writes no content of its own
abbrev pub action_with : List FileRef → Inputs → List (List ℕ) → List ℕ → Action
action_with outputs from words mnemonic =
    record { mnemonic = mnemonic; outputs = outputs; inputs = from; words = words; content = None }

-- the action of outputs, of which there are some, and of what else a call got
abbrev pub action_of : List Cell → List Value → Option (List ℕ) → Option Value → Option Value
    → Option Value → Result Action Kind
action_of h outputs word from arguments mnemonic =
    then_give (all_in file_in h outputs) (λ fs. of_type word (λ t.
    then_give (inputs_in h from) (λ is.
    then_give (words_in h t arguments) (λ ws. then_give (mnemonic_in h mnemonic) (λ m.
    Ok (action_with fs is ws m))))))

-- what a call of either method does with what its parameters got
abbrev pub run_with : (Shape → Option (List ℕ)) → List Cell → Work → Bound → Working
run_with word_in h w (Some outputs ∷ Some word ∷ from ∷ arguments ∷ mnemonic ∷ []) =
    then_give (some_outputs (sequence_in (shape h outputs))) (λ vs.
    then_give (action_of h vs (word_in (shape h word)) from arguments mnemonic) (registered w))
run_with word_in h w _ = Err fault.Arity

-- a call of either method, by the word of its own and by what that may be
abbrev pub run_of : List ℕ → (Shape → Option (List ℕ)) → List Cell → Given → Work → Working
run_of word word_in h g w = then_give (bound (run_parameters word) g) (run_with word_in h w)

-- a call of `run`
abbrev pub run : List Cell → Given → Work → Working
run h g w = run_of (codes "executable") executable_in h g w

-- a call of `run_shell`, whose command is a string
abbrev pub run_shell : List Cell → Given → Work → Working
run_shell h g w = run_of (codes "command") string_in h g w

-- ---- a call of a method

-- what each method does, for the target of a label
abbrev pub method_call : LabelParts → ActionMethod → List Cell → Given → Work → Working
method_call l method.DeclareFile h g w = declare_file l h g w
method_call l method.Write h g w = write h g w
method_call l method.Run h g w = run h g w
method_call l method.RunShell h g w = run_shell h g w
