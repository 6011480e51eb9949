-- The methods of `ctx.actions` bring no depset: what an action has as its inputs was an argument.
use Rattle.std.proofs.Common.{ℕ, not, List, [], ◌∷◌, ◌++◌, Option, Some, None, Result, Ok, Err}
use Rattle.std.specs.Prelude.{codes}
use Rattle.std.specs.List.{list_all}
use Rattle.depsets.specs.Elements.{elements, all_of_type}
use Rattle.depsets.specs.Flat.{nodes}
use Rattle.depsets.specs.Own.{Own}
use Rattle.depsets.specs.Rose.{Rose}
use Rattle.depsets.specs.declared.element.ElementType.TheVariants.{File}
use Rattle.depsets.specs.declared.element.FileRef.{FileRef}
use Rattle.values.specs.Shape.{Shape, atom, items, shape}
use Rattle.values.specs.declared.cells.Cell.{Cell}
use Rattle.leaves.specs.declared.leaf.Leaf.{Leaf}
use Rattle.leaves.specs.declared.leaf.Leaf.TheVariants as plain
use Rattle.ticks.specs.declared.ticks.Kind.{Kind}
use Rattle.ticks.specs.declared.ticks.Kind.TheVariants as fault
use Rattle.values.specs.declared.value.Value.{Value}
use Rattle.values.specs.declared.value.Value.TheVariants as value
use Rattle.actions.specs.declared.action.Action.{Action}
use Rattle.actions.specs.declared.action.Inputs.{Inputs}
use Rattle.operations.specs.Arguments.{Given, Bound, bound}
use Rattle.operations.specs.BuiltIns.{argument}
use Rattle.operations.specs.Depsets.{all_in}
use Rattle.operations.specs.Instances.{only_files}
use Rattle.operations.specs.Making.{none}
use Rattle.operations.specs.Reading.{string_in, sequence_in}
use Rattle.one_tree.specs.Found.{Set, in_leaf}
use Rattle.one_tree.specs.Sets.{AreIn}
use Rattle.one_tree.proofs.Changed.{both_in}
use Rattle.holding.proofs.Givens.{bound_has}
use Rattle.holding.proofs.Steps.{none_in, left_in, right_in, IfSome, IfGiven, either, of_type_all, then_given, then_all, HasValue, HasValues, HasFields, HasHeap, slot_at_in, shown, shape_shows}
use Rattle.workspace.specs.Labels.{LabelParts, is_label}
use Rattle.outcomes.specs.Found.{in_inputs, in_actions}
use Rattle.contexts.specs.Actions.{below, file_named, with_file, declared, with_action, registered, file_in, write_parameters, file_write, written, write_with, run_parameters, some_outputs, executable_in, files_from, depset_from, leaf_inputs, shown_inputs, inputs_in, mnemonic_in, words_in, action_with, action_of, run_with, method_call}
use Rattle.contexts.specs.Works.{is_among, repeats}
use Rattle.contexts.specs.declared.method.ActionMethod.{ActionMethod}
use Rattle.contexts.specs.declared.method.ActionMethod.TheVariants as method
use Rattle.contexts.specs.declared.work.Work.{Work}

-- the depsets in the work of an implementation
abbrev pub in_work : Work → List Set
in_work w = in_actions w.actions

module _ (s : List Set) where
  actions_both : (xs ys : List Action) → AreIn (in_actions xs) s → AreIn (in_actions ys) s → AreIn (in_actions (xs ++ ys)) s
  actions_both [] ys i j = j
  actions_both (x ∷ xs) ys i j =
      both_in (in_inputs x.inputs) (in_actions (xs ++ ys)) s (left_in (in_inputs x.inputs) (in_actions xs) s i)
      (actions_both xs ys (right_in (in_inputs x.inputs) (in_actions xs) s i) j)

  -- what a method gives has no depset but of these, and the work after it has none but of these
  abbrev pub IsWorked : Value × Work → Type 0
  IsWorked p = HasValue s p.0 × AreIn (in_work p.1) s

  -- ---- `inputs`

  abbrev AreInputs : Inputs → Type 0
  AreInputs i = AreIn (in_inputs i) s

  files_are : (r : Result (List FileRef) Kind) → IfGiven AreInputs (files_from r)
  files_are (Ok fs) = none_in s
  files_are (Err k) = tt

  depset_is : (r : Result (Rose Own) Kind) → IfGiven (λ d. AreIn (nodes d) s) r → IfGiven AreInputs (depset_from r)
  depset_is (Ok d) i = i
  depset_is (Err k) i = tt

  leaf_is : (l : Leaf) → AreIn (in_leaf l) s → IfGiven AreInputs (leaf_inputs l)
  leaf_is (plain.Depset d) i =
      depset_is (only_files d) (either (IfGiven (λ e. AreIn (nodes e) s)) (all_of_type File (elements d)) (Ok d) (Err fault.Wrong) i tt)
  leaf_is _ i = tt

  shown_are : (h : List Cell) (g : Shape) → AreIn (shown g) s → IfGiven AreInputs (shown_inputs h g)
  shown_are h (items j xs) i = files_are (all_in file_in h xs)
  shown_are h (atom l) i = leaf_is l i
  shown_are h _ i = tt

  inputs_are : (h : List Cell) (o : Option Value) → HasHeap s h → IfSome (HasValue s) o → IfGiven AreInputs (inputs_in h o)
  inputs_are h None i j = none_in s
  inputs_are h (Some v) i j = shown_are h (shape h v) (shape_shows s h v i j)

  -- ---- a call of a method

  module _ (l : LabelParts) (h : List Cell) (w : Work) (heap : HasHeap s h) (before : AreIn (in_work w) s) where
    declared_is : (name : List ℕ) → IfGiven IsWorked (declared l w name)
    declared_is name =
        either (IfGiven IsWorked) (not (is_label (below l name))) (Err fault.Wrong) _ tt
        (either (IfGiven IsWorked) (is_among (file_named l name) w.files) (Err fault.Key) (Ok (value.Leaf (plain.File (file_named l name)), with_file w (file_named l name))) tt
        (none_in s, before))

    registered_is : (a : Action) → AreInputs a.inputs → IfGiven IsWorked (registered w a)
    registered_is a i =
        either (IfGiven IsWorked) (not (list_all (λ f. is_among f w.files) a.outputs)) (Err fault.Place) _ tt
        (either (IfGiven IsWorked) (repeats a.outputs) (Err fault.Key) (Ok (none, with_action w a)) tt
        (none_in s, actions_both w.actions (a ∷ []) before (both_in (in_inputs a.inputs) [] s i (none_in s))))

    written_is : (f : Option FileRef) (t : Option (List ℕ)) → IfGiven IsWorked (written w f t)
    written_is (Some f) (Some t) = registered_is (file_write f t) (none_in s)
    written_is _ _ = tt

    write_is : (os : Bound) → IfGiven IsWorked (write_with h w os)
    write_is (Some f ∷ Some t ∷ []) = written_is (file_in (shape h f)) (string_in (shape h t))
    write_is _ = tt

    abbrev HasInputs : Action → Type 0
    HasInputs a = AreInputs a.inputs

    action_is : (outputs : List Value) (word : Option (List ℕ)) (from arguments mnemonic : Option Value) → IfSome (HasValue s) from
        → IfGiven HasInputs (action_of h outputs word from arguments mnemonic)
    action_is outputs word from arguments mnemonic i =
        then_all HasInputs (all_in file_in h outputs) _ (λ fs. of_type_all HasInputs word _ (λ t.
        then_given AreInputs HasInputs (inputs_in h from) _ (inputs_are h from heap i) (λ is j.
        then_all HasInputs (words_in h t arguments) _ (λ ws. then_all HasInputs (mnemonic_in h mnemonic) (λ m. Ok (action_with fs is ws m)) (λ m. j)))))

    run_is : (word_in : Shape → Option (List ℕ)) (os : Bound) → HasFields s os → IfGiven IsWorked (run_with word_in h w os)
    run_is word_in (Some outputs ∷ Some word ∷ from ∷ arguments ∷ mnemonic ∷ []) i =
        then_all IsWorked (some_outputs (sequence_in (shape h outputs))) _ (λ vs.
        then_given HasInputs IsWorked (action_of h vs (word_in (shape h word)) from arguments mnemonic) (registered w)
        (action_is vs (word_in (shape h word)) from arguments mnemonic (slot_at_in s (Some outputs ∷ Some word ∷ from ∷ arguments ∷ mnemonic ∷ []) 2 i))
        registered_is)
    run_is word_in _ i = tt

    pub methods_bring_none : (m : ActionMethod) (g : Given) → HasValues s g.items → HasValues s g.values → IfGiven IsWorked (method_call l m h g w)
    methods_bring_none method.DeclareFile g i j =
        then_all IsWorked (argument (codes "name") g) _ (λ v. of_type_all IsWorked (string_in (shape h v)) (declared l w) declared_is)
    methods_bring_none method.Write g i j = then_all IsWorked (bound write_parameters g) (write_with h w) write_is
    methods_bring_none method.Run g i j =
        then_given (HasFields s) IsWorked (bound (run_parameters (codes "executable")) g) (run_with executable_in h w)
        (bound_has s (run_parameters (codes "executable")) g i j) (run_is executable_in)
    methods_bring_none method.RunShell g i j =
        then_given (HasFields s) IsWorked (bound (run_parameters (codes "command")) g) (run_with string_in h w)
        (bound_has s (run_parameters (codes "command")) g i j) (run_is string_in)
