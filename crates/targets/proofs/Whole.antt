-- A target that is done has all that is asked of it.
use Rattle.std.proofs.Common.{◌≡◌, ◌∙◌, ℕ, Bool, true, false, ◌&&◌, List, [], ◌∷◌, Option, Some, None, Result, Ok, Err, ap, sym, refl, subst}
use Rattle.std.specs.Prelude.{if◌then◌else◌, not}
use Rattle.std.specs.List.{AllByRecursion, list_any}
use Rattle.depsets.specs.declared.element.FileRef.{FileRef}
use Rattle.values.specs.Tree.{key, leaf, branch, list, tuple, dict, instance, tree_list}
use Rattle.values.specs.View.{FrozenTree, FrozenBranch}
use Rattle.leaves.specs.declared.leaf.Leaf.{Leaf}
use Rattle.leaves.specs.declared.leaf.Leaf.TheVariants as plain
use Rattle.actions.specs.declared.action.Action.{Action}
use Rattle.operations.specs.Instances.{default_info}
use Rattle.workspace.specs.Labels.{LabelParts}
use Rattle.targets.specs.Checks.{Dependency, offers, first_refused}
use Rattle.targets.specs.Steps.{Implemented, Fault, are_instances, if_instances, branch_instances, instances_in, missing_default_info, with_default_info, makes, first_unmade, made_whole, with_instances, finished, unless_refused, analysed, failed_labels, target_outcome}
use Rattle.targets.specs.Laws.{IsWhole}
use Rattle.targets.specs.declared.outcome.Outcome.TheVariants.{Done}
use Rattle.targets.specs.declared.outcome.TargetFault.{TargetFault}
use Rattle.targets.specs.declared.target.Target.{Target}
use Rattle.targets.proofs.Refusals.{tells_none}

-- where none is left unmade, each is made
all_made : (actions : List Action) (fs : List FileRef) → first_unmade actions fs ≡ None → AllByRecursion (λ f. list_any (makes f.path) actions ≡ true) fs
all_made actions [] e = tt
all_made actions (f ∷ fs) e = at (list_any (makes f.path) actions) refl (all_made actions fs) e
  where
    at : (b : Bool) → list_any (makes f.path) actions ≡ b → (first_unmade actions fs ≡ None → AllByRecursion (λ g. list_any (makes g.path) actions ≡ true) fs) → (if b then first_unmade actions fs else Some f.path) ≡ None → AllByRecursion (λ g. list_any (makes g.path) actions ≡ true) (f ∷ fs)
    at true is k h = (is, k h)
    at false is k h = absurd (cc)

-- what an implementation returns are instances
are_if : (ts us : List FrozenTree) → if_instances ts ≡ Some us → are_instances us ≡ true
are_if ts us e = at (are_instances ts) refl e
  where
    at : (b : Bool) → are_instances ts ≡ b → (if b then Some ts else None) ≡ Some us → are_instances us ≡ true
    at true is h = let same : ts ≡ us = cc in subst (λ (xs : List FrozenTree). are_instances xs ≡ true) same is
    at false is h = absurd (cc)

of_branch : (b : FrozenBranch) (us : List FrozenTree) → branch_instances b ≡ Some us → are_instances us ≡ true
of_branch (list ts) us e = are_if (tree_list ts) us e
of_branch (tuple ts) us e = absurd (cc)
of_branch (dict ps) us e = absurd (cc)
of_branch (instance p ss) us e = absurd (cc)

of_leaf : (l : Leaf) (us : List FrozenTree) → instances_in (leaf l) ≡ Some us → are_instances us ≡ true
of_leaf plain.None us e = let same : [] ≡ us = cc in subst (λ (xs : List FrozenTree). are_instances xs ≡ true) same refl
of_leaf (plain.Label s) us e = absurd (cc)
of_leaf (plain.File f) us e = absurd (cc)
of_leaf (plain.Depset d) us e = absurd (cc)
of_leaf (plain.Function f) us e = absurd (cc)
of_leaf (plain.BuiltIn b) us e = absurd (cc)
of_leaf (plain.Provider p) us e = absurd (cc)
of_leaf (plain.Rule r) us e = absurd (cc)
of_leaf (plain.Attribute a) us e = absurd (cc)
of_leaf (plain.Target n) us e = absurd (cc)
of_leaf (plain.Object o) us e = absurd (cc)

returned_instances : (t : FrozenTree) (us : List FrozenTree) → instances_in t ≡ Some us → are_instances us ≡ true
returned_instances (key k) us e = absurd (cc)
returned_instances (leaf l) us e = of_leaf l us e
returned_instances (branch b) us e = of_branch b us e

-- a missing `DefaultInfo` is new among them
whole_instances : (l : LabelParts) (ts : List FrozenTree) → are_instances ts ≡ true → (are_instances (with_default_info l ts) ≡ true) × (offers (with_default_info l ts) default_info ≡ true)
whole_instances l ts are = at (offers ts default_info) refl
  where
    at : (b : Bool) → offers ts default_info ≡ b → (are_instances (if b then ts else missing_default_info l ∷ ts) ≡ true) × (offers (if b then ts else missing_default_info l ∷ ts) default_info ≡ true)
    at true is = (are, is)
    at false is = (ap (λ b. not b && are_instances ts) is ∙ are, refl)

module _ (l : LabelParts) (ts : List FrozenTree) (actions : List Action) where
  -- what a call that gave this leaves
  record Gave (i : Implemented) : Type 0 where
    pub same : actions ≡ i.actions
    pub made : AllByRecursion (λ f. list_any (makes f.path) i.actions ≡ true) i.files
    pub returned : (us : List FrozenTree) × (instances_in i.result ≡ Some us) × (ts ≡ with_default_info l us)

  made_of : (i : Implemented) (us : List FrozenTree) → instances_in i.result ≡ Some us → (o : Option (List ℕ)) → first_unmade i.actions i.files ≡ o → made_whole l us i.actions o ≡ Done ts actions → Gave i
  made_of i us are (Some path) is e = absurd (cc)
  made_of i us are None is e =
      let t : with_default_info l us ≡ ts = cc in
      let a : i.actions ≡ actions = cc in
      record { same = sym a; made = all_made i.actions i.files is; returned = (us, are, sym t) }

  gave_of : (i : Implemented) (o : Option (List FrozenTree)) → instances_in i.result ≡ o → with_instances l i o ≡ Done ts actions → Gave i
  gave_of i None is e = absurd (cc)
  gave_of i (Some us) is e = made_of i us is (first_unmade i.actions i.files) refl e

  finished_of : (r : Result Implemented Fault) → finished l r ≡ Done ts actions → (i : Implemented) × (r ≡ Ok i) × Gave i
  finished_of (Err f) e = absurd (cc)
  finished_of (Ok i) e = (i, refl, gave_of i (instances_in i.result) refl e)

  module _ (implement : LabelParts → Target → List Dependency → Result Implemented Fault) (t : Target) (ds : List Dependency) where
    checked : (o : Option TargetFault) → first_refused ds t.rule.attributes t.values ≡ o → unless_refused implement l t ds o ≡ Done ts actions
        → (first_refused ds t.rule.attributes t.values ≡ None) × ((i : Implemented) × (implement l t ds ≡ Ok i) × Gave i)
    checked (Some f) is e = absurd (cc)
    checked None is e = (is, finished_of (implement l t ds) e)

    fit : (fs : List LabelParts) → failed_labels ds ≡ fs → analysed implement l t ds fs ≡ Done ts actions
        → (failed_labels ds ≡ []) × ((first_refused ds t.rule.attributes t.values ≡ None) × ((i : Implemented) × (implement l t ds ≡ Ok i) × Gave i))
    fit (f ∷ fs) is e = absurd (cc)
    fit [] is e = (is, checked (first_refused ds t.rule.attributes t.values) refl e)

    pub is_whole : target_outcome implement l t ds ≡ Done ts actions → IsWhole t ds (implement l t ds) l ts actions
    is_whole e =
        let h = fit (failed_labels ds) refl e in
        let i = h.1.1.0 in
        let g = h.1.1.2 in
        let us = g.returned.0 in
        let w = whole_instances l us (returned_instances i.result us g.returned.1) in
        record {
          none_failed = h.0;
          none_refused = tells_none ds t.rule.attributes t.values h.1.0;
          given = (i, h.1.1.1, g.same, g.made, g.returned);
          instances = ap are_instances g.returned.2 ∙ w.0;
          default_info = ap (λ (xs : List FrozenTree). offers xs default_info) g.returned.2 ∙ w.1;
        }
