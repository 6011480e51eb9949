-- The step of a label keeps coherence, where the call of an implementation does.
use Rattle.std.proofs.Common.{◌≡◌, ◌⊎◌, inl, inr, ◌∙◌, ℕ, Bool, true, false, List, [], ◌∷◌, ◌++◌, Option, None, Some, Result, Ok, Err, sym, ap, refl}
use Rattle.std.specs.Prelude.{if◌then◌else◌, zip}
use Rattle.depsets.specs.Flat.{Among}
use Rattle.depsets.specs.declared.element.Element.TheVariants as element
use Rattle.values.specs.Tree.{Trees, key, leaf, branch, list, tuple, dict, instance, none, more, tree_list}
use Rattle.values.specs.View.{FrozenTree, FrozenBranch}
use Rattle.keys.specs.declared.key.Key.{Key}
use Rattle.leaves.specs.declared.leaf.Leaf.{Leaf}
use Rattle.leaves.specs.declared.leaf.Leaf.TheVariants as plain
use Rattle.leaves.specs.declared.leaf.Provider.{Provider}
use Rattle.operations.specs.Instances.{default_info}
use Rattle.coherence.specs.Coherent.{Depsets, AreCoherent, AreFresh}
use Rattle.coherence.proofs.Firsts.{first_joins}
use Rattle.one_tree.specs.Found.{Set, in_tree, in_trees, in_outcome}
use Rattle.workspace.specs.Labels.{LabelParts, label_text}
use Rattle.targets.specs.Checks.{Dependency, offers, first_refused}
use Rattle.targets.specs.Resolving.{Named, target, source_file, failed_package, nothing, dependencies}
use Rattle.targets.specs.Sources.{first_depset}
use Rattle.targets.specs.Steps.{Implemented, Fault, missing_default_info, are_instances, branch_instances, instances_in, first_unmade, made_whole, with_instances, finished, unless_refused, analysed, failed_labels, step}
use Rattle.targets.specs.declared.outcome.Outcome.{Outcome}
use Rattle.targets.specs.declared.outcome.Outcome.TheVariants.{Source, Done, Failed}
use Rattle.targets.specs.declared.outcome.TargetFault.{TargetFault}
use Rattle.targets.specs.declared.target.Target.{Target}
use Rattle.outcomes.specs.Found.{id_of, owner_of, serial_of, in_actions, has_depset, gave, IsMadeBy}

among_split : {X : Type 0} (x : X) (xs ys : List X) → Among x (xs ++ ys) → Among x xs ⊎ Among x ys
among_split x [] ys i = inr i
among_split x (z ∷ xs) ys (inl e) = inl (inl e)
among_split x (z ∷ xs) ys (inr i) = elim (among_split x xs ys i) [ inl j ↦ inl (inr j) | inr j ↦ inr j ]

among_left : {X : Type 0} (x : X) (xs ys : List X) → Among x xs → Among x (xs ++ ys)
among_left x [] ys i = absurd i
among_left x (z ∷ xs) ys (inl e) = inl e
among_left x (z ∷ xs) ys (inr i) = inr (among_left x xs ys i)

among_right : {X : Type 0} (x : X) (xs ys : List X) → Among x ys → Among x (xs ++ ys)
among_right x [] ys i = i
among_right x (z ∷ xs) ys i = inr (among_right x xs ys i)

-- the depsets of a list of values are those of its items
items_in : (d : Set) (ts : Trees Leaf Key Provider) → Among d (in_outcome (tree_list ts)) → Among d (in_trees ts)
items_in d none i = i
items_in d (more t ts) i = elim (among_split d (in_tree t) (in_outcome (tree_list ts)) i) [
  | inl j ↦ among_left d (in_tree t) (in_trees ts) j
  | inr j ↦ among_right d (in_tree t) (in_trees ts) (items_in d ts j)
]

abbrev Each : (Set → Type 0) → Option (List FrozenTree) → Type 0
Each P None = Unit {0}
Each P (Some ts) = (d : Set) → Among d (in_outcome ts) → P d

either : (P : Set → Type 0) (b : Bool) (ts : List FrozenTree) → ((d : Set) → Among d (in_outcome ts) → P d) → Each P (if b then Some ts else None)
either P true ts k = k
either P false ts k = tt

-- what is returned was in the result
branch_in : (b : FrozenBranch) → Each (λ d. Among d (in_tree (branch b))) (branch_instances b)
branch_in (list ts) = either (λ d. Among d (in_trees ts)) (are_instances (tree_list ts)) (tree_list ts) (λ d i. items_in d ts i)
branch_in (tuple ts) = tt
branch_in (dict ps) = tt
branch_in (instance p ss) = tt

leaf_in : (l : Leaf) → Each (λ d. Among d (in_tree (leaf l))) (instances_in (leaf l))
leaf_in plain.None = λ d i. i
leaf_in (plain.Label s) = tt
leaf_in (plain.File f) = tt
leaf_in (plain.Depset d) = tt
leaf_in (plain.Function f) = tt
leaf_in (plain.BuiltIn b) = tt
leaf_in (plain.Provider p) = tt
leaf_in (plain.Rule r) = tt
leaf_in (plain.Attribute a) = tt
leaf_in (plain.Target n) = tt
leaf_in (plain.Object o) = tt

returned_in : (t : FrozenTree) → Each (λ d. Among d (in_tree t)) (instances_in t)
returned_in (key k) = tt
returned_in (leaf l) = leaf_in l
returned_in (branch b) = branch_in b

module _ (l : LabelParts) (given : Depsets Set) (alike : AreCoherent id_of owner_of given) (fresh : AreFresh id_of owner_of (label_text l) given) where
  -- an outcome is coherent with what was given, and each depset of it was given or is the label's
  pub record IsKept (o : Outcome) : Type 0 where
    pub together : AreCoherent id_of owner_of (λ d. given d ⊎ has_depset o d)
    pub theirs : (d : Set) → has_depset o d → given d ⊎ (owner_of (id_of d) ≡ label_text l)

  -- what has less keeps it too
  less : (o : Outcome) (More : Depsets Set) → AreCoherent id_of owner_of (λ d. given d ⊎ More d) → ((d : Set) → More d → given d ⊎ (owner_of (id_of d) ≡ label_text l)) → ((d : Set) → has_depset o d → More d) → IsKept o
  less o More all theirs sub = record { together = λ a b i j e. all a b (up a i) (up b j) e; theirs = λ d i. theirs d (sub d i) }
    where
      up : (d : Set) → given d ⊎ has_depset o d → given d ⊎ More d
      up d (inl g) = inl g
      up d (inr i) = inr (sub d i)

  bare : (e : TargetFault) → IsKept (Failed e)
  bare e = record { together = apart; theirs = λ d i. absurd i }
    where
      apart : AreCoherent id_of owner_of (λ d. given d ⊎ has_depset (Failed e) d)
      apart a b (inl g) (inl h) p = alike a b g h p
      apart a b (inl g) (inr j) p = absurd j
      apart a b (inr i) j p = absurd i

  abbrev zero : Set
  zero = first_depset (label_text l) []

  module _ (r : Implemented) (made : IsMadeBy (label_text l) given r) where
    abbrev More : Depsets Set
    More d = gave r d ⊎ (d ≡ zero)

    more_alike : AreCoherent id_of owner_of (λ d. given d ⊎ More d)
    more_alike = first_joins id_of owner_of serial_of (label_text l) given (gave r) fresh made zero refl refl

    more_theirs : (d : Set) → More d → given d ⊎ (owner_of (id_of d) ≡ label_text l)
    more_theirs d (inl i) = elim (made.theirs d i) [ inl g ↦ inl g | inr new ↦ inr new.0 ]
    more_theirs d (inr e) = inr (ap (λ (x : Set). owner_of (id_of x)) e)

    abbrev Within : List FrozenTree → Type 0
    Within ts = (d : Set) → Among d (in_outcome ts) → Among d (in_tree r.result)

    within : (ts : List FrozenTree) → Within ts → (d : Set) → Among d (in_outcome ts ++ in_actions r.actions) → gave r d
    within ts sub d i = elim (among_split d (in_outcome ts) (in_actions r.actions) i) [
      | inl j ↦ among_left d (in_tree r.result) (in_actions r.actions) (sub d j)
      | inr j ↦ among_right d (in_tree r.result) (in_actions r.actions) j
    ]

    with_info : (b : Bool) (ts : List FrozenTree) → Within ts → IsKept (Done (if b then ts else missing_default_info l ∷ ts) r.actions)
    with_info true ts sub = less (Done ts r.actions) More more_alike more_theirs (λ d i. inl (within ts sub d i))
    with_info false ts sub = less (Done (missing_default_info l ∷ ts) r.actions) More more_alike more_theirs split
      where
        split : (d : Set) → has_depset (Done (missing_default_info l ∷ ts) r.actions) d → More d
        split d (inl e) = inr (sym e)
        split d (inr i) = inl (within ts sub d i)

    whole_kept : (ts : List FrozenTree) → Within ts → (o : Option (List ℕ)) → IsKept (made_whole l ts r.actions o)
    whole_kept ts sub (Some path) = bare _
    whole_kept ts sub None = with_info (offers ts default_info) ts sub

    instances_kept : (o : Option (List FrozenTree)) → Each (λ d. Among d (in_tree r.result)) o → IsKept (with_instances l r o)
    instances_kept None sub = bare _
    instances_kept (Some ts) sub = whole_kept ts sub (first_unmade r.actions r.files)

  -- the call of an implementation keeps coherence
  abbrev pub IfMade : Result Implemented Fault → Type 0
  IfMade (Ok r) = IsMadeBy (label_text l) given r
  IfMade (Err e) = Unit {0}

  finished_kept : (res : Result Implemented Fault) → IfMade res → IsKept (finished l res)
  finished_kept (Ok r) made = instances_kept r made (instances_in r.result) (returned_in r.result)
  finished_kept (Err e) made = bare _

  source_kept : (path : List ℕ) → IsKept (Source (record { path = path; owner = label_text l }))
  source_kept path = record { together = apart; theirs = own }
    where
      z : Set
      z = first_depset (label_text l) (element.File (record { path = path; owner = label_text l }) ∷ [])

      own : (d : Set) → has_depset (Source (record { path = path; owner = label_text l })) d → given d ⊎ (owner_of (id_of d) ≡ label_text l)
      own d (inl e) = inr (ap (λ (x : Set). owner_of (id_of x)) (sym e))
      own d (inr i) = absurd i

      apart : AreCoherent id_of owner_of (λ d. given d ⊎ has_depset (Source (record { path = path; owner = label_text l })) d)
      apart a b (inl g) (inl h) p = alike a b g h p
      apart a b (inl g) (inr (inl k)) p = absurd (fresh a g (ap owner_of p ∙ ap (λ (x : Set). owner_of (id_of x)) (sym k)))
      apart a b (inl g) (inr (inr k)) p = absurd k
      apart a b (inr (inl k)) (inl h) p = absurd (fresh b h (ap owner_of (sym p) ∙ ap (λ (x : Set). owner_of (id_of x)) (sym k)))
      apart a b (inr (inl k)) (inr (inl m)) p = sym k ∙ m
      apart a b (inr (inl k)) (inr (inr m)) p = absurd m
      apart a b (inr (inr k)) j p = absurd k

  module _ (implement : LabelParts → Target → List Dependency → Result Implemented Fault) where
    unless_kept : (t : Target) (ds : List Dependency) → IfMade (implement l t ds) → (o : Option TargetFault) → IsKept (unless_refused implement l t ds o)
    unless_kept t ds made (Some f) = bare f
    unless_kept t ds made None = finished_kept (implement l t ds) made

    analysed_kept : (t : Target) (ds : List Dependency) → IfMade (implement l t ds) → (fs : List LabelParts) → IsKept (analysed implement l t ds fs)
    analysed_kept t ds made (f ∷ fs) = bare _
    analysed_kept t ds made [] = unless_kept t ds made (first_refused ds t.rule.attributes t.values)

    -- where it is called, the call keeps coherence
    abbrev pub IfCalled : List Outcome → Named → Type 0
    IfCalled os nothing = Unit {0}
    IfCalled os failed_package = Unit {0}
    IfCalled os source_file = Unit {0}
    IfCalled os (target t) = IfMade (implement l t (zip (dependencies t) os))

    pub step_kept : (r : Named) (os : List Outcome) → IfCalled os r → IsKept (step implement l r os)
    step_kept nothing os made = bare _
    step_kept failed_package os made = bare _
    step_kept source_file os made = source_kept _
    step_kept (target t) os made = analysed_kept t (zip (dependencies t) os) made (failed_labels (zip (dependencies t) os))
