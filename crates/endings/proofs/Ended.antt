-- In a module that ended what has a name is called by it, as the value of a global too.
use Rattle.std.proofs.Common.{◌≡◌, ℕ, Bool, true, false, nat_eq, if◌then◌else◌, List, map, Option, Some, None, Result, Ok, Err, option_map, slice_get, refl, sym, ap, subst, ◌∙◌, eq-eqb}
use Rattle.std.proofs.lemmas.Option.{same_Some, slice_get-map}
use Rattle.std.specs.Option.{option_flatten}
use Rattle.values.specs.Tree.{key, leaf, branch}
use Rattle.values.specs.View.{FrozenTree}
use Rattle.ticks.specs.Ticking.{Ticking}
use Rattle.leaves.specs.declared.leaf.Leaf.{Leaf}
use Rattle.leaves.specs.declared.leaf.Leaf.TheVariants as plain
use Rattle.leaves.specs.declared.leaf.MadeId.{MadeId}
use Rattle.leaves.specs.declared.leaf.Provider.{Provider}
use Rattle.leaves.specs.declared.leaf.ProviderRef.TheVariants as provider
use Rattle.leaves.specs.declared.leaf.RuleRef.{RuleRef}
use Rattle.ticks.specs.declared.ticks.Kind.{Kind}
use Rattle.values.specs.declared.value.Value.{Value}
use Rattle.operations.specs.declared.state.State.{State}
use Rattle.loading.specs.Loads.{Path, Name}
use Rattle.loading.specs.declared.faults.Ending.{Ending}
use Rattle.loading.specs.declared.faults.Ending.TheVariants.{Unnamed}
use Rattle.evaluation.specs.declared.handed.Module.{Module}
use Rattle.targets.specs.declared.declarations.Declarations.{Declarations}
use Rattle.evaluation.specs.Naming.{Naming, all_named, with_provider_name, with_rule_name, provider_made_by, provider_named, rule_named, leaf_named, slot_named}
use Rattle.evaluation.specs.Runs.{naming_of, module_named, module_of_frozen, all_frozen, module_ended}
use Rattle.endings.specs.Called.{IsProvider, IsRule, provider_value, rule_value, IsFirstName, exported, MadeIsCalled}
use Rattle.endings.proofs.Numbers.{number_of, provider_number, rule_number, provider_taken, takes_provider, rule_taken, takes_rule, are_after, providers_are_called, rules_are_called}

-- ---- names change no numbers
module _ (ns : Naming) where
  provider_id : (p : Provider) → (provider_named ns p).id ≡ p.id
  provider_id p = of_id p.id
    where
      with_name : (o : Option Name) → (with_provider_name ns p o).id ≡ p.id
      with_name None = refl
      with_name (Some x) = refl

      chosen : (b : Bool) (o : Option Name) → (if b then with_provider_name ns p o else p).id ≡ p.id
      chosen true o = with_name o
      chosen false o = refl

      of_id : (o : Option MadeId) → (provider_made_by ns p o).id ≡ p.id
      of_id None = refl
      of_id (Some id) = chosen (nat_eq id.«module» ns.file) (option_flatten (slice_get ns.providers id.number))

  rule_id : (r : RuleRef) → (rule_named ns r).id ≡ r.id
  rule_id r = chosen (nat_eq r.id.«module» ns.file) (option_flatten (slice_get ns.rules r.id.number))
    where
      with_name : (o : Option Name) → (with_rule_name ns r o).id ≡ r.id
      with_name None = refl
      with_name (Some x) = refl

      chosen : (b : Bool) (o : Option Name) → (if b then with_rule_name ns r o else r).id ≡ r.id
      chosen true o = with_name o
      chosen false o = refl

  leaf_provider : (n : ℕ) (l : Leaf)
      → provider_number n (Some (leaf (leaf_named ns l))) ≡ provider_number n (Some (leaf l))
  leaf_provider n (plain.Provider p) = ap (number_of n) (provider_id p)
  leaf_provider n _ = refl

  leaf_rule : (n : ℕ) (l : Leaf) → rule_number n (Some (leaf (leaf_named ns l))) ≡ rule_number n (Some (leaf l))
  leaf_rule n (plain.Rule r) = ap (λ id. number_of n (Some id)) (rule_id r)
  leaf_rule n _ = refl

  same_provider : (n : ℕ) (t : Option FrozenTree) → provider_number n (slot_named ns t) ≡ provider_number n t
  same_provider n None = refl
  same_provider n (Some (key k)) = refl
  same_provider n (Some (leaf l)) = leaf_provider n l
  same_provider n (Some (branch b)) = refl

  same_rule : (n : ℕ) (t : Option FrozenTree) → rule_number n (slot_named ns t) ≡ rule_number n t
  same_rule n None = refl
  same_rule n (Some (key k)) = refl
  same_rule n (Some (leaf l)) = leaf_rule n l
  same_rule n (Some (branch b)) = refl

-- ---- what has a number that is named is called by that name
module _ (ns : Naming) (n i : ℕ) (x : Name) (file : ns.file ≡ n) where
  here : nat_eq n ns.file ≡ true
  here = eq-eqb n ns.file (sym file)

  provider_called : (p : Provider) → IsProvider n i p → slice_get ns.providers i ≡ Some (Some x)
      → (provider_named ns p).name ≡ provider.Exported (exported ns.path x)
  provider_called p is e =
      ap (λ o. (provider_made_by ns p o).name) is
      ∙ ap (λ b. (if b then with_provider_name ns p (option_flatten (slice_get ns.providers i)) else p).name) here
      ∙ ap (λ o. (with_provider_name ns p (option_flatten o)).name) e

  rule_called : (r : RuleRef) → IsRule n i r → slice_get ns.rules i ≡ Some (Some x)
      → (rule_named ns r).name ≡ exported ns.path x
  rule_called r is e =
      ap (λ (id : MadeId).
      (if nat_eq id.«module» ns.file then with_rule_name ns r (option_flatten (slice_get ns.rules id.number)) else r).name) is
      ∙ ap (λ b. (if b then with_rule_name ns r (option_flatten (slice_get ns.rules i)) else r).name) here
      ∙ ap (λ o. (with_rule_name ns r (option_flatten o)).name) e

-- ---- The first global that is it stays so, whatever is renamed, if each keeps its number.
module _ {A : Type 0} (value : A → FrozenTree) (Is : ℕ → A → Type 0) (takes : Option FrozenTree → Option ℕ)
    (taken : (t : Option FrozenTree) (i : ℕ) → takes t ≡ Some i → (a : A) × (t ≡ Some (value a)) × Is i a)
    (takes_it : (a : A) (i : ℕ) → Is i a → takes (Some (value a)) ≡ Some i)
    (renamed : Option FrozenTree → Option FrozenTree)
    (keeps : (t : Option FrozenTree) → takes (renamed t) ≡ takes t) where
  before : (i : ℕ) (ts : List (Option FrozenTree)) (k : ℕ) (a : A)
      → slice_get (map renamed ts) k ≡ Some (Some (value a)) → Is i a
      → (b : A) × (slice_get ts k ≡ Some (Some (value b))) × Is i b
  before i ts k a e is = by (slice_get ts k) refl
    where
      by : (o : Option (Option FrozenTree)) → slice_get ts k ≡ o
          → (b : A) × (slice_get ts k ≡ Some (Some (value b))) × Is i b
      by None h =
          let no_such : option_map renamed None ≡ Some (Some (value a)) =
          ap (option_map renamed) (sym h) ∙ sym (slice_get-map renamed ts k) ∙ e in
          absurd cc
      by (Some t) h =
          let now : Some (renamed t) ≡ Some (Some (value a)) =
          ap (option_map renamed) (sym h) ∙ sym (slice_get-map renamed ts k) ∙ e in
          let number : takes t ≡ Some i =
          sym (keeps t) ∙ ap takes (same_Some (renamed t) (Some (value a)) now) ∙ takes_it a i is in
          let it = taken t i number in
          (it.0, h ∙ ap Some it.1, it.2)

  pub stays_first : (i : ℕ) (xs : List Name) (ts : List (Option FrozenTree)) (x : Name)
      → (f : IsFirstName value (Is i) xs ts x) (a : A)
      → renamed (Some (value f.thing)) ≡ Some (value a) → Is i a → IsFirstName value (Is i) xs (map renamed ts) x
  stays_first i xs ts x f a e is = record {
    place = f.place;
    name = f.name;
    thing = a;
    here = slice_get-map renamed ts f.place ∙ ap (option_map renamed) f.here ∙ ap Some e;
    is = is;
    first = λ k c lt h it. let b = before i ts k c h it in f.first k b.0 lt b.1 b.2;
  }

-- ---- a module

abbrev value_or : Module → Result Module (Ending Kind) → Module
value_or m (Ok k) = k
value_or m (Err k) = m

module _ (path : Path) (n : ℕ) (names : List Name) (made : Declarations) where
  module _ (globals : List (Option FrozenTree)) (loaded : List (Option Value)) (ds : List (List FrozenTree)) where
    abbrev given : Naming
    given = naming_of path n names globals made

    abbrev come_to : Bool → Result Module (Ending Kind)
    come_to b = if b then Ok (module_named given names globals loaded ds made) else Err Unnamed

    named_is_called : all_named given ≡ true → MadeIsCalled path n (module_named given names globals loaded ds made)
    unfolding stays_first
    named_is_called h = record {
      providers = λ i lt.
          let c = providers_are_called path n names globals made h i lt in
          let p = c.2.thing in
          let same = are_after path n names globals made in (
            c.0,
            stays_first provider_value (IsProvider n) (provider_number n) (provider_taken n) (takes_provider n)
                (slot_named given) (same_provider given n) i names globals c.0 c.2 (provider_named given p) refl
                (provider_id given p ∙ c.2.is),
            provider_called given n i c.0 same.file p c.2.is c.1
                ∙ ap (λ q. provider.Exported (exported q c.0)) same.path,
          );
      rules = λ i lt.
          let c = rules_are_called path n names globals made h i lt in
          let r = c.2.thing in
          let same = are_after path n names globals made in (
            c.0,
            stays_first rule_value (IsRule n) (rule_number n) (rule_taken n) (takes_rule n)
                (slot_named given) (same_rule given n) i names globals c.0 c.2 (rule_named given r) refl
                (rule_id given r ∙ c.2.is),
            rule_called given n i c.0 same.file r c.2.is c.1 ∙ ap (λ q. exported q c.0) same.path,
          );
    }

    if_named_is_called : (m : Module) (b : Bool) → all_named given ≡ b → come_to b ≡ Ok m → MadeIsCalled path n m
    if_named_is_called m true h e = subst (MadeIsCalled path n) (ap (value_or m) e) (named_is_called h)
    if_named_is_called m false h e = absurd cc

  frozen_is_called : (loaded : List (Option Value)) (m : Module)
      → (r : Ticking (List (Option FrozenTree) × List (List FrozenTree)))
      → module_of_frozen path n names loaded made r ≡ Ok m → MadeIsCalled path n m
  frozen_is_called loaded m (Err k) e = absurd cc
  frozen_is_called loaded m (Ok r) e =
      if_named_is_called r.0.0 loaded r.0.1 m (all_named (naming_of path n names r.0.0 made)) refl e

  pub made_is_called : (s : State) (m : Module) → module_ended path n names s made ≡ Ok m → MadeIsCalled path n m
  made_is_called s m e = frozen_is_called s.loaded m (all_frozen s.heap s.globals s.defaults s.ticks) e
