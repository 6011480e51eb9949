-- The names of a module's providers and rules, each as names that values take one after the other.
use Rattle.std.proofs.Common.{◌≡◌, ℕ, Bool, true, false, ◌&&◌, nat_eq, if◌then◌else◌, List, [], ◌∷◌, length, replicate, Option, Some, None, slice_get, is_some, refl, sym, ap, ap₂, subst, ◌∙◌, eqb-true, eq-eqb}
use Rattle.std.specs.List.{list_all}
use Rattle.std.proofs.lemmas.Option.{same_Some}
use Rattle.values.specs.Tree.{key, leaf, branch}
use Rattle.values.specs.View.{FrozenTree}
use Rattle.leaves.specs.declared.leaf.Leaf.{Leaf}
use Rattle.leaves.specs.declared.leaf.Leaf.TheVariants as plain
use Rattle.leaves.specs.declared.leaf.MadeId.{MadeId}
use Rattle.leaves.specs.declared.leaf.Provider.{Provider}
use Rattle.leaves.specs.declared.leaf.RuleRef.{RuleRef}
use Rattle.loading.specs.Loads.{Path, Name}
use Rattle.targets.specs.declared.declarations.Declarations.{Declarations}
use Rattle.evaluation.specs.Naming.{Naming, unnamed, given_once, provider_given, rule_given, leaf_given, global_given, names_given}
use Rattle.evaluation.specs.Runs.{naming_of}
use Rattle.endings.specs.Called.{made_id, IsProvider, IsRule, provider_value, rule_value, IsFirstName, IsCalled, ProvidersAreCalled, RulesAreCalled, EverythingIsNamed}
use Rattle.endings.proofs.GivenNames.{given_to, all_given, both, name_is_first, all_called, all_named_if}

-- ---- which number a value takes a name for

-- the number of what the module n made
abbrev pub number_of : ℕ → Option MadeId → Option ℕ
number_of n None = None
number_of n (Some id) = if nat_eq id.«module» n then Some id.number else None

abbrev pub provider_number : ℕ → Option FrozenTree → Option ℕ
provider_number n (Some (leaf (plain.Provider p))) = number_of n p.id
provider_number n _ = None

abbrev pub rule_number : ℕ → Option FrozenTree → Option ℕ
rule_number n (Some (leaf (plain.Rule r))) = number_of n (Some r.id)
rule_number n _ = None

number_is : (n i : ℕ) (id : MadeId) → number_of n (Some id) ≡ Some i → id ≡ made_id n i
number_is n i id e = by (nat_eq id.«module» n) refl e
  where
    by : (b : Bool) → nat_eq id.«module» n ≡ b → (if b then Some id.number else None) ≡ Some i → id ≡ made_id n i
    by true h e =
        let m : id.«module» ≡ n = eqb-true id.«module» n h in
        let k : id.number ≡ i = same_Some id.number i e in
        ap (λ a. made_id a id.number) m ∙ ap (made_id n) k
    by false h e = absurd cc

is_number : (n i : ℕ) → number_of n (Some (made_id n i)) ≡ Some i
is_number n i = ap (λ b. if b then Some i else None) (eq-eqb n n refl)

pub provider_taken : (n : ℕ) (t : Option FrozenTree) (i : ℕ) → provider_number n t ≡ Some i
    → (p : Provider) × (t ≡ Some (provider_value p)) × IsProvider n i p
provider_taken n (Some (leaf (plain.Provider p))) i e = (p, refl, has p.id e)
  where
    has : (o : Option MadeId) → number_of n o ≡ Some i → o ≡ Some (made_id n i)
    has None e = absurd cc
    has (Some id) e = ap Some (number_is n i id e)
provider_taken n _ i e = absurd cc

pub rule_taken : (n : ℕ) (t : Option FrozenTree) (i : ℕ) → rule_number n t ≡ Some i
    → (r : RuleRef) × (t ≡ Some (rule_value r)) × IsRule n i r
rule_taken n (Some (leaf (plain.Rule r))) i e = (r, refl, number_is n i r.id e)
rule_taken n _ i e = absurd cc

pub takes_provider : (n : ℕ) (p : Provider) (i : ℕ) → IsProvider n i p
    → provider_number n (Some (provider_value p)) ≡ Some i
takes_provider n p i is = ap (number_of n) is ∙ is_number n i

pub takes_rule : (n : ℕ) (r : RuleRef) (i : ℕ) → IsRule n i r → rule_number n (Some (rule_value r)) ≡ Some i
takes_rule n r i is = ap (λ id. number_of n (Some id)) is ∙ is_number n i

-- ---- what one global gives

-- After a global of this name and this value: of the same file, and what takes a name has it.
record IsAfter (ns : Naming) (x : Name) (t : Option FrozenTree) (after : Naming) : Type 0 where
  pub path : after.path ≡ ns.path
  pub file : after.file ≡ ns.file
  pub providers : after.providers ≡ given_to (provider_number ns.file t) x ns.providers
  pub rules : after.rules ≡ given_to (rule_number ns.file t) x ns.rules

module _ (ns : Naming) (x : Name) where
  provider_after : (p : Provider) → IsAfter ns x (Some (leaf (plain.Provider p))) (provider_given ns x p.id)
  provider_after p = of_id p p.id refl
    where
      chosen : (id : MadeId) (b : Bool) (p : Provider) → number_of ns.file p.id ≡ (if b then Some id.number else None)
          → IsAfter ns x (Some (leaf (plain.Provider p)))
          (if b then record ns { providers = given_once id.number x ns.providers } else ns)
      chosen id true p e =
          record { path = refl; file = refl; providers = ap (λ m. given_to m x ns.providers) (sym e); rules = refl }
      chosen id false p e =
          record { path = refl; file = refl; providers = ap (λ m. given_to m x ns.providers) (sym e); rules = refl }

      of_id : (p : Provider) (o : Option MadeId) → p.id ≡ o
          → IsAfter ns x (Some (leaf (plain.Provider p))) (provider_given ns x o)
      of_id p None e = record {
        path = refl;
        file = refl;
        providers = ap (λ o. given_to (number_of ns.file o) x ns.providers) (sym e);
        rules = refl;
      }
      of_id p (Some id) e = chosen id (nat_eq id.«module» ns.file) p (ap (number_of ns.file) e)

  rule_after : (r : RuleRef) → IsAfter ns x (Some (leaf (plain.Rule r))) (rule_given ns x r.id)
  rule_after r = chosen (nat_eq r.id.«module» ns.file) refl
    where
      chosen : (b : Bool) → nat_eq r.id.«module» ns.file ≡ b
          → IsAfter ns x (Some (leaf (plain.Rule r)))
          (if b then record ns { rules = given_once r.id.number x ns.rules } else ns)
      chosen true e = record {
        path = refl;
        file = refl;
        providers = refl;
        rules = ap (λ b. given_to (if b then Some r.id.number else None) x ns.rules) (sym e);
      }
      chosen false e = record {
        path = refl;
        file = refl;
        providers = refl;
        rules = ap (λ b. given_to (if b then Some r.id.number else None) x ns.rules) (sym e);
      }

  leaf_after : (l : Leaf) → IsAfter ns x (Some (leaf l)) (leaf_given ns x l)
  leaf_after (plain.Provider p) = provider_after p
  leaf_after (plain.Rule r) = rule_after r
  leaf_after _ = record { path = refl; file = refl; providers = refl; rules = refl }

  global_after : (t : Option FrozenTree) → IsAfter ns x t (global_given ns x t)
  global_after None = record { path = refl; file = refl; providers = refl; rules = refl }
  global_after (Some (key k)) = record { path = refl; file = refl; providers = refl; rules = refl }
  global_after (Some (leaf l)) = leaf_after l
  global_after (Some (branch b)) = record { path = refl; file = refl; providers = refl; rules = refl }

-- ---- what all globals give

pub record AreAfter (ns : Naming) (xs : List Name) (ts : List (Option FrozenTree)) (after : Naming) : Type 0 where
  pub path : after.path ≡ ns.path
  pub file : after.file ≡ ns.file
  pub providers : after.providers ≡ all_given (provider_number ns.file) xs ts ns.providers
  pub rules : after.rules ≡ all_given (rule_number ns.file) xs ts ns.rules

all_after : (ns : Naming) (xs : List Name) (ts : List (Option FrozenTree)) → AreAfter ns xs ts (names_given ns xs ts)
all_after ns [] ts = record { path = refl; file = refl; providers = refl; rules = refl }
all_after ns (x ∷ xs) [] = record { path = refl; file = refl; providers = refl; rules = refl }
all_after ns (x ∷ xs) (t ∷ ts) =
    let next = global_given ns x t in
    let one = global_after ns x t in
    let rest = all_after next xs ts in
    record {
      path = rest.path ∙ one.path;
      file = rest.file ∙ one.file;
      providers =
          rest.providers ∙ ap (λ n. all_given (provider_number n) xs ts next.providers) one.file
          ∙ ap (all_given (provider_number ns.file) xs ts) one.providers;
      rules =
          rest.rules ∙ ap (λ n. all_given (rule_number n) xs ts next.rules) one.file
          ∙ ap (all_given (rule_number ns.file) xs ts) one.rules;
    }

-- ---- a module

module _ (path : Path) (n : ℕ) (names : List Name) (globals : List (Option FrozenTree)) (made : Declarations) where
  abbrev pub given : Naming
  given = naming_of path n names globals made

  pub are_after : AreAfter (unnamed path n made) names globals given
  are_after = all_after (unnamed path n made) names globals

  -- ---- a name that a number has is that of the first global that is it

  pub provider_is_first : (i : ℕ) (x : Name) → slice_get given.providers i ≡ Some (Some x)
      → IsFirstName provider_value (IsProvider n i) names globals x
  provider_is_first i x e =
      name_is_first provider_value (IsProvider n) (provider_number n) (provider_taken n) (takes_provider n) made.providers
      i names globals x (subst (λ l. slice_get l i ≡ Some (Some x)) are_after.providers e)

  pub rule_is_first : (i : ℕ) (x : Name) → slice_get given.rules i ≡ Some (Some x)
      → IsFirstName rule_value (IsRule n i) names globals x
  rule_is_first i x e =
      name_is_first rule_value (IsRule n) (rule_number n) (rule_taken n) (takes_rule n) (length made.rules)
      i names globals x (subst (λ l. slice_get l i ≡ Some (Some x)) are_after.rules e)

  -- ---- where everything has a name

  pub providers_are_called : ProvidersAreCalled path n names globals made
  providers_are_called h i lt =
      let l = all_given (provider_number n) names globals (replicate made.providers None) in
      let all : list_all is_some l ≡ true =
      subst (λ l. list_all is_some l ≡ true) are_after.providers
      (both (list_all is_some given.providers) (list_all is_some given.rules) h).0 in
      subst (λ l. IsCalled provider_value (IsProvider n i) names globals (slice_get l i)) (sym are_after.providers)
      (all_called provider_value (IsProvider n) (provider_number n) (provider_taken n) (takes_provider n) made.providers
      i names globals all lt)

  pub rules_are_called : RulesAreCalled path n names globals made
  rules_are_called h i lt =
      let l = all_given (rule_number n) names globals (replicate (length made.rules) None) in
      let all : list_all is_some l ≡ true =
      subst (λ l. list_all is_some l ≡ true) are_after.rules
      (both (list_all is_some given.providers) (list_all is_some given.rules) h).1 in
      subst (λ l. IsCalled rule_value (IsRule n i) names globals (slice_get l i)) (sym are_after.rules)
      (all_called rule_value (IsRule n) (rule_number n) (rule_taken n) (takes_rule n) (length made.rules)
      i names globals all lt)

  pub everything_is_named : EverythingIsNamed path n names globals made
  everything_is_named ps rs =
      ap₂ (λ a b. a && b)
      (ap (list_all is_some) are_after.providers
      ∙ all_named_if provider_value (IsProvider n) (provider_number n) (provider_taken n) (takes_provider n)
      made.providers names globals ps)
      (ap (list_all is_some) are_after.rules
      ∙ all_named_if rule_value (IsRule n) (rule_number n) (rule_taken n) (takes_rule n) (length made.rules)
      names globals rs)
