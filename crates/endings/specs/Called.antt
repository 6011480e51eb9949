-- What a module made is told apart by numbers, and called by names; how both agree. (That each
-- provider and each rule is a global of its module is this project's own; docs/PROFILE.md, "Names
-- of providers and rules".)
use Rattle.std.specs.Prelude.{◌≡◌, ℕ, ◌<◌, true, List, length, Option, Some, slice_get}
use Rattle.values.specs.Tree.{leaf}
use Rattle.values.specs.View.{FrozenTree}
use Rattle.leaves.specs.declared.leaf.Leaf.TheVariants as plain
use Rattle.leaves.specs.declared.leaf.MadeId.{MadeId}
use Rattle.leaves.specs.declared.leaf.Exported.{Exported}
use Rattle.leaves.specs.declared.leaf.ExportName.TheVariants as export
use Rattle.leaves.specs.declared.leaf.Provider.{Provider}
use Rattle.leaves.specs.declared.leaf.ProviderRef.TheVariants as provider
use Rattle.leaves.specs.declared.leaf.RuleRef.{RuleRef}
use Rattle.loading.specs.Loads.{Path, Name}
use Rattle.evaluation.specs.declared.handed.Module.{Module}
use Rattle.targets.specs.declared.declarations.Declarations.{Declarations}
use Rattle.evaluation.specs.Naming.{Naming, all_named}
use Rattle.evaluation.specs.Runs.{naming_of}

-- ---- by number: the i-th provider, and the i-th rule, that the module of number n made

-- what tells apart the things that modules make: the module's number, and a number within it
abbrev pub made_id : ℕ → ℕ → MadeId
made_id n i = record { «module» = n; number = i }

-- this provider is the i-th that the module made
abbrev pub IsProvider : ℕ → ℕ → Provider → Type 0
IsProvider n i p = p.id ≡ Some (made_id n i)

-- this rule is the i-th that the module made
abbrev pub IsRule : ℕ → ℕ → RuleRef → Type 0
IsRule n i r = r.id ≡ made_id n i

-- ---- by name: of the first global that is it

-- a provider as the value of a global, once that is frozen
abbrev pub provider_value : Provider → FrozenTree
provider_value p = leaf (plain.Provider p)

-- a rule as the value of a global, once that is frozen
abbrev pub rule_value : RuleRef → FrozenTree
rule_value r = leaf (plain.Rule r)

-- x is the name of the first global that is such a thing: at its place one stands as the value, and
-- at no place before
pub record IsFirstName {A : Type 0} (value : A → FrozenTree) (Is : A → Type 0) (names : List Name)
    (globals : List (Option FrozenTree)) (x : Name) : Type 0 where
  pub place : ℕ
  pub name : slice_get names place ≡ Some x
  pub thing : A
  pub here : slice_get globals place ≡ Some (Some (value thing))
  pub is : Is thing
  pub first : (k : ℕ) (a : A) → k < place → slice_get globals k ≡ Some (Some (value a)) → ¬ Is a

-- ---- numbers and names

-- what has this number has a name, that of the first global that is it
abbrev pub IsCalled : {A : Type 0} → (A → FrozenTree) → (A → Type 0) → List Name
    → List (Option FrozenTree) → Option (Option Name) → Type 0
IsCalled value Is names globals given =
    (x : Name) × (given ≡ Some (Some x)) × IsFirstName value Is names globals x

-- the path and the number of a module; the names of its top level, and the values of its globals;
-- what it made
module _ (path : Path) (n : ℕ) (names : List Name) (globals : List (Option FrozenTree))
    (made : Declarations) where
  -- the names that the module's globals give to what it made
  abbrev given_names : Naming
  given_names = naming_of path n names globals made

  -- Where everything has a name, each provider is called by the first global that is it.
  abbrev pub ProvidersAreCalled : Type 0
  ProvidersAreCalled =
      all_named given_names ≡ true → (i : ℕ) → i < made.providers
      → IsCalled provider_value (IsProvider n i) names globals (slice_get given_names.providers i)

  -- And so is each rule.
  abbrev pub RulesAreCalled : Type 0
  RulesAreCalled =
      all_named given_names ≡ true → (i : ℕ) → i < length made.rules
      → IsCalled rule_value (IsRule n i) names globals (slice_get given_names.rules i)

  -- where each is the value of a global, everything has a name
  abbrev pub EverythingIsNamed : Type 0
  EverythingIsNamed =
      ((i : ℕ) → i < made.providers
      → (x : Name) × IsFirstName provider_value (IsProvider n i) names globals x)
      → ((i : ℕ) → i < length made.rules
      → (x : Name) × IsFirstName rule_value (IsRule n i) names globals x)
      → all_named given_names ≡ true

-- No name is that of two: of two providers, of two rules, or of a provider and a rule.
pub record NamesAreOwn (ns : Naming) : Type 0 where
  pub providers : (i j : ℕ) (x : Name) → slice_get ns.providers i ≡ Some (Some x)
      → slice_get ns.providers j ≡ Some (Some x) → i ≡ j
  pub rules : (i j : ℕ) (x : Name) → slice_get ns.rules i ≡ Some (Some x)
      → slice_get ns.rules j ≡ Some (Some x) → i ≡ j
  pub apart : (i j : ℕ) (x : Name) → slice_get ns.providers i ≡ Some (Some x)
      → ¬ (slice_get ns.rules j ≡ Some (Some x))

-- ---- in a module that ended

-- how what is called x in the module of a path is printed
abbrev pub exported : Path → Name → Exported
exported path x = record { path = path; name = export.Global x }

-- Each provider and each rule that it made is the value of the global that it is called by, and of
-- no global before it.
pub record MadeIsCalled (path : Path) (n : ℕ) (m : Module) : Type 0 where
  pub providers : (i : ℕ) → i < m.made.providers
      → (x : Name) × (f : IsFirstName provider_value (IsProvider n i) m.names m.globals x)
      × (f.thing.name ≡ provider.Exported (exported path x))
  pub rules : (i : ℕ) → i < length m.made.rules
      → (x : Name) × (f : IsFirstName rule_value (IsRule n i) m.names m.globals x)
      × (f.thing.name ≡ exported path x)
