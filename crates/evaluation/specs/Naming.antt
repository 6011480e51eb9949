-- The names of providers and rules (that each is a global of its module is this project's own;
-- docs/PROFILE.md, "Names of providers and rules").
use Rattle.std.specs.Prelude.{ℕ, Bool, true, false, ◌&&◌, nat_eq, List, [], ◌∷◌, length, replicate}
use Rattle.std.specs.Prelude.{Option, Some, None, is_some, slice_get, slice_set, if◌then◌else◌}
use Rattle.std.specs.List.{list_all}
use Rattle.std.specs.Option.{option_flatten}
use Rattle.values.specs.Tree.{Trees, Pairs, Slots, key, leaf, branch, list, tuple, dict, instance}
use Rattle.values.specs.Tree.{none, more, stop, pair, end, missing, given}
use Rattle.values.specs.View.{FrozenTree, FrozenBranch}
use Rattle.keys.specs.declared.key.Key.{Key}
use Rattle.leaves.specs.declared.leaf.Leaf.{Leaf}
use Rattle.leaves.specs.declared.leaf.Leaf.TheVariants as plain
use Rattle.leaves.specs.declared.leaf.MadeId.{MadeId}
use Rattle.leaves.specs.declared.leaf.Exported.{Exported}
use Rattle.leaves.specs.declared.leaf.ExportName.TheVariants as export
use Rattle.leaves.specs.declared.leaf.Provider.{Provider}
use Rattle.leaves.specs.declared.leaf.ProviderRef.TheVariants as provider
use Rattle.leaves.specs.declared.leaf.RuleRef.{RuleRef}
use Rattle.loading.specs.Loads.{Path, Name}
use Rattle.targets.specs.declared.declarations.Declarations.{Declarations}

-- The names that the module of a path and a number gives, by the numbers of the providers and of
-- the rules that it made.
pub record Naming : Type 0 where
  pub path : Path
  pub file : ℕ
  pub providers : List (Option Name)
  pub rules : List (Option Name)

-- nothing has a name yet
abbrev pub unnamed : Path → ℕ → Declarations → Naming
unnamed path file made =
    record {
      path = path;
      file = file;
      providers = replicate made.providers None;
      rules = replicate (length made.rules) None;
    }

-- ---- names are given by globals

-- whether this is among what the module made, and has no name yet
abbrev pub is_unnamed : Option (Option Name) → Bool
is_unnamed (Some None) = true
is_unnamed _ = false

-- what has a name keeps it
abbrev pub given_once : ℕ → Name → List (Option Name) → List (Option Name)
given_once n x names = if is_unnamed (slice_get names n) then slice_set names n (Some x) else names

-- a name for a provider, unless it isn't this module's or has one; `DefaultInfo` gets none
abbrev pub provider_given : Naming → Name → Option MadeId → Naming
provider_given ns x None = ns
provider_given ns x (Some id) =
    if nat_eq id.«module» ns.file then record ns { providers = given_once id.number x ns.providers }
    else ns

-- a name for a rule, unless it isn't this module's or has one
abbrev pub rule_given : Naming → Name → MadeId → Naming
rule_given ns x id =
    if nat_eq id.«module» ns.file then record ns { rules = given_once id.number x ns.rules } else ns

-- a name for any value without parts; only providers and rules get one
abbrev pub leaf_given : Naming → Name → Leaf → Naming
leaf_given ns x (plain.Provider p) = provider_given ns x p.id
leaf_given ns x (plain.Rule r) = rule_given ns x r.id
leaf_given ns x _ = ns

-- A global gives its name to the provider or the rule that is its value, if the module made that.
abbrev pub global_given : Naming → Name → Option FrozenTree → Naming
global_given ns x (Some (leaf l)) = leaf_given ns x l
global_given ns x _ = ns

-- One global after the other does, in the order in which they were bound.
abbrev pub names_given : Naming → List Name → List (Option FrozenTree) → Naming
names_given ns [] ts = ns
names_given ns (x ∷ xs) [] = ns
names_given ns (x ∷ xs) (t ∷ ts) = names_given (global_given ns x t) xs ts

-- each provider and each rule that the module made has one
abbrev pub all_named : Naming → Bool
all_named ns = list_all is_some ns.providers && list_all is_some ns.rules

-- ---- what has a name is called by it, and by the module's path
module _ (ns : Naming) where
  -- a name of the module, as a value tells it: with the module's path
  abbrev pub exported_as : Name → Exported
  exported_as x = record { path = ns.path; name = export.Global x }

  -- a provider by the name that it got, if it got one
  abbrev pub with_provider_name : Provider → Option Name → Provider
  with_provider_name p None = p
  with_provider_name p (Some x) = record p { name = provider.Exported (exported_as x) }

  -- a rule by the name that it got, if it got one
  abbrev pub with_rule_name : RuleRef → Option Name → RuleRef
  with_rule_name r None = r
  with_rule_name r (Some x) = record r { name = exported_as x }

  -- a provider by its name, if this module made it; `DefaultInfo` keeps its own
  abbrev pub provider_made_by : Provider → Option MadeId → Provider
  provider_made_by p None = p
  provider_made_by p (Some id) =
      if nat_eq id.«module» ns.file
      then with_provider_name p (option_flatten (slice_get ns.providers id.number))
      else p

  -- a provider or a rule of another module keeps its name
  abbrev pub provider_named : Provider → Provider
  provider_named p = provider_made_by p p.id

  -- the same, of a rule
  abbrev pub rule_named : RuleRef → RuleRef
  rule_named r =
      if nat_eq r.id.«module» ns.file
      then with_rule_name r (option_flatten (slice_get ns.rules r.id.number))
      else r

  -- ---- wherever they stand in values

  -- the same, of any value without parts
  abbrev pub leaf_named : Leaf → Leaf
  leaf_named (plain.Provider p) = plain.Provider (provider_named p)
  leaf_named (plain.Rule r) = plain.Rule (rule_named r)
  leaf_named l = l

  -- a frozen value with this done to all providers and rules in it, whatever it is made of
  abbrev mutual
    pub named : FrozenTree → FrozenTree
    named (key k) = key k
    named (leaf l) = leaf (leaf_named l)
    named (branch b) = branch (branch_named b)

    pub branch_named : FrozenBranch → FrozenBranch
    branch_named (list ts) = list (trees_named ts)
    branch_named (tuple ts) = tuple (trees_named ts)
    branch_named (dict ps) = dict (pairs_named ps)
    branch_named (instance p ss) = instance (provider_named p) (slots_named ss)

    pub trees_named : Trees Leaf Key Provider → Trees Leaf Key Provider
    trees_named none = none
    trees_named (more t ts) = more (named t) (trees_named ts)

    pub pairs_named : Pairs Leaf Key Provider → Pairs Leaf Key Provider
    pairs_named stop = stop
    pairs_named (pair k t ps) = pair k (named t) (pairs_named ps)

    pub slots_named : Slots Leaf Key Provider → Slots Leaf Key Provider
    slots_named end = end
    slots_named (missing ss) = missing (slots_named ss)
    slots_named (given t ss) = given (named t) (slots_named ss)

  -- the same, of a global, which may be unbound
  abbrev pub slot_named : Option FrozenTree → Option FrozenTree
  slot_named None = None
  slot_named (Some t) = Some (named t)
