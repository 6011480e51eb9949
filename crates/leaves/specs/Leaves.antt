-- When providers, rules, functions and keys are the same, which leaves can be frozen, and what
-- built-in functions are called.
use Rattle.std.specs.Prelude.{ℕ, Bool, true, false, ◌&&◌, List, Option, Some, None, nat_eq, codes}
use Rattle.std.specs.Ordering.{int_eq}
use Rattle.std.specs.Str.{bytes_eq}
use Rattle.depsets.specs.Elements.{same_truth}
use Rattle.leaves.specs.declared.leaf.BuiltIn.{BuiltIn}
use Rattle.leaves.specs.declared.leaf.BuiltIn.TheVariants as built_in
use Rattle.leaves.specs.declared.leaf.FunctionRef.{FunctionRef}
use Rattle.leaves.specs.declared.leaf.Leaf.{Leaf}
use Rattle.leaves.specs.declared.leaf.Leaf.TheVariants as plain
use Rattle.leaves.specs.declared.leaf.MadeId.{MadeId}
use Rattle.leaves.specs.declared.leaf.Provider.{Provider}
use Rattle.leaves.specs.declared.leaf.RuleRef.{RuleRef}
use Rattle.keys.specs.declared.key.Key.{Key}
use Rattle.keys.specs.declared.key.Key.TheVariants.{Text, Number, Truth}

-- What a module makes is told apart by numbers: the module's, and its own among those of its kind
-- there.
abbrev pub same_made : MadeId → MadeId → Bool
same_made a b = nat_eq a.«module» b.«module» && nat_eq a.number b.number

-- `DefaultInfo`, which no module makes, is itself alone
abbrev pub same_maker : Option MadeId → Option MadeId → Bool
same_maker None None = true
same_maker (Some a) (Some b) = same_made a b
same_maker _ _ = false

-- Two providers are one where the same making made them: what they are called and their fields
-- don't count.
abbrev pub same_provider : Provider → Provider → Bool
same_provider p q = same_maker p.id q.id

-- Two rules are one where the same making made them, whatever they are called.
abbrev pub same_rule : RuleRef → RuleRef → Bool
same_rule r s = same_made r.id s.id

-- Two functions are one where the same making made them, whatever their names.
abbrev pub same_function : FunctionRef → FunctionRef → Bool
same_function f g = same_made f.id g.id

-- what a built-in function is called
-- (Bazel documentation, ".bzl files" and "All Bazel files": the global functions of this project's
-- language.)
abbrev pub built_in_text : BuiltIn → List ℕ
built_in_text built_in.Depset = codes "depset"
built_in_text built_in.Fail = codes "fail"
built_in_text built_in.Len = codes "len"
built_in_text built_in.List = codes "list"
built_in_text built_in.Provider = codes "provider"
built_in_text built_in.Range = codes "range"
built_in_text built_in.Rule = codes "rule"
built_in_text built_in.Str = codes "str"

-- Keys of different types are different, `True` and `1` among them.
-- (Starlark's specification, "Dictionaries": keys are compared by equality.)
abbrev pub same_key : Key → Key → Bool
same_key (Text a) (Text b) = bytes_eq a b
same_key (Number a) (Number b) = int_eq a b
same_key (Truth a) (Truth b) = same_truth a b
same_key _ _ = false

-- whether a leaf can be in a frozen value: all but targets, and the objects `attr`, `ctx` and the
-- parts of `ctx`
abbrev pub can_freeze : Leaf → Bool
can_freeze (plain.Target n) = false
can_freeze (plain.Object o) = false
can_freeze _ = true
