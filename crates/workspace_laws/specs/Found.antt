-- The depsets that stand in what a module hands on, each with all below it: in its globals, in the
-- values that its loads bind, which its functions may read, and in the defaults of its functions.
-- (Bazel's documentation of depsets has no ids; they, and what counts as standing in a module, are
-- this project's own.)
use Rattle.std.specs.Prelude.{◌≡◌, List, [], ◌++◌, Option, Some, None}
use Rattle.std.specs.List.{flat_map, list_any}
use Rattle.depsets.specs.declared.depset.Id.{Id}
use Rattle.values.specs.View.{FrozenTree}
use Rattle.loading.specs.Loads.{Path}
use Rattle.loading.specs.Together.{Seen}
use Rattle.one_tree.specs.Found.{Set, in_tree, in_values, in_fields}
use Rattle.one_tree.specs.Sets.{AreIn}
use Rattle.outcomes.specs.Found.{id_of, owner_of, serial_of}
use Rattle.evaluation.specs.declared.handed.Module.{Module}
use Rattle.evaluation.specs.Evaluated.{Known}
use Rattle.workspace_laws.specs.Same.{same_set}

-- in a global of a module, if that is bound
abbrev pub in_global : Option FrozenTree → List Set
in_global None = []
in_global (Some t) = in_tree t

-- in all that a module hands on
abbrev pub in_module : Module → List Set
in_module m = flat_map in_global m.globals ++ (in_fields m.loaded ++ flat_map in_values m.defaults)

-- in a module that may be known
abbrev pub in_known : Option Module → List Set
in_known None = []
in_known (Some m) = in_module m

-- in the modules of these paths, as far as they are known
abbrev pub in_modules : Known → List Path → List Set
in_modules known paths = flat_map (λ q. in_known (known q)) paths

-- all that stand in modules that are known are among these
abbrev pub AllKnown : Known → List Set → Type 0
AllKnown known ds = (q : Path) (m : Module) → known q ≡ Some m → AreIn (in_module m) ds

-- what loading sees of depsets: which stand in a module, and by which ids they are told
abbrev pub seen : Seen Module Set Id
seen = record {
  has = λ m d. list_any (same_set d) (in_module m);
  id = id_of;
  owner = owner_of;
  serial = serial_of;
}
