-- A small target with its dependencies, over which fields and calls are worked by computation.
use Rattle.std.specs.Prelude.{ℕ, false, List, [], ◌∷◌, None, Some, codes}
use Rattle.depsets.specs.Rose.{Rose, node}
use Rattle.depsets.specs.Rose as rose
use Rattle.depsets.specs.Own.{Own}
use Rattle.depsets.specs.declared.depset.Order.TheVariants as order
use Rattle.depsets.specs.declared.element.Element.{Element}
use Rattle.depsets.specs.declared.element.Element.TheVariants as element
use Rattle.depsets.specs.declared.element.FileRef.{FileRef}
use Rattle.values.specs.Tree.{key, branch, instance, slots}
use Rattle.values.specs.View.{FrozenTree}
use Rattle.keys.specs.declared.key.Key.TheVariants as index
use Rattle.leaves.specs.declared.leaf.AttributeKind.{AttributeKind}
use Rattle.leaves.specs.declared.leaf.AttributeKind.TheVariants as kind
use Rattle.leaves.specs.declared.leaf.ExportName.TheVariants as export
use Rattle.leaves.specs.declared.leaf.FunctionRef.{FunctionRef}
use Rattle.leaves.specs.declared.leaf.Provider.{Provider}
use Rattle.leaves.specs.declared.leaf.ProviderRef.TheVariants as provider
use Rattle.workspace.specs.Labels.{LabelParts}
use Rattle.targets.specs.Checks.{Dependency}
use Rattle.targets.specs.TextDicts.{entry_of}
use Rattle.targets.specs.declared.attributes.AllowFiles.TheVariants as allowed
use Rattle.targets.specs.declared.attributes.AttributeValue.TheVariants as has
use Rattle.targets.specs.declared.attributes.NamedAttribute.{NamedAttribute}
use Rattle.targets.specs.declared.outcome.Outcome.TheVariants.{Source, Done}
use Rattle.targets.specs.declared.target.Target.{Target}
use Rattle.targets.specs.Sources.{info_with}

abbrev pub label : List ℕ → LabelParts
label n = record { «package» = codes "a"; name = n }

abbrev pub x : LabelParts
x = label (codes "x")

abbrev pub d : LabelParts
d = label (codes "d")

abbrev pub s : LabelParts
s = label (codes "s.txt")

-- a provider that a module made, and one that nothing offers
abbrev provider_named : ℕ → List ℕ → Provider
provider_named n name =
    record {
      id = Some (record { «module» = 0; number = n });
      name = provider.Exported (record { path = codes "a/p.bzl"; name = export.Global name });
      fields = codes "n" ∷ [];
    }

abbrev pub P : Provider
P = provider_named 0 (codes "P")

abbrev pub Q : Provider
Q = provider_named 1 (codes "Q")

abbrev pub instance_of_P : FrozenTree
instance_of_P = branch (instance P (slots (Some (key (index.Text (codes "v"))) ∷ [])))

abbrev pub file_of : List ℕ → List ℕ → FileRef
file_of path owner = record { path = path; owner = owner }

-- a depset that //a:d made
abbrev pub depset : ℕ → List Element → Rose Own
depset serial es =
    node (record { id = record { owner = codes "//a:d"; serial = serial }; order = order.Default; direct = es }) rose.none

abbrev pub d_files : Rose Own
d_files = depset 1 (element.File (file_of (codes "a/d1") (codes "//a:d")) ∷ element.File (file_of (codes "a/d2") (codes "//a:d")) ∷ [])

abbrev pub s_file : FileRef
s_file = file_of (codes "a/s.txt") (codes "//a:s.txt")

-- //a:d offers P and two Files, and //a:s.txt is a source file
abbrev pub dependencies : List Dependency
dependencies = (d, Done (info_with d_files ∷ instance_of_P ∷ []) []) ∷ (s, Source s_file) ∷ []

abbrev attribute : List ℕ → AttributeKind → NamedAttribute
attribute n k =
    record {
      name = n;
      attribute = record { kind = k; default = None; mandatory = false; values = []; providers = []; allow_files = allowed.Any };
    }

abbrev function : FunctionRef
function = record { id = record { «module» = 0; number = 0 }; path = codes "a/r.bzl"; name = codes "_r" }

-- //a:x, with a string, a list of strings, a dict of strings, a label, none, and a list of labels in which one stands twice
abbrev pub target : Target
target =
    record {
      label = x;
      rule = record {
        implementation = function;
        attributes = attribute (codes "text") kind.String ∷ attribute (codes "words") kind.StringList ∷ attribute (codes "env") kind.StringDict
            ∷ attribute (codes "one") kind.Label ∷ attribute (codes "none") kind.Label ∷ attribute (codes "deps") kind.LabelList ∷ [];
      };
      values = has.Key (index.Text (codes "hi")) ∷ has.Strings (codes "b" ∷ codes "c" ∷ [])
          ∷ has.StringDict (entry_of (codes "B") (codes "2") ∷ entry_of (codes "A") (codes "\n") ∷ []) ∷ has.Label (Some s) ∷ has.Label None ∷ has.Labels (s ∷ d ∷ s ∷ []) ∷ [];
    }
