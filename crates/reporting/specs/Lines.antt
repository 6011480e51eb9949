-- The lines of a report (docs/REPORT.md, "The report"; all texts are this project's own choice).
-- Each line ends with a newline. The texts of values are those of `printing`, with the listings of
-- their depsets.
use Rattle.std.specs.Prelude.{ℕ, List, [], ◌∷◌, ◌++◌, map, Option, Some, None, codes, decimal}
use Rattle.std.specs.List.{flat_map}
use Rattle.lexer.specs.declared.fault.FaultKind.{FaultKind}
use Rattle.lexer.specs.FaultText as syntax
use Rattle.depsets.specs.Own.{Own}
use Rattle.depsets.specs.Rose.{Rose}
use Rattle.depsets.specs.declared.element.Element.{Element}
use Rattle.ticks.specs.KindText.{kind_text}
use Rattle.values.specs.Tree.{Slots, branch, instance, end, missing, given}
use Rattle.values.specs.View.{FrozenTree, FrozenBranch}
use Rattle.keys.specs.declared.key.Key.{Key}
use Rattle.leaves.specs.declared.leaf.Leaf.{Leaf}
use Rattle.leaves.specs.declared.leaf.Provider.{Provider}
use Rattle.ticks.specs.declared.ticks.Kind.{Kind}
use Rattle.ticks.specs.declared.ticks.Kind.TheVariants as kind
use Rattle.leaf_texts.specs.Texts.{field_head, joined, provider_text, quoted}
use Rattle.printing.specs.TreeTexts.{text_by}
use Rattle.actions.specs.declared.action.Action.{Action}
use Rattle.claims.specs.Same.{input_paths, path_of}
use Rattle.claims.specs.declared.clashes.Conflict.{Conflict}
use Rattle.claims.specs.declared.telling.Telling.{Telling}
use Rattle.claims.specs.declared.telling.Telling.TheVariants.{Alone, Owners, Elsewhere}
use Rattle.workspace.specs.Labels.{LabelParts, label_text}
use Rattle.loading.specs.Loads.{Path, LoadFault}
use Rattle.loading.specs.declared.faults.LoadFaultKind.{LoadFaultKind}
use Rattle.loading.specs.declared.faults.LoadFaultKind.TheVariants as load
use Rattle.targets.specs.declared.outcome.Outcome.{Outcome}
use Rattle.targets.specs.declared.outcome.Outcome.TheVariants.{Source, Done, Failed}
use Rattle.targets.specs.declared.outcome.TargetFault.{TargetFault}
use Rattle.targets.specs.declared.outcome.TargetFault.TheVariants as fault

-- a line of this text
abbrev pub line : List ℕ → List ℕ
line text = text ++ 10 ∷ []

-- ---- places and kinds of faults

-- a line of a file, as `a/r.bzl:3`
abbrev pub place_text : Path → ℕ → List ℕ
place_text path n = path ++ (codes ":" ++ decimal n)

-- a kind of fault of an evaluation; that of `fail` with its text
abbrev pub evaluation_text : Kind → List ℕ
evaluation_text (kind.Fail text) = codes "fail " ++ quoted text
evaluation_text k = kind_text k

-- ---- load faults

-- why a file failed, as the report names it
abbrev pub load_kind_text : LoadFaultKind FaultKind Kind → List ℕ
load_kind_text (load.Syntax k) = codes "syntax " ++ syntax.kind_text k
load_kind_text load.LoadCycle = codes "load cycle"
load_kind_text load.MissingFile = codes "missing file"
load_kind_text load.LoadedModuleFailed = codes "loaded module failed"
load_kind_text load.PrivateName = codes "private name"
load_kind_text load.MissingName = codes "missing name"
load_kind_text (load.Evaluation k) = codes "evaluation " ++ evaluation_text k
load_kind_text load.Unexported = codes "unexported"

-- the line of a file that failed: why, and where its fault stands
abbrev pub load_fault_line : Path → LoadFault FaultKind Kind → List ℕ
load_fault_line path f =
    line ((codes "load " ++ (path ++ (codes " " ++ load_kind_text f.kind)))
    ++ (codes " at " ++ place_text f.path f.line))

-- ---- targets that failed

-- a label, with a space before it
abbrev pub spaced_label : LabelParts → List ℕ
spaced_label l = codes " " ++ label_text l

-- an attribute, and a label that it doesn't take
abbrev pub refused_text : List ℕ → LabelParts → List ℕ
refused_text name l = name ++ spaced_label l

-- why a target failed, as the report names it
abbrev pub target_fault_text : TargetFault → List ℕ
target_fault_text fault.Cycle = codes "cycle"
target_fault_text fault.NoSuchTarget = codes "no such target"
target_fault_text fault.PackageFailed = codes "package failed"
target_fault_text (fault.DependencyFailed labels) =
    codes "dependency failed" ++ flat_map spaced_label labels
target_fault_text (fault.ProvidersMissing name l) =
    codes "providers missing " ++ refused_text name l
target_fault_text (fault.FileKind name l) = codes "file kind " ++ refused_text name l
target_fault_text (fault.Implementation k path n) =
    (codes "implementation " ++ evaluation_text k) ++ (codes " at " ++ place_text path n)
target_fault_text fault.Returned = codes "returned"
target_fault_text (fault.NoAction path) = codes "no action " ++ path

-- ---- providers and actions

-- the text of a list of strings
abbrev pub strings_text : List (List ℕ) → List ℕ
strings_text texts = codes "[" ++ (joined (map quoted texts) ++ codes "]")

-- the text that an action writes, if it writes one
abbrev pub content_text : Option (List ℕ) → List ℕ
content_text None = []
content_text (Some text) = codes " content " ++ quoted text

-- the mnemonic of an action and its outputs
abbrev pub outputs_text : Action → List ℕ
outputs_text a = codes "  action "
    ++ (a.mnemonic ++ (codes " outputs " ++ strings_text (map path_of a.outputs)))

-- the words of an action, and the text that it writes
abbrev pub given_words : Action → List ℕ
given_words a = codes " words " ++ (strings_text a.words ++ content_text a.content)

-- a text with a space before it
abbrev pub spaced : List ℕ → List ℕ
spaced text = codes " " ++ text

-- what stands behind an action that is told for all its owners
abbrev pub owners_text : List (List ℕ) → List ℕ
owners_text labels = codes " owners" ++ flat_map spaced labels

-- with the listing of depsets by which the report is told
module _ (listing : Rose Own → List Element) where
  -- a field that was given, with a space before it
  abbrev pub given_text : List ℕ → FrozenTree → List ℕ
  given_text x t = codes " " ++ (field_head x ++ text_by listing t)

  -- a field that wasn't given has no text
  abbrev pub field_text : List ℕ → Option FrozenTree → List ℕ
  field_text x None = []
  field_text x (Some t) = given_text x t

  -- the fields that were given, in the order of the provider's names
  abbrev pub fields_text : List (List ℕ) → Slots Leaf Key Provider → List ℕ
  fields_text [] ss = []
  fields_text (x ∷ xs) end = []
  fields_text (x ∷ xs) (missing ss) = fields_text xs ss
  fields_text (x ∷ xs) (given t ss) = given_text x t ++ fields_text xs ss

  -- the line of an instance of a provider; nothing else stands among the providers of a target
  abbrev pub instance_line : FrozenBranch → List ℕ
  instance_line (instance p ss) =
      line (codes "  provider " ++ (provider_text p.name ++ fields_text p.fields ss))
  instance_line _ = []

  -- the same, of a frozen value
  abbrev pub provider_line : FrozenTree → List ℕ
  provider_line (branch b) = instance_line b
  provider_line _ = []

  -- an action: its mnemonic, outputs, inputs and words, and the text that it writes
  abbrev pub action_text : Action → List ℕ
  action_text a = outputs_text a
      ++ (codes " inputs " ++ (strings_text (input_paths listing a.inputs) ++ given_words a))

  -- the line of an action, by how it is told: one that is told elsewhere has none, and one that is
  -- told for all its owners ends with their labels
  abbrev pub action_line : Telling → Action → List ℕ
  action_line Alone a = line (action_text a)
  action_line (Owners labels) a = line (action_text a ++ owners_text labels)
  action_line Elsewhere a = []

  -- ---- what becomes of a label

  -- its lines, where those of its actions are these: a source file's path, a target's providers and
  -- actions, or why it failed
  abbrev pub outcome_text : List ℕ → LabelParts → Outcome → List ℕ
  outcome_text lines l (Source f) =
      line (codes "source " ++ (label_text l ++ (codes " " ++ path_of f)))
  outcome_text lines l (Done providers actions) =
      line (codes "target " ++ (label_text l ++ codes " ok"))
      ++ (flat_map provider_line providers ++ lines)
  outcome_text lines l (Failed f) =
      line (codes "target " ++ (label_text l ++ (codes " failed " ++ target_fault_text f)))

-- ---- conflicts

-- a path, and the label of each action that declares it
abbrev pub conflict_line : Conflict → List ℕ
conflict_line c = line (codes "conflict " ++ (c.path ++ flat_map spaced c.labels))
