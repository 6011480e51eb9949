-- What holds of a workspace as a whole, and of all answers. (This project's own.)
use Rattle.std.specs.Prelude.{◌≡◌, ◌↔◌, ◌<◌, ℕ, true, List, [], map, length, Contains}
use Rattle.std.specs.Prelude.{if◌then◌else◌}
use Rattle.std.specs.List.Sorted.{IsPermutation}
use Rattle.depsets.specs.Listed.{flat}
use Rattle.edges.specs.Walks.{Cyclic}
use Rattle.coherence.specs.Together.{AllCoherent}
use Rattle.actions.specs.Ascending.{AreAscending}
use Rattle.workspace.specs.Labels.{LabelParts, label_text}
use Rattle.workspace.specs.Workspaces.{IsWorkspace, Pair}
use Rattle.graph.specs.Reached.{IsReached}
use Rattle.evaluation.specs.Workspaces.{is_starlark}
use Rattle.outcomes.specs.Workspaces.{Workspace, graph, dependencies, cycle_of, step_of}
use Rattle.claims.specs.Clashes.{clashes}
use Rattle.reporting.specs.Answers.{Node, owned_actions}
use Rattle.loader.specs.Loaded.{AreFilesOf}
use Rattle.workspace_laws.specs.Files.{faults}
use Rattle.workspace_laws.specs.LabelLaws.{AreLegal}
use Rattle.workspace_laws.specs.Workspaces.{plain_workspace}
use Rattle.answers.specs.Answers.{Answer, IsAnswer, IsAnswerOf, is_loud_answer, labels_told}
use Rattle.answers.specs.Reports.{IsTooMany, node_limit}

-- Of the depsets in modules and of those in what becomes of labels, all together, any two with one
-- id are the same; and what a label is handed has none with its own text as the owner.
abbrev pub WorkspacesAreCoherent : Type 0
WorkspacesAreCoherent =
    (workspace files : List Pair) (limit : ℕ) → IsWorkspace workspace → AreFilesOf workspace files
    → AllCoherent (graph (plain_workspace files limit))

-- all of these labels are among the others
abbrev pub AreAmong : List LabelParts → List LabelParts → Type 0
AreAmong labels others = (l : LabelParts) → Contains labels l → Contains others l

-- the same labels are asked for, in any order and any number of times
abbrev pub AskForTheSame : List LabelParts → List LabelParts → Type 0
AskForTheSame labels others = AreAmong labels others × AreAmong others labels

-- Legal labels have an answer in each workspace, under each limit of steps.
abbrev pub LabelsHaveAnAnswer : Type 0
LabelsHaveAnAnswer =
    (workspace : List Pair) (labels : List LabelParts) (limit : ℕ) → IsWorkspace workspace
    → AreLegal labels → (a : Answer) × IsAnswer workspace labels limit a

-- An answer has more labels than a report may have exactly where too many are reached.
abbrev pub TooManyAreCounted : Type 0
TooManyAreCounted =
    (workspace : List Pair) (labels : List LabelParts) (limit : ℕ) (a : Answer)
    → IsAnswer workspace labels limit a
    → node_limit < length a.nodes ↔ IsTooMany workspace labels limit

-- Labels of a workspace have at most one answer under a limit, in whichever order the files stand,
-- and in whichever order and however often the labels are asked for.
abbrev pub WorkspacesHaveOneAnswer : Type 0
WorkspacesHaveOneAnswer =
    (workspace other : List Pair) (labels others : List LabelParts) (limit : ℕ) (a b : Answer)
    → IsPermutation workspace other → AskForTheSame labels others
    → IsAnswer workspace labels limit a → IsAnswer other others limit b → a ≡ b

-- What these two answers say is one: the same files fail, and a label that both tell has the same
-- outcome. Where the second tells all that was asked for in the first, it tells all of the first.
pub record SayTheSame (labels : List LabelParts) (a b : Answer) : Type 0 where
  pub faults : a.faults ≡ b.faults
  pub outcomes : (m n : Node) → Contains a.nodes m → Contains b.nodes n → m.label ≡ n.label → m ≡ n
  pub more : AreAmong labels (labels_told b) → (n : Node) → Contains a.nodes n → Contains b.nodes n

-- What becomes of a label doesn't depend on what else is asked for. (Which labels share an action,
-- at which of them a report prints it, which paths conflict and the exit status do.)
abbrev pub OthersChangeNothing : Type 0
OthersChangeNothing =
    (workspace other : List Pair) (labels others : List LabelParts) (limit : ℕ) (a b : Answer)
    → IsPermutation workspace other → IsAnswer workspace labels limit a
    → IsAnswer other others limit b → SayTheSame labels a b

-- a path conflicts in an answer: two actions that declare it have one owner or aren't equal
abbrev pub ConflictsIn : Answer → List ℕ → Type 0
ConflictsIn a p = clashes flat p (owned_actions a.nodes) ≡ true

-- Each path that conflicts in the first answer does in the second, which has a file or a target
-- that failed, or a conflict, if the first has. (That the same files and targets fail is said by
-- `SayTheSame`.)
pub record HidesNothing (a b : Answer) : Type 0 where
  pub conflicts : (p : List ℕ) → ConflictsIn a p → ConflictsIn b p
  pub loud : is_loud_answer a ≡ true → is_loud_answer b ≡ true

-- Whoever asks for more labels is hidden nothing that is wrong, where an answer tells all that was
-- asked for in another.
abbrev pub MoreHidesNothing : Type 0
MoreHidesNothing =
    (workspace other : List Pair) (labels others : List LabelParts) (limit : ℕ) (a b : Answer)
    → IsPermutation workspace other → IsAnswer workspace labels limit a
    → IsAnswer other others limit b → AreAmong labels (labels_told b) → HidesNothing a b

-- nodes of an answer, which have these labels in the labels' order
abbrev pub AreTold : Answer → List LabelParts → List Node → Type 0
AreTold a ls ns =
    (map (λ n. n.label) ns ≡ ls) × ((n : Node) → Contains ns n → Contains a.nodes n)

-- What is told of each label of a workspace: the labels once, in the order of their texts, each
-- that is asked for, each dependency of a label that is told, and none that isn't reached. Those
-- that are cyclic say so, and no others do; the outcome of any other is the step over the outcomes
-- that are told of its dependencies, in their order.
pub record TellsEach (w : Workspace) (labels : List LabelParts) (a : Answer) : Type 0 where
  pub ordered : AreAscending (map (λ n. label_text n.label) a.nodes)
  pub asked : AreAmong labels (labels_told a)
  pub needed : (l : LabelParts) → Contains (labels_told a) l
      → AreAmong (dependencies w l) (labels_told a)
  pub reached : (l : LabelParts) → Contains (labels_told a) l → IsReached (dependencies w) labels l
  pub cyclic : (n : Node) → Contains a.nodes n
      → Cyclic (dependencies w) n.label ↔ (n.outcome ≡ cycle_of w n.label)
  pub stepped : (n : Node) → Contains a.nodes n → (n.outcome ≡ cycle_of w n.label → ⊥)
      → (ds : List Node) × AreTold a (dependencies w n.label) ds
      × (n.outcome ≡ step_of w n.label (map (λ d. d.outcome) ds))

-- What an answer is, by what it tells: the files that fail, and each label.
pub record StandsAlone (files : List Pair) (labels : List LabelParts) (limit : ℕ)
    (a : Answer) : Type 0 where
  pub faults : a.faults ≡ faults files limit
  pub each : TellsEach (plain_workspace files limit) labels a

-- This is so of each answer, and of nothing else.
abbrev pub AnswersStandAlone : Type 0
AnswersStandAlone =
    (files : List Pair) (labels : List LabelParts) (limit : ℕ) (a : Answer)
    → IsAnswerOf files labels limit a ↔ StandsAlone files labels limit a

-- a file as it is read: that of a source file counts as one without a text
abbrev pub read_of : Pair → Pair
read_of f = (f.0, if is_starlark f.0 then f.1 else [])

-- The text of a source file isn't used: workspaces with the same paths, in any order, in which the
-- modules and the `BUILD` files have the same texts, have the same answers.
abbrev pub SourceTextsChangeNothing : Type 0
SourceTextsChangeNothing =
    (workspace other : List Pair) (labels : List LabelParts) (limit : ℕ) (a : Answer)
    → IsPermutation (map read_of workspace) (map read_of other) → IsAnswer workspace labels limit a
    → IsAnswer other labels limit a
