-- The answer to a request for labels: what a report of a workspace says (docs/REPORT.md, "The
-- report"; this project's own).
use Rattle.std.specs.Prelude.{◌≡◌, ◌↔◌, ℕ, Bool, List, map, Contains, All}
use Rattle.depsets.specs.Listed.{flat}
use Rattle.lexer.specs.declared.fault.FaultKind.{FaultKind}
use Rattle.ticks.specs.declared.ticks.Kind.{Kind}
use Rattle.actions.specs.Ascending.{AreAscending}
use Rattle.workspace.specs.Labels.{LabelParts, label_text}
use Rattle.workspace.specs.Workspaces.{Pair}
use Rattle.modules.specs.declared.sorting.FileFault.{FileFault}
use Rattle.graph.specs.Reached.{IsReached}
use Rattle.outcomes.specs.Workspaces.{dependencies, outcome_of}
use Rattle.reporting.specs.Answers.{Node, report_text, is_loud}
use Rattle.loader.specs.Loaded.{AreFilesOf}
use Rattle.workspace_laws.specs.Files.{faults}
use Rattle.workspace_laws.specs.Workspaces.{plain_workspace}

-- the files that fail, and the labels that are reached, each with what becomes of it
pub record Answer : Type 0 where
  pub faults : List (FileFault FaultKind Kind)
  pub nodes : List Node

-- the labels that it tells
abbrev pub labels_told : Answer → List LabelParts
labels_told a = map (λ n. n.label) a.nodes

-- whether it has a file that failed, a target that failed or a conflict
abbrev pub is_loud_answer : Answer → Bool
is_loud_answer a = is_loud flat a.faults a.nodes

-- The bytes of its report: the files that failed, the labels, and the conflicts of their actions. A
-- depset is told by its listing: of the walk of its whole tree, the first occurrences.
abbrev pub answer_text : Answer → List ℕ
answer_text a = report_text flat a.faults a.nodes

-- The answer to these labels: of the files of a workspace, in ascending order of their paths, where
-- each evaluation may use so many ticks. All files that fail, by path; each label that is reached,
-- once and in the order of their texts, with what becomes of it. Wherever Starlark code lists a
-- depset, by `to_list()` or `ctx.files`, it gets the same plain listing.
pub record IsAnswerOf (files : List Pair) (labels : List LabelParts) (limit : ℕ)
    (a : Answer) : Type 0 where
  pub faults : a.faults ≡ faults files limit
  pub reached : (l : LabelParts)
      → Contains (labels_told a) l
      ↔ IsReached (dependencies (plain_workspace files limit)) labels l
  pub ordered : AreAscending (map (λ n. label_text n.label) a.nodes)
  pub outcomes : All (λ n. n.outcome ≡ outcome_of (plain_workspace files limit) n.label) a.nodes

-- the answer to labels of a workspace, whose files stand in any order
pub record IsAnswer (workspace : List Pair) (labels : List LabelParts) (limit : ℕ)
    (a : Answer) : Type 0 where
  pub files : List Pair
  pub are_files : AreFilesOf workspace files
  pub answers : IsAnswerOf files labels limit a
