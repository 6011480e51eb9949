-- Reports on a workspace (docs/REPORT.md; this project's own).
use Rattle.std.specs.Prelude.{◌≡◌, ◌≤◌, ℕ, List, length}
use Rattle.workspace.specs.Labels.{LabelParts, same_label}
use Rattle.workspace.specs.Workspaces.{Pair}
use Rattle.graph.specs.Reached.{TooManyReached}
use Rattle.outcomes.specs.Workspaces.{dependencies}
use Rattle.reporting.specs.declared.made.Report.{Report}
use Rattle.reporting.specs.Reported.{report_bytes}
use Rattle.loader.specs.Loaded.{AreFilesOf}
use Rattle.workspace_laws.specs.Workspaces.{plain_workspace}
use Rattle.answers.specs.Answers.{Answer, IsAnswer, answer_text, is_loud_answer}

-- how many labels a report has at most (this project's own limit)
abbrev pub node_limit : ℕ
node_limit = 1048576

-- A report says just what the answer to labels of a workspace is, where each evaluation may use so
-- many ticks; and the answer has no more labels than a report may have.
pub record Reports (workspace : List Pair) (labels : List LabelParts) (limit : ℕ)
    (r : Report) : Type 0 where
  pub answer : Answer
  pub answers : IsAnswer workspace labels limit answer
  pub few : length answer.nodes ≤ node_limit
  pub told : report_bytes r ≡ answer_text answer
  pub loud : r.loud ≡ is_loud_answer answer

-- bytes that are those of the answer to labels of a workspace, which has no more labels than a
-- report may have
pub record AnswersIn (workspace : List Pair) (labels : List LabelParts) (limit : ℕ)
    (bytes : List ℕ) : Type 0 where
  pub answer : Answer
  pub answers : IsAnswer workspace labels limit answer
  pub few : length answer.nodes ≤ node_limit
  pub told : bytes ≡ answer_text answer

-- more labels are reached than a report may have
pub record IsTooMany (workspace : List Pair) (labels : List LabelParts)
    (limit : ℕ) : Type 0 where
  pub files : List Pair
  pub are_files : AreFilesOf workspace files
  pub many : TooManyReached (dependencies (plain_workspace files limit)) labels same_label node_limit
