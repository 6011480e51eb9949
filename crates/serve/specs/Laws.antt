-- What holds of all requests (docs/REPORT.md; this project's own).
use Rattle.std.specs.Prelude.{◌≡◌, ◌⊎◌, ℕ, List}
use Rattle.std.specs.List.Sorted.{IsPermutation}
use Rattle.request.specs.Asked.{Asked}
use Rattle.request.specs.Input.{Spells}
use Rattle.workspace.specs.Workspaces.{Pair}
use Rattle.answers.specs.Answers.{Answer}
use Rattle.answers.specs.Laws.{AreAmong, AskForTheSame, HidesNothing}
use Rattle.serve.specs.Requests.{AsksFor, AsksTooMany, IsAnswered}

-- Words that ask for something and an input that spells a workspace have an answer that a report
-- may tell, or too many labels are reached.
abbrev pub RequestsHaveAnAnswer : Type 0
RequestsHaveAnAnswer =
    (words : List (List ℕ)) (input : List ℕ) (asked : Asked) (workspace : List Pair)
    → AsksFor words asked → Spells input workspace
    → ((answer : Answer) × IsAnswered words input answer) ⊎ AsksTooMany words input

-- Never both.
abbrev pub AnswersAreNotTooMany : Type 0
AnswersAreNotTooMany =
    (words : List (List ℕ)) (input : List ℕ) (answer : Answer)
    → IsAnswered words input answer → AsksTooMany words input → ⊥

-- Requests that ask for the same labels, in any order and any number of times, under the same limit
-- of steps, of inputs with the same files in any order, have at most one answer.
abbrev pub RequestsHaveOneAnswer : Type 0
RequestsHaveOneAnswer =
    (words others : List (List ℕ)) (input other : List ℕ) (a b : Answer)
    (this : IsAnswered words input a) (that : IsAnswered others other b)
    → IsPermutation this.workspace that.workspace
    → AskForTheSame this.asked.labels that.asked.labels → this.asked.steps ≡ that.asked.steps
    → a ≡ b

-- The same is so of one input, without a word of its files.
abbrev pub InputsHaveOneAnswer : Type 0
InputsHaveOneAnswer =
    (words others : List (List ℕ)) (input : List ℕ) (a b : Answer) (this : IsAnswered words input a)
    (that : IsAnswered others input b) → AskForTheSame this.asked.labels that.asked.labels
    → this.asked.steps ≡ that.asked.steps → a ≡ b

-- The same words and the same input have at most one answer.
abbrev pub AnswersAreOne : Type 0
AnswersAreOne =
    (words : List (List ℕ)) (input : List ℕ) (a b : Answer) → IsAnswered words input a
    → IsAnswered words input b → a ≡ b

-- Who asks for the same labels and for more, of the same files under the same limit, is hidden
-- nothing that is wrong, where both requests have an answer.
abbrev pub RequestsForMoreHideNothing : Type 0
RequestsForMoreHideNothing =
    (words others : List (List ℕ)) (input other : List ℕ) (a b : Answer)
    (this : IsAnswered words input a) (that : IsAnswered others other b)
    → IsPermutation this.workspace that.workspace
    → AreAmong this.asked.labels that.asked.labels → this.asked.steps ≡ that.asked.steps
    → HidesNothing a b
