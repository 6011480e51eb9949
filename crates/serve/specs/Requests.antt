-- The request that the words of the command line and the input make together, and what is written
-- for it (docs/REPORT.md; this project's own choice).
use Rattle.std.specs.Prelude.{◌≡◌, ◌<◌, ◌≤◌, ◌+◌, ◌⊎◌, ℕ, Bool, List, Option, Some, length}
use Rattle.std.specs.Io.KnownBytes.{Appends, Consumes, IsAtEnd}
use Rattle.request.specs.Asked.{Asked, asked}
use Rattle.devices.specs.Devices.{WritesBeginning}
use Rattle.request.specs.Input.{Spells, input_limit}
use Rattle.answers.specs.Answers.{Answer, IsAnswer, answer_text, is_loud_answer}
use Rattle.answers.specs.Reports.{IsTooMany, node_limit}
use Rattle.workspace.specs.Workspaces.{Pair}

-- the words ask for this
abbrev pub AsksFor : List (List ℕ) → Asked → Type 0
AsksFor words a = asked words ≡ Some a

-- the words ask for more than one worker
abbrev pub AsksForOthers : List (List ℕ) → Type 0
AsksForOthers words = (a : Asked) × AsksFor words a × (1 < a.workers)

-- words and input make a request, and this is the answer to it, with no more labels than a report
-- may have
pub record IsAnswered (words : List (List ℕ)) (input : List ℕ) (answer : Answer) : Type 0 where
  pub asked : Asked
  pub workspace : List Pair
  pub words_part : AsksFor words asked
  pub input_part : Spells input workspace
  pub answers : IsAnswer workspace asked.labels asked.steps answer
  pub few : length answer.nodes ≤ node_limit

-- words and input make a request, the bytes of its answer were written and nothing else, and `loud`
-- says whether the answer has a load fault, a failed target or a conflict
pub record WritesAnswer (words : List (List ℕ)) (input : List ℕ) (old new : Option (List ℕ))
    (loud : Bool) : Type 0 where
  pub answer : Answer
  pub answered : IsAnswered words input answer
  pub written : Appends old new (answer_text answer)
  pub is_loud : loud ≡ is_loud_answer answer

-- words and input make a request, and a beginning of its answer was written, perhaps none of it and
-- perhaps all
pub record BeginsAnswer (words : List (List ℕ)) (input : List ℕ)
    (old new : Option (List ℕ)) : Type 0 where
  pub answer : Answer
  pub answered : IsAnswered words input answer
  pub written : WritesBeginning old new (answer_text answer)

-- words and input make a request, and more labels are reached than a report may have
pub record AsksTooMany (words : List (List ℕ)) (input : List ℕ) : Type 0 where
  pub asked : Asked
  pub workspace : List Pair
  pub words_part : AsksFor words asked
  pub input_part : Spells input workspace
  pub many : IsTooMany workspace asked.labels asked.steps

-- an input is no legal one: it spells no workspace
abbrev pub SpellsNothing : List ℕ → Type 0
SpellsNothing input = (workspace : List Pair) → Spells input workspace → ⊥

-- A source was read to its end, and of the bytes that it gave this holds. Where the source tells
-- its bytes, these are all that it had; where it doesn't, they are some bytes.
pub record OfWholeInput (before after : Option (List ℕ)) (P : List ℕ → Type 0) : Type 0 where
  pub input : List ℕ
  pub taken : Consumes before after input
  pub end : IsAtEnd after
  pub holds : P input

-- What a source gave spells nothing: it was read to its end, or to the first byte past the limit of
-- an input, in which case nothing that begins so spells anything either. Where the source tells its
-- bytes, these are those that it gave; where it doesn't, they are some bytes.
pub record RefusesInput (before after : Option (List ℕ)) : Type 0 where
  pub input : List ℕ
  pub taken : Consumes before after input
  pub read : IsAtEnd after ⊎ (length input ≡ input_limit + 1)
  pub most : length input ≤ input_limit + 1
  pub refused : SpellsNothing input
