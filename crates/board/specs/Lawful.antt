-- The law of a board: what its words and the journals of all its passes say of each other, after
-- every step, whichever pass made it. (docs/ARCHITECTURE.md, "The board"; this project's own.)
use Rattle.std.specs.Prelude.{IsTrue, ◌↔◌, ◌≡◌, ℕ, ◌+◌, ◌<◌, ◌≤◌, Bool, true, List, length}
use Rattle.std.specs.Prelude.{slice_index, Some}
use Rattle.board.specs.declared.journal.Journal.{Journal}
use Rattle.board.specs.Journal.{times, edge_times, HasSentAll, Each, Among, deps, starts, readies}
use Rattle.board.specs.Journal.{finishes, delivers, sets, delivered_into, finished_count, missing}
use Rattle.board.specs.Journal.{unfinished, AtMost, mark, count_word, halt_word}

-- Over all passes no node is started, readied or finished twice, and no edge is delivered twice.
pub record NothingTwice (js : List Journal) : Type 0 where
  pub started : (n : ℕ) → starts n js ≤ 1
  pub readied : (n : ℕ) → readies n js ≤ 1
  pub finished : (n : ℕ) → finishes n js ≤ 1
  pub delivered : (d u : ℕ) → delivers d u js ≤ 1

-- What a pass started are nodes, and what it delivered are edges of the plan. The pass that
-- delivered an edge had started the node from which it leads. The pass that finished a node had
-- started it, and delivered all edges from it.
pub record WorkFollowsStart (plan : List (List ℕ)) (j : Journal) : Type 0 where
  pub nodes : (n : ℕ) → 0 < times n j.started → n < length plan
  pub edges : (d u : ℕ) → 0 < edge_times d u j.delivered → 0 < times d (deps plan u)
  pub delivered : (d u : ℕ) → 0 < edge_times d u j.delivered → 0 < times d j.started
  pub finished : (n : ℕ) → 0 < times n j.finished → 0 < times n j.started
  pub whole : (n : ℕ) → 0 < times n j.finished → HasSentAll plan n j

-- The word of a node that no pass started counts the dependencies whose edge was not delivered yet.
-- The word of a started node is the mark.
pub record WordsCountMissingEdges (plan : List (List ℕ)) (words : List ℕ)
    (js : List Journal) : Type 0 where
  pub waiting : (n : ℕ) → n < length plan → starts n js ≡ 0
      → slice_index words n ≡ missing js n (deps plan n)
  pub started : (n : ℕ) → n < length plan → 0 < starts n js → slice_index words n ≡ mark

-- All edges into a started node were delivered.
abbrev pub StartedHaveAllEdges : List (List ℕ) → List Journal → Type 0
StartedHaveAllEdges plan js = (n : ℕ) → 0 < starts n js → missing js n (deps plan n) ≡ 0

-- A node with at least one dependency was readied exactly where all edges into it were delivered.
pub record ReadiedWithLastEdge (plan : List (List ℕ)) (js : List Journal) : Type 0 where
  pub if_all : (n : ℕ) → 0 < length (deps plan n) → missing js n (deps plan n) ≡ 0
      → 0 < readies n js
  pub only_if_all : (n : ℕ) → 0 < readies n js → missing js n (deps plan n) ≡ 0

-- The count is how many nodes are not finished, and at most what any pass saw.
pub record CountIsUnfinished (plan : List (List ℕ)) (words : List ℕ)
    (js : List Journal) : Type 0 where
  pub count : count_word plan words ≡ unfinished js (length plan)
  pub least : Each (λ j. AtMost (count_word plan words) j.least) js

-- The halt is 0 or 1. It is 1 exactly where some pass set it, and wherever a pass saw it.
pub record HaltIsOneOnceSet (plan : List (List ℕ)) (words : List ℕ)
    (js : List Journal) : Type 0 where
  pub bit : halt_word plan words ≤ 1
  pub set : (halt_word plan words ≡ 1) ↔ (0 < sets js)
  pub saw : Each (λ j. j.saw ≡ true → halt_word plan words ≡ 1) js

-- Each node that a pass saw started was started by some pass.
abbrev pub SeenWereStarted : List Journal → Type 0
SeenWereStarted js = Each (λ j. (n : ℕ) → 0 < times n j.seen → 0 < starts n js) js

-- The law, in its eight parts. It holds of the words and of the journals of all passes after every
-- step.
pub record IsLawful (plan : List (List ℕ)) (words : List ℕ) (js : List Journal) : Type 0 where
  pub nothing_twice : NothingTwice js
  pub work_follows_start : Each (WorkFollowsStart plan) js
  pub words_count_missing_edges : WordsCountMissingEdges plan words js
  pub started_have_all_edges : StartedHaveAllEdges plan js
  pub readied_with_last_edge : ReadiedWithLastEdge plan js
  pub count_is_unfinished : CountIsUnfinished plan words js
  pub halt_is_one_once_set : HaltIsOneOnceSet plan words js
  pub seen_were_started : SeenWereStarted js

-- A plan that a board can have: the dependencies of a node are distinct nodes, fewer than the mark.
pub record IsPlan (plan : List (List ℕ)) : Type 0 where
  pub distinct : (n d : ℕ) → times d (deps plan n) ≤ 1
  pub inside : (n d : ℕ) → 0 < times d (deps plan n) → d < length plan
  pub short : (n : ℕ) → length (deps plan n) < mark

-- The law in numbers. The word of a node that no pass started is the number of its dependencies
-- less the edges into it that were delivered, and the count is the number of nodes less the
-- finished ones. Both are sums, since no number here is below 0.
pub record CountsAreDifferences (plan : List (List ℕ)) (words : List ℕ)
    (js : List Journal) : Type 0 where
  pub waiting : (n : ℕ) → n < length plan → starts n js ≡ 0
      → slice_index words n + delivered_into n js ≡ length (deps plan n)
  pub edges : (n : ℕ) → missing js n (deps plan n) + delivered_into n js ≡ length (deps plan n)
  pub count : count_word plan words + finished_count js ≡ length plan

-- At some moment the word of n was 0. The law held of the words and journals of that moment, j
-- among them, so every edge into n was delivered.
pub record WasComplete (n : ℕ) (j : Journal) : Type 0 where
  pub words : List ℕ
  pub journals : List Journal
  pub among : Among j journals
  pub lawful : IsLawful j.plan words journals
  pub zero : slice_index words n ≡ 0
  pub edges : (d : ℕ) → 0 < times d (deps j.plan n) → 0 < delivers d n journals

-- The words and the journals of all passes, once no pass can step: the count and the halt, and what
-- follows where a pass saw the count 0 or the halt.
pub record IsEnd (plan : List (List ℕ)) (words : List ℕ) (js : List Journal) (left : ℕ)
    (halted : Bool) : Type 0 where
  pub lawful : IsLawful plan words js
  pub count : count_word plan words ≡ left
  pub halt : IsTrue halted ↔ (0 < sets js)
  pub whole : Each (λ j. j.least ≡ Some 0 → (n : ℕ) → n < length plan → finishes n js ≡ 1) js
  pub saw : Each (λ j. j.saw ≡ true → 0 < sets js) js
