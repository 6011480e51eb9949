-- What the table of a board keeps between any two steps. Each seat has a view, a list of journals,
-- mostly of one: views are joined by `++`, and a joined seat leaves an empty one. The law speaks of
-- all journals, so it does not see how they are grouped. (docs/ARCHITECTURE.md, "The board"; this
-- project's own.)
use Rattle.std.specs.Prelude.{◌≡◌, ℕ, zero, suc, ◌+◌, false, List, [], ◌∷◌, ◌++◌, map, length, None}
use Rattle.std.specs.Prelude.{Vec}
use Rattle.std.specs.declared.alloc.Global.{Global}
use Rattle.board.specs.declared.journal.Journal.{Journal}
use Rattle.board.specs.Journal.{Each}
use Rattle.board.specs.Lawful.{IsLawful, IsPlan}

-- the journals of all seats, whichever seat has them: what the law speaks of
abbrev pub all_journals : List (List Journal) → List Journal
all_journals [] = []
all_journals (v ∷ vs) = v ++ all_journals vs

-- the plan that these lists are: each node's dependencies
abbrev pub plan_in : List (Vec ℕ Global) → List (List ℕ)
plan_in lists = map (λ l. l.items) lists

-- the journal of a pass that has done and seen nothing
abbrev pub blank : List (List ℕ) → Journal
blank plan = record {
  plan = plan;
  started = [];
  delivered = [];
  readied = [];
  finished = [];
  seen = [];
  least = None;
  set = false;
  saw = false;
}

-- the journals of k passes at the start, before any of them has done or seen anything
abbrev pub blanks : List (List ℕ) → ℕ → List Journal
blanks plan zero = []
blanks plan (suc k) = blank plan ∷ blanks plan k

-- the words at the start: how many dependencies each node has, how many nodes there are, and no
-- halt
abbrev pub first_words : List (List ℕ) → List ℕ
first_words plan = map length plan ++ (length plan ∷ 0 ∷ [])

-- as many words as the plan asks for, as many journals as passes, each with the plan in it, and the
-- law
pub record IsBoardState (plan : List (List ℕ)) (passes : ℕ) (words : List ℕ)
    (views : List (List Journal)) : Type 0 where
  pub wide : length words ≡ length plan + 2
  pub all : length (all_journals views) ≡ passes
  pub told : Each (λ j. j.plan ≡ plan) (all_journals views)
  pub shape : IsPlan plan
  pub law : IsLawful plan words (all_journals views)
