-- What the journals of all passes say, counted. A node is a number, and its dependencies are the
-- list at that place of the plan. An edge is a pair: a dependency, and the node that depends on it.
-- (docs/ARCHITECTURE.md, "The board"; this project's own.)
use Rattle.std.specs.Prelude.{◌≡◌, ◌⊎◌, ℕ, zero, suc, ◌+◌, ◌<◌, ◌≤◌, Bool, cond, eqb, List, [], ◌∷◌}
use Rattle.std.specs.Prelude.{length, slice_index, slice_index_or, Option, None, Some}
use Rattle.board.specs.declared.journal.Journal.{Journal}

-- how often x stands in the list
abbrev pub times : ℕ → List ℕ → ℕ
times x [] = 0
times x (y ∷ ys) = cond (eqb x y) 1 0 + times x ys

-- how often the edge from d to u does
abbrev pub edge_times : ℕ → ℕ → List (ℕ × ℕ) → ℕ
edge_times d u [] = 0
edge_times d u (e ∷ es) = cond (eqb d e.0) (cond (eqb u e.1) 1 0) 0 + edge_times d u es

-- how many of these edges lead into u
abbrev pub edges_into : ℕ → List (ℕ × ℕ) → ℕ
edges_into u [] = 0
edges_into u (e ∷ es) = cond (eqb u e.1) 1 0 + edges_into u es

-- f of each journal, added up
abbrev pub tally : (Journal → ℕ) → List Journal → ℕ
tally f [] = 0
tally f (j ∷ js) = f j + tally f js

-- P holds of each journal
abbrev pub Each : (Journal → Type 0) → List Journal → Type 0
Each P [] = Unit {0}
Each P (j ∷ js) = P j × Each P js

-- j is one of these journals
abbrev pub Among : Journal → List Journal → Type 0
Among j [] = ⊥
Among j (k ∷ ks) = (k ≡ j) ⊎ Among j ks

-- the dependencies of a node
abbrev pub deps : List (List ℕ) → ℕ → List ℕ
deps plan n = slice_index_or plan n []

-- a flag as a number to add up: how often the halt was set by one pass
abbrev pub bit : Bool → ℕ
bit b = cond b 1 0

-- how often the node n was started, by all passes together
abbrev pub starts : ℕ → List Journal → ℕ
starts n js = tally (λ j. times n j.started) js

-- how often the node n was readied, by all passes together
abbrev pub readies : ℕ → List Journal → ℕ
readies n js = tally (λ j. times n j.readied) js

-- how often the node n was finished, by all passes together
abbrev pub finishes : ℕ → List Journal → ℕ
finishes n js = tally (λ j. times n j.finished) js

-- how often the edge from d to u was delivered, by all passes together
abbrev pub delivers : ℕ → ℕ → List Journal → ℕ
delivers d u js = tally (λ j. edge_times d u j.delivered) js

-- how many of the passes set the halt
abbrev pub sets : List Journal → ℕ
sets js = tally (λ j. bit j.set) js

-- how many edges into u were delivered, by all passes together
abbrev pub delivered_into : ℕ → List Journal → ℕ
delivered_into u js = tally (λ j. edges_into u j.delivered) js

-- how many nodes were finished, by all passes together
abbrev pub finished_count : List Journal → ℕ
finished_count js = tally (λ j. length j.finished) js

-- how many of these dependencies of u have not delivered their edge
abbrev pub missing : List Journal → ℕ → List ℕ → ℕ
missing js u [] = 0
missing js u (d ∷ ds) = cond (eqb (delivers d u js) 0) 1 0 + missing js u ds

-- how many of the first k nodes are not finished
abbrev pub unfinished : List Journal → ℕ → ℕ
unfinished js zero = 0
unfinished js (suc k) = cond (eqb (finishes k js) 0) 1 0 + unfinished js k

-- this pass neither started the node nor saw it started
abbrev pub IsUnbegun : ℕ → Journal → Type 0
IsUnbegun n j = (times n j.started ≡ 0) × (times n j.seen ≡ 0)

-- the node has dependencies, and this pass did not ready it: an edge into it may be missing
abbrev pub MayWait : List (List ℕ) → ℕ → Journal → Type 0
MayWait plan n j = (0 < length (deps plan n)) × (times n j.readied ≡ 0)

-- this pass delivered the edges from the node to all its users
abbrev pub HasSentAll : List (List ℕ) → ℕ → Journal → Type 0
HasSentAll plan n j = (u : ℕ) → 0 < times n (deps plan u) → 0 < edge_times n u j.delivered

-- n is at most the number that was seen, if one was
abbrev pub AtMost : ℕ → Option ℕ → Type 0
AtMost n None = Unit {0}
AtMost n (Some k) = n ≤ k

-- the word of a node that was started: the greatest of 64 bits
abbrev pub mark : ℕ
mark = 18446744073709551615

-- A board has a word for each node, then the count. This is the count: how many nodes are not
-- finished.
abbrev pub count_word : List (List ℕ) → List ℕ → ℕ
count_word plan words = slice_index words (length plan)

-- the last word of a board, the halt: 1 once some pass set it, and 0 before
abbrev pub halt_word : List (List ℕ) → List ℕ → ℕ
halt_word plan words = slice_index words (length plan + 1)
