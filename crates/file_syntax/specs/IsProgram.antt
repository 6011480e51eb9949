-- What is so of each file that was read, whatever its text is: what a compiler relies on. Which
-- statements may stand where is the Starlark specification's rule for `return`, `break` and
-- `continue` ("Return statements", "Break and Continue"), and this project's own choice for the
-- others.
use Rattle.std.specs.Prelude.{◌≡◌, ℕ, zero, suc, ◌+◌, ◌≤◌, ◌<◌, Bool, true, false, List, [], ◌∷◌}
use Rattle.std.specs.Prelude.{◌++◌, length, map, None, Some}
use Rattle.std.specs.List.{AllByRecursion}
use Rattle.lexer.specs.Begins.{greatest_number}
use Rattle.program_tree.specs.Names.{distinct}
use Rattle.program_tree.specs.declared.names.Binding.{Binding}
use Rattle.program_tree.specs.declared.names.Binding.TheVariants.{Slot as slot, Global as global}
use Rattle.program_tree.specs.declared.names.Binding.TheVariants.{Builtin as builtin}
use Rattle.program_tree.specs.Resolved.{Term, named, numeral, quoted, tuple, listing, dict, choice}
use Rattle.program_tree.specs.Resolved.{operates, turned, selects, subscript, invokes, each}
use Rattle.program_tree.specs.Resolved.{each_pair, Terms, no_terms, more_terms, Pairs, no_pairs}
use Rattle.program_tree.specs.Resolved.{more_pairs, Keywords, no_keywords, more_keywords, Rounds}
use Rattle.program_tree.specs.Resolved.{done, for_each, only_if, Statement, load, assign}
use Rattle.program_tree.specs.Resolved.{assign_item, add_to, add_to_item, evaluate, pass}
use Rattle.program_tree.specs.Resolved.{break_loop, continue_loop, give_back, branch, loop, define}
use Rattle.program_tree.specs.Resolved.{Branches, no_branches, a_branch, Steps, no_steps, step}
use Rattle.program_tree.specs.Resolved.{Program, numbered}
use Rattle.program_tree.specs.declared.program.OwnSlots.{OwnSlots}
use Rattle.program_tree.specs.declared.program.Loaded.{Loaded}

-- what a name stands for is there, in a file that binds g names and in a frame of n slots
abbrev pub IsInRange : ℕ → ℕ → Binding → Type 0
IsInRange g n (slot k) = k < n
IsInRange g n (global k) = k < g
IsInRange g n (builtin p) = Unit {0}

-- a name of a comprehension has one of its own slots
abbrev pub IsOwnSlot : OwnSlots → Binding → Type 0
IsOwnSlot own (slot k) = (own.first ≤ k) × (k < own.end)
IsOwnSlot own (global k) = ⊥
IsOwnSlot own (builtin p) = ⊥

-- the first clause of a comprehension is a `for` (Starlark specification, "Comprehensions")
abbrev pub begins_with_for : Rounds → Bool
begins_with_for done = false
begins_with_for (for_each bs a r) = true
begins_with_for (only_if a r) = false

-- an expression in such a file and frame: what its names stand for is there, and the slots of its
-- comprehensions, which their own names have. No number is greater than 9223372036854775807 (own
-- choice)
abbrev mutual
  pub IsTerm : ℕ → ℕ → Term → Type 0
  IsTerm g n (named b) = IsInRange g n b
  IsTerm g n (numeral k) = k ≤ greatest_number
  IsTerm g n (quoted t) = Unit {0}
  IsTerm g n (tuple ts) = AreTerms g n ts
  IsTerm g n (listing ts) = AreTerms g n ts
  IsTerm g n (dict ps) = ArePairs g n ps
  IsTerm g n (choice a c b) = IsTerm g n a × IsTerm g n c × IsTerm g n b
  IsTerm g n (operates o a b) = IsTerm g n a × IsTerm g n b
  IsTerm g n (turned o a) = IsTerm g n a
  IsTerm g n (selects f x) = IsTerm g n f
  IsTerm g n (subscript f a) = IsTerm g n f × IsTerm g n a
  IsTerm g n (invokes f ts ks) = IsTerm g n f × AreTerms g n ts × AreKeywords g n ks
  IsTerm g n (each own a r) =
      (own.first ≤ own.end) × (own.end ≤ n) × (begins_with_for r ≡ true) × IsTerm g n a
      × AreRounds g n own r
  IsTerm g n (each_pair own k v r) =
      (own.first ≤ own.end) × (own.end ≤ n) × (begins_with_for r ≡ true) × IsTerm g n k
      × IsTerm g n v × AreRounds g n own r

  pub AreTerms : ℕ → ℕ → Terms → Type 0
  AreTerms g n no_terms = Unit {0}
  AreTerms g n (more_terms a ts) = IsTerm g n a × AreTerms g n ts

  pub ArePairs : ℕ → ℕ → Pairs → Type 0
  ArePairs g n no_pairs = Unit {0}
  ArePairs g n (more_pairs k v ps) = IsTerm g n k × IsTerm g n v × ArePairs g n ps

  pub AreKeywords : ℕ → ℕ → Keywords → Type 0
  AreKeywords g n no_keywords = Unit {0}
  AreKeywords g n (more_keywords x a ks) = IsTerm g n a × AreKeywords g n ks

  pub AreRounds : ℕ → ℕ → OwnSlots → Rounds → Type 0
  AreRounds g n own done = Unit {0}
  AreRounds g n own (for_each bs a r) =
      AllByRecursion (IsOwnSlot own) bs × IsTerm g n a × AreRounds g n own r
  AreRounds g n own (only_if a r) = IsTerm g n a × AreRounds g n own r

-- what is around a statement: the top level alone, a function, or a loop of one
pub data Around : Type 0 where
  at_top in_function in_loop : Around

-- a statement stands at the top level, outside of functions
abbrev pub AtTop : Around → Type 0
AtTop at_top = Unit {0}
AtTop in_function = ⊥
AtTop in_loop = ⊥

-- a statement stands in a function, in a loop of it or not
abbrev pub InFunction : Around → Type 0
InFunction at_top = ⊥
InFunction in_function = Unit {0}
InFunction in_loop = Unit {0}

-- a statement stands in a loop of a function
abbrev pub InLoop : Around → Type 0
InLoop at_top = ⊥
InLoop in_function = ⊥
InLoop in_loop = Unit {0}

-- what a statement binds: a name of the file at the top level, a slot in a function
abbrev pub IsTarget : Around → ℕ → ℕ → Binding → Type 0
IsTarget p g n (slot k) = InFunction p × (k < n)
IsTarget p g n (global k) = AtTop p × (k < g)
IsTarget p g n (builtin b) = ⊥

-- how many expressions there are
abbrev pub count : Terms → ℕ
count no_terms = 0
count (more_terms a ts) = suc (count ts)

-- a statement in its place: `load` and `def` at the top level alone, `return`, `if`, `for` and
-- `x += e` in functions alone, `break` and `continue` in loops of these. A function has distinct
-- parameters, which have its first slots, at most as many defaults, and a frame of its own. Lines
-- count from 1
abbrev mutual
  pub IsStatement : Around → ℕ → ℕ → Statement → Type 0
  IsStatement p g n (load m is) = AtTop p × AllByRecursion (λ i. i.binds < g) is
  IsStatement p g n (assign bs a) = AllByRecursion (IsTarget p g n) bs × IsTerm g n a
  IsStatement p g n (assign_item f a b) = IsTerm g n f × IsTerm g n a × IsTerm g n b
  IsStatement p g n (add_to x a) = InFunction p × IsTarget p g n x × IsTerm g n a
  IsStatement p g n (add_to_item f a b) = IsTerm g n f × IsTerm g n a × IsTerm g n b
  IsStatement p g n (evaluate a) = IsTerm g n a
  IsStatement p g n pass = Unit {0}
  IsStatement p g n break_loop = InLoop p
  IsStatement p g n continue_loop = InLoop p
  IsStatement p g n (give_back None) = InFunction p
  IsStatement p g n (give_back (Some a)) = InFunction p × IsTerm g n a
  IsStatement p g n (branch bs other) = InFunction p × AreBranches p g n bs × AreSteps p g n other
  IsStatement p g n (loop bs a inner) =
      InFunction p × AllByRecursion (IsTarget p g n) bs × IsTerm g n a × AreSteps in_loop g n inner
  IsStatement p g n (define k x ps ds m inner) =
      AtTop p × (x < g) × (distinct ps ≡ true) × (length ps ≤ m) × (count ds ≤ length ps)
      × AreTerms g n ds
      × AreSteps in_function g m inner

  pub AreBranches : Around → ℕ → ℕ → Branches → Type 0
  AreBranches p g n no_branches = Unit {0}
  AreBranches p g n (a_branch k a inner bs) =
      IsTerm g n a × AreSteps p g n inner × AreBranches p g n bs × (1 ≤ k)

  pub AreSteps : Around → ℕ → ℕ → Steps → Type 0
  AreSteps p g n no_steps = Unit {0}
  AreSteps p g n (step k st ss) = IsStatement p g n st × AreSteps p g n ss × (1 ≤ k)

-- the numbers of the names that a `load` binds, in the order of the text, which stand for what
-- another module gives; any other statement has none of these
abbrev pub loaded_numbers : Statement → List ℕ
loaded_numbers (load m is) = map (λ (i : Loaded). i.binds) is
loaded_numbers st = []

-- the numbers of the file's names among the targets of an assignment
abbrev pub globals_among : List Binding → List ℕ
globals_among [] = []
globals_among (slot k ∷ bs) = globals_among bs
globals_among (global k ∷ bs) = k ∷ globals_among bs
globals_among (builtin b ∷ bs) = globals_among bs

-- the numbers of the file's own names that a statement of the top level binds
abbrev pub own_numbers : Statement → List ℕ
own_numbers (assign bs a) = globals_among bs
own_numbers (define k x ps ds n inner) = x ∷ []
own_numbers st = []

-- the same of the statements of the top level
abbrev pub all_loaded : Steps → List ℕ
all_loaded no_steps = []
all_loaded (step k st ss) = loaded_numbers st ++ all_loaded ss

-- the numbers of the file's own names that the statements of the top level bind
abbrev pub all_own : Steps → List ℕ
all_own no_steps = []
all_own (step k st ss) = own_numbers st ++ all_own ss

-- so many numbers, one after the other, from k on
abbrev pub numbers_from : ℕ → ℕ → List ℕ
numbers_from k zero = []
numbers_from k (suc n) = k ∷ numbers_from (suc k) n

-- a file: its names are distinct. Its loads bind the first of them and nothing else does, its other
-- statements those behind, each once, in the order of the text. Its functions have their numbers
-- from 1 on, in that order too; and its statements stand in their places
pub record IsProgram (p : Program) : Type 0 where
  pub globals : distinct p.globals ≡ true
  pub loads : all_loaded p.steps ≡ numbers_from 0 p.loaded
  pub own : (n : ℕ) × (length p.globals ≡ p.loaded + n)
      × (all_own p.steps ≡ numbers_from p.loaded n)
  pub functions : numbered 1 p.steps ≡ p.steps
  pub statements : AreSteps at_top (length p.globals) p.slots p.steps
