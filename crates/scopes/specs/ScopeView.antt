-- What the program's scopes stand for.
use Rattle.std.specs.Prelude.{◌≡◌, ◌≤◌, ℕ, List, [], ◌∷◌, drop, length, map, take, Option, bytes_eq}
use Rattle.std.specs.Prelude.{⊤}
use Rattle.std.specs.Map.{lookup}
use Rattle.std.specs.Option.{option_flatten}
use Rattle.program_tree.specs.Names.{Name, Scope, once, slot_of}
use Rattle.scopes.specs.declared.levels.BoundName.{BoundName}

-- the scope in a comprehension that binds these names (Starlark specification, "Comprehensions")
abbrev pub entered : List Name → Scope → Scope
entered xs s = record { globals = s.globals; levels = once xs ∷ s.levels }

-- the levels around the innermost one
abbrev pub outer : List (List Name) → List (List Name)
outer [] = []
outer (l ∷ ls) = ls

-- the scope behind a comprehension, from that inside of it
abbrev pub left : Scope → Scope
left s = record { globals = s.globals; levels = outer s.levels }

-- the scope in a function that binds these names
abbrev pub in_function : List Name → Scope → Scope
in_function xs s = record { globals = s.globals; levels = once xs ∷ [] }

-- the slot that a map of names to slots has for a name
abbrev pub found : Name → List (Name × Option ℕ) → Option ℕ
found x es = option_flatten (lookup (bytes_eq x) es)

-- what such a map has for each name is the name's slot
abbrev pub HasSlots : List (Name × Option ℕ) → List (List Name) → Type 0
HasSlots es ls = (x : Name) → found x es ≡ slot_of x ls

-- the names of a level, as the program keeps it
abbrev pub names_in : List BoundName → List Name
names_in bs = map (λ b. b.name) bs

-- each name of a level has beside it the slot that it has around the level
abbrev pub KnowsAround : List BoundName → List (List Name) → Type 0
KnowsAround [] ls = ⊤
KnowsAround (b ∷ bs) ls = (b.around ≡ slot_of b.name ls) × KnowsAround bs ls

-- and so do those of all levels, the innermost first
abbrev pub AllKnowAround : List (List BoundName) → Type 0
AllKnowAround [] = ⊤
AllKnowAround (l ∷ ls) = KnowsAround l (map names_in ls) × AllKnowAround ls

-- a map and the innermost level belong to one another, inside of these levels
abbrev pub AreLevel : List (Name × Option ℕ) → List BoundName → List (List Name) → Type 0
AreLevel es bs ls = HasSlots es (names_in bs ∷ ls) × KnowsAround bs ls

-- a list cut at these places, the last part first
abbrev pub parts : {A : Type 0} → List ℕ → List A → List (List A)
parts [] xs = []
parts (n ∷ ns) xs = drop n xs ∷ parts ns (take n xs)

-- the places are in the list, each before the next, and nothing stands before the first
abbrev pub IsCut : {A : Type 0} → List ℕ → List A → Type 0
IsCut [] xs = xs ≡ []
IsCut (n ∷ ns) xs = (n ≤ length xs) × IsCut ns (take n xs)
