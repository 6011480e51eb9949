-- One id, one tree: what is promised of the depsets that are seen together, so that a report can
-- tell them by their ids. (This project's own notions.)
use Rattle.std.specs.Prelude.{◌≡◌, ◌≢◌, ℕ, ◌+◌, ◌≤◌, List}
use Rattle.depsets.specs.Flat.{Among, IsCoherent}
use Rattle.depsets.specs.Own.{own_id}
use Rattle.depsets.specs.Rose.{node, roses, label}
use Rattle.depsets.specs.declared.depset.Order.{Order}
use Rattle.depsets.specs.declared.element.Element.{Element}
use Rattle.one_tree.specs.Found.{Set}

-- two of them with one id are the same tree
abbrev pub IsOneTree : List Set → Type 0
IsOneTree ds = IsCoherent own_id ds

-- none of them is this owner's: a file's, by its path, or a target's, by its label
abbrev pub IsFresh : List ℕ → List Set → Type 0
IsFresh owner ds = (d : Set) → Among d ds → (label d).id.owner ≢ owner

-- the owner's have the serials from 1 up to so many
abbrev pub IsNumbered : List ℕ → ℕ → List Set → Type 0
IsNumbered owner made ds =
    (d : Set) → Among d ds → (label d).id.owner ≡ owner
    → (1 ≤ (label d).id.serial) × ((label d).id.serial ≤ made)

-- all of the first are among the second
abbrev pub AreIn : List Set → List Set → Type 0
AreIn ds es = (d : Set) → Among d ds → Among d es

-- the depset that an owner makes next, with these parts
abbrev pub next : List ℕ → ℕ → Order → List Element → List Set → Set
next owner made o es ds =
    node (record { id = record { owner = owner; serial = made + 1 }; order = o; direct = es })
    (roses ds)
