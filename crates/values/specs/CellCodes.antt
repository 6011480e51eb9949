-- A code of cells. (This project's own.)
use Rattle.std.specs.Prelude.{◌≡◌, ℕ, List, Option, ◌⊎◌, refl}
use Rattle.std.specs.Coded.{Coded, coded×, coded⊎, coded_ℕ, coded_list, code_by}
use Rattle.std.proofs.Common.{inl, inr}
use Rattle.leaves.specs.LeafCodes.{provider_code}
use Rattle.values.specs.ValueCodes.{items_code, fields_code, entries_code}
use Rattle.keys.specs.declared.key.Key.{Key}
use Rattle.leaves.specs.declared.leaf.Provider.{Provider}
use Rattle.values.specs.declared.value.Value.{Value}
use Rattle.values.specs.declared.cells.Cell.{Cell}
use Rattle.values.specs.declared.cells.Cell.TheVariants.{List as list, Tuple, Dict, Instance}

-- a cell as a sum of products, by its four kinds: what a code of cells is built from
abbrev pub CellSum : Type 0
CellSum =
    (List Value × ℕ) ⊎ (List Value ⊎ ((List (Key × Value) × ℕ) ⊎ (Provider × List (Option Value))))

-- the cell as such a sum
abbrev pub split : Cell → CellSum
split (list xs n) = inl (xs, n)
split (Tuple xs) = inr (inl xs)
split (Dict es n) = inr (inr (inl (es, n)))
split (Instance p xs) = inr (inr (inr (p, xs)))

-- the cell that such a sum stands for
abbrev pub join : CellSum → Cell
join (inl p) = list p.0 p.1
join (inr (inl xs)) = Tuple xs
join (inr (inr (inl p))) = Dict p.0 p.1
join (inr (inr (inr p))) = Instance p.0 p.1

-- no two cells have the same sum: each cell comes back from its own
pub join-split : (c : Cell) → join (split c) ≡ c
join-split (list xs n) = refl
join-split (Tuple xs) = refl
join-split (Dict es n) = refl
join-split (Instance p xs) = refl

-- A code of the cells of a heap: two heaps with the same code have the same cells.
abbrev pub cells_code : Coded (List Cell)
cells_code =
    coded_list
    (code_by CellSum
    (coded⊎ (coded× items_code coded_ℕ)
    (coded⊎ items_code
    (coded⊎ (coded× entries_code coded_ℕ) (coded× provider_code fields_code))))
    split join join-split)
