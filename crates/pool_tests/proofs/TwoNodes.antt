-- Two nodes, of which the second depends on the first, and their texts.
use Rattle.std.proofs.Common.{◌≡◌, ℕ, zero, suc, ◌<◌, ◌∙◌, true, List, [], ◌∷◌, map, sym, refl, arith, true≢false, eqb-true}
use Rattle.std.specs.Prelude.{nat_eq}
use Rattle.std.specs.List.{IsDistinct}
use Rattle.std.proofs.lemmas.Map.Keys.{IsDistinct-cons}
use Rattle.edges.specs.Rows.{row, has, IsGraph, IsOrdered}
use Rattle.edges.proofs.Tests.{or_none}
use Rattle.pool_tests.specs.Examples.{bracketed}

abbrev pub pair : List (List ℕ)
pair = [] ∷ (0 ∷ []) ∷ []

pair_distinct : (n : ℕ) → IsDistinct nat_eq (row pair n)
unfolding IsDistinct
pair_distinct zero = tt
pair_distinct (suc zero) = IsDistinct-cons nat_eq 0 [] tt tt
pair_distinct (suc (suc n)) = tt

pair_falls : (n d : ℕ) → has (row pair n) d ≡ true → (d < n) × (n < 2)
pair_falls zero d h = absurd (true≢false (sym h))
pair_falls (suc zero) d h = let e : d ≡ 0 = eqb-true d 0 (sym (or_none (nat_eq d 0)) ∙ h) in (omega (arith, e), omega arith)
pair_falls (suc (suc n)) d h = absurd (true≢false (sym h))

pub pair_graph : IsGraph pair
pair_graph = record { distinct = pair_distinct; inside = λ n d h. let f = pair_falls n d h in omega (arith, f.0, f.1) }

pub pair_order : IsOrdered pair 2
pair_order = record { within = omega arith; after = λ n d first h. (pair_falls n d h).0; behind = λ n past low. absurd (omega (arith, past, low)) }

-- the text of each node, as a plain function
abbrev pub pair_text : ℕ → List ℕ
pair_text zero = bracketed []
pair_text (suc n) = bracketed (bracketed [] ∷ [])

pub pair_stepped : (n : ℕ) → n < 2 → pair_text n ≡ bracketed (map pair_text (row pair n))
pair_stepped zero lt = refl
pair_stepped (suc zero) lt = refl
pair_stepped (suc (suc n)) lt = absurd (omega arith)
