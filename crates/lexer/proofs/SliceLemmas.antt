-- Laws of parts of a text.
use Rattle.std.proofs.Common.{ℕ, suc, ◌≡◌, ◌+◌, ◌-◌, ◌<◌, List, ◌∷◌, length, get_or, take, drop, refl, add-one, drop-cons, arith}
use Rattle.std.specs.Prelude.{slice_range}
use Rattle.std.proofs.lemmas.Grind.{common_steps}

-- a part of a text is its first byte and what follows
pub part_front : (text : List ℕ) (at more d : ℕ) → at < length text
    → slice_range text at (at + 1 + more) ≡ get_or text at d ∷ take more (drop (at + 1) text)
part_front text at more d h =
    let e : at + 1 + more - at ≡ suc more = omega arith in
    rw (e, add-one, drop-cons text at d) refl

-- the slice of a text from a place on
pub from_place : (text : List ℕ) (at : ℕ) → take (length text - at) (drop at text) ≡ drop at text
from_place text at = grind (arith, common_steps)
