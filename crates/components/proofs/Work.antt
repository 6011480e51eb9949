-- What is left to do falls.
use Rattle.std.proofs.Common.{◌≡◌, ℕ, zero, suc, ◌+◌, ◌<◌, ◌≤◌, List, [], ◌∷◌, length, ap, arith, length-append}
use Rattle.std.specs.Prelude.{slice_set}
use Rattle.edges.specs.Rows.{row}
use Rattle.components.specs.declared.search.Place.{Place}
use Rattle.components.specs.declared.search.Place.TheVariants.{Unmet, Open, Closed}
use Rattle.components.specs.Search.{View, place_of}
use Rattle.components.specs.Turns.{met, closed_all, weight, unmet_work, work_of}

met_less : (deps : List (List ℕ)) (ps : List Place) (n k : ℕ) → n < length deps → n < length ps → place_of ps n ≡ Unmet → unmet_work deps (slice_set ps n (Open k)) + (length (row deps n) + 2) ≡ unmet_work deps ps
met_less [] ps n k low low' e = absurd (omega (arith, low))
met_less (ds ∷ rows) [] n k low low' e = absurd (omega (arith, low'))
met_less (ds ∷ rows) (p ∷ ps) zero k low low' e = let w = ap (weight ds) e in omega (arith, w)
met_less (ds ∷ rows) (p ∷ ps) (suc n) k low low' e = let r = met_less rows ps n k (omega (arith, low)) (omega (arith, low')) e in omega (arith, r)

pub met_work : (deps : List (List ℕ)) (v : View) (n : ℕ) → n < length deps → n < length v.places → place_of v.places n ≡ Unmet → work_of deps (met deps n v) < work_of deps v
met_work deps v n low low' e =
    let less = met_less deps v.places n (length v.path) low low' e in
    let w = length-append v.waiting (row deps n) in
    let s = length-append v.starts (record { nodes = length v.path; edges = length v.waiting } ∷ []) in
    omega (arith, less, w, s)

set_less : (deps : List (List ℕ)) (ps : List Place) (n c : ℕ) → unmet_work deps (slice_set ps n (Closed c)) ≤ unmet_work deps ps
set_less [] ps n c = omega arith
set_less (ds ∷ rows) [] n c = omega arith
set_less (ds ∷ rows) (p ∷ ps) zero c = omega arith
set_less (ds ∷ rows) (p ∷ ps) (suc n) c = let r = set_less rows ps n c in omega (arith, r)

pub closed_less : (deps : List (List ℕ)) (ns : List ℕ) (c : ℕ) (ps : List Place) → unmet_work deps (closed_all ns c ps) ≤ unmet_work deps ps
closed_less deps [] c ps = omega arith
closed_less deps (n ∷ ns) c ps = let r = closed_less deps ns c (slice_set ps n (Closed c)) in let s = set_less deps ps n c in omega (arith, r, s)
