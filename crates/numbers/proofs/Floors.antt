-- Division: the quotient and the rest make the number, and no others do.
use Rattle.std.proofs.Common.{◌≡◌, ℕ, zero, suc, ◌+◌, ◌*◌, ◌/◌, ◌<◌, ℤ, pos, negsuc, neg_ℤ, ◌+ℤ◌, ◌*ℤ◌, refl, sym, ap, ◌∙◌, arith}
use Rattle.std.specs.Prelude.{◌<ℤ◌, ◌≤ℤ◌}
use Rattle.std.proofs.lemmas.Int.{ints}
use Rattle.std.proofs.lemmas.Nat.{div-add-mod', mod_below, same_from_place}
use Rattle.numbers.specs.Division.{floor_div, floor_mod, IsRest, Divided, DividedOnce}

more : (n b : ℕ) → suc n * b ≡ n * b + b
more n b = omega arith

nothing : (b : ℕ) → 0 * b ≡ 0
nothing b = omega arith

-- ---- the quotient and the rest make the number

pub divided : (a b : ℤ) → Divided a b
divided (pos a) (pos zero) n = absurd (n refl)
divided (pos a) (pos (suc b)) n =
    let e = div-add-mod' a (suc b) in
    let m = mod_below a (suc b) (omega arith) in
    (omega (arith, ints, e), (omega (arith, ints), omega (arith, ints, m)))
divided (negsuc a) (pos zero) n = absurd (n refl)
divided (negsuc a) (pos (suc b)) n =
    let e = div-add-mod' a (suc b) in
    let m = mod_below a (suc b) (omega arith) in
    let k = more (a / suc b) (suc b) in
    (omega (arith, ints, e, m, k), (omega (arith, ints), omega (arith, ints, m)))
divided (negsuc a) (negsuc b) n =
    let e = div-add-mod' (suc a) (suc b) in
    let m = mod_below (suc a) (suc b) (omega arith) in
    (omega (arith, ints, e), (omega (arith, ints, m), omega (arith, ints)))
divided (pos zero) (negsuc b) n =
    let k = nothing (suc b) in
    (omega (arith, ints, k), (omega (arith, ints), omega (arith, ints)))
divided (pos (suc a)) (negsuc b) n =
    let e = div-add-mod' a (suc b) in
    let m = mod_below a (suc b) (omega arith) in
    let k = more (a / suc b) (suc b) in
    (omega (arith, ints, e, m, k), (omega (arith, ints, m), omega (arith, ints)))

-- ---- no others do

same_up : (b q r p s : ℕ) → pos q *ℤ pos b +ℤ pos r ≡ pos p *ℤ pos b +ℤ pos s → r < b → s < b → (q ≡ p) × (r ≡ s)
same_up b q r p s e l m = same_from_place q r p s b l m (omega (arith, ints, e))

same_down : (b q r p s : ℕ) → negsuc q *ℤ pos b +ℤ pos r ≡ negsuc p *ℤ pos b +ℤ pos s → r < b → s < b → (suc q ≡ suc p) × (s ≡ r)
same_down b q r p s e l m = same_from_place (suc q) s (suc p) r b m l (omega (arith, ints, e))

never_across : (b q r p s : ℕ) → pos q *ℤ pos b +ℤ pos r ≡ negsuc p *ℤ pos b +ℤ pos s → s < b → ⊥
never_across b q r p s e l = let k = more p b in omega (arith, ints, e, l, k)

one_less : (m n : ℕ) → suc m ≡ suc n → m ≡ n
one_less m n e = omega arith

-- for a divisor above 0
apart : (b r s : ℕ) (q p : ℤ) → q *ℤ pos b +ℤ pos r ≡ p *ℤ pos b +ℤ pos s → r < b → s < b → (q ≡ p) × (pos r ≡ pos s)
apart b r s (pos q) (pos p) e l m = let h = same_up b q r p s e l m in (ap pos h.0, ap pos h.1)
apart b r s (negsuc q) (negsuc p) e l m = let h = same_down b q r p s e l m in (ap negsuc (one_less q p h.0), ap pos (sym h.1))
apart b r s (pos q) (negsuc p) e l m = absurd (never_across b q r p s e m)
apart b r s (negsuc q) (pos p) e l m = absurd (never_across b p s q r (sym e) l)

same_rest : (b : ℕ) (r s q p : ℤ) → q *ℤ pos b +ℤ r ≡ p *ℤ pos b +ℤ s → pos 0 ≤ℤ r → r <ℤ pos b → pos 0 ≤ℤ s → s <ℤ pos b → (q ≡ p) × (r ≡ s)
same_rest b (pos r) (pos s) q p e l m x y = apart b r s q p e (omega (arith, ints, m)) (omega (arith, ints, y))
same_rest b (negsuc r) s q p e l m x y = absurd (omega (arith, ints, l))
same_rest b (pos r) (negsuc s) q p e l m x y = absurd (omega (arith, ints, x))

-- a divisor below 0 turns both signs round
turned : (b : ℕ) (q : ℤ) → q *ℤ negsuc b ≡ neg_ℤ (q *ℤ pos (suc b))
turned b (pos q) = refl
turned b (negsuc q) = let k : suc q * suc b ≡ suc q * suc b = refl in omega (arith, ints)

same : (b q r p s : ℤ) → q *ℤ b +ℤ r ≡ p *ℤ b +ℤ s → IsRest b r → IsRest b s → (q ≡ p) × (r ≡ s)
same (pos b) q r p s e l m = same_rest b r s q p e l.0 l.1 m.0 m.1
same (negsuc b) q r p s e l m =
    let t = turned b q in
    let u = turned b p in
    let h = same_rest (suc b) (neg_ℤ r) (neg_ℤ s) q p (omega (arith, ints, e, t, u)) (omega (arith, ints, l.1)) (omega (arith, ints, l.0)) (omega (arith, ints, m.1)) (omega (arith, ints, m.0)) in
    (h.0, omega (arith, ints, h.1))

by_zero : (q r : ℤ) (b : ℤ) → b ≡ pos 0 → IsRest b r → ⊥
by_zero q r (pos b) e l = omega (arith, ints, e, l.0, l.1)
by_zero q r (negsuc b) e l = cc

pub divided_once : (a b : ℤ) → DividedOnce a b
divided_once a b q r d =
    let h = divided a b (λ e. by_zero q r b e d.1) in
    same b q r (floor_div a b) (floor_mod a b) (sym d.0 ∙ h.0) d.1 h.1
