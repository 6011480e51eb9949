-- Steps of a range.
use Rattle.std.proofs.Common.{◌≡◌, ℕ, zero, suc, ◌≤◌, ℤ, pos, negsuc, ◌+ℤ◌, ◌-ℤ◌, List, [], ◌∷◌, length, refl, sym, ap, ◌∙◌, arith}
use Rattle.std.specs.Prelude.{◌<ℤ◌, ◌≤ℤ◌}
use Rattle.std.proofs.lemmas.Int.{ints}
use Rattle.numbers.specs.Ranges.{natural, range_length, counted, range_numbers}

pub length-counted : (n : ℕ) (a : ℤ) → length (counted n a) ≡ n
length-counted zero a = refl
length-counted (suc n) a = ap suc (length-counted n (a +ℤ pos 1))

none_natural : (z : ℤ) → z ≤ℤ pos 0 → natural z ≡ 0
none_natural (pos n) l = let h : n ≤ 0 = omega (arith, ints, l) in omega arith
none_natural (negsuc n) l = refl

some_natural : (z y : ℤ) → z ≡ y +ℤ pos 1 → pos 0 ≤ℤ y → natural z ≡ suc (natural y)
some_natural z (pos n) e l = ap natural e ∙ (omega arith)
some_natural z (negsuc n) e l = absurd (omega (arith, ints, l))

pub range_ended : (a b : ℤ) → b ≤ℤ a → range_numbers a b ≡ []
range_ended a b l = ap (λ n. counted n a) (none_natural (b -ℤ a) (omega (arith, ints)))

pub range_step : (a b : ℤ) → a <ℤ b → range_numbers a b ≡ a ∷ range_numbers (a +ℤ pos 1) b
range_step a b l = ap (λ n. counted n a) (some_natural (b -ℤ a) (b -ℤ (a +ℤ pos 1)) (omega (arith, ints)) (omega (arith, ints)))

pub step : (xs : List ℤ) (a b x n : ℤ) → xs ≡ range_numbers a b → a <ℤ b → x ≡ a → n ≡ a +ℤ pos 1 → xs ≡ x ∷ range_numbers n b
step xs a b x n e l f g = e ∙ range_step a b l ∙ ap (λ y. y ∷ range_numbers (a +ℤ pos 1) b) (sym f) ∙ ap (λ y. x ∷ range_numbers y b) (sym g)

pub how_many : (xs : List ℤ) (a b x y : ℤ) (n : ℕ) → range_numbers a b ≡ xs → x ≡ a → y ≡ b → n ≡ range_length x y → n ≡ length xs
how_many xs a b x y n e g h f = f ∙ ap (λ z. range_length z y) g ∙ ap (range_length a) h ∙ sym (length-counted (range_length a b) a) ∙ ap length e
