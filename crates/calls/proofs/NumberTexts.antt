-- What `str` gives of a whole number.
use Rattle.std.proofs.Common.{◌≡◌, ℕ, ℤ, ◌-◌, List, Some, Result, Ok, Err, refl, ap, ◌∙◌}
use Rattle.std.specs.Fmt.{signed_decimal}
use Rattle.ticks.specs.Ticking.{Count, then_on, after_tick, with_count, entered}
use Rattle.values.specs.Shape.{Shape, key, shape}
use Rattle.values.specs.declared.value.Value.{Value}
use Rattle.values.specs.declared.cells.Cell.{Cell}
use Rattle.ticks.specs.declared.ticks.Kind.{Kind}
use Rattle.ticks.specs.declared.ticks.TheConstants.{VISITED_LEVELS}
use Rattle.keys.specs.declared.key.Key.{Key}
use Rattle.keys.specs.declared.key.Key.TheVariants as index
use Rattle.printing.specs.Repr.{printed, print_at, fits, itself, string_in, repr_of}
use Rattle.printing.proofs.ReprLemmas.{opened}
use Rattle.operations.specs.Reading.{key_number, number_in}
use Rattle.calls.specs.NumberTexts.{number_told}

number_key : (k : Key) (n : ℤ) → key_number k ≡ Some n → k ≡ index.Number n
number_key (index.Number m) n h = let e : m ≡ n = cc in ap index.Number e
number_key _ n h = absurd (cc)

number_shape : (w : Shape) (n : ℤ) → number_in w ≡ Some n → w ≡ key (index.Number n)
number_shape (key k) n h = ap key (number_key k n h)
number_shape _ n h = absurd (cc)

visited : (r : Result Count Kind) (t : List ℕ) → then_on (then_on (after_tick r (λ d. Ok (t, d))) (λ u d. Ok (u, d))) (λ u d. with_count (fits u) d)
    ≡ after_tick r (λ d. with_count (fits t) d)
visited (Ok d) t = refl
visited (Err k) t = refl

-- a number is visited, and then its digits are its text
pub number_repr : (h : List Cell) (v : Value) (c : Count) (n : ℤ) → number_in (shape h v) ≡ Some n → repr_of h v c ≡ number_told n c
number_repr h v c n e =
    ap (λ r. then_on (then_on r (λ t d. Ok (itself (string_in (shape h v)) t, d))) (λ t d. with_count (fits t) d)) (opened VISITED_LEVELS h v c)
    ∙ ap (λ w. then_on (then_on (after_tick (entered VISITED_LEVELS c) (λ d. printed (entered (VISITED_LEVELS - 1)) (print_at (VISITED_LEVELS - 1) h) w d))
    (λ t d. Ok (itself (string_in w) t, d))) (λ t d. with_count (fits t) d)) (number_shape (shape h v) n e)
    ∙ visited (entered VISITED_LEVELS c) (signed_decimal n)
