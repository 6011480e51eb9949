-- Visits one after the other.
use Rattle.std.proofs.Common.{◌≡◌, ℕ, ◌+◌, ◌≤◌, List, [], ◌∷◌, ◌++◌, length, drop, slice_get, Some, Result, Ok, Err, refl, sym, ap, ◌∙◌, arith, append_assoc, append-nil, drop_of_length-le}
use Rattle.depsets.proofs.Turns.{drop_at}
use Rattle.ticks.specs.Ticking.{Count, Ticking, then_on, after_tick, FaultOr}
use Rattle.values.specs.Visits.{all_of}
use Rattle.ticks.specs.declared.ticks.Broken.{Broken}
use Rattle.ticks.specs.declared.ticks.Broken.TheVariants as broken
use Rattle.ticks.specs.declared.ticks.Kind.{Kind}
use Rattle.ticks.specs.declared.ticks.Kind.TheVariants.{Deep}

module _ {B : Type 0} where
  pub after-after : (r : Result Count Kind) (f : Count → Result Count Kind) (g : Count → Result B Kind) → after_tick (after_tick r f) g ≡ after_tick r (λ d. after_tick (f d) g)
  after-after (Ok c) f g = refl
  after-after (Err k) f g = refl

  -- after a visit that is too deep nothing follows
  pub too-deep : (r : Result Count Kind) (f g : Count → Result B Kind) → after_tick (after_tick r (λ d. Err Deep)) f ≡ after_tick (after_tick r (λ d. Err Deep)) g
  too-deep (Ok c) f g = refl
  too-deep (Err k) f g = refl

  -- what is done, and then the rest
  abbrev pub with_done : List B → Ticking (List B) → Ticking (List B)
  with_done done r = then_on r (λ ys e. Ok (done ++ ys, e))

  pub with_done-none : (r : Ticking (List B)) → with_done [] r ≡ r
  with_done-none (Ok p) = refl
  with_done-none (Err k) = refl

  with_done-more : (done : List B) (y : B) (r : Ticking (List B)) → with_done (done ++ y ∷ []) r ≡ with_done done (then_on r (λ ys e. Ok (y ∷ ys, e)))
  with_done-more done y (Ok p) = ap (λ l. Ok (l, p.1)) (append_assoc done (y ∷ []) p.0)
  with_done-more done y (Err k) = refl

module _ {A B : Type 0} (f : A → Count → Ticking B) where
  pub all_of-end : (xs : List A) (i : ℕ) (done : List B) (c : Count) → length xs ≤ i → with_done done (all_of f (drop i xs) c) ≡ Ok (done, c)
  all_of-end xs i done c l = ap (λ ys. with_done done (all_of f ys c)) (drop_of_length-le xs l) ∙ ap (λ ys. Ok (ys, c)) (append-nil done)

  module _ (xs : List A) (i : ℕ) (x : A) (p : slice_get xs i ≡ Some x) (done : List B) (c : Count) where
    one : (r : Ticking B) → f x c ≡ r → with_done done (all_of f (drop i xs) c) ≡ with_done done (then_on r (λ y d. then_on (all_of f (drop (i + 1) xs) d) (λ ys e. Ok (y ∷ ys, e))))
    one r e = ap (λ l. with_done done (all_of f l c)) (drop_at xs i x p) ∙ ap (λ s. with_done done (then_on s (λ y d. then_on (all_of f (drop (i + 1) xs) d) (λ ys e. Ok (y ∷ ys, e))))) e

    pub all_of-next : (y : B) (d : Count) → f x c ≡ Ok (y, d) → with_done (done ++ y ∷ []) (all_of f (drop (i + 1) xs) d) ≡ with_done done (all_of f (drop i xs) c)
    all_of-next y d e = with_done-more done y (all_of f (drop (i + 1) xs) d) ∙ sym (one (Ok (y, d)) e)

    pub all_of-fault : (e : Broken) → FaultOr (f x c) e → FaultOr (with_done done (all_of f (drop i xs) c)) e
    all_of-fault (broken.Kind k) h = one (Err k) h
    all_of-fault broken.NoMemory h = tt

  abbrev got : Ticking (List B) → List B
  got (Ok p) = p.0
  got (Err k) = []

  rest-length : (x : A) (xs : List A) (ys : List B) (d : Count) (y : B) (r : Ticking (List B)) → ((zs : List B) (e : Count) → r ≡ Ok (zs, e) → length zs ≡ length xs)
      → then_on r (λ zs e. Ok (y ∷ zs, e)) ≡ Ok (ys, d) → length ys ≡ length (x ∷ xs)
  rest-length x xs ys d y (Ok p) known h = let e : y ∷ p.0 ≡ ys = ap got h in let n = known p.0 p.1 refl in let m = ap length e in omega (arith, n, m)
  rest-length x xs ys d y (Err k) known h = absurd (cc)

  first-length : (x : A) (xs : List A) (ys : List B) (d : Count) (r : Ticking B) → ((c : Count) (zs : List B) (e : Count) → all_of f xs c ≡ Ok (zs, e) → length zs ≡ length xs)
      → then_on r (λ y d. then_on (all_of f xs d) (λ zs e. Ok (y ∷ zs, e))) ≡ Ok (ys, d) → length ys ≡ length (x ∷ xs)
  first-length x xs ys d (Ok p) known h = rest-length x xs ys d p.0 (all_of f xs p.1) (known p.1) h
  first-length x xs ys d (Err k) known h = absurd (cc)

  -- as many as were visited
  pub all_of-length : (xs : List A) (c : Count) (ys : List B) (d : Count) → all_of f xs c ≡ Ok (ys, d) → length ys ≡ length xs
  all_of-length [] c ys d h = let e : [] ≡ ys = ap got h in ap length (sym e)
  all_of-length (x ∷ xs) c ys d h = first-length x xs ys d (f x c) (all_of-length xs) h
