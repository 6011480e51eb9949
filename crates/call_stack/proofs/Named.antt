-- Arguments by name.
use Rattle.std.proofs.Common.{◌≡◌, ◌∙◌, ℕ, zero, suc, ◌+◌, List, [], ◌∷◌, ap, refl, sym, length, take, cond, ltb, min, arith}
use Rattle.std.proofs.lemmas.Bool.Decides.{nat_tests}
use Rattle.std.specs.Prelude.{Bool, true, false, not, ◌&&◌, Option, Some, None, position, slice_get, bytes_eq}
use Rattle.std.specs.List.{list_any, list_all, position_or_len}
use Rattle.std.specs.Map.{lookup}
use Rattle.std.proofs.lemmas.Iterator.Adapters.{position_from-zero}
use Rattle.first_places.specs.Places.{place_named}
use Rattle.program_tree.specs.Names.{Name}
use Rattle.meaning.specs.Entry.{all_known, paired}

abbrev pub at : {V : Type 0} → Option ℕ → List V → Option V
at None vs = None
at (Some n) vs = slice_get vs n

at_nil : {V : Type 0} (o : Option ℕ) → at {V = V} o [] ≡ None
at_nil None = refl
at_nil (Some zero) = refl
at_nil (Some (suc n)) = refl

more : {V : Type 0} (b : Bool) (n len : ℕ) (v : V) (vs : List V) →
    cond b (Some v) (at (cond (ltb n len) (Some n) None) vs) ≡ at (cond (ltb (cond (not b) (1 + n) 0) (suc len)) (Some (cond (not b) (1 + n) 0)) None) (v ∷ vs)
more true n len v vs = ap (λ b. at (cond b (Some 0) None) (v ∷ vs)) some
  where
    some : true ≡ ltb 0 (suc len)
    some = grind (arith, nat_tests)
more false n len v vs = by (ltb n len) ∙ sym (ap (λ b. at (cond b (Some (1 + n)) None) (v ∷ vs)) same)
  where
    same : ltb (1 + n) (suc len) ≡ ltb n len
    same = grind (arith, nat_tests)

    by : (b : Bool) → at (cond b (Some n) None) vs ≡ at (cond b (Some (1 + n)) None) (v ∷ vs)
    by true = let e : suc n ≡ 1 + n = omega arith in ap (slice_get (v ∷ vs)) e
    by false = refl

-- the value of a name stands where the name stands
lookup_position : {V : Type 0} (p : Name) (xs : List Name) (vs : List V) →
    lookup (bytes_eq p) (paired xs vs) ≡ at (position (bytes_eq p) xs) vs
lookup_position p [] vs = refl
lookup_position p (x ∷ xs) [] = sym (at_nil (position (bytes_eq p) (x ∷ xs)))
lookup_position p (x ∷ xs) (v ∷ vs) =
    ap (λ o. cond (bytes_eq p x) (Some v) o) (lookup_position p xs vs) ∙ more (bytes_eq p x) (position_or_len (bytes_eq p) xs) (length xs) v vs

pub lookup_place : {V : Type 0} (p : Name) (xs : List Name) (vs : List V) →
    lookup (bytes_eq p) (paired xs vs) ≡ at (place_named p xs) vs
lookup_place p xs vs = lookup_position p xs vs ∙ ap (λ o. at o vs) (position_from-zero (bytes_eq p) xs)

-- the names that have values
pub known_taken : {V : Type 0} (params xs : List Name) (vs : List V) (n : ℕ) → n ≡ min (length xs) (length vs) →
    all_known params (paired xs vs) ≡ list_all (λ n. list_any (bytes_eq n) params) (take n xs)
known_taken params [] vs zero e = refl
known_taken params [] vs (suc n) e = absurd (omega (arith, e))
known_taken params (x ∷ xs) [] zero e = refl
known_taken params (x ∷ xs) [] (suc n) e = absurd (omega (arith, e))
known_taken params (x ∷ xs) (v ∷ vs) zero e = absurd (omega (arith, e))
known_taken params (x ∷ xs) (v ∷ vs) (suc n) e =
    ap (λ b. list_any (bytes_eq x) params && b) (known_taken params xs vs n (omega (arith, e)))
