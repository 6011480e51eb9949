-- The keys of entries are distinct, so a set of them has them all, in order.
use Rattle.std.proofs.Common.{◌≡◌, ℕ, zero, suc, ◌+◌, Bool, false, ◌||◌, List, [], ◌∷◌, ◌++◌, length, take, slice_get, Some, if◌then◌else◌, refl, sym, subst, ap, ◌∙◌, arith, add-one}
use Rattle.std.specs.List.{list_any, IsDistinct, AllByRecursion}
use Rattle.indexmap.specs.IndexSet.{insert_key}
use Rattle.values.specs.Keyed.{AreDistinct}
use Rattle.leaves.specs.Leaves.{same_key}
use Rattle.values.specs.Shape.{zip}
use Rattle.values.specs.View.{FrozenTree}
use Rattle.values.specs.Visits.{keys_of, keys_as_values, values_of}
use Rattle.keys.specs.declared.key.Key.{Key}
use Rattle.values.specs.declared.value.Value.{Value}
use Rattle.values.specs.declared.value.Value.TheVariants as value
use Rattle.keys.specs.contracts.key.KeyPartialEq.TheImpl.{eq-value}
use Rattle.keys.specs.contracts.key.KeyEq.TheImpl.Laws.{laws-law}
use Rattle.values.proofs.SeeLemmas.{agree}

all_at : (P : Key → Type 0) (ks : List Key) (i : ℕ) (k : Key) → AllByRecursion P ks → slice_get ks i ≡ Some k → P k
all_at P [] i k a p = absurd (cc)
all_at P (x ∷ ks) zero k a p = let e : x ≡ k = cc in subst P e a.0
all_at P (x ∷ ks) (suc i) k a p = all_at P ks i k a.1 p

fresh : (ks : List Key) (i : ℕ) (k : Key) → IsDistinct eq-value.it ks → slice_get ks i ≡ Some k → list_any (eq-value.it k) (take i ks) ≡ false
unfolding IsDistinct
fresh [] i k d p = absurd (cc)
fresh (x ∷ ks) zero k d p = refl
fresh (x ∷ ks) (suc i) k d p =
    let here = laws-law.symm k x ∙ all_at (λ y. eq-value.it x y ≡ false) ks i k d.0 p in
    λ j. here j || fresh ks i k d.1 p j

take-one : (ks : List Key) (i : ℕ) (k : Key) → slice_get ks i ≡ Some k → take i ks ++ k ∷ [] ≡ take (suc i) ks
take-one [] i k p = absurd (cc)
take-one (x ∷ ks) zero k p = let e : k ≡ x = cc in ap (λ y. y ∷ []) e
take-one (x ∷ ks) (suc i) k p = ap (λ l. x ∷ l) (take-one ks i k p)

pub keys-next : (ks : List Key) (i : ℕ) (k : Key) → IsDistinct eq-value.it ks → slice_get ks i ≡ Some k → insert_key eq-value.it (take i ks) k ≡ take (i + 1) ks
keys-next ks i k d p =
    ap (λ b. if b then take i ks else take i ks ++ k ∷ []) (fresh ks i k d p) ∙ take-one ks i k p ∙ ap (λ n. take n ks) (sym (add-one i))

pub key_at-entry : (es : List (Key × Value)) (i : ℕ) (k : Key) (v : Value) → slice_get es i ≡ Some (k, v) → slice_get (keys_of es) i ≡ Some k
key_at-entry [] i k v p = absurd (cc)
key_at-entry (e ∷ es) zero k v p = let q : e ≡ (k, v) = cc in ap (λ x. Some x.0) q
key_at-entry (e ∷ es) (suc i) k v p = key_at-entry es i k v p

-- the key and the value at a place, as values
pub key_value_of_entry : (es : List (Key × Value)) (i : ℕ) (k : Key) (v : Value) → slice_get es i ≡ Some (k, v) → slice_get (keys_as_values es) i ≡ Some (value.Key k)
key_value_of_entry [] i k v p = absurd (cc)
key_value_of_entry (e ∷ es) zero k v p = let q : e ≡ (k, v) = cc in ap (λ x. Some (value.Key x.0)) q
key_value_of_entry (e ∷ es) (suc i) k v p = key_value_of_entry es i k v p

pub value_of_entry : (es : List (Key × Value)) (i : ℕ) (k : Key) (v : Value) → slice_get es i ≡ Some (k, v) → slice_get (values_of es) i ≡ Some v
value_of_entry [] i k v p = absurd (cc)
value_of_entry (e ∷ es) zero k v p = let q : e ≡ (k, v) = cc in ap (λ x. Some x.1) q
value_of_entry (e ∷ es) (suc i) k v p = value_of_entry es i k v p

pub length-keys_of : (es : List (Key × Value)) → length (keys_of es) ≡ length es
length-keys_of [] = refl
length-keys_of (e ∷ es) = omega (arith, length-keys_of es)

-- ---- distinct by the derived test, and by that of the definitions

pub distinct-derived : (ks : List Key) → IsDistinct eq-value.it ks → AreDistinct ks
distinct-derived ks d = subst (λ (f : Key → Key → Bool). IsDistinct f ks) (λ i x k. agree x k i) d

pub derived-distinct : (ks : List Key) → AreDistinct ks → IsDistinct eq-value.it ks
derived-distinct ks d = subst (λ (f : Key → Key → Bool). IsDistinct f ks) (sym (λ i x k. agree x k i)) d

-- the keys that have a value

all-zip : (P : Key → Type 0) (ks : List Key) (ts : List FrozenTree) → AllByRecursion P ks → AllByRecursion P (keys_of (zip ks ts))
all-zip P [] ts a = tt
all-zip P (k ∷ ks) [] a = tt
all-zip P (k ∷ ks) (t ∷ ts) a = (a.0, all-zip P ks ts a.1)

pub distinct-zip : (ks : List Key) (ts : List FrozenTree) → AreDistinct ks → AreDistinct (keys_of (zip ks ts))
unfolding IsDistinct
distinct-zip [] ts d = tt
distinct-zip (k ∷ ks) [] d = tt
distinct-zip (k ∷ ks) (t ∷ ts) d = (all-zip (λ y. same_key k y ≡ false) ks ts d.0, distinct-zip ks ts d.1)
