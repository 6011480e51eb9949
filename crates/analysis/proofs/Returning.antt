-- Values that are instances of different providers.
use Rattle.std.proofs.Common.{◌≡◌, inl, inr, ◌∙◌, ◌<◌, ◌+◌, ℕ, Bool, true, false, ◌&&◌, ◌||◌, List, [], ◌∷◌, ◌++◌, Option, Some, None, length, take, drop, get_or, ap, sym, refl, cond, true≢false}
use Rattle.std.proofs.lemmas.Cmp.{nat_eq_equiv}
use Rattle.std.specs.Cmp.{unsigned_ties}
use Rattle.analysis.proofs.Keyed.{both_at}
use Rattle.std.proofs.lemmas.List.{drop_more, take-append-drop}
use Rattle.std.proofs.lemmas.List.Folds.{list_any-append}
use Rattle.std.specs.Prelude.{not, nat_eq}
use Rattle.std.specs.BTreeMap.{is_at}
use Rattle.std.specs.BTreeSet.{BTreeSet, Updates, contains}
use Rattle.std.specs.List.{list_any}
use Rattle.std.specs.Ordering.{nat_cmp}
use Rattle.leaves.specs.Leaves.{same_maker, same_provider}
use Rattle.values.specs.View.{FrozenTree}
use Rattle.leaves.specs.declared.leaf.MadeId.{MadeId}
use Rattle.leaves.specs.declared.leaf.Provider.{Provider}
use Rattle.targets.specs.Checks.{provider_of, is_of, offers}
use Rattle.targets.specs.Steps.{is_new_instance, are_instances}
use Rattle.targets.proofs.Facts.{cases_of, both, neither}
use Rattle.analysis.specs.Returned.{numbers, made_numbers, pair_cmp, numbers_cmp, HaveNumbers, AreReturned}

-- ---- the test of providers

same_turned : (p q : Provider) → same_provider p q ≡ same_provider q p
same_turned p q = turned p.id q.id
  where
    turned : (a b : Option MadeId) → same_maker a b ≡ same_maker b a
    turned None None = refl
    turned None (Some b) = refl
    turned (Some a) None = refl
    turned (Some a) (Some b) = λ i. nat_eq_equiv.symm a.«module» b.«module» i && nat_eq_equiv.symm a.number b.number i

offers_last : (ts : List FrozenTree) (t : FrozenTree) (p r : Provider) → provider_of t ≡ Some p → offers (ts ++ t ∷ []) r ≡ (offers ts r || (same_provider r p || false))
offers_last ts t p r is =
    list_any-append (λ x. is_of r (provider_of x)) ts (t ∷ []) ∙ ap (λ o. offers ts r || (is_of r o || false)) is

offers_within : (ts us : List FrozenTree) (t : FrozenTree) (p r : Provider) → provider_of t ≡ Some p → same_provider r p ≡ true → offers (ts ++ t ∷ us) r ≡ true
offers_within ts us t p r is same =
    list_any-append (λ x. is_of r (provider_of x)) ts (t ∷ us)
    ∙ ap (λ o. offers ts r || (is_of r o || offers us r)) is ∙ ap (λ b. offers ts r || (b || offers us r)) same ∙ or_true (offers ts r)
  where
    or_true : (a : Bool) → (a || true) ≡ true
    or_true true = refl
    or_true false = refl

-- ---- one value more

and_false : (a b : Bool) → b ≡ false → (a && b) ≡ false
and_false true b h = h
and_false false b h = refl

-- what is no instance is none among others
pub no_instance : (ts us : List FrozenTree) (t : FrozenTree) → provider_of t ≡ None → are_instances (ts ++ t ∷ us) ≡ false
no_instance [] us t is = ap (λ o. is_new_instance us o && are_instances us) is
no_instance (x ∷ ts) us t is = and_false (is_new_instance (ts ++ t ∷ us) (provider_of x)) (are_instances (ts ++ t ∷ us)) (no_instance ts us t is)

-- nor is an instance of a provider that one before it has
pub no_new : (ts us : List FrozenTree) (t : FrozenTree) (p : Provider) → provider_of t ≡ Some p → offers ts p ≡ true → are_instances (ts ++ t ∷ us) ≡ false
no_new [] us t p is h = absurd (true≢false (sym h))
no_new (x ∷ ts) us t p is h = at (provider_of x) h (no_new ts us t p is)
  where
    rest : List FrozenTree
    rest = ts ++ t ∷ us

    at : (o : Option Provider) → (is_of p o || offers ts p) ≡ true → (offers ts p ≡ true → are_instances rest ≡ false) → (is_new_instance rest o && are_instances rest) ≡ false
    at None h k = refl
    at (Some q) h k = elim (cases_of (same_provider p q)) [
      | inl same ↦ ap (λ b. not b && are_instances rest) (offers_within ts us t p q is (same_turned q p ∙ same))
      | inr not' ↦ and_false (not (offers rest q)) (are_instances rest) (k (sym (ap (λ b. b || offers ts p) not') ∙ h))
    ]

-- one of a new provider is
pub new_last : (ts : List FrozenTree) (t : FrozenTree) (p : Provider) → provider_of t ≡ Some p → are_instances ts ≡ true → offers ts p ≡ false → are_instances (ts ++ t ∷ []) ≡ true
new_last [] t p is are h = ap (λ o. is_new_instance [] o && true) is
new_last (x ∷ ts) t p is are h = at (provider_of x) (both (is_new_instance ts (provider_of x)) (are_instances ts) are) (neither (is_of p (provider_of x)) (offers ts p) h) (new_last ts t p is)
  where
    at : (o : Option Provider) → (is_new_instance ts o ≡ true) × (are_instances ts ≡ true) → (is_of p o ≡ false) × (offers ts p ≡ false)
        → (are_instances ts ≡ true → offers ts p ≡ false → are_instances (ts ++ t ∷ []) ≡ true) → (is_new_instance (ts ++ t ∷ []) o && are_instances (ts ++ t ∷ [])) ≡ true
    at None a n k = absurd (true≢false (sym a.0))
    at (Some q) a n k =
        (λ i. not (offers_last ts t p q is i) && k a.1 n.1 i)
        ∙ ap (λ b. not (offers ts q || (b || false)) && true) (same_turned q p ∙ n.0)
        ∙ last (offers ts q) a.0
      where
        last : (b : Bool) → not b ≡ true → (not (b || (false || false)) && true) ≡ true
        last true e = absurd (true≢false (sym e))
        last false e = refl

-- ---- the set of numbers

at_number : (x y : ℕ) → is_at (nat_cmp x) y ≡ nat_eq y x
at_number x y = sym (unsigned_ties x y) ∙ nat_eq_equiv.symm x y

pair_at : (a b : ℕ × ℕ) → is_at (pair_cmp a) b ≡ (nat_eq b.0 a.0 && nat_eq b.1 a.1)
pair_at a b = both_at (nat_cmp a.0 b.0) (nat_cmp a.1 b.1) ∙ (λ i. at_number a.0 b.0 i && at_number a.1 b.1 i)

numbers_at : (p r : Provider) → is_at (numbers_cmp (numbers p)) (numbers r) ≡ same_provider r p
numbers_at p r = of p.id r.id
  where
    of : (a b : Option MadeId) → is_at (numbers_cmp (made_numbers a)) (made_numbers b) ≡ same_maker b a
    of None None = refl
    of None (Some b) = refl
    of (Some a) None = refl
    of (Some a) (Some b) = pair_at (a.«module», a.number) (b.«module», b.number)

either : (s a : Bool) → cond s true a ≡ (a || (s || false))
either true true = refl
either true false = refl
either false true = refl
either false false = refl

pub numbered_none : (seen : BTreeSet (Option (ℕ × ℕ))) → seen.keys ≡ [] → HaveNumbers [] seen
numbered_none seen none = λ p. ap (list_any (is_at (numbers_cmp (numbers p)))) none

pub numbered_last : (ts : List FrozenTree) (olds news : BTreeSet (Option (ℕ × ℕ))) (t : FrozenTree) (p : Provider) → provider_of t ≡ Some p → HaveNumbers ts olds
    → Updates numbers_cmp olds news (numbers p) true → HaveNumbers (ts ++ t ∷ []) news
numbered_last ts olds news t p is h more = λ r.
    more.0 (numbers r) ∙ (λ i. cond (numbers_at p r i) true (h r i)) ∙ either (same_provider r p) (offers ts r) ∙ sym (offers_last ts t p r is)

pub numbered_still : (ts : List FrozenTree) (seen : BTreeSet (Option (ℕ × ℕ))) (t : FrozenTree) → provider_of t ≡ None → HaveNumbers ts seen → HaveNumbers (ts ++ t ∷ []) seen
numbered_still ts seen t is h = λ r.
    h r ∙ or_false (offers ts r) ∙ sym (list_any-append (λ x. is_of r (provider_of x)) ts (t ∷ []) ∙ ap (λ o. offers ts r || (is_of r o || false)) is)
  where
    or_false : (a : Bool) → a ≡ (a || false)
    or_false true = refl
    or_false false = refl

pub returned_none : (seen : BTreeSet (Option (ℕ × ℕ))) → seen.keys ≡ [] → AreReturned [] seen
returned_none seen none = record { instances = refl; numbered = numbered_none seen none }

pub returned_last : (ts : List FrozenTree) (olds news : BTreeSet (Option (ℕ × ℕ))) (t : FrozenTree) (p : Provider) → provider_of t ≡ Some p → AreReturned ts olds
    → contains numbers_cmp olds (numbers p) ≡ false → Updates numbers_cmp olds news (numbers p) true → AreReturned (ts ++ t ∷ []) news
returned_last ts olds news t p is h fresh more = record {
  instances = new_last ts t p is h.instances (sym (h.numbered p) ∙ fresh);
  numbered = numbered_last ts olds news t p is h.numbered more;
}

pub returned_again : (ts us : List FrozenTree) (olds : BTreeSet (Option (ℕ × ℕ))) (t : FrozenTree) (p : Provider) → provider_of t ≡ Some p → AreReturned ts olds
    → contains numbers_cmp olds (numbers p) ≡ true → are_instances (ts ++ t ∷ us) ≡ false
returned_again ts us olds t p is h had = no_new ts us t p is (sym (h.numbered p) ∙ had)

-- a list with the value at a place
pub split_at : (ts : List FrozenTree) (i : ℕ) (d : FrozenTree) → i < length ts → ts ≡ take i ts ++ get_or ts i d ∷ drop (i + 1) ts
split_at ts i d lt = sym (take-append-drop i ts) ∙ ap (λ (us : List FrozenTree). take i ts ++ us) (drop_more ts i d lt)
