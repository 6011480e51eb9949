-- Texts that are put in order one by one: they ascend, and none is lost.
use Rattle.std.proofs.Common.{◌≡◌, ◌∙◌, ◌⊎◌, inl, inr, ℕ, zero, suc, List, [], ◌∷◌, Contains, refl, sym, ap, subst, arith}
use Rattle.std.specs.BTreeSet.{insert_key}
use Rattle.std.specs.Cmp.Lexicographic.{slice_cmp}
use Rattle.std.specs.Ordering.{nat_cmp, ordering_reverse, match_ordering}
use Rattle.std.specs.declared.cmp.Ordering.{Ordering}
use Rattle.std.specs.declared.cmp.Ordering.TheVariants.{Less, Equal, Greater}
use Rattle.std.proofs.lemmas.Cmp.{nat_list_cmp_total}
use Rattle.std.proofs.lemmas.Map.Lookups.{exact_bytes}
use Rattle.actions.specs.Ascending.{Each, AreAscending}
use Rattle.actions.proofs.Ascending.{Climbs, climbing_same, head_in, tail_in}
use Rattle.claims.specs.Telling.{in_text_order}

abbrev Text : Type 0
Text = List ℕ

abbrev cmp : Text → Text → Ordering
cmp = slice_cmp nat_cmp

abbrev put : List Text → Text → List Text
put ks k = insert_key cmp ks k

back : (x k : Text) → cmp k x ≡ Greater → cmp x k ≡ Less
back x k e = nat_list_cmp_total.antisymm x k ∙ ap ordering_reverse e

module _ (P : Text → Type 0) where
  each_at : (k x : Text) (xs ys : List Text) (r : Ordering) → P k → P x → Each P xs → Each P ys → Each P (match_ordering r (k ∷ x ∷ xs) (x ∷ xs) (x ∷ ys))
  each_at k x xs ys Less a b h g = (a, (b, h))
  each_at k x xs ys Equal a b h g = (b, h)
  each_at k x xs ys Greater a b h g = (b, g)

  each_put : (ks : List Text) (k : Text) → Each P ks → P k → Each P (put ks k)
  each_put [] k h a = (a, tt)
  each_put (x ∷ xs) k h a = each_at k x xs (put xs k) (cmp k x) a h.0 h.1 (each_put xs k h.1 a)

each_less : (k x : Text) → cmp k x ≡ Less → (xs : List Text) → Each (λ y. cmp x y ≡ Less) xs → Each (λ y. cmp k y ≡ Less) xs
each_less k x e [] h = tt
each_less k x e (y ∷ ys) h = (nat_list_cmp_total.trans k x y e h.0, each_less k x e ys h.1)

ascend_at : (k x : Text) (xs ys : List Text) (r : Ordering) → cmp k x ≡ r → Each (λ y. cmp x y ≡ Less) xs → AreAscending xs
    → (cmp x k ≡ Less → Each (λ y. cmp x y ≡ Less) ys) → AreAscending ys → AreAscending (match_ordering r (k ∷ x ∷ xs) (x ∷ xs) (x ∷ ys))
ascend_at k x xs ys Less e a h f g = ((e, each_less k x e xs a), (a, h))
ascend_at k x xs ys Equal e a h f g = (a, h)
ascend_at k x xs ys Greater e a h f g = (f (back x k e), g)

ascend_put : (ks : List Text) (k : Text) → AreAscending ks → AreAscending (put ks k)
ascend_put [] k h = (tt, tt)
ascend_put (x ∷ xs) k h =
    ascend_at k x xs (put xs k) (cmp k x) refl h.0 h.1 (λ l. each_put (λ y. cmp x y ≡ Less) xs k h.0 l) (ascend_put xs k h.1)

pub order_ascends : (xs : List Text) → AreAscending (in_text_order xs)
order_ascends [] = tt
order_ascends (x ∷ xs) = ascend_put (in_text_order xs) x (order_ascends xs)

has_at : (k x : Text) (xs ys : List Text) (r : Ordering) → cmp k x ≡ r → Contains ys k → Contains (match_ordering r (k ∷ x ∷ xs) (x ∷ xs) (x ∷ ys)) k
has_at k x xs ys Less e h = head_in k (x ∷ xs)
has_at k x xs ys Equal e h = (0, omega arith, sym (exact_bytes k x e))
has_at k x xs ys Greater e h = tail_in x ys k h

has_put : (ks : List Text) (k : Text) → Contains (put ks k) k
has_put [] k = head_in k []
has_put (x ∷ xs) k = has_at k x xs (put xs k) (cmp k x) refl (has_put xs k)

in_split : (x : Text) (xs : List Text) (z : Text) → Contains (x ∷ xs) z → (x ≡ z) ⊎ Contains xs z
in_split x xs z (zero, low, is) = inl is
in_split x xs z (suc k, low, is) = inr (k, omega (arith, low), is)

in_head : (x : Text) (xs : List Text) (z : Text) → x ≡ z → Contains (x ∷ xs) z
in_head x xs z e = (0, omega arith, e)

keeps_at : (k x z : Text) (xs ys : List Text) (r : Ordering) → Contains (x ∷ xs) z → (Contains xs z → Contains ys z)
    → Contains (match_ordering r (k ∷ x ∷ xs) (x ∷ xs) (x ∷ ys)) z
keeps_at k x z xs ys Less h f = tail_in k (x ∷ xs) z h
keeps_at k x z xs ys Equal h f = h
keeps_at k x z xs ys Greater h f = elim (in_split x xs z h) [
  | inl e ↦ in_head x ys z e
  | inr later ↦ tail_in x ys z (f later)
]

no_text : (z : Text) → Contains [] z → ⊥
no_text z (k, low, is) = absurd (omega (arith, low))

keeps_put : (ks : List Text) (k z : Text) → Contains ks z → Contains (put ks k) z
keeps_put [] k z h = absurd (no_text z h)
keeps_put (x ∷ xs) k z h = keeps_at k x z xs (put xs k) (cmp k x) h (keeps_put xs k z)

pub order_keeps : (xs : List Text) (z : Text) → Contains xs z → Contains (in_text_order xs) z
order_keeps [] z h = h
order_keeps (x ∷ xs) z h = elim (in_split x xs z h) [
  | inl e ↦ subst (Contains (put (in_text_order xs) x)) e (has_put (in_text_order xs) x)
  | inr later ↦ keeps_put (in_text_order xs) x z (order_keeps xs z later)
]

from_at : (k x z : Text) (xs ys : List Text) (r : Ordering) → Contains (match_ordering r (k ∷ x ∷ xs) (x ∷ xs) (x ∷ ys)) z
    → (Contains ys z → (k ≡ z) ⊎ Contains xs z) → (k ≡ z) ⊎ Contains (x ∷ xs) z
from_at k x z xs ys Less h f = in_split k (x ∷ xs) z h
from_at k x z xs ys Equal h f = inr h
from_at k x z xs ys Greater h f = elim (in_split x ys z h) [
  | inl e ↦ inr (in_head x xs z e)
  | inr later ↦ elim (f later) [
    | inl e ↦ inl e
    | inr g ↦ inr (tail_in x xs z g)
  ]
]

from_put : (ks : List Text) (k z : Text) → Contains (put ks k) z → (k ≡ z) ⊎ Contains ks z
from_put [] k z h = in_split k [] z h
from_put (x ∷ xs) k z h = from_at k x z xs (put xs k) (cmp k x) h (from_put xs k z)

pub order_from : (xs : List Text) (z : Text) → Contains (in_text_order xs) z → Contains xs z
order_from [] z h = h
order_from (x ∷ xs) z h = elim (from_put (in_text_order xs) x z h) [
  | inl e ↦ in_head x xs z e
  | inr later ↦ tail_in x xs z (order_from xs z later)
]

climbs : (xs : List Text) → AreAscending xs → Climbs cmp xs
climbs [] h = tt
climbs (x ∷ xs) h = (h.0, climbs xs h.1)

-- texts that ascend, and of which others have the same, are these put in order
pub order_is : (xs ys : List Text) → AreAscending xs → ((z : Text) → Contains xs z → Contains ys z) → ((z : Text) → Contains ys z → Contains xs z) → xs ≡ in_text_order ys
order_is xs ys up f g =
    climbing_same nat_list_cmp_total xs (in_text_order ys) (climbs xs up) (climbs (in_text_order ys) (order_ascends ys))
    (λ z h. order_keeps ys z (f z h)) (λ z h. g z (order_from ys z h))
