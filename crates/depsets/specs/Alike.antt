-- The tests on ids and on elements are equality, so equal ones have one digest. (This project's
-- own.)
use Rattle.std.specs.Prelude.{◌≡◌, ℕ, Bool, true, false, ◌&&◌, List, nat_eq, refl}
use Rattle.std.proofs.Common.{true≢false, sym, ap, subst}
use Rattle.std.specs.Bool.{Decides}
use Rattle.std.specs.Cmp.{IsEquivalence, decided, signed_Decides, unsigned_Decides, first_so}
use Rattle.std.specs.Cmp.{second_so}
use Rattle.std.specs.Hash as fed
use Rattle.std.specs.Str.{bytes_eq}
use Rattle.std.proofs.lemmas.Slice.Eq.{bytes_eq-Decides}
use Rattle.depsets.specs.Listed.{same_id}
use Rattle.depsets.specs.Elements.{same_element}
use Rattle.depsets.specs.Digests.{id_digest, element_digest}
use Rattle.depsets.specs.declared.depset.Id.{Id}
use Rattle.depsets.specs.declared.element.Element.{Element}
use Rattle.depsets.specs.declared.element.Element.TheVariants.{Text, Number, Truth, Label, File}
use Rattle.depsets.specs.declared.element.FileRef.{FileRef}

-- two tests that both pass pass as one
both : (a b : Bool) → a ≡ true → b ≡ true → (a && b) ≡ true
both a b p q = subst (λ c. (c && b) ≡ true) (sym p) q

-- a text has the bytes of itself
text_own : (s : List ℕ) → bytes_eq s s ≡ true
text_own s = (bytes_eq-Decides s s).1 refl

-- Ids that the test calls the same are equal.
pub id_same : (a b : Id) → same_id a b ≡ true → a ≡ b
id_same a b h =
    let p = (bytes_eq-Decides a.owner b.owner).0
    (first_so (bytes_eq a.owner b.owner) (nat_eq a.serial b.serial) h) in
    let q = (unsigned_Decides a.serial b.serial).0
    (second_so (bytes_eq a.owner b.owner) (nat_eq a.serial b.serial) h) in
    λ k. record { owner = p k; serial = q k }

-- The test calls each id the same as itself.
pub id_own : (a : Id) → same_id a a ≡ true
id_own a = both _ _ (text_own a.owner) ((unsigned_Decides a.serial a.serial).1 refl)

-- Files with one path and one owner are equal.
file_same : (a b : FileRef) → (bytes_eq a.path b.path && bytes_eq a.owner b.owner) ≡ true → a ≡ b
file_same a b h =
    let p = (bytes_eq-Decides a.path b.path).0
    (first_so (bytes_eq a.path b.path) (bytes_eq a.owner b.owner) h) in
    let q = (bytes_eq-Decides a.owner b.owner).0
    (second_so (bytes_eq a.path b.path) (bytes_eq a.owner b.owner) h) in
    λ k. record { path = p k; owner = q k }

-- The test calls each element the same as itself.
pub element_own : (e : Element) → same_element e e ≡ true
element_own (Text s) = text_own s
element_own (Number n) = (signed_Decides n n).1 refl
element_own (Truth true) = refl
element_own (Truth false) = refl
element_own (Label s) = text_own s
element_own (File f) = both _ _ (text_own f.path) (text_own f.owner)

-- Elements that the test calls the same are equal: those of two types never are the same.
element_same : (a b : Element) → same_element a b ≡ true → a ≡ b
element_same (Text a) (Text b) h = ap Text ((bytes_eq-Decides a b).0 h)
element_same (Text a) (Number b) h = absurd (true≢false (sym h))
element_same (Text a) (Truth b) h = absurd (true≢false (sym h))
element_same (Text a) (Label b) h = absurd (true≢false (sym h))
element_same (Text a) (File b) h = absurd (true≢false (sym h))
element_same (Number a) (Text b) h = absurd (true≢false (sym h))
element_same (Number a) (Number b) h = ap Number ((signed_Decides a b).0 h)
element_same (Number a) (Truth b) h = absurd (true≢false (sym h))
element_same (Number a) (Label b) h = absurd (true≢false (sym h))
element_same (Number a) (File b) h = absurd (true≢false (sym h))
element_same (Truth a) (Text b) h = absurd (true≢false (sym h))
element_same (Truth a) (Number b) h = absurd (true≢false (sym h))
element_same (Truth true) (Truth true) h = refl
element_same (Truth false) (Truth false) h = refl
element_same (Truth true) (Truth false) h = absurd (true≢false (sym h))
element_same (Truth false) (Truth true) h = absurd (true≢false (sym h))
element_same (Truth a) (Label b) h = absurd (true≢false (sym h))
element_same (Truth a) (File b) h = absurd (true≢false (sym h))
element_same (Label a) (Text b) h = absurd (true≢false (sym h))
element_same (Label a) (Number b) h = absurd (true≢false (sym h))
element_same (Label a) (Truth b) h = absurd (true≢false (sym h))
element_same (Label a) (Label b) h = ap Label ((bytes_eq-Decides a b).0 h)
element_same (Label a) (File b) h = absurd (true≢false (sym h))
element_same (File a) (Text b) h = absurd (true≢false (sym h))
element_same (File a) (Number b) h = absurd (true≢false (sym h))
element_same (File a) (Truth b) h = absurd (true≢false (sym h))
element_same (File a) (Label b) h = absurd (true≢false (sym h))
element_same (File a) (File b) h = ap File (file_same a b h)

-- The test on ids says that they are the same exactly where they are equal.
pub ids_decided : (a b : Id) → Decides (same_id a b) (a ≡ b)
ids_decided a b = (id_same a b, λ e. subst (λ c. same_id a c ≡ true) e (id_own a))

-- The test on elements says that they are the same exactly where they are equal.
pub elements_decided : (a b : Element) → Decides (same_element a b) (a ≡ b)
elements_decided a b =
    (element_same a b, λ e. subst (λ c. same_element a c ≡ true) e (element_own a))

-- The test on ids is an equivalence, as `Eq` asks.
pub id_laws : IsEquivalence same_id
id_laws = decided same_id ids_decided

-- Ids that are the same feed a hasher alike, as `Hash` asks: so a listing that looks up the one
-- finds the other.
pub ids_alike : (a b : Id) → same_id a b ≡ true → fed.u64 (id_digest a) ≡ fed.u64 (id_digest b)
ids_alike a b h = ap (λ (i : Id). fed.u64 (id_digest i)) (id_same a b h)

-- The test on elements is an equivalence, as `Eq` asks.
pub element_laws : IsEquivalence same_element
element_laws = decided same_element elements_decided

-- Elements that are the same feed a hasher alike, as `Hash` asks.
pub elements_alike : (a b : Element) → same_element a b ≡ true
    → fed.u64 (element_digest a) ≡ fed.u64 (element_digest b)
elements_alike a b h = ap (λ (e : Element). fed.u64 (element_digest e)) (element_same a b h)
