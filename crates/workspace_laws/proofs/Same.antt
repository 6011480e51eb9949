-- The test tells when two depsets are the same tree.
use Rattle.std.proofs.Common.{◌≡◌, true, false, ◌&&◌, List, Decides, refl, sym, subst, true≢false}
use Rattle.std.specs.Cmp.Lexicographic.{pointwise}
use Rattle.std.specs.Str.{bytes_eq}
use Rattle.std.proofs.lemmas.Bool.Decides.{Decides-int_eq}
use Rattle.std.proofs.lemmas.Slice.Eq.{bytes_eq-Decides, slice_eq-Decides}
use Rattle.depsets.specs.Alike.{id_own, id_same, element_own}
use Rattle.depsets.specs.Elements.{same_element}
use Rattle.depsets.specs.Listed.{same_id}
use Rattle.depsets.specs.Own.{Own}
use Rattle.depsets.specs.Rose.{Roses, node, none, more}
use Rattle.depsets.specs.declared.depset.Order.{Order}
use Rattle.depsets.specs.declared.depset.Order.TheVariants.{Default, Postorder, Preorder}
use Rattle.depsets.specs.declared.element.Element.{Element}
use Rattle.depsets.specs.declared.element.Element.TheVariants.{Text, Number, Truth, Label, File}
use Rattle.edges.proofs.Tests.{both_and, and_both}
use Rattle.one_tree.specs.Found.{Set}
use Rattle.workspace_laws.specs.Same.{same_order, same_own, same_set, same_sets}

never : {P : Type 0} → false ≡ true → P
never e = absurd (true≢false (sym e))

order_same : (a b : Order) → same_order a b ≡ true → a ≡ b
order_same Default Default h = refl
order_same Default Postorder h = never h
order_same Default Preorder h = never h
order_same Postorder Default h = never h
order_same Postorder Postorder h = refl
order_same Postorder Preorder h = never h
order_same Preorder Default h = never h
order_same Preorder Postorder h = never h
order_same Preorder Preorder h = refl

order_own : (a : Order) → same_order a a ≡ true
order_own Default = refl
order_own Postorder = refl
order_own Preorder = refl

element_same : (a b : Element) → same_element a b ≡ true → a ≡ b
element_same (Text a) (Text b) h = let e = (bytes_eq-Decides a b).0 h in λ i. Text (e i)
element_same (Number a) (Number b) h = let e = (Decides-int_eq a b).0 h in λ i. Number (e i)
element_same (Truth true) (Truth true) h = refl
element_same (Truth true) (Truth false) h = never h
element_same (Truth false) (Truth true) h = never h
element_same (Truth false) (Truth false) h = refl
element_same (Label a) (Label b) h = let e = (bytes_eq-Decides a b).0 h in λ i. Label (e i)
element_same (File a) (File b) h =
    let parts = both_and (bytes_eq a.path b.path) (bytes_eq a.owner b.owner) h in
    let p = (bytes_eq-Decides a.path b.path).0 parts.0 in
    let q = (bytes_eq-Decides a.owner b.owner).0 parts.1 in
    λ i. File (record { path = p i; owner = q i })
element_same (Text a) (Number b) h = never h
element_same (Text a) (Truth b) h = never h
element_same (Text a) (Label b) h = never h
element_same (Text a) (File b) h = never h
element_same (Number a) (Text b) h = never h
element_same (Number a) (Truth b) h = never h
element_same (Number a) (Label b) h = never h
element_same (Number a) (File b) h = never h
element_same (Truth a) (Text b) h = never h
element_same (Truth a) (Number b) h = never h
element_same (Truth a) (Label b) h = never h
element_same (Truth a) (File b) h = never h
element_same (Label a) (Text b) h = never h
element_same (Label a) (Number b) h = never h
element_same (Label a) (Truth b) h = never h
element_same (Label a) (File b) h = never h
element_same (File a) (Text b) h = never h
element_same (File a) (Number b) h = never h
element_same (File a) (Truth b) h = never h
element_same (File a) (Label b) h = never h

element_decides : (a b : Element) → Decides (same_element a b) (a ≡ b)
element_decides a b = (element_same a b, λ e. subst (λ c. same_element a c ≡ true) e (element_own a))

elements_decide : (a b : List Element) → Decides (pointwise same_element a b) (a ≡ b)
elements_decide a b = slice_eq-Decides element_decides a b (pointwise same_element a b) refl

own_same : (a b : Own) → same_own a b ≡ true → a ≡ b
own_same a b h =
    let whole = both_and (same_id a.id b.id) (same_order a.order b.order && pointwise same_element a.direct b.direct) h in
    let rest = both_and (same_order a.order b.order) (pointwise same_element a.direct b.direct) whole.1 in
    let p = id_same a.id b.id whole.0 in
    let q = order_same a.order b.order rest.0 in
    let r = (elements_decide a.direct b.direct).0 rest.1 in
    λ i. record { id = p i; order = q i; direct = r i }

own_own : (a : Own) → same_own a a ≡ true
own_own a =
    and_both (same_id a.id a.id) (same_order a.order a.order && pointwise same_element a.direct a.direct) (id_own a.id)
    (and_both (same_order a.order a.order) (pointwise same_element a.direct a.direct) (order_own a.order)
    ((elements_decide a.direct a.direct).1 refl))

mutual
  set_same : (a b : Set) → same_set a b ≡ true → a ≡ b
  set_same (node x ts) (node y us) h =
      let parts = both_and (same_own x y) (same_sets ts us) h in
      let p = own_same x y parts.0 in
      let q = sets_same ts us parts.1 in
      λ i. node (p i) (q i)

  sets_same : (a b : Roses Own) → same_sets a b ≡ true → a ≡ b
  sets_same none none h = refl
  sets_same none (more u us) h = never h
  sets_same (more t ts) none h = never h
  sets_same (more t ts) (more u us) h =
      let parts = both_and (same_set t u) (same_sets ts us) h in
      let p = set_same t u parts.0 in
      let q = sets_same ts us parts.1 in
      λ i. more (p i) (q i)

mutual
  set_own : (a : Set) → same_set a a ≡ true
  set_own (node x ts) = and_both (same_own x x) (same_sets ts ts) (own_own x) (sets_own ts)

  sets_own : (a : Roses Own) → same_sets a a ≡ true
  sets_own none = refl
  sets_own (more t ts) = and_both (same_set t t) (same_sets ts ts) (set_own t) (sets_own ts)

pub set_decides : (a b : Set) → Decides (same_set a b) (a ≡ b)
set_decides a b = (set_same a b, λ e. subst (λ c. same_set a c ≡ true) e (set_own a))
