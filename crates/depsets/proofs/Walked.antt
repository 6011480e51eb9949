-- Of a coherent depset, the walk that visits no id twice gives the listing.
use Rattle.std.proofs.Common.{◌≡◌, ◌+◌, ◌≤◌, Bool, true, false, List, [], ◌∷◌, length, nat_eq, refl, ap, arith}
use Rattle.std.proofs.lemmas.Bool.{eqb-true}
use Rattle.depsets.specs.Rose.{Rose, node, none, more, label, children}
use Rattle.depsets.specs.Own.{Own, own_id, own_direct}
use Rattle.depsets.specs.Elements.{same_element}
use Rattle.depsets.specs.Orders.{is_preorder}
use Rattle.depsets.specs.Keys.{keep_all}
use Rattle.depsets.specs.Skip.{Walk}
use Rattle.depsets.specs.Listed.{visited, walked, walked_steps, flat, same_id, IsCoherent}
use Rattle.depsets.specs.declared.depset.Id.{Id}
use Rattle.depsets.specs.declared.element.Element.{Element}
use Rattle.depsets.proofs.Skip.{items-visit}
use Rattle.depsets.specs.Alike.{id_own, id_same, element_own}

pub walked-flat : (d : Rose Own) → IsCoherent d → walked d ≡ flat d
walked-flat d coherent = items-visit own_id own_direct same_id same_element id_same id_own element_own (is_preorder (label d).order) d coherent

-- ---- a depset without children and with at most one element

single : (xs : List Element) → length xs ≤ 1 → keep_all same_element [] xs ≡ xs
single [] h = refl
single (x ∷ []) h = refl
single (x ∷ y ∷ xs) h = absurd (omega (arith, h))

abbrev start : Walk Id Element
start = record { seen = []; items = []; steps = 1 }

items_alone : (pre : Bool) (d : Rose Own) → children d ≡ [] → length (label d).direct ≤ 1 → (visited pre d start).items ≡ (label d).direct
items_alone pre (node x (more t ts)) none_below few = absurd (omega (arith, ap length none_below))
items_alone true (node x none) none_below few = single x.direct few
items_alone false (node x none) none_below few = single x.direct few

steps_alone : (pre : Bool) (d : Rose Own) → children d ≡ [] → (visited pre d start).steps ≡ 1 + length (label d).direct
steps_alone pre (node x (more t ts)) none_below = absurd (omega (arith, ap length none_below))
steps_alone true (node x none) none_below = refl
steps_alone false (node x none) none_below = refl

pub walked-alone : (d : Rose Own) → children d ≡ [] → length (label d).direct ≤ 1 → walked d ≡ (label d).direct
walked-alone d none_below few = items_alone (is_preorder (label d).order) d none_below few

pub walked_steps-alone : (d : Rose Own) → children d ≡ [] → walked_steps d ≡ 1 + length (label d).direct
walked_steps-alone d none_below = steps_alone (is_preorder (label d).order) d none_below

pub no_items : {X : Type 0} (xs : List X) → nat_eq (length xs) 0 ≡ true → xs ≡ []
no_items [] h = refl
no_items (x ∷ xs) h = absurd (omega (arith, eqb-true (length (x ∷ xs)) 0 h))
