-- What stands at one depset itself, without its children. (Bazel documentation, "Depsets"; the
-- types of elements, ids and codes are this project's own; docs/PROFILE.md, "Depsets".)
use Rattle.std.specs.Prelude.{◌≡◌, ℤ, ℕ, zero, suc, Bool, List, ◌⊎◌, refl}
use Rattle.std.specs.Coded.{Coded, coded×, coded⊎, coded_ℤ, coded_ℕ, coded_bool, coded_list}
use Rattle.std.specs.Coded.{code_by}
use Rattle.std.proofs.Common.{inl, inr}
use Rattle.depsets.specs.declared.depset.Id.{Id}
use Rattle.depsets.specs.declared.element.Element.{Element}
use Rattle.depsets.specs.declared.element.Element.TheVariants.{Text, Number, Truth, Label, File}
use Rattle.depsets.specs.declared.depset.Order.{Order}
use Rattle.depsets.specs.declared.depset.Order.TheVariants.{Default, Postorder, Preorder}

-- the id, the order and the direct elements
pub record Own : Type 0 where
  pub id : Id
  pub order : Order
  pub direct : List Element

-- the id of a depset, by what stands at it
abbrev pub own_id : Own → Id
own_id o = o.id

-- its direct elements, those of its children aside
abbrev pub own_direct : Own → List Element
own_direct o = o.direct

-- an element as plain data, by which it gets a code
abbrev pub split : Element → List ℕ ⊎ (ℤ ⊎ (Bool ⊎ (List ℕ ⊎ (List ℕ × List ℕ))))
split (Text s) = inl s
split (Number n) = inr (inl n)
split (Truth b) = inr (inr (inl b))
split (Label s) = inr (inr (inr (inl s)))
split (File f) = inr (inr (inr (inr (f.path, f.owner))))

-- the element that such data is
abbrev pub join : List ℕ ⊎ (ℤ ⊎ (Bool ⊎ (List ℕ ⊎ (List ℕ × List ℕ)))) → Element
join (inl s) = Text s
join (inr (inl n)) = Number n
join (inr (inr (inl b))) = Truth b
join (inr (inr (inr (inl s)))) = Label s
join (inr (inr (inr (inr p)))) = File (record { path = p.0; owner = p.1 })

-- No element is lost: the one that comes back is the one that went.
pub join-split : (e : Element) → join (split e) ≡ e
join-split (Text s) = refl
join-split (Number n) = refl
join-split (Truth b) = refl
join-split (Label s) = refl
join-split (File f) = refl

-- A code of texts: no two have one code, as what is kept behind a count asks.
abbrev pub text_code : Coded (List ℕ)
text_code = coded_list coded_ℕ

-- the code of elements
abbrev pub element_code : Coded Element
element_code =
    code_by (List ℕ ⊎ (ℤ ⊎ (Bool ⊎ (List ℕ ⊎ (List ℕ × List ℕ)))))
    (coded⊎ text_code
    (coded⊎ coded_ℤ (coded⊎ coded_bool (coded⊎ text_code (coded× text_code text_code)))))
    split join join-split

-- the number of an order, by which it gets a code
abbrev pub order_number : Order → ℕ
order_number Default = 0
order_number Postorder = 1
order_number Preorder = 2

-- the order that has a number; each past 1 stands for preorder
abbrev pub number_order : ℕ → Order
number_order zero = Default
number_order (suc zero) = Postorder
number_order (suc (suc n)) = Preorder

-- No two orders have one number.
pub number_order-number : (o : Order) → number_order (order_number o) ≡ o
number_order-number Default = refl
number_order-number Postorder = refl
number_order-number Preorder = refl

-- the code of orders
abbrev pub order_code : Coded Order
order_code = code_by ℕ coded_ℕ order_number number_order number_order-number

-- the code of ids
abbrev pub id_code : Coded Id
id_code =
    code_by (List ℕ × ℕ) (coded× text_code coded_ℕ) (λ i. (i.owner, i.serial))
    (λ p. record { owner = p.0; serial = p.1 }) (λ _. refl)

-- the code of what stands at a depset: with it whole trees of depsets have one
abbrev pub own_code : Coded Own
own_code =
    code_by (Id × (Order × List Element))
    (coded× id_code (coded× order_code (coded_list element_code)))
    (λ o. (o.id, (o.order, o.direct)))
    (λ p. record { id = p.0; order = p.1.0; direct = p.1.1 }) (λ _. refl)
