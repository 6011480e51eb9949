-- One turn of each loop of the walker.
use Rattle.std.proofs.Common.{◌≡◌, ℕ, ◌+◌, ◌≤◌, suc, Bool, List, ◌∷◌, length, drop, slice_get, Some, cond, sym, ap, ◌∙◌, arith, add-one, drop_of_length-le}
use Rattle.std.proofs.Math.Seq.{drop-cons}
use Rattle.std.proofs.lemmas.Option.{slice_get_within, get_or_from_slice_get}
use Rattle.depsets.specs.Rose.{Rose, label, node, roses-rose_list}
use Rattle.depsets.specs.Own.{Own, own_id, own_direct}
use Rattle.depsets.specs.Keys.{has, keep, keep_all}
use Rattle.depsets.specs.Skip.{Walk, visits}
use Rattle.depsets.specs.Listed.{took, visited, visited_all, inside, same_id}
use Rattle.depsets.specs.Elements.{same_element}
use Rattle.depsets.specs.declared.depset.Id.{Id}
use Rattle.depsets.specs.declared.element.Element.{Element}

pub drop_at : {X : Type 0} (xs : List X) (i : ℕ) (x : X) → slice_get xs i ≡ Some x → drop i xs ≡ x ∷ drop (i + 1) xs
drop_at xs i x h =
    drop-cons xs i x (slice_get_within xs i x h) ∙ ap (λ y. y ∷ drop (suc i) xs) (get_or_from_slice_get xs i x x h)
    ∙ ap (λ n. x ∷ drop n xs) (sym (add-one i))

pub took_next : (xs : List Element) (i : ℕ) (x : Element) (o : Own) (s t : Walk Id Element) → slice_get xs i ≡ Some x
    → t.seen ≡ s.seen → t.items ≡ keep same_element s.items x → t.steps ≡ s.steps + 1
    → took (drop (i + 1) xs) o t ≡ took (drop i xs) o s
took_next xs i x o s t h p q r =
    let e : t.steps + length (drop (i + 1) xs) ≡ s.steps + length (x ∷ drop (i + 1) xs) = omega (arith, r) in
    (λ j. record { seen = p j; items = keep_all same_element (q j) (drop (i + 1) xs); steps = e j })
    ∙ ap (λ l. took l o s) (sym (drop_at xs i x h))

pub took_end : (xs : List Element) (i : ℕ) (o : Own) (s : Walk Id Element) → length xs ≤ i → took (drop i xs) o s ≡ s
took_end xs i o s h =
    let e : s.steps + 0 ≡ s.steps = omega arith in
    ap (λ l. took l o s) (drop_of_length-le xs h) ∙ (λ j. record { seen = s.seen; items = s.items; steps = e j })

pub visited_next : (pre : Bool) (ds : List (Rose Own)) (i : ℕ) (d : Rose Own) (s t u : Walk Id Element) → slice_get ds i ≡ Some d
    → t.seen ≡ s.seen → t.items ≡ s.items → t.steps ≡ s.steps + 1 → u ≡ visited pre d t
    → visited_all pre (drop (i + 1) ds) u ≡ visited_all pre (drop i ds) s
visited_next pre ds i d s t u h p q r v =
    let stepped : t ≡ record { seen = s.seen; items = s.items; steps = s.steps + 1 } = λ j. record { seen = p j; items = q j; steps = r j } in
    ap (visited_all pre (drop (i + 1) ds)) (v ∙ ap (visited pre d) stepped)
    ∙ ap (λ l. visited_all pre l s) (sym (drop_at ds i d h))

pub visited_end : (pre : Bool) (ds : List (Rose Own)) (i : ℕ) (s : Walk Id Element) → length ds ≤ i → visited_all pre (drop i ds) s ≡ s
visited_end pre ds i s h = ap (λ l. visited_all pre l s) (drop_of_length-le ds h)

-- a depset is visited unless its id was seen
pub visited_is : (pre : Bool) (d : Rose Own) (s : Walk Id Element)
    → visited pre d s ≡ cond (has same_id s.seen (label d).id) s (let r = inside pre d s in record { seen = keep same_id r.seen (label d).id; items = r.items; steps = r.steps })
visited_is pre (node x ts) s =
    ap (λ us. cond (has same_id s.seen x.id) s (let r = cond pre (visits own_id own_direct same_id same_element pre us (took x.direct x s)) (took x.direct x (visits own_id own_direct same_id same_element pre us s)) in record { seen = keep same_id r.seen x.id; items = r.items; steps = r.steps })) (sym (roses-rose_list ts))
