-- Where each action is the first that is equal to it, none is shared.
use Rattle.std.proofs.Common.{◌≡◌, ◌∙◌, ◌<◌, ◌≤◌, ◌+◌, ◌&&◌, ℕ, zero, suc, Bool, true, false, not, List, [], ◌∷◌, length, map, get_or, refl, sym, ap, arith, if◌then◌else◌}
use Rattle.std.specs.Prelude.{nat_eq, nat_lt}
use Rattle.std.specs.List.{filter}
use Rattle.std.specs.Str.{bytes_eq}
use Rattle.std.proofs.lemmas.Bool.{true≢false, ltb-true}
use Rattle.std.proofs.lemmas.Bool.Decides.{Decides-eqb}
use Rattle.std.proofs.lemmas.List.{get_or-map, length-map}
use Rattle.std.proofs.lemmas.Option.{slice_get_within, get_or_from_slice_get}
use Rattle.depsets.specs.Own.{Own}
use Rattle.depsets.specs.Rose.{Rose}
use Rattle.depsets.specs.declared.element.Element.{Element}
use Rattle.claims.specs.Clashes.{some_pair}
use Rattle.claims.specs.Leaders.{all_lead, leader, leaders}
use Rattle.claims.specs.Owned.{Owned}
use Rattle.claims.specs.Same.{same_action}
use Rattle.claims.specs.Sharing.{AreShared}
use Rattle.claims.specs.Telling.{equals, in_text_order, is_shared, telling}
use Rattle.claims.specs.Tellings.{alone, is_first}
use Rattle.claims.specs.declared.telling.Telling.TheVariants.{Alone, Owners, Elsewhere}
use Rattle.claims.proofs.ConflictLemmas.{alike_leader}
use Rattle.claims.proofs.Pairs.{not_true, pair_at}

both : (a b : Bool) → (a && b) ≡ true → (a ≡ true) × (b ≡ true)
both true b h = (refl, h)
both false b h = absurd (true≢false (sym h))

own_place : (n : ℕ) (ls : List ℕ) → all_lead n ls ≡ true → (k d : ℕ) → k < length ls → get_or ls k d ≡ n + k
own_place n [] h k d low = absurd (omega (arith, low))
own_place n (l ∷ ls) h zero d low =
    (Decides-eqb l n).0 (both (nat_eq l n) (all_lead (n + 1) ls) h).0 ∙ (let e : n ≡ n + 0 = omega arith in e)
own_place n (l ∷ ls) h (suc k) d low =
    own_place (n + 1) ls (both (nat_eq l n) (all_lead (n + 1) ls) h).1 k d (omega (arith, low)) ∙ (let e : n + 1 + k ≡ n + suc k = omega arith in e)

some_two : {X : Type 0} (xs : List X) → 2 ≤ length xs → some_pair (λ x y. true) xs ≡ true
some_two [] h = absurd (omega (arith, h))
some_two (x ∷ []) h = absurd (omega (arith, h))
some_two (x ∷ y ∷ xs) h = refl

module _ (listing : Rose Own → List Element) (os : List Owned) (d : Owned) (lead : all_lead 0 (leaders listing os) ≡ true) where
  leads : (i : ℕ) → i < length os → leader listing os (get_or os i d) ≡ i
  leads i low =
      sym (get_or-map (leader listing os) os i d i low)
      ∙ own_place 0 (leaders listing os) lead i i (let e = length-map os (leader listing os) in omega (arith, e, low)) ∙ (let e : 0 + i ≡ i = omega arith in e)

  module _ (i : ℕ) (low : i < length os) where
    abbrev equal : Owned → Bool
    equal p = same_action listing (get_or os i d).action p.action

    no_two : 2 ≤ length (filter equal os) → ⊥
    no_two h =
        let p = pair_at equal (λ x y. true) os (some_two (filter equal os) h) in
        let less = p.apart in
        let w = p.within in
        let l : p.one < length os = omega (arith, less, w) in
        let same : p.one ≡ p.other =
        sym (leads p.one l) ∙ sym (alike_leader listing os d i p.one (p.first d)) ∙ alike_leader listing os d i p.other (p.second d) ∙ leads p.other w in
        absurd (omega (arith, less, same))

    pub not_shared : is_shared (map (λ p. p.label) (equals listing os (get_or os i d))) ≡ false
    not_shared =
        not_true (is_shared (map (λ p. p.label) (equals listing os (get_or os i d))))
        (λ h.
        let n = ltb-true 1 (length (map (λ (p : Owned). p.label) (filter equal os)))
        (both (nat_lt 1 (length (map (λ (p : Owned). p.label) (filter equal os)))) (not (some_pair bytes_eq (map (λ p. p.label) (filter equal os)))) h).0 in
        let k = length-map (filter equal os) (λ (p : Owned). p.label) in
        no_two (omega (arith, n, k)))

    one_alone : telling listing os (get_or os i d) ≡ Alone
    one_alone =
        let labels = map (λ (p : Owned). p.label) (equals listing os (get_or os i d)) in
        ap (λ b. if b then (if is_first (get_or os i d).label (in_text_order labels) then Owners (in_text_order labels) else Elsewhere) else Alone) not_shared

  alone_from : (n : ℕ) (rest : List Owned) → length os ≡ n + length rest → ((k : ℕ) → k < length rest → get_or rest k d ≡ get_or os (n + k) d)
      → map alone rest ≡ map (telling listing os) rest
  alone_from n [] size same = refl
  alone_from n (o ∷ rest) size same =
      let is : o ≡ get_or os n d = same 0 (omega arith) ∙ ap (λ j. get_or os j d) (let e : n + 0 ≡ n = omega arith in e) in
      λ i. (sym (ap (telling listing os) is ∙ one_alone n (omega (arith, size)))) i
      ∷ alone_from (n + 1) rest (omega (arith, size))
      (λ k less. same (suc k) (omega (arith, less)) ∙ ap (λ j. get_or os j d) (let e : n + suc k ≡ n + 1 + k = omega arith in e)) i

-- all are told alone
pub all_alone : (listing : Rose Own → List Element) (os : List Owned) → all_lead 0 (leaders listing os) ≡ true → map alone os ≡ map (telling listing os) os
all_alone listing [] lead = refl
all_alone listing (o ∷ os) lead =
    alone_from listing (o ∷ os) o lead 0 (o ∷ os) (omega arith) (λ k less. ap (λ j. get_or (o ∷ os) j o) (let e : k ≡ 0 + k = omega arith in e))

-- and none is shared
pub none_shared : (listing : Rose Own → List Element) (os : List Owned) → all_lead 0 (leaders listing os) ≡ true → AreShared listing os []
none_shared listing os lead = record {
  only = tt;
  all = λ i a g h.
      let low = slice_get_within os i a g in
      let is = get_or_from_slice_get os i a a g in
      absurd (true≢false (sym h ∙ ap (λ o. is_shared (map (λ p. p.label) (equals listing os o))) (sym is) ∙ not_shared listing os a lead i low));
  ordered = tt;
}
