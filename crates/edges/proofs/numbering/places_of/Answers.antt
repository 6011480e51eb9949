use Rattle.std.proofs.Common.{◌≡◌, ℕ, ◌+◌, ◌<◌, List, length, set, get_or, sym, ap, ◌∙◌, subst, arith, inl, inr, get_or-set_same, get_or-set_other, eqb-true, eq-eqb}
use Rattle.std.specs.Prelude.{nat_eq}
use Rattle.std.specs.List.{IsDistinct}
use Rattle.std.proofs.lemmas.List.{length-set, get_or_read}
use Rattle.std.proofs.lemmas.Map.Keys.{apart_from_distinct}
use Rattle.edges.proofs.Tests.{cases_of, not_both}
use Rattle.edges.proofs.Lists.{apart_of}
use Rattle.edges.proofs.numbering.places_of.Goals as goal

-- one place more
placed : (order places : List ℕ) (k x y p : ℕ) → IsDistinct nat_eq order → ((i : ℕ) → i < length order → get_or order i 0 < length order) → length places ≡ length order → k < length order → x ≡ get_or order k x → y ≡ x → p ≡ k
    → ((i : ℕ) → i < k → get_or places (get_or order i 0) 0 ≡ i) → (i : ℕ) → i < k + 1 → get_or (set places y p) (get_or order i 0) 0 ≡ i
placed order places k x y p distinct nodes len low read named is older i below =
    let at : y ≡ get_or order k 0 = named ∙ get_or_read order k x low read 0 in
    ap (λ z. get_or (set places z p) (get_or order i 0) 0) at ∙ ap (λ q. get_or (set places (get_or order k 0) q) (get_or order i 0) 0) is ∙ elim (cases_of (nat_eq i k)) [
      | inl same ↦
          let e = eqb-true i k same in
          subst (λ j. get_or (set places (get_or order k 0) k) (get_or order j 0) 0 ≡ j) (sym e) (get_or-set_same places (get_or order k 0) k 0 (omega (arith, nodes k low, len)))
      | inr other ↦
          let before : i < k = let apart = apart_of i k other in omega (arith, below, apart) in
          get_or-set_other places (get_or order k 0) (get_or order i 0) k 0
          (λ e. not_both (nat_eq (get_or order i 0) (get_or order k 0)) (eq-eqb (get_or order i 0) (get_or order k 0) e) (apart_from_distinct nat_eq order i k 0 distinct before low))
          ∙ older i before
    ]

pub loop-k-preserved : goal.loop-k-preserved
loop-k-preserved c =
    let low : c.loop-k.k < length c.args.order.now = c.loop-k-test.true in
    record {
      len = length-set c.loop-k.places.items c.number.result c.of-in-loop-k.result ∙ c.loop-k.invariant.len;
      each = placed c.args.order.now c.loop-k.places.items c.loop-k.k c.index-order-k.result c.number.result c.of-in-loop-k.result c.requires.once c.requires.nodes c.loop-k.invariant.len low c.index-order-k.is c.number.ensures c.of-in-loop-k.ensures c.loop-k.invariant.each;
    }
