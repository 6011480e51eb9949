use Rattle.std.proofs.Common.{◌≡◌, ◌<◌, ℕ, List, [], ◌∷◌, ◌++◌, length, map, take, get_or, ap, sym, ◌∙◌, subst}
use Rattle.std.proofs.lemmas.List.{get_or-map, length-map}
use Rattle.pool_tests.specs.Examples.{joined}
use Rattle.pool_tests.proofs.Nested.{joined_more}
use Rattle.pool_tests.proofs.analysers.bracket.Goals as goal

pub loop-i-preserved : goal.loop-i-preserved
loop-i-preserved c =
    let us : List (List ℕ) = map (λ r. r.now) c.args.values.now in
    let i : ℕ = c.loop-i.i in
    let text : List ℕ = c.as_bytes.result.now in
    let at : get_or us i [] ≡ text = get_or-map (λ r. r.now) c.args.values.now i c.index-values-i.result [] c.loop-i-test.true ∙ sym (ap (λ r. r.now) c.index-values-i.is) ∙ sym c.as_bytes.ensures in
    let lt : i < length us = subst (λ (k : ℕ). i < k) (sym (length-map c.args.values.now (λ r. r.now))) c.loop-i-test.true in
    c.in_ok-extend_from_slice.ensures.items ∙ ap (λ (l : List ℕ). l ++ text) c.loop-i.invariant ∙ ap (λ (l : List ℕ). 91 ∷ l) (sym (joined_more us i [] lt ∙ ap (λ (l : List ℕ). joined (take i us) ++ l) at))
