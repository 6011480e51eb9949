-- What the tests of a new depset find is what its tree is refused for.
use Rattle.std.proofs.Common.{◌≡◌, ℕ, ◌+◌, ◌<◌, ◌≤◌, Bool, true, false, not, ◌&&◌, List, [], ◌∷◌, ◌++◌, Option, Some, None, if◌then◌else◌, ltb, ap, ◌∙◌, arith}
use Rattle.std.proofs.lemmas.Bool.Decides.{nat_tests}
use Rattle.depsets.specs.Rose.{Roses, node, depths}
use Rattle.depsets.specs.Own.{Own}
use Rattle.depsets.specs.Orders.{all_fit}
use Rattle.depsets.specs.Elements.{elements_of, type_of, first_type, all_of_type, is_uniform, goes_on}
use Rattle.depsets.specs.Refusals.{refusal}
use Rattle.depsets.specs.declared.element.Element.{Element}
use Rattle.depsets.specs.declared.depset.DepsetError.{DepsetError}
use Rattle.depsets.specs.declared.depset.DepsetError.TheVariants.{Mixed, Order, Deep}
use Rattle.depsets.specs.declared.depset.TheConstants.{LEVELS}
use Rattle.depsets.proofs.TypeLemmas.{all-append, uniform-append}

abbrev by_tests : Bool → Bool → Bool → Option DepsetError
by_tests uniform fits deep = if not uniform then Some Mixed else (if not fits then Some Order else (if deep then Some Deep else None))

mixed-append : (es rest : List Element) → is_uniform es ≡ false → is_uniform (es ++ rest) ≡ false
mixed-append [] rest h = absurd (cc)
mixed-append (e ∷ es) rest h = all-append (type_of e) es rest ∙ ap (λ b. b && all_of_type (type_of e) rest) h

too_deep : (n : ℕ) → LEVELS ≤ n → ltb LEVELS (n + 1) ≡ true
too_deep n h = grind (arith, nat_tests)

not_deep : (n : ℕ) → n < LEVELS → ltb LEVELS (n + 1) ≡ false
not_deep n h = grind (arith, nat_tests)

module _ (own : Own) (ts : Roses Own) where
  tested : {u f d : Bool} → is_uniform (own.direct ++ elements_of ts) ≡ u → all_fit own.order ts ≡ f → ltb LEVELS (depths ts + 1) ≡ d → refusal (node own ts) ≡ by_tests u f d
  tested p q r = λ j. by_tests (p j) (q j) (r j)

  rest_tested : {u : Bool} → is_uniform (own.direct ++ elements_of ts) ≡ u → refusal (node own ts) ≡ by_tests u (all_fit own.order ts) (ltb LEVELS (depths ts + 1))
  rest_tested p = λ j. by_tests (p j) (all_fit own.order ts) (ltb LEVELS (depths ts + 1))

  pub mixed_within : is_uniform own.direct ≡ false → refusal (node own ts) ≡ Some Mixed
  mixed_within h = rest_tested (mixed-append own.direct (elements_of ts) h)

  -- whether all elements have one type, where the direct ones have
  pub joined_uniform : {b : Bool} → is_uniform own.direct ≡ true → goes_on (first_type own.direct) (elements_of ts) ≡ b → is_uniform (own.direct ++ elements_of ts) ≡ b
  joined_uniform h g = uniform-append own.direct (elements_of ts) h ∙ g

  pub mixed_below : is_uniform (own.direct ++ elements_of ts) ≡ false → refusal (node own ts) ≡ Some Mixed
  mixed_below = rest_tested

  pub deep_refused : is_uniform (own.direct ++ elements_of ts) ≡ true → all_fit own.order ts ≡ true → LEVELS ≤ depths ts → refusal (node own ts) ≡ Some Deep
  deep_refused u f d = tested u f (too_deep (depths ts) d)

  pub not_refused : is_uniform (own.direct ++ elements_of ts) ≡ true → all_fit own.order ts ≡ true → depths ts < LEVELS → refusal (node own ts) ≡ None
  not_refused u f d = tested u f (not_deep (depths ts) d)
