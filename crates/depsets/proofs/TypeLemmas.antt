-- The type of two groups of elements, one after the other.
use Rattle.std.proofs.Common.{◌≡◌, Bool, true, false, ◌&&◌, List, [], ◌∷◌, ◌++◌, Option, Some, None, if◌then◌else◌, refl, ap, sym, ◌∙◌}
use Rattle.std.proofs.lemmas.Bool.{false≢true}
use Rattle.depsets.specs.Elements.{type_of, same_type, first_type, all_of_type, is_uniform, goes_on, type_after, joined}
use Rattle.depsets.specs.declared.element.Element.{Element}
use Rattle.depsets.specs.declared.element.ElementType.{ElementType}
use Rattle.depsets.specs.declared.element.ElementType.TheVariants as kind

pub all-append : (t : ElementType) (es rest : List Element) → all_of_type t (es ++ rest) ≡ (all_of_type t es && all_of_type t rest)
all-append t [] rest = refl
all-append t (e ∷ es) rest =
    elim (same_type t (type_of e)) as (λ b. (b && all_of_type t (es ++ rest)) ≡ ((b && all_of_type t es) && all_of_type t rest)) [ true ↦ all-append t es rest | false ↦ refl ]

all_after : (t : ElementType) (es rest : List Element) → all_of_type t es ≡ true → all_of_type t (es ++ rest) ≡ all_of_type t rest
all_after t es rest h = all-append t es rest ∙ ap (λ b. b && all_of_type t rest) h

pub uniform-append : (es rest : List Element) → is_uniform es ≡ true → is_uniform (es ++ rest) ≡ goes_on (first_type es) rest
uniform-append [] rest u = refl
uniform-append (e ∷ es) rest u = all_after (type_of e) es rest u

pub first_type-append : (es rest : List Element) → first_type (es ++ rest) ≡ type_after (first_type es) rest
first_type-append [] rest = refl
first_type-append (e ∷ es) rest = refl

same_type-is : (a b : ElementType) → same_type a b ≡ true → a ≡ b
same_type-is kind.Text kind.Text h = refl
same_type-is kind.Number kind.Number h = refl
same_type-is kind.Truth kind.Truth h = refl
same_type-is kind.Label kind.Label h = refl
same_type-is kind.File kind.File h = refl
same_type-is _ _ h = absurd (false≢true h)

-- where the type that is known goes with that of elements, both go on with those behind as the elements and these do
pub joined_goes : (known both : Option ElementType) (es rest : List Element) → is_uniform es ≡ true → joined known (first_type es) ≡ Some both
    → (goes_on both rest ≡ goes_on known (es ++ rest)) × (type_after both rest ≡ type_after known (es ++ rest))
joined_goes None both es rest u j =
    let b : both ≡ first_type es = cc in
    (ap (λ k. goes_on k rest) b ∙ sym (uniform-append es rest u), ap (λ k. type_after k rest) b ∙ sym (first_type-append es rest))
joined_goes (Some a) both [] rest u j = let b : both ≡ Some a = cc in (ap (λ k. goes_on k rest) b, ap (λ k. type_after k rest) b)
joined_goes (Some a) both (e ∷ es) rest u j = by (same_type a (type_of e)) refl j
  where
    by : (s : Bool) → same_type a (type_of e) ≡ s → (if s then Some (Some a) else None) ≡ Some both
        → (goes_on both rest ≡ goes_on (Some a) (e ∷ es ++ rest)) × (type_after both rest ≡ type_after (Some a) (e ∷ es ++ rest))
    by true is f =
        let b : both ≡ Some a = cc in
        let own : all_of_type a es ≡ true = ap (λ t. all_of_type t es) (same_type-is a (type_of e) is) ∙ u in
        (ap (λ k. goes_on k rest) b ∙ sym (all_after a es rest own) ∙ sym (ap (λ s. s && all_of_type a (es ++ rest)) is), ap (λ k. type_after k rest) b)
    by false is f = absurd (cc)
