use Rattle.std.proofs.Common.{◌≡◌, ◌+◌, ◌<◌, ◌≤◌, ◌++◌, Bool, true, List, Option, inr, Some, sym, ap, ◌∙◌, arith, subst}
use Rattle.depsets.specs.Rose.{Rose, node, roses, depths}
use Rattle.depsets.specs.Own.{Own}
use Rattle.depsets.specs.Orders.{all_fit}
use Rattle.depsets.specs.Elements.{elements_of, goes_on, type_after, is_uniform, first_type}
use Rattle.depsets.specs.Trees.{IsKept, tree_of}
use Rattle.depsets.specs.declared.depset.Id.{Id}
use Rattle.depsets.specs.declared.element.Element.{Element}
use Rattle.depsets.specs.declared.element.ElementType.{ElementType}
use Rattle.depsets.proofs.TypeLemmas.{uniform-append, first_type-append}
use Rattle.depsets.proofs.Refused.{mixed_within, mixed_below, joined_uniform, deep_refused, not_refused}
use Rattle.depsets.proofs.depset.Depset.new.Goals as goal

-- what the new node keeps is what the loops over its elements and its children found
pub invariant_of-result : goal.invariant_of-result
invariant_of-result c =
    let es = c.args.direct.items in
    let rest = elements_of (roses c.args.children.items) in
    let direct = c.as_slice.ensures.value in
    let kids = c.as_slice-2.ensures.value in
    let same = c.in-Ok-digested.ensures in
    let known = c.in-Ok.ensures.1 ∙ ap first_type direct in
    let levels = c.most_levels-below.ensures.levels ∙ ap (λ l. depths (roses l)) c.as_slice-4.ensures.value in
    subst IsKept (sym c.in-Ok-new.ensures.ok)
    (record {
      levels = ap (λ n. n + 1) levels;
      bounded = omega arith;
      uniform = ap (λ xs. is_uniform (xs ++ rest)) same
          ∙ uniform-append es rest (ap is_uniform (sym direct) ∙ c.in-Ok.ensures.0)
          ∙ ap (λ k. goes_on k rest) (sym known)
          ∙ ap (λ l. goes_on c.in-Ok.known (elements_of (roses l))) (sym kids)
          ∙ c.in-Ok-type_with_children.ensures.0;
      noted = c.in-Ok-type_with_children.ensures.1
          ∙ ap (λ l. type_after c.in-Ok.known (elements_of (roses l))) kids
          ∙ ap (λ k. type_after k rest) known
          ∙ sym (first_type-append es rest)
          ∙ sym (ap (λ xs. first_type (xs ++ rest)) same);
    })

-- what the loops over the elements and the children found of the type, as a fact of all elements
uniform : (own : Own) (es : List Element) (ds kids : List (Rose Own)) (known : Option ElementType) (b : Bool) → es ≡ own.direct → kids ≡ ds → is_uniform es ≡ true
    → known ≡ first_type es → goes_on known (elements_of (roses kids)) ≡ b → is_uniform (own.direct ++ elements_of (roses ds)) ≡ b
uniform own es ds kids known b p q u k g =
    joined_uniform own (roses ds) (ap is_uniform (sym p) ∙ u)
    (ap (λ t. goes_on t (elements_of (roses ds))) (ap first_type (sym p) ∙ sym k) ∙ ap (λ l. goes_on known (elements_of (roses l))) (sym q) ∙ g)

pub returns-in-Err : goal.returns-in-Err
returns-in-Err c =
    let own : Own = record { id = c.args.id; order = c.args.order; direct = c.args.direct.items } in
    inr (mixed_within own (roses c.args.children.items) (ap is_uniform (sym c.as_slice.ensures.value) ∙ c.in-Err.ensures.1) ∙ ap Some (sym c.in-Err.ensures.0))

pub returns-in-Err-type_with_children : goal.returns-in-Err-type_with_children
returns-in-Err-type_with_children c =
    let own : Own = record { id = c.args.id; order = c.args.order; direct = c.args.direct.items } in
    let kids = c.args.children.items in
    let e = c.in-Err-type_with_children.ensures in
    inr (mixed_below own (roses kids) (uniform own c.as_slice.result.now kids c.as_slice-2.result.now c.in-Ok.known _ c.as_slice.ensures.value c.as_slice-2.ensures.value c.in-Ok.ensures.0 c.in-Ok.ensures.1 e.1)
    ∙ ap Some (sym e.0))

pub returns-then-below-ge-LEVELS : goal.returns-then-below-ge-LEVELS
returns-then-below-ge-LEVELS c =
    let own : Own = record { id = c.args.id; order = c.args.order; direct = c.args.direct.items } in
    let kids = c.args.children.items in
    let levels = c.most_levels-below.ensures.levels ∙ ap (λ l. depths (roses l)) c.as_slice-4.ensures.value in
    inr (deep_refused own (roses kids)
    (uniform own c.as_slice.result.now kids c.as_slice-2.result.now c.in-Ok.known _ c.as_slice.ensures.value c.as_slice-2.ensures.value c.in-Ok.ensures.0 c.in-Ok.ensures.1 c.in-Ok-type_with_children.ensures.0)
    (ap (λ l. all_fit own.order (roses l)) (sym c.as_slice-3.ensures.value) ∙ sym c.children_fit.ensures ∙ c.if-not-children_fit.false)
    (subst (λ n. 1000 ≤ n) levels c.if-below-ge-LEVELS.true))

pub returns-in-Ok-new : goal.returns-in-Ok-new
returns-in-Ok-new c =
    let own : Own = record { id = c.args.id; order = c.args.order; direct = c.args.direct.items } in
    let kids = c.args.children.items in
    let levels = c.most_levels-below.ensures.levels ∙ ap (λ l. depths (roses l)) c.as_slice-4.ensures.value in (
      ap tree_of c.in-Ok-new.ensures.ok
          ∙ ap (λ (i : Id). node (record { id = i; order = c.args.order; direct = c.in-Ok-digested.direct.items }) (roses kids)) c.new.ensures
          ∙ ap (λ (es : List Element). node (record { id = c.args.id; order = c.args.order; direct = es }) (roses kids)) c.in-Ok-digested.ensures,
      not_refused own (roses kids)
          (uniform own c.as_slice.result.now kids c.as_slice-2.result.now c.in-Ok.known _ c.as_slice.ensures.value c.as_slice-2.ensures.value c.in-Ok.ensures.0 c.in-Ok.ensures.1 c.in-Ok-type_with_children.ensures.0)
          (ap (λ l. all_fit own.order (roses l)) (sym c.as_slice-3.ensures.value) ∙ sym c.children_fit.ensures ∙ c.if-not-children_fit.false)
          (subst (λ n. n < 1000) levels c.if-below-ge-LEVELS.false),
    )
