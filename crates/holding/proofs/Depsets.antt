-- A new depset is the owner's next; what is listed of one has no depsets.
use Rattle.std.proofs.Common.{◌≡◌, ℕ, ◌+◌, ◌^◌, nat_lt, ◌⊎◌, inl, inr, ⊎_elim, Bool, true, false, if◌then◌else◌, List, [], ◌∷◌, ◌++◌, Option, Some, None, Result, Ok, Err, map, refl, sym, subst}
use Rattle.depsets.specs.Flat.{Among, nodes, nodes_of}
use Rattle.depsets.specs.Listed.{walked}
use Rattle.depsets.specs.Refusals.{refusal}
use Rattle.depsets.specs.Rose.{roses, label}
use Rattle.depsets.specs.declared.depset.DepsetError.{DepsetError}
use Rattle.depsets.specs.declared.depset.Order.{Order}
use Rattle.depsets.specs.declared.element.Element.{Element}
use Rattle.depsets.specs.declared.element.Element.TheVariants as element
use Rattle.values.specs.Shape.{shape}
use Rattle.values.specs.declared.cells.Cell.{Cell}
use Rattle.leaves.specs.declared.leaf.Leaf.TheVariants as plain
use Rattle.ticks.specs.declared.ticks.Kind.{Kind}
use Rattle.ticks.specs.declared.ticks.Kind.TheVariants as kind
use Rattle.values.specs.declared.value.Value.{Value}
use Rattle.values.specs.declared.value.Value.TheVariants as value
use Rattle.operations.specs.Arguments.{Given, Bound, bound}
use Rattle.operations.specs.Depsets.{element_in, put_last, gathered, all_in, parts_in, order_in, next_depset, numbered, new_depset, depset_parameters, Parts, parts_of, made_of, depset_of, depset_with, depset, element_value, to_list}
use Rattle.operations.specs.Reading.{sequence_in, depset_in}
use Rattle.operations.specs.declared.state.State.{State}
use Rattle.one_tree.specs.Found.{Set, in_value, in_values, in_heap}
use Rattle.one_tree.specs.Sets.{AreIn, next}
use Rattle.one_tree.proofs.Amidst.{among_cases}
use Rattle.one_tree.proofs.Changed.{both_in}
use Rattle.one_tree.proofs.News.{either_one, either_numbered}
use Rattle.holding.specs.Held.{Seen, IsSeen, StateHolds, After}
use Rattle.holding.proofs.Givens.{first_field, rest_fields, bound_has}
use Rattle.holding.proofs.Steps.{IfSome, IfGiven, then_given, then_all, of_type_given, none_in, left_in, right_in, mapped_in, shape_shows, items_shown, depset_shown, new_list_after, HasValues, HasFields, HasValue}

-- ---- the depsets that a call of `depset` is given

module _ (s : List Set) where
  -- with all that is below them
  abbrev HasNodes : List Set → Type 0
  HasNodes ds = AreIn (nodes_of (roses ds)) s

  nodes_behind : (ds : List Set) (d : Set) → HasNodes ds → AreIn (nodes d) s → HasNodes (ds ++ d ∷ [])
  nodes_behind [] d i j = both_in (nodes d) [] s j (none_in s)
  nodes_behind (c ∷ ds) d i j =
      both_in (nodes c) (nodes_of (roses (ds ++ d ∷ []))) s (left_in (nodes c) (nodes_of (roses ds)) s i)
      (nodes_behind ds d (right_in (nodes c) (nodes_of (roses ds)) s i) j)

  put_nodes : (ds : List Set) (o : Option Set) → HasNodes ds → IfSome (λ d. AreIn (nodes d) s) o → IfGiven HasNodes (put_last ds o)
  put_nodes ds (Some d) i j = nodes_behind ds d i j
  put_nodes ds None i j = tt

  module _ (h : List Cell) (heap : AreIn (in_heap h) s) where
    all_nodes : (vs : List Value) (ds : List Set) → HasValues s vs → HasNodes ds
        → IfGiven HasNodes (gathered (λ v xs. put_last xs (depset_in (shape h v))) vs ds)
    all_nodes [] ds i j = j
    all_nodes (v ∷ vs) ds i j =
        then_given HasNodes HasNodes (put_last ds (depset_in (shape h v))) (λ c. gathered (λ w xs. put_last xs (depset_in (shape h w))) vs c)
        (put_nodes ds (depset_in (shape h v)) j (depset_shown s (shape h v) (shape_shows s h v heap (left_in (in_value v) (in_values vs) s i))))
        (λ c l. all_nodes vs c (right_in (in_value v) (in_values vs) s i) l)

    transitive_nodes : (o : Option Value) → IfSome (HasValue s) o → IfGiven HasNodes (parts_in depset_in h o)
    transitive_nodes None i = none_in s
    transitive_nodes (Some v) i =
        of_type_given (HasValues s) HasNodes (sequence_in (shape h v)) (all_in depset_in h)
        (items_shown s (shape h v) (shape_shows s h v heap i)) (λ vs j. all_nodes vs [] j (none_in s))

    parts_have : (es o ds : Option Value) → IfSome (HasValue s) ds → IfGiven (λ p. HasNodes p.transitive) (parts_of h es o ds)
    parts_have es o ds i =
        then_all (λ p. HasNodes p.transitive) (parts_in element_in h es) _
        (λ xs. then_all (λ p. HasNodes p.transitive) (order_in h o) _
        (λ p. then_given HasNodes (λ p. HasNodes p.transitive) (parts_in depset_in h ds) _ (transitive_nodes ds i) (λ ys j. j)))

  element_has : (e : Element) → AreIn (in_value (element_value e)) s
  element_has (element.Text t) = none_in s
  element_has (element.Number n) = none_in s
  element_has (element.Truth b) = none_in s
  element_has (element.Label t) = none_in s
  element_has (element.File f) = none_in s

module _ {owner : List ℕ} {base : List Set} where
  -- ---- the world with the owner's next depset

  module _ (k : Seen owner base) (s : State) (holds : StateHolds k s) (o : Order) (es : List Element) (ds : List Set) (below : AreIn (nodes_of (roses ds)) k.sets) where
    abbrev new : Set
    new = next owner s.depsets o es ds

    old_or_new : (d : Set) → Among d (new ∷ k.sets) → Among d k.sets ⊎ (d ≡ new)
    old_or_new d (inl e) = inr (sym e)
    old_or_new d (inr i) = inl i

    new_theirs : (d : Set) → Among d (new ∷ k.sets) → Among d base ⊎ ((label d).id.owner ≡ owner)
    new_theirs d (inl e) = inr (subst (λ (c : Set). (label c).id.owner ≡ owner) e refl)
    new_theirs d (inr i) = k.theirs d i

    abbrev wider : Seen owner base
    wider = record {
      sets = new ∷ k.sets;
      one = λ a b p q e. either_one k.sets owner s.depsets o es ds k.one holds.numbered a b (old_or_new a p) (old_or_new b q) e;
      given = λ d i. inr (k.given d i);
      theirs = new_theirs;
    }

    next_state : StateHolds wider (record s { depsets = s.depsets + 1 })
    next_state = record {
      owned = holds.owned;
      numbered = λ d p own. either_numbered k.sets owner s.depsets o es ds k.one holds.numbered d (old_or_new d p) own;
      heap = λ d i. inr (holds.heap d i);
      globals = λ d i. inr (holds.globals d i);
      loaded = λ d i. inr (holds.loaded d i);
      defaults = λ d i. inr (holds.defaults d i);
    }

    new_below : (d : Set) → Among d (new ∷ []) → Among d (new ∷ k.sets)
    new_below d (inl e) = inl e
    new_below d (inr i) = absurd i

    new_seen : AreIn (nodes new) (new ∷ k.sets)
    new_seen d i = ⊎_elim (λ p. inr (below d p)) (new_below d) (among_cases d (nodes_of (roses ds)) (new ∷ []) i)

    -- the state's next depset is the owner's
    state_seen : AreIn (nodes (next_depset o es ds s)) (new ∷ k.sets)
    state_seen = subst (λ w. AreIn (nodes (next w s.depsets o es ds)) (new ∷ k.sets)) (sym holds.owned) new_seen

    counted : (b : Bool)
        → After IsSeen k (if b then Ok (value.Leaf (plain.Depset (next_depset o es ds s)), record s { depsets = s.depsets + 1 }) else Err kind.Large)
    counted true = (wider, (λ d i. inr i), next_state, state_seen)
    counted false = tt

    unless_refused : (r : Option DepsetError) → After IsSeen k (numbered r (next_depset o es ds s) s)
    unless_refused (Some e) = tt
    unless_refused None = counted (nat_lt (s.depsets + 1) (2 ^ 64))

    pub new_depset_keeps : After IsSeen k (new_depset o es ds s)
    new_depset_keeps = unless_refused (refusal (next_depset o es ds s))

  -- ---- calls

  module _ (k : Seen owner base) (s : State) (holds : StateHolds k s) where
    made_of_keeps : (r : Result Parts Kind) → IfGiven (λ p. HasNodes k.sets p.transitive) r → After IsSeen k (made_of r s)
    made_of_keeps (Ok p) i = new_depset_keeps k s holds p.order p.direct p.transitive i
    made_of_keeps (Err e) i = tt

    depset_of_keeps : (es o ds : Option Value) → HasFields k.sets (es ∷ o ∷ ds ∷ []) → After IsSeen k (depset_of es o ds s)
    depset_of_keeps es o ds i =
        made_of_keeps (parts_of s.heap es o ds)
        (parts_have k.sets s.heap holds.heap es o ds
        (first_field k.sets ds [] (rest_fields k.sets o (ds ∷ []) (rest_fields k.sets es (o ∷ ds ∷ []) i))))

    depset_with_keeps : (r : Result Bound Kind) → IfGiven (HasFields k.sets) r → After IsSeen k (depset_with r s)
    depset_with_keeps (Ok (es ∷ o ∷ ds ∷ [])) i = depset_of_keeps es o ds i
    depset_with_keeps (Ok _) i = tt
    depset_with_keeps (Err e) i = tt

    -- `depset(..)`
    pub depset_keeps : (g : Given) → HasValues k.sets g.items → HasValues k.sets g.values → After IsSeen k (depset g s)
    depset_keeps g i j = depset_with_keeps (bound depset_parameters g) (bound_has k.sets depset_parameters g i j)

    -- `t.to_list()`
    pub to_list_keeps : (d : Set) → After IsSeen k (to_list d s)
    to_list_keeps d = new_list_after k (map element_value (walked d)) s holds (mapped_in k.sets element_value (walked d) (element_has k.sets))
