-- Two listings by which the same is compared of each action of a list: its conflicts, its shared actions and how its actions are told
-- are the same. By the walk that skips ids and by the plain one it is the same where inputs are coherent.
use Rattle.std.proofs.Common.{◌≡◌, ◌∙◌, ◌||◌, ℕ, zero, suc, Bool, true, false, not, cond, List, [], ◌∷◌, ◌++◌, Some, slice_get, map, flat_map, refl, sym, ap, subst, arith, if◌then◌else◌}
use Rattle.std.proofs.lemmas.Option.{slice_get_within, get_or_from_slice_get}
use Rattle.std.specs.List.{filter, list_any}
use Rattle.std.specs.Str.{bytes_eq}
use Rattle.depsets.proofs.Walked.{walked-flat}
use Rattle.depsets.specs.Listed.{walked, flat}
use Rattle.depsets.specs.Own.{Own}
use Rattle.depsets.specs.Rose.{Rose}
use Rattle.depsets.specs.declared.element.Element.{Element}
use Rattle.actions.specs.Ascending.{Each}
use Rattle.actions.specs.declared.action.Action.{Action}
use Rattle.actions.specs.declared.action.Inputs.{Inputs}
use Rattle.actions.specs.declared.action.Inputs.TheVariants as inputs
use Rattle.claims.proofs.CommonLemmas.{each-map}
use Rattle.claims.specs.Clashes.{AreConflicts, clash, clashes, declares, owners, some_pair}
use Rattle.claims.specs.Coherent.{AreCoherent, AreCoherentInputs}
use Rattle.claims.specs.Commons.{commons_of}
use Rattle.claims.specs.Conflicts.{conflict_of, conflicts_of, told}
use Rattle.claims.specs.Owned.{Owned}
use Rattle.claims.specs.Same.{compared, element_paths, input_paths, path_of, same_action, same_parts}
use Rattle.claims.specs.Sharing.{AreShared, IsSharedSet}
use Rattle.claims.specs.Telling.{equals, is_shared, telling, telling_of}
use Rattle.claims.specs.declared.clashes.Conflict.{Conflict}
use Rattle.claims.specs.declared.sets.Shared.{Shared}

flat_same : {A B : Type 0} (f g : A → List B) → ((x : A) → f x ≡ g x) → (xs : List A) → flat_map f xs ≡ flat_map g xs
flat_same f g same [] = refl
flat_same f g same (x ∷ xs) = λ i. same x i ++ flat_same f g same xs i

each-get : {X : Type 0} (P : X → Type 0) (xs : List X) → Each P xs → (i : ℕ) (a : X) → slice_get xs i ≡ Some a → P a
each-get P [] h i a e = absurd (let low = slice_get_within [] i a e in omega (arith, low))
each-get P (x ∷ xs) h zero a e = subst P (get_or_from_slice_get (x ∷ xs) 0 a a e) h.0
each-get P (x ∷ xs) h (suc i) a e = each-get P xs h.1 i a e

module _ (one other : Rose Own → List Element) where
  abbrev pub Agree : Owned → Type 0
  Agree o = compared one o.action ≡ compared other o.action

  same_same : (a b : Owned) → Agree a → Agree b → same_action one a.action b.action ≡ same_action other a.action b.action
  same_same a b g h = λ i. same_parts (g i) (h i)

  equals_same : (a : Owned) → Agree a → (os : List Owned) → Each Agree os → equals one os a ≡ equals other os a
  equals_same a g [] h = refl
  equals_same a g (o ∷ os) h = λ i. cond (same_same a o g h.0 i) (o ∷ equals_same a g os h.1 i) (equals_same a g os h.1 i)

  pub telling_same : (os : List Owned) → Each Agree os → (a : Owned) → Agree a → telling one os a ≡ telling other os a
  telling_same os h a g = ap (λ es. telling_of (map (λ p. p.label) es) a.label) (equals_same a g os h)

  pub tellings_same : (os : List Owned) → Each Agree os → (xs : List Owned) → Each Agree xs → map (telling one os) xs ≡ map (telling other os) xs
  tellings_same os h [] g = refl
  tellings_same os h (x ∷ xs) g = λ i. telling_same os h x g.0 i ∷ tellings_same os h xs g.1 i

  -- ---- conflicts

  clash_same : (a b : Owned) → Agree a → Agree b → clash one a b ≡ clash other a b
  clash_same a b g h = ap (λ s. bytes_eq a.label b.label || not s) (same_same a b g h)

  any_same : (a : Owned) → Agree a → (os : List Owned) → Each Agree os → list_any (clash one a) os ≡ list_any (clash other a) os
  any_same a g [] h = refl
  any_same a g (o ∷ os) h = λ i. clash_same a o g h.0 i || any_same a g os h.1 i

  pair_same : (os : List Owned) → Each Agree os → some_pair (clash one) os ≡ some_pair (clash other) os
  pair_same [] h = refl
  pair_same (o ∷ os) h = λ i. any_same o h.0 os h.1 i || pair_same os h.1 i

  kept : (t : Owned → Bool) (os : List Owned) → Each Agree os → Each Agree (filter t os)
  kept t [] h = tt
  kept t (o ∷ os) h = at (t o) (kept t os h.1)
    where
      at : (b : Bool) → Each Agree (filter t os) → Each Agree (cond b (o ∷ filter t os) (filter t os))
      at true rest = (h.0, rest)
      at false rest = rest

  clashes_same : (os : List Owned) → Each Agree os → (p : List ℕ) → clashes one p os ≡ clashes other p os
  clashes_same os h p = pair_same (filter (declares p) os) (kept (declares p) os h)

  pub conflicts_same : (os : List Owned) → Each Agree os → conflicts_of one os ≡ conflicts_of other os
  conflicts_same os h =
      flat_same (conflict_of one os) (conflict_of other os) (λ c. ap (λ b. if b then told c ∷ [] else []) (clashes_same os h c.path)) (commons_of os)

  pub conflicts_agree : (os : List Owned) → Each Agree os → (cs : List Conflict) → AreConflicts one os cs → AreConflicts other os cs
  conflicts_agree os h cs k = record {
    ordered = k.ordered;
    all = λ p e. k.all p (clashes_same os h p ∙ e);
    only = each-map (λ (c : Conflict). (clashes one c.path os ≡ true) × (c.labels ≡ owners c.path os))
        (λ (c : Conflict). (clashes other c.path os ≡ true) × (c.labels ≡ owners c.path os))
        (λ c both. (sym (clashes_same os h c.path) ∙ both.0, both.1)) cs k.only;
  }

  -- ---- shared actions

  set_agrees : (os : List Owned) → Each Agree os → (s : Shared) → IsSharedSet one os s → IsSharedSet other os s
  set_agrees os h s k = record {
    two = k.two;
    within = k.within;
    owners = k.owners;
    ordered = k.ordered;
    whole = λ i j a b m p q.
        let was = k.whole i j a b m p q in
        let same = same_same a b (each-get Agree os h i a p) (each-get Agree os h j b q) in
        (λ e. was.0 (same ∙ e), λ n. sym same ∙ was.1 n);
  }

  pub shared_agree : (os : List Owned) → Each Agree os → (ss : List Shared) → AreShared one os ss → AreShared other os ss
  shared_agree os h ss k = record {
    only = each-map (IsSharedSet one os) (IsSharedSet other os) (set_agrees os h) ss k.only;
    all = λ i a p e. k.all i a p (ap (λ es. is_shared (map (λ o. o.label) es)) (equals_same a (each-get Agree os h i a p) os h) ∙ e);
    ordered = k.ordered;
  }

-- ---- the walk that skips ids, and the plain one

pub paths_plain : (i : Inputs) → AreCoherentInputs i → input_paths walked i ≡ input_paths flat i
paths_plain (inputs.Files fs) k = refl
paths_plain (inputs.Depset d) k = ap (flat_map element_paths) (walked-flat d k)

pub compared_plain : (a : Action) → AreCoherentInputs a.inputs → compared walked a ≡ compared flat a
compared_plain a k = λ i. record {
  mnemonic = a.mnemonic;
  outputs = map path_of a.outputs;
  inputs = paths_plain a.inputs k i;
  words = a.words;
  content = a.content;
}

pub agree_plain : (os : List Owned) → AreCoherent os → Each (Agree walked flat) os
agree_plain [] h = tt
agree_plain (o ∷ os) h = (compared_plain o.action h.0, agree_plain os h.1)
