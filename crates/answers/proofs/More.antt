-- Whoever asks for more is hidden nothing: the labels of one answer stand in the other in the same order, and so do their actions, of which two that clash clash there.
use Rattle.std.proofs.Common.{◌≡◌, ◌∙◌, ℕ, Bool, true, false, cond, inl, inr, ◌⊎◌, ◌||◌, List, [], ◌∷◌, ◌++◌, map, Contains, ap, refl, sym, subst, true≢false}
use Rattle.std.specs.List.{filter, flat_map, list_any}
use Rattle.std.specs.Cmp.Lexicographic.{slice_cmp}
use Rattle.std.specs.Ordering.{nat_cmp}
use Rattle.std.specs.declared.cmp.Ordering.TheVariants.{Less, Equal}
use Rattle.std.proofs.lemmas.Cmp.{nat_list_cmp_total, tied_itself}
use Rattle.depsets.specs.Listed.{flat}
use Rattle.actions.specs.Ascending.{AreAscending, Each}
use Rattle.actions.proofs.Ascending.{head_in, tail_in}
use Rattle.claims.specs.Clashes.{IsAmong, clash, clashes, declares, owners, some_pair}
use Rattle.claims.specs.Conflicts.{conflicts_of}
use Rattle.claims.specs.Owned.{Owned}
use Rattle.claims.specs.declared.clashes.Conflict.{Conflict}
use Rattle.claims.proofs.ConflictLemmas.{conflicts_law}
use Rattle.claims.proofs.Pairs.{either, first_of, one_of}
use Rattle.workspace.specs.Labels.{LabelParts, label_text}
use Rattle.workspace.specs.Workspaces.{Pair}
use Rattle.targets.specs.Steps.{is_failed}
use Rattle.reporting.specs.Answers.{Node, has_some, node_actions, owned_actions}
use Rattle.answers.specs.Answers.{Answer, IsAnswerOf, labels_told}
use Rattle.answers.specs.Laws.{AreAmong, HidesNothing, MoreHidesNothing}
use Rattle.answers.proofs.Enumerated.{in_cases, none_in}
use Rattle.answers.proofs.OneAnswer.{over_same, told_too}

-- ---- a list in the order of another

module _ {X : Type 0} where
  -- the items of a list stand in the other one in the same order
  abbrev Within : List X → List X → Type 0
  Within [] ys = Unit {0}
  Within (x ∷ xs) [] = ⊥
  Within (x ∷ xs) (y ∷ ys) = ((x ≡ y) × Within xs ys) ⊎ Within (x ∷ xs) ys

  behind_one : (y : X) (xs ys : List X) → Within xs ys → Within xs (y ∷ ys)
  behind_one y [] ys w = tt
  behind_one y (x ∷ xs) ys w = inr w

  behind : (cs xs ys : List X) → Within xs ys → Within xs (cs ++ ys)
  behind [] xs ys w = w
  behind (c ∷ cs) xs ys w = behind_one c xs (cs ++ ys) (behind cs xs ys w)

  behind_both : (cs xs ys : List X) → Within xs ys → Within (cs ++ xs) (cs ++ ys)
  behind_both [] xs ys w = w
  behind_both (c ∷ cs) xs ys w = inl (refl, behind_both cs xs ys w)

  -- so do those that pass a test
  passed : (t : X → Bool) (xs ys : List X) → Within xs ys → Within (filter t xs) (filter t ys)
  passed t [] ys w = tt
  passed t (x ∷ xs) [] w = absurd w
  passed t (x ∷ xs) (y ∷ ys) (inl w) = subst (λ z. Within (filter t (x ∷ xs)) (filter t (z ∷ ys))) w.0 (with (t x) (passed t xs ys w.1))
    where
      with : (b : Bool) → Within (filter t xs) (filter t ys) → Within (cond b (x ∷ filter t xs) (filter t xs)) (cond b (x ∷ filter t ys) (filter t ys))
      with true v = inl (refl, v)
      with false v = v
  passed t (x ∷ xs) (y ∷ ys) (inr w) = beside (t y) (filter t (x ∷ xs)) (passed t (x ∷ xs) ys w)
    where
      beside : (b : Bool) (zs : List X) → Within zs (filter t ys) → Within zs (cond b (y ∷ filter t ys) (filter t ys))
      beside true zs v = behind_one y zs (filter t ys) v
      beside false zs v = v

  -- what one of them does, or two of them do, is done there too
  any_there : (t : X → Bool) (xs ys : List X) → Within xs ys → list_any t xs ≡ true → list_any t ys ≡ true
  any_there t [] ys w h = absurd (true≢false (sym h))
  any_there t (x ∷ xs) [] w h = absurd w
  any_there t (x ∷ xs) (y ∷ ys) (inl w) h = elim (either (t x) (list_any t xs) h) [
    | inl p ↦ first_of (t y) (list_any t ys) (ap t (sym w.0) ∙ p)
    | inr q ↦ one_of (t y) (list_any t ys) (any_there t xs ys w.1 q)
  ]
  any_there t (x ∷ xs) (y ∷ ys) (inr w) h = one_of (t y) (list_any t ys) (any_there t (x ∷ xs) ys w h)

  pair_there : (P : X → X → Bool) (xs ys : List X) → Within xs ys → some_pair P xs ≡ true → some_pair P ys ≡ true
  pair_there P [] ys w h = absurd (true≢false (sym h))
  pair_there P (x ∷ xs) [] w h = absurd w
  pair_there P (x ∷ xs) (y ∷ ys) (inl w) h = elim (either (list_any (P x) xs) (some_pair P xs) h) [
    | inl p ↦
        first_of (list_any (P y) ys) (some_pair P ys)
        (subst (λ z. list_any (P z) ys ≡ true) w.0 (any_there (P x) xs ys w.1 p))
    | inr q ↦ one_of (list_any (P y) ys) (some_pair P ys) (pair_there P xs ys w.1 q)
  ]
  pair_there P (x ∷ xs) (y ∷ ys) (inr w) h = one_of (list_any (P y) ys) (some_pair P ys) (pair_there P (x ∷ xs) ys w h)

-- so do the items that each comes to
all_there : {A B : Type 0} (f : A → List B) (xs ys : List A) → Within xs ys → Within (flat_map f xs) (flat_map f ys)
all_there f [] ys w = tt
all_there f (x ∷ xs) [] w = absurd w
all_there f (x ∷ xs) (y ∷ ys) (inl w) =
    subst (λ z. Within (f x ++ flat_map f xs) (f z ++ flat_map f ys)) w.0 (behind_both (f x) (flat_map f xs) (flat_map f ys) (all_there f xs ys w.1))
all_there f (x ∷ xs) (y ∷ ys) (inr w) = behind (f y) (flat_map f (x ∷ xs)) (flat_map f ys) (all_there f (x ∷ xs) ys w)

-- ---- lists that ascend

module _ {A : Type 0} (key : A → List ℕ) where
  abbrev Below : A → A → Type 0
  Below x z = slice_cmp nat_cmp (key x) (key z) ≡ Less

  below_all : (x : A) (xs : List A) → Each (λ t. slice_cmp nat_cmp (key x) t ≡ Less) (map key xs) → (z : A) → Contains xs z → Below x z
  below_all x [] each z h = none_in z h
  below_all x (y ∷ ys) each z h = elim (in_cases y ys z h) [
    | inl is ↦ subst (Below x) is each.0
    | inr later ↦ below_all x ys each.1 z later
  ]

  not_itself : {C : Type 0} (x : A) → Below x x → C
  not_itself x less = let tied : Less ≡ Equal = sym less ∙ tied_itself nat_list_cmp_total (key x) in absurd (cc)

  -- where all items of one are items of the other, they stand there in the same order
  within : (xs ys : List A) → AreAscending (map key xs) → AreAscending (map key ys) → ((z : A) → Contains xs z → Contains ys z) → Within xs ys
  within [] ys up over all = tt
  within (x ∷ xs) [] up over all = none_in x (all x (head_in x xs))
  within (x ∷ xs) (y ∷ ys) up over all = elim (in_cases y ys x (all x (head_in x xs))) [
    | inl is ↦ inl (sym is, within xs ys up.1 over.1 (λ z h. after z h is (in_cases y ys z (all z (tail_in x xs z h)))))
    | inr later ↦ inr (within (x ∷ xs) ys up over.1 (λ z h. past z later (in_cases x xs z h) (in_cases y ys z (all z h))))
  ]
    where
      after : (z : A) → Contains xs z → y ≡ x → (y ≡ z) ⊎ Contains ys z → Contains ys z
      after z h is (inl here) = not_itself x (subst (Below x) (sym here ∙ is) (below_all x xs up.0 z h))
      after z h is (inr there) = there

      past : (z : A) → Contains ys x → (x ≡ z) ⊎ Contains xs z → (y ≡ z) ⊎ Contains ys z → Contains ys z
      past z later from (inr there) = there
      past z later (inl is) (inl here) = not_itself y (subst (Below y) (is ∙ sym here) (below_all y ys over.0 x later))
      past z later (inr h) (inl here) =
          not_itself y
          (nat_list_cmp_total.trans (key y) (key x) (key y) (below_all y ys over.0 x later)
          (subst (Below x) (sym here) (below_all x xs up.0 z h)))

-- ---- what is found wrong

has_among : {X : Type 0} (x : X) (xs : List X) → IsAmong x xs → has_some xs ≡ true
has_among x [] is = absurd is
has_among x (y ∷ ys) is = refl

-- paths that clash in one list of actions clash in the other, so where there is a conflict there is one
conflict_there : (os all : List Owned) → Within os all → has_some (conflicts_of flat os) ≡ true → has_some (conflicts_of flat all) ≡ true
conflict_there os all w h = from (conflicts_of flat os) ((conflicts_law flat os).only) h
  where
    from : (cs : List Conflict) → Each (λ (c : Conflict). (clashes flat c.path os ≡ true) × (c.labels ≡ owners c.path os)) cs → has_some cs ≡ true
        → has_some (conflicts_of flat all) ≡ true
    from [] each some = absurd (true≢false (sym some))
    from (c ∷ cs) each some =
        has_among (record { path = c.path; labels = owners c.path all }) (conflicts_of flat all)
        ((conflicts_law flat all).all c.path (pair_there (clash flat) (filter (declares c.path) os) (filter (declares c.path) all) (passed (declares c.path) os all w) each.0.0))

module _ (files : List Pair) (limit : ℕ) (labels others : List LabelParts) (a b : Answer) (p : IsAnswerOf files labels limit a) (q : IsAnswerOf files others limit b)
    (more : AreAmong labels (labels_told b)) where
  nodes_there : Within a.nodes b.nodes
  nodes_there = within (λ (n : Node). label_text n.label) a.nodes b.nodes p.ordered q.ordered (told_too files limit labels others a b p q more)

  actions_there : Within (owned_actions a.nodes) (owned_actions b.nodes)
  actions_there = all_there node_actions a.nodes b.nodes nodes_there

  abbrev failed : Node → Bool
  failed n = is_failed n.outcome

  loud_there : (has_some a.faults || (list_any failed a.nodes || has_some (conflicts_of flat (owned_actions a.nodes)))) ≡ true
      → (has_some b.faults || (list_any failed b.nodes || has_some (conflicts_of flat (owned_actions b.nodes)))) ≡ true
  loud_there h = elim (either (has_some a.faults) (list_any failed a.nodes || has_some (conflicts_of flat (owned_actions a.nodes))) h) [
    | inl f ↦
        first_of (has_some b.faults) (list_any failed b.nodes || has_some (conflicts_of flat (owned_actions b.nodes)))
        (subst (λ fs. has_some fs ≡ true) (p.faults ∙ sym q.faults) f)
    | inr g ↦
        one_of (has_some b.faults) (list_any failed b.nodes || has_some (conflicts_of flat (owned_actions b.nodes)))
        (elim (either (list_any failed a.nodes) (has_some (conflicts_of flat (owned_actions a.nodes))) g) [
          | inl t ↦ first_of (list_any failed b.nodes) (has_some (conflicts_of flat (owned_actions b.nodes))) (any_there failed a.nodes b.nodes nodes_there t)
          | inr c ↦
              one_of (list_any failed b.nodes) (has_some (conflicts_of flat (owned_actions b.nodes)))
              (conflict_there (owned_actions a.nodes) (owned_actions b.nodes) actions_there c)
        ])
  ]

  hides_nothing : HidesNothing a b
  hides_nothing = record {
    conflicts = λ path. pair_there (clash flat) (filter (declares path) (owned_actions a.nodes)) (filter (declares path) (owned_actions b.nodes))
        (passed (declares path) (owned_actions a.nodes) (owned_actions b.nodes) actions_there);
    loud = loud_there;
  }

pub more_hides_nothing : MoreHidesNothing
more_hides_nothing w v labels others limit a b moved p q more =
    hides_nothing q.files limit labels others a b (over_same w v moved labels others limit a b p q) q.answers more
