-- Dependencies that are found by their labels.
use Rattle.std.proofs.Common.{◌≡◌, inl, inr, ◌∙◌, ◌<◌, ◌+◌, ℕ, Bool, true, false, List, [], ◌∷◌, ◌++◌, Option, Some, None, length, take, get_or, ap, sym, refl, cond, true≢false}
use Rattle.std.proofs.lemmas.List.{map-append, take_more}
use Rattle.std.specs.Prelude.{option_map, option_copied, is_some, if◌then◌else◌}
use Rattle.std.specs.Option.{option_or}
use Rattle.std.specs.Map.{lookup}
use Rattle.std.specs.BTreeMap.{BTreeMap, Updates, get, get_by, is_at}
use Rattle.std.specs.Cmp.Lexicographic.{slice_cmp}
use Rattle.std.specs.Ordering.{nat_cmp, ordering_then}
use Rattle.workspace.specs.Labels.{LabelParts, label_text, same_label}
use Rattle.targets.specs.Checks.{Dependency as Seen, dependency_of}
use Rattle.std.specs.Borrow.{Bor}
use Rattle.targets.proofs.Facts.{cases_of, same_label-same}
use Rattle.analysis.specs.Keyed.{Key, key_label, key_cmp, text_digest, IsKey}
use Rattle.analysis.specs.Seen.{dependency_seen, dependencies_seen, AreFound, HasMore}
use Rattle.analysis.specs.declared.dependency.Dependency.{Dependency}
use Rattle.analysis.proofs.Keyed.{at_key}

-- what a map has depends on digest, name and package alone
abbrev by_key : BTreeMap Key Dependency → ℕ → LabelParts → Option Dependency
by_key m d l =
    get_by (λ (p : Key). ordering_then (ordering_then (nat_cmp d p.0) (slice_cmp nat_cmp l.name p.1.now)) (slice_cmp nat_cmp l.«package» p.2.now)) m

same_found : (m : BTreeMap Key Dependency) (q k : Key) → IsKey q → IsKey k → same_label (key_label q) (key_label k) ≡ true → get key_cmp m q ≡ get key_cmp m k
same_found m q k of_q of_k h =
    ap (λ (d : ℕ). by_key m d (key_label q)) of_q
    ∙ ap (λ (l : LabelParts). by_key m (text_digest (label_text l)) l) (same_label-same (key_label q) (key_label k) h)
    ∙ ap (λ (d : ℕ). by_key m d (key_label k)) (sym of_k)

first_none : {A : Type 0} (o : Option A) → o ≡ option_or o None
first_none None = refl
first_none (Some a) = refl

some_first : {A : Type 0} (o p : Option A) → is_some o ≡ true → o ≡ option_or o p
some_first None p h = absurd (true≢false (sym h))
some_first (Some a) p h = refl

none_first : {A : Type 0} (o p : Option A) → is_some o ≡ false → p ≡ option_or o p
none_first None p h = refl
none_first (Some a) p h = absurd (true≢false h)

mapped_some : {A B : Type 0} (f : A → B) (o : Option A) → is_some (option_map f o) ≡ is_some o
mapped_some f None = refl
mapped_some f (Some a) = refl

module _ (d : Dependency) (k : Key) (is : key_label k ≡ d.label.now) (of_k : IsKey k) where
  one : (q : Key) (b : Bool) → same_label (key_label q) (key_label k) ≡ b → dependency_of (dependency_seen d ∷ []) (key_label q) ≡ (if b then Some (dependency_seen d) else None)
  one q b h =
      ap (λ (l : LabelParts). if same_label (key_label q) l then Some (dependency_seen d) else None) (sym is) ∙ ap (λ (c : Bool). if c then Some (dependency_seen d) else None) h

  -- one of the label is there
  pub has_more_there : (m : BTreeMap Key Dependency) → is_some (get key_cmp m k) ≡ true → HasMore d m m
  has_more_there m there = λ q of_q. elim (cases_of (same_label (key_label q) (key_label k))) [
    | inl same ↦
        some_first (option_map dependency_seen (get key_cmp m q)) (dependency_of (dependency_seen d ∷ []) (key_label q))
        (mapped_some dependency_seen (get key_cmp m q) ∙ ap is_some (same_found m q k of_q of_k same) ∙ there)
    | inr not ↦
        first_none (option_map dependency_seen (get key_cmp m q)) ∙ ap (option_or (option_map dependency_seen (get key_cmp m q))) (sym (one q false not))
  ]

  -- none is, and the dependency is put
  pub has_more_put : (olds news : BTreeMap Key Dependency) → is_some (get key_cmp olds k) ≡ false → Updates key_cmp olds news k (Some d) → HasMore d olds news
  has_more_put olds news absent more = λ q of_q. elim (cases_of (same_label (key_label q) (key_label k))) [
    | inl same ↦
        ap (option_map dependency_seen) (more.0 q ∙ ap (λ b. cond b (Some d) (get key_cmp olds q)) (at_key k q of_k of_q ∙ same))
        ∙ none_first (option_map dependency_seen (get key_cmp olds q)) (Some (dependency_seen d)) (mapped_some dependency_seen (get key_cmp olds q) ∙ ap is_some (same_found olds q k of_q of_k same) ∙ absent)
        ∙ ap (option_or (option_map dependency_seen (get key_cmp olds q))) (sym (one q true same))
    | inr not ↦
        ap (option_map dependency_seen) (more.0 q ∙ ap (λ b. cond b (Some d) (get key_cmp olds q)) (at_key k q of_k of_q ∙ not))
        ∙ first_none (option_map dependency_seen (get key_cmp olds q)) ∙ ap (option_or (option_map dependency_seen (get key_cmp olds q))) (sym (one q false not))
  ]

-- the dependency of a label in two lists, one behind the other
of_both : (xs ys : List Seen) (l : LabelParts) → dependency_of (xs ++ ys) l ≡ option_or (dependency_of xs l) (dependency_of ys l)
of_both [] ys l = refl
of_both (x ∷ xs) ys l = at (same_label l x.0) (of_both xs ys l)
  where
    at : (b : Bool) → dependency_of (xs ++ ys) l ≡ option_or (dependency_of xs l) (dependency_of ys l)
        → (if b then Some x else dependency_of (xs ++ ys) l) ≡ option_or (if b then Some x else dependency_of xs l) (dependency_of ys l)
    at true h = refl
    at false h = h

pub found_none : (m : BTreeMap Key Dependency) → m.entries ≡ [] → AreFound [] m
found_none m none = λ q _. ap (λ (es : List (Key × Dependency)). option_map dependency_seen (lookup (is_at (key_cmp q)) es)) none

-- a turn of the loop over the dependencies
pub found_step : (ds : List Dependency) (i : ℕ) (d : Dependency) (olds news : BTreeMap Key Dependency) → i < length ds → AreFound (dependencies_seen (take i ds)) olds
    → HasMore (get_or ds i d) olds news → AreFound (dependencies_seen (take (i + 1) ds)) news
found_step ds i d olds news lt h more = λ q of_q.
    let x = get_or ds i d in
    let grown : dependencies_seen (take (i + 1) ds) ≡ dependencies_seen (take i ds) ++ dependency_seen x ∷ []
    = ap dependencies_seen (take_more ds i d lt) ∙ map-append dependency_seen (take i ds) (x ∷ []) in
    more q of_q ∙ ap (λ o. option_or o (dependency_of (dependency_seen x ∷ []) (key_label q))) (h q of_q)
    ∙ sym (of_both (dependencies_seen (take i ds)) (dependency_seen x ∷ []) (key_label q))
    ∙ ap (λ (xs : List Seen). dependency_of xs (key_label q)) (sym grown)

-- what the map has at the key of a label
pub got : (o : Option (Bor Dependency)) (m : BTreeMap Key Dependency) (k : Key) (ds : List Seen) (l : LabelParts) → option_copied o ≡ get key_cmp m k → AreFound ds m → IsKey k → key_label k ≡ l
    → option_map (λ (d : Bor Dependency). dependency_seen d.now) o ≡ dependency_of ds l
got o m k ds l is h of_k at = twice o ∙ ap (option_map dependency_seen) is ∙ h k of_k ∙ ap (dependency_of ds) at
  where
    twice : (o : Option (Bor Dependency)) → option_map (λ (d : Bor Dependency). dependency_seen d.now) o ≡ option_map dependency_seen (option_copied o)
    twice None = refl
    twice (Some d) = refl
