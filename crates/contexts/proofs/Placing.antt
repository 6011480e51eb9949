-- Places of labels, found from the last dependency to the first.
use Rattle.std.proofs.Common.{◌≡◌, ◌∙◌, ℕ, ◌+◌, ◌<◌, ◌&&◌, Bool, true, false, List, [], ◌∷◌, ◌++◌, Option, Some, length, drop, get_or, ap, sym, subst, refl, cond, arith}
use Rattle.std.proofs.lemmas.Cmp.{nat_list_eq_equiv}
use Rattle.std.proofs.lemmas.List as list
use Rattle.std.proofs.lemmas.List.{append_assoc, drop-map, drop_more, length_push}
use Rattle.std.specs.Prelude.{if◌then◌else◌, unwrap_or}
use Rattle.indexmap.specs.IndexMap.{IndexMap, Updates, get}
use Rattle.workspace.specs.Labels.{LabelParts, same_label}
use Rattle.targets.specs.Checks.{Dependency}
use Rattle.analysis.specs.Seen.{dependency_seen, dependencies_seen}
use Rattle.analysis.specs.declared.dependency.Dependency.{Dependency as Lying}
use Rattle.contexts.specs.Fields.{place_of}
use Rattle.contexts.specs.Placed.{Key, key_label, same_key, ArePlaced, first_at, HasFirst}

pub same_label_sym : (a b : LabelParts) → same_label a b ≡ same_label b a
same_label_sym a b = λ i. nat_list_eq_equiv.symm a.«package» b.«package» i && nat_list_eq_equiv.symm a.name b.name i

pub as_first : (b : Bool) (i : ℕ) (o : Option ℕ) → cond b (Some i) o ≡ first_at b i o
as_first true i o = refl
as_first false i o = refl

turn : (b : Bool) (i n r : ℕ) (o : Option ℕ) → unwrap_or o n ≡ (i + 1) + r → unwrap_or (first_at b i o) n ≡ i + (if b then 0 else r + 1)
turn true i n r o h = omega arith
turn false i n r o h = omega (arith, h)

-- a dependency where it lies
at_drop : (ds : List Lying) (i : ℕ) (d : Lying) → i < length ds → d ≡ get_or ds i d → drop i (dependencies_seen ds) ≡ dependency_seen d ∷ drop (i + 1) (dependencies_seen ds)
at_drop ds i d low e =
    drop-map dependency_seen i ds
    ∙ ap dependencies_seen (drop_more ds i d low ∙ ap (λ x. x ∷ drop (i + 1) ds) (sym e))
    ∙ ap (λ xs. dependency_seen d ∷ xs) (sym (drop-map dependency_seen (i + 1) ds))

-- ---- by going through them

tested : (ds : List Lying) (i : ℕ) (d : Lying) (l m : LabelParts) (b : Bool) → i < length ds → d ≡ get_or ds i d → m ≡ d.label.now → b ≡ same_label l m
    → place_of (drop i (dependencies_seen ds)) l ≡ (if b then 0 else place_of (drop (i + 1) (dependencies_seen ds)) l + 1)
tested ds i d l m b low at is test =
    ap (λ (xs : List Dependency). place_of xs l) (at_drop ds i d low at)
    ∙ ap (λ (t : Bool). if t then 0 else place_of (drop (i + 1) (dependencies_seen ds)) l + 1) (ap (same_label l) (sym is) ∙ sym test)

pub here : (ds : List Lying) (i : ℕ) (d : Lying) (l m : LabelParts) (b : Bool) → i < length ds → d ≡ get_or ds i d → m ≡ d.label.now → b ≡ same_label l m → b ≡ true
    → i + place_of (drop i (dependencies_seen ds)) l ≡ place_of (dependencies_seen ds) l → i ≡ place_of (dependencies_seen ds) l
here ds i d l m b low at is test same h =
    let e : place_of (drop i (dependencies_seen ds)) l ≡ 0 =
    tested ds i d l m b low at is test ∙ ap (λ (t : Bool). if t then 0 else place_of (drop (i + 1) (dependencies_seen ds)) l + 1) same in
    omega (arith, e, h)

pub later : (ds : List Lying) (i : ℕ) (d : Lying) (l m : LabelParts) (b : Bool) → i < length ds → d ≡ get_or ds i d → m ≡ d.label.now → b ≡ same_label l m → b ≡ false
    → i + place_of (drop i (dependencies_seen ds)) l ≡ place_of (dependencies_seen ds) l → (i + 1) + place_of (drop (i + 1) (dependencies_seen ds)) l ≡ place_of (dependencies_seen ds) l
later ds i d l m b low at is test other h =
    let e : place_of (drop i (dependencies_seen ds)) l ≡ place_of (drop (i + 1) (dependencies_seen ds)) l + 1 =
    tested ds i d l m b low at is test ∙ ap (λ (t : Bool). if t then 0 else place_of (drop (i + 1) (dependencies_seen ds)) l + 1) other in
    omega (arith, e, h)

-- ---- by hash

-- what is left before the last of those left
pub left_over : (ds rest less : List Lying) (d : Lying) → rest ≡ less ++ d ∷ [] → rest ++ drop (length rest) ds ≡ ds
    → (drop (length less) ds ≡ d ∷ drop (length less + 1) ds) × (less ++ drop (length less) ds ≡ ds)
left_over ds rest less d p front =
    let e : length rest ≡ length less + 1 = ap length p ∙ length_push less d in
    let whole : less ++ d ∷ drop (length rest) ds ≡ ds = sym (append_assoc less (d ∷ []) (drop (length rest) ds)) ∙ ap (λ xs. xs ++ drop (length rest) ds) (sym p) ∙ front in
    let last : drop (length less) ds ≡ d ∷ drop (length rest) ds = ap (drop (length less)) (sym whole) ∙ list.drop_at less (d ∷ drop (length rest) ds) (length less) refl in (
      last ∙ ap (λ n. d ∷ drop n ds) e,
      ap (λ xs. less ++ xs) last ∙ whole,
    )

module _ {S : Type 0} where
  -- the map has the first place of each label of the dependencies from here on
  abbrev pub ArePlacedFrom : ℕ → List Dependency → IndexMap Key ℕ S → Type 0
  ArePlacedFrom i ds places = (q : Key) → unwrap_or (get same_key places q) (length ds) ≡ i + place_of (drop i ds) (key_label q)

  abbrev Places : List Lying → ℕ → IndexMap Key ℕ S → Type 0
  Places ds i places = ArePlacedFrom i (dependencies_seen ds) places

  placed_step : (i : ℕ) (ds : List Dependency) (d : Dependency) (olds news : IndexMap Key ℕ S) → drop i ds ≡ d ∷ drop (i + 1) ds
      → HasFirst d.0 i olds news → ArePlacedFrom (i + 1) ds olds → ArePlacedFrom i ds news
  placed_step i ds d olds news at put h = λ q.
      ap (λ o. unwrap_or o (length ds)) (put q)
      ∙ turn (same_label (key_label q) d.0) i (length ds) (place_of (drop (i + 1) ds) (key_label q)) (get same_key olds q) (h q)
      ∙ ap (λ (l : List Dependency). i + place_of l (key_label q)) (sym at)

  -- a turn of the loop over places, of which those before this one are left
  pub placed_at : (ds rest less : List Lying) (i : ℕ) (d : Lying) (l : LabelParts) (olds news : IndexMap Key ℕ S) → rest ≡ less ++ d ∷ [] → rest ++ drop (length rest) ds ≡ ds → i ≡ length less
      → l ≡ d.label.now → HasFirst l i olds news → Places ds (length rest) olds → Places ds (length less) news
  placed_at ds rest less i d l olds news p front same is put h =
      let e : length rest ≡ length less + 1 = ap length p ∙ length_push less d in
      let at = (left_over ds rest less d p front).0 in
      placed_step (length less) (dependencies_seen ds) (dependency_seen d) olds news
      (drop-map dependency_seen (length less) ds ∙ ap dependencies_seen at ∙ ap (λ xs. dependency_seen d ∷ xs) (sym (drop-map dependency_seen (length less + 1) ds)))
      (subst (λ (m : LabelParts). HasFirst m (length less) olds news) is (subst (λ (n : ℕ). HasFirst l n olds news) same put)) (subst (λ (n : ℕ). Places ds n olds) e h)

  -- a label that is put
  pub first_put : (k : Key) (l : LabelParts) (i : ℕ) (olds news : IndexMap Key ℕ S) → key_label k ≡ l → Updates same_key olds news k (Some i) → HasFirst l i olds news
  first_put k l i olds news is h = λ q.
      let before = get same_key olds q in
      h.0 q ∙ ap (λ (b : Bool). cond b (Some i) before) (same_label_sym (key_label k) (key_label q))
      ∙ as_first (same_label (key_label q) (key_label k)) i before
      ∙ ap (λ (m : LabelParts). first_at (same_label (key_label q) m) i before) is

  -- what the map has at the key of a label
  pub found_at : (ds seen : List Dependency) (places : IndexMap Key ℕ S) (k : Key) (l : LabelParts) (o : Option ℕ) → o ≡ get same_key places k → ArePlaced ds places → ds ≡ seen → key_label k ≡ l
      → unwrap_or o (length ds) ≡ place_of seen l
  found_at ds seen places k l o e h same is =
      ap (λ p. unwrap_or p (length ds)) e ∙ h k ∙ (λ i. place_of (same i) (is i))
