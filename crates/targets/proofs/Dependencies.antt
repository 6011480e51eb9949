-- Dependencies are labels, each once, in order.
use Rattle.std.proofs.Common.{◌≡◌, inl, inr, ◌∙◌, Bool, true, false, ◌||◌, List, [], ◌∷◌, ◌++◌, Contains, ap, sym, refl, subst, true≢false, append_assoc, append-nil}
use Rattle.std.specs.List.{list_any, AllByRecursion, IsDistinct}
use Rattle.depsets.specs.Keys.{keep, keep_all, firsts}
use Rattle.depsets.proofs.Keys.{keep-absent, keep_all-append, has-keep_all_cases, Covers-kept}
use Rattle.depsets.specs.Keys.{Covers}
use Rattle.workspace.specs.Labels.{LabelParts, same_label}
use Rattle.targets.specs.Attributes.{labels_of}
use Rattle.targets.specs.Resolving.{dependencies}
use Rattle.targets.specs.declared.target.Target.{Target}
use Rattle.targets.proofs.Facts.{cases_of, none_in, in_split, same_label-own, same_label-same, found_in, in_found}

covered : (ks ls : List LabelParts) (l : LabelParts) → Covers same_label ks ls → Contains ls l → list_any (same_label l) ks ≡ true
covered ks [] l c h = absurd (none_in l h)
covered ks (m ∷ ms) l c h = elim (in_split m ms l h) [
  | inl e ↦ subst (λ (x : LabelParts). list_any (same_label x) ks ≡ true) e c.0
  | inr later ↦ covered ks ms l c.1 later
]

pub are_labels : (t : Target) (l : LabelParts) → (Contains (dependencies t) l → Contains (labels_of t) l) × (Contains (labels_of t) l → Contains (dependencies t) l)
are_labels t l = (to, from)
  where
    to : Contains (dependencies t) l → Contains (labels_of t) l
    to h = elim (has-keep_all_cases same_label [] (labels_of t) l (in_found l (dependencies t) h)) [
      | inl none ↦ absurd (true≢false (sym none))
      | inr there ↦ found_in l (labels_of t) there
    ]

    from : Contains (labels_of t) l → Contains (dependencies t) l
    from h = found_in l (dependencies t) (covered (dependencies t) (labels_of t) l (Covers-kept same_label same_label-own [] (labels_of t)) h)

-- one that isn't among them is different from each
apart_from : (ks : List LabelParts) (k : LabelParts) → list_any (same_label k) ks ≡ false → AllByRecursion (λ y. same_label y k ≡ false) ks
apart_from [] k h = tt
apart_from (x ∷ ks) k h = elim (cases_of (same_label x k)) [
  | inl same ↦ absurd (true≢false (sym (ap (λ b. b || list_any (same_label k) ks) (subst (λ (y : LabelParts). same_label k y ≡ true) (sym (same_label-same x k same)) (same_label-own k))) ∙ h))
  | inr not ↦ (not, apart_from ks k (behind (same_label k x) (list_any (same_label k) ks) h))
]
  where
    behind : (a b : Bool) → (a || b) ≡ false → b ≡ false
    behind true b n = absurd (true≢false n)
    behind false b n = n

all_last : (P : LabelParts → Type 0) (ks : List LabelParts) (k : LabelParts) → AllByRecursion P ks → P k → AllByRecursion P (ks ++ k ∷ [])
all_last P [] k a p = (p, tt)
all_last P (x ∷ ks) k a p = (a.0, all_last P ks k a.1 p)

distinct_last : (ks : List LabelParts) (k : LabelParts) → IsDistinct same_label ks → AllByRecursion (λ y. same_label y k ≡ false) ks → IsDistinct same_label (ks ++ k ∷ [])
unfolding IsDistinct
distinct_last [] k d a = (tt, tt)
distinct_last (x ∷ ks) k d a = (all_last (λ y. same_label x y ≡ false) ks k d.0 a.0, distinct_last ks k d.1 a.1)

kept_distinct : (ks ls : List LabelParts) → IsDistinct same_label ks → IsDistinct same_label (keep_all same_label ks ls)
kept_distinct ks [] d = d
kept_distinct ks (l ∷ ls) d = elim (cases_of (list_any (same_label l) ks)) [
  | inl there ↦ kept_distinct (keep same_label ks l) ls (subst (λ (xs : List LabelParts). IsDistinct same_label xs) (sym (stays there)) d)
  | inr not ↦ kept_distinct (keep same_label ks l) ls (subst (λ (xs : List LabelParts). IsDistinct same_label xs) (sym (keep-absent same_label ks l not)) (distinct_last ks l d (apart_from ks l not)))
]
  where
    stays : list_any (same_label l) ks ≡ true → keep same_label ks l ≡ ks
    stays h = rw h refl

none_distinct : IsDistinct same_label []
unfolding IsDistinct
none_distinct = tt

pub are_distinct : (t : Target) → IsDistinct same_label (dependencies t)
are_distinct t = kept_distinct [] (labels_of t) none_distinct

-- what is kept stands behind what was there
kept_behind : (ks ls : List LabelParts) → (behind : List LabelParts) × (keep_all same_label ks ls ≡ ks ++ behind)
kept_behind ks [] = ([], sym (append-nil ks))
kept_behind ks (l ∷ ls) = elim (cases_of (list_any (same_label l) ks)) [
  | inl there ↦
      let r = kept_behind (keep same_label ks l) ls in
      (r.0, r.1 ∙ ap (λ (xs : List LabelParts). xs ++ r.0) (rw there refl))
  | inr not ↦
      let r = kept_behind (keep same_label ks l) ls in
      (l ∷ r.0, r.1 ∙ ap (λ (xs : List LabelParts). xs ++ r.0) (keep-absent same_label ks l not) ∙ append_assoc ks (l ∷ []) r.0)
]

pub keep_order : (ls more : List LabelParts) → (behind : List LabelParts) × (firsts same_label (ls ++ more) ≡ firsts same_label ls ++ behind)
keep_order ls more =
    let r = kept_behind (firsts same_label ls) more in
    (r.0, keep_all-append same_label [] ls more ∙ r.1)
