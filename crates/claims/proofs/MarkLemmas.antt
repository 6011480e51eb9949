-- An action that isn't marked is equal to no other.
use Rattle.std.proofs.Common.{◌≡◌, ◌∙◌, inl, inr, ◌<◌, ◌≤◌, ◌||◌, ℕ, zero, suc, Bool, true, false, List, [], ◌∷◌, length, map, get_or, set, Contains, refl, sym, ap, subst, arith}
use Rattle.std.specs.List.{list_any}
use Rattle.std.specs.Str.{bytes_eq}
use Rattle.std.proofs.lemmas.Bool.{true≢false}
use Rattle.std.proofs.lemmas.List.{get_or-map}
use Rattle.std.proofs.lemmas.Slice.Eq.{bytes_eq-Decides}
use Rattle.depsets.specs.Own.{Own}
use Rattle.depsets.specs.Rose.{Rose}
use Rattle.depsets.specs.declared.element.Element.{Element}
use Rattle.depsets.specs.declared.element.FileRef.{FileRef}
use Rattle.claims.specs.Clashes.{IsAmong, declares}
use Rattle.claims.specs.Commons.{commons_of, members}
use Rattle.claims.specs.Leaders.{leaders, leaders_from}
use Rattle.claims.specs.Marks.{is_none, is_bare, marked_by, marked_all}
use Rattle.claims.specs.Owned.{Owned}
use Rattle.claims.specs.Same.{same_parts, path_of}
use Rattle.claims.specs.declared.commons.Common.{Common}
use Rattle.claims.specs.declared.members.Member.{Member}
use Rattle.claims.proofs.CommonLemmas.{commons_law}
use Rattle.claims.proofs.LeaderLemmas.{IsApart, parts, leaders_found}
use Rattle.claims.proofs.MemberLemmas.{is_member}
use Rattle.claims.proofs.SameLemmas.{parts_same}

-- ---- marks

is_set : (bs : List Bool) (i : ℕ) → get_or (set bs i true) i true ≡ true
is_set [] i = refl
is_set (b ∷ bs) zero = refl
is_set (b ∷ bs) (suc i) = is_set bs i

stays_set : (bs : List Bool) (i k : ℕ) → get_or bs i true ≡ true → get_or (set bs k true) i true ≡ true
stays_set [] i k h = refl
stays_set (b ∷ bs) zero zero h = refl
stays_set (b ∷ bs) zero (suc k) h = h
stays_set (b ∷ bs) (suc i) zero h = h
stays_set (b ∷ bs) (suc i) (suc k) h = stays_set bs i k h

stays_by : (bs : List Bool) (ms : List Member) (i : ℕ) → get_or bs i true ≡ true → get_or (marked_by bs ms) i true ≡ true
stays_by bs [] i h = h
stays_by bs (m ∷ ms) i h = stays_by (set bs m.place true) ms i (stays_set bs i m.place h)

stays_all : (bs : List Bool) (cs : List Common) (i : ℕ) → get_or bs i true ≡ true → get_or (marked_all bs cs) i true ≡ true
stays_all bs [] i h = h
stays_all bs (c ∷ cs) i h = stays_all (marked_by bs c.members) cs i (stays_by bs c.members i h)

member_marked : (bs : List Bool) (ms : List Member) (m : Member) → Contains ms m → get_or (marked_by bs ms) m.place true ≡ true
member_marked bs [] m (k, low, is) = absurd (omega (arith, low))
member_marked bs (n ∷ ms) m (zero, low, is) =
    stays_by (set bs n.place true) ms m.place (subst (λ (x : Member). get_or (set bs n.place true) x.place true ≡ true) is (is_set bs n.place))
member_marked bs (n ∷ ms) m (suc k, low, is) = member_marked (set bs n.place true) ms m (k, omega (arith, low), is)

common_marked : (bs : List Bool) (cs : List Common) (c : Common) (m : Member) → IsAmong c cs → Contains c.members m
    → get_or (marked_all bs cs) m.place true ≡ true
common_marked bs [] c m h has = absurd h
common_marked bs (e ∷ cs) c m (inl is) has =
    stays_all (marked_by bs e.members) cs m.place (member_marked bs e.members m (subst (λ (x : Common). Contains x.members m) is has))
common_marked bs (e ∷ cs) c m (inr h) has = common_marked (marked_by bs e.members) cs c m h has

-- two that are not the same are two at least
pub two_there : {X : Type 0} (xs : List X) (a b : X) → Contains xs a → Contains xs b → (a ≡ b → ⊥) → 2 ≤ length xs
two_there [] a b (i, low, is) has apart = absurd (omega (arith, low))
two_there (x ∷ []) a b (zero, low, is) (zero, less, same) apart = absurd (apart (sym is ∙ same))
two_there (x ∷ []) a b (suc i, low, is) (j, less, same) apart = absurd (omega (arith, low))
two_there (x ∷ []) a b (zero, low, is) (suc j, less, same) apart = absurd (omega (arith, less))
two_there (x ∷ y ∷ xs) a b has too apart = omega arith

module _ (listing : Rose Own → List Element) (os : List Owned) (d : Owned) where
  abbrev marks : List Bool
  marks = marked_all (map is_bare os) (commons_of os)

  -- what declares nothing is marked
  bare_marked : (i : ℕ) → i < length os → is_bare (get_or os i d) ≡ true → get_or marks i true ≡ true
  bare_marked i low h = stays_all (map is_bare os) (commons_of os) i (get_or-map is_bare os i d true low ∙ h)

  -- what declares a path that another declares too is marked
  common_is_marked : (p : List ℕ) (i j : ℕ) → i < length os → j < length os → (i ≡ j → ⊥) → declares p (get_or os i d) ≡ true
      → declares p (get_or os j d) ≡ true → get_or marks i true ≡ true
  common_is_marked p i j low less apart here there =
      let m : Member = record { label = (get_or os i d).label; place = i } in
      let n : Member = record { label = (get_or os j d).label; place = j } in
      let one = is_member os d p i low here in
      let two = two_there (members p os) m n one (is_member os d p j less there) (λ e. apart (ap (λ (x : Member). x.place) e)) in
      common_marked (map is_bare os) (commons_of os) (record { path = p; members = members p os }) m ((commons_law os).all p two) one

  declares_first : (f : FileRef) (fs gs : List FileRef) → gs ≡ f ∷ fs → list_any (λ g. bytes_eq f.path g.path) gs ≡ true
  declares_first f fs gs e =
      ap (list_any (λ g. bytes_eq f.path g.path)) e ∙ ap (λ b. b || list_any (λ g. bytes_eq f.path g.path) fs) ((bytes_eq-Decides f.path f.path).1 refl)

  declares_path : (f : FileRef) (fs gs : List FileRef) → map path_of gs ≡ path_of f ∷ map path_of fs → list_any (λ g. bytes_eq f.path g.path) gs ≡ true
  declares_path f fs [] e = absurd (let n = ap length e in omega (arith, n))
  declares_path f fs (g ∷ gs) e =
      ap (λ b. b || list_any (λ h. bytes_eq f.path h.path) gs) ((bytes_eq-Decides f.path g.path).1 (sym (ap (λ l. get_or l 0 f.path) e)))

  equal_marked : (i j : ℕ) → i < length os → j < length os → (i ≡ j → ⊥) → same_parts (parts listing os d i) (parts listing os d j) ≡ true
      → (fs : List FileRef) → (get_or os i d).action.outputs ≡ fs → get_or marks i true ≡ true
  equal_marked i j low less apart same [] e = bare_marked i low (ap is_none e)
  equal_marked i j low less apart same (f ∷ fs) e =
      let paths = ap (λ c. c.outputs) (parts_same (parts listing os d i) (parts listing os d j) same) in
      common_is_marked f.path i j low less apart (declares_first f fs (get_or os i d).action.outputs e)
      (declares_path f fs (get_or os j d).action.outputs (sym paths ∙ ap (map path_of) e))

  apart_by : (i j : ℕ) → i < length os → j < length os → (i ≡ j → ⊥) → get_or marks i true ≡ false → (b : Bool) → same_parts (parts listing os d i) (parts listing os d j) ≡ b
      → same_parts (parts listing os d i) (parts listing os d j) ≡ false
  apart_by i j low less apart off true e =
      absurd (true≢false (sym (equal_marked i j low less apart e (get_or os i d).action.outputs refl) ∙ off))
  apart_by i j low less apart off false e = e

  is_apart : IsApart listing marks os d
  is_apart i j low less apart off = apart_by i j low less apart off (same_parts (parts listing os d i) (parts listing os d j)) refl

-- by the marks of common paths the leaders are found
pub leaders_by_marks : (listing : Rose Own → List Element) (os : List Owned)
    → leaders_from listing (marked_all (map is_bare os) (commons_of os)) [] 0 os ≡ leaders listing os
leaders_by_marks listing [] = refl
leaders_by_marks listing (o ∷ os) =
    leaders_found listing (marked_all (map is_bare (o ∷ os)) (commons_of (o ∷ os))) (o ∷ os) o (is_apart listing (o ∷ os) o)
