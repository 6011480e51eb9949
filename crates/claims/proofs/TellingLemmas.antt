-- By leaders and their sets each action is told as it is to be.
use Rattle.std.proofs.Common.{◌≡◌, ◌∙◌, ◌<◌, ◌+◌, ℕ, zero, suc, Bool, true, false, cond, List, [], ◌∷◌, ◌++◌, length, map, get_or, set, Option, Some, None, refl, sym, ap, arith, append_assoc, if◌then◌else◌}
use Rattle.std.specs.Prelude.{slice_index_or, nat_eq}
use Rattle.std.specs.List.{AllZip, filter}
use Rattle.std.proofs.lemmas.Bool.{true≢false}
use Rattle.std.proofs.lemmas.Bool.Decides.{Decides-eqb}
use Rattle.std.proofs.lemmas.List.{append-nil, get_or-map, get_or-set_other}
use Rattle.depsets.specs.Own.{Own}
use Rattle.depsets.specs.Rose.{Rose}
use Rattle.depsets.specs.declared.element.Element.{Element}
use Rattle.claims.specs.Buckets.{led_from, member_at, no_members, put_at, put_all}
use Rattle.claims.specs.Leaders.{leader, leaders}
use Rattle.claims.specs.Members.{label_of}
use Rattle.claims.specs.Owned.{Owned}
use Rattle.claims.specs.Same.{same_action}
use Rattle.claims.specs.Sets.{IsSetOf}
use Rattle.claims.specs.Telling.{in_text_order, telling, telling_of}
use Rattle.claims.specs.Tellings.{is_first, telling_by, tellings_from}
use Rattle.claims.specs.declared.members.Member.{Member}
use Rattle.claims.specs.declared.sets.Shared.{Shared}
use Rattle.claims.specs.declared.telling.Telling.TheVariants.{Alone, Owners, Elsewhere}
use Rattle.claims.proofs.ConflictLemmas.{hit, same_leader, alike_leader}
use Rattle.claims.proofs.LeaderLemmas.{parts}
use Rattle.claims.proofs.Pairs.{not_true}
use Rattle.claims.proofs.SameLemmas.{parts_itself}
use Rattle.claims.proofs.SetLemmas.{owners_in_order}

-- ---- what stands in a bucket

put_here : (bs : List (List Member)) (l : ℕ) (m : Member) → l < length bs → get_or (put_at bs l m) l [] ≡ get_or bs l [] ++ m ∷ []
put_here bs l m low = at bs l (get_or bs l [] ++ m ∷ []) low
  where
    at : (xs : List (List Member)) (i : ℕ) (x : List Member) → i < length xs → get_or (set xs i x) i [] ≡ x
    at [] i x low = absurd (omega (arith, low))
    at (y ∷ ys) zero x low = refl
    at (y ∷ ys) (suc i) x low = at ys i x (omega (arith, low))

set_other : (xs : List (List Member)) (i j : ℕ) (x : List Member) → nat_eq j i ≡ false → get_or (set xs i x) j [] ≡ get_or xs j []
set_other xs i j x h = get_or-set_other xs i j x [] (λ e. true≢false (sym ((Decides-eqb j i).1 e) ∙ h))

long_put : (xs : List (List Member)) (i : ℕ) (x : List Member) → length (set xs i x) ≡ length xs
long_put [] i x = refl
long_put (y ∷ ys) zero x = refl
long_put (y ∷ ys) (suc i) x = ap suc (long_put ys i x)

module _ (ls : List ℕ) (l : ℕ) where
  put_one : (bs : List (List Member)) (n : ℕ) (o : Owned) (rest : List Member) → l < length bs → (b : Bool) → nat_eq l (slice_index_or ls n n) ≡ b
      → get_or (put_at bs (slice_index_or ls n n) (member_at o n)) l [] ++ rest ≡ get_or bs l [] ++ (if b then member_at o n ∷ rest else rest)
  put_one bs n o rest low true e =
      ap (λ k. get_or (put_at bs k (member_at o n)) l [] ++ rest) (sym ((Decides-eqb l (slice_index_or ls n n)).0 e))
      ∙ ap (λ ms. ms ++ rest) (put_here bs l (member_at o n) low) ∙ append_assoc (get_or bs l []) (member_at o n ∷ []) rest
  put_one bs n o rest low false e =
      ap (λ ms. ms ++ rest) (set_other bs (slice_index_or ls n n) l (get_or bs (slice_index_or ls n n) [] ++ member_at o n ∷ []) e)

  filled : (bs : List (List Member)) (n : ℕ) (os : List Owned) → l < length bs → get_or (put_all ls bs n os) l [] ≡ get_or bs l [] ++ led_from ls l n os
  filled bs n [] low = sym (append-nil (get_or bs l []))
  filled bs n (o ∷ os) low =
      let k = slice_index_or ls n n in
      let same : length (put_at bs k (member_at o n)) ≡ length bs = long_put bs k (get_or bs k [] ++ member_at o n ∷ []) in
      filled (put_at bs k (member_at o n)) (n + 1) os (let e = same in omega (arith, low, e))
      ∙ put_one bs n o (led_from ls l (n + 1) os) low (nat_eq l k) refl

  none_yet : (os : List Owned) → get_or (map no_members os) l [] ≡ []
  none_yet os = nothing os l
    where
      nothing : (ps : List Owned) (i : ℕ) → get_or (map no_members ps) i [] ≡ []
      nothing [] i = refl
      nothing (p ∷ ps) zero = refl
      nothing (p ∷ ps) (suc i) = nothing ps i

  pub long_empty : (os : List Owned) → length (map no_members os) ≡ length os
  long_empty [] = refl
  long_empty (o ∷ os) = ap suc (long_empty os)

  pub bucket_is : (os : List Owned) → l < length os → get_or (put_all ls (map no_members os) 0 os) l [] ≡ led_from ls l 0 os
  bucket_is os low =
      let e = long_empty os in filled (map no_members os) 0 os (omega (arith, low, e)) ∙ ap (λ ms. ms ++ led_from ls l 0 os) (none_yet os)

-- ---- these are the equal ones

module _ (listing : Rose Own → List Element) (os : List Owned) (d : Owned) (i : ℕ) (low : i < length os) where
  abbrev this : Owned
  this = get_or os i d

  abbrev mine : ℕ
  mine = leader listing os this

  abbrev equal : Owned → Bool
  equal p = same_action listing this.action p.action

  tells : (n : ℕ) → n < length os → (b : Bool) → same_action listing this.action (get_or os n d).action ≡ b
      → nat_eq mine (slice_index_or (leaders listing os) n n) ≡ b
  tells n less true h =
      (Decides-eqb mine (slice_index_or (leaders listing os) n n)).1
      (alike_leader listing os d i n h ∙ sym (get_or-map (leader listing os) os n d n less))
  tells n less false h =
      not_true (nat_eq mine (slice_index_or (leaders listing os) n n))
      (λ e. true≢false (sym (same_leader listing os d i n low less
      ((Decides-eqb mine (slice_index_or (leaders listing os) n n)).0 e ∙ get_or-map (leader listing os) os n d n less)) ∙ h))

  labels_led : (n : ℕ) (rest : List Owned) → length os ≡ n + length rest → ((k : ℕ) → k < length rest → get_or rest k d ≡ get_or os (n + k) d)
      → map label_of (led_from (leaders listing os) mine n rest) ≡ map (λ p. p.label) (filter equal rest)
  labels_led n [] size same = refl
  labels_led n (o ∷ rest) size same =
      at (equal o) (tells n (omega (arith, size)) (equal o) (ap equal (sym is)))
      (labels_led (n + 1) rest (omega (arith, size)) (λ k less. same (suc k) (omega (arith, less)) ∙ ap (λ j. get_or os j d) (let e : n + suc k ≡ n + 1 + k = omega arith in e)))
    where
      is : o ≡ get_or os n d
      is = same 0 (omega arith) ∙ ap (λ j. get_or os j d) (let e : n + 0 ≡ n = omega arith in e)

      at : (b : Bool) → nat_eq mine (slice_index_or (leaders listing os) n n) ≡ b
          → map label_of (led_from (leaders listing os) mine (n + 1) rest) ≡ map (λ p. p.label) (filter equal rest)
          → map label_of (led_from (leaders listing os) mine n (o ∷ rest)) ≡ map (λ p. p.label) (cond b (o ∷ filter equal rest) (filter equal rest))
      at true e more =
          ap (λ b. map label_of (if b then member_at o n ∷ led_from (leaders listing os) mine (n + 1) rest else led_from (leaders listing os) mine (n + 1) rest)) e
          ∙ ap (λ l. o.label ∷ l) more
      at false e more =
          ap (λ b. map label_of (if b then member_at o n ∷ led_from (leaders listing os) mine (n + 1) rest else led_from (leaders listing os) mine (n + 1) rest)) e
          ∙ more

  abbrev bucket : List Member
  bucket = get_or (put_all (leaders listing os) (map no_members os) 0 os) mine []

  pub leader_low : mine < length os
  leader_low = (hit equal os i d low (parts_itself (parts listing os d i))).0

  pub bucket_labels : map label_of bucket ≡ map (λ p. p.label) (filter equal os)
  bucket_labels =
      ap (map label_of) (bucket_is (leaders listing os) mine os leader_low)
      ∙ labels_led 0 os (omega arith) (λ k less. ap (λ j. get_or os j d) (let e : k ≡ 0 + k = omega arith in e))

-- ---- how an action is told

set_tells : (ms : List Member) (r : Option Shared) (label : List ℕ) → IsSetOf ms r → telling_by r label ≡ telling_of (map label_of ms) label
set_tells ms None label h =
    sym (ap (λ b. if b then (if is_first label (in_text_order (map label_of ms)) then Owners (in_text_order (map label_of ms)) else Elsewhere) else Alone) h)
set_tells ms (Some s) label h =
    ap (λ l. if is_first label l then Owners l else Elsewhere) (owners_in_order ms s h.1)
    ∙ sym (ap (λ b. if b then (if is_first label (in_text_order (map label_of ms)) then Owners (in_text_order (map label_of ms)) else Elsewhere) else Alone) h.0)

pub zip_at : (xs : List (List Member)) (ys : List (Option Shared)) (i : ℕ) → AllZip IsSetOf xs ys → i < length xs → IsSetOf (get_or xs i []) (get_or ys i None)
zip_at [] ys i h low = absurd (omega (arith, low))
zip_at (x ∷ xs) [] i h low = absurd h
zip_at (x ∷ xs) (y ∷ ys) zero h low = h.0
zip_at (x ∷ xs) (y ∷ ys) (suc i) h low = zip_at xs ys i h.1 (omega (arith, low))

pub long_all : (ls : List ℕ) (bs : List (List Member)) (n : ℕ) (os : List Owned) → length (put_all ls bs n os) ≡ length bs
long_all ls bs n [] = refl
long_all ls bs n (o ∷ os) =
    let k = slice_index_or ls n n in
    long_all ls (put_at bs k (member_at o n)) (n + 1) os ∙ long_put bs k (get_or bs k [] ++ member_at o n ∷ [])

module _ (listing : Rose Own → List Element) (os : List Owned) (d : Owned) (ss : List (Option Shared)) where
  abbrev buckets : List (List Member)
  buckets = put_all (leaders listing os) (map no_members os) 0 os

  module _ (are : AllZip IsSetOf buckets ss) where
    one_told : (n : ℕ) → n < length os
        → telling_by (slice_index_or ss (slice_index_or (leaders listing os) n n) None) (get_or os n d).label ≡ telling listing os (get_or os n d)
    one_told n low =
        let o = get_or os n d in
        let l = leader listing os o in
        let less = leader_low listing os d n low in
        let size = long_all (leaders listing os) (map no_members os) 0 os ∙ long_empty [] 0 os in
        ap (λ k. telling_by (slice_index_or ss k None) o.label) (get_or-map (leader listing os) os n d n low)
        ∙ set_tells (get_or buckets l []) (slice_index_or ss l None) o.label (zip_at buckets ss l are (omega (arith, less, size)))
        ∙ ap (λ ls. telling_of ls o.label) (bucket_labels listing os d n low)

    all_told : (n : ℕ) (rest : List Owned) → length os ≡ n + length rest → ((k : ℕ) → k < length rest → get_or rest k d ≡ get_or os (n + k) d)
        → tellings_from (leaders listing os) ss n rest ≡ map (telling listing os) rest
    all_told n [] size same = refl
    all_told n (o ∷ rest) size same =
        let is : o ≡ get_or os n d = same 0 (omega arith) ∙ ap (λ j. get_or os j d) (let e : n + 0 ≡ n = omega arith in e) in
        λ i. (ap (λ (p : Owned). telling_by (slice_index_or ss (slice_index_or (leaders listing os) n n) None) p.label) is ∙ one_told n (omega (arith, size))
        ∙ ap (telling listing os) (sym is)) i
        ∷ all_told (n + 1) rest (omega (arith, size))
        (λ k less. same (suc k) (omega (arith, less)) ∙ ap (λ j. get_or os j d) (let e : n + suc k ≡ n + 1 + k = omega arith in e)) i

pub tellings_found : (listing : Rose Own → List Element) (os : List Owned) (ss : List (Option Shared))
    → AllZip IsSetOf (put_all (leaders listing os) (map no_members os) 0 os) ss → tellings_from (leaders listing os) ss 0 os ≡ map (telling listing os) os
tellings_found listing [] ss are = refl
tellings_found listing (o ∷ os) ss are =
    all_told listing (o ∷ os) o ss are 0 (o ∷ os) (omega arith) (λ k less. ap (λ j. get_or (o ∷ os) j o) (let e : k ≡ 0 + k = omega arith in e))
