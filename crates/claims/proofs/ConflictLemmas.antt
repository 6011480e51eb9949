-- By the leaders of actions the paths are found that clash.
use Rattle.std.proofs.Common.{◌≡◌, ◌∙◌, inl, inr, ◌<◌, ◌≤◌, ◌||◌, ◌+◌, ℕ, zero, suc, Bool, true, false, not, cond, List, [], ◌∷◌, ◌++◌, length, map, get_or, Contains, None, refl, sym, ap, subst, arith, if◌then◌else◌}
use Rattle.std.specs.Prelude.{nat_eq}
use Rattle.std.specs.List.{filter, flat_map, position_or_len}
use Rattle.std.specs.Str.{bytes_eq}
use Rattle.std.specs.Cmp.Lexicographic.{slice_cmp}
use Rattle.std.specs.Ordering.{nat_cmp, is_eq}
use Rattle.std.specs.declared.cmp.Ordering.TheVariants.{Less}
use Rattle.std.proofs.lemmas.Bool.{true≢false, cases_lt}
use Rattle.std.proofs.lemmas.Bool.Decides.{Decides-eqb}
use Rattle.std.specs.Cmp.{IsTotalOrder}
use Rattle.std.proofs.lemmas.Cmp.{nat_list_cmp_total, nat_cmp_total, then_total, on_total, tied_itself}
use Rattle.std.proofs.lemmas.List.{get_or-map}
use Rattle.std.proofs.lemmas.Map.Text.{is_eq-slice_cmp}
use Rattle.std.proofs.lemmas.Slice.Eq.{bytes_eq-Decides}
use Rattle.depsets.specs.Own.{Own}
use Rattle.depsets.specs.Rose.{Rose}
use Rattle.depsets.specs.declared.element.Element.{Element}
use Rattle.actions.specs.Ascending.{Each, AreAscending}
use Rattle.claims.specs.Claims.{claims_from, in_order, is_on}
use Rattle.claims.specs.Clashes.{IsAmong, AreConflicts, clash, clashes, declares, owners}
use Rattle.claims.specs.Commons.{commons_of, member_of, members}
use Rattle.claims.specs.Conflicts.{told, conflict_of, conflicts_of, conflict_by}
use Rattle.claims.specs.Labels.{AreLabels}
use Rattle.claims.specs.Leaders.{leader, leaders}
use Rattle.claims.specs.Members.{label_of, place_of, member_cmp, clash_by, some_clash}
use Rattle.claims.specs.Owned.{Owned}
use Rattle.claims.specs.Same.{compared, same_action, same_parts}
use Rattle.claims.specs.declared.claiming.Claim.{Claim}
use Rattle.claims.specs.declared.clashes.Conflict.{Conflict}
use Rattle.claims.specs.declared.commons.Common.{Common}
use Rattle.claims.specs.declared.members.Member.{Member}
use Rattle.claims.proofs.CommonLemmas.{commons_law}
use Rattle.claims.proofs.LeaderLemmas.{parts}
use Rattle.claims.proofs.MarkLemmas.{two_there}
use Rattle.claims.proofs.MemberLemmas.{Stands, is_member, member_stands, members_climb}
use Rattle.claims.proofs.NextLemmas.{led, Passes, all_pass, two_pass, clashing_in}
use Rattle.claims.proofs.OwnerLemmas.{owners-are-labels}
use Rattle.claims.proofs.Pairs.{either, first_of, one_of, not_true, pair_at, pair_from}
use Rattle.claims.proofs.SameLemmas.{parts_same, parts_itself, parts_turned}

members_total : IsTotalOrder member_cmp
members_total = then_total (on_total label_of nat_list_cmp_total) (on_total place_of nat_cmp_total)

eq_same : (a b : ℕ) → nat_eq a b ≡ true → a ≡ b
eq_same a b h = (Decides-eqb a b).0 h

eq_alike : (a b : ℕ) → a ≡ b → nat_eq a b ≡ true
eq_alike a b h = (Decides-eqb a b).1 h

-- ---- leaders tell which actions are equal

-- where one passes, the first that passes stands there and passes
pub hit : {X : Type 0} (t : X → Bool) (xs : List X) (i : ℕ) (d : X) → i < length xs → t (get_or xs i d) ≡ true
    → (position_or_len t xs < length xs) × (t (get_or xs (position_or_len t xs) d) ≡ true)
hit t [] i d low h = absurd (omega (arith, low))
hit {X} t (x ∷ xs) i d low h = at (t x) refl i low h (hit t xs)
  where
    after : (n : ℕ) (b : Bool) → b ≡ false → cond (not b) (1 + n) 0 ≡ suc n
    after n true e = absurd (true≢false e)
    after n false e = omega arith

    at_once : (n : ℕ) (b : Bool) → b ≡ true → cond (not b) (1 + n) 0 ≡ 0
    at_once n true e = refl
    at_once n false e = absurd (true≢false (sym e))

    Hit : ℕ → Type 0
    Hit n = (n < length (x ∷ xs)) × (t (get_or (x ∷ xs) n d) ≡ true)

    at : (b : Bool) → t x ≡ b → (j : ℕ) → j < length (x ∷ xs) → t (get_or (x ∷ xs) j d) ≡ true
        → ((k : ℕ) (e : X) → k < length xs → t (get_or xs k e) ≡ true → (position_or_len t xs < length xs) × (t (get_or xs (position_or_len t xs) e) ≡ true))
        → Hit (position_or_len t (x ∷ xs))
    at true e j low h rest = subst Hit (sym (at_once (position_or_len t xs) (t x) e)) (omega arith, e)
    at false e zero low h rest = absurd (true≢false (sym h ∙ e))
    at false e (suc j) low h rest =
        let r = rest j d (omega (arith, low)) h in let l = r.0 in
        subst Hit (sym (after (position_or_len t xs) (t x) e)) (omega (arith, l), r.1)

module _ (listing : Rose Own → List Element) (os : List Owned) (d : Owned) where
  abbrev one_at : ℕ → Owned
  one_at i = get_or os i d

  abbrev leads : ℕ → ℕ
  leads i = leader listing os (one_at i)

  pub same_leader : (i j : ℕ) → i < length os → j < length os → leads i ≡ leads j → same_action listing (one_at i).action (one_at j).action ≡ true
  same_leader i j low less e =
      let a = hit (λ p. same_action listing (one_at i).action p.action) os i d low (parts_itself (parts listing os d i)) in
      let b = hit (λ p. same_action listing (one_at j).action p.action) os j d less (parts_itself (parts listing os d j)) in
      let mine = parts_same (parts listing os d i) (parts listing os d (leads i)) a.1 in
      let theirs = parts_same (parts listing os d j) (parts listing os d (leads j)) b.1 in
      let both = mine ∙ ap (parts listing os d) e ∙ sym theirs in
      subst (λ c. same_parts (parts listing os d i) c ≡ true) both (parts_itself (parts listing os d i))

  pub alike_leader : (i j : ℕ) → same_action listing (one_at i).action (one_at j).action ≡ true → leads i ≡ leads j
  alike_leader i j h =
      ap (λ c. position_or_len (λ p. same_parts c (compared listing p.action)) os) (parts_same (parts listing os d i) (parts listing os d j) h)

  pub led_is : (m : Member) → m.place < length os → led (leaders listing os) m ≡ leads m.place
  led_is m low = get_or-map (leader listing os) os m.place d m.place low

  -- ---- two that clash

  clash_turned : (a b : Owned) → clash listing a b ≡ true → clash listing b a ≡ true
  clash_turned a b h = elim (either (bytes_eq a.label b.label) (not (same_action listing a.action b.action)) h) [
    | inl e ↦ first_of (bytes_eq b.label a.label) (not (same_action listing b.action a.action)) ((bytes_eq-Decides b.label a.label).1 (sym ((bytes_eq-Decides a.label b.label).0 e)))
    | inr e ↦ one_of (bytes_eq b.label a.label) (not (same_action listing b.action a.action))
        (turned (same_action listing a.action b.action) refl e)
  ]
    where
      turned : (r : Bool) → same_action listing a.action b.action ≡ r → not r ≡ true → not (same_action listing b.action a.action) ≡ true
      turned true e g = absurd (true≢false (sym g))
      turned false e g = ap not (parts_turned (compared listing a.action) (compared listing b.action) false e)

  module _ (p : List ℕ) where
    abbrev ms : List Member
    ms = members p os

    abbrev ls : List ℕ
    ls = leaders listing os

    -- members that pass each other don't clash
    no_clash : (m n : Member) → Contains ms m → Contains ms n → Passes ls m n → clash listing (one_at m.place) (one_at n.place) ≡ true → ⊥
    no_clash m n has_m has_n h c =
        let sm = member_stands os d p m has_m in
        let sn = member_stands os d p n has_n in
        let labels : bytes_eq m.label n.label ≡ false = sym (is_eq-slice_cmp m.label n.label) ∙ ap is_eq h.labels in
        let owners_differ : bytes_eq (one_at m.place).label (one_at n.place).label ≡ false =
        (λ i. bytes_eq (sym sm.owner i) (sym sn.owner i)) ∙ labels in
        let same = same_leader m.place n.place sm.within sn.within
        (sym (led_is m sm.within) ∙ eq_same (led ls m) (led ls n) h.same ∙ led_is n sn.within) in
        absurd (true≢false (sym c ∙ (λ i. owners_differ i || not (same i))))

    from_pair : some_clash ls None ms ≡ false → clashes listing p os ≡ true → ⊥
    from_pair s h =
        let pair = pair_at (declares p) (clash listing) os h in
        let a = pair.apart in
        let w = pair.within in
        let low : pair.one < length os = omega (arith, a, w) in
        let m : Member = record { label = (one_at pair.one).label; place = pair.one } in
        let n : Member = record { label = (one_at pair.other).label; place = pair.other } in
        let has_m = is_member os d p pair.one low (pair.first d) in
        let has_n = is_member os d p pair.other w (pair.second d) in
        let pass = all_pass ls eq_same ms (members_climb p os) s in
        elim (two_pass ls ms pass m n has_m has_n (λ e. let f = ap (λ (x : Member). x.place) e in absurd (omega (arith, f, a)))) [
          | inl h ↦ no_clash m n has_m has_n h (pair.does d)
          | inr h ↦ no_clash n m has_n has_m h (clash_turned (one_at pair.one) (one_at pair.other) (pair.does d))
        ]

    less_apart : (m n : Member) → m ≡ n → member_cmp m n ≡ Less → ⊥
    less_apart m n e h = absurd (let g = sym (subst (λ x. member_cmp m x ≡ Less) (sym e) h) ∙ tied_itself members_total m in cc)

    same_member : (m n : Member) → Stands os d p m.label m.place → Stands os d p n.label n.place → m.place ≡ n.place → m ≡ n
    same_member m n sm sn e =
        let labels : m.label ≡ n.label = sm.owner ∙ ap (λ i. (one_at i).label) e ∙ sym sn.owner in
        λ i. record { label = labels i; place = e i }

    by_members : (m n : Member) → Stands os d p m.label m.place → Stands os d p n.label n.place → clash_by ls m n ≡ true
        → clash listing (one_at m.place) (one_at n.place) ≡ true
    by_members m n sm sn h = elim (either (bytes_eq m.label n.label) (not (nat_eq (led ls m) (led ls n))) h) [
      | inl e ↦ first_of (bytes_eq (one_at m.place).label (one_at n.place).label) (not (same_action listing (one_at m.place).action (one_at n.place).action))
          ((λ i. bytes_eq (sym sm.owner i) (sym sn.owner i)) ∙ e)
      | inr e ↦ one_of (bytes_eq (one_at m.place).label (one_at n.place).label) (not (same_action listing (one_at m.place).action (one_at n.place).action))
          (other (same_action listing (one_at m.place).action (one_at n.place).action) refl e)
    ]
      where
        other : (b : Bool) → same_action listing (one_at m.place).action (one_at n.place).action ≡ b → not (nat_eq (led ls m) (led ls n)) ≡ true → not b ≡ true
        other true s g =
            absurd (true≢false (sym g ∙ ap not (eq_alike (led ls m) (led ls n) (led_is m sm.within ∙ alike_leader m.place n.place s ∙ sym (led_is n sn.within)))))
        other false s g = refl

    to_pair : some_clash ls None ms ≡ true → clashes listing p os ≡ true
    to_pair s =
        let c = clashing_in ls ms (members_climb p os) s in
        let sm = member_stands os d p c.one c.has_one in
        let sn = member_stands os d p c.other c.has_other in
        let does = by_members c.one c.other sm sn c.does in
        elim (cases_lt c.one.place c.other.place) [
          | inl l ↦ pair_from (declares p) (clash listing) os c.one.place c.other.place d l sn.within sm.declared sn.declared does
          | inr l ↦ elim (cases_lt c.other.place c.one.place) [
            | inl g ↦ pair_from (declares p) (clash listing) os c.other.place c.one.place d g sm.within sn.declared sm.declared
                (clash_turned (one_at c.one.place) (one_at c.other.place) does)
            | inr g ↦ absurd (less_apart c.one c.other (same_member c.one c.other sm sn (omega (arith, l, g))) c.less)
          ]
        ]

    by_leaders : (b : Bool) → some_clash ls None ms ≡ b → clashes listing p os ≡ b
    by_leaders true h = to_pair h
    by_leaders false h = not_true (clashes listing p os) (from_pair h)

    pub clash_found : some_clash ls None ms ≡ clashes listing p os
    clash_found = sym (by_leaders (some_clash ls None ms) refl)

    -- a path that clashes is one that at least two declare
    pub clash_common : clashes listing p os ≡ true → 2 ≤ length ms
    clash_common h =
        let pair = pair_at (declares p) (clash listing) os h in
        let a = pair.apart in
        let w = pair.within in
        let low : pair.one < length os = omega (arith, a, w) in
        two_there ms (record { label = (one_at pair.one).label; place = pair.one }) (record { label = (one_at pair.other).label; place = pair.other })
        (is_member os d p pair.one low (pair.first d)) (is_member os d p pair.other w (pair.second d))
        (λ e. let f = ap (λ (x : Member). x.place) e in absurd (omega (arith, f, a)))

-- ---- of all common paths

module _ (listing : Rose Own → List Element) (os : List Owned) where
  found_at : (qs : List Owned) → os ≡ qs → (p : List ℕ) → some_clash (leaders listing os) None (members p os) ≡ clashes listing p os
  found_at [] e p = ap (λ l. some_clash (leaders listing l) None (members p l)) e ∙ sym (ap (clashes listing p) e)
  found_at (q ∷ qs) e p = clash_found listing os q p

  common_at : (qs : List Owned) → os ≡ qs → (p : List ℕ) → clashes listing p os ≡ true → 2 ≤ length (members p os)
  common_at [] e p h = absurd (true≢false (sym h ∙ ap (clashes listing p) e))
  common_at (q ∷ qs) e p h = clash_common listing os q p h

  by_all : (cs : List Common) → Each (λ c. (2 ≤ length (members c.path os)) × (c.members ≡ members c.path os)) cs
      → flat_map (conflict_by (leaders listing os)) cs ≡ flat_map (conflict_of listing os) cs
  by_all [] h = refl
  by_all (c ∷ cs) h =
      let same : some_clash (leaders listing os) None c.members ≡ clashes listing c.path os =
      ap (some_clash (leaders listing os) None) h.0.1 ∙ found_at os refl c.path in
      λ i. (if same i then told c ∷ [] else []) ++ by_all cs h.1 i

  -- the conflicts are found by the leaders
  pub conflicts_found : flat_map (conflict_by (leaders listing os)) (commons_of os) ≡ conflicts_of listing os
  conflicts_found = by_all (commons_of os) (commons_law os).only

  -- ---- they meet their law

  labels_are : (ks : List Claim) → map label_of (map member_of ks) ≡ map (λ c. c.label) ks
  labels_are [] = refl
  labels_are (k ∷ ks) = ap (λ l. k.label ∷ l) (labels_are ks)

  owners_are : (p : List ℕ) → map label_of (members p os) ≡ owners p os
  owners_are p = labels_are (filter (is_on p) (in_order (claims_from 0 os)))

  -- what holds of all common paths holds of those that conflict
  each_conflict : (P : Common → Type 0) (Q : Conflict → Type 0) → ((c : Common) → P c → clashes listing c.path os ≡ true → Q (told c)) → (cs : List Common) → Each P cs
      → Each Q (flat_map (conflict_of listing os) cs)
  each_conflict P Q f [] h = tt
  each_conflict P Q f (c ∷ cs) h = at (clashes listing c.path os) refl (each_conflict P Q f cs h.1)
    where
      at : (b : Bool) → clashes listing c.path os ≡ b → Each Q (flat_map (conflict_of listing os) cs) → Each Q ((if b then told c ∷ [] else []) ++ flat_map (conflict_of listing os) cs)
      at true e rest = (f c h.0 e, rest)
      at false e rest = rest

  abbrev paths : List Conflict → List (List ℕ)
  paths cs = map (λ c. c.path) cs

  each_path : (p : List ℕ) (cs : List Conflict) → Each (λ c. slice_cmp nat_cmp p c.path ≡ Less) cs → Each (λ q. slice_cmp nat_cmp p q ≡ Less) (paths cs)
  each_path p [] h = tt
  each_path p (c ∷ cs) h = (h.0, each_path p cs h.1)

  common_path : (p : List ℕ) (cs : List Common) → Each (λ q. slice_cmp nat_cmp p q ≡ Less) (map (λ c. c.path) cs) → Each (λ c. slice_cmp nat_cmp p c.path ≡ Less) cs
  common_path p [] h = tt
  common_path p (c ∷ cs) h = (h.0, common_path p cs h.1)

  ascend : (cs : List Common) → AreAscending (map (λ c. c.path) cs) → AreAscending (paths (flat_map (conflict_of listing os) cs))
  ascend [] h = tt
  ascend (c ∷ cs) h =
      at (clashes listing c.path os) (ascend cs h.1)
      (each_path c.path (flat_map (conflict_of listing os) cs)
      (each_conflict (λ e. slice_cmp nat_cmp c.path e.path ≡ Less) (λ e. slice_cmp nat_cmp c.path e.path ≡ Less) (λ e l _. l) cs (common_path c.path cs h.0)))
    where
      at : (b : Bool) → AreAscending (paths (flat_map (conflict_of listing os) cs)) → Each (λ q. slice_cmp nat_cmp c.path q ≡ Less) (paths (flat_map (conflict_of listing os) cs))
          → AreAscending (paths ((if b then told c ∷ [] else []) ++ flat_map (conflict_of listing os) cs))
      at true rest less = (less, rest)
      at false rest less = rest

  among : (c : Common) (cs : List Common) → clashes listing c.path os ≡ true → IsAmong c cs → IsAmong (told c) (flat_map (conflict_of listing os) cs)
  among c [] e h = absurd h
  among c (x ∷ xs) e (inl s) =
      subst (λ b. IsAmong (told c) ((if b then told x ∷ [] else []) ++ flat_map (conflict_of listing os) xs)) (sym (ap (λ (y : Common). clashes listing y.path os) (sym s) ∙ e)) (inl (ap told s))
  among c (x ∷ xs) e (inr h) = later (clashes listing x.path os) (among c xs e h)
    where
      later : (b : Bool) → IsAmong (told c) (flat_map (conflict_of listing os) xs) → IsAmong (told c) ((if b then told x ∷ [] else []) ++ flat_map (conflict_of listing os) xs)
      later true r = inr r
      later false r = r

  pub conflicts_law : AreConflicts listing os (conflicts_of listing os)
  conflicts_law = record {
    ordered = ascend (commons_of os) (commons_law os).ordered;
    all = λ p h.
        subst (λ l. IsAmong (record { path = p; labels = l }) (conflicts_of listing os)) (owners_are p)
        (among (record { path = p; members = members p os }) (commons_of os) h ((commons_law os).all p (common_at os refl p h)));
    only =
        each_conflict (λ c. (2 ≤ length (members c.path os)) × (c.members ≡ members c.path os))
        (λ c. (clashes listing c.path os ≡ true) × (c.labels ≡ owners c.path os))
        (λ c h e. (e, ap (map label_of) h.1 ∙ owners_are c.path)) (commons_of os) (commons_law os).only;
  }

  pub conflicts_labels : Each (λ c. AreLabels os c.path c.labels) (conflicts_of listing os)
  conflicts_labels =
      each_conflict (λ c. (2 ≤ length (members c.path os)) × (c.members ≡ members c.path os)) (λ c. AreLabels os c.path c.labels)
      (λ c h e. subst (AreLabels os c.path) (sym (ap (map label_of) h.1 ∙ owners_are c.path)) (owners-are-labels os c.path)) (commons_of os) (commons_law os).only
