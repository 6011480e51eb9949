-- The sets that are found of shared actions meet their law, and no others do.
use Rattle.std.proofs.Common.{◌≡◌, ◌∙◌, inl, inr, ◌<◌, ◌≤◌, ◌+◌, ◌&&◌, ◌||◌, ℕ, zero, suc, Bool, true, false, not, List, [], ◌∷◌, ◌++◌, length, map, get_or, Contains, Option, Some, None, refl, sym, ap, subst, arith}
use Rattle.std.specs.Prelude.{slice_get, slice_index_or, nat_eq, nat_lt, is_some, unwrap_or, if◌then◌else◌, option_to_list}
use Rattle.std.specs.List.{AllZip, filter, flat_map, list_any}
use Rattle.std.specs.Option.{option_map_or}
use Rattle.std.specs.Str.{bytes_eq}
use Rattle.std.specs.Cmp.Lexicographic.{slice_cmp}
use Rattle.std.specs.Ordering.{nat_cmp}
use Rattle.std.specs.declared.cmp.Ordering.TheVariants.{Less, Equal}
use Rattle.std.proofs.lemmas.Bool.{true≢false, cases_lt, ltb-true}
use Rattle.std.proofs.lemmas.Bool.Decides.{Decides-eqb, nat_tests}
use Rattle.std.proofs.lemmas.Cmp.{nat_list_cmp_total, tied_itself}
use Rattle.std.proofs.lemmas.List.{get_or-map, length-map}
use Rattle.std.proofs.lemmas.List.Sorted.{Contains-permutation, IsPermutation-sym, length_permutation}
use Rattle.std.proofs.lemmas.List.Sums.{fails_before_first}
use Rattle.std.proofs.lemmas.Option.{slice_get_within, get_or_from_slice_get, slice_get-get_or}
use Rattle.std.proofs.lemmas.Slice.Eq.{bytes_eq-Decides}
use Rattle.depsets.specs.Own.{Own}
use Rattle.depsets.specs.Rose.{Rose}
use Rattle.depsets.specs.declared.element.Element.{Element}
use Rattle.actions.specs.Ascending.{AreAscending, Each}
use Rattle.actions.proofs.Ascending.{ascending_same, head_in, tail_in}
use Rattle.claims.specs.Buckets.{led_from, member_at, no_members, put_all}
use Rattle.claims.specs.Clashes.{IsAmong, some_pair}
use Rattle.claims.specs.Leaders.{leader, leaders}
use Rattle.claims.specs.Members.{label_of, place_of}
use Rattle.claims.specs.Owned.{Owned}
use Rattle.claims.specs.Same.{same_action}
use Rattle.claims.specs.Sets.{AreSetsOf, IsSetOf}
use Rattle.claims.specs.Sets as found
use Rattle.claims.specs.Sharing.{AreByPlace, AreShared, IsBefore, IsSharedSet, label_at}
use Rattle.claims.specs.Telling.{equals, is_shared}
use Rattle.claims.specs.declared.members.Member.{Member}
use Rattle.claims.specs.declared.sets.Shared.{Shared}
use Rattle.claims.proofs.ConflictLemmas.{alike_leader, hit, same_leader}
use Rattle.claims.proofs.LeaderLemmas.{parts}
use Rattle.claims.proofs.Pairs.{not_true, pair_at, pair_from}
use Rattle.claims.proofs.SameLemmas.{parts_itself}
use Rattle.claims.proofs.SortedClaims.{at_one}
use Rattle.claims.proofs.TellingLemmas.{bucket_is, bucket_labels, leader_low, long_all, long_empty, zip_at}

-- ---- lists

module _ {X : Type 0} where
  each_by : (P : X → Type 0) (xs : List X) → ((x : X) → Contains xs x → P x) → Each P xs
  each_by P [] f = tt
  each_by P (x ∷ xs) f = (f x (head_in x xs), each_by P xs (λ y h. f y (tail_in x xs y h)))

  from_map : {Y : Type 0} (f : X → Y) (xs : List X) (y : Y) → Contains (map f xs) y → (x : X) × Contains xs x × (f x ≡ y)
  from_map f [] y (k, low, is) = absurd (omega (arith, low))
  from_map f (x ∷ xs) y (zero, low, is) = (x, head_in x xs, is)
  from_map f (x ∷ xs) y (suc k, low, is) =
      let r = from_map f xs y (k, omega (arith, low), is) in (r.0, tail_in x xs r.0 r.1, r.2)

  to_map : {Y : Type 0} (f : X → Y) (xs : List X) (x : X) → Contains xs x → Contains (map f xs) (f x)
  to_map f [] x (k, low, is) = absurd (omega (arith, low))
  to_map f (y ∷ ys) x (zero, low, is) = (0, omega arith, ap f is)
  to_map f (y ∷ ys) x (suc k, low, is) = tail_in (f y) (map f ys) (f x) (to_map f ys x (k, omega (arith, low), is))

  map_same : {Y : Type 0} (f g : X → Y) (xs : List X) → Each (λ x. f x ≡ g x) xs → map f xs ≡ map g xs
  map_same f g [] h = refl
  map_same f g (x ∷ xs) h = λ i. h.0 i ∷ map_same f g xs h.1 i

  pair_long : (P : X → X → Bool) (xs : List X) → some_pair P xs ≡ true → 2 ≤ length xs
  pair_long P [] h = absurd (true≢false (sym h))
  pair_long P (x ∷ []) h = absurd (true≢false (sym h))
  pair_long P (x ∷ y ∷ xs) h = omega arith

  any_map : {Y : Type 0} (f : X → Y) (p : Y → Bool) (xs : List X) → list_any p (map f xs) ≡ list_any (λ x. p (f x)) xs
  any_map f p [] = refl
  any_map f p (x ∷ xs) = ap (λ b. p (f x) || b) (any_map f p xs)

  pair_map : {Y : Type 0} (f : X → Y) (P : Y → Y → Bool) (xs : List X) → some_pair P (map f xs) ≡ some_pair (λ x y. P (f x) (f y)) xs
  pair_map f P [] = refl
  pair_map f P (x ∷ xs) = λ i. any_map f (P (f x)) xs i || pair_map f P xs i

and_first : (a b : Bool) → (a && b) ≡ true → a ≡ true
and_first true b h = refl
and_first false b h = h

both : (a b : Bool) → a ≡ true → b ≡ true → (a && b) ≡ true
both a b p q = ap (λ x. x && b) p ∙ q

many : (n : ℕ) → nat_lt 1 n ≡ true → 2 ≤ n
many n h = let k = ltb-true 1 n h in omega (arith, k)

is_many : (n : ℕ) → 2 ≤ n → nat_lt 1 n ≡ true
is_many n h = grind (arith, nat_tests, h)

-- ---- what stands in a bucket

module _ (listing : Rose Own → List Element) (os : List Owned) (d : Owned) where
  abbrev one_at : ℕ → Owned
  one_at i = get_or os i d

  abbrev ls : List ℕ
  ls = leaders listing os

  abbrev leads : ℕ → ℕ
  leads i = leader listing os (one_at i)

  pub record IsLed (l : ℕ) (m : Member) : Type 0 where
    pub within : m.place < length os
    pub owner : m.label ≡ (one_at m.place).label
    pub led : leads m.place ≡ l

  each_led : (l n : ℕ) (rest : List Owned) → length os ≡ n + length rest → ((k : ℕ) → k < length rest → get_or rest k d ≡ get_or os (n + k) d)
      → Each (IsLed l) (led_from ls l n rest)
  each_led l n [] size same = tt
  each_led l n (o ∷ rest) size same =
      at (nat_eq l (slice_index_or ls n n)) refl
      (each_led l (n + 1) rest (omega (arith, size)) (λ k less. same (suc k) (omega (arith, less)) ∙ ap (λ j. get_or os j d) (let e : n + suc k ≡ n + 1 + k = omega arith in e)))
    where
      is : o ≡ get_or os n d
      is = same 0 (omega arith) ∙ ap (λ j. get_or os j d) (let e : n + 0 ≡ n = omega arith in e)

      at : (b : Bool) → nat_eq l (slice_index_or ls n n) ≡ b → Each (IsLed l) (led_from ls l (n + 1) rest)
          → Each (IsLed l) (if b then member_at o n ∷ led_from ls l (n + 1) rest else led_from ls l (n + 1) rest)
      at true e more = (
        record {
          within = omega (arith, size);
          owner = ap (λ x. x.label) is;
          led = sym (get_or-map (leader listing os) os n d n (omega (arith, size))) ∙ sym ((Decides-eqb l (slice_index_or ls n n)).0 e);
        },
        more,
      )
      at false e more = more

  is_led : (l n k : ℕ) (rest : List Owned) → length os ≡ n + length rest → ((j : ℕ) → j < length rest → get_or rest j d ≡ get_or os (n + j) d)
      → k < length rest → leads (n + k) ≡ l → Contains (led_from ls l n rest) (member_at (one_at (n + k)) (n + k))
  is_led l n k [] size same low h = absurd (omega (arith, low))
  is_led l n zero (o ∷ rest) size same low h =
      let here : n + 0 ≡ n = omega arith in
      let is : o ≡ get_or os n d = same 0 (omega arith) ∙ ap (λ j. get_or os j d) here in
      let test : nat_eq l (slice_index_or ls n n) ≡ true =
      (Decides-eqb l (slice_index_or ls n n)).1 (sym h ∙ ap leads here ∙ sym (get_or-map (leader listing os) os n d n (omega (arith, size)))) in
      subst (λ b. Contains (if b then member_at o n ∷ led_from ls l (n + 1) rest else led_from ls l (n + 1) rest) (member_at (one_at (n + 0)) (n + 0))) (sym test)
      (0, omega arith, (λ i. member_at (is i) n) ∙ (λ i. member_at (one_at (sym here i)) (sym here i)))
  is_led l n (suc k) (o ∷ rest) size same low h =
      let next : n + suc k ≡ n + 1 + k = omega arith in
      later (nat_eq l (slice_index_or ls n n))
      (subst (λ j. Contains (led_from ls l (n + 1) rest) (member_at (one_at j) j)) (sym next)
      (is_led l (n + 1) k rest (omega (arith, size)) (λ j less. same (suc j) (omega (arith, less)) ∙ ap (λ i. get_or os i d) (let e : n + suc j ≡ n + 1 + j = omega arith in e))
      (omega (arith, low)) (ap leads (sym next) ∙ h)))
    where
      later : (b : Bool) → Contains (led_from ls l (n + 1) rest) (member_at (one_at (n + suc k)) (n + suc k))
          → Contains (if b then member_at o n ∷ led_from ls l (n + 1) rest else led_from ls l (n + 1) rest) (member_at (one_at (n + suc k)) (n + suc k))
      later true r = tail_in (member_at o n) (led_from ls l (n + 1) rest) (member_at (one_at (n + suc k)) (n + suc k)) r
      later false r = r

  abbrev bucket : ℕ → List Member
  bucket l = led_from ls l 0 os

  in_bucket : (l j : ℕ) → j < length os → leads j ≡ l → Contains (bucket l) (member_at (one_at j) j)
  in_bucket l j low h =
      let e : 0 + j ≡ j = omega arith in
      subst (λ i. Contains (bucket l) (member_at (one_at i) i)) e
      (is_led l 0 j os (omega arith) (λ k less. ap (λ i. get_or os i d) (let f : k ≡ 0 + k = omega arith in f)) low (ap leads e ∙ h))

  of_bucket : (l : ℕ) (m : Member) → Contains (bucket l) m → IsLed l m
  of_bucket l m h =
      at_one (IsLed l) (bucket l) (each_led l 0 os (omega arith) (λ k less. ap (λ i. get_or os i d) (let f : k ≡ 0 + k = omega arith in f))) m h

  get_here : (j : ℕ) (b : Owned) → slice_get os j ≡ Some b → (j < length os) × (one_at j ≡ b)
  get_here j b h = (slice_get_within os j b h, get_or_from_slice_get os j b d h)

  label_is : (j : ℕ) → j < length os → label_at os j ≡ (one_at j).label
  label_is j low = ap (λ o. option_map_or (λ (x : Owned). x.label) o []) (slice_get-get_or os j d low)

  -- ---- a set of equal actions

  -- its places are those that have the leader
  pub record IsOf (l : ℕ) (s : Shared) : Type 0 where
    pub law : IsSharedSet listing os s
    pub led : (j : ℕ) → Contains s.places j → (j < length os) × (leads j ≡ l)
    pub has : (j : ℕ) → j < length os → leads j ≡ l → Contains s.places j

  set_of : (l : ℕ) (s : Shared) → IsSetOf (bucket l) (Some s) → IsOf l s
  set_of l s h = record {
    law = record {
      two = two;
      within = each_by (λ i. i < length os) s.places (λ i g. (led i g).0);
      owners =
          set.owners ∙ map_same label_of (λ m. label_at os m.place) set.order (each_by (λ m. m.label ≡ label_at os m.place) set.order
          (λ m g. let f = of_order m g in f.owner ∙ sym (label_is m.place f.within)))
          ∙ sym (map_twice set.order) ∙ ap (map (label_at os)) (sym set.places);
      ordered = set.ascending;
      whole = λ i j a b hi ga gb.
          let ia = get_here i a ga in
          let jb = get_here j b gb in (
            λ same. has j jb.0 (sym (alike_leader listing os d i j ((λ k. same_action listing (ia.1 k).action (jb.1 k).action) ∙ same)) ∙ (led i hi).1),
            λ hj. (λ k. same_action listing (sym ia.1 k).action (sym jb.1 k).action) ∙ same_leader listing os d i j ia.0 jb.0 ((led i hi).1 ∙ sym (led j hj).1),
          );
    };
    led = led;
    has = has;
  }
    where
      set : found.IsSet (bucket l) s
      set = h.1

      of_order : (m : Member) → Contains set.order m → IsLed l m
      of_order m g = of_bucket l m (Contains-permutation set.order (bucket l) m (IsPermutation-sym (bucket l) set.order set.permutation) g)

      led : (j : ℕ) → Contains s.places j → (j < length os) × (leads j ≡ l)
      led j g =
          let r = from_map place_of set.order j (subst (λ ps. Contains ps j) set.places g) in
          let f = of_order r.0 r.1 in
          (subst (λ k. k < length os) r.2 f.within, ap leads (sym r.2) ∙ f.led)

      has : (j : ℕ) → j < length os → leads j ≡ l → Contains s.places j
      has j low g =
          subst (λ ps. Contains ps j) (sym set.places)
          (to_map place_of set.order (member_at (one_at j) j) (Contains-permutation (bucket l) set.order (member_at (one_at j) j) set.permutation (in_bucket l j low g)))

      map_twice : (ms : List Member) → map (label_at os) (map place_of ms) ≡ map (λ m. label_at os m.place) ms
      map_twice [] = refl
      map_twice (m ∷ ms) = ap (λ r. label_at os m.place ∷ r) (map_twice ms)

      two : 2 ≤ length s.places
      two =
          let n = many (length (map label_of (bucket l))) (and_first (nat_lt 1 (length (map label_of (bucket l)))) (not (some_pair bytes_eq (map label_of (bucket l)))) h.0) in
          let a = length-map (bucket l) label_of in
          let b = length_permutation (bucket l) set.order set.permutation in
          let c = ap length set.places ∙ length-map set.order place_of in
          omega (arith, n, a, b, c)

  -- ---- all sets, by their leaders

  -- the least place of a set is its leader
  leader_in : (l : ℕ) (s : Shared) → l < length os → IsOf l s → Contains s.places l
  leader_in l s low is = first s.places refl
    where
      from_one : (j : ℕ) → Contains s.places j → leads l ≡ l
      from_one j h =
          let r = is.led j h in
          let there = hit (λ p. same_action listing (one_at j).action p.action) os j d r.0 (parts_itself (parts listing os d j)) in
          ap leads (sym r.1) ∙ sym (alike_leader listing os d j (leads j) there.1) ∙ r.1

      first : (ps : List ℕ) → s.places ≡ ps → Contains s.places l
      first [] e = let n = is.law.two in let k = ap length e in absurd (omega (arith, n, k))
      first (p ∷ ps) e = is.has l low (from_one p (subst (λ qs. Contains qs p) (sym e) (head_in p ps)))

  leader_least : (j : ℕ) → j < length os → leads j ≤ j
  leader_least j low = elim (cases_lt j (leads j)) [
    | inl less ↦ absurd (true≢false (sym (parts_itself (parts listing os d j)) ∙ fails_before_first (λ p. same_action listing (one_at j).action p.action) os j d less))
    | inr at_most ↦ at_most
  ]

  before : (l k : ℕ) (s t : Shared) → l < k → l < length os → IsOf l s → IsOf k t → IsBefore s t
  before l k s t less low is_s is_t = (
    l,
    leader_in l s low is_s,
    each_by (λ j. l < j) t.places (λ j h.
        let r = is_t.led j h in
        let m = leader_least j r.0 in
        let e = r.1 in
        omega (arith, less, m, e)),
  )

  -- a set of a later leader
  record IsLater (l : ℕ) (s : Shared) : Type 0 where
    pub leader : ℕ
    pub less : l ≤ leader
    pub low : leader < length os
    pub is : IsOf leader s

  abbrev OptIsOf : ℕ → Option Shared → Type 0
  OptIsOf l None = Unit {0}
  OptIsOf l (Some s) = IsOf l s

  all_later : (l : ℕ) (rest : List (Option Shared)) → l + length rest ≡ length os → ((k : ℕ) → k < length rest → OptIsOf (l + k) (get_or rest k None))
      → Each (IsLater l) (flat_map option_to_list rest) × AreByPlace (flat_map option_to_list rest)
  all_later l [] size are = (tt, tt)
  all_later l (r ∷ rest) size are =
      let more = all_later (l + 1) rest (omega (arith, size)) (λ k low. subst (λ n. OptIsOf n (get_or rest k None)) (let e : l + suc k ≡ l + 1 + k = omega arith in e) (are (suc k) (omega (arith, low)))) in
      at r (subst (λ n. OptIsOf n r) (let e : l + 0 ≡ l = omega arith in e) (are 0 (omega arith))) more
    where
      low : l < length os
      low = omega (arith, size)

      weaker : (ss : List Shared) → Each (IsLater (l + 1)) ss → Each (IsLater l) ss
      weaker [] h = tt
      weaker (s ∷ ss) h = let m = h.0.less in (record { leader = h.0.leader; less = omega (arith, m); low = h.0.low; is = h.0.is }, weaker ss h.1)

      all_behind : (s : Shared) → IsOf l s → (ss : List Shared) → Each (IsLater (l + 1)) ss → Each (IsBefore s) ss
      all_behind s is [] h = tt
      all_behind s is (t ∷ ts) h = let m = h.0.less in (before l h.0.leader s t (omega (arith, m)) low is h.0.is, all_behind s is ts h.1)

      at : (o : Option Shared) → OptIsOf l o → Each (IsLater (l + 1)) (flat_map option_to_list rest) × AreByPlace (flat_map option_to_list rest)
          → Each (IsLater l) (option_to_list o ++ flat_map option_to_list rest) × AreByPlace (option_to_list o ++ flat_map option_to_list rest)
      at None is more = (weaker (flat_map option_to_list rest) more.0, more.1)
      at (Some s) is more =
          ((record { leader = l; less = omega arith; low = low; is = is }, weaker (flat_map option_to_list rest) more.0), (all_behind s is (flat_map option_to_list rest) more.0, more.1))

  kept_among : (l : ℕ) (rest : List (Option Shared)) (s : Shared) → get_or rest l None ≡ Some s → IsAmong s (flat_map option_to_list rest)
  kept_among l [] s e = absurd (true≢false (sym (ap is_some e)))
  kept_among zero (None ∷ rest) s e = absurd (true≢false (sym (ap is_some e)))
  kept_among zero (Some t ∷ rest) s e = inl (sym (ap (λ o. unwrap_or o s) e))
  kept_among (suc l) (None ∷ rest) s e = kept_among l rest s e
  kept_among (suc l) (Some t ∷ rest) s e = inr (kept_among l rest s e)

  module _ (sets : List (Option Shared)) (are : AllZip IsSetOf (put_all ls (map no_members os) 0 os) sets) where
    at_leader : (l : ℕ) → l < length os → IsSetOf (bucket l) (get_or sets l None)
    at_leader l low =
        let size = long_all ls (map no_members os) 0 os ∙ long_empty [] 0 os in
        subst (λ ms. IsSetOf ms (get_or sets l None)) (bucket_is ls l os low)
        (zip_at (put_all ls (map no_members os) 0 os) sets l are (omega (arith, low, size)))

    opt_of : (l : ℕ) (r : Option Shared) → IsSetOf (bucket l) r → OptIsOf l r
    opt_of l None h = tt
    opt_of l (Some s) h = set_of l s h

    as_long : (bs : List (List Member)) (ss : List (Option Shared)) → AllZip IsSetOf bs ss → length ss ≡ length bs
    as_long [] [] h = refl
    as_long [] (s ∷ ss) h = absurd h
    as_long (b ∷ bs) [] h = absurd h
    as_long (b ∷ bs) (s ∷ ss) h = ap suc (as_long bs ss h.1)

    size : length sets ≡ length os
    size = as_long (put_all ls (map no_members os) 0 os) sets are ∙ long_all ls (map no_members os) 0 os ∙ long_empty [] 0 os

    each_later : Each (IsLater 0) (flat_map option_to_list sets) × AreByPlace (flat_map option_to_list sets)
    each_later =
        all_later 0 sets (let e = size in omega (arith, e)) (λ k low.
        let e = size in
        let here : k ≡ 0 + k = omega arith in
        subst (λ n. OptIsOf n (get_or sets k None)) here (opt_of k (get_or sets k None) (at_leader k (omega (arith, low, e)))))

    laws_of : (ss : List Shared) → Each (IsLater 0) ss → Each (IsSharedSet listing os) ss
    laws_of [] h = tt
    laws_of (s ∷ ss) h = (h.0.is.law, laws_of ss h.1)

    stands_in : (i : ℕ) → i < length os → is_shared (map (λ p. p.label) (equals listing os (one_at i))) ≡ true
        → (r : Option Shared) → get_or sets (leads i) None ≡ r → IsSetOf (bucket (leads i)) r → (s : Shared) × IsAmong s (flat_map option_to_list sets) × Contains s.places i
    stands_in i low h None e is =
        absurd (true≢false (sym h ∙ ap is_shared (sym (ap (map label_of) (sym (bucket_is ls (leads i) os (leader_low listing os d i low))) ∙ bucket_labels listing os d i low)) ∙ is))
    stands_in i low h (Some s) e is = (s, kept_among (leads i) sets s e, (set_of (leads i) s is).has i low refl)

    pub sets_law : AreShared listing os (flat_map option_to_list sets)
    sets_law = record {
      only = laws_of (flat_map option_to_list sets) each_later.0;
      all = λ i a g h.
          let at = get_here i a g in
          stands_in i at.0 (ap (λ o. is_shared (map (λ p. p.label) (equals listing os o))) at.1 ∙ h) (get_or sets (leads i) None) refl
          (at_leader (leads i) (leader_low listing os d i at.0));
      ordered = each_later.1;
    }

-- the sets that are found are the shared actions
pub shared_law : (listing : Rose Own → List Element) (os : List Owned) (ss : List Shared) → AreSetsOf (put_all (leaders listing os) (map no_members os) 0 os) ss
    → AreShared listing os ss
shared_law listing [] ss h = subst (AreShared listing []) (sym (h.all ∙ nothing h.sets h.are)) (record {
  only = tt;
  all = λ i a g s. absurd (let low = slice_get_within [] i a g in omega (arith, low));
  ordered = tt;
})
  where
    nothing : (rs : List (Option Shared)) → AllZip IsSetOf [] rs → flat_map option_to_list rs ≡ []
    nothing [] g = refl
    nothing (r ∷ rs) g = absurd g
shared_law listing (o ∷ os) ss h = subst (AreShared listing (o ∷ os)) (sym h.all) (sets_law listing (o ∷ os) o h.sets h.are)

-- ---- at most one list meets the law

module _ (listing : Rose Own → List Element) (os : List Owned) where
  far : (p : ℕ) (qs : List ℕ) → Each (λ y. slice_cmp nat_cmp (label_at os p) y ≡ Less) (map (label_at os) qs) → (z : ℕ) → Contains qs z
      → slice_cmp nat_cmp (label_at os p) (label_at os z) ≡ Less
  far p qs each z h = at_one (λ y. slice_cmp nat_cmp (label_at os p) y ≡ Less) (map (label_at os) qs) each (label_at os z) (to_map (label_at os) qs z h)

  apart : (x y : ℕ) → slice_cmp nat_cmp (label_at os x) (label_at os y) ≡ Less → label_at os x ≡ label_at os y → ⊥
  apart x y l e =
      let g : Less ≡ Equal = sym l ∙ ap (slice_cmp nat_cmp (label_at os x)) (sym e) ∙ tied_itself nat_list_cmp_total (label_at os x) in absurd (cc)

  -- with its label a place of a set is told
  one_label : (ps : List ℕ) → AreAscending (map (label_at os) ps) → (a b : ℕ) → Contains ps a → Contains ps b → label_at os a ≡ label_at os b → a ≡ b
  one_label [] up a b (k, low, is) h e = absurd (omega (arith, low))
  one_label (p ∷ ps) up a b (zero, low, is) (zero, less, same) e = sym is ∙ same
  one_label (p ∷ ps) up a b (zero, low, is) (suc j, less, same) e =
      absurd (apart p b (far p ps up.0 b (j, omega (arith, less), same)) (ap (label_at os) is ∙ e))
  one_label (p ∷ ps) up a b (suc i, low, is) (zero, less, same) e =
      absurd (apart p a (far p ps up.0 a (i, omega (arith, low), is)) (ap (label_at os) same ∙ sym e))
  one_label (p ∷ ps) up a b (suc i, low, is) (suc j, less, same) e =
      one_label ps up.1 a b (i, omega (arith, low), is) (j, omega (arith, less), same) e

  module _ (d : Owned) where
    here : (j : ℕ) → j < length os → slice_get os j ≡ Some (get_or os j d)
    here j low = slice_get-get_or os j d low

    in_range : (s : Shared) → IsSharedSet listing os s → (j : ℕ) → Contains s.places j → j < length os
    in_range s is j h = at_one (λ i. i < length os) s.places is.within j h

    ascends : (s : Shared) → IsSharedSet listing os s → AreAscending (map (label_at os) s.places)
    ascends s is = subst AreAscending is.owners is.ordered

    -- two sets with one place are one
    moves : (s t : Shared) → IsSharedSet listing os s → IsSharedSet listing os t → (i : ℕ) → Contains s.places i → Contains t.places i
        → (j : ℕ) → Contains s.places j → Contains t.places j
    moves s t is_s is_t i hs ht j hj =
        let a = here i (in_range s is_s i hs) in
        let b = here j (in_range s is_s j hj) in
        (is_t.whole i j (get_or os i d) (get_or os j d) ht a b).0 ((is_s.whole i j (get_or os i d) (get_or os j d) hs a b).1 hj)

    same_set : (s t : Shared) → IsSharedSet listing os s → IsSharedSet listing os t → (i : ℕ) → Contains s.places i → Contains t.places i → s ≡ t
    same_set s t is_s is_t i hs ht =
        let places : s.places ≡ t.places =
        ascending_same (label_at os) s.places t.places (ascends s is_s) (ascends t is_t) (moves s t is_s is_t i hs ht) (moves t s is_t is_s i ht hs) in
        let owners : s.owners ≡ t.owners = is_s.owners ∙ ap (map (label_at os)) places ∙ sym is_t.owners in
        λ k. record { places = places k; owners = owners k }

    -- ---- an action of a set is shared

    module _ (s : Shared) (is : IsSharedSet listing os s) (i : ℕ) (hi : Contains s.places i) where
      abbrev this : Owned
      this = get_or os i d

      abbrev equal : Owned → Bool
      equal p = same_action listing this.action p.action

      low : i < length os
      low = in_range s is i hi

      is_equal : (j : ℕ) → Contains s.places j → equal (get_or os j d) ≡ true
      is_equal j hj = (is.whole i j this (get_or os j d) hi (here i low) (here j (in_range s is j hj))).1 hj

      in_set : (j : ℕ) → j < length os → equal (get_or os j d) ≡ true → Contains s.places j
      in_set j less h = (is.whole i j this (get_or os j d) hi (here i low) (here j less)).0 h

      two_of : (a b : ℕ) → Contains s.places a → Contains s.places b → (a ≡ b → ⊥) → 2 ≤ length (filter equal os)
      two_of a b ha hb ne = elim (cases_lt a b) [
        | inl less ↦ pair_long (λ x y. true) (filter equal os) (pair_from equal (λ x y. true) os a b d less (in_range s is b hb) (is_equal a ha) (is_equal b hb) refl)
        | inr l ↦ elim (cases_lt b a) [
          | inl less ↦ pair_long (λ x y. true) (filter equal os) (pair_from equal (λ x y. true) os b a d less (in_range s is a ha) (is_equal b hb) (is_equal a ha) refl)
          | inr g ↦ absurd (ne (omega (arith, l, g)))
        ]
      ]

      long_by : (ps : List ℕ) → s.places ≡ ps → 2 ≤ length (filter equal os)
      long_by [] e = let n = is.two in let k = ap length e in absurd (omega (arith, n, k))
      long_by (a ∷ []) e = let n = is.two in let k = ap length e in absurd (omega (arith, n, k))
      long_by (a ∷ b ∷ ps) e =
          two_of a b (subst (λ qs. Contains qs a) (sym e) (head_in a (b ∷ ps))) (subst (λ qs. Contains qs b) (sym e) (tail_in a (b ∷ ps) b (head_in b ps)))
          (λ same. apart a b (subst (λ qs. AreAscending (map (label_at os) qs)) e (ascends s is)).0.0 (ap (label_at os) same))

      label_here : (j : ℕ) → j < length os → label_at os j ≡ (get_or os j d).label
      label_here j less = ap (λ o. option_map_or (λ (x : Owned). x.label) o []) (here j less)

      no_pair : some_pair (λ x y. bytes_eq x.label y.label) (filter equal os) ≡ true → ⊥
      no_pair h =
          let p = pair_at equal (λ (x : Owned) y. bytes_eq x.label y.label) os h in
          let less = p.apart in
          let w = p.within in
          let l : p.one < length os = omega (arith, less, w) in
          let labels = (bytes_eq-Decides (get_or os p.one d).label (get_or os p.other d).label).0 (p.does d) in
          let same = one_label s.places (ascends s is) p.one p.other (in_set p.one l (p.first d)) (in_set p.other w (p.second d))
          (label_here p.one l ∙ labels ∙ sym (label_here p.other w)) in
          absurd (omega (arith, less, same))

      shared_here : is_shared (map (λ p. p.label) (equals listing os this)) ≡ true
      shared_here =
          let n = long_by s.places refl in
          let k = length-map (filter equal os) (λ (p : Owned). p.label) in
          both (nat_lt 1 (length (map (λ p. p.label) (filter equal os)))) (not (some_pair bytes_eq (map (λ p. p.label) (filter equal os))))
          (is_many (length (map (λ p. p.label) (filter equal os))) (omega (arith, n, k)))
          (ap not (not_true (some_pair bytes_eq (map (λ p. p.label) (filter equal os)))
          (λ h. no_pair (sym (pair_map (λ (p : Owned). p.label) bytes_eq (filter equal os)) ∙ h))))

    -- each of one list is among the other
    one_among : (ss : List Shared) → AreShared listing os ss → (s : Shared) → IsSharedSet listing os s → (ps : List ℕ) → s.places ≡ ps → IsAmong s ss
    one_among ss are s is [] e = let n = is.two in let k = ap length e in absurd (omega (arith, n, k))
    one_among ss are s is (p ∷ ps) e =
        let hp : Contains s.places p = subst (λ qs. Contains qs p) (sym e) (head_in p ps) in
        let r = are.all p (get_or os p d) (here p (in_range s is p hp)) (shared_here s is p hp) in
        subst (λ x. IsAmong x ss) (sym (same_set s r.0 is (set_among ss are.only r.0 r.1) p hp r.2)) r.1
      where
        set_among : (ts : List Shared) → Each (IsSharedSet listing os) ts → (t : Shared) → IsAmong t ts → IsSharedSet listing os t
        set_among [] h t g = absurd g
        set_among (x ∷ xs) h t (inl f) = subst (IsSharedSet listing os) (sym f) h.0
        set_among (x ∷ xs) h t (inr g) = set_among xs h.1 t g

    each_among : (ss ts : List Shared) → AreShared listing os ts → Each (IsSharedSet listing os) ss → Each (λ s. IsAmong s ts) ss
    each_among [] ts are h = tt
    each_among (s ∷ ss) ts are h = (one_among ts are s h.0 s.places refl, each_among ss ts are h.1)

-- ---- lists in order with the same sets

not_before_itself : (s : Shared) → IsBefore s s → ⊥
not_before_itself s (i, has, each) = let less = at_one (λ j. i < j) s.places each i has in absurd (omega (arith, less))

before_before : (s t u : Shared) → IsBefore s t → IsBefore t u → IsBefore s u
before_before s t u (i, has, each) (k, there, later) =
    let less = at_one (λ j. i < j) t.places each k there in (i, has, each_by (λ j. i < j) u.places (λ j h. let more = at_one (λ j. k < j) u.places later j h in omega (arith, less, more)))

before_all : (s x : Shared) (ts : List Shared) → Each (IsBefore s) ts → IsAmong x ts → IsBefore s x
before_all s x [] h a = absurd a
before_all s x (t ∷ ts) h (inl e) = subst (IsBefore s) (sym e) h.0
before_all s x (t ∷ ts) h (inr a) = before_all s x ts h.1 a

first_same : (s t : Shared) (ss ts : List Shared) → Each (IsBefore s) ss → Each (IsBefore t) ts → IsAmong s (t ∷ ts) → IsAmong t (s ∷ ss) → s ≡ t
first_same s t ss ts g h (inl e) b = e
first_same s t ss ts g h (inr a) (inl e) = sym e
first_same s t ss ts g h (inr a) (inr b) =
    absurd (not_before_itself s (before_before s t s (before_all s t ss g b) (before_all t s ts h a)))

later_only : (s x t : Shared) (ts : List Shared) → s ≡ t → IsBefore s x → IsAmong x (t ∷ ts) → IsAmong x ts
later_only s x t ts e l (inl f) = absurd (not_before_itself s (subst (IsBefore s) (f ∙ sym e) l))
later_only s x t ts e l (inr a) = a

all_later_only : (s t : Shared) (ts : List Shared) → s ≡ t → (xs : List Shared) → Each (IsBefore s) xs → Each (λ x. IsAmong x (t ∷ ts)) xs → Each (λ x. IsAmong x ts) xs
all_later_only s t ts e [] g h = tt
all_later_only s t ts e (x ∷ xs) g h = (later_only s x t ts e g.0 h.0, all_later_only s t ts e xs g.1 h.1)

same_lists : (ss ts : List Shared) → AreByPlace ss → AreByPlace ts → Each (λ s. IsAmong s ts) ss → Each (λ t. IsAmong t ss) ts → ss ≡ ts
same_lists [] [] g h a b = refl
same_lists [] (t ∷ ts) g h a b = absurd b.0
same_lists (s ∷ ss) [] g h a b = absurd a.0
same_lists (s ∷ ss) (t ∷ ts) g h a b =
    let e = first_same s t ss ts g.0 h.0 a.0 b.0 in
    let rest = same_lists ss ts g.1 h.1 (all_later_only s t ts e ss g.0 a.1) (all_later_only t s ss (sym e) ts h.0 b.1) in
    λ k. e k ∷ rest k

-- a set has a place, which the list has too
no_sets : (listing : Rose Own → List Element) (ss : List Shared) → Each (IsSharedSet listing []) ss → ss ≡ []
no_sets listing [] h = refl
no_sets listing (s ∷ ss) h = absurd (first s.places refl)
  where
    first : (ps : List ℕ) → s.places ≡ ps → ⊥
    first [] e = let n = h.0.two in let k = ap length e in absurd (omega (arith, n, k))
    first (p ∷ ps) e = let low = (subst (λ qs. Each (λ i. i < 0) qs) e h.0.within).0 in absurd (omega (arith, low))

pub one_list : (listing : Rose Own → List Element) (os : List Owned) (ss ts : List Shared) → AreShared listing os ss → AreShared listing os ts → ss ≡ ts
one_list listing [] ss ts g h = no_sets listing ss g.only ∙ sym (no_sets listing ts h.only)
one_list listing (o ∷ os) ss ts g h =
    same_lists ss ts g.ordered h.ordered (each_among listing (o ∷ os) o ss ts h g.only) (each_among listing (o ∷ os) o ts ss g h.only)
