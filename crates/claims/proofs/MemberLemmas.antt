-- Which actions declare a path, by the claims in order.
use Rattle.std.proofs.Common.{◌≡◌, ◌∙◌, ◌<◌, ◌+◌, ◌||◌, ℕ, zero, suc, Bool, true, false, cond, List, [], ◌∷◌, ◌++◌, length, map, get_or, Contains, refl, sym, ap, subst, arith}
use Rattle.std.specs.List.{filter, list_any}
use Rattle.std.specs.Str.{bytes_eq}
use Rattle.std.specs.Cmp.Lexicographic.{slice_cmp}
use Rattle.std.specs.Ordering.{nat_cmp, ordering_then}
use Rattle.std.specs.declared.cmp.Ordering.{Ordering}
use Rattle.std.specs.declared.cmp.Ordering.TheVariants.{Less, Equal, Greater}
use Rattle.std.proofs.lemmas.Bool.{true≢false}
use Rattle.std.proofs.lemmas.Cmp.{nat_list_cmp_total, tied_itself}
use Rattle.std.proofs.lemmas.List.Elements.{Contains-append_left, Contains-append_right}
use Rattle.std.proofs.lemmas.Slice.Eq.{bytes_eq-Decides}
use Rattle.depsets.specs.declared.element.FileRef.{FileRef}
use Rattle.actions.specs.Ascending.{Each}
use Rattle.actions.proofs.Ascending.{Climbs, tail_in}
use Rattle.claims.specs.Claims.{claim_cmp, claim_on, claims_of, claims_from, in_order, is_on}
use Rattle.claims.specs.Clashes.{declares}
use Rattle.claims.specs.Commons.{member_of, members}
use Rattle.claims.specs.Members.{member_cmp}
use Rattle.claims.specs.Owned.{Owned}
use Rattle.claims.specs.declared.claiming.Claim.{Claim}
use Rattle.claims.specs.declared.members.Member.{Member}
use Rattle.claims.proofs.OwnerLemmas.{up-all, each-all}
use Rattle.claims.proofs.SortedClaims.{at_one, in_order_keeps}

module _ {X : Type 0} where
  each_more : (P Q : X → Type 0) → ((x : X) → P x → Q x) → (xs : List X) → Each P xs → Each Q xs
  each_more P Q f [] h = tt
  each_more P Q f (x ∷ xs) h = (f x h.0, each_more P Q f xs h.1)

  each_both : (P Q R : X → Type 0) → ((x : X) → P x → Q x → R x) → (xs : List X) → Each P xs → Each Q xs → Each R xs
  each_both P Q R f [] h k = tt
  each_both P Q R f (x ∷ xs) h k = (f x h.0 k.0, each_both P Q R f xs h.1 k.1)

  each_append : (P : X → Type 0) (xs ys : List X) → Each P xs → Each P ys → Each P (xs ++ ys)
  each_append P [] ys h k = k
  each_append P (x ∷ xs) ys h k = (h.0, each_append P xs ys h.1 k)

  each_kept : (P : X → Type 0) (t : X → Bool) (xs : List X) → Each P xs → Each (λ x. P x × (t x ≡ true)) (filter t xs)
  each_kept P t [] h = tt
  each_kept P t (x ∷ xs) h = at (t x) refl (each_kept P t xs h.1)
    where
      at : (b : Bool) → t x ≡ b → Each (λ y. P y × (t y ≡ true)) (filter t xs) → Each (λ y. P y × (t y ≡ true)) (cond b (x ∷ filter t xs) (filter t xs))
      at true e rest = ((h.0, e), rest)
      at false e rest = rest

  pub contains_kept : (t : X → Bool) (xs : List X) (z : X) → t z ≡ true → Contains xs z → Contains (filter t xs) z
  contains_kept t [] z passes (k, low, is) = absurd (omega (arith, low))
  contains_kept t (x ∷ xs) z passes (zero, low, is) =
      subst (λ b. Contains (cond b (x ∷ filter t xs) (filter t xs)) z) (sym (ap t is ∙ passes)) (0, omega arith, is)
  contains_kept t (x ∷ xs) z passes (suc k, low, is) = later (t x) (contains_kept t xs z passes (k, omega (arith, low), is))
    where
      later : (b : Bool) → Contains (filter t xs) z → Contains (cond b (x ∷ filter t xs) (filter t xs)) z
      later true rest = tail_in x (filter t xs) z rest
      later false rest = rest

  contains_mapped : {Y : Type 0} (f : X → Y) (xs : List X) (z : X) → Contains xs z → Contains (map f xs) (f z)
  contains_mapped f [] z (k, low, is) = absurd (omega (arith, low))
  contains_mapped f (x ∷ xs) z (zero, low, is) = (0, omega arith, ap f is)
  contains_mapped f (x ∷ xs) z (suc k, low, is) = tail_in (f x) (map f xs) (f z) (contains_mapped f xs z (k, omega (arith, low), is))

  each_mapped : {Y : Type 0} (f : X → Y) (P : Y → Type 0) (xs : List X) → Each (λ x. P (f x)) xs → Each P (map f xs)
  each_mapped f P [] h = tt
  each_mapped f P (x ∷ xs) h = (h.0, each_mapped f P xs h.1)

  pub climbs_kept : (R : X → X → Ordering) (t : X → Bool) (xs : List X) → Climbs R xs → Climbs R (filter t xs)
  climbs_kept R t [] h = tt
  climbs_kept R t (x ∷ xs) h = at (t x) (climbs_kept R t xs h.1)
    where
      each : (ys : List X) → Each (λ y. R x y ≡ Less) ys → Each (λ y. R x y ≡ Less) (filter t ys)
      each ys h = each_more (λ y. (R x y ≡ Less) × (t y ≡ true)) (λ y. R x y ≡ Less) (λ y p. p.0) (filter t ys) (each_kept (λ y. R x y ≡ Less) t ys h)

      at : (b : Bool) → Climbs R (filter t xs) → Climbs R (cond b (x ∷ filter t xs) (filter t xs))
      at true rest = (each xs h.0, rest)
      at false rest = rest

  -- each is among them, by a test that is true of itself
  some_itself : (e : X → X → Bool) → ((x : X) → e x x ≡ true) → (xs : List X) → Each (λ x. list_any (e x) xs ≡ true) xs
  some_itself e own [] = tt
  some_itself e own (x ∷ xs) =
      (ap (λ b. b || list_any (e x) xs) (own x), each_more (λ y. list_any (e y) xs ≡ true) (λ y. list_any (e y) (x ∷ xs) ≡ true) (λ y h. later (e y x) (list_any (e y) xs) h) xs (some_itself e own xs))
    where
      later : (a b : Bool) → b ≡ true → (a || b) ≡ true
      later true b h = refl
      later false b h = h

module _ (os : List Owned) (d : Owned) where
  -- it stands in the list, where its action declares the path
  pub record Stands (p l : List ℕ) (i : ℕ) : Type 0 where
    pub within : i < length os
    pub declared : declares p (get_or os i d) ≡ true
    pub owner : l ≡ (get_or os i d).label

  -- ---- each claim stands

  claims_stand : (n : ℕ) (rest : List Owned) → length os ≡ n + length rest → ((k : ℕ) → k < length rest → get_or rest k d ≡ get_or os (n + k) d)
      → Each (λ c. Stands c.path c.label c.place) (claims_from n rest)
  claims_stand n [] long same = tt
  claims_stand n (o ∷ rest) long same =
      each_append (λ c. Stands c.path c.label c.place) (claims_of n o) (claims_from (n + 1) rest)
      (each_mapped (claim_on n o.label) (λ c. Stands c.path c.label c.place) o.action.outputs
      (each_more (λ f. list_any (λ g. bytes_eq f.path g.path) o.action.outputs ≡ true) (λ f. Stands f.path o.label n) one o.action.outputs
      (some_itself (λ f g. bytes_eq f.path g.path) (λ f. (bytes_eq-Decides f.path f.path).1 refl) o.action.outputs)))
      (claims_stand (n + 1) rest (omega (arith, long))
      (λ k low. same (suc k) (omega (arith, low)) ∙ ap (λ j. get_or os j d) (let e : n + suc k ≡ n + 1 + k = omega arith in e)))
    where
      is : o ≡ get_or os n d
      is = same 0 (omega arith) ∙ ap (λ j. get_or os j d) (let e : n + 0 ≡ n = omega arith in e)

      one : (f : FileRef) → list_any (λ g. bytes_eq f.path g.path) o.action.outputs ≡ true → Stands f.path o.label n
      one f h = record { within = omega (arith, long); declared = ap (declares f.path) (sym is) ∙ h; owner = ap (λ x. x.label) is }

  all_stand : Each (λ c. Stands c.path c.label c.place) (in_order (claims_from 0 os))
  all_stand =
      each-all (λ c. Stands c.path c.label c.place) [] (claims_from 0 os) tt
      (claims_stand 0 os (omega arith) (λ k low. ap (λ j. get_or os j d) (let e : k ≡ 0 + k = omega arith in e)))

  module _ (p : List ℕ) where
    each_stands : Each (λ m. Stands p m.label m.place) (members p os)
    each_stands =
        each_mapped member_of (λ m. Stands p m.label m.place) (filter (is_on p) (in_order (claims_from 0 os)))
        (each_more (λ c. Stands c.path c.label c.place × (is_on p c ≡ true)) (λ c. Stands p c.label c.place)
        (λ c h. subst (λ q. Stands q c.label c.place) (sym ((bytes_eq-Decides p c.path).0 h.1)) h.0) (filter (is_on p) (in_order (claims_from 0 os)))
        (each_kept (λ c. Stands c.path c.label c.place) (is_on p) (in_order (claims_from 0 os)) all_stand))

    pub member_stands : (m : Member) → Contains (members p os) m → Stands p m.label m.place
    member_stands m h = at_one (λ m. Stands p m.label m.place) (members p os) each_stands m h

    -- ---- what stands is claimed

    one_claims : (n : ℕ) (l : List ℕ) (fs : List FileRef) → list_any (λ f. bytes_eq p f.path) fs ≡ true
        → Contains (map (claim_on n l) fs) (record { path = p; label = l; place = n })
    one_claims n l [] h = absurd (true≢false (sym h))
    one_claims n l (f ∷ fs) h = at (bytes_eq p f.path) refl h (one_claims n l fs)
      where
        at : (b : Bool) → bytes_eq p f.path ≡ b → (b || list_any (λ g. bytes_eq p g.path) fs) ≡ true
            → (list_any (λ g. bytes_eq p g.path) fs ≡ true → Contains (map (claim_on n l) fs) (record { path = p; label = l; place = n }))
            → Contains (map (claim_on n l) (f ∷ fs)) (record { path = p; label = l; place = n })
        at true e g rest = (0, omega arith, λ j. record { path = sym ((bytes_eq-Decides p f.path).0 e) j; label = l; place = n })
        at false e g rest = tail_in (claim_on n l f) (map (claim_on n l) fs) (record { path = p; label = l; place = n }) (rest g)

    claimed : (n i : ℕ) (rest : List Owned) → i < length rest → declares p (get_or rest i d) ≡ true
        → Contains (claims_from n rest) (record { path = p; label = (get_or rest i d).label; place = n + i })
    claimed n i [] low h = absurd (omega (arith, low))
    claimed n zero (o ∷ rest) low h =
        subst (λ j. Contains (claims_from n (o ∷ rest)) (record { path = p; label = o.label; place = j })) (let e : n ≡ n + 0 = omega arith in e)
        (Contains-append_left (claims_of n o) (claims_from (n + 1) rest) (record { path = p; label = o.label; place = n }) (one_claims n o.label o.action.outputs h))
    claimed n (suc i) (o ∷ rest) low h =
        subst (λ j. Contains (claims_from n (o ∷ rest)) (record { path = p; label = (get_or rest i d).label; place = j })) (let e : n + 1 + i ≡ n + suc i = omega arith in e)
        (Contains-append_right (claims_of n o) (claims_from (n + 1) rest) (record { path = p; label = (get_or rest i d).label; place = n + 1 + i })
        (claimed (n + 1) i rest (omega (arith, low)) h))

    pub is_member : (i : ℕ) → i < length os → declares p (get_or os i d) ≡ true
        → Contains (members p os) (record { label = (get_or os i d).label; place = i })
    is_member i low h =
        contains_mapped member_of (filter (is_on p) (in_order (claims_from 0 os))) (record { path = p; label = (get_or os i d).label; place = i })
        (contains_kept (is_on p) (in_order (claims_from 0 os)) (record { path = p; label = (get_or os i d).label; place = i }) ((bytes_eq-Decides p p).1 refl)
        (in_order_keeps (claims_from 0 os) (record { path = p; label = (get_or os i d).label; place = i })
        (subst (λ j. Contains (claims_from 0 os) (record { path = p; label = (get_or os i d).label; place = j })) (let e : 0 + i ≡ i = omega arith in e) (claimed 0 i os low h))))

-- ---- they are in order

behind : (r o : Ordering) → r ≡ Equal → ordering_then r o ≡ Less → o ≡ Less
behind Less o e h = absurd (let g : Less ≡ Equal = e in cc)
behind Equal o e h = h
behind Greater o e h = absurd (let g : Greater ≡ Equal = e in cc)

module _ (p : List ℕ) where
  member_less : (c e : Claim) → is_on p c ≡ true → is_on p e ≡ true → claim_cmp c e ≡ Less → member_cmp (member_of c) (member_of e) ≡ Less
  member_less c e a b h =
      behind (slice_cmp nat_cmp c.path e.path) _
      (ap (slice_cmp nat_cmp c.path) (sym ((bytes_eq-Decides p e.path).0 b) ∙ (bytes_eq-Decides p c.path).0 a) ∙ tied_itself nat_list_cmp_total c.path) h

  up_members : (ks : List Claim) → Each (λ c. is_on p c ≡ true) ks → Climbs claim_cmp ks → Climbs member_cmp (map member_of ks)
  up_members [] on h = tt
  up_members (c ∷ ks) on h = (
    each_mapped member_of (λ m. member_cmp (member_of c) m ≡ Less) ks
        (each_both (λ e. is_on p e ≡ true) (λ e. claim_cmp c e ≡ Less) (λ e. member_cmp (member_of c) (member_of e) ≡ Less) (λ e b g. member_less c e on.0 b g) ks on.1 h.0),
    up_members ks on.1 h.1,
  )

  every : (ks : List Claim) → Each (λ c. Unit {0}) ks
  every [] = tt
  every (c ∷ ks) = (tt, every ks)

  pub members_climb : (os : List Owned) → Climbs member_cmp (members p os)
  members_climb os =
      let ks = in_order (claims_from 0 os) in
      up_members (filter (is_on p) ks)
      (each_more (λ c. Unit {0} × (is_on p c ≡ true)) (λ c. is_on p c ≡ true) (λ c h. h.1) (filter (is_on p) ks) (each_kept (λ c. Unit {0}) (is_on p) ks (every ks)))
      (climbs_kept claim_cmp (is_on p) ks (up-all [] (claims_from 0 os) tt))
