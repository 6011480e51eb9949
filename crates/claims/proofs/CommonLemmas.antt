-- What is gathered from claims in order is each path that at least two of them name, with these.
use Rattle.std.proofs.Common.{◌≡◌, ◌≤◌, inl, inr, ℕ, Bool, true, false, List, [], ◌∷◌, ◌++◌, length, map, cond, refl, sym, ap, ◌∙◌, subst, arith, append_assoc, append-nil, if◌then◌else◌, nat_lt}
use Rattle.std.proofs.lemmas.Bool.{ltb-true, true≢false}
use Rattle.std.proofs.lemmas.Bool.Decides.{nat_tests}
use Rattle.std.proofs.lemmas.Cmp.{alike_right, tied_itself, nat_list_cmp_total}
use Rattle.std.proofs.lemmas.Slice.Eq.{bytes_eq-Decides}
use Rattle.std.proofs.lemmas.Map.Text.{is_eq-slice_cmp}
use Rattle.std.specs.List.{filter}
use Rattle.std.specs.declared.cmp.Ordering.{Ordering}
use Rattle.std.specs.declared.cmp.Ordering.TheVariants.{Less, Equal, Greater}
use Rattle.std.specs.Ordering.{nat_cmp, is_gt, is_eq, ordering_then, ordering_reverse, match_ordering}
use Rattle.std.specs.Cmp.Lexicographic.{slice_cmp}
use Rattle.std.specs.Str.{bytes_eq}
use Rattle.claims.specs.Claims.{claim_cmp, put_in_order, all_in_order, in_order, claims_from, is_on}
use Rattle.claims.specs.Commons.{common_of, commons_of, gathered, member_of, members, members_on}
use Rattle.actions.specs.Ascending.{Each, AreAscending}
use Rattle.claims.specs.Clashes.{IsAmong}
use Rattle.claims.specs.Owned.{Owned}
use Rattle.claims.specs.declared.claiming.Claim.{Claim}
use Rattle.claims.specs.declared.commons.Common.{Common}
use Rattle.claims.specs.declared.members.Member.{Member}

abbrev Path : Type 0
Path = List ℕ

abbrev cmp : Path → Path → Ordering
cmp = slice_cmp nat_cmp

abbrev Le : Path → Path → Type 0
Le p q = is_gt (cmp p q) ≡ false

-- the paths of claims go up, from one on
abbrev Rising : Path → List Claim → Type 0
Rising p [] = Unit {0}
Rising p (c ∷ cs) = Le p c.path × Rising c.path cs

turned : (r : Ordering) → ordering_reverse r ≡ Greater → is_gt r ≡ false
turned Less h = refl
turned Equal h = absurd (cc)
turned Greater h = absurd (cc)

level : (r : Ordering) → ordering_reverse r ≡ Equal → is_gt r ≡ false
level Less h = absurd (cc)
level Equal h = refl
level Greater h = absurd (cc)

before_first : (r o : Ordering) → ordering_then r o ≡ Less → is_gt r ≡ false
before_first Less o h = refl
before_first Equal o h = refl
before_first Greater o h = absurd (cc)

after_first : (x k : Path) (r o : Ordering) → cmp k x ≡ r → ordering_then r o ≡ Greater → Le x k
after_first x k Less o e h = absurd (cc)
after_first x k Equal o e h = level (cmp x k) (sym (nat_list_cmp_total.antisymm k x) ∙ e)
after_first x k Greater o e h = turned (cmp x k) (sym (nat_list_cmp_total.antisymm k x) ∙ e)

least : (q : Path) → Le [] q
least [] = refl
least (x ∷ xs) = refl

put : (p : Path) (x k : Claim) (xs ys : List Claim) (r : Ordering) → claim_cmp k x ≡ r → Le p k.path → Le p x.path → Rising x.path xs
    → (Le x.path k.path → Rising x.path ys) → Rising p (match_ordering r (k ∷ x ∷ xs) (x ∷ xs) (x ∷ ys))
put p x k xs ys Less e a b h g = (a, (before_first (cmp k.path x.path) _ e, h))
put p x k xs ys Equal e a b h g = (b, h)
put p x k xs ys Greater e a b h g = (b, g (after_first x.path k.path (cmp k.path x.path) _ refl e))

rising-put : (p : Path) (ks : List Claim) (k : Claim) → Rising p ks → Le p k.path → Rising p (put_in_order ks k)
rising-put p [] k h a = (a, tt)
rising-put p (x ∷ xs) k h a = put p x k xs (put_in_order xs k) (claim_cmp k x) refl a h.0 h.1 (λ b. rising-put x.path xs k h.1 b)

rising-all : (ks ds : List Claim) → Rising [] ks → Rising [] (all_in_order ks ds)
rising-all ks [] h = h
rising-all ks (d ∷ ds) h = rising-all (put_in_order ks d) ds (rising-put [] ks d h (least d.path))

-- the labels of a path that came before claims, and theirs
abbrev share : Path → List Member → List Claim → Path → List Member
share p ls ks q = (if bytes_eq p q then ls else []) ++ members_on q ks

pub record Gathers (f : Path → List Member) (p : Path) (r : List Common) : Type 0 where
  pub from : Each (λ c. Le p c.path) r
  pub ordered : AreAscending (map (λ c. c.path) r)
  pub all : (q : Path) → 2 ≤ length (f q) → IsAmong (record { path = q; members = f q }) r
  pub only : Each (λ c. (2 ≤ length (f c.path)) × (c.members ≡ f c.path)) r

same : (p q : Path) → bytes_eq p q ≡ true → p ≡ q
same p q h = (bytes_eq-Decides p q).0 h

alike : (p q : Path) → p ≡ q → bytes_eq p q ≡ true
alike p q h = (bytes_eq-Decides p q).1 h

module _ {X : Type 0} where
  pub each-map : (P Q : X → Type 0) → ((x : X) → P x → Q x) → (xs : List X) → Each P xs → Each Q xs
  each-map P Q f [] h = tt
  each-map P Q f (x ∷ xs) h = (f x h.0, each-map P Q f xs h.1)

like : (f g : Path → List Member) (p : Path) (r : List Common) → ((q : Path) → f q ≡ g q) → Gathers f p r → Gathers g p r
like f g p r e h = record {
  from = h.from;
  ordered = h.ordered;
  all = λ q n. subst (λ ls. 2 ≤ length ls → IsAmong (record { path = q; members = ls }) r) (e q) (h.all q) n;
  only = each-map (λ c. (2 ≤ length (f c.path)) × (c.members ≡ f c.path)) (λ c. (2 ≤ length (g c.path)) × (c.members ≡ g c.path))
      (λ c t. subst (λ ls. (2 ≤ length ls) × (c.members ≡ ls)) (e c.path) t) r h.only;
}

-- less than, and then at most
less-by : (p q r : Path) → cmp p q ≡ Less → (o : Ordering) → cmp q r ≡ o → is_gt o ≡ false → cmp p r ≡ Less
less-by p q r l Less e g = nat_list_cmp_total.trans p q r l e
less-by p q r l Equal e g = sym (alike_right nat_list_cmp_total q r p e) ∙ l
less-by p q r l Greater e g = absurd (true≢false g)

less-le : (p q r : Path) → cmp p q ≡ Less → Le q r → cmp p r ≡ Less
less-le p q r l h = less-by p q r l (cmp q r) refl h

different : (p q : Path) → cmp p q ≡ Less → bytes_eq p q ≡ false
different p q l = sym (is_eq-slice_cmp p q) ∙ ap is_eq l

-- at most, and not the same
strictly-by : (p q : Path) → bytes_eq p q ≡ false → (o : Ordering) → cmp p q ≡ o → is_gt o ≡ false → cmp p q ≡ Less
strictly-by p q d Less e g = e
strictly-by p q d Equal e g = absurd (true≢false (sym (sym (is_eq-slice_cmp p q) ∙ ap is_eq e) ∙ d))
strictly-by p q d Greater e g = absurd (true≢false g)

strictly : (p q : Path) → Le p q → bytes_eq p q ≡ false → cmp p q ≡ Less
strictly p q h d = strictly-by p q d (cmp p q) refl h

-- a path below those of claims has no label there
none-below : (p q : Path) (ks : List Claim) → cmp p q ≡ Less → Rising q ks → members_on p ks ≡ []
none-below p q [] l h = refl
none-below p q (c ∷ cs) l h =
    let less = less-le p q c.path l h.0 in
    ap (λ b. map member_of (cond b (c ∷ filter (is_on p) cs) (filter (is_on p) cs))) (different p c.path less) ∙ none-below p c.path cs less h.1

labels-same : (q : Path) (c : Claim) (cs : List Claim) (b : Bool) → bytes_eq q c.path ≡ b → members_on q (c ∷ cs) ≡ (if b then member_of c ∷ [] else []) ++ members_on q cs
labels-same q c cs true h = ap (λ b. map member_of (cond b (c ∷ filter (is_on q) cs) (filter (is_on q) cs))) h
labels-same q c cs false h = ap (λ b. map member_of (cond b (c ∷ filter (is_on q) cs) (filter (is_on q) cs))) h

turn-by : (p q : Path) → bytes_eq p q ≡ false → (b : Bool) → bytes_eq q p ≡ b → bytes_eq q p ≡ false
turn-by p q h true e = absurd (true≢false (sym (alike p q (sym (same q p e))) ∙ h))
turn-by p q h false e = e

turn : (p q : Path) (b : Bool) → bytes_eq p q ≡ b → bytes_eq q p ≡ b
turn p q true h = alike q p (sym (same p q h))
turn p q false h = turn-by p q h (bytes_eq q p) refl

-- a label more of the path
module _ (p : Path) (ls : List Member) (c : Claim) (cs : List Claim) (e : p ≡ c.path) (q : Path) where
  more-by : (b : Bool) → bytes_eq p q ≡ b → share p (ls ++ member_of c ∷ []) cs q ≡ share p ls (c ∷ cs) q
  more-by true h =
      ap (λ b. (if b then ls ++ member_of c ∷ [] else []) ++ members_on q cs) h ∙ append_assoc ls (member_of c ∷ []) (members_on q cs)
      ∙ ap (λ l. ls ++ l) (sym (labels-same q c cs true (turn c.path q true (ap (λ r. bytes_eq r q) (sym e) ∙ h))))
      ∙ sym (ap (λ b. (if b then ls else []) ++ members_on q (c ∷ cs)) h)
  more-by false h =
      ap (λ b. (if b then ls ++ member_of c ∷ [] else []) ++ members_on q cs) h
      ∙ sym (labels-same q c cs false (turn c.path q false (ap (λ r. bytes_eq r q) (sym e) ∙ h)))
      ∙ sym (ap (λ b. (if b then ls else []) ++ members_on q (c ∷ cs)) h)

  share-more : share p (ls ++ member_of c ∷ []) cs q ≡ share p ls (c ∷ cs) q
  share-more = more-by (bytes_eq p q) refl

-- the labels of another path begin
share-other : (p : Path) (ls : List Member) (c : Claim) (cs : List Claim) (q : Path) → bytes_eq p q ≡ false → share p ls (c ∷ cs) q ≡ share c.path (member_of c ∷ []) cs q
share-other p ls c cs q d =
    ap (λ b. (if b then ls else []) ++ members_on q (c ∷ cs)) d ∙ labels-same q c cs (bytes_eq c.path q) (turn c.path q (bytes_eq c.path q) refl)

-- all labels of the path are there
share-own : (p : Path) (ls : List Member) (c : Claim) (cs : List Claim) → cmp p c.path ≡ Less → Rising c.path cs → share p ls (c ∷ cs) p ≡ ls
share-own p ls c cs l h =
    ap (λ b. (if b then ls else []) ++ members_on p (c ∷ cs)) (alike p p refl)
    ∙ ap (λ m. ls ++ m) (none-below p c.path (c ∷ cs) l (ap is_gt (tied_itself nat_list_cmp_total c.path), h)) ∙ append-nil ls

among-later : (x : Common) (xs ys : List Common) → IsAmong x ys → IsAmong x (xs ++ ys)
among-later x [] ys h = h
among-later x (y ∷ xs) ys h = inr (among-later x xs ys h)

each-path : (p : Path) (r : List Common) → Each (λ c. cmp p c.path ≡ Less) r → Each (λ q. cmp p q ≡ Less) (map (λ c. c.path) r)
each-path p [] h = tt
each-path p (c ∷ r) h = (h.0, each-path p r h.1)

-- a path that is done before the rest: with its common, or without one
module _ (f g : Path → List Member) (p q : Path) (ls : List Member) (r : List Common) (l : cmp p q ≡ Less) (own : f p ≡ ls)
    (other : (x : Path) → bytes_eq p x ≡ false → f x ≡ g x) (h : Gathers g q r) where
  above : Each (λ c. cmp p c.path ≡ Less) r
  above = each-map (λ c. Le q c.path) (λ c. cmp p c.path ≡ Less) (λ c e. less-le p q c.path l e) r h.from

  upward : Each (λ c. Le p c.path) r
  upward = each-map (λ c. cmp p c.path ≡ Less) (λ c. Le p c.path) (λ c e. ap is_gt e) r above

  theirs : (cs : List Common) → Each (λ c. cmp p c.path ≡ Less) cs → Each (λ c. (2 ≤ length (g c.path)) × (c.members ≡ g c.path)) cs
      → Each (λ c. (2 ≤ length (f c.path)) × (c.members ≡ f c.path)) cs
  theirs [] a b = tt
  theirs (c ∷ cs) a b =
      (subst (λ m. (2 ≤ length m) × (c.members ≡ m)) (sym (other c.path (different p c.path a.0))) b.0, theirs cs a.1 b.1)

  rest-among : (x : Path) → bytes_eq p x ≡ false → 2 ≤ length (f x) → IsAmong (record { path = x; members = f x }) r
  rest-among x d n =
      subst (λ m. 2 ≤ length m → IsAmong (record { path = x; members = m }) r) (sym (other x d)) (h.all x) n

  here-or : (x : Path) → 2 ≤ length (f x) → (b : Bool) → bytes_eq p x ≡ b → IsAmong (record { path = x; members = f x }) (record { path = p; members = ls } ∷ r)
  here-or x m true e = let s = sym (same p x e) in inl (λ j. record { path = s j; members = (ap f s ∙ own) j })
  here-or x m false e = inr (rest-among x e m)

  with_common : 2 ≤ length ls → Gathers f p (record { path = p; members = ls } ∷ r)
  with_common n = record {
    from = (ap is_gt (tied_itself nat_list_cmp_total p), upward);
    ordered = (each-path p r above, h.ordered);
    all = λ x m. here-or x m (bytes_eq p x) refl;
    only = ((subst (λ m. 2 ≤ length m) (sym own) n, sym own), theirs r above h.only);
  }

  not-here : length ls ≤ 1 → (x : Path) → 2 ≤ length (f x) → (b : Bool) → bytes_eq p x ≡ b → IsAmong (record { path = x; members = f x }) r
  not-here n x m true e = let k = ap length (ap f (sym (same p x e)) ∙ own) in absurd (omega (arith, m, n, k))
  not-here n x m false e = rest-among x e m

  without : length ls ≤ 1 → Gathers f p r
  without n = record {
    from = upward;
    ordered = h.ordered;
    all = λ x m. not-here n x m (bytes_eq p x) refl;
    only = theirs r above h.only;
  }

  closed : (b : Bool) → nat_lt 1 (length ls) ≡ b → Gathers f p ((if b then record { path = p; members = ls } ∷ [] else []) ++ r)
  closed true e = with_common (let k = ltb-true 1 (length ls) e in omega (arith, k))
  closed false e = without (grind (arith, nat_tests, e))

-- the last path
module _ (p : Path) (ls : List Member) where
  only_own : share p ls [] p ≡ ls
  only_own = ap (λ b. (if b then ls else []) ++ []) (alike p p refl) ∙ append-nil ls

  last-here : (x : Path) → 2 ≤ length (share p ls [] x) → (b : Bool) → bytes_eq p x ≡ b
      → IsAmong {X = Common} (record { path = x; members = share p ls [] x }) (record { path = p; members = ls } ∷ [])
  last-here x m true d = let s = sym (same p x d) in inl (λ j. record { path = s j; members = (ap (share p ls []) s ∙ only_own) j })
  last-here x m false d = let k = ap (λ b. length ((if b then ls else []) ++ [])) d in absurd (omega (arith, m, k))

  last-gone : length ls ≤ 1 → (x : Path) → 2 ≤ length (share p ls [] x) → (b : Bool) → bytes_eq p x ≡ b → IsAmong {X = Common} (record { path = x; members = share p ls [] x }) []
  last-gone n x m true d = let k = ap (λ b. length ((if b then ls else []) ++ [])) d ∙ ap length (append-nil ls) in absurd (omega (arith, m, k, n))
  last-gone n x m false d = let k = ap (λ b. length ((if b then ls else []) ++ [])) d in absurd (omega (arith, m, k))

  last : (b : Bool) → nat_lt 1 (length ls) ≡ b → Gathers (share p ls []) p (if b then record { path = p; members = ls } ∷ [] else [])
  last true e = record {
    from = (ap is_gt (tied_itself nat_list_cmp_total p), tt);
    ordered = (tt, tt);
    all = λ x m. last-here x m (bytes_eq p x) refl;
    only = ((subst (λ m. 2 ≤ length m) (sym only_own) (let k = ltb-true 1 (length ls) e in omega (arith, k)), sym only_own), tt);
  }
  last false e = record { from = tt; ordered = tt; all = λ x m. last-gone (grind (arith, nat_tests, e)) x m (bytes_eq p x) refl; only = tt }

step : (p : Path) (ls : List Member) (c : Claim) (cs : List Claim) → Le p c.path → Rising c.path cs
    → ((q : Path) (ms : List Member) → Rising q cs → Gathers (share q ms cs) q (gathered q ms cs)) → (b : Bool) → bytes_eq p c.path ≡ b
    → Gathers (share p ls (c ∷ cs)) p (if b then gathered p (ls ++ member_of c ∷ []) cs else common_of p ls ++ gathered c.path (member_of c ∷ []) cs)
step p ls c cs a h known true e =
    let s = same p c.path e in
    like (share p (ls ++ member_of c ∷ []) cs) (share p ls (c ∷ cs)) p (gathered p (ls ++ member_of c ∷ []) cs) (share-more p ls c cs s)
    (known p (ls ++ member_of c ∷ []) (subst (λ q. Rising q cs) (sym s) h))
step p ls c cs a h known false e =
    let l = strictly p c.path a e in
    closed (share p ls (c ∷ cs)) (share c.path (member_of c ∷ []) cs) p c.path ls (gathered c.path (member_of c ∷ []) cs) l (share-own p ls c cs l h)
    (λ x d. share-other p ls c cs x d) (known c.path (member_of c ∷ []) h) (nat_lt 1 (length ls)) refl

-- what is gathered from claims in order has each path once, with its labels
gathers : (p : Path) (ls : List Member) (ks : List Claim) → Rising p ks → Gathers (share p ls ks) p (gathered p ls ks)
gathers p ls [] h = last p ls (nat_lt 1 (length ls)) refl
gathers p ls (c ∷ cs) h = step p ls c cs h.0 h.1 (λ q ms g. gathers q ms cs g) (bytes_eq p c.path) refl

none-by : (b : Bool) (ls : List Member) → (if b then [] else []) ++ ls ≡ ls
none-by true ls = refl
none-by false ls = refl

-- without labels before them
share-none : (ks : List Claim) (q : Path) → share [] [] ks q ≡ members_on q ks
share-none ks q = none-by (bytes_eq [] q) (members_on q ks)

-- the common paths of actions: by bytes of the path, each that at least two declare with these actions, and no other
pub commons_law : (os : List Owned) → Gathers (λ q. members q os) [] (commons_of os)
commons_law os =
    let ks = in_order (claims_from 0 os) in
    like (share [] [] ks) (λ q. members_on q ks) [] (gathered [] [] ks) (share-none ks) (gathers [] [] ks (rising-all [] (claims_from 0 os) tt))
