-- Each label stands with a path as often as its actions declare the path, and the labels are in order.
use Rattle.std.proofs.Common.{◌≡◌, ◌<◌, ◌⊎◌, inl, inr, ℕ, ◌+◌, Bool, true, false, ◌&&◌, ◌||◌, List, [], ◌∷◌, length, map, cond, refl, sym, ap, ◌∙◌, arith}
use Rattle.std.proofs.lemmas.Bool.{true≢false}
use Rattle.std.proofs.lemmas.Cmp.{alike_right, tied_itself, nat_list_cmp_total, nat_cmp_total, then_total, on_total}
use Rattle.std.proofs.lemmas.Slice.Eq.{bytes_eq-Decides}
use Rattle.std.proofs.lemmas.Map.Text.{is_eq-slice_cmp}
use Rattle.std.specs.List.{filter, list_any}
use Rattle.std.specs.declared.cmp.Ordering.{Ordering}
use Rattle.std.specs.declared.cmp.Ordering.TheVariants.{Less, Equal, Greater}
use Rattle.std.specs.Ordering.{nat_cmp, is_gt, is_eq, ordering_then, ordering_reverse, match_ordering}
use Rattle.std.specs.Cmp.{IsTotalOrder, nat_cmp_is}
use Rattle.std.specs.Cmp.Lexicographic.{slice_cmp}
use Rattle.std.specs.Str.{bytes_eq}
use Rattle.depsets.specs.declared.element.FileRef.{FileRef}
use Rattle.claims.specs.Claims.{claim_cmp, claim_on, claims_of, claims_from, put_in_order, all_in_order, in_order, is_on}
use Rattle.actions.specs.Ascending.{Each}
use Rattle.claims.specs.Clashes.{labels_on, owners, declares}
use Rattle.claims.specs.Labels.{AreInOrder, times, declaring, AreLabels}
use Rattle.claims.specs.Owned.{Owned}
use Rattle.claims.specs.declared.claiming.Claim.{Claim}
use Rattle.actions.proofs.Ascending.{Climbs}
use Rattle.claims.proofs.ClaimLemmas.{all_in_order-append}

pub claims_total : IsTotalOrder claim_cmp
claims_total =
    then_total (on_total (λ c. c.path) nat_list_cmp_total) (then_total (on_total (λ c. c.label) nat_list_cmp_total) (on_total (λ c. c.place) nat_cmp_total))

module _ {X : Type 0} where
  each-map : (P Q : X → Type 0) → ((x : X) → P x → Q x) → (xs : List X) → Each P xs → Each Q xs
  each-map P Q f [] h = tt
  each-map P Q f (x ∷ xs) h = (f x h.0, each-map P Q f xs h.1)

-- claims strictly in order
abbrev pub Up : List Claim → Type 0
Up = Climbs claim_cmp

back : (x c : Claim) → claim_cmp c x ≡ Greater → claim_cmp x c ≡ Less
back x c e = claims_total.antisymm x c ∙ ap ordering_reverse e

forth : (x c : Claim) → claim_cmp x c ≡ Less → claim_cmp c x ≡ Greater
forth x c e = claims_total.antisymm c x ∙ ap ordering_reverse e

module _ (P : Claim → Type 0) where
  each-at : (c x : Claim) (xs ys : List Claim) (r : Ordering) → P c → P x → Each P xs → Each P ys → Each P (match_ordering r (c ∷ x ∷ xs) (x ∷ xs) (x ∷ ys))
  each-at c x xs ys Less a b h g = (a, (b, h))
  each-at c x xs ys Equal a b h g = (b, h)
  each-at c x xs ys Greater a b h g = (b, g)

  each-put : (ks : List Claim) (c : Claim) → Each P ks → P c → Each P (put_in_order ks c)
  each-put [] c h a = (a, tt)
  each-put (x ∷ xs) c h a = each-at c x xs (put_in_order xs c) (claim_cmp c x) a h.0 h.1 (each-put xs c h.1 a)

  pub each-all : (ks ds : List Claim) → Each P ks → Each P ds → Each P (all_in_order ks ds)
  each-all ks [] h g = h
  each-all ks (d ∷ ds) h g = each-all (put_in_order ks d) ds (each-put ks d h g.0) g.1

up-at : (c x : Claim) (xs ys : List Claim) (r : Ordering) → claim_cmp c x ≡ r → Each (λ d. claim_cmp x d ≡ Less) xs → Up xs
    → (claim_cmp x c ≡ Less → Each (λ d. claim_cmp x d ≡ Less) ys) → Up ys → Up (match_ordering r (c ∷ x ∷ xs) (x ∷ xs) (x ∷ ys))
up-at c x xs ys Less e a h f g =
    ((e, each-map (λ d. claim_cmp x d ≡ Less) (λ d. claim_cmp c d ≡ Less) (λ d l. claims_total.trans c x d e l) xs a), (a, h))
up-at c x xs ys Equal e a h f g = (a, h)
up-at c x xs ys Greater e a h f g = (f (back x c e), g)

up-put : (ks : List Claim) (c : Claim) → Up ks → Up (put_in_order ks c)
up-put [] c h = (tt, tt)
up-put (x ∷ xs) c h =
    up-at c x xs (put_in_order xs c) (claim_cmp c x) refl h.0 h.1 (λ l. each-put (λ d. claim_cmp x d ≡ Less) xs c h.0 l) (up-put xs c h.1)

pub up-all : (ks ds : List Claim) → Up ks → Up (all_in_order ks ds)
up-all ks [] h = h
up-all ks (d ∷ ds) h = up-all (put_in_order ks d) ds (up-put ks d h)

-- an equal claim is there
abbrev pub Has : Claim → List Claim → Type 0
Has d [] = ⊥
Has d (x ∷ xs) = (claim_cmp d x ≡ Equal) ⊎ Has d xs

has-at : (d x : Claim) (xs ys : List Claim) (r : Ordering) → claim_cmp d x ≡ r → Has d ys → Has d (match_ordering r (d ∷ x ∷ xs) (x ∷ xs) (x ∷ ys))
has-at d x xs ys Less e h = inl (tied_itself claims_total d)
has-at d x xs ys Equal e h = inl e
has-at d x xs ys Greater e h = inr h

pub has-put : (ks : List Claim) (d : Claim) → Has d (put_in_order ks d)
has-put [] d = inl (tied_itself claims_total d)
has-put (x ∷ xs) d = has-at d x xs (put_in_order xs d) (claim_cmp d x) refl (has-put xs d)

keeps-at : (d c x : Claim) (xs ys : List Claim) (r : Ordering) → Has d (x ∷ xs) → (Has d xs → Has d ys) → Has d (match_ordering r (c ∷ x ∷ xs) (x ∷ xs) (x ∷ ys))
keeps-at d c x xs ys Less h f = inr h
keeps-at d c x xs ys Equal h f = h
keeps-at d c x xs ys Greater (inl e) f = inl e
keeps-at d c x xs ys Greater (inr h) f = inr (f h)

pub has-keeps : (d c : Claim) (ks : List Claim) → Has d ks → Has d (put_in_order ks c)
has-keeps d c [] h = absurd h
has-keeps d c (x ∷ xs) h = keeps-at d c x xs (put_in_order xs c) (claim_cmp c x) h (has-keeps d c xs)

below-had : (x d : Claim) (ks : List Claim) → Each (λ k. claim_cmp x k ≡ Less) ks → Has d ks → claim_cmp x d ≡ Less
below-had x d [] a h = absurd h
below-had x d (k ∷ ks) a (inl e) = alike_right claims_total d k x e ∙ a.0
below-had x d (k ∷ ks) a (inr h) = below-had x d ks a.1 h

-- what is there isn't put again
had-put : (d : Claim) (ks : List Claim) → Up ks → Has d ks → put_in_order ks d ≡ ks
had-put d [] u h = absurd h
had-put d (x ∷ xs) u (inl e) = ap (λ r. match_ordering r (d ∷ x ∷ xs) (x ∷ xs) (x ∷ put_in_order xs d)) e
had-put d (x ∷ xs) u (inr h) =
    ap (λ r. match_ordering r (d ∷ x ∷ xs) (x ∷ xs) (x ∷ put_in_order xs d)) (forth x d (below-had x d xs u.0 h)) ∙ ap (λ l. x ∷ l) (had-put d xs u.1 h)

abbrev Lacks : Claim → List Claim → Type 0
Lacks d ks = Each (λ k. claim_cmp d k ≡ Equal → ⊥) ks

abbrev tally : Bool → ℕ
tally true = 1
tally false = 0

module _ {X : Type 0} (t : X → Bool) where
  one-more : (b : Bool) (x : X) (zs : List X) → length (cond b (x ∷ zs) zs) ≡ tally b + length zs
  one-more true x zs = omega arith
  one-more false x zs = omega arith

  count-cons : (x : X) (ys : List X) → length (filter t (x ∷ ys)) ≡ tally (t x) + length (filter t ys)
  count-cons x ys = one-more (t x) x (filter t ys)

module _ (t : Claim → Bool) where
  abbrev count : List Claim → ℕ
  count ks = length (filter t ks)

  count-at : (c x : Claim) (xs ys : List Claim) (r : Ordering) (n : ℕ) → (claim_cmp c x ≡ Equal → ⊥) → claim_cmp c x ≡ r → tally (t c) ≡ n → count ys ≡ count xs + n
      → count (match_ordering r (c ∷ x ∷ xs) (x ∷ xs) (x ∷ ys)) ≡ count (x ∷ xs) + n
  count-at c x xs ys Less n a e b h = let k = count-cons t c (x ∷ xs) in omega (arith, k, b)
  count-at c x xs ys Equal n a e b h = absurd (a e)
  count-at c x xs ys Greater n a e b h = let k = count-cons t x ys in let m = count-cons t x xs in omega (arith, k, m, h)

  -- a claim that is new counts
  count-new : (c : Claim) (ks : List Claim) → Lacks c ks → count (put_in_order ks c) ≡ count ks + tally (t c)
  count-new c [] a = let k = count-cons t c [] in omega (arith, k)
  count-new c (x ∷ xs) a = count-at c x xs (put_in_order xs c) (claim_cmp c x) (tally (t c)) a.0 refl refl (count-new c xs a.1)

  other-at : (c x : Claim) (xs ys : List Claim) (r : Ordering) → tally (t c) ≡ 0 → count ys ≡ count xs
      → count (match_ordering r (c ∷ x ∷ xs) (x ∷ xs) (x ∷ ys)) ≡ count (x ∷ xs)
  other-at c x xs ys Less b h = let k = count-cons t c (x ∷ xs) in omega (arith, k, b)
  other-at c x xs ys Equal b h = refl
  other-at c x xs ys Greater b h = let k = count-cons t x ys in let m = count-cons t x xs in omega (arith, k, m, h)

  -- a claim that isn't tested for doesn't
  count-other : (c : Claim) (ks : List Claim) → tally (t c) ≡ 0 → count (put_in_order ks c) ≡ count ks
  count-other c [] b = let k = count-cons t c [] in omega (arith, k, b)
  count-other c (x ∷ xs) b = other-at c x xs (put_in_order xs c) (claim_cmp c x) b (count-other c xs b)

pub then-first : (r o : Ordering) → ordering_then r o ≡ Equal → r ≡ Equal
then-first Less o h = h
then-first Equal o h = refl
then-first Greater o h = h

pub then-second : (r o : Ordering) → ordering_then r o ≡ Equal → o ≡ Equal
then-second Less o h = absurd (cc)
then-second Equal o h = h
then-second Greater o h = absurd (cc)

-- a claim of a label on a path
abbrev tests : List ℕ → List ℕ → Claim → Bool
tests p l c = is_on p c && bytes_eq l c.label

-- what one action adds
module _ (p l m : List ℕ) (i : ℕ) where
  abbrev own : Claim
  own = record { path = p; label = m; place = i }

  abbrev on_path : FileRef → Bool
  on_path f = bytes_eq p f.path

  is-own : (f : FileRef) → bytes_eq p f.path ≡ true → claim_on i m f ≡ own
  is-own f e = λ j. record { path = sym ((bytes_eq-Decides p f.path).0 e) j; label = m; place = i }

  untested : (f : FileRef) → bytes_eq p f.path ≡ false → tally (tests p l (claim_on i m f)) ≡ 0
  untested f e = ap (λ b. tally (b && bytes_eq l m)) e

  not-own : (f : FileRef) → bytes_eq p f.path ≡ false → claim_cmp own (claim_on i m f) ≡ Equal → ⊥
  not-own f e h =
      absurd (true≢false (sym (ap is_eq (then-first (slice_cmp nat_cmp p f.path) _ h)) ∙ is_eq-slice_cmp p f.path ∙ e))

  again : (f : FileRef) (fs : List FileRef) (ks : List Claim) → Up ks → Has own ks
      → ((js : List Claim) → Up js → Has own js → count (tests p l) (all_in_order js (map (claim_on i m) fs)) ≡ count (tests p l) js) → (b : Bool) → bytes_eq p f.path ≡ b
      → count (tests p l) (all_in_order (put_in_order ks (claim_on i m f)) (map (claim_on i m) fs)) ≡ count (tests p l) ks
  again f fs ks u h known true e =
      ap (λ js. count (tests p l) (all_in_order js (map (claim_on i m) fs))) (ap (put_in_order ks) (is-own f e) ∙ had-put own ks u h) ∙ known ks u h
  again f fs ks u h known false e =
      known (put_in_order ks (claim_on i m f)) (up-put ks (claim_on i m f) u) (has-keeps own (claim_on i m f) ks h)
      ∙ count-other (tests p l) (claim_on i m f) ks (untested f e)

  -- a second time the path counts no more
  after-own : (fs : List FileRef) (ks : List Claim) → Up ks → Has own ks → count (tests p l) (all_in_order ks (map (claim_on i m) fs)) ≡ count (tests p l) ks
  after-own [] ks u h = refl
  after-own (f ∷ fs) ks u h = again f fs ks u h (λ js v g. after-own fs js v g) (bytes_eq p f.path) refl

  own-tally : bytes_eq p p ≡ true → tally (tests p l own) ≡ tally (bytes_eq l m)
  own-tally e = ap (λ b. tally (b && bytes_eq l m)) e

  first-time : (f : FileRef) (fs : List FileRef) (ks : List Claim) → Up ks → Lacks own ks
      → ((js : List Claim) → Up js → Lacks own js → count (tests p l) (all_in_order js (map (claim_on i m) fs)) ≡ count (tests p l) js + tally (list_any on_path fs && bytes_eq l m))
      → (b : Bool) → bytes_eq p f.path ≡ b
      → count (tests p l) (all_in_order (put_in_order ks (claim_on i m f)) (map (claim_on i m) fs)) ≡ count (tests p l) ks + tally ((b || list_any on_path fs) && bytes_eq l m)
  first-time f fs ks u h known true e =
      ap (λ c. count (tests p l) (all_in_order (put_in_order ks c) (map (claim_on i m) fs))) (is-own f e)
      ∙ after-own fs (put_in_order ks own) (up-put ks own u) (has-put ks own)
      ∙ count-new (tests p l) own ks h ∙ ap (λ n. count (tests p l) ks + n) (own-tally ((bytes_eq-Decides p p).1 refl))
  first-time f fs ks u h known false e =
      known (put_in_order ks (claim_on i m f)) (up-put ks (claim_on i m f) u) (each-put (λ k. claim_cmp own k ≡ Equal → ⊥) ks (claim_on i m f) h (not-own f e))
      ∙ ap (λ n. n + tally (list_any on_path fs && bytes_eq l m)) (count-other (tests p l) (claim_on i m f) ks (untested f e))

  outputs-count : (fs : List FileRef) (ks : List Claim) → Up ks → Lacks own ks
      → count (tests p l) (all_in_order ks (map (claim_on i m) fs)) ≡ count (tests p l) ks + tally (list_any on_path fs && bytes_eq l m)
  outputs-count [] ks u h = omega arith
  outputs-count (f ∷ fs) ks u h = first-time f fs ks u h (λ js v g. outputs-count fs js v g) (bytes_eq p f.path) refl

  -- claims of earlier places aren't this action's
  earlier : (k : Claim) → k.place < i → claim_cmp own k ≡ Equal → ⊥
  earlier k l h =
      absurd (let e = then-second (slice_cmp nat_cmp m k.label) (nat_cmp i k.place) (then-second (slice_cmp nat_cmp p k.path) _ h) in
      let g = nat_cmp_is i k.place Greater l in let f = g ∙ e in cc)

  placed : (fs : List FileRef) → Each (λ k. k.place < i + 1) (map (claim_on i m) fs)
  placed [] = tt
  placed (f ∷ fs) = (omega arith, placed fs)

module _ (p l : List ℕ) where
  abbrev chosen : Owned → Bool
  chosen o = declares p o && bytes_eq l o.label

  claims-count : (os : List Owned) (i : ℕ) (ks : List Claim) → Up ks → Each (λ k. k.place < i) ks
      → count (tests p l) (all_in_order ks (claims_from i os)) ≡ count (tests p l) ks + length (filter chosen os)
  claims-count [] i ks u h = omega arith
  claims-count (o ∷ os) i ks u h =
      let ds = claims_of i o in
      let js = all_in_order ks ds in
      let one = outputs-count p l o.label i o.action.outputs ks u (each-map (λ k. k.place < i) (λ k. claim_cmp (own p l o.label i) k ≡ Equal → ⊥) (earlier p l o.label i) ks h) in
      let rest = claims-count os (i + 1) js (up-all ks ds u)
      (each-all (λ k. k.place < i + 1) ks ds (each-map (λ k. k.place < i) (λ k. k.place < i + 1) (λ k e. omega (arith, e)) ks h) (placed p l o.label i o.action.outputs)) in
      let both = ap (count (tests p l)) (all_in_order-append ks ds (claims_from (i + 1) os)) in
      let more = count-cons chosen o os in
      omega (arith, one, rest, both, more)

module _ {X : Type 0} (l : List ℕ) (f : X → List ℕ) (a : X → Bool) where
  chosen-at : (b : Bool) (x : X) (ys : List X) → length (filter (bytes_eq l) (map f (cond b (x ∷ ys) ys))) ≡ tally (b && bytes_eq l (f x)) + length (filter (bytes_eq l) (map f ys))
  chosen-at true x ys = count-cons (bytes_eq l) (f x) (map f ys)
  chosen-at false x ys = omega arith

  times-filter : (xs : List X) → times l (map f (filter a xs)) ≡ length (filter (λ x. a x && bytes_eq l (f x)) xs)
  times-filter [] = refl
  times-filter (x ∷ xs) =
      let one = chosen-at (a x) x (filter a xs) in
      let rest = times-filter xs in
      let more = count-cons (λ x. a x && bytes_eq l (f x)) x xs in
      omega (arith, one, rest, more)

-- the first of two orders decides where it isn't level
label-before : (r o q : Ordering) → r ≡ Equal → ordering_then r (ordering_then o q) ≡ Less → is_gt o ≡ false
label-before r Less q e h = refl
label-before r Equal q e h = refl
label-before r Greater q e h = absurd (let g = sym (ap (λ s. ordering_then s Greater) e) ∙ h in cc)

level-path : (p q r : List ℕ) → bytes_eq p q ≡ true → bytes_eq p r ≡ true → slice_cmp nat_cmp q r ≡ Equal
level-path p q r a b =
    let e = sym ((bytes_eq-Decides p q).0 a) ∙ (bytes_eq-Decides p r).0 b in
    ap (slice_cmp nat_cmp q) (sym e) ∙ tied_itself nat_list_cmp_total q

module _ (p : List ℕ) where
  later-at : (c d : Claim) (b : Bool) (ks : List Claim) → is_on p c ≡ true → is_on p d ≡ b → claim_cmp c d ≡ Less
      → Each (λ y. is_gt (slice_cmp nat_cmp c.label y) ≡ false) (map (λ k. k.label) ks)
      → Each (λ y. is_gt (slice_cmp nat_cmp c.label y) ≡ false) (map (λ k. k.label) (cond b (d ∷ ks) ks))
  later-at c d true ks a e h g =
      (label-before (slice_cmp nat_cmp c.path d.path) (slice_cmp nat_cmp c.label d.label) (nat_cmp c.place d.place) (level-path p c.path d.path a e) h, g)
  later-at c d false ks a e h g = g

  later-labels : (c : Claim) (ks : List Claim) → is_on p c ≡ true → Each (λ d. claim_cmp c d ≡ Less) ks → Each (λ y. is_gt (slice_cmp nat_cmp c.label y) ≡ false) (labels_on p ks)
  later-labels c [] a h = tt
  later-labels c (d ∷ ds) a h = later-at c d (is_on p d) (filter (is_on p) ds) a refl h.0 (later-labels c ds a h.1)

  ordered-at : (c : Claim) (b : Bool) (ks : List Claim) → (b ≡ true → Each (λ y. is_gt (slice_cmp nat_cmp c.label y) ≡ false) (map (λ k. k.label) ks))
      → AreInOrder (map (λ k. k.label) ks) → AreInOrder (map (λ k. k.label) (cond b (c ∷ ks) ks))
  ordered-at c true ks f h = (f refl, h)
  ordered-at c false ks f h = h

  labels-ordered : (ks : List Claim) → Up ks → AreInOrder (labels_on p ks)
  labels-ordered [] u = tt
  labels-ordered (c ∷ cs) u = ordered-at c (is_on p c) (filter (is_on p) cs) (λ e. later-labels c cs e u.0) (labels-ordered cs u.1)

claims-declaring : (p l : List ℕ) (os : List Owned) → length (filter (tests p l) (in_order (claims_from 0 os))) ≡ declaring p l os
claims-declaring p l os = let e = claims-count p l os 0 [] tt tt in omega (arith, e)

-- the labels of a path, without sorting
pub owners-are-labels : (os : List Owned) (p : List ℕ) → AreLabels os p (owners p os)
owners-are-labels os p = record {
  ordered = labels-ordered p (in_order (claims_from 0 os)) (up-all [] (claims_from 0 os) tt);
  counted = λ l. times-filter l (λ c. c.label) (is_on p) (in_order (claims_from 0 os)) ∙ claims-declaring p l os;
}
