-- Parts with names, and the whole.
use Rattle.std.proofs.Common.{◌≡◌, ℕ, zero, suc, ◌+◌, ◌≤◌, Bool, true, false, ◌||◌, List, [], ◌∷◌, ◌++◌, length, map, min, take, length-take, slice_get, Option, Some, None, refl, sym, ap, ◌∙◌, arith, add-one}
use Rattle.std.specs.Prelude.{unwrap_or, is_some, if◌then◌else◌}
use Rattle.std.specs.Option.{option_or}
use Rattle.values.specs.Tree.{Trees, Pairs, Slots, dict, instance, trees, pairs, slots, weight, weights, pair_weights, slot_weights}
use Rattle.values.specs.View.{FrozenTree, FrozenBranch}
use Rattle.leaves.specs.declared.leaf.Provider.{Provider}
use Rattle.keys.specs.declared.key.Key.{Key}
use Rattle.evaluation.specs.Naming.{Naming, named, slot_named, provider_named, trees_named, pairs_named, slots_named}

-- what is made only where it is new is what is wanted, if nothing else was there
pub new_or_same : {A : Type 0} (b : Bool) (new old : A) → (b ≡ false → new ≡ old) → unwrap_or (if b then Some new else None) old ≡ new
new_or_same true new old h = refl
new_or_same false new old h = sym (h refl)

pub neither : (a b : Bool) → (a || b) ≡ false → (a ≡ false) × (b ≡ false)
neither true b h = absurd (cc)
neither false b h = (refl, h)

pub unchanged : {A : Type 0} (o : Option A) (old : A) → is_some o ≡ false → unwrap_or o old ≡ old
unchanged None old h = refl
unchanged (Some a) old h = absurd (cc)

pub slot_unchanged : {A : Type 0} (o old : Option A) → is_some o ≡ false → option_or o old ≡ old
slot_unchanged None old h = refl
slot_unchanged (Some a) old h = absurd (cc)

module _ {A : Type 0} where
  take_suc : (xs : List A) (i : ℕ) (x : A) → slice_get xs i ≡ Some x → take (suc i) xs ≡ take i xs ++ x ∷ []
  take_suc [] i x h = absurd (cc)
  take_suc (y ∷ ys) zero x h = let e : y ≡ x = cc in ap (λ z. z ∷ []) e
  take_suc (y ∷ ys) (suc i) x h = ap (λ l. y ∷ l) (take_suc ys i x h)

  pub take_next : (xs : List A) (i : ℕ) (x : A) → slice_get xs i ≡ Some x → take (i + 1) xs ≡ take i xs ++ x ∷ []
  take_next xs i x h = ap (λ n. take n xs) (add-one i) ∙ take_suc xs i x h

  map_push : {B : Type 0} (f : A → B) (xs : List A) (x : A) → map f (xs ++ x ∷ []) ≡ map f xs ++ f x ∷ []
  map_push f [] x = refl
  map_push f (y ∷ ys) x = ap (λ l. f y ∷ l) (map_push f ys x)

  pub map_next : {B : Type 0} (f : A → B) (xs : List A) (i : ℕ) (x : A) → slice_get xs i ≡ Some x → map f (take i xs) ++ f x ∷ [] ≡ map f (take (i + 1) xs)
  map_next f xs i x h = sym (map_push f (take i xs) x) ∙ ap (map f) (sym (take_next xs i x h))

module _ (ns : Naming) where
  pub trees_by_item : (ts : List FrozenTree) → trees (map (named ns) ts) ≡ trees_named ns (trees ts)
  trees_by_item [] = refl
  trees_by_item (t ∷ ts) = ap (λ us. Trees.more (named ns t) us) (trees_by_item ts)

  pub slots_by_item : (os : List (Option FrozenTree)) → slots (map (slot_named ns) os) ≡ slots_named ns (slots os)
  slots_by_item [] = refl
  slots_by_item (None ∷ os) = ap Slots.missing (slots_by_item os)
  slots_by_item (Some t ∷ os) = ap (λ us. Slots.given (named ns t) us) (slots_by_item os)

  pub pairs_by_item : (ks : List Key) (ts : List FrozenTree) → pairs ks (map (named ns) ts) ≡ pairs_named ns (pairs ks ts)
  pairs_by_item [] ts = refl
  pairs_by_item (k ∷ ks) [] = refl
  pairs_by_item (k ∷ ks) (t ∷ ts) = ap (λ us. Pairs.pair k (named ns t) us) (pairs_by_item ks ts)

-- of keys and values, those that have each other
pub pairs_cut : (ks : List Key) (ts : List FrozenTree) (n : ℕ) → n ≡ min (length ks) (length ts) → pairs (take n ks) (take n ts) ≡ pairs ks ts
pairs_cut [] ts zero h = refl
pairs_cut [] ts (suc n) h = refl
pairs_cut (k ∷ ks) [] zero h = refl
pairs_cut (k ∷ ks) [] (suc n) h = refl
pairs_cut (k ∷ ks) (t ∷ ts) zero h = absurd (omega (arith, h))
pairs_cut (k ∷ ks) (t ∷ ts) (suc n) h = let e : n ≡ min (length ks) (length ts) = omega (arith, h) in ap (λ us. Pairs.pair k t us) (pairs_cut ks ts n e)

pub weights_cut : (ks : List Key) (ts : List FrozenTree) (n : ℕ) → n ≡ min (length ks) (length ts) → weights (trees (take n ts)) ≡ pair_weights (pairs ks ts)
weights_cut [] ts zero h = refl
weights_cut [] ts (suc n) h = absurd (omega (arith, h))
weights_cut (k ∷ ks) [] zero h = refl
weights_cut (k ∷ ks) [] (suc n) h = absurd (omega (arith, h))
weights_cut (k ∷ ks) (t ∷ ts) zero h = absurd (omega (arith, h))
weights_cut (k ∷ ks) (t ∷ ts) (suc n) h = let e : n ≡ min (length ks) (length ts) = omega (arith, h) in ap (λ w. weight t + w) (weights_cut ks ts n e)

slot_weight_at : (os : List (Option FrozenTree)) (i : ℕ) (t : FrozenTree) → slice_get os i ≡ Some (Some t) → weight t ≤ slot_weights (slots os)
slot_weight_at [] i t p = absurd (cc)
slot_weight_at (None ∷ os) zero t p = absurd (cc)
slot_weight_at (Some u ∷ os) zero t p = let q : u ≡ t = cc in let e = ap weight q in omega arith
slot_weight_at (None ∷ os) (suc i) t p = let e = slot_weight_at os i t p in omega arith
slot_weight_at (Some u ∷ os) (suc i) t p = let e = slot_weight_at os i t p in omega arith

pub slot_at : (os : List (Option FrozenTree)) (i : ℕ) (o : Option FrozenTree) → slice_get os i ≡ Some o → slot_weights (slots (o ∷ [])) ≤ slot_weights (slots os)
slot_at os i None h = omega arith
slot_at os i (Some t) h = let e = slot_weight_at os i t h in omega (arith, e)

pub dict_cut : (ks : List Key) (ts : List FrozenTree) (n : ℕ) → n ≡ min (length ks) (length ts) → pairs (take (length (take n ts)) ks) (take n ts) ≡ pairs ks ts
dict_cut [] ts zero h = refl
dict_cut [] ts (suc n) h = absurd (omega (arith, h))
dict_cut (k ∷ ks) [] zero h = refl
dict_cut (k ∷ ks) [] (suc n) h = absurd (omega (arith, h))
dict_cut (k ∷ ks) (t ∷ ts) zero h = absurd (omega (arith, h))
dict_cut (k ∷ ks) (t ∷ ts) (suc n) h = let e : n ≡ min (length ks) (length ts) = omega (arith, h) in ap (λ us. Pairs.pair k t us) (dict_cut ks ts n e)

length_map : {A B : Type 0} (f : A → B) (xs : List A) → length (map f xs) ≡ length xs
length_map f [] = refl
length_map f (x ∷ xs) = let e = length_map f xs in omega (arith, e)

-- what is made of new parts, if one is new, is what is made of each part anew
pub made_anew : {X B : Type 0} (make : List X → B) (f : X → X) (b : Bool) (items seen xs : List X) (o : Option B)
    → seen ≡ xs → items ≡ map f seen → (b ≡ false → map f seen ≡ seen) → o ≡ (if b then Some (make items) else None)
    → unwrap_or o (make xs) ≡ make (map f xs)
made_anew make f b items seen xs o s p q r =
    ap (λ u. unwrap_or u (make xs)) r ∙ new_or_same b (make items) (make xs) (λ e. ap make (p ∙ q e ∙ s)) ∙ ap make (p ∙ ap (map f) s)

module _ (ns : Naming) (ks : List Key) (ts : List FrozenTree) where
  abbrev cut : List FrozenTree
  cut = take (min (length ks) (length ts)) ts

  pub dict_anew : (o : Option FrozenBranch) → unwrap_or o (dict (pairs (take (length cut) ks) cut)) ≡ dict (pairs (take (length (map (named ns) cut)) ks) (map (named ns) cut))
      → unwrap_or o (dict (pairs ks ts)) ≡ dict (pairs_named ns (pairs ks ts))
  dict_anew o h =
      let n = min (length ks) (length ts) in
      ap (λ ps. unwrap_or o (dict ps)) (sym (dict_cut ks ts n refl)) ∙ h
      ∙ ap (λ k. dict (pairs (take k ks) (map (named ns) cut))) (length_map (named ns) cut)
      ∙ ap dict (pairs_by_item ns (take (length cut) ks) cut)
      ∙ ap (λ ps. dict (pairs_named ns ps)) (dict_cut ks ts n refl)

  pub cut_fits : length (map (named ns) cut) ≤ length ks
  cut_fits = let e = length_map (named ns) cut in let f = length-take (min (length ks) (length ts)) ts in omega (arith, e, f)

-- an instance, whose provider or one of whose fields is new
pub instance_anew : (ns : Naming) (p : Provider) (fs seen items : List (Option FrozenTree)) (maker : Option Provider) (b : Bool) (o : Option FrozenBranch)
    → seen ≡ fs → unwrap_or maker p ≡ provider_named ns p → items ≡ map (slot_named ns) seen → (b ≡ false → map (slot_named ns) seen ≡ seen)
    → o ≡ (if is_some maker || b then Some (instance (unwrap_or maker p) (slots items)) else None)
    → unwrap_or o (instance p (slots fs)) ≡ instance (provider_named ns p) (slots_named ns (slots fs))
instance_anew ns p fs seen items maker b o s m q same r =
    ap (λ u. unwrap_or u (instance p (slots fs))) r
    ∙ new_or_same (is_some maker || b) (instance (unwrap_or maker p) (slots items)) (instance p (slots fs))
    (λ e. let n = neither (is_some maker) b e in λ j. instance (unchanged maker p n.0 j) (slots ((q ∙ same n.1 ∙ s) j)))
    ∙ (λ j. instance (m j) (slots ((q ∙ ap (map (slot_named ns)) s) j)))
    ∙ ap (instance (provider_named ns p)) (slots_by_item ns fs)
