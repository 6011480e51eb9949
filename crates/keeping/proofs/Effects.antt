-- What is done one thing after the other keeps what each keeps.
use Rattle.std.proofs.Common.{◌≡◌, ℕ, zero, suc, Bool, true, false, List, [], ◌∷◌, ◌++◌, if◌then◌else◌, subst, refl}
use Rattle.std.specs.Prelude.{Option, Some, None, Result, Ok, Err, slice_get}
use Rattle.program_tree.specs.Names.{Name}
use Rattle.meaning.specs.Operations.{Operation, Callee, plain, method, Operations}
use Rattle.meaning.specs.Outcome.{Slots, Outcome, done, fault, Effect, then_do, ◌>>=◌, pure, raise, acted, act, change, Here, put, cleared, found, slot_value, set_slot, Final, final_of, resumed}
use Rattle.keeping.specs.Kept.{Kept, goods, named_goods, good_slot, good_slots, good_callee, Gives, anything}

module _ {S V : Type 0} (r : Kept S V) where
  -- ---- what is good stays good

  pub goods_stay : (k l : r.World) (vs : List V) → r.grows k l → goods r k vs → goods r l vs
  goods_stay k l [] up h = tt
  goods_stay k l (v ∷ vs) up h = (r.stays k l v up h.0, goods_stay k l vs up h.1)

  pub named_stay : (k l : r.World) (ps : List (Name × V)) → r.grows k l → named_goods r k ps → named_goods r l ps
  named_stay k l [] up h = tt
  named_stay k l (p ∷ ps) up h = (r.stays k l p.1 up h.0, named_stay k l ps up h.1)

  pub slot_stays : (k l : r.World) (o : Option V) → r.grows k l → good_slot r k o → good_slot r l o
  slot_stays k l None up h = tt
  slot_stays k l (Some v) up h = r.stays k l v up h

  pub slots_stay : (k l : r.World) (os : List (Option V)) → r.grows k l → good_slots r k os → good_slots r l os
  slots_stay k l [] up h = tt
  slots_stay k l (o ∷ os) up h = (slot_stays k l o up h.0, slots_stay k l os up h.1)

  pub callee_stays : (k l : r.World) (g : Callee V) → r.grows k l → good_callee r k g → good_callee r l g
  callee_stays k l (plain v) up h = r.stays k l v up h
  callee_stays k l (method v x) up h = r.stays k l v up h

  pub goods_behind : (k : r.World) (vs : List V) (v : V) → goods r k vs → r.good k v → goods r k (vs ++ v ∷ [])
  goods_behind k [] v hs h = (h, tt)
  goods_behind k (w ∷ vs) v hs h = (hs.0, goods_behind k vs v hs.1 h)

  -- ---- slots

  pub put_keeps : (k : r.World) (n : ℕ) (o : Option V) (l : Slots V) → good_slot r k o → good_slots r k l → good_slots r k (put n o l)
  unfolding put
  put_keeps k zero o [] h hs = (h, tt)
  put_keeps k zero o (x ∷ xs) h hs = (h, hs.1)
  put_keeps k (suc n) o [] h hs = (tt, put_keeps k n o [] h tt)
  put_keeps k (suc n) o (x ∷ xs) h hs = (hs.0, put_keeps k n o xs h hs.1)

  pub cleared_keeps : (k : r.World) (n first : ℕ) (l : Slots V) → good_slots r k l → good_slots r k (cleared n first l)
  cleared_keeps k zero first l hs = hs
  cleared_keeps k (suc n) first l hs = cleared_keeps k n (suc first) (put first None l) (put_keeps k first None l tt hs)

  pub slot_in : (k : r.World) (n : ℕ) (l : Slots V) (v : V) → good_slots r k l → slice_get l n ≡ Some (Some v) → good_slot r k (Some v)
  slot_in k n l v hs e = go l n hs e
    where
      at : (o : Option (Option V)) → Option V
      at None = None
      at (Some x) = x

      all : (l : Slots V) (n : ℕ) → good_slots r k l → good_slot r k (at (slice_get l n))
      all [] n hs = tt
      all (x ∷ xs) zero hs = hs.0
      all (x ∷ xs) (suc n) hs = all xs n hs.1

      go : (l : Slots V) (n : ℕ) → good_slots r k l → slice_get l n ≡ Some (Some v) → good_slot r k (Some v)
      go l n hs e = subst (λ o. good_slot r k (at o)) e (all l n hs)

  module _ {K : Type 0} where
    -- ---- of an outcome

    abbrev pub After : {A : Type 0} → (r.World → A → Type 0) → r.World → Outcome S V K A → Type 0
    After P k (done a l s) = (w : r.World) × r.grows k w × good_slots r w l × r.holds w s × P w a
    After P k (fault e) = Unit {0}

    -- of what is done in any world that has grown from this one
    abbrev pub From : {A : Type 0} → (r.World → A → Type 0) → r.World → Effect S V K A → Type 0
    From P k m = (n : r.World) → r.grows k n → (l : Slots V) (s : S) → good_slots r n l → r.holds n s → After P n (m l s)

    widen : {A : Type 0} (P : r.World → A → Type 0) (n w : r.World) → r.grows n w → (o : Outcome S V K A) → After P w o → After P n o
    widen P n w up (done a l s) h = (h.0, r.further n w h.0 up h.1, h.2, h.3, h.4)
    widen P n w up (fault e) h = tt

    after_then : {A B : Type 0} (P : r.World → A → Type 0) (Q : r.World → B → Type 0) (n : r.World) (o : Outcome S V K A) (f : A → Effect S V K B) → After P n o
        → ((w : r.World) → r.grows n w → (a : A) (l : Slots V) (s : S) → good_slots r w l → r.holds w s → P w a → After Q w (f a l s)) → After Q n (then_do o f)
    after_then P Q n (done a l s) f h g = widen Q n h.0 h.1 (f a l s) (g h.0 h.1 a l s h.2 h.3 h.4)
    after_then P Q n (fault e) f h g = tt

    pub then_from : {A B : Type 0} (P : r.World → A → Type 0) (Q : r.World → B → Type 0) (k : r.World) (m : Effect S V K A) (f : A → Effect S V K B) → From P k m
        → ((n : r.World) → r.grows k n → (a : A) → P n a → From Q n (f a)) → From Q k (m >>= f)
    then_from P Q k m f h g n up l s ls hs =
        after_then P Q n (m l s) f (h n up l s ls hs) (λ w more a l2 s2 ls2 hs2 p. g w (r.further k n w up more) a p w (r.same w) l2 s2 ls2 hs2)

    pub raise_from : {A : Type 0} (P : r.World → A → Type 0) (k : r.World) (here : Here) (e : K) → From P k (raise here e)
    raise_from P k here e n up l s ls hs = tt

    acted_after : {A : Type 0} (P : r.World → A → Type 0) (n : r.World) (here : Here) (l : Slots V) (o : Result (A × S) K) → good_slots r n l → Gives r P n o → After P n (acted here l o)
    acted_after P n here l (Ok p) ls h = (h.0, h.1, slots_stay n h.0 l h.1 ls, h.2, h.3)
    acted_after P n here l (Err e) ls h = tt

    pub act_from : {A : Type 0} (P : r.World → A → Type 0) (k : r.World) (here : Here) (o : Operation S K A) → ((n : r.World) → r.grows k n → (s : S) → r.holds n s → Gives r P n (o s))
        → From P k (act here o)
    act_from P k here o h n up l s ls hs = acted_after P n here l (o s) ls (h n up s hs)

    pub if_from : {A : Type 0} (P : r.World → A → Type 0) (k : r.World) (t : Bool) (m n : Effect S V K A) → From P k m → From P k n → From P k (if t then m else n)
    if_from P k true m n hm hn = hm
    if_from P k false m n hm hn = hn

    pub later_from : {A : Type 0} (P : r.World → A → Type 0) (k w : r.World) (m : Effect S V K A) → r.grows k w → From P k m → From P w m
    later_from P k w m up h n more = h n (r.further k w n up more)

    found_after : (ops : Operations S V K) (here : Here) (n : r.World) (o : Option (Option V)) (l : Slots V) (s : S) → ((v : V) → o ≡ Some (Some v) → good_slot r n (Some v)) → good_slots r n l
        → r.holds n s → After r.good n (found ops here o l s)
    found_after ops here n None l s h ls hs = tt
    found_after ops here n (Some None) l s h ls hs = tt
    found_after ops here n (Some (Some v)) l s h ls hs = (n, r.same n, ls, hs, h v refl)

    pub slot_from : (ops : Operations S V K) (k : r.World) (here : Here) (i : ℕ) → From r.good k (slot_value ops here i)
    unfolding slot_value
    slot_from ops k here i n up l s ls hs = found_after ops here n (slice_get l i) l s (λ v e. slot_in n i l v ls e) ls hs

    -- ---- how calls end

    pub final_gives : (k : r.World) (o : Outcome S V K V) → After r.good k o → Gives r r.good k (final_of o)
    final_gives k (done v l s) h = (h.0, h.1, h.3, h.4)
    final_gives k (fault e) h = tt

    pub resumed_after : (k : r.World) (l : Slots V) (o : Final S V K) → good_slots r k l → Gives r r.good k o → After r.good k (resumed l o)
    resumed_after k l (Ok p) ls h = (h.0, h.1, slots_stay k h.0 l h.1 ls, h.2, h.3)
    resumed_after k l (Err e) ls h = tt

  module _ (K : Type 0) where
    pub pure_from : {A : Type 0} (P : r.World → A → Type 0) (k : r.World) (a : A) → ((n : r.World) → r.grows k n → P n a) → From P k (pure {K = K} a)
    pure_from P k a h n up l s ls hs = (n, r.same n, ls, hs, h n up)

    pub change_from : (k : r.World) (f : S → S) → ((n : r.World) → r.grows k n → (s : S) → r.holds n s → r.holds n (f s)) → From (anything r) k (change {K = K} f)
    change_from k f h n up l s ls hs = (n, r.same n, ls, h n up s hs, tt)

    pub set_slot_from : (k : r.World) (i : ℕ) (v : V) → r.good k v → From (anything r) k (set_slot {K = K} i (Some v))
    set_slot_from k i v h n up l s ls hs = (n, r.same n, put_keeps n i (Some v) l (r.stays k n v up h) ls, hs, tt)

    pub unit_from : (k : r.World) → From (anything r) k (pure {K = K} {A = Unit {0}} tt)
    unit_from k n up l s ls hs = (n, r.same n, ls, hs, tt)
