-- What is done one thing after the other is alike if each is, from states that hold.
use Rattle.std.proofs.Common.{◌≡◌, ◌∙◌, ℕ, Bool, true, false, if◌then◌else◌, refl, ap}
use Rattle.std.specs.Prelude.{Option, Some, None, slice_get}
use Rattle.meaning.specs.Operations.{Operation, unset, Operations}
use Rattle.meaning.specs.Outcome.{Slots, Outcome, done, fault, Effect, fault_of, then_do, ◌>>=◌, pure, raise, acted, act, change, Here, found, slot_value}
use Rattle.keeping.specs.Kept.{Kept, good_slots, Gives}
use Rattle.keeping.proofs.Effects.{After, From, act_from}

-- the two records of operations that are compared
pub data Side : Type 0 where
  the_one the_other : Side

module _ {S V : Type 0} (r : Kept S V) {K : Type 0} where
  -- what is done by either is the same, in any world that has grown from this one
  abbrev pub Alike : {A : Type 0} → r.World → (Side → Effect S V K A) → Type 0
  Alike k m = (n : r.World) → r.grows k n → (l : Slots V) (s : S) → good_slots r n l → r.holds n s → m the_one l s ≡ m the_other l s

  pub same_alike : {A : Type 0} (k : r.World) (m : Effect S V K A) → Alike k (λ x. m)
  same_alike k m n up l s ls hs = refl

  pub later_alike : {A : Type 0} (k w : r.World) (m : Side → Effect S V K A) → r.grows k w → Alike k m → Alike w m
  later_alike k w m up h n more = h n (r.further k w n up more)

  after_alike : {A B : Type 0} (P : r.World → A → Type 0) (n : r.World) (o : Outcome S V K A) (f : Side → A → Effect S V K B) → After r P n o
      → ((w : r.World) → r.grows n w → (a : A) (l : Slots V) (s : S) → good_slots r w l → r.holds w s → P w a → f the_one a l s ≡ f the_other a l s) → then_do o (f the_one) ≡ then_do o (f the_other)
  after_alike P n (done a l s) f h g = g h.0 h.1 a l s h.2 h.3 h.4
  after_alike P n (fault e) f h g = refl

  pub then_alike : {A B : Type 0} (P : r.World → A → Type 0) (k : r.World) (m : Side → Effect S V K A) (f : Side → A → Effect S V K B) → From r P k (m the_one) → Alike k m
      → ((n : r.World) → r.grows k n → (a : A) → P n a → Alike n (λ x. f x a)) → Alike k (λ x. m x >>= f x)
  then_alike P k m f h same g n up l s ls hs =
      after_alike P n (m the_one l s) f (h n up l s ls hs) (λ w more a l2 s2 ls2 hs2 p. g w (r.further k n w up more) a p w (r.same w) l2 s2 ls2 hs2)
      ∙ ap (λ o. then_do o (f the_other)) (same n up l s ls hs)

  -- what follows is the same on both sides
  pub ends_alike : {A B : Type 0} (k : r.World) (m : Side → Effect S V K A) (f : A → Effect S V K B) → Alike k m → Alike k (λ x. m x >>= f)
  ends_alike k m f same n up l s ls hs = ap (λ o. then_do o f) (same n up l s ls hs)

  pub act_alike : {A : Type 0} (k : r.World) (here : Here) (o : Side → Operation S K A)
      → ((n : r.World) → r.grows k n → (s : S) → r.holds n s → o the_one s ≡ o the_other s) → Alike k (λ x. act here (o x))
  act_alike k here o h n up l s ls hs = ap (acted here l) (h n up s hs)

  pub then_act_alike : {A B : Type 0} (P : r.World → A → Type 0) (k : r.World) (here : Here) (o : Side → Operation S K A) (f : Side → A → Effect S V K B)
      → ((n : r.World) → r.grows k n → (s : S) → r.holds n s → Gives r P n (o the_one s) × (o the_one s ≡ o the_other s))
      → ((n : r.World) → r.grows k n → (a : A) → P n a → Alike n (λ x. f x a)) → Alike k (λ x. act here (o x) >>= f x)
  then_act_alike P k here o f h g =
      then_alike P k (λ x. act here (o x)) f (act_from r P k here (o the_one) (λ n up s hs. (h n up s hs).0))
      (act_alike k here o (λ n up s hs. (h n up s hs).1)) g

  pub change_alike : (k : r.World) (f : Side → S → S) → ((n : r.World) → r.grows k n → (s : S) → r.holds n s → f the_one s ≡ f the_other s) → Alike k (λ x. change (f x))
  change_alike k f h n up l s ls hs = ap (done tt l) (h n up s hs)

  pub pure_alike : {A : Type 0} (k : r.World) (a : Side → A) → a the_one ≡ a the_other → Alike k (λ x. pure (a x))
  pure_alike k a e n up l s ls hs = ap (λ b. done b l s) e

  pub raise_alike : {A : Type 0} (k : r.World) (here : Here) (e : Side → K) → e the_one ≡ e the_other → Alike k (λ x. raise {A = A} here (e x))
  raise_alike k here e h n up l s ls hs = ap (λ c. fault (fault_of here c)) h

  pub if_alike : {A : Type 0} (k : r.World) (t : Bool) (m n : Side → Effect S V K A) → Alike k m → Alike k n → Alike k (λ x. if t then m x else n x)
  if_alike k true m n hm hn = hm
  if_alike k false m n hm hn = hn

  found_same : (o : Side → Operations S V K) (here : Here) (i : Option (Option V)) (l : Slots V) (s : S) → (o the_one).refusal unset ≡ (o the_other).refusal unset
      → found (o the_one) here i l s ≡ found (o the_other) here i l s
  found_same o here None l s e = ap (λ k. fault (fault_of here k)) e
  found_same o here (Some None) l s e = ap (λ k. fault (fault_of here k)) e
  found_same o here (Some (Some v)) l s e = refl

  pub slot_alike : (o : Side → Operations S V K) (k : r.World) (here : Here) (i : ℕ) → (o the_one).refusal unset ≡ (o the_other).refusal unset
      → Alike k (λ x. slot_value (o x) here i)
  unfolding slot_value
  slot_alike o k here i e n up l s ls hs = found_same o here (slice_get l i) l s e
