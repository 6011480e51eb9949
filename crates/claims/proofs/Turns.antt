-- One turn of each loop.
use Rattle.std.proofs.Common.{◌≡◌, ◌∙◌, ◌<◌, ◌≤◌, ◌+◌, ℕ, Bool, true, List, [], ◌∷◌, ◌++◌, append_assoc, length, map, take, drop, get_or, slice_index_or, None, Option, flat_map, ap, sym, refl, subst, drop_of_length-le}
use Rattle.std.specs.List.{AllZip}
use Rattle.std.proofs.lemmas.List.{drop_more, map_more, take_more}
use Rattle.std.proofs.lemmas.Grind.{flat_map-append}
use Rattle.std.proofs.lemmas.List.{append-nil}
use Rattle.std.proofs.lemmas.Slice.Zip.{all_zipped_more}
use Rattle.std.specs.Prelude.{option_to_list}
use Rattle.depsets.specs.Listed.{walked}
use Rattle.claims.specs.Buckets.{member_at, put_all, put_at}
use Rattle.claims.specs.Commons.{common_of, gathered}
use Rattle.claims.specs.Leaders.{Firsts, leaders_from, next_firsts, next_leader}
use Rattle.claims.specs.Owned.{Owned}
use Rattle.claims.specs.Same.{compared}
use Rattle.claims.specs.Sets.{IsSetOf, AddsSetOf, AreSetsOf}
use Rattle.claims.specs.Tellings.{telling_by, tellings_from}
use Rattle.claims.specs.declared.claiming.Claim.{Claim}
use Rattle.claims.specs.declared.commons.Common.{Common}
use Rattle.claims.specs.declared.telling.Telling.{Telling}
use Rattle.claims.specs.declared.members.Member.{Member}
use Rattle.claims.specs.declared.sets.Shared.{Shared}

-- What is put last at each turn is had of the first, and then of one more.
module _ {X : Type 0} where
  one_more : (xs : List X) (i : ℕ) (x : X) → i < length xs → x ≡ get_or xs i x → take (i + 1) xs ≡ take i xs ++ x ∷ []
  one_more xs i x low p = take_more xs i x low ∙ ap (λ y. take i xs ++ y ∷ []) (sym p)

  pub one_less : (xs : List X) (i : ℕ) (x : X) → i < length xs → x ≡ get_or xs i x → x ∷ drop (i + 1) xs ≡ drop i xs
  one_less xs i x low p = ap (λ y. y ∷ drop (i + 1) xs) p ∙ sym (drop_more xs i x low)

  pub take-next : (xs : List X) (i : ℕ) (x y : X) (old new : List X) → i < length xs → x ≡ get_or xs i x → old ≡ take i xs → new ≡ old ++ y ∷ [] → y ≡ x → new ≡ take (i + 1) xs
  take-next xs i x y old new low p had put is = put ∙ ap (λ l. l ++ y ∷ []) had ∙ ap (λ z. take i xs ++ z ∷ []) is ∙ sym (one_more xs i x low p)

module _ {X Y : Type 0} where
  pub map-next : (f : X → Y) (xs : List X) (i : ℕ) (x : X) (y : Y) (old new : List Y) → i < length xs → x ≡ get_or xs i x → old ≡ map f (take i xs) → new ≡ old ++ y ∷ []
      → y ≡ f x → new ≡ map f (take (i + 1) xs)
  map-next f xs i x y old new low p had put is =
      put ∙ ap (λ l. l ++ y ∷ []) had ∙ ap (λ z. map f (take i xs) ++ z ∷ []) (is ∙ ap f p) ∙ sym (map_more f xs i x low)

  pub flat-next : (f : X → List Y) (xs : List X) (i : ℕ) (x : X) (old new : List Y) → i < length xs → x ≡ get_or xs i x → old ≡ flat_map f (take i xs) → new ≡ old ++ f x
      → new ≡ flat_map f (take (i + 1) xs)
  flat-next f xs i x old new low p had put =
      put ∙ ap (λ l. l ++ f x) had ∙ ap (λ l. flat_map f (take i xs) ++ l) (sym (append-nil (f x))) ∙ sym (flat_map-append f (take i xs) (x ∷ []))
      ∙ ap (flat_map f) (sym (one_more xs i x low p))

pub zipped_more : {A B : Type 0} (R : A → B → Type 0) (xs : List A) (ys : List B) (i : ℕ) (x : A) (y : B) → i < length xs → x ≡ get_or xs i x
    → AllZip R (take i xs) ys → R x y → AllZip R (take (i + 1) xs) (ys ++ y ∷ [])
zipped_more R xs ys i x y low p are is =
    subst (λ l. AllZip R l (ys ++ y ∷ [])) (sym (one_more xs i x low p)) (all_zipped_more R (take i xs) ys x y are is)

pub sets_more : (bs : List (List Member)) (i : ℕ) (b : List Member) (old new : List Shared) → i < length bs → b ≡ get_or bs i b
    → AreSetsOf (take i bs) old → AddsSetOf b old new → AreSetsOf (take (i + 1) bs) new
sets_more bs i b old new low p had adds = record {
  sets = had.sets ++ adds.set ∷ [];
  are = zipped_more IsSetOf bs had.sets i b adds.set low p had.are adds.is;
  all =
      adds.added ∙ ap (λ l. l ++ option_to_list adds.set) had.all ∙ ap (λ l. flat_map option_to_list had.sets ++ l) (sym (append-nil (option_to_list adds.set)))
      ∙ sym (flat_map-append option_to_list had.sets (adds.set ∷ []));
}

-- ---- what is found so far and what is to be found among the rest, one turn later

pub gathered-next : (cs : List Claim) (i : ℕ) (c : Claim) (path : List ℕ) (ms : List Member) (old : List Common) (all : List Common) (new : List Common) → i < length cs
    → c ≡ get_or cs i c → new ≡ old ++ gathered path ms (c ∷ drop (i + 1) cs) → old ++ gathered path ms (drop i cs) ≡ all → new ≡ all
gathered-next cs i c path ms old all new low p taken had = taken ∙ ap (λ l. old ++ gathered path ms l) (one_less cs i c low p) ∙ had

pub gathered-begun : (found : List Common) (path : List ℕ) (ms : List Member) (cs : List Claim) → found ≡ [] → path ≡ [] → ms ≡ [] → found ++ gathered path ms (drop 0 cs) ≡ gathered [] [] cs
gathered-begun found path ms cs p q r = λ j. p j ++ gathered (q j) (r j) cs

pub gathered-found : (cs : List Claim) (i : ℕ) (path : List ℕ) (ms : List Member) (old new all : List Common) → length cs ≤ i → new ≡ old ++ common_of path ms
    → old ++ gathered path ms (drop i cs) ≡ all → new ≡ all
gathered-found cs i path ms old new all past put had = put ∙ ap (λ l. old ++ gathered path ms l) (sym (drop_of_length-le cs past)) ∙ had

-- a list that is found item by item, with what is known before each
module _ {S X Y : Type 0} (found : S → ℕ → List X → List Y) (item : S → ℕ → X → Y) (after : S → ℕ → X → S)
    (opens : (s : S) (i : ℕ) (x : X) (xs : List X) → found s i (x ∷ xs) ≡ item s i x ∷ found (after s i x) (i + 1) xs) where
  found-next : (xs : List X) (i : ℕ) (x : X) (s t : S) (y : Y) (old new all : List Y) → i < length xs → x ≡ get_or xs i x → y ≡ item s i x → t ≡ after s i x → new ≡ old ++ y ∷ []
      → old ++ found s i (drop i xs) ≡ all → new ++ found t (i + 1) (drop (i + 1) xs) ≡ all
  found-next xs i x s t y old new all low p is goes put had =
      let later = drop (i + 1) xs in
      ap (λ l. l ++ found t (i + 1) later) put ∙ append_assoc old (y ∷ []) (found t (i + 1) later) ∙ ap (λ z. old ++ z ∷ found t (i + 1) later) is
      ∙ ap (λ u. old ++ item s i x ∷ found u (i + 1) later) goes ∙ ap (λ l. old ++ l) (sym (opens s i x later)) ∙ ap (λ l. old ++ found s i l) (one_less xs i x low p) ∙ had

module _ (marks : List Bool) where
  leads : Firsts → ℕ → Owned → ℕ
  leads es i o = next_leader es (slice_index_or marks i true) (compared walked o.action) i

  notes : Firsts → ℕ → Owned → Firsts
  notes es i o = next_firsts es (slice_index_or marks i true) (compared walked o.action) i

  pub leaders-next : (es fs : Firsts) (os : List Owned) (i : ℕ) (o : Owned) (m : Bool) (l : ℕ) (old new all : List ℕ) → i < length os → o ≡ get_or os i o → m ≡ slice_index_or marks i true
      → l ≡ next_leader es m (compared walked o.action) i → fs ≡ next_firsts es m (compared walked o.action) i → new ≡ old ++ l ∷ []
      → old ++ leaders_from walked marks es i (drop i os) ≡ all → new ++ leaders_from walked marks fs (i + 1) (drop (i + 1) os) ≡ all
  unfolding leads notes
  leaders-next es fs os i o m l old new all low p mark is noted =
      found-next (leaders_from walked marks) leads notes (λ _ _ _ _. refl) os i o es fs l old new all low p
      (is ∙ ap (λ (b : Bool). next_leader es b (compared walked o.action) i) mark) (noted ∙ ap (λ (b : Bool). next_firsts es b (compared walked o.action) i) mark)

pub leaders-begun : (marks : List Bool) (es : Firsts) (ls : List ℕ) (os : List Owned) → es ≡ [] → ls ≡ [] → ls ++ leaders_from walked marks es 0 (drop 0 os) ≡ leaders_from walked marks [] 0 os
leaders-begun marks es ls os p q = λ j. q j ++ leaders_from walked marks (p j) 0 os

pub leaders-found : (marks : List Bool) (es : Firsts) (os : List Owned) (i : ℕ) (old all : List ℕ) → length os ≤ i
    → old ++ leaders_from walked marks es i (drop i os) ≡ all → old ≡ all
leaders-found marks es os i old all past had =
    sym (append-nil old) ∙ ap (λ l. old ++ leaders_from walked marks es i l) (sym (drop_of_length-le os past)) ∙ had

pub tellings-next : (ls : List ℕ) (ss : List (Option Shared)) (os : List Owned) (i : ℕ) (o : Owned) (t : Telling) (old new all : List Telling) → i < length os → o ≡ get_or os i o
    → t ≡ telling_by (slice_index_or ss (slice_index_or ls i i) None) o.label → new ≡ old ++ t ∷ [] → old ++ tellings_from ls ss i (drop i os) ≡ all
    → new ++ tellings_from ls ss (i + 1) (drop (i + 1) os) ≡ all
tellings-next ls ss os i o t old new all low p is =
    found-next {S = Unit {0}} (λ _ n os. tellings_from ls ss n os) (λ _ n o. telling_by (slice_index_or ss (slice_index_or ls n n) None) o.label) (λ _ _ _. tt) (λ _ _ _ _. refl) os i o
    tt tt t old new all low p is refl

pub puts-next : (ls : List ℕ) (os : List Owned) (i : ℕ) (o : Owned) (old new all : List (List Member)) → i < length os → o ≡ get_or os i o
    → new ≡ put_at old (slice_index_or ls i i) (member_at o i) → put_all ls old i (drop i os) ≡ all → put_all ls new (i + 1) (drop (i + 1) os) ≡ all
puts-next ls os i o old new all low p put had = ap (λ bs. put_all ls bs (i + 1) (drop (i + 1) os)) put ∙ ap (put_all ls old i) (one_less os i o low p) ∙ had
