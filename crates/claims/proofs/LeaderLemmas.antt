-- The leaders that are found are the places of the first equal actions.
use Rattle.std.proofs.Common.{◌≡◌, ◌∙◌, inl, inr, ◌<◌, ◌+◌, ℕ, suc, Bool, true, false, List, [], ◌∷◌, ◌++◌, length, map, get_or, Option, Some, None, refl, sym, ap, subst, arith}
use Rattle.std.specs.Prelude.{is_some, unwrap_or, if◌then◌else◌}
use Rattle.std.specs.List.{position_or_len}
use Rattle.std.proofs.lemmas.Bool.{true≢false, cases_lt}
use Rattle.std.proofs.lemmas.List.Sums.{position_or_len_is}
use Rattle.depsets.specs.Own.{Own}
use Rattle.depsets.specs.Rose.{Rose}
use Rattle.depsets.specs.declared.element.Element.{Element}
use Rattle.claims.specs.Leaders.{Firsts, known_in, next_leader, next_firsts, leaders_from, leader, leaders}
use Rattle.claims.specs.Owned.{Owned}
use Rattle.claims.specs.Same.{Compared, compared, same_parts}
use Rattle.claims.proofs.SameLemmas.{parts_same, parts_itself, parts_turned}

-- ---- what is noted

some_not_none : {X : Type 0} (x : X) → Some x ≡ None → ⊥
some_not_none x e = true≢false (ap is_some e)

some_same : {X : Type 0} (x y : X) → Some x ≡ Some y → x ≡ y
some_same x y e = ap (λ o. unwrap_or o x) e

push_old : (es : Firsts) (c k : Compared) (n f : ℕ) → known_in es c ≡ Some f → known_in (es ++ (k, n) ∷ []) c ≡ Some f
push_old [] c k n f h = absurd (some_not_none f (sym h))
push_old (e ∷ es) c k n f h = old (same_parts c e.0) h (push_old es c k n f)
  where
    old : (b : Bool) → (if b then Some e.1 else known_in es c) ≡ Some f → (known_in es c ≡ Some f → known_in (es ++ (k, n) ∷ []) c ≡ Some f)
        → (if b then Some e.1 else known_in (es ++ (k, n) ∷ []) c) ≡ Some f
    old true g rest = g
    old false g rest = rest g

push_new : (es : Firsts) (c k : Compared) (n : ℕ) → known_in es c ≡ None → known_in (es ++ (k, n) ∷ []) c ≡ (if same_parts c k then Some n else None)
push_new [] c k n h = refl
push_new (e ∷ es) c k n h = new (same_parts c e.0) h (push_new es c k n)
  where
    new : (b : Bool) → (if b then Some e.1 else known_in es c) ≡ None → (known_in es c ≡ None → known_in (es ++ (k, n) ∷ []) c ≡ (if same_parts c k then Some n else None))
        → (if b then Some e.1 else known_in (es ++ (k, n) ∷ []) c) ≡ (if same_parts c k then Some n else None)
    new true g rest = absurd (some_not_none e.1 g)
    new false g rest = rest g

-- what is compared of the action at a place
abbrev pub parts : (Rose Own → List Element) → List Owned → Owned → ℕ → Compared
parts listing os d j = compared listing (get_or os j d).action

module _ (listing : Rose Own → List Element) (marks : List Bool) (os : List Owned) (d : Owned) where
  abbrev own : ℕ → Compared
  own j = parts listing os d j

  -- an action that isn't marked is equal to no other
  abbrev pub IsApart : Type 0
  IsApart =
      (i j : ℕ) → i < length os → j < length os → (i ≡ j → ⊥) → get_or marks i true ≡ false → same_parts (own i) (own j) ≡ false

  abbrev first_of : Compared → ℕ
  first_of c = position_or_len (λ p. same_parts c (compared listing p.action)) os

  record Noted (es : Firsts) (n : ℕ) : Type 0 where
    pub found : (c : Compared) (f : ℕ) → known_in es c ≡ Some f → first_of c ≡ f
    pub new : (c : Compared) → known_in es c ≡ None → (j : ℕ) → j < n → get_or marks j true ≡ true → same_parts c (own j) ≡ false

  module _ (apart : IsApart) (n : ℕ) (low : n < length os) where
    first_here : ((j : ℕ) → j < n → same_parts (own n) (own j) ≡ false) → first_of (own n) ≡ n
    first_here before =
        position_or_len_is (λ p. same_parts (own n) (compared listing p.action)) os n d (omega (arith, low)) before (λ _. parts_itself (own n))

    unmarked : get_or marks n true ≡ false → first_of (own n) ≡ n
    unmarked off = first_here (λ j less. apart n j low (omega (arith, low, less)) (λ e. absurd (omega (arith, e, less))) off)

    module _ (es : Firsts) (had : Noted es n) where
      before : known_in es (own n) ≡ None → (j : ℕ) → j < n → (b : Bool) → get_or marks j true ≡ b → same_parts (own n) (own j) ≡ false
      before h j less true m = had.new (own n) h j less m
      before h j less false m =
          parts_turned (own j) (own n) false (apart j n (omega (arith, low, less)) low (λ e. absurd (omega (arith, e, less))) m)

      first_new : known_in es (own n) ≡ None → first_of (own n) ≡ n
      first_new h = first_here (λ j less. before h j less (get_or marks j true) refl)

      leads : (r : Option ℕ) → known_in es (own n) ≡ r → unwrap_or r n ≡ first_of (own n)
      leads (Some f) h = sym (had.found (own n) f h)
      leads None h = sym (first_new h)

      abbrev more : Firsts
      more = es ++ (own n, n) ∷ []

      -- a number below the next is below this one or this one
      or_here : {P : ℕ → Type 0} → ((j : ℕ) → j < n → P j) → P n → (j : ℕ) → j < n + 1 → P j
      or_here {P} rest here j less = elim (cases_lt j n) [
        | inl l ↦ rest j l
        | inr l ↦ subst P (let e : n ≡ j = omega (arith, l, less) in e) here
      ]

      kept : (g : ℕ) → known_in es (own n) ≡ Some g → Noted es (n + 1)
      kept g h = record {
        found = had.found;
        new = λ c none j less m. or_here {P = λ j. get_or marks j true ≡ true → same_parts c (own j) ≡ false} (had.new c none)
            (λ _. here c none (same_parts c (own n)) refl) j less m;
      }
        where
          here : (c : Compared) → known_in es c ≡ None → (b : Bool) → same_parts c (own n) ≡ b → same_parts c (own n) ≡ false
          here c none true e = absurd (some_not_none g (sym h ∙ ap (known_in es) (sym (parts_same c (own n) e)) ∙ none))
          here c none false e = e

      added : known_in es (own n) ≡ None → Noted more (n + 1)
      added h = record {
        found = λ c f e. finds c f (known_in es c) refl e;
        new = λ c none j less m. or_here {P = λ j. get_or marks j true ≡ true → same_parts c (own j) ≡ false}
            (λ j l. had.new c (fresh c none (known_in es c) refl) j l) (λ _. here c none (same_parts c (own n)) refl) j less m;
      }
        where
          tested : (c : Compared) (f : ℕ) (b : Bool) → same_parts c (own n) ≡ b → (if b then Some n else None) ≡ Some f → first_of c ≡ f
          tested c f true s e = ap first_of (parts_same c (own n) s) ∙ first_new h ∙ some_same n f e
          tested c f false s e = absurd (some_not_none f (sym e))

          finds : (c : Compared) (f : ℕ) (r : Option ℕ) → known_in es c ≡ r → known_in more c ≡ Some f → first_of c ≡ f
          finds c f (Some g) k e = had.found c g k ∙ some_same g f (sym (push_old es c (own n) n g k) ∙ e)
          finds c f None k e = tested c f (same_parts c (own n)) refl (sym (push_new es c (own n) n k) ∙ e)

          fresh : (c : Compared) → known_in more c ≡ None → (r : Option ℕ) → known_in es c ≡ r → known_in es c ≡ None
          fresh c none (Some g) k = absurd (some_not_none g (sym (push_old es c (own n) n g k) ∙ none))
          fresh c none None k = k

          here : (c : Compared) → known_in more c ≡ None → (b : Bool) → same_parts c (own n) ≡ b → same_parts c (own n) ≡ false
          here c none true s =
              absurd (some_not_none n (sym (push_new es c (own n) n (fresh c none (known_in es c) refl) ∙ ap (λ b. if b then Some n else None) s) ∙ none))
          here c none false s = s

      noted_next : (r : Option ℕ) → known_in es (own n) ≡ r → Noted (if is_some r then es else more) (n + 1)
      noted_next (Some g) h = kept g h
      noted_next None h = added h

      skipped : get_or marks n true ≡ false → Noted es (n + 1)
      skipped off = record {
        found = had.found;
        new = λ c none j less m. or_here {P = λ j. get_or marks j true ≡ true → same_parts c (own j) ≡ false} (had.new c none)
            (λ yes. absurd (true≢false (sym yes ∙ off))) j less m;
      }

      next_is : (b : Bool) → get_or marks n true ≡ b → next_leader es b (own n) n ≡ first_of (own n)
      next_is true m = leads (known_in es (own n)) refl
      next_is false m = sym (unmarked m)

      next_noted : (b : Bool) → get_or marks n true ≡ b → Noted (next_firsts es b (own n) n) (n + 1)
      next_noted true m = noted_next (known_in es (own n)) refl
      next_noted false m = skipped m

  module _ (apart : IsApart) where
    from_place : (es : Firsts) (n : ℕ) (rest : List Owned) → Noted es n → length os ≡ n + length rest
        → ((k : ℕ) → k < length rest → get_or rest k d ≡ get_or os (n + k) d) → leaders_from listing marks es n rest ≡ map (leader listing os) rest
    from_place es n [] had long same = refl
    from_place es n (o ∷ rest) had long same =
        let low : n < length os = omega (arith, long) in
        let here : n + 0 ≡ n = omega arith in
        let is : o ≡ get_or os n d = same 0 (omega arith) ∙ ap (λ m. get_or os m d) here in
        let c : compared listing o.action ≡ own n = ap (λ p. compared listing p.action) is in
        let m = get_or marks n true in
        λ i. (ap (λ x. next_leader es m x n) c ∙ next_is apart n low es had m refl ∙ ap first_of (sym c)) i
        ∷ (ap (λ x. leaders_from listing marks (next_firsts es m x n) (n + 1) rest) c
        ∙ from_place (next_firsts es m (own n) n) (n + 1) rest (next_noted apart n low es had m refl) (omega (arith, long))
        (λ k less. same (suc k) (omega (arith, less)) ∙ ap (λ j. get_or os j d) (let e : n + suc k ≡ n + 1 + k = omega arith in e))) i

    pub leaders_found : leaders_from listing marks [] 0 os ≡ leaders listing os
    leaders_found =
        from_place [] 0 os (record { found = λ c f h. absurd (some_not_none f (sym h)); new = λ c h j less m. absurd (omega (arith, less)) }) (omega arith)
        (λ k less. ap (λ j. get_or os j d) (let e : k ≡ 0 + k = omega arith in e))
