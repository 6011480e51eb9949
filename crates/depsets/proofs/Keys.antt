-- Laws of `keep_all`.
use Rattle.std.proofs.Common.{◌≡◌, Bool, true, false, cond, ◌||◌, List, [], ◌∷◌, ◌++◌, ◌⊎◌, inl, inr, ⊎_elim, refl, sym, ap, subst, ◌∙◌, true≢false}
use Rattle.std.proofs.lemmas.Bool.{cases_Bool}
use Rattle.std.proofs.lemmas.List.Folds.{list_any-append}
use Rattle.std.proofs.lemmas.List.Sums.{fold-append}
use Rattle.depsets.specs.Keys.{has, keep, keep_all, Covers}

module _ {K : Type 0} (eq : K → K → Bool) where
  keep-present : (ks : List K) (k : K) → has eq ks k ≡ true → keep eq ks k ≡ ks
  keep-present ks k h = ap (λ b. cond b ks (ks ++ k ∷ [])) h

  pub keep-absent : (ks : List K) (k : K) → has eq ks k ≡ false → keep eq ks k ≡ ks ++ k ∷ []
  keep-absent ks k h = ap (λ b. cond b ks (ks ++ k ∷ [])) h

  or-left : (a b : Bool) → a ≡ true → (a || b) ≡ true
  or-left a b h = ap (λ x. x || b) h

  or-right : (a b : Bool) → b ≡ true → (a || b) ≡ true
  or-right true b h = refl
  or-right false b h = h

  or-cases : (a b : Bool) → (a || b) ≡ true → (a ≡ true) ⊎ (b ≡ true)
  or-cases true b h = inl refl
  or-cases false b h = inr h

  -- a key that is among them stays
  keep-stays : (ks : List K) (k j : K) → has eq ks j ≡ true → has eq (keep eq ks k) j ≡ true
  keep-stays ks k j h =
      ⊎_elim (λ p. subst (λ l. has eq l j ≡ true) (sym (keep-present ks k p)) h)
      (λ p. subst (λ l. has eq l j ≡ true) (sym (keep-absent ks k p)) (list_any-append (eq j) ks (k ∷ []) ∙ or-left _ _ h))
      (cases_Bool (has eq ks k))

  pub keep_all-stays : (ks xs : List K) (j : K) → has eq ks j ≡ true → has eq (keep_all eq ks xs) j ≡ true
  keep_all-stays ks [] j h = h
  keep_all-stays ks (x ∷ xs) j h = keep_all-stays (keep eq ks x) xs j (keep-stays ks x j h)

  pub Covers-keep_all : (ks xs ys : List K) → Covers eq ks ys → Covers eq (keep_all eq ks xs) ys
  Covers-keep_all ks xs [] h = tt
  Covers-keep_all ks xs (y ∷ ys) h = (keep_all-stays ks xs y h.0, Covers-keep_all ks xs ys h.1)

  pub Covers-keep : (ks : List K) (k : K) (ys : List K) → Covers eq ks ys → Covers eq (keep eq ks k) ys
  Covers-keep ks k ys h = Covers-keep_all ks (k ∷ []) ys h

  -- what is covered adds nothing
  pub keep_all-covered : (ks xs : List K) → Covers eq ks xs → keep_all eq ks xs ≡ ks
  keep_all-covered ks [] h = refl
  keep_all-covered ks (x ∷ xs) h =
      ap (λ l. keep_all eq l xs) (keep-present ks x h.0) ∙ keep_all-covered ks xs h.1

  pub keep_all-append : (ks xs ys : List K) → keep_all eq ks (xs ++ ys) ≡ keep_all eq (keep_all eq ks xs) ys
  keep_all-append ks xs ys = fold-append (keep eq) ks xs ys

  module _ (own : (k : K) → eq k k ≡ true) where
    has-keep : (ks : List K) (k : K) → has eq (keep eq ks k) k ≡ true
    has-keep ks k =
        ⊎_elim (λ p. subst (λ l. has eq l k ≡ true) (sym (keep-present ks k p)) p)
        (λ p. subst (λ l. has eq l k ≡ true) (sym (keep-absent ks k p)) (list_any-append (eq k) ks (k ∷ []) ∙ or-right _ _ (or-left _ _ (own k))))
        (cases_Bool (has eq ks k))

    -- what was kept is covered
    pub Covers-kept : (ks xs : List K) → Covers eq (keep_all eq ks xs) xs
    Covers-kept ks [] = tt
    Covers-kept ks (x ∷ xs) = (keep_all-stays (keep eq ks x) xs x (has-keep ks x), Covers-kept (keep eq ks x) xs)

  -- where a key comes from
  pub has-keep_cases : (ks : List K) (k j : K) → has eq (keep eq ks k) j ≡ true → (has eq ks j ≡ true) ⊎ (eq j k ≡ true)
  has-keep_cases ks k j h =
      ⊎_elim (λ p. inl (subst (λ l. has eq l j ≡ true) (keep-present ks k p) h))
      (λ p. ⊎_elim (λ q. inl q) (λ q. ⊎_elim (λ r. inr r) (λ r. absurd (true≢false (sym r))) (or-cases _ _ q))
      (or-cases _ _ (sym (list_any-append (eq j) ks (k ∷ [])) ∙ subst (λ l. has eq l j ≡ true) (keep-absent ks k p) h)))
      (cases_Bool (has eq ks k))

  pub has-keep_all_cases : (ks xs : List K) (j : K) → has eq (keep_all eq ks xs) j ≡ true → (has eq ks j ≡ true) ⊎ (has eq xs j ≡ true)
  has-keep_all_cases ks [] j h = inl h
  has-keep_all_cases ks (x ∷ xs) j h =
      ⊎_elim (λ p. ⊎_elim (λ q. inl q) (λ q. inr (or-left _ _ q)) (has-keep_cases ks x j p)) (λ p. inr (or-right _ _ p))
      (has-keep_all_cases (keep eq ks x) xs j h)
