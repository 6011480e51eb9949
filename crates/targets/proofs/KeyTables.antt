-- Tables of keys.
use Rattle.std.proofs.Common.{◌≡◌, Bool, true, false, ◌||◌, List, [], ◌∷◌, ◌++◌, refl, sym, ap, subst, ◌∙◌, true≢false, if◌then◌else◌}
use Rattle.std.specs.List.{list_any}
use Rattle.std.specs.Cmp.{signed_Decides}
use Rattle.std.proofs.lemmas.Slice.Eq.{bytes_eq-Decides}
use Rattle.std.proofs.lemmas.List.Folds.{list_any-append}
use Rattle.keys.specs.contracts.key.KeyPartialEq.TheImpl.{eq-value}
use Rattle.keys.specs.declared.key.Key.{Key}
use Rattle.keys.specs.declared.key.Key.TheVariants as key
use Rattle.leaves.specs.Leaves.{same_key}
use Rattle.values.proofs.SeeLemmas.{agree}
use Rattle.targets.specs.Choosing.{HasMore}

pub any_agree : (x : Key) (ks : List Key) → list_any (eq-value.it x) ks ≡ list_any (same_key x) ks
any_agree x [] = refl
any_agree x (k ∷ ks) = ap (λ b. b || list_any (eq-value.it x) ks) (agree x k) ∙ ap (λ b. same_key x k || b) (any_agree x ks)

-- equal keys are one
same : (a b : Key) → same_key a b ≡ true → a ≡ b
same (key.Text a) (key.Text b) h = ap key.Text ((bytes_eq-Decides a b).0 h)
same (key.Text a) (key.Number b) h = absurd (true≢false (sym h))
same (key.Text a) (key.Truth b) h = absurd (true≢false (sym h))
same (key.Number a) (key.Text b) h = absurd (true≢false (sym h))
same (key.Number a) (key.Number b) h = ap key.Number ((signed_Decides a b).0 h)
same (key.Number a) (key.Truth b) h = absurd (true≢false (sym h))
same (key.Truth a) (key.Text b) h = absurd (true≢false (sym h))
same (key.Truth a) (key.Number b) h = absurd (true≢false (sym h))
same (key.Truth true) (key.Truth true) h = refl
same (key.Truth true) (key.Truth false) h = absurd (true≢false (sym h))
same (key.Truth false) (key.Truth true) h = absurd (true≢false (sym h))
same (key.Truth false) (key.Truth false) h = refl

or-right : (a b : Bool) → b ≡ true → (a || b) ≡ true
or-right true b h = refl
or-right false b h = h

or-none : (a : Bool) → (a || false) ≡ a
or-none true = refl
or-none false = refl

-- a key that is there already brings none
known : (k x : Key) (ks : List Key) → list_any (same_key x) ks ≡ true → list_any (same_key k) ks ≡ (list_any (same_key k) ks || same_key k x)
known k x ks h = by (same_key k x) refl
  where
    by : (b : Bool) → same_key k x ≡ b → list_any (same_key k) ks ≡ (list_any (same_key k) ks || same_key k x)
    by false e = sym (ap (λ b. list_any (same_key k) ks || b) e ∙ or-none (list_any (same_key k) ks))
    by true e =
        let there : list_any (same_key k) ks ≡ true = subst (λ y. list_any (same_key y) ks ≡ true) (sym (same k x e)) h in
        there ∙ sym (or-right (list_any (same_key k) ks) (same_key k x) e)

-- a key that isn't there is put last
pub has_more : (x : Key) (ks : List Key) → HasMore x ks (if list_any (eq-value.it x) ks then ks else ks ++ x ∷ [])
has_more x ks k = by (list_any (eq-value.it x) ks) refl
  where
    by : (b : Bool) → list_any (eq-value.it x) ks ≡ b
        → list_any (same_key k) (if list_any (eq-value.it x) ks then ks else ks ++ x ∷ []) ≡ (list_any (same_key k) ks || same_key k x)
    by true e = ap (λ b. list_any (same_key k) (if b then ks else ks ++ x ∷ [])) e ∙ known k x ks (sym (any_agree x ks) ∙ e)
    by false e =
        ap (λ b. list_any (same_key k) (if b then ks else ks ++ x ∷ [])) e
        ∙ list_any-append (same_key k) ks (x ∷ [])
        ∙ ap (λ b. list_any (same_key k) ks || b) (or-none (same_key k x))
