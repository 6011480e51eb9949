-- Texts with a separator between them: the first, and each other behind a separator.
use Rattle.std.proofs.Common.{◌≡◌, ℕ, ◌+◌, ◌<◌, ◌≤◌, Bool, true, false, if◌then◌else◌, nat_lt, List, [], ◌∷◌, ◌++◌, length, refl, sym, ap, ◌∙◌, arith, rules, append_assoc, length-append, Some, None}
use Rattle.strings.specs.Joining.{glued, length_within}
use Rattle.strings.specs.Texts.{MOST_BYTES}

-- each behind a separator
abbrev pub trailed : List ℕ → List (List ℕ) → List ℕ
trailed s [] = []
trailed s (t ∷ ts) = s ++ t ++ trailed s ts

nothing_behind : {A : Type 0} (xs : List A) → xs ++ [] ≡ xs
nothing_behind [] = refl
nothing_behind (x ∷ xs) = ap (λ l. x ∷ l) (nothing_behind xs)

pub glued_trailed : (s t : List ℕ) (ts : List (List ℕ)) → glued s (t ∷ ts) ≡ t ++ trailed s ts
glued_trailed s t [] = sym (nothing_behind t)
glued_trailed s t (u ∷ ts) =
    ap (λ x. t ++ s ++ x) (glued_trailed s u ts) ∙ append_assoc t s (u ++ trailed s ts) ∙ ap (λ x. t ++ x) (sym (append_assoc s u (trailed s ts)))

pub one_trailed : (s done t : List ℕ) (ts : List (List ℕ)) → done ++ trailed s (t ∷ ts) ≡ (done ++ s ++ t) ++ trailed s ts
one_trailed s done t ts =
    ap (λ x. done ++ x) (append_assoc s t (trailed s ts)) ∙ sym (append_assoc done s (t ++ trailed s ts)) ∙ sym (append_assoc (done ++ s) t (trailed s ts))

pub one_longer : (s t : List ℕ) (ts : List (List ℕ)) → length (trailed s (t ∷ ts)) ≡ length s + length t + length (trailed s ts)
one_longer s t ts = length-append (s ++ t) (trailed s ts) ∙ ap (λ n. n + length (trailed s ts)) (length-append s t)

within : (t : List ℕ) (b : Bool) → nat_lt MOST_BYTES (length t) ≡ b → length t ≤ 1048576 → b ≡ false
within t true e l = absurd (grind (arith, rules))
within t false e l = refl

pub known : (t : List ℕ) (n : ℕ) → n ≡ length t → n ≤ 1048576 → Some n ≡ length_within t
known t n e l = ap Some e ∙ sym (ap (λ b. if b then None else Some (length t)) (within t (nat_lt MOST_BYTES (length t)) refl (let h : length t ≤ 1048576 = omega (arith, e, l) in h)))

beyond : (t : List ℕ) (b : Bool) → nat_lt MOST_BYTES (length t) ≡ b → 1048576 < length t → b ≡ true
beyond t true e l = refl
beyond t false e l = absurd (grind (arith, rules))

pub too_long : (t : List ℕ) → 1048576 < length t → None ≡ length_within t
too_long t l = sym (ap (λ b. if b then None else Some (length t)) (beyond t (nat_lt MOST_BYTES (length t)) refl l))

-- ---- the walk begins behind the first

pub start_length : (s t : List ℕ) (ts all : List (List ℕ)) (n : ℕ) → all ≡ t ∷ ts → n ≡ length t → n + length (trailed s ts) ≡ length (glued s all)
start_length s t ts all n e f = let h = length-append t (trailed s ts) in let g = ap length (ap (glued s) e ∙ glued_trailed s t ts) in omega (arith, f, g, h)

pub start_bytes : (s t x : List ℕ) (ts all : List (List ℕ)) → all ≡ t ∷ ts → x ≡ t → x ++ trailed s ts ≡ glued s all
start_bytes s t x ts all e f = ap (λ y. y ++ trailed s ts) f ∙ sym (ap (glued s) e ∙ glued_trailed s t ts)
