-- What stands before and behind a colon, and behind the last slash.
use Rattle.std.proofs.Common.{◌≡◌, ◌≢◌, ℕ, zero, suc, ◌<◌, Bool, true, false, nat_eq, if◌then◌else◌, List, [], ◌∷◌, ◌++◌, length, drop, get_or, refl, ap, ◌∙◌, arith, rules, append_assoc}
use Rattle.operations.specs.Fields.{before_colon, after_colon, last_part}

same_nat : (x y : ℕ) → nat_eq x y ≡ true → x ≡ y
same_nat x y e = grind (arith, rules)

nat_same : (x : ℕ) → nat_eq x x ≡ true
nat_same x = grind (arith, rules)

other : (x y : ℕ) (b : Bool) → x ≢ y → nat_eq x y ≡ b → nat_eq x y ≡ false
other x y true n e = absurd (n (same_nat x y e))
other x y false n e = e

not_eq : (x y : ℕ) → x ≢ y → nat_eq x y ≡ false
not_eq x y n = other x y (nat_eq x y) n refl

-- no byte of the text is this one
abbrev pub Lacks : ℕ → List ℕ → Type 0
Lacks c t = (i : ℕ) → i < length t → get_or t i 0 ≢ c

head : (c y : ℕ) (t : List ℕ) → Lacks c (y ∷ t) → y ≢ c
head c y t n = n 0 (omega arith)

rest : (c y : ℕ) (t : List ℕ) → Lacks c (y ∷ t) → Lacks c t
rest c y t n i l = n (suc i) (let h : i < length t = l in omega arith)

pub before_whole : (t : List ℕ) → Lacks 58 t → before_colon t ≡ t
before_whole [] n = refl
before_whole (y ∷ t) n = ap (λ b. if b then [] else y ∷ before_colon t) (not_eq y 58 (head 58 y t n)) ∙ ap (λ x. y ∷ x) (before_whole t (rest 58 y t n))

pub after_nothing : (t : List ℕ) → Lacks 58 t → after_colon t ≡ []
after_nothing [] n = refl
after_nothing (y ∷ t) n = ap (λ b. if b then t else after_colon t) (not_eq y 58 (head 58 y t n)) ∙ after_nothing t (rest 58 y t n)

pub before_first : (xs ys : List ℕ) → Lacks 58 xs → before_colon (xs ++ 58 ∷ ys) ≡ xs
before_first [] ys n = refl
before_first (y ∷ xs) ys n =
    ap (λ b. if b then [] else y ∷ before_colon (xs ++ 58 ∷ ys)) (not_eq y 58 (head 58 y xs n)) ∙ ap (λ x. y ∷ x) (before_first xs ys (rest 58 y xs n))

pub after_first : (xs ys : List ℕ) → Lacks 58 xs → after_colon (xs ++ 58 ∷ ys) ≡ ys
after_first [] ys n = refl
after_first (y ∷ xs) ys n =
    ap (λ b. if b then xs ++ 58 ∷ ys else after_colon (xs ++ 58 ∷ ys)) (not_eq y 58 (head 58 y xs n)) ∙ after_first xs ys (rest 58 y xs n)

pub last_whole : (p t : List ℕ) → Lacks 47 t → last_part p t ≡ p ++ t
last_whole [] [] n = refl
last_whole (x ∷ p) [] n = ap (λ l. x ∷ l) (last_whole p [] n)
last_whole p (y ∷ t) n =
    ap (λ b. if b then last_part [] t else last_part (p ++ y ∷ []) t) (not_eq y 47 (head 47 y t n))
    ∙ last_whole (p ++ y ∷ []) t (rest 47 y t n) ∙ append_assoc p (y ∷ []) t

both : (b : Bool) (x y z : List ℕ) → x ≡ z → y ≡ z → (if b then x else y) ≡ z
both true x y z e f = e
both false x y z e f = f

pub last_from : (p t behind : List ℕ) (i : ℕ) → drop i t ≡ 47 ∷ behind → last_part p t ≡ last_part [] behind
last_from p [] behind zero e = absurd (cc)
last_from p [] behind (suc i) e = absurd (cc)
last_from p (y ∷ t) behind zero e = ap (last_part p) e
last_from p (y ∷ t) behind (suc i) e =
    both (nat_eq y 47) (last_part [] t) (last_part (p ++ y ∷ []) t) (last_part [] behind) (last_from [] t behind i e) (last_from (p ++ y ∷ []) t behind i e)
