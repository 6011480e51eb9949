-- The texts of one byte.
use Rattle.std.proofs.Common.{◌≡◌, ℕ, zero, suc, ◌+◌, ◌<◌, ◌≤◌, Bool, true, false, nat_lt, List, [], ◌∷◌, ◌++◌, length, get_or, refl, sym, ap, ◌∙◌, arith, rules, length-append}
use Rattle.strings.specs.Indexes.{byte_texts}

length_texts : (n : ℕ) → length (byte_texts n) ≡ n
length_texts zero = refl
length_texts (suc n) = let h = length_texts n in omega (arith, h, length-append (byte_texts n) ((n ∷ []) ∷ []))

get_front : {X : Type 0} (xs ys : List X) (k : ℕ) (d : X) → k < length xs → get_or (xs ++ ys) k d ≡ get_or xs k d
get_front [] ys k d l = absurd (omega (arith, l))
get_front (x ∷ xs) ys zero d l = refl
get_front (x ∷ xs) ys (suc k) d l = get_front xs ys k d (let h : suc k < suc (length xs) = l in omega arith)

get_last : {X : Type 0} (xs : List X) (y d : X) → get_or (xs ++ y ∷ []) (length xs) d ≡ y
get_last [] y d = refl
get_last (x ∷ xs) y d = get_last xs y d

before : (k n : ℕ) → nat_lt k n ≡ true → k < n
before k n e = grind (arith, rules)

after : (k n : ℕ) → nat_lt k n ≡ false → n ≤ k
after k n e = grind (arith, rules)

one_more : (n k : ℕ) (d : List ℕ) (b : Bool) → nat_lt k n ≡ b → (k < n → get_or (byte_texts n) k d ≡ k ∷ []) → k < suc n → get_or (byte_texts (suc n)) k d ≡ k ∷ []
one_more n k d true e known l =
    let h = before k n e in
    get_front (byte_texts n) ((n ∷ []) ∷ []) k d (omega (arith, h, length_texts n)) ∙ known h
one_more n k d false e known l =
    let h = after k n e in
    let q : k ≡ n = omega (arith, h, l) in
    ap (λ i. get_or (byte_texts (suc n)) i d) (q ∙ sym (length_texts n)) ∙ get_last (byte_texts n) (n ∷ []) d ∙ ap (λ x. x ∷ []) (sym q)

nth_text : (n k : ℕ) (d : List ℕ) → k < n → get_or (byte_texts n) k d ≡ k ∷ []
nth_text zero k d l = absurd (omega (arith, l))
nth_text (suc n) k d l = one_more n k d (nat_lt k n) refl (nth_text n k d) l

pub found_text : (n k i : ℕ) (xs : List (List ℕ)) (t : List ℕ) → xs ≡ byte_texts n → k < n → i ≡ k → t ≡ get_or xs i t → t ≡ k ∷ []
found_text n k i xs t e l f g = g ∙ ap (λ ys. get_or ys i t) e ∙ ap (λ j. get_or (byte_texts n) j t) f ∙ nth_text n k t l

pub next_text : (n m : ℕ) (xs : List (List ℕ)) → xs ≡ byte_texts n → m ≡ n + 1 → xs ++ (n ∷ []) ∷ [] ≡ byte_texts m
next_text n m xs e f = ap (λ ys. ys ++ (n ∷ []) ∷ []) e ∙ ap byte_texts (let q : suc n ≡ m = omega (arith, f) in q)

pub all_texts : (n : ℕ) (xs : List (List ℕ)) → xs ≡ byte_texts n → n ≡ 128 → xs ≡ byte_texts 128
all_texts n xs e f = e ∙ ap byte_texts f
