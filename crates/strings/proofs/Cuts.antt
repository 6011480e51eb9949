-- The parts of a text between occurrences of a separator.
use Rattle.std.proofs.Common.{◌≡◌, ℕ, zero, suc, ◌+◌, ◌-◌, ◌<◌, ◌≤◌, Bool, true, false, nat_lt, if◌then◌else◌, List, [], ◌∷◌, ◌++◌, length, take, drop, refl, sym, ap, ◌∙◌, arith, rules, append_assoc, length-append, Some, None}
use Rattle.std.specs.Str.Pattern.{FindsText, HasTextAt, LacksTextAt, SplitsAroundMatch}
use Rattle.numbers.specs.Ranges.{MOST_ITEMS}
use Rattle.strings.specs.Splitting.{parts, parts_after, count_within}
use Rattle.strings.specs.Affixes.{begins}
use Rattle.strings.specs.Texts.{is_text}
use Rattle.strings.proofs.Ascii.{text_take, text_drop}
use Rattle.strings.proofs.Finds.{begins_at, lacks}

pub nothing_behind : {A : Type 0} (xs : List A) → xs ++ [] ≡ xs
nothing_behind [] = refl
nothing_behind (x ∷ xs) = ap (λ l. x ∷ l) (nothing_behind xs)

pub passed : (s : List ℕ) (n : ℕ) (p t : List ℕ) → parts_after s n p t ≡ parts_after s 0 p (drop n t)
passed s zero p [] = refl
passed s zero p (y ∷ t) = refl
passed s (suc n) p [] = refl
passed s (suc n) p (y ∷ t) = passed s n p t

pub none_found : (s p t : List ℕ) → ((i : ℕ) → i ≤ length t → LacksTextAt s t i) → parts_after s 0 p t ≡ (p ++ t) ∷ []
none_found s p [] never = ap (λ x. x ∷ []) (sym (nothing_behind p))
none_found s p (y ∷ t) never =
    ap (λ b. if b then p ∷ parts_after s (length s - 1) [] t else parts_after s 0 (p ++ y ∷ []) t) (lacks s (y ∷ t) (never 0 (omega arith)))
    ∙ none_found s (p ++ y ∷ []) t (λ i l. never (suc i) (let h : i ≤ length t = l in omega arith))
    ∙ ap (λ x. x ∷ []) (append_assoc p (y ∷ []) t)

one_less : (y : ℕ) (t : List ℕ) (n : ℕ) → 0 < n → drop (n - 1) t ≡ drop n (y ∷ t)
one_less y t zero l = absurd (omega arith)
one_less y t (suc n) l = let e : suc n - 1 ≡ n = omega arith in ap (λ k. drop k t) e

pub found_at : (s p t : List ℕ) (i : ℕ) → 0 < length s → ((k : ℕ) → k < i → LacksTextAt s t k) → drop i t ≡ s ++ drop (i + length s) t → parts_after s 0 p t ≡ (p ++ take i t) ∷ parts_after s 0 [] (drop (i + length s) t)
found_at s p [] zero l never e = let n : 0 ≡ length s + length (drop (0 + length s) []) = ap length e ∙ length-append s (drop (0 + length s) []) in absurd (omega (arith, n))
found_at s p [] (suc i) l never e = let n : 0 ≡ length s + length (drop (suc i + length s) []) = ap length e ∙ length-append s (drop (suc i + length s) []) in absurd (omega (arith, n))
found_at s p (y ∷ t) zero l never e =
    ap (λ b. if b then p ∷ parts_after s (length s - 1) [] t else parts_after s 0 (p ++ y ∷ []) t) (begins_at s (y ∷ t) (drop (0 + length s) (y ∷ t)) e)
    ∙ ap (λ x. p ∷ x) (passed s (length s - 1) [] t ∙ ap (parts_after s 0 []) (one_less y t (length s) l ∙ ap (λ k. drop k (y ∷ t)) (let z : length s ≡ 0 + length s = omega arith in z)))
    ∙ ap (λ x. x ∷ parts_after s 0 [] (drop (0 + length s) (y ∷ t))) (sym (nothing_behind p))
found_at s p (y ∷ t) (suc i) l never e =
    let n : suc i + length s ≡ suc (i + length s) = omega arith in
    let d : drop (suc i + length s) (y ∷ t) ≡ drop (i + length s) t = ap (λ k. drop k (y ∷ t)) n in
    ap (λ b. if b then p ∷ parts_after s (length s - 1) [] t else parts_after s 0 (p ++ y ∷ []) t) (lacks s (y ∷ t) (never 0 (omega arith)))
    ∙ found_at s (p ++ y ∷ []) t i l (λ k m. never (suc k) (let h : k < i = m in omega arith)) (e ∙ ap (λ x. s ++ x) d)
    ∙ ap (λ x. x ∷ parts_after s 0 [] (drop (i + length s) t)) (append_assoc p (y ∷ []) (take i t))
    ∙ ap (λ x. (p ++ take (suc i) (y ∷ t)) ∷ parts_after s 0 [] x) (sym d)

-- the first part, where the separator stands in the text
pub first_part : (s t front back : List ℕ) → 0 < length s → SplitsAroundMatch (FindsText s) t front back → parts s t ≡ front ∷ parts s back
first_part s t front back l m =
    let h : HasTextAt s t m.0 m.1 = m.2.1 in
    let e : drop m.0 t ≡ s ++ drop (m.0 + length s) t = h.split ∙ ap (λ k. s ++ drop k t) h.ends in
    let f : parts s t ≡ take m.0 t ∷ parts s (drop (m.0 + length s) t) = found_at s [] t m.0 l m.2.0 e in
    let a : front ≡ take m.0 t = m.3 in
    let b : back ≡ drop m.1 t = m.4 in
    let g : m.1 ≡ m.0 + length s = h.ends in
    f ∙ ap (λ k. take m.0 t ∷ parts s (drop k t)) (sym g) ∙ ap (λ x. x ∷ parts s (drop m.1 t)) (sym a) ∙ ap (λ x. front ∷ parts s x) (sym b)

-- what stands before it and behind it is text
pub front_text : (s t front back : List ℕ) → is_text t ≡ true → SplitsAroundMatch (FindsText s) t front back → is_text front ≡ true
front_text s t front back e m = ap is_text m.3 ∙ text_take t m.0 e

pub back_text : (s t front back : List ℕ) → is_text t ≡ true → SplitsAroundMatch (FindsText s) t front back → is_text back ≡ true
back_text s t front back e m = ap is_text m.4 ∙ text_drop t m.1 e

pub back_shorter : (s t front back : List ℕ) → 0 < length s → SplitsAroundMatch (FindsText s) t front back → length back < length t
back_shorter s t front back l m =
    let h : HasTextAt s t m.0 m.1 = m.2.1 in
    let g : m.1 ≡ m.0 + length s = h.ends in
    let k : length back + m.1 ≡ length t = m.7 in
    omega (arith, g, k, l)

-- ---- how many

either : (b : Bool) (xs ys : List (List ℕ)) → 0 < length xs → 0 < length ys → 0 < length (if b then xs else ys)
either true xs ys l m = l
either false xs ys l m = m

pub some_after : (s : List ℕ) (n : ℕ) (p t : List ℕ) → 0 < length (parts_after s n p t)
some_after s n p [] = omega arith
some_after s (suc n) p (y ∷ t) = some_after s n p t
some_after s zero p (y ∷ t) =
    either (begins s (y ∷ t)) (p ∷ parts_after s (length s - 1) [] t) (parts_after s zero (p ++ y ∷ []) t) (omega arith) (some_after s zero (p ++ y ∷ []) t)

beyond : (n : ℕ) (b : Bool) → nat_lt MOST_ITEMS n ≡ b → 1048576 < n → b ≡ true
beyond n true e l = refl
beyond n false e l = absurd (grind (arith, rules))

pub too_many : (s rest back front : List ℕ) (ts : List (List ℕ)) → parts s rest ≡ front ∷ parts s back → 1048576 + length (parts s rest) ≡ length ts + 1 → None ≡ count_within ts
too_many s rest back front ts e k =
    let h = some_after s 0 [] back in
    let g : length (parts s rest) ≡ suc (length (parts s back)) = ap length e in
    sym (ap (λ b. if b then None else Some (length ts)) (beyond (length ts) (nat_lt MOST_ITEMS (length ts)) refl (omega (arith, h, g, k))))
