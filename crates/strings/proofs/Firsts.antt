-- Each part of a text but the last ends where the separator first stands.
use Rattle.std.proofs.Common.{◌≡◌, ℕ, zero, suc, ◌-◌, ◌<◌, ◌≤◌, Bool, true, false, nat_lt, if◌then◌else◌, List, [], ◌∷◌, ◌++◌, length, drop, Some, refl, sym, ap, ◌∙◌, subst, arith, rules, append_assoc, length-append}
use Rattle.std.specs.Str.Pattern.{LacksTextAt}
use Rattle.std.proofs.lemmas.List.{drop-append-le}
use Rattle.strings.specs.Affixes.{begins}
use Rattle.strings.specs.Meaning.{EndAtTheFirst, PartsEndAtTheFirst}
use Rattle.strings.specs.Parts.{is_part, first_place}
use Rattle.strings.specs.Splitting.{parts_after}
use Rattle.strings.proofs.Cuts.{passed, some_after, nothing_behind}
use Rattle.strings.proofs.Finds.{begins_at, behind, first_at, no_part}
use Rattle.strings.proofs.Meanings.{all_dropped, split_at}

-- the separator begins nowhere in p, which stands before t
abbrev NoneBefore : List ℕ → List ℕ → List ℕ → Type 0
NoneBefore s p t = (k : ℕ) → k < length p → begins s (drop k (p ++ t)) ≡ false

clash : {A : Type 0} (b : Bool) → b ≡ true → b ≡ false → A
clash b e f = absurd (cc)

too_short : (s rest : List ℕ) → 0 < length s → [] ≡ s ++ rest → ⊥
too_short s rest l e = let h = ap length e ∙ length-append s rest in omega (arith, h, l)

dropped_all : (p : List ℕ) (k : ℕ) → length p ≤ k → drop k p ≡ []
dropped_all [] zero l = refl
dropped_all [] (suc k) l = refl
dropped_all (x ∷ p) zero l = absurd (omega (arith, l))
dropped_all (x ∷ p) (suc k) l = dropped_all p k (let h : suc (length p) ≤ suc k = l in omega arith)

-- the last part
last_lacks : (s p : List ℕ) → 0 < length s → NoneBefore s p [] → (k : ℕ) (b : Bool) → nat_lt k (length p) ≡ b → LacksTextAt s p k
last_lacks s p l none k true e rest h =
    clash (begins s (drop k (p ++ []))) (begins_at s (drop k (p ++ [])) rest (ap (drop k) (nothing_behind p) ∙ h)) (none k (grind (arith, rules)))
last_lacks s p l none k false e rest h = absurd (too_short s rest l (sym (dropped_all p k (grind (arith, rules))) ∙ h))

at_end : (s p : List ℕ) → 0 < length s → NoneBefore s p [] → is_part s p ≡ false
at_end s p l none = no_part s p (λ k m. last_lacks s p l none k (nat_lt k (length p)) refl)

-- a part that isn't the last
part_lacks : (s p t rest : List ℕ) → t ≡ s ++ rest → NoneBefore s p t → (k : ℕ) → k < length p → LacksTextAt s (p ++ s) k
part_lacks s p t rest e none k m more h =
    let w : drop k (p ++ t) ≡ s ++ (more ++ rest) =
    ap (λ x. drop k (p ++ x)) e ∙ ap (drop k) (sym (append_assoc p s rest))
    ∙ drop-append-le k (p ++ s) rest (let q = length-append p s in omega (arith, m, q)) ∙ ap (λ x. x ++ rest) h ∙ append_assoc s more rest in
    clash (begins s (drop k (p ++ t))) (begins_at s (drop k (p ++ t)) (more ++ rest) w) (none k m)

ends_first : (s p t rest : List ℕ) → t ≡ s ++ rest → NoneBefore s p t → first_place s (p ++ s) ≡ Some (length p)
ends_first s p t rest e none =
    first_at s (p ++ s) (length p) [] (let q = length-append p s in omega (arith, q)) (part_lacks s p t rest e none) (all_dropped p s ∙ sym (nothing_behind s))

put_first : (s p : List ℕ) (ps : List (List ℕ)) → 0 < length ps → first_place s (p ++ s) ≡ Some (length p) → EndAtTheFirst s ps → EndAtTheFirst s (p ∷ ps)
put_first s p [] l e h = absurd (omega (arith, l))
put_first s p (q ∷ ps) l e h = (e, h)

abbrev Ends : List ℕ → ℕ → Type 0
Ends s n = (p t : List ℕ) → length t ≤ n → NoneBefore s p t → EndAtTheFirst s (parts_after s 0 p t)

none_yet : (s t : List ℕ) → NoneBefore s [] t
none_yet s t k l = absurd (omega (arith, l))

at_one : (s p : List ℕ) (y : ℕ) (t : List ℕ) (n : ℕ) → 0 < length s → suc (length t) ≤ suc n → Ends s n → NoneBefore s p (y ∷ t) → begins s (y ∷ t) ≡ true → EndAtTheFirst s (p ∷ parts_after s (length s - 1) [] t)
at_one s p y t n l m k none e =
    let h = behind s (y ∷ t) e in
    let d : drop (length s - 1) t ≡ h.0 = split_at s y t h.0 l h.1 in
    let w = ap length h.1 ∙ length-append s h.0 in
    let a : EndAtTheFirst s (parts_after s 0 [] h.0) = k [] h.0 (omega (arith, w, l, m)) (none_yet s h.0) in
    let b : parts_after s 0 [] h.0 ≡ parts_after s (length s - 1) [] t = ap (parts_after s 0 []) (sym d) ∙ sym (passed s (length s - 1) [] t) in
    put_first s p (parts_after s (length s - 1) [] t) (some_after s (length s - 1) [] t) (ends_first s p (y ∷ t) h.0 h.1 none) (subst (EndAtTheFirst s) b a)

next_none : (s p : List ℕ) (y : ℕ) (t : List ℕ) → NoneBefore s p (y ∷ t) → begins s (y ∷ t) ≡ false → (k : ℕ) (b : Bool) → nat_lt k (length p) ≡ b → k < length (p ++ y ∷ []) → begins s (drop k ((p ++ y ∷ []) ++ t)) ≡ false
next_none s p y t none e k true q l = ap (λ x. begins s (drop k x)) (append_assoc p (y ∷ []) t) ∙ none k (grind (arith, rules))
next_none s p y t none e k false q l =
    let w = length-append p (y ∷ []) in
    let i : length p ≤ k = grind (arith, rules) in
    let j : k ≡ length p = omega (arith, w, l, i) in
    ap (λ x. begins s (drop k x)) (append_assoc p (y ∷ []) t) ∙ ap (λ i. begins s (drop i (p ++ y ∷ t))) j ∙ ap (begins s) (all_dropped p (y ∷ t)) ∙ e

chosen : (s p : List ℕ) (y : ℕ) (t : List ℕ) (n : ℕ) (b : Bool) → begins s (y ∷ t) ≡ b → 0 < length s → suc (length t) ≤ suc n → Ends s n → NoneBefore s p (y ∷ t) → EndAtTheFirst s (if b then p ∷ parts_after s (length s - 1) [] t else parts_after s 0 (p ++ y ∷ []) t)
chosen s p y t n true e l m k none = at_one s p y t n l m k none e
chosen s p y t n false e l m k none = k (p ++ y ∷ []) t (omega (arith, m)) (λ i. next_none s p y t none e i (nat_lt i (length p)) refl)

ends : (s : List ℕ) → 0 < length s → (n : ℕ) → Ends s n
ends s l n p [] m none = at_end s p l none
ends s l zero p (y ∷ t) m none = absurd (omega (arith, m))
ends s l (suc n) p (y ∷ t) m none = chosen s p y t n (begins s (y ∷ t)) refl l m (ends s l n) none

pub parts_end : (s t : List ℕ) → PartsEndAtTheFirst s t
parts_end s t l = ends s l (length t) [] t (omega arith) (none_yet s t)
