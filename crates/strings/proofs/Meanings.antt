-- What the tests on texts say.
use Rattle.std.proofs.Common.{◌≡◌, ℕ, zero, suc, ◌-◌, ◌<◌, ◌≤◌, Bool, true, false, ◌||◌, if◌then◌else◌, List, [], ◌∷◌, ◌++◌, length, take, drop, refl, sym, ap, ◌∙◌, arith, append_assoc, length-append, length-drop}
use Rattle.std.specs.Str.{bytes_eq}
use Rattle.std.proofs.lemmas.List.{take-append-drop}
use Rattle.std.proofs.lemmas.Slice.Eq.{bytes_eq-Decides}
use Rattle.strings.specs.Affixes.{begins}
use Rattle.strings.specs.Joining.{glued}
use Rattle.strings.specs.Meaning.{BeginsSays, EndsSays, PartSays, PartsMakeTheText}
use Rattle.strings.specs.Parts.{is_part}
use Rattle.strings.specs.Splitting.{parts_after}
use Rattle.strings.proofs.Cuts.{passed, some_after, nothing_behind}
use Rattle.strings.proofs.Finds.{begins_at, behind, part_at}

pub begins_says : (p t : List ℕ) → BeginsSays p t
begins_says p t = (behind p t, λ h. begins_at p t h.0 h.1)

-- ---- ends

pub all_dropped : (a b : List ℕ) → drop (length a) (a ++ b) ≡ b
all_dropped [] b = refl
all_dropped (x ∷ a) b = all_dropped a b

same_bytes : (a b : List ℕ) → bytes_eq a b ≡ true → a ≡ b
same_bytes a b e = (bytes_eq-Decides a b).0 e

bytes_same : (a b : List ℕ) → a ≡ b → bytes_eq a b ≡ true
bytes_same a b e = (bytes_eq-Decides a b).1 e

pub ends_says : (p t : List ℕ) → EndsSays p t
ends_says p t = (
  λ e. let n = length t - length p in (take n t, sym (take-append-drop n t) ∙ ap (λ x. take n t ++ x) (same_bytes (drop n t) p e)),
  λ h. let n : length t - length p ≡ length h.0 = (let k = ap length h.1 ∙ length-append h.0 p in omega (arith, k)) in
      bytes_same (drop (length t - length p) t) p (ap (λ k. drop k t) n ∙ ap (drop (length h.0)) h.1 ∙ all_dropped h.0 p),
)

-- ---- holds

abbrev Held : List ℕ → List ℕ → Type 0
Held p t = (front : List ℕ) × (rest : List ℕ) × (t ≡ front ++ (p ++ rest))

at_front : (p t : List ℕ) → begins p t ≡ true → Held p t
at_front p t e = let h = behind p t e in ([], h.0, h.1)

further : (p t : List ℕ) (y : ℕ) → Held p t → Held p (y ∷ t)
further p t y h = (y ∷ h.0, h.1, ap (λ x. y ∷ x) h.2)

one_of : (p t : List ℕ) (y : ℕ) (b : Bool) → begins p (y ∷ t) ≡ b → (is_part p t ≡ true → Held p t) → (b || is_part p t) ≡ true → Held p (y ∷ t)
one_of p t y true e k f = at_front p (y ∷ t) e
one_of p t y false e k f = further p t y (k f)

held : (p t : List ℕ) → is_part p t ≡ true → Held p t
held p [] e = at_front p [] e
held p (y ∷ t) e = one_of p t y (begins p (y ∷ t)) refl (held p t) e

pub part_says : (p t : List ℕ) → PartSays p t
part_says p t = (held p t, λ h. part_at p t (length h.0) h.1 (ap (drop (length h.0)) h.2 ∙ all_dropped h.0 (p ++ h.1)))

-- ---- the parts make the text

glued_some : (s p : List ℕ) (ts : List (List ℕ)) → 0 < length ts → glued s (p ∷ ts) ≡ p ++ s ++ glued s ts
glued_some s p [] l = absurd (omega arith)
glued_some s p (t ∷ ts) l = refl

pub split_at : (s : List ℕ) (y : ℕ) (t rest : List ℕ) → 0 < length s → y ∷ t ≡ s ++ rest → drop (length s - 1) t ≡ rest
split_at [] y t rest l e = absurd (omega arith)
split_at (x ∷ s) y t rest l e =
    let n : suc (length s) - 1 ≡ length s = omega arith in
    ap (λ k. drop k t) n ∙ ap (drop (length s)) (let h : t ≡ s ++ rest = cc in h) ∙ all_dropped s rest

abbrev Makes : List ℕ → ℕ → Type 0
Makes s n = (p t : List ℕ) → length t ≤ n → glued s (parts_after s 0 p t) ≡ p ++ t

at_one : (s p : List ℕ) (y : ℕ) (t : List ℕ) (n : ℕ) → 0 < length s → suc (length t) ≤ suc n → Makes s n → begins s (y ∷ t) ≡ true → glued s (p ∷ parts_after s (length s - 1) [] t) ≡ p ++ y ∷ t
at_one s p y t n l m k e =
    let h = behind s (y ∷ t) e in
    let d : drop (length s - 1) t ≡ h.0 = split_at s y t h.0 l h.1 in
    let b : length (drop (length s - 1) t) ≤ n = (let q = length-drop (length s - 1) t in omega (arith, q, m)) in
    let g : glued s (parts_after s (length s - 1) [] t) ≡ h.0 = ap (glued s) (passed s (length s - 1) [] t) ∙ k [] (drop (length s - 1) t) b ∙ d in
    glued_some s p (parts_after s (length s - 1) [] t) (some_after s (length s - 1) [] t)
    ∙ ap (λ x. p ++ s ++ x) g ∙ append_assoc p s h.0 ∙ ap (λ x. p ++ x) (sym h.1)

chosen : (s p : List ℕ) (y : ℕ) (t : List ℕ) (n : ℕ) (b : Bool) → begins s (y ∷ t) ≡ b → 0 < length s → suc (length t) ≤ suc n → Makes s n → glued s (if b then p ∷ parts_after s (length s - 1) [] t else parts_after s 0 (p ++ y ∷ []) t) ≡ p ++ y ∷ t
chosen s p y t n true e l m k = at_one s p y t n l m k e
chosen s p y t n false e l m k = k (p ++ y ∷ []) t (omega (arith, m)) ∙ append_assoc p (y ∷ []) t

makes : (s : List ℕ) → 0 < length s → (n : ℕ) → Makes s n
makes s l n p [] m = sym (nothing_behind p)
makes s l zero p (y ∷ t) m = absurd (omega (arith, m))
makes s l (suc n) p (y ∷ t) m = chosen s p y t n (begins s (y ∷ t)) refl l m (makes s l n)

pub parts_make : (s t : List ℕ) → PartsMakeTheText s t
parts_make s t l = makes s l (length t) [] t (omega arith)
