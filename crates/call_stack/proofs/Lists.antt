-- Lists in the other order, and codes one behind the others.
use Rattle.std.proofs.Common.{◌≡◌, ◌∙◌, List, [], ◌∷◌, ◌++◌, ap, refl}
use Rattle.std.specs.Prelude.{Bool, ◌||◌, true, false, if◌then◌else◌, map, reverse}
use Rattle.std.specs.List.{list_any}
use Rattle.std.proofs.Math.Logic.{∥∥₁_map₂}
use mathlib.Core.List.{reverse_aux}
use Rattle.meaning.specs.Instructions.{FunctionCode, Codes}
use Rattle.meaning.specs.Linked.{AreFileCodes, IsFileCode}
use Rattle.meaning.specs.Entry.{same_function}
use Rattle.frames.specs.declared.frame.FunctionId.{FunctionId}
use Rattle.frames.specs.Answers.{id_seen}
use Rattle.call_stack.specs.ActiveView.{ids_seen}

-- a test of a list finds what it finds in the list's images
any_mapped : {A B : Type 0} (p : B → Bool) (f : A → B) (xs : List A) → list_any p (map f xs) ≡ list_any (λ x. p (f x)) xs
any_mapped p f [] = refl
any_mapped p f (x ∷ xs) = ap (λ b. p (f x) || b) (any_mapped p f xs)

grouped : (a b c : Bool) → (a || (b || c)) ≡ ((b || a) || c)
grouped true true c = refl
grouped true false c = refl
grouped false true c = refl
grouped false false c = refl

last : (a : Bool) → (a || false) ≡ a
last true = refl
last false = refl

any_onto : {A : Type 0} (p : A → Bool) (xs ys : List A) → list_any p (reverse_aux xs ys) ≡ (list_any p xs || list_any p ys)
any_onto p [] ys = refl
any_onto p (x ∷ xs) ys = any_onto p xs (x ∷ ys) ∙ grouped (list_any p xs) (p x) (list_any p ys)

any_turned : {A : Type 0} (p : A → Bool) (xs : List A) → list_any p (reverse xs) ≡ list_any p xs
any_turned p xs = any_onto p xs [] ∙ last (list_any p xs)

-- a function is found among the active ones, in whichever order
pub active_found : (f : FunctionId) (xs : List FunctionId) →
    list_any (same_function (id_seen f)) (ids_seen (reverse xs)) ≡ list_any (λ g. same_function (id_seen f) (id_seen g)) xs
active_found f xs = any_mapped (same_function (id_seen f)) id_seen (reverse xs) ∙ any_turned (λ g. same_function (id_seen f) (id_seen g)) xs

-- one code more
codes_more : (codes : Codes) (fs : List FunctionCode) → AreFileCodes codes → IsFileCode fs → AreFileCodes (codes ++ fs ∷ [])
codes_more [] fs h i = (i, tt)
codes_more (c ∷ codes) fs h i = (h.0, codes_more codes fs h.1 i)

still : (codes : Codes) (fs : List FunctionCode) → ∥ AreFileCodes codes ∥₁ → IsFileCode fs → ∥ AreFileCodes (codes ++ fs ∷ []) ∥₁
still codes fs h i = ∥∥₁_map₂ h ∣ i ∣₁ (λ a b. codes_more codes fs a b)

-- whether there was memory for it or not
pub still_compiled : (b : Bool) (codes : Codes) (fs : List FunctionCode) → ∥ AreFileCodes codes ∥₁ → IsFileCode fs →
    ∥ AreFileCodes (if b then (codes ++ fs ∷ []) else codes) ∥₁
still_compiled true codes fs h i = still codes fs h i
still_compiled false codes fs h i = h
