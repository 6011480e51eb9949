-- What names stand for is there: a slot of the frame, or a name of the file.
use Rattle.std.proofs.Common.{◌≡◌, ℕ, suc, ◌+◌, ◌<◌, ◌≤◌, Bool, true, false, not, ◌&&◌, ◌||◌, List, [], ◌∷◌, ◌++◌, length, Option, Some, None, refl, sym, ap, ◌∙◌, subst, arith, if◌then◌else◌}
use Rattle.std.specs.Prelude.{bytes_eq, is_some, option_map, position, unwrap_or}
use Rattle.std.specs.List.{AllByRecursion, position_or_len}
use Rattle.std.proofs.lemmas.Bool.{lt-ltb}
use Rattle.std.proofs.lemmas.List.Quantifiers.{position-Some}
use Rattle.std.proofs.lemmas.List.Recursion.{is_position_or_len}
use Rattle.std.proofs.lemmas.Slice.Eq.{bytes_eq-Decides}
use Rattle.grammar.specs.Bare.{Rest}
use Rattle.program_tree.specs.Names.{Name, Scope, or_else, among, distinct, once, without, clause_names, width, slot_of, predeclared, inside_of}
use Rattle.program_tree.specs.declared.names.Binding.{Binding}
use Rattle.program_tree.specs.declared.names.Predeclared.{Predeclared}
use Rattle.program_tree.specs.declared.names.Binding.TheVariants.{Slot as slot, Global as global, Builtin as builtin}
use Rattle.file_syntax.specs.Scopes.{is_bound}
use Rattle.program_tree.specs.Resolved.{binding_of, global_of, own_slots}
use Rattle.file_syntax.specs.IsProgram.{IsInRange, IsOwnSlot, Around, at_top, in_function, in_loop, IsTarget}

-- names that are equal, by the test
pub same_name : (x y : Name) → bytes_eq x y ≡ true → x ≡ y
same_name x y e = (bytes_eq-Decides x y).0 e

-- the parts of a test of two
pub both : (a b : Bool) → (a && b) ≡ true → (a ≡ true) × (b ≡ true)
both true b h = (refl, h)
both false b h = absurd cc

pub not_both : {A : Type 0} (b : Bool) → b ≡ true → b ≡ false → A
not_both true h k = absurd cc
not_both false h k = absurd cc

pub same : (x : Name) → bytes_eq x x ≡ true
same x = (bytes_eq-Decides x x).1 refl

-- how many names stand before one
abbrev pub before_it : Name → List Name → ℕ
before_it x [] = 0
before_it x (y ∷ ys) = if bytes_eq x y then 0 else 1 + before_it x ys

-- a name among others has a place there
pub counted : (x : Name) (xs : List Name) → among x xs ≡ true → before_it x xs < length xs
counted x [] h = absurd cc
counted x (y ∷ ys) h = by (λ k. counted x ys k) (bytes_eq x y) refl
  where
    by : (among x ys ≡ true → before_it x ys < length ys) → (b : Bool) → bytes_eq x y ≡ b → before_it x (y ∷ ys) < length (y ∷ ys)
    by ih true e = subst (λ t. (if t then 0 else 1 + before_it x ys) < suc (length ys)) (sym e) (omega arith)
    by ih false e =
        let k = ih (sym (ap (λ t. t || among x ys) e) ∙ h) in
        subst (λ t. (if t then 0 else 1 + before_it x ys) < suc (length ys)) (sym e) (omega (arith, k))

pub has_place : (x : Name) (xs : List Name) → among x xs ≡ true → (k : ℕ) × (position (bytes_eq x) xs ≡ Some k) × (k < length xs)
has_place x xs h =
    let e = is_position_or_len (before_it x) (bytes_eq x) refl (λ y ys. refl) xs in
    let k : position_or_len (bytes_eq x) xs < length xs = subst (λ n. n < length xs) e (counted x xs h) in
    (position_or_len (bytes_eq x) xs, ap (λ b. if b then Some (position_or_len (bytes_eq x) xs) else None) (lt-ltb _ _ k), k)

within : (x : Name) (xs : List Name) (k : ℕ) → position (bytes_eq x) xs ≡ Some k → k < length xs
within x xs k e = (position-Some (bytes_eq x) xs k [] e).0

-- each name once: the same names
among_without : (x y : Name) (zs : List Name) → bytes_eq x y ≡ false → among x (without y zs) ≡ among x zs
among_without x y [] n = refl
among_without x y (z ∷ zs) n = by (among_without x y zs n) (bytes_eq y z) refl
  where
    by : among x (without y zs) ≡ among x zs → (b : Bool) → bytes_eq y z ≡ b → among x (without y (z ∷ zs)) ≡ among x (z ∷ zs)
    by ih true e =
        let other : bytes_eq x z ≡ false = subst (λ w. bytes_eq x w ≡ false) (same_name y z e) n in
        ap (λ b. among x (if b then without y zs else z ∷ without y zs)) e
        ∙ ih
        ∙ sym (ap (λ b. b || among x zs) other)
    by ih false e =
        ap (λ b. among x (if b then without y zs else z ∷ without y zs)) e
        ∙ ap (λ b. bytes_eq x z || b) ih

pub among_once : (x : Name) (xs : List Name) → among x xs ≡ true → among x (once xs) ≡ true
among_once x [] h = h
among_once x (y ∷ ys) h = by (λ k. among_once x ys k) (bytes_eq x y) refl
  where
    by : (among x ys ≡ true → among x (once ys) ≡ true) → (b : Bool) → bytes_eq x y ≡ b → among x (once (y ∷ ys)) ≡ true
    by ih true e = ap (λ b. b || among x (without y (once ys))) e
    by ih false e =
        ap (λ b. b || among x (without y (once ys))) e
        ∙ among_without x y (once ys) e
        ∙ ih (sym (ap (λ b. b || among x ys) e) ∙ h)

gone : (x : Name) (zs : List Name) → among x (without x zs) ≡ false
gone x [] = refl
gone x (z ∷ zs) = by (gone x zs) (bytes_eq x z) refl
  where
    by : among x (without x zs) ≡ false → (b : Bool) → bytes_eq x z ≡ b → among x (without x (z ∷ zs)) ≡ false
    by ih true e = ap (λ b. among x (if b then without x zs else z ∷ without x zs)) e ∙ ih
    by ih false e =
        ap (λ b. among x (if b then without x zs else z ∷ without x zs)) e
        ∙ ap (λ b. b || among x (without x zs)) e
        ∙ ih

still_gone : (x y : Name) (zs : List Name) → among x zs ≡ false → among x (without y zs) ≡ false
still_gone x y zs h = by (bytes_eq x y) refl
  where
    by : (b : Bool) → bytes_eq x y ≡ b → among x (without y zs) ≡ false
    by true e = subst (λ w. among x (without w zs) ≡ false) (same_name x y e) (gone x zs)
    by false e = among_without x y zs e ∙ h

distinct_without : (x : Name) (zs : List Name) → distinct zs ≡ true → distinct (without x zs) ≡ true
distinct_without x [] h = refl
distinct_without x (z ∷ zs) h =
    let k = both (not (among z zs)) (distinct zs) h in
    by (distinct_without x zs k.1) (bytes_eq x z) refl k.0
  where
    untrue : (b : Bool) → not b ≡ true → b ≡ false
    untrue true k = absurd cc
    untrue false k = refl

    by : distinct (without x zs) ≡ true → (b : Bool) → bytes_eq x z ≡ b → not (among z zs) ≡ true → distinct (without x (z ∷ zs)) ≡ true
    by ih true e k = ap (λ b. distinct (if b then without x zs else z ∷ without x zs)) e ∙ ih
    by ih false e k =
        ap (λ b. distinct (if b then without x zs else z ∷ without x zs)) e
        ∙ ap (λ b. not b && distinct (without x zs)) (still_gone z x zs (untrue (among z zs) k))
        ∙ ih

pub distinct_once : (xs : List Name) → distinct (once xs) ≡ true
distinct_once [] = refl
distinct_once (x ∷ xs) =
    ap (λ b. not b && distinct (without x (once xs))) (gone x (once xs))
    ∙ distinct_without x (once xs) (distinct_once xs)

-- distinct names stay the first ones
pub without_front : (x : Name) (xs zs : List Name) → among x xs ≡ false → without x (xs ++ zs) ≡ xs ++ without x zs
without_front x [] zs h = refl
without_front x (y ∷ ys) zs h = by (λ k. without_front x ys zs k) (bytes_eq x y) refl
  where
    by : (among x ys ≡ false → without x (ys ++ zs) ≡ ys ++ without x zs) → (b : Bool) → bytes_eq x y ≡ b → without x ((y ∷ ys) ++ zs) ≡ (y ∷ ys) ++ without x zs
    by ih true e = not_both (among x (y ∷ ys)) (ap (λ b. b || among x ys) e) h
    by ih false e =
        ap (λ b. if b then without x (ys ++ zs) else y ∷ without x (ys ++ zs)) e
        ∙ ap (λ l. y ∷ l) (ih (sym (ap (λ b. b || among x ys) e) ∙ h))

pub stay_first : (xs ys : List Name) → distinct xs ≡ true → (zs : List Name) × (once (xs ++ ys) ≡ xs ++ zs)
stay_first [] ys h = (once ys, refl)
stay_first (x ∷ xs) ys h =
    let k = both (not (among x xs)) (distinct xs) h in
    let r = stay_first xs ys k.1 in (
      without x r.0,
      ap (λ l. x ∷ without x l) r.1 ∙ ap (λ l. x ∷ l) (without_front x xs r.0 (untrue (among x xs) k.0)),
    )
  where
    untrue : (b : Bool) → not b ≡ true → b ≡ false
    untrue true k = absurd cc
    untrue false k = refl

-- a slot that a name has is one of those in use
pub slot_within : (x : Name) (ls : List (List Name)) (k : ℕ) → slot_of x ls ≡ Some k → k < width ls
slot_within x [] k h = absurd cc
slot_within x (l ∷ ls) k h = by (λ i. slot_within x ls k i) (position (bytes_eq x) l) refl
  where
    by : (slot_of x ls ≡ Some k → k < width ls) → (o : Option ℕ) → position (bytes_eq x) l ≡ o → k < width (l ∷ ls)
    by ih (Some j) e =
        let i = sym (ap (λ p. or_else (option_map (λ n. width ls + n) p) (slot_of x ls)) e) ∙ h in
        let m = ap (λ p. unwrap_or p 0) i in
        let w = within x l j e in
        omega (arith, m, w)
    by ih None e =
        let i = ih (sym (ap (λ p. or_else (option_map (λ n. width ls + n) p) (slot_of x ls)) e) ∙ h) in
        omega (arith, i)

found : (g n : ℕ) (a b : Option ℕ) (c : Option Predeclared) → ((k : ℕ) → a ≡ Some k → k < n) → ((k : ℕ) → b ≡ Some k → k < g)
    → is_some (or_else (option_map slot a) (or_else (option_map global b) (option_map builtin c))) ≡ true
    → IsInRange g n (unwrap_or (or_else (option_map slot a) (or_else (option_map global b) (option_map builtin c))) (slot 0))
found g n (Some k) b c ha hb h = ha k refl
found g n None (Some k) c ha hb h = hb k refl
found g n None None (Some p) ha hb h = tt
found g n None None None ha hb h = absurd cc

-- what a name stands for that is bound
pub in_range : (s : Scope) (x : Name) → is_bound s x ≡ true → IsInRange (length s.globals) (width s.levels) (binding_of s x)
in_range s x h =
    found (length s.globals) (width s.levels) (slot_of x s.levels) (position (bytes_eq x) s.globals) (predeclared x)
    (slot_within x s.levels) (within x s.globals) h

pub wider : (g m n : ℕ) (b : Binding) → m ≤ n → IsInRange g m b → IsInRange g n b
wider g m n (slot k) le h = omega (arith, le, h)
wider g m n (global k) le h = h
wider g m n (builtin p) le h = tt

-- each name of a list, by what is so of those among it
pub all_among : (P : Name → Type 0) (xs : List Name) → ((x : Name) → among x xs ≡ true → P x) → AllByRecursion P xs
all_among P [] f = tt
all_among P (x ∷ xs) f =
    (f x (ap (λ b. b || among x xs) (same x)), all_among P xs (λ y h. f y (more (bytes_eq y x) (among y xs) h)))
  where
    more : (a b : Bool) → b ≡ true → (a || b) ≡ true
    more true b h = refl
    more false b h = h

-- the names of a comprehension have its own slots
pub own_names : (s : Scope) (r : Rest) → AllByRecursion (λ x. IsOwnSlot (own_slots s r) (binding_of (inside_of s r) x)) (clause_names r)
own_names s r = all_among _ (clause_names r) (λ x h. by x (has_place x (once (clause_names r)) (among_once x (clause_names r) h)))
  where
    by : (x : Name) → (k : ℕ) × (position (bytes_eq x) (once (clause_names r)) ≡ Some k) × (k < length (once (clause_names r))) → IsOwnSlot (own_slots s r) (binding_of (inside_of s r) x)
    by x p =
        let w = width s.levels in
        let j = p.2 in
        subst (λ o. IsOwnSlot (own_slots s r) (unwrap_or (or_else (option_map slot (or_else (option_map (λ n. w + n) o) (slot_of x s.levels))) (or_else (option_map global (position (bytes_eq x) s.globals)) (option_map builtin (predeclared x)))) (slot 0)))
        (sym p.1) (omega (arith), omega (arith, j))

-- what is bound at a place: at the top level a name of the file, in a function one of its names
abbrev pub Binds : Around → Scope → Name → Type 0
Binds at_top s x = (s.levels ≡ []) × (among x s.globals ≡ true)
Binds in_function s x = (l : List Name) × (s.levels ≡ l ∷ []) × (among x l ≡ true)
Binds in_loop s x = (l : List Name) × (s.levels ≡ l ∷ []) × (among x l ≡ true)

local : (n : ℕ) (s : Scope) (x : Name) → (l : List Name) × (s.levels ≡ l ∷ []) × (among x l ≡ true) → width s.levels ≤ n
    → (k : ℕ) × (binding_of s x ≡ slot k) × (k < n)
local n s x (l, e, h) le =
    let p = has_place x l h in
    let j = p.2 in
    let w = ap width e in (
      0 + p.0,
      ap (λ ls. unwrap_or (or_else (option_map slot (slot_of x ls)) (or_else (option_map global (position (bytes_eq x) s.globals)) (option_map builtin (predeclared x)))) (slot 0)) e
          ∙ ap (λ o. unwrap_or (or_else (option_map slot (or_else (option_map (λ n. 0 + n) o) None)) (or_else (option_map global (position (bytes_eq x) s.globals)) (option_map builtin (predeclared x)))) (slot 0)) p.1,
      omega (arith, j, w, le),
    )

pub bound_global : (s : Scope) (x : Name) → among x s.globals ≡ true → global_of s x < length s.globals
bound_global s x h = let p = has_place x s.globals h in subst (λ o. unwrap_or o 0 < length s.globals) (sym p.1) p.2

pub target : (p : Around) (n : ℕ) (s : Scope) (x : Name) → Binds p s x → width s.levels ≤ n → IsTarget p (length s.globals) n (binding_of s x)
target at_top n s x h le =
    let p = has_place x s.globals h.1 in
    subst (λ ls. IsTarget at_top (length s.globals) n (unwrap_or (or_else (option_map slot (slot_of x ls)) (or_else (option_map global (position (bytes_eq x) s.globals)) (option_map builtin (predeclared x)))) (slot 0))) (sym h.0)
    (subst (λ o. IsTarget at_top (length s.globals) n (unwrap_or (or_else None (or_else (option_map global o) (option_map builtin (predeclared x)))) (slot 0))) (sym p.1) (tt, p.2))
target in_function n s x h le = let r = local n s x h le in subst (IsTarget in_function (length s.globals) n) (sym r.1) (tt, r.2)
target in_loop n s x h le = let r = local n s x h le in subst (IsTarget in_loop (length s.globals) n) (sym r.1) (tt, r.2)
