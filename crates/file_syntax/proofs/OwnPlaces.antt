-- Two names of one scope have two places, and parameters have the first slots of their function.
use Rattle.std.proofs.Common.{◌≡◌, ℕ, suc, ◌+◌, ◌<◌, Bool, true, false, not, ◌||◌, List, [], ◌∷◌, ◌++◌, length, map, Option, Some, None, refl, sym, ap, ◌∙◌, subst, arith, if◌then◌else◌, append_assoc}
use Rattle.std.specs.Prelude.{bytes_eq, option_map, position, unwrap_or}
use Rattle.std.specs.List.{position_or_len}
use Rattle.std.proofs.Math.ListN.{get_or}
use Rattle.std.proofs.lemmas.Bool.{lt-ltb}
use Rattle.std.proofs.lemmas.List.Quantifiers.{position-Some}
use Rattle.std.proofs.lemmas.List.Recursion.{is_position_or_len}
use Rattle.std.proofs.lemmas.List.{length-append}
use Rattle.grammar.specs.BareLines.{Param, Lines}
use Rattle.program_tree.specs.Names.{Name, Scope, or_else, among, distinct, once, param_name, lines_bind, width, slot_of, stands_for, predeclared, function_scope}
use Rattle.program_tree.specs.declared.names.Binding.TheVariants.{Slot as slot, Global as global, Builtin as builtin}
use Rattle.file_syntax.proofs.NamePlaces.{both, not_both, before_it, same, slot_within}
use Rattle.file_syntax.proofs.NamePlaces.{stay_first}
use Rattle.file_syntax.proofs.NamePlaces.{same_name}

-- a place in a list is that of one name
pub one_name : (x y : Name) (l : List Name) (k : ℕ) → position (bytes_eq x) l ≡ Some k → position (bytes_eq y) l ≡ Some k → x ≡ y
one_name x y l k a b =
    same_name x (get_or l k []) (position-Some (bytes_eq x) l k [] a).1
    ∙ sym (same_name y (get_or l k []) (position-Some (bytes_eq y) l k [] b).1)

pub one_slot : (x y : Name) (ls : List (List Name)) (k : ℕ) → slot_of x ls ≡ Some k → slot_of y ls ≡ Some k → x ≡ y
one_slot x y [] k a b = absurd cc
one_slot x y (l ∷ ls) k a b = by (λ p q. one_slot x y ls k p q) (position (bytes_eq x) l) (position (bytes_eq y) l) refl refl a b
  where
    number : (m : ℕ) → Some m ≡ Some k → m ≡ k
    number m e = ap (λ o. unwrap_or o 0) e

    by : (slot_of x ls ≡ Some k → slot_of y ls ≡ Some k → x ≡ y) → (o p : Option ℕ) → position (bytes_eq x) l ≡ o → position (bytes_eq y) l ≡ p
        → or_else (option_map (λ n. width ls + n) (position (bytes_eq x) l)) (slot_of x ls) ≡ Some k
        → or_else (option_map (λ n. width ls + n) (position (bytes_eq y) l)) (slot_of y ls) ≡ Some k → x ≡ y
    by ih (Some i) (Some j) e f a b =
        let m = number (width ls + i) (sym (ap (λ o. or_else (option_map (λ n. width ls + n) o) (slot_of x ls)) e) ∙ a) in
        let n = number (width ls + j) (sym (ap (λ o. or_else (option_map (λ n. width ls + n) o) (slot_of y ls)) f) ∙ b) in
        let d : i ≡ j = omega (arith, m, n) in
        one_name x y l j (e ∙ ap Some d) f
    by ih (Some i) None e f a b =
        let m = number (width ls + i) (sym (ap (λ o. or_else (option_map (λ n. width ls + n) o) (slot_of x ls)) e) ∙ a) in
        let n = slot_within y ls k (sym (ap (λ o. or_else (option_map (λ n. width ls + n) o) (slot_of y ls)) f) ∙ b) in
        absurd (omega (arith, m, n))
    by ih None (Some j) e f a b =
        let m = number (width ls + j) (sym (ap (λ o. or_else (option_map (λ n. width ls + n) o) (slot_of y ls)) f) ∙ b) in
        let n = slot_within x ls k (sym (ap (λ o. or_else (option_map (λ n. width ls + n) o) (slot_of x ls)) e) ∙ a) in
        absurd (omega (arith, m, n))
    by ih None None e f a b =
        ih (sym (ap (λ o. or_else (option_map (λ n. width ls + n) o) (slot_of x ls)) e) ∙ a)
        (sym (ap (λ o. or_else (option_map (λ n. width ls + n) o) (slot_of y ls)) f) ∙ b)

or_true : (a b : Bool) → b ≡ true → (a || b) ≡ true
or_true true b e = refl
or_true false b e = e

there : (x : Name) (zs behind : List Name) → among x (zs ++ x ∷ behind) ≡ true
there x [] behind = ap (λ b. b || among x behind) (same x)
there x (z ∷ zs) behind = or_true (bytes_eq x z) (among x (zs ++ x ∷ behind)) (there x zs behind)

-- a name that stands among distinct names stands not before
pub not_before : (x : Name) (front behind : List Name) → distinct (front ++ x ∷ behind) ≡ true → among x front ≡ false
not_before x [] behind h = refl
not_before x (y ∷ ys) behind h =
    let k = both (not (among y (ys ++ x ∷ behind))) (distinct (ys ++ x ∷ behind)) h in
    by (not_before x ys behind k.1) (bytes_eq x y) refl k.0
  where
    by : among x ys ≡ false → (b : Bool) → bytes_eq x y ≡ b → not (among y (ys ++ x ∷ behind)) ≡ true → among x (y ∷ ys) ≡ false
    by ih true e k =
        not_both (not (among y (ys ++ x ∷ behind))) k (subst (λ z. not (among z (ys ++ x ∷ behind)) ≡ false) (same_name x y e) (ap not (there x ys behind)))
    by ih false e k = ap (λ b. b || among x ys) e ∙ ih

counted_before : (x : Name) (front rest : List Name) → among x front ≡ false → before_it x (front ++ x ∷ rest) ≡ length front
counted_before x [] rest h = ap (λ b. if b then 0 else 1 + before_it x rest) (same x)
counted_before x (y ∷ ys) rest h = by (λ k. counted_before x ys rest k) (bytes_eq x y) refl
  where
    by : (among x ys ≡ false → before_it x (ys ++ x ∷ rest) ≡ length ys) → (b : Bool) → bytes_eq x y ≡ b → before_it x (y ∷ ys ++ x ∷ rest) ≡ length (y ∷ ys)
    by ih true e = not_both (among x (y ∷ ys)) (ap (λ b. b || among x ys) e) h
    by ih false e =
        let k = ih (sym (ap (λ b. b || among x ys) e) ∙ h) in
        let j : 1 + before_it x (ys ++ x ∷ rest) ≡ suc (length ys) = omega (arith, k) in
        ap (λ b. if b then 0 else 1 + before_it x (ys ++ x ∷ rest)) e ∙ j

pub place_is : (x : Name) (front rest : List Name) → among x front ≡ false → position (bytes_eq x) (front ++ x ∷ rest) ≡ Some (length front)
place_is x front rest h =
    let xs = front ++ x ∷ rest in
    let e = sym (is_position_or_len (before_it x) (bytes_eq x) refl (λ y ys. refl) xs) ∙ counted_before x front rest h in
    let n = length-append front (x ∷ rest) in
    let k : position_or_len (bytes_eq x) xs < length xs = omega (arith, e, n) in
    ap (λ b. if b then Some (position_or_len (bytes_eq x) xs) else None) (lt-ltb _ _ k) ∙ ap Some e

pub first_slots : (s : Scope) (ps : List Param) (inner : Lines) (front behind : List Name) (x : Name) → distinct (map param_name ps) ≡ true
    → map param_name ps ≡ front ++ x ∷ behind → stands_for (function_scope s ps inner) x ≡ Some (slot (length front))
first_slots s ps inner front behind x d e =
    let names = map param_name ps in
    let r = stay_first names (lines_bind inner) d in
    let all : once (names ++ lines_bind inner) ≡ front ++ x ∷ (behind ++ r.0) = r.1 ∙ ap (λ l. l ++ r.0) e ∙ append_assoc front (x ∷ behind) r.0 in
    let out = not_before x front behind (subst (λ l. distinct l ≡ true) e d) in
    let p = ap (position (bytes_eq x)) all ∙ place_is x front (behind ++ r.0) out in
    let z : 0 + length front ≡ length front = omega arith in
    ap (λ o. or_else (option_map slot (or_else (option_map (λ n. 0 + n) o) None)) (or_else (option_map global (position (bytes_eq x) s.globals)) (option_map builtin (predeclared x)))) p
    ∙ ap (λ n. Some (slot n)) z
