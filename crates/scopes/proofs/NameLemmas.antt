-- Names among others: which are bound, and each once; and a list from a place on.
use Rattle.std.proofs.Common.{◌≡◌, ◌<◌, ◌+◌, ℕ, suc, Bool, true, false, not, ◌&&◌, ◌||◌, List, [], ◌∷◌, ◌++◌, drop, length, refl, sym, ap, ◌∙◌, subst, arith, if◌then◌else◌}
use Rattle.std.proofs.Math.ListN.{get_or}
use Rattle.std.proofs.Math.Seq.{drop-cons}
use Rattle.std.specs.Prelude.{bytes_eq}
use Rattle.std.specs.Bool.{one_answer}
use Rattle.std.proofs.lemmas.List.Folds.{list_any-append}
use Rattle.std.proofs.lemmas.Slice.Eq.{bytes_eq-Decides}
use Rattle.indexmap.specs.IndexSet.{insert_key, insert_all}
use Rattle.program_tree.specs.Names.{Name, among, apart, distinct, once, without}
use Rattle.file_syntax.proofs.NamePlaces.{same_name}

-- a list from a place on
pub drop_at : {A : Type 0} (xs : List A) (i : ℕ) (x : A) → i < length xs → x ≡ get_or xs i x → drop i xs ≡ x ∷ drop (i + 1) xs
drop_at xs i x h e =
    let next : suc i ≡ i + 1 = omega (arith) in
    drop-cons xs i x h ∙ ap (λ y. y ∷ drop (suc i) xs) (sym e) ∙ ap (λ n. x ∷ drop n xs) next

eq_sym : (x y : Name) → bytes_eq x y ≡ bytes_eq y x
eq_sym x y = one_answer (bytes_eq x y) (bytes_eq y x) (bytes_eq-Decides x y) ((λ e. sym ((bytes_eq-Decides y x).0 e)), λ p. (bytes_eq-Decides y x).1 (sym p))

-- the names that aren't among those
abbrev pub lacking : List Name → List Name → List Name
lacking ks [] = []
lacking ks (y ∷ ys) = if among y ks then lacking ks ys else y ∷ lacking ks ys

or_false : (b : Bool) → (b || false) ≡ b
or_false true = refl
or_false false = refl

among_snoc : (y : Name) (ks : List Name) (x : Name) → among y (ks ++ x ∷ []) ≡ (among y ks || bytes_eq y x)
among_snoc y ks x = list_any-append (bytes_eq y) ks (x ∷ []) ∙ ap (λ b. among y ks || b) (or_false (bytes_eq y x))

lacking_without : (ks : List Name) (x : Name) → among x ks ≡ true → (ys : List Name) → lacking ks (without x ys) ≡ lacking ks ys
lacking_without ks x h [] = refl
lacking_without ks x h (y ∷ ys) = by (lacking_without ks x h ys) (bytes_eq x y) refl
  where
    by : lacking ks (without x ys) ≡ lacking ks ys → (b : Bool) → bytes_eq x y ≡ b → lacking ks (without x (y ∷ ys)) ≡ lacking ks (y ∷ ys)
    by ih true e =
        let there : among y ks ≡ true = subst (λ z. among z ks ≡ true) (same_name x y e) h in
        ap (λ b. lacking ks (if b then without x ys else y ∷ without x ys)) e
        ∙ ih
        ∙ sym (ap (λ b. if b then lacking ks ys else y ∷ lacking ks ys) there)
    by ih false e =
        ap (λ b. lacking ks (if b then without x ys else y ∷ without x ys)) e
        ∙ ap (λ l. if among y ks then l else y ∷ l) ih

lacking_more : (ks : List Name) (x : Name) (ys : List Name) → lacking (ks ++ x ∷ []) ys ≡ lacking ks (without x ys)
lacking_more ks x [] = refl
lacking_more ks x (y ∷ ys) = by (lacking_more ks x ys) (bytes_eq x y) refl
  where
    or_true : (b : Bool) → (b || true) ≡ true
    or_true true = refl
    or_true false = refl

    by : lacking (ks ++ x ∷ []) ys ≡ lacking ks (without x ys) → (b : Bool) → bytes_eq x y ≡ b → lacking (ks ++ x ∷ []) (y ∷ ys) ≡ lacking ks (without x (y ∷ ys))
    by ih true e =
        let there : among y (ks ++ x ∷ []) ≡ true = among_snoc y ks x ∙ ap (λ b. among y ks || b) (eq_sym y x ∙ e) ∙ or_true (among y ks) in
        ap (λ b. if b then lacking (ks ++ x ∷ []) ys else y ∷ lacking (ks ++ x ∷ []) ys) there
        ∙ ih
        ∙ sym (ap (λ b. lacking ks (if b then without x ys else y ∷ without x ys)) e)
    by ih false e =
        let there : among y (ks ++ x ∷ []) ≡ among y ks = among_snoc y ks x ∙ ap (λ b. among y ks || b) (eq_sym y x ∙ e) ∙ or_false (among y ks) in
        ap (λ b. if b then lacking (ks ++ x ∷ []) ys else y ∷ lacking (ks ++ x ∷ []) ys) there
        ∙ ap (λ l. if among y ks then l else y ∷ l) ih
        ∙ sym (ap (λ b. lacking ks (if b then without x ys else y ∷ without x ys)) e)

pub append_none : {A : Type 0} (s : List A) → s ++ [] ≡ s
append_none [] = refl
append_none (b ∷ s) = ap (λ t. b ∷ t) (append_none s)

pub append_more : {A : Type 0} (s : List A) (b : A) (l : List A) → (s ++ b ∷ []) ++ l ≡ s ++ b ∷ l
append_more [] b l = refl
append_more (c ∷ s) b l = ap (λ t. c ∷ t) (append_more s b l)

-- names that are put into a set one after the other
insert_lacking : (ks xs : List Name) → insert_all bytes_eq ks xs ≡ ks ++ lacking ks (once xs)
insert_lacking ks [] = sym (append_none ks)
insert_lacking ks (x ∷ xs) = by (insert_lacking ks xs) (insert_lacking (ks ++ x ∷ []) xs) (among x ks) refl
  where
    by : insert_all bytes_eq ks xs ≡ ks ++ lacking ks (once xs) → insert_all bytes_eq (ks ++ x ∷ []) xs ≡ (ks ++ x ∷ []) ++ lacking (ks ++ x ∷ []) (once xs) → (b : Bool) → among x ks ≡ b
        → insert_all bytes_eq ks (x ∷ xs) ≡ ks ++ lacking ks (once (x ∷ xs))
    by ih more true e =
        ap (λ b. insert_all bytes_eq (if b then ks else ks ++ x ∷ []) xs) e
        ∙ ih
        ∙ ap (λ l. ks ++ l) (sym (lacking_without ks x e (once xs)) ∙ sym (ap (λ b. if b then lacking ks (without x (once xs)) else x ∷ lacking ks (without x (once xs))) e))
    by ih more false e =
        ap (λ b. insert_all bytes_eq (if b then ks else ks ++ x ∷ []) xs) e
        ∙ more
        ∙ append_more ks x (lacking (ks ++ x ∷ []) (once xs))
        ∙ ap (λ l. ks ++ x ∷ l) (lacking_more ks x (once xs))
        ∙ ap (λ l. ks ++ l) (sym (ap (λ b. if b then lacking ks (without x (once xs)) else x ∷ lacking ks (without x (once xs))) e))

lacking_none : (ys : List Name) → lacking [] ys ≡ ys
lacking_none [] = refl
lacking_none (y ∷ ys) = ap (λ l. y ∷ l) (lacking_none ys)

pub insert_once : (xs : List Name) → insert_all bytes_eq [] xs ≡ once xs
insert_once xs = insert_lacking [] xs ∙ lacking_none (once xs)

-- names that are new beside others
and_swap : (a b c d : Bool) → (not (a || b) && (c && not d)) ≡ ((not a && c) && not (b || d))
and_swap true b c d = refl
and_swap false true true d = refl
and_swap false true false d = refl
and_swap false false true d = refl
and_swap false false false d = refl

apart_snoc : (xs ks : List Name) (x : Name) → apart xs (ks ++ x ∷ []) ≡ (apart xs ks && not (among x xs))
apart_snoc [] ks x = refl
apart_snoc (y ∷ ys) ks x =
    ap (λ b. not b && apart ys (ks ++ x ∷ [])) (among_snoc y ks x ∙ ap (λ b. among y ks || b) (eq_sym y x))
    ∙ ap (λ b. not (among y ks || bytes_eq x y) && b) (apart_snoc ys ks x)
    ∙ and_swap (among y ks) (bytes_eq x y) (apart ys ks) (among x ys)

and_turn : (a b c : Bool) → ((not a && b) && (true && c)) ≡ (b && (c && not a))
and_turn true true true = refl
and_turn true true false = refl
and_turn true false c = refl
and_turn false true true = refl
and_turn false true false = refl
and_turn false false c = refl

pub anew_next : (x : Name) (xs ks : List Name) → among x ks ≡ false → (distinct (x ∷ xs) && apart (x ∷ xs) ks) ≡ (distinct xs && apart xs (ks ++ x ∷ []))
anew_next x xs ks e =
    ap (λ b. (not (among x xs) && distinct xs) && (not b && apart xs ks)) e
    ∙ and_turn (among x xs) (distinct xs) (apart xs ks)
    ∙ ap (λ b. distinct xs && b) (sym (apart_snoc xs ks x))

and_false : (a b : Bool) → (a && (false && b)) ≡ false
and_false true b = refl
and_false false b = refl

pub anew_refused : (x : Name) (xs ks : List Name) → among x ks ≡ true → (distinct (x ∷ xs) && apart (x ∷ xs) ks) ≡ false
anew_refused x xs ks e = ap (λ b. distinct (x ∷ xs) && (not b && apart xs ks)) e ∙ and_false (distinct (x ∷ xs)) (apart xs ks)

pub new_keys : (ks : List Name) (k : Name) → among k ks ≡ false → insert_key bytes_eq ks k ≡ ks ++ k ∷ []
new_keys ks k e = ap (λ b. if b then ks else ks ++ k ∷ []) e

or_turn : (a b c : Bool) → (a || (b || (c || false))) ≡ (c || (a || b))
or_turn true true true = refl
or_turn true true false = refl
or_turn true false true = refl
or_turn true false false = refl
or_turn false true true = refl
or_turn false true false = refl
or_turn false false true = refl
or_turn false false false = refl

pub among_turn : (x : Name) (xs ks : List Name) (y : Name) → among x (xs ++ (ks ++ y ∷ [])) ≡ among x ((y ∷ xs) ++ ks)
among_turn x xs ks y =
    list_any-append (bytes_eq x) xs (ks ++ y ∷ [])
    ∙ ap (λ b. among x xs || b) (list_any-append (bytes_eq x) ks (y ∷ []))
    ∙ or_turn (among x xs) (among x ks) (bytes_eq x y)
    ∙ ap (λ b. bytes_eq x y || b) (sym (list_any-append (bytes_eq x) xs ks))

and_true : (b : Bool) → (b && true) ≡ b
and_true true = refl
and_true false = refl

apart_none : (xs : List Name) → apart xs [] ≡ true
apart_none [] = refl
apart_none (x ∷ xs) = apart_none xs

pub distinct_alone : (xs : List Name) → (distinct xs && apart xs []) ≡ distinct xs
distinct_alone xs = ap (λ b. distinct xs && b) (apart_none xs) ∙ and_true (distinct xs)
