-- A list put into the order of its items' texts, each text once.
use Rattle.std.proofs.Common.{◌≡◌, ◌∙◌, ◌⊎◌, ℕ, zero, suc, ◌+◌, false, List, [], ◌∷◌, map, get_or, ap, sym, refl, subst, arith, inl, inr, Contains, true≢false}
use Rattle.std.specs.List.{IsDistinct, AllByRecursion}
use Rattle.std.specs.List.Sorted.{IsSorted, IsPermutation}
use Rattle.std.specs.Cmp.Lexicographic.{slice_cmp}
use Rattle.std.specs.Ordering.{nat_cmp, is_eq, is_lt, ordering_reverse}
use Rattle.std.specs.Str.{bytes_eq}
use Rattle.std.specs.declared.cmp.Ordering.{Ordering}
use Rattle.std.specs.declared.cmp.Ordering.TheVariants.{Less, Equal, Greater}
use Rattle.std.proofs.lemmas.Cmp.{nat_list_cmp_total}
use Rattle.std.proofs.lemmas.Map.Text.{is_eq-slice_cmp}
use Rattle.std.proofs.lemmas.Map.Keys.{IsDistinct-head, IsDistinct-tail, IsDistinct-cons}
use Rattle.std.proofs.lemmas.Slice.Eq.{bytes_eq-Decides}
use Rattle.std.proofs.lemmas.List.Sorted.{IsPermutation-refl, IsPermutation-trans, IsPermutation-sym, IsPermutation-cons, IsPermutation-middle}
use Rattle.actions.specs.Ascending.{AreAscending, Each}
use Rattle.actions.proofs.Ascending.{head_in, tail_in}
use Rattle.answers.proofs.Enumerated.{in_cases, none_in}

abbrev compare : List ℕ → List ℕ → Ordering
compare = slice_cmp nat_cmp

turned : (x y : List ℕ) → compare x y ≡ Greater → compare y x ≡ Less
turned x y e = nat_list_cmp_total.antisymm y x ∙ ap ordering_reverse e

tied : (x y : List ℕ) → compare x y ≡ Equal → x ≡ y
tied x y e = (bytes_eq-Decides x y).0 (sym (is_eq-slice_cmp x y) ∙ ap is_eq e)

-- an ordering is one of three
three : {P : Type 0} (r : Ordering) → (r ≡ Less → P) → (r ≡ Equal → P) → (r ≡ Greater → P) → P
three Less f g h = f refl
three Equal f g h = g refl
three Greater f g h = h refl

module _ {A : Type 0} (key : A → List ℕ) where
  -- x before others, in the place of one of its text, or behind the first of them
  abbrev placed : Ordering → A → A → List A → List A → List A
  placed Less x y ys rest = x ∷ y ∷ ys
  placed Equal x y ys rest = y ∷ ys
  placed Greater x y ys rest = y ∷ rest

  abbrev put : A → List A → List A
  put x [] = x ∷ []
  put x (y ∷ ys) = placed (compare (key x) (key y)) x y ys (put x ys)

  abbrev pub in_order : List A → List A
  in_order [] = []
  in_order (x ∷ xs) = put x (in_order xs)

  -- ---- which items it has

  from_placed : (r : Ordering) (x y z : A) (ys rest : List A) → (Contains rest z → (x ≡ z) ⊎ Contains ys z)
      → Contains (placed r x y ys rest) z → (x ≡ z) ⊎ Contains (y ∷ ys) z
  from_placed Less x y z ys rest of h = in_cases x (y ∷ ys) z h
  from_placed Equal x y z ys rest of h = inr h
  from_placed Greater x y z ys rest of h = elim (in_cases y rest z h) [
    | inl is ↦ inr (subst (Contains (y ∷ ys)) is (head_in y ys))
    | inr later ↦ elim (of later) [ inl is ↦ inl is | inr there ↦ inr (tail_in y ys z there) ]
  ]

  from_put : (x : A) (ys : List A) (z : A) → Contains (put x ys) z → (x ≡ z) ⊎ Contains ys z
  from_put x [] z h = in_cases x [] z h
  from_put x (y ∷ ys) z h = from_placed (compare (key x) (key y)) x y z ys (put x ys) (from_put x ys z) h

  pub from_order : (xs : List A) (z : A) → Contains (in_order xs) z → Contains xs z
  from_order [] z h = h
  from_order (x ∷ xs) z h = elim (from_put x (in_order xs) z h) [
    | inl is ↦ subst (Contains (x ∷ xs)) is (head_in x xs)
    | inr there ↦ tail_in x xs z (from_order xs z there)
  ]

  into_placed : (r : Ordering) (x y z : A) (ys rest : List A) → (Contains ys z → Contains rest z) → Contains (y ∷ ys) z → Contains (placed r x y ys rest) z
  into_placed Less x y z ys rest of h = tail_in x (y ∷ ys) z h
  into_placed Equal x y z ys rest of h = h
  into_placed Greater x y z ys rest of h = elim (in_cases y ys z h) [
    | inl is ↦ subst (Contains (y ∷ rest)) is (head_in y rest)
    | inr there ↦ tail_in y rest z (of there)
  ]

  into_put : (x : A) (ys : List A) (z : A) → Contains ys z → Contains (put x ys) z
  into_put x [] z h = none_in z h
  into_put x (y ∷ ys) z h = into_placed (compare (key x) (key y)) x y z ys (put x ys) (into_put x ys z) h

  own_placed : (r : Ordering) (x y : A) (ys rest : List A) → compare (key x) (key y) ≡ r → (key x ≡ key y → x ≡ y) → Contains rest x
      → Contains (placed r x y ys rest) x
  own_placed Less x y ys rest e one there = head_in x (y ∷ ys)
  own_placed Equal x y ys rest e one there =
      subst (Contains (y ∷ ys)) (sym (one (tied (key x) (key y) e))) (head_in y ys)
  own_placed Greater x y ys rest e one there = tail_in y rest x there

  own_put : (x : A) (ys : List A) → ((y : A) → Contains ys y → key x ≡ key y → x ≡ y) → Contains (put x ys) x
  own_put x [] one = head_in x []
  own_put x (y ∷ ys) one =
      own_placed (compare (key x) (key y)) x y ys (put x ys) refl (one y (head_in y ys)) (own_put x ys (λ z h. one z (tail_in y ys z h)))

  -- items of one text are the same item
  abbrev pub AreTold : List A → Type 0
  AreTold xs = (a b : A) → Contains xs a → Contains xs b → key a ≡ key b → a ≡ b

  pub into_order : (xs : List A) → AreTold xs → (z : A) → Contains xs z → Contains (in_order xs) z
  into_order [] one z h = h
  into_order (x ∷ xs) one z h = elim (in_cases x xs z h) [
    | inl is ↦
        subst (Contains (put x (in_order xs))) is
        (own_put x (in_order xs) (λ y there. one x y (head_in x xs) (tail_in x xs y (from_order xs y there))))
    | inr there ↦
        into_put x (in_order xs) z (into_order xs (λ a b p q. one a b (tail_in x xs a p) (tail_in x xs b q)) z there)
  ]

  -- ---- its order

  abbrev Before : A → List A → Type 0
  Before x xs = Each (λ y. compare (key x) y ≡ Less) (map key xs)

  further : (x y : A) (ys : List A) → compare (key x) (key y) ≡ Less → Before y ys → Before x ys
  further x y [] e b = tt
  further x y (z ∷ zs) e b = (nat_list_cmp_total.trans (key x) (key y) (key z) e b.0, further x y zs e b.1)

  before_placed : (r : Ordering) (w x y : A) (ys rest : List A) → compare (key w) (key x) ≡ Less → compare (key w) (key y) ≡ Less → Before w ys → Before w rest
      → Before w (placed r x y ys rest)
  before_placed Less w x y ys rest e f b c = (e, (f, b))
  before_placed Equal w x y ys rest e f b c = (f, b)
  before_placed Greater w x y ys rest e f b c = (f, c)

  before_put : (w x : A) (ys : List A) → compare (key w) (key x) ≡ Less → Before w ys → Before w (put x ys)
  before_put w x [] e b = (e, tt)
  before_put w x (y ∷ ys) e b = before_placed (compare (key x) (key y)) w x y ys (put x ys) e b.0 b.1 (before_put w x ys e b.1)

  placed_ascends : (r : Ordering) (x y : A) (ys rest : List A) → compare (key x) (key y) ≡ r → AreAscending (map key (y ∷ ys))
      → (compare (key y) (key x) ≡ Less → Before y rest) → AreAscending (map key rest) → AreAscending (map key (placed r x y ys rest))
  placed_ascends Less x y ys rest e up low high = ((e, further x y ys e up.0), up)
  placed_ascends Equal x y ys rest e up low high = up
  placed_ascends Greater x y ys rest e up low high = (low (turned (key x) (key y) e), high)

  put_ascends : (x : A) (ys : List A) → AreAscending (map key ys) → AreAscending (map key (put x ys))
  put_ascends x [] up = (tt, tt)
  put_ascends x (y ∷ ys) up =
      placed_ascends (compare (key x) (key y)) x y ys (put x ys) refl up (λ e. before_put y x ys e up.0) (put_ascends x ys up.1)

  pub order_ascends : (xs : List A) → AreAscending (map key (in_order xs))
  order_ascends [] = tt
  order_ascends (x ∷ xs) = put_ascends x (in_order xs) (order_ascends xs)

  -- ---- where no two have one text: the same items, in order

  -- no item has this text
  abbrev IsApart : A → List A → Type 0
  IsApart x ys = (y : A) → Contains ys y → key x ≡ key y → ⊥

  placed_moved : (r : Ordering) (x y : A) (ys rest : List A) → compare (key x) (key y) ≡ r → (key x ≡ key y → ⊥) → IsPermutation (x ∷ ys) rest
      → IsPermutation (x ∷ y ∷ ys) (placed r x y ys rest)
  placed_moved Less x y ys rest e apart moved = IsPermutation-refl (x ∷ y ∷ ys)
  placed_moved Equal x y ys rest e apart moved = absurd (apart (tied (key x) (key y) e))
  placed_moved Greater x y ys rest e apart moved =
      IsPermutation-trans (x ∷ y ∷ ys) (y ∷ x ∷ ys) (y ∷ rest)
      (IsPermutation-sym (y ∷ x ∷ ys) (x ∷ y ∷ ys) (IsPermutation-middle (y ∷ []) x ys)) (IsPermutation-cons y (x ∷ ys) rest moved)

  put_moved : (x : A) (ys : List A) → IsApart x ys → IsPermutation (x ∷ ys) (put x ys)
  put_moved x [] apart = IsPermutation-refl (x ∷ [])
  put_moved x (y ∷ ys) apart =
      placed_moved (compare (key x) (key y)) x y ys (put x ys) refl (apart y (head_in y ys)) (put_moved x ys (λ z h. apart z (tail_in y ys z h)))

  apart_of : (x : A) (ys : List A) → AllByRecursion (λ t. bytes_eq (key x) t ≡ false) (map key ys) → IsApart x ys
  apart_of x [] all z h e = none_in z h
  apart_of x (y ∷ ys) all z h e = elim (in_cases y ys z h) [
    | inl is ↦ absurd (true≢false (sym ((bytes_eq-Decides (key x) (key y)).1 (e ∙ ap key (sym is))) ∙ all.0))
    | inr there ↦ apart_of x ys all.1 z there e
  ]

  pub order_moved : (xs : List A) → IsDistinct bytes_eq (map key xs) → IsPermutation xs (in_order xs)
  order_moved [] d = IsPermutation-refl []
  order_moved (x ∷ xs) d =
      let apart = apart_of x xs (IsDistinct-head bytes_eq (key x) (map key xs) d) in
      IsPermutation-trans (x ∷ xs) (x ∷ in_order xs) (put x (in_order xs))
      (IsPermutation-cons x xs (in_order xs) (order_moved xs (IsDistinct-tail bytes_eq (key x) (map key xs) d)))
      (put_moved x (in_order xs) (λ y h. apart y (from_order xs y h)))

-- ---- texts that ascend are sorted, and no two are the same

not_before : (x y : List ℕ) → compare x y ≡ Less → is_lt (compare y x) ≡ false
not_before x y e = ap is_lt (nat_list_cmp_total.antisymm y x ∙ ap ordering_reverse e)

pub ascending_sorted : (xs : List (List ℕ)) → AreAscending xs → IsSorted compare xs
ascending_sorted [] up k d low high = absurd (omega (arith, high))
ascending_sorted (x ∷ []) up k d low high = absurd (omega (arith, high))
ascending_sorted (x ∷ y ∷ ys) up zero d low high = not_before x y up.0.0
ascending_sorted (x ∷ y ∷ ys) up (suc k) d low high =
    let next : suc (k + 1) ≡ suc k + 1 = omega arith in
    subst (λ (n : ℕ). is_lt (compare (get_or (x ∷ y ∷ ys) n d) (get_or (y ∷ ys) k d)) ≡ false) next
    (ascending_sorted (y ∷ ys) up.1 k d (omega arith) (omega (arith, high)))

apart_texts : (x : List ℕ) (ys : List (List ℕ)) → Each (λ y. compare x y ≡ Less) ys → AllByRecursion (λ y. bytes_eq x y ≡ false) ys
apart_texts x [] each = tt
apart_texts x (y ∷ ys) each = (sym (is_eq-slice_cmp x y) ∙ ap is_eq each.0, apart_texts x ys each.1)

pub ascending_distinct : (xs : List (List ℕ)) → AreAscending xs → IsDistinct bytes_eq xs
unfolding IsDistinct
ascending_distinct [] up = tt
ascending_distinct (x ∷ xs) up = IsDistinct-cons bytes_eq x xs (apart_texts x xs up.0) (ascending_distinct xs up.1)
