-- Tests that are true or false, of one thing and of a list.
use Rattle.std.proofs.Common.{◌≡◌, suc, ◌⊎◌, inl, inr, Bool, true, false, not, ◌||◌, ◌&&◌, List, [], ◌∷◌, map, Contains, sym, ◌∙◌, subst, arith, refl, true≢false}
use Rattle.std.specs.List.{list_any, AllByRecursion}
use Rattle.std.proofs.lemmas.List.Folds.{list_any_at}

pub cases_of : (b : Bool) → (b ≡ true) ⊎ (b ≡ false)
cases_of true = inl refl
cases_of false = inr refl

pub not_both : {P : Type 0} (b : Bool) → b ≡ true → b ≡ false → P
not_both b holds fails = absurd (true≢false (sym holds ∙ fails))

pub isnt : (b : Bool) → (b ≡ true → ⊥) → b ≡ false
isnt true never = absurd (never refl)
isnt false never = refl

pub neither : (a b : Bool) → (a || b) ≡ false → (a ≡ false) × (b ≡ false)
neither true b n = absurd (true≢false n)
neither false b n = (refl, n)

pub either : (a b : Bool) → (a || b) ≡ true → (a ≡ true) ⊎ (b ≡ true)
either true b h = inl refl
either false b h = inr h

pub or_left : (a b : Bool) → a ≡ true → (a || b) ≡ true
or_left true b h = refl
or_left false b h = absurd (true≢false (sym h))

pub or_right : (a b : Bool) → b ≡ true → (a || b) ≡ true
or_right true b h = refl
or_right false b h = h

pub or_none : (b : Bool) → (b || false) ≡ b
or_none true = refl
or_none false = refl

pub both_and : (a b : Bool) → (a && b) ≡ true → (a ≡ true) × (b ≡ true)
both_and true b h = (refl, h)
both_and false b h = absurd (true≢false (sym h))

pub and_both : (a b : Bool) → a ≡ true → b ≡ true → (a && b) ≡ true
and_both true b h k = k
and_both false b h k = absurd (true≢false (sym h))

pub and_none : (a : Bool) → (a && false) ≡ false
and_none true = refl
and_none false = refl

pub not-true : (b : Bool) → not b ≡ false → b ≡ true
not-true true h = refl
not-true false h = absurd (true≢false h)

pub not-false : (b : Bool) → not b ≡ true → b ≡ false
not-false true h = absurd (true≢false (sym h))
not-false false h = refl

-- ---- of a list

pub Contains-head : {X : Type 0} (x : X) (xs : List X) → Contains (x ∷ xs) x
Contains-head x xs = (0, omega arith, refl)

pub Contains-later : {X : Type 0} (y : X) (xs : List X) (x : X) → Contains xs x → Contains (y ∷ xs) x
Contains-later y xs x has = (suc has.0, omega (arith, has.1), has.2)

-- an element that passes
pub any_of : {X : Type 0} (p : X → Bool) (xs : List X) → list_any p xs ≡ true → (x : X) × Contains xs x × (p x ≡ true)
any_of p [] holds = absurd (true≢false (sym holds))
any_of p (x ∷ xs) holds = elim (cases_of (p x)) [
  | inl here ↦ (x, Contains-head x xs, here)
  | inr not ↦
      let rest : list_any p xs ≡ true = rw not at holds in
      let later = any_of p xs rest in
      (later.0, Contains-later x xs later.0 later.1, later.2)
]

pub any_in : {X : Type 0} (p : X → Bool) (xs : List X) (x : X) → Contains xs x → p x ≡ true → list_any p xs ≡ true
any_in p xs x has holds = list_any_at p xs has.0 x has.1 (subst (λ y. p y ≡ true) (sym has.2) holds)

pub none_any : {X : Type 0} (p : X → Bool) (xs : List X) → list_any p xs ≡ false → AllByRecursion (λ x. p x ≡ false) xs
none_any p [] fails = tt
none_any p (x ∷ xs) fails = let apart = neither (p x) (list_any p xs) fails in (apart.0, none_any p xs apart.1)

pub map_same : {X Y : Type 0} (f g : X → Y) (xs : List X) → ((x : X) → Contains xs x → f x ≡ g x) → map f xs ≡ map g xs
map_same f g [] same = refl
map_same f g (x ∷ xs) same =
    let here : f x ≡ g x = same x (Contains-head x xs) in
    let later : map f xs ≡ map g xs = map_same f g xs (λ y has. same y (Contains-later x xs y has)) in
    cc
