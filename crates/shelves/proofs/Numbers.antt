-- Each move keeps every number below the number of nodes that the passes know.
use Rattle.std.proofs.Common.{◌≡◌, ◌≢◌, ℕ, zero, suc, ◌<◌, true, false, All, List, [], ◌∷◌, ◌++◌, length, set, sym, ap, ◌∙◌, subst, ⊎_elim, inr, refl, arith}
use mathlib.Core.Option.{some, some-ne-none}
use lib.ListN.{get_elem?}
use lib.Seq.{take-append_seam, drop-append_seam}
use Rattle.std.proofs.lemmas.List.Elements.{All-append, All-take, All-drop}
use Rattle.crossbeam_deque.specs.Tasks.{Pushes, Takes, Pops, Forks}
use Rattle.crossbeam_deque.proofs.Lists.{at_set, at_snoc}
use Rattle.shelves.specs.declared.known.Known.{Known}
use Rattle.shelves.specs.Numbers.{unset, told, IsBelow, Moved}

abbrev Told : ℕ → List Known → Type 0
Told n views = (port : ℕ) (v : Known) → get_elem? views port ≡ some v → v ≡ told n

some_same : (a b : Known) → some a ≡ some b → a ≡ b
some_same a b e = cc

not_unset : (n : ℕ) → unset ≡ told n → ⊥
not_unset n e = let f : false ≡ true = ap (λ (k : Known). k.told) e in cc

only_unset : (port : ℕ) (v : Known) → get_elem? (unset ∷ []) port ≡ some v → v ≡ unset
only_unset zero v e = sym (some_same unset v e)
only_unset (suc port) v e = absurd (some-ne-none v (sym e))

fits : (items : List ℕ) (views : List Known) (port n : ℕ) (v : Known) → IsBelow items views → get_elem? views port ≡ some v → v ≡ told n → Told n views × All (λ x. x < n) items
fits items views port n v h at is =
    ⊎_elim
    (λ (new : (items ≡ []) × (views ≡ unset ∷ [])). absurd (not_unset n (sym (only_unset port v (subst (λ vs. get_elem? vs port ≡ some v) new.1 at)) ∙ is)))
    (λ (old : (m : ℕ) × Told m views × All (λ x. x < m) items).
    let same : old.0 ≡ n = ap (λ (k : Known). k.nodes) (sym (old.1 port v at) ∙ is) in
    subst (λ m. Told m views × All (λ x. x < m) items) same (old.1, old.2))
    h

stays : (views : List Known) (port n : ℕ) (v : Known) → v ≡ told n → Told n views → Told n (set views port v)
stays views port n v is all j u e = ⊎_elim (λ (x : (j ≡ port) × (v ≡ u)). sym x.1 ∙ is) (λ (x : (j ≢ port) × (get_elem? views j ≡ some u)). all j u x.1) (at_set views port j v u e)

left : (n : ℕ) (xs ys : List ℕ) → All (λ x. x < n) (xs ++ ys) → All (λ x. x < n) xs
left n xs ys h = subst (All (λ x. x < n)) (take-append_seam xs ys) (All-take (λ x. x < n) (length xs) (xs ++ ys) h)

right : (n : ℕ) (xs ys : List ℕ) → All (λ x. x < n) (xs ++ ys) → All (λ x. x < n) ys
right n xs ys h = subst (All (λ x. x < n)) (drop-append_seam xs ys) (All-drop (λ x. x < n) (length xs) (xs ++ ys) h)

nodes_of : (v : Known) (n : ℕ) → v ≡ told n → n ≡ v.nodes
nodes_of v n is = ap (λ (k : Known). k.nodes) (sym is)

pub pushes : (port n : ℕ) (v : Known) (xs : List ℕ) → v ≡ told n → All (λ x. x < n) xs → Pushes IsBelow port v xs (Moved v xs)
pushes port n v xs is new items views h at =
    let f = fits items views port n v h at is in
    (v, inr (n, stays views port n v is f.0, All-append (λ x. x < n) items xs f.1 new), (refl, subst (λ m. All (λ x. x < m) xs) (nodes_of v n is) new))

pub takes : (port n : ℕ) (v : Known) (most : ℕ) → v ≡ told n → Takes IsBelow port v most (Moved v)
takes port n v most is xs items views _ _ h at =
    let f = fits (xs ++ items) views port n v h at is in
    (v, inr (n, stays views port n v is f.0, right n xs items f.1), (refl, subst (λ m. All (λ x. x < m) xs) (nodes_of v n is) (left n xs items f.1)))

pub pops : (port n : ℕ) (v : Known) → v ≡ told n → Pops IsBelow port v (Moved v)
pops port n v is x items views h at =
    let f = fits (items ++ x ∷ []) views port n v h at is in
    (v, inr (n, stays views port n v is f.0, left n items (x ∷ []) f.1), (refl, subst (λ m. All (λ y. y < m) (x ∷ [])) (nodes_of v n is) (right n items (x ∷ []) f.1)))

more : (views : List Known) (n : ℕ) → Told n views → Told n (views ++ told n ∷ [])
more views n all j u e = ⊎_elim (λ (x : get_elem? views j ≡ some u). all j u x) (λ (x : told n ≡ u). sym x) (at_snoc views (told n) u j e)

pub forks_same : (port n : ℕ) (v : Known) → v ≡ told n → Forks IsBelow port v v v
forks_same port n v is items views h at =
    let f = fits items views port n v h at is in
    inr (n, subst (λ w. Told n (set views port v ++ w ∷ [])) (sym is) (more (set views port v) n (stays views port n v is f.0)), f.1)

only_zero : (port : ℕ) (v : Known) → get_elem? (unset ∷ []) port ≡ some v → port ≡ 0
only_zero zero v e = refl
only_zero (suc port) v e = absurd (some-ne-none v (sym e))

-- the first pass learns the number while the deque is new
pub forks_told : (port n : ℕ) (v : Known) → v ≡ unset → Forks IsBelow port v (told n) (told n)
forks_told port n v is items views h at =
    ⊎_elim
    (λ (new : (items ≡ []) × (views ≡ unset ∷ [])).
    let here : port ≡ 0 = only_zero port v (subst (λ vs. get_elem? vs port ≡ some v) new.1 at) in
    let all : Told n (set views port (told n)) = λ j u e.
    ⊎_elim (λ (x : (j ≡ port) × (told n ≡ u)). sym x.1)
    (λ (x : (j ≢ port) × (get_elem? views j ≡ some u)). absurd (x.0 (only_zero j u (subst (λ vs. get_elem? vs j ≡ some u) new.1 x.1) ∙ sym here)))
    (at_set views port j (told n) u e) in
    let none : All (λ x. x < n) items = subst (All (λ x. x < n)) (sym new.0) (λ k d low. absurd (omega arith)) in
    inr (n, more (set views port (told n)) n all, none))
    (λ (old : (m : ℕ) × Told m views × All (λ x. x < m) items). absurd (not_unset old.0 (sym is ∙ old.1 port v at)))
    h
