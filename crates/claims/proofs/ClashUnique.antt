-- At most one list of conflicts meets the law.
use Rattle.std.proofs.Common.{◌≡◌, inl, inr, ℕ, true, List, [], ◌∷◌, map, refl, sym, ◌∙◌, subst}
use Rattle.std.proofs.lemmas.Cmp.{tied_itself, nat_list_cmp_total}
use Rattle.std.specs.declared.cmp.Ordering.TheVariants.{Less}
use Rattle.std.specs.Ordering.{nat_cmp}
use Rattle.std.specs.Cmp.Lexicographic.{slice_cmp}
use Rattle.depsets.specs.Own.{Own}
use Rattle.depsets.specs.Rose.{Rose}
use Rattle.depsets.specs.declared.element.Element.{Element}
use Rattle.actions.specs.Ascending.{Each, AreAscending}
use Rattle.claims.specs.Clashes.{IsAmong, clashes, owners, AreConflicts}
use Rattle.claims.specs.Owned.{Owned}
use Rattle.claims.specs.declared.clashes.Conflict.{Conflict}

abbrev Path : Type 0
Path = List ℕ

abbrev Below : Path → Path → Type 0
Below p q = slice_cmp nat_cmp p q ≡ Less

abbrev paths : List Conflict → List Path
paths cs = map (λ c. c.path) cs

-- no path is below itself
irreflexive : (p : Path) → Below p p → ⊥
irreflexive p l = absurd (let e = sym l ∙ tied_itself nat_list_cmp_total p in cc)

below-all : (p : Path) (c : Conflict) (ds : List Conflict) → Each (λ q. Below p q) (paths ds) → IsAmong c ds → Below p c.path
below-all p c [] h a = absurd a
below-all p c (d ∷ ds) h (inl e) = subst (λ x. Below p x.path) (sym e) h.0
below-all p c (d ∷ ds) h (inr a) = below-all p c ds h.1 a

-- the first of both is one
first : (c d : Conflict) (cs ds : List Conflict) → Each (λ q. Below c.path q) (paths cs) → Each (λ q. Below d.path q) (paths ds)
    → IsAmong c (d ∷ ds) → IsAmong d (c ∷ cs) → c ≡ d
first c d cs ds g h (inl e) b = e
first c d cs ds g h (inr a) (inl e) = sym e
first c d cs ds g h (inr a) (inr b) =
    absurd (irreflexive c.path (nat_list_cmp_total.trans c.path d.path c.path (below-all c.path d cs g b) (below-all d.path c ds h a)))

-- what is among the later ones of one list is among those of the other
later : (c x d : Conflict) (ds : List Conflict) → c ≡ d → Below c.path x.path → IsAmong x (d ∷ ds) → IsAmong x ds
later c x d ds e l (inl f) = absurd (irreflexive c.path (subst (λ y. Below c.path y.path) (f ∙ sym e) l))
later c x d ds e l (inr a) = a

all-later : (c d : Conflict) (ds : List Conflict) → c ≡ d → (xs : List Conflict) → Each (λ q. Below c.path q) (paths xs) → Each (λ x. IsAmong x (d ∷ ds)) xs
    → Each (λ x. IsAmong x ds) xs
all-later c d ds e [] g h = tt
all-later c d ds e (x ∷ xs) g h = (later c x d ds e g.0 h.0, all-later c d ds e xs g.1 h.1)

same-lists : (cs ds : List Conflict) → AreAscending (paths cs) → AreAscending (paths ds) → Each (λ c. IsAmong c ds) cs → Each (λ d. IsAmong d cs) ds → cs ≡ ds
same-lists [] [] g h a b = refl
same-lists [] (d ∷ ds) g h a b = absurd b.0
same-lists (c ∷ cs) [] g h a b = absurd a.0
same-lists (c ∷ cs) (d ∷ ds) g h a b =
    let e = first c d cs ds g.0 h.0 a.0 b.0 in
    let rest = same-lists cs ds g.1 h.1 (all-later c d ds e cs g.0 a.1) (all-later d c cs (sym e) ds h.0 b.1) in
    λ j. e j ∷ rest j

module _ (listing : Rose Own → List Element) where
  each-among : (os : List Owned) (cs ds : List Conflict) → AreConflicts listing os ds → Each (λ c. (clashes listing c.path os ≡ true) × (c.labels ≡ owners c.path os)) cs
      → Each (λ c. IsAmong c ds) cs
  each-among os [] ds h k = tt
  each-among os (c ∷ cs) ds h k =
      (subst (λ ls. IsAmong (record { path = c.path; labels = ls }) ds) (sym k.0.1) (h.all c.path k.0.0), each-among os cs ds h k.1)

  pub law-unique : (os : List Owned) (cs ds : List Conflict) → AreConflicts listing os cs → AreConflicts listing os ds → cs ≡ ds
  law-unique os cs ds g h = same-lists cs ds g.ordered h.ordered (each-among os cs ds h g.only) (each-among os ds cs g h.only)
