-- What is read of all tokens of a line, with a limit on the depth, is the tree of their expression.
use Rattle.std.proofs.Common.{◌≡◌, ℕ, ◌<◌, ◌≤◌, List, [], ◌∷◌, Option, Some, None, refl, sym, ap, subst, arith, length, inl, inr, ◌⊎◌}
use Rattle.grammar.specs.declared.parts.Row.TheVariants.{Whole}
use Rattle.lexer.specs.Tokens.{Token}
use Rattle.grammar.specs.Tree.{Expr}
use Rattle.grammar.specs.Depth.{depth}
use Rattle.grammar.specs.Bare.{Tree, bare}
use Rattle.grammar.specs.Reading.{if_last}
use Rattle.grammar.specs.Reading as R
use Rattle.grammar.specs.Descent.{Part, if_all, reads_all}
use Rattle.grammar.specs.Descent as D
use Rattle.grammar.specs.LineExpression.{IsExpression}
use Rattle.grammar.proofs.Capped.{Capped, either_way}
use Rattle.grammar.proofs.Descends.{part_of}
use Rattle.grammar.proofs.Limited.{read_same}
use Rattle.grammar.proofs.Sound.{last_sound}
use Rattle.grammar.proofs.Complete.{is_read_whole}

abbrev Empty : {A : Type 0} → Option A → Type 0
Empty None = Unit {0}
Empty (Some a) = ⊥

pub not_some : {A : Type 0} (a : A) → None ≡ Some a → ⊥
not_some a e = subst Empty e tt

abbrev depth_in : Option Expr → ℕ
depth_in None = 0
depth_in (Some t) = depth t

-- a tree that is read with the limit, beside what is read without it
abbrev Of : Option (Expr × List Token) → Option Tree → Type 0
Of o (Some b) = (t : Expr) × (if_last o ≡ Some t) × (depth t ≤ 200) × (bare t ≡ b)
Of o None = (t : Expr) → if_last o ≡ Some t → depth t ≤ 200 → ⊥

flat_of : (t : Expr) (u : List Token) → depth t ≤ 200 → Of (Some (t, u)) (if_all (Some (part_of t, u)))
flat_of t [] le = (t, refl, le, refl)
flat_of t (x ∷ u) le = λ s e _. not_some s e

deep_of : (t : Expr) (u : List Token) → 200 < depth t → Of (Some (t, u)) None
deep_of t [] lt = λ s e le. let f = ap depth_in e in Prim.omega (arith, f, lt, le)
deep_of t (x ∷ u) lt = λ s e le. not_some s e

some_of : (p : Expr × List Token) (o : Option (Part × List Token)) → Capped depth part_of 200 (Some p) o → (depth p.0 ≤ 200) ⊎ (200 < depth p.0) → Of (Some p) (if_all o)
some_of p o c (inl le) = subst (λ x. Of (Some p) (if_all x)) (sym (c.0 le)) (flat_of p.0 p.1 le)
some_of p o c (inr lt) = subst (λ x. Of (Some p) (if_all x)) (sym (c.1 lt)) (deep_of p.0 p.1 lt)

of : (r : Option (Expr × List Token)) (o : Option (Part × List Token)) → Capped depth part_of 200 r o → Of r (if_all o)
of None o c = subst (λ x. Of None (if_all x)) (sym c) (λ s e le. not_some s e)
of (Some p) o c = some_of p o c (either_way (depth p.0) 200)

spelled_of : (ts : List Token) (o : Option Tree) → Of (R.read (length ts) R.whole ts) o → IsExpression ts o
spelled_of ts (Some b) h = (h.0, last_sound ts h.0 h.1, h.2, h.3)
spelled_of ts None h = λ t s le. h t (is_read_whole ts t s) le

pub is_expression : (ts : List Token) → IsExpression ts (reads_all ts)
unfolding reads_all
is_expression ts = spelled_of ts (reads_all ts) (of (R.read (length ts) R.whole ts) (D.read (length ts) Whole 200 ts) (read_same (length ts) Whole 200 ts))

abbrev some_or : {A : Type 0} → A → Option A → A
some_or a None = a
some_or a (Some b) = b

pub some_same : {A : Type 0} {a b : A} → Some a ≡ Some b → a ≡ b
some_same {a = a} e = ap (some_or a) e
