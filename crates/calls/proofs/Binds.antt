-- Arguments fit parameters where each parameter may get what stands at its place and what was given under its name.
use Rattle.std.proofs.Common.{◌≡◌, ℕ, zero, suc, ◌+◌, ◌<◌, ◌≤◌, Bool, true, false, not, ◌&&◌, if◌then◌else◌, List, [], ◌∷◌, length, drop, map, slice_get, Option, Some, None, Result, Ok, Err, is_some, refl, sym, ap, ◌∙◌, arith}
use Rattle.std.specs.Option.{option_or}
use Rattle.depsets.proofs.Turns.{drop_at}
use Rattle.values.specs.declared.value.Value.{Value}
use Rattle.ticks.specs.declared.ticks.Kind.{Kind}
use Rattle.ticks.specs.declared.ticks.Kind.TheVariants.{Arity}
use Rattle.operations.specs.Arguments.{Given, Parameter, Bound, given_for, filled, put_first, named_or_missing, all_known, bound}
use Rattle.calls.specs.Parameters.{got_from, may_get, may_get_all}

abbrev Fits : Bool → Bound → Result Bound Kind
Fits b os = if b then Ok os else Err Arity

put_both : (b : Bool) (os : Bound) (o : Option Value) → put_first o (Fits b os) ≡ Fits b (o ∷ os)
put_both true os o = refl
put_both false os o = refl

placed : (n : Bool) (v : Value) (o : Option Value) (r : Result Bound Kind) (b : Bool) (os : Bound) → r ≡ Fits b os
    → (if n then Err Arity else if is_some o then Err Arity else put_first (Some v) r) ≡ Fits ((not n && not (is_some o)) && b) (Some v ∷ os)
placed true v o r b os e = refl
placed false v (Some w) r b os e = refl
placed false v None r b os e = ap (put_first (Some v)) e ∙ put_both b os (Some v)

missed : (m : Bool) (r : Result Bound Kind) (b : Bool) (os : Bound) → r ≡ Fits b os → (if m then put_first None r else Err Arity) ≡ Fits (m && b) (None ∷ os)
missed true r b os e = ap (put_first None) e ∙ put_both b os None
missed false r b os e = refl

left : (p : Parameter) (o : Option Value) (r : Result Bound Kind) (b : Bool) (os : Bound) → r ≡ Fits b os
    → named_or_missing p o r ≡ Fits (may_get p None o && b) (option_or None o ∷ os)
left p (Some v) r b os e = ap (put_first (Some v)) e ∙ put_both b os (Some v)
left p None r b os e = missed p.may_miss r b os e

none_left : {A : Type 0} (xs : List A) (i : ℕ) → slice_get xs i ≡ None → drop i xs ≡ []
none_left [] zero e = refl
none_left [] (suc i) e = refl
none_left (x ∷ xs) zero e = absurd (cc)
none_left (x ∷ xs) (suc i) e = none_left xs i e

drop_none : {A : Type 0} (i : ℕ) → drop {A = A} i [] ≡ []
drop_none zero = refl
drop_none (suc i) = refl

none_next : {A : Type 0} (xs : List A) (i : ℕ) → drop i xs ≡ [] → drop (i + 1) xs ≡ []
none_next [] i e = drop_none (i + 1)
none_next (x ∷ xs) zero e = absurd (cc)
none_next (x ∷ xs) (suc i) e = let n : suc i + 1 ≡ suc (i + 1) = omega arith in ap (λ k. drop k (x ∷ xs)) n ∙ none_next xs i e

pub as_long : {A B : Type 0} (f : A → B) (xs : List A) → length (map f xs) ≡ length xs
as_long f [] = refl
as_long f (x ∷ xs) = let h = as_long f xs in omega (arith, h)

module _ (g : Given) where
  abbrev named : List ℕ → Option Value
  named x = given_for x g.names g.values

  next : (p : Parameter) (ps : List Parameter) (i : ℕ) (o : Option Value) → slice_get g.items i ≡ o
      → filled ps (drop (i + 1) g.items) named ≡ Fits (may_get_all (i + 1) ps g) (got_from (i + 1) ps g)
      → filled (p ∷ ps) (drop i g.items) named ≡ Fits (may_get p o (named p.name) && may_get_all (i + 1) ps g) (option_or o (named p.name) ∷ got_from (i + 1) ps g)
  next p ps i None e h =
      let d : drop i g.items ≡ [] = none_left g.items i e in
      let f : filled ps [] named ≡ Fits (may_get_all (i + 1) ps g) (got_from (i + 1) ps g) = ap (λ l. filled ps l named) (sym (none_next g.items i d)) ∙ h in
      ap (λ l. filled (p ∷ ps) l named) d ∙ left p (named p.name) (filled ps [] named) (may_get_all (i + 1) ps g) (got_from (i + 1) ps g) f
  next p ps i (Some v) e h =
      ap (λ l. filled (p ∷ ps) l named) (drop_at g.items i v e)
      ∙ placed p.by_name v (named p.name) (filled ps (drop (i + 1) g.items) named) (may_get_all (i + 1) ps g) (got_from (i + 1) ps g) h

  over : (i : ℕ) (vs : List Value) → length vs ≤ i → drop i vs ≡ []
  over zero [] l = refl
  over (suc i) [] l = refl
  over zero (v ∷ vs) l = absurd (omega (arith, l))
  over (suc i) (v ∷ vs) l = over i vs (omega (arith, l))

  pub fits_from : (ps : List Parameter) (i : ℕ) → length g.items ≤ i + length ps
      → filled ps (drop i g.items) named ≡ Fits (may_get_all i ps g) (got_from i ps g)
  fits_from [] i l = ap (λ vs. filled [] vs named) (over i g.items (omega (arith, l)))
  fits_from (p ∷ ps) i l = next p ps i (slice_get g.items i) refl (fits_from ps (i + 1) (omega (arith, l)))

  err_if : (b c : Bool) (v : Value) (r : Result Bound Kind) → r ≡ Err Arity → (if b then Err Arity else if c then Err Arity else put_first (Some v) r) ≡ Err Arity
  err_if true c v r e = refl
  err_if false true v r e = refl
  err_if false false v r e = ap (put_first (Some v)) e

  pub too_many : (ps : List Parameter) (vs : List Value) → length ps < length vs → filled ps vs named ≡ Err Arity
  too_many [] [] l = absurd (omega (arith, l))
  too_many [] (v ∷ vs) l = refl
  too_many (p ∷ ps) [] l = absurd (omega (arith, l))
  too_many (p ∷ ps) (v ∷ vs) l = err_if p.by_name (is_some (named p.name)) v (filled ps vs named) (too_many ps vs (omega (arith, l)))

  abbrev If : Bool → Result Bound Kind → Result Bound Kind
  If b r = if b then r else Err Arity

  pub unknown : (ps : List Parameter) → false ≡ all_known ps g.names → bound ps g ≡ Err Arity
  unknown ps e = ap (λ b. If b (filled ps g.items named)) (sym e)

  pub excess : (ps : List Parameter) → true ≡ all_known ps g.names → length ps < length g.items → bound ps g ≡ Err Arity
  excess ps e l = ap (λ b. If b (filled ps g.items named)) (sym e) ∙ too_many ps g.items l

  pub decided : (ps : List Parameter) (b : Bool) → true ≡ all_known ps g.names → length g.items ≤ length ps → b ≡ may_get_all 0 ps g → bound ps g ≡ Fits b (got_from 0 ps g)
  decided ps b e l m = ap (λ b. If b (filled ps g.items named)) (sym e) ∙ fits_from ps 0 (omega (arith, l)) ∙ ap (λ b. Fits b (got_from 0 ps g)) (sym m)
