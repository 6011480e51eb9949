-- What parameters get, one after the other.
use Rattle.std.proofs.Common.{◌≡◌, ◌∙◌, ℕ, zero, suc, ◌+◌, ◌-◌, ◌<◌, ◌≤◌, List, [], ◌∷◌, ◌++◌, ap, refl, sym, length, drop, get_or, append_assoc, append-nil, drop-cons, arith}
use Rattle.std.specs.Prelude.{Bool, true, false, ◌||◌, Option, Some, None, MatchOption, slice_get, bytes_eq, if◌then◌else◌, replicate, map, cond}
use Rattle.std.specs.Map.{lookup}
use Rattle.program_tree.specs.Names.{Name}
use Rattle.meaning.specs.Outcome.{Slots}
use Rattle.meaning.specs.Entry.{before_all, defaults_of, filled, is_named}
use Rattle.call_stack.specs.Filled.{behind, default_at, got, unless}

module _ {V : Type 0} where
  abbrev pub first : List V → Option V
  first [] = None
  first (v ∷ vs) = Some v

  abbrev pub others : List V → List V
  others [] = []
  others (v ∷ vs) = vs

  -- a value by name is found where the name is
  named_found : (p : Name) (named : List (Name × V)) (v : V) (rest : Option (Slots V)) →
      (if is_named p named then None else before_all (Some v) rest) ≡ before_all (unless (lookup (bytes_eq p) named) v) rest
  named_found p [] v rest = refl
  named_found p (n ∷ named) v rest = by (bytes_eq p n.0) (named_found p named v rest)
    where
      by : (b : Bool) → (if is_named p named then None else before_all (Some v) rest) ≡ before_all (unless (lookup (bytes_eq p) named) v) rest →
          (if b || is_named p named then None else before_all (Some v) rest) ≡ before_all (unless (cond b (Some n.1) (lookup (bytes_eq p) named)) v) rest
      by true h = refl
      by false h = h

  -- the first parameter, and the others
  pub filled_one : (p : Name) (ps : List Name) (vs : List V) (named : List (Name × V)) (d : Option V) (ds : List (Option V)) →
      filled (p ∷ ps) vs named (d ∷ ds) ≡ before_all (got p (first vs) named d) (filled ps (others vs) named ds)
  filled_one p ps [] named d ds = refl
  filled_one p ps (v ∷ vs) named d ds = named_found p named v (filled ps vs named ds)

  before_behind : (l : Slots V) (v : V) (rest : Option (Slots V)) → behind l (before_all (Some v) rest) ≡ behind (l ++ Some v ∷ []) rest
  before_behind l v None = refl
  before_behind l v (Some r) = ap Some (sym (append_assoc l (Some v ∷ []) r))

  pub fill_on : (l : Slots V) (p : Name) (ps : List Name) (vs : List V) (named : List (Name × V)) (d : Option V) (ds : List (Option V)) (v : V) →
      got p (first vs) named d ≡ Some v →
      behind l (filled (p ∷ ps) vs named (d ∷ ds)) ≡ behind (l ++ Some v ∷ []) (filled ps (others vs) named ds)
  fill_on l p ps vs named d ds v e =
      ap (behind l) (filled_one p ps vs named d ds ∙ ap (λ o. before_all o (filled ps (others vs) named ds)) e) ∙ before_behind l v (filled ps (others vs) named ds)

  pub fill_stops : (l : Slots V) (p : Name) (ps : List Name) (vs : List V) (named : List (Name × V)) (d : Option V) (ds : List (Option V)) →
      got p (first vs) named d ≡ None → behind l (filled (p ∷ ps) vs named (d ∷ ds)) ≡ None
  fill_stops l p ps vs named d ds e =
      ap (behind l) (filled_one p ps vs named d ds ∙ ap (λ o. before_all o (filled ps (others vs) named ds)) e)

  pub fill_ends : (l : Slots V) (vs : List V) (named : List (Name × V)) (ds : List (Option V)) → length vs ≤ 0 →
      behind l (filled [] vs named ds) ≡ Some l
  fill_ends l [] named ds h = ap Some (append-nil l)
  fill_ends l (v ∷ vs) named ds h = absurd (omega (arith, h))

  pub fill_spills : (l : Slots V) (vs : List V) (named : List (Name × V)) (ds : List (Option V)) → 0 < length vs →
      behind l (filled [] vs named ds) ≡ None
  fill_spills l [] named ds h = absurd (omega (arith, h))
  fill_spills l (v ∷ vs) named ds h = refl

  -- the default of a parameter stands at its place
  at_default : (n i : ℕ) (ds : List V) → i < n + length ds →
      drop i (replicate n None ++ map Some ds) ≡ default_at n i ds ∷ drop (suc i) (replicate n None ++ map Some ds)
  at_default zero i [] h = absurd (omega (arith, h))
  at_default zero zero (d ∷ ds) h = refl
  at_default zero (suc i) (d ∷ ds) h = at_default zero i ds (omega (arith, h))
  at_default (suc n) zero ds h = refl
  at_default (suc n) (suc i) ds h = at_default n i ds (omega (arith, h))

  pub default_stands : (params : List Name) (ds : List V) (i n : ℕ) → i < length params → n ≡ length params - length ds →
      drop i (defaults_of params ds) ≡ default_at n i ds ∷ drop (suc i) (defaults_of params ds)
  default_stands params ds i n h e =
      let r = at_default n i ds (omega (arith, h, e)) in
      rw (← e) r

  pub default_none : (n i : ℕ) (ds : List V) → i < n → default_at n i ds ≡ None
  default_none zero i ds h = absurd (omega (arith, h))
  default_none (suc n) zero ds h = refl
  default_none (suc n) (suc i) ds h = default_none n i ds (omega (arith, h))

  pub default_some : (n i : ℕ) (ds : List V) → n ≤ i → default_at n i ds ≡ slice_get ds (i - n)
  default_some zero i ds h = let e : i ≡ i - 0 = omega arith in ap (slice_get ds) e
  default_some (suc n) zero ds h = absurd (omega (arith, h))
  default_some (suc n) (suc i) ds h =
      let e : i - n ≡ suc i - suc n = omega arith in default_some n i ds (omega (arith, h)) ∙ ap (slice_get ds) e

  -- so many slots more, one after the other
  pub pad_on : (l : Slots V) (n k : ℕ) → k < n → (l ++ None ∷ []) ++ replicate (n - (k + 1)) None ≡ l ++ replicate (n - k) None
  pad_on l n k h =
      let e : suc (n - (k + 1)) ≡ n - k = omega (arith, h) in
      append_assoc l (None ∷ []) (replicate (n - (k + 1)) None) ∙ ap (λ m. l ++ replicate m None) e

  -- the value that was on the top
  first_is : (o : Option V) (vs us : List V) → MatchOption o ((vs ≡ []) × (us ≡ [])) (λ v. vs ≡ v ∷ us) → (first vs ≡ o) × (others vs ≡ us)
  first_is None vs us h = (ap first h.0, ap others h.0 ∙ sym h.1)
  first_is (Some v) vs us h = (ap first h, ap others h)

  module _ (params : List Name) (ds : List V) (i n : ℕ) (l : Slots V) (vs us : List V) (named : List (Name × V)) (p : Name) (o : Option V)
      (h : i < length params) (e : n ≡ length params - length ds) (q : p ≡ get_or params i p)
      (popped : MatchOption o ((vs ≡ []) × (us ≡ [])) (λ v. vs ≡ v ∷ us)) where
    at_param : drop i params ≡ p ∷ drop (suc i) params
    at_param = drop-cons params i p h ∙ ap (λ x. x ∷ drop (suc i) params) (sym q)

    opened : behind l (filled (drop i params) vs named (drop i (defaults_of params ds)))
        ≡ behind l (filled (p ∷ drop (suc i) params) vs named (default_at n i ds ∷ drop (suc i) (defaults_of params ds)))
    opened = ap (λ ps. behind l (filled ps vs named (drop i (defaults_of params ds)))) at_param
        ∙ ap (λ xs. behind l (filled (p ∷ drop (suc i) params) vs named xs)) (default_stands params ds i n h e)

    -- a parameter more has its value
    pub fill_turn : (v : V) → got p o named (default_at n i ds) ≡ Some v →
        behind (l ++ Some v ∷ []) (filled (drop (i + 1) params) us named (drop (i + 1) (defaults_of params ds)))
        ≡ behind l (filled (drop i params) vs named (drop i (defaults_of params ds)))
    fill_turn v g =
        let f = first_is o vs us popped in
        let s : i + 1 ≡ suc i = omega arith in
        let g' : got p (first vs) named (default_at n i ds) ≡ Some v = ap (λ x. got p x named (default_at n i ds)) f.0 ∙ g in
        let t = fill_on l p (drop (suc i) params) vs named (default_at n i ds) (drop (suc i) (defaults_of params ds)) v g' in
        rw (s, ← f.1) (sym (opened ∙ t))

    -- or it gets nothing
    pub fill_fails : got p o named (default_at n i ds) ≡ None → None ≡ behind l (filled (drop i params) vs named (drop i (defaults_of params ds)))
    fill_fails g =
        let f = first_is o vs us popped in
        let g' : got p (first vs) named (default_at n i ds) ≡ None = ap (λ x. got p x named (default_at n i ds)) f.0 ∙ g in
        sym (opened ∙ fill_stops l p (drop (suc i) params) vs named (default_at n i ds) (drop (suc i) (defaults_of params ds)) g')
