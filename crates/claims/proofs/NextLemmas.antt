-- Of actions in order, one clashes with the next exactly where two of them clash.
use Rattle.std.proofs.Common.{◌≡◌, ◌∙◌, ◌⊎◌, inl, inr, ℕ, zero, suc, Bool, true, false, not, List, [], ◌∷◌, Contains, Some, None, refl, sym, ap, subst, arith}
use Rattle.std.specs.Prelude.{slice_index_or, nat_eq}
use Rattle.std.specs.Str.{bytes_eq}
use Rattle.std.specs.Cmp.Lexicographic.{slice_cmp}
use Rattle.std.specs.Ordering.{nat_cmp, ordering_then, is_eq}
use Rattle.std.specs.declared.cmp.Ordering.{Ordering}
use Rattle.std.specs.declared.cmp.Ordering.TheVariants.{Less, Equal, Greater}
use Rattle.std.proofs.lemmas.Bool.{true≢false}
use Rattle.std.proofs.lemmas.Cmp.{nat_list_cmp_total}
use Rattle.std.proofs.lemmas.Map.Text.{is_eq-slice_cmp}
use Rattle.actions.specs.Ascending.{Each}
use Rattle.actions.proofs.Ascending.{Climbs, head_in, tail_in}
use Rattle.claims.specs.Members.{member_cmp, clash_by, some_clash}
use Rattle.claims.specs.declared.members.Member.{Member}
use Rattle.claims.proofs.Pairs.{either, neither}

label_less : (r o : Ordering) → ordering_then r o ≡ Less → is_eq r ≡ false → r ≡ Less
label_less Less o h e = refl
label_less Equal o h e = absurd (true≢false e)
label_less Greater o h e = absurd (let g : Greater ≡ Less = h in cc)

not_false : (b : Bool) → not b ≡ false → b ≡ true
not_false true h = refl
not_false false h = absurd (true≢false h)

module _ (ls : List ℕ) where
  abbrev pub led : Member → ℕ
  led m = slice_index_or ls m.place m.place

  -- one stands before another, and they don't clash
  pub record Passes (m n : Member) : Type 0 where
    pub labels : slice_cmp nat_cmp m.label n.label ≡ Less
    pub same : nat_eq (led m) (led n) ≡ true

  passes : (eq_same : (a b : ℕ) → nat_eq a b ≡ true → a ≡ b) (m n : Member) → member_cmp m n ≡ Less → clash_by ls m n ≡ false → Passes m n
  passes eq_same m n less h =
      let split = neither (bytes_eq m.label n.label) (not (nat_eq (led m) (led n))) h in record {
        labels = label_less (slice_cmp nat_cmp m.label n.label) (nat_cmp m.place n.place) less (is_eq-slice_cmp m.label n.label ∙ split.0);
        same = not_false (nat_eq (led m) (led n)) split.1;
      }

  follows : (eq_same : (a b : ℕ) → nat_eq a b ≡ true → a ≡ b) (m n k : Member) → Passes m n → Passes n k → Passes m k
  follows eq_same m n k h g = record {
    labels = nat_list_cmp_total.trans m.label n.label k.label h.labels g.labels;
    same = ap (λ a. nat_eq a (led k)) (eq_same (led m) (led n) h.same) ∙ g.same;
  }

  abbrev pub AllPass : List Member → Type 0
  AllPass [] = Unit {0}
  AllPass (m ∷ ms) = Each (Passes m) ms × AllPass ms

  each_follows : (eq_same : (a b : ℕ) → nat_eq a b ≡ true → a ≡ b) (m n : Member) → Passes m n → (ks : List Member) → Each (Passes n) ks → Each (Passes m) ks
  each_follows eq_same m n h [] g = tt
  each_follows eq_same m n h (k ∷ ks) g = (follows eq_same m n k h g.0, each_follows eq_same m n h ks g.1)

  -- where none clashes with the next, none clashes with a later one
  chain : (eq_same : (a b : ℕ) → nat_eq a b ≡ true → a ≡ b) (m : Member) (ms : List Member) → Climbs member_cmp (m ∷ ms) → some_clash ls (Some m) ms ≡ false
      → AllPass (m ∷ ms)
  chain eq_same m [] h s = (tt, tt)
  chain eq_same m (n ∷ ns) h s =
      let split = neither (clash_by ls m n) (some_clash ls (Some n) ns) s in
      let here = passes eq_same m n h.0.0 split.0 in
      let rest = chain eq_same n ns h.1 split.1 in
      ((here, each_follows eq_same m n here ns rest.0), rest)

  pub all_pass : (eq_same : (a b : ℕ) → nat_eq a b ≡ true → a ≡ b) (ms : List Member) → Climbs member_cmp ms → some_clash ls None ms ≡ false → AllPass ms
  all_pass eq_same [] h s = tt
  all_pass eq_same (m ∷ ms) h s = chain eq_same m ms h s

  one_passes : (m : Member) (ms : List Member) → Each (Passes m) ms → (n : Member) → Contains ms n → Passes m n
  one_passes m [] h n (k, low, is) = absurd (omega (arith, low))
  one_passes m (x ∷ xs) h n (zero, low, is) = subst (Passes m) is h.0
  one_passes m (x ∷ xs) h n (suc k, low, is) = one_passes m xs h.1 n (k, omega (arith, low), is)

  -- of two that are not the same, one stands before the other
  pub two_pass : (ms : List Member) → AllPass ms → (m n : Member) → Contains ms m → Contains ms n → (m ≡ n → ⊥) → Passes m n ⊎ Passes n m
  two_pass [] h m n (k, low, is) has apart = absurd (omega (arith, low))
  two_pass (x ∷ xs) h m n (zero, low, is) (zero, less, same) apart = absurd (apart (sym is ∙ same))
  two_pass (x ∷ xs) h m n (zero, low, is) (suc j, less, same) apart =
      inl (subst (λ y. Passes y n) is (one_passes x xs h.0 n (j, omega (arith, less), same)))
  two_pass (x ∷ xs) h m n (suc i, low, is) (zero, less, same) apart =
      inr (subst (λ y. Passes y m) same (one_passes x xs h.0 m (i, omega (arith, low), is)))
  two_pass (x ∷ xs) h m n (suc i, low, is) (suc j, less, same) apart =
      two_pass xs h.1 m n (i, omega (arith, low), is) (j, omega (arith, less), same) apart

  -- two of them that clash
  pub record Clashing (ms : List Member) : Type 0 where
    pub one : Member
    pub other : Member
    pub has_one : Contains ms one
    pub has_other : Contains ms other
    pub less : member_cmp one other ≡ Less
    pub does : clash_by ls one other ≡ true

  later : (m : Member) (ms : List Member) → Clashing ms → Clashing (m ∷ ms)
  later m ms h = record {
    one = h.one;
    other = h.other;
    has_one = tail_in m ms h.one h.has_one;
    has_other = tail_in m ms h.other h.has_other;
    less = h.less;
    does = h.does;
  }

  clashing : (m : Member) (ms : List Member) → Climbs member_cmp (m ∷ ms) → some_clash ls (Some m) ms ≡ true → Clashing (m ∷ ms)
  clashing m [] h s = absurd (true≢false (sym s))
  clashing m (n ∷ ns) h s = elim (either (clash_by ls m n) (some_clash ls (Some n) ns) s) [
    | inl c ↦ record {
      one = m;
      other = n;
      has_one = head_in m (n ∷ ns);
      has_other = tail_in m (n ∷ ns) n (head_in n ns);
      less = h.0.0;
      does = c;
    }
    | inr r ↦ later m (n ∷ ns) (clashing n ns h.1 r)
  ]

  pub clashing_in : (ms : List Member) → Climbs member_cmp ms → some_clash ls None ms ≡ true → Clashing ms
  clashing_in [] h s = absurd (true≢false (sym s))
  clashing_in (m ∷ ms) h s = clashing m ms h s
