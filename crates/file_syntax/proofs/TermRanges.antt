-- What the names of expressions stand for is there, in each frame that has slots for the names around and for the
-- comprehensions inside.
use Rattle.std.proofs.Common.{◌≡◌, ℕ, ◌≤◌, true, List, [], ◌∷◌, ◌++◌, length, map, refl, subst, arith}
use Rattle.std.specs.List.{AllByRecursion}
use Rattle.grammar.specs.Bare as bare
use Rattle.program_tree.specs.Names.{Scope, width, clause_names, inside_of}
use Rattle.file_syntax.specs.Scopes.{none_predeclared}
use Rattle.file_syntax.specs.Scopes.{scoped, trees_scoped, entries_scoped, keywords_scoped, rest_scoped, keyword_names}
use Rattle.program_tree.specs.Names.{distinct}
use Rattle.program_tree.specs.Resolved.{term, terms, pairs, keywords, rounds, binding_of, own_slots, term_slots, terms_slots, pairs_slots, keywords_slots, rounds_slots}
use Rattle.program_tree.specs.declared.program.OwnSlots.{OwnSlots}
use Rattle.file_syntax.specs.IsProgram.{begins_with_for, IsOwnSlot, IsTerm, AreTerms, ArePairs, AreKeywords, AreRounds}
use Rattle.file_syntax.proofs.NamePlaces.{both}
use Rattle.file_syntax.proofs.NamePlaces.{in_range, wider, own_names}
use Rattle.file_syntax.proofs.WellFormed.{begins, Well, AreWell, EntriesWell, KeywordsWell, RestWell}

-- the front of a list, of which something is so by what is made of each
front : {A B : Type 0} (P : B → Type 0) (f : A → B) (xs ys : List A) → AllByRecursion (λ x. P (f x)) (xs ++ ys)
    → AllByRecursion P (map f xs) × AllByRecursion (λ x. P (f x)) ys
front P f [] ys h = (tt, h)
front P f (x ∷ xs) ys h = let r = front P f xs ys h.1 in ((h.0, r.0), r.1)

begins_same : (s t : Scope) (r : bare.Rest) → begins r ≡ true → begins_with_for (rounds s t r) ≡ true
begins_same s t bare.done h = absurd cc
begins_same s t (bare.for_each x xs a r) h = refl
begins_same s t (bare.only_if a r) h = absurd cc

mutual
  pub term_ranges : (n : ℕ) (s : Scope) (t : bare.Tree) → Well t → scoped s t ≡ true → width s.levels ≤ n → term_slots (term s t) ≤ n
      → IsTerm (length s.globals) n (term s t)
  term_ranges n s (bare.named x) w h le fit = wider (length s.globals) (width s.levels) n (binding_of s x) le (in_range s x h)
  term_ranges n s (bare.numeral k) w h le fit = w
  term_ranges n s (bare.quoted t) w h le fit = tt
  term_ranges n s (bare.tuple ts) w h le fit = terms_ranges n s ts w h le fit
  term_ranges n s (bare.listing ts) w h le fit = terms_ranges n s ts w h le fit
  term_ranges n s (bare.dict es) w h le fit = pairs_ranges n s es w h le fit
  term_ranges n s (bare.choice a c b) w h le fit =
      let k = both (scoped s a) _ h in
      let j = both (scoped s c) _ k.1 in
      (term_ranges n s a w.0 k.0 le (omega (arith, fit)), term_ranges n s c w.1 j.0 le (omega (arith, fit)), term_ranges n s b w.2 j.1 le (omega (arith, fit)))
  term_ranges n s (bare.operates o a b) w h le fit =
      let k = both (scoped s a) _ h in
      (term_ranges n s a w.0 k.0 le (omega (arith, fit)), term_ranges n s b w.1 k.1 le (omega (arith, fit)))
  term_ranges n s (bare.turned o a) w h le fit = term_ranges n s a w h le fit
  term_ranges n s (bare.selects f x) w h le fit = term_ranges n s f w h le fit
  term_ranges n s (bare.subscript f a) w h le fit =
      let k = both (scoped s f) _ h in
      (term_ranges n s f w.0 k.0 le (omega (arith, fit)), term_ranges n s a w.1 k.1 le (omega (arith, fit)))
  term_ranges n s (bare.invokes f ts ks) w h le fit =
      let k = both (scoped s f) _ h in
      let j = both (trees_scoped s ts) _ k.1 in
      let i = both (distinct (keyword_names ks)) _ j.1 in
      (term_ranges n s f w.0 k.0 le (omega (arith, fit)), terms_ranges n s ts w.1 j.0 le (omega (arith, fit)), keywords_ranges n s ks w.2 i.1 le (omega (arith, fit)))
  term_ranges n s (bare.each a r) w h le fit =
      let t = inside_of s r in
      let k = both (none_predeclared (clause_names r)) _ h in
      let j = both (scoped t a) _ k.1 in
      let end : width t.levels ≤ n = omega (arith, fit) in (
        omega arith,
        end,
        begins_same s t r w.0,
        term_ranges n t a w.1 j.0 end (omega (arith, fit)),
        rounds_ranges n (own_slots s r) s t r refl w.2 j.1 le end (omega (arith, fit)) (own_names s r),
      )
  term_ranges n s (bare.each_entry a b r) w h le fit =
      let t = inside_of s r in
      let k = both (none_predeclared (clause_names r)) _ h in
      let j = both (scoped t a) _ k.1 in
      let i = both (scoped t b) _ j.1 in
      let end : width t.levels ≤ n = omega (arith, fit) in (
        omega arith,
        end,
        begins_same s t r w.0,
        term_ranges n t a w.1 j.0 end (omega (arith, fit)),
        term_ranges n t b w.2 i.0 end (omega (arith, fit)),
        rounds_ranges n (own_slots s r) s t r refl w.3 i.1 le end (omega (arith, fit)) (own_names s r),
      )

  pub terms_ranges : (n : ℕ) (s : Scope) (ts : bare.Trees) → AreWell ts → trees_scoped s ts ≡ true → width s.levels ≤ n → terms_slots (terms s ts) ≤ n
      → AreTerms (length s.globals) n (terms s ts)
  terms_ranges n s bare.no_trees w h le fit = tt
  terms_ranges n s (bare.more_trees a ts) w h le fit =
      let k = both (scoped s a) _ h in
      (term_ranges n s a w.0 k.0 le (omega (arith, fit)), terms_ranges n s ts w.1 k.1 le (omega (arith, fit)))

  pairs_ranges : (n : ℕ) (s : Scope) (es : bare.Entries) → EntriesWell es → entries_scoped s es ≡ true → width s.levels ≤ n → pairs_slots (pairs s es) ≤ n
      → ArePairs (length s.globals) n (pairs s es)
  pairs_ranges n s bare.no_entries w h le fit = tt
  pairs_ranges n s (bare.more_entries a b es) w h le fit =
      let k = both (scoped s a) _ h in
      let j = both (scoped s b) _ k.1 in
      (term_ranges n s a w.0 k.0 le (omega (arith, fit)), term_ranges n s b w.1 j.0 le (omega (arith, fit)), pairs_ranges n s es w.2 j.1 le (omega (arith, fit)))

  keywords_ranges : (n : ℕ) (s : Scope) (ks : bare.Keywords) → KeywordsWell ks → keywords_scoped s ks ≡ true → width s.levels ≤ n → keywords_slots (keywords s ks) ≤ n
      → AreKeywords (length s.globals) n (keywords s ks)
  keywords_ranges n s bare.no_keywords w h le fit = tt
  keywords_ranges n s (bare.more_keywords x a ks) w h le fit =
      let k = both (scoped s a) _ h in
      (term_ranges n s a w.0 k.0 le (omega (arith, fit)), keywords_ranges n s ks w.1 k.1 le (omega (arith, fit)))

  rounds_ranges : (n : ℕ) (own : OwnSlots) (s t : Scope) (r : bare.Rest) → length t.globals ≡ length s.globals → RestWell r → rest_scoped s t r ≡ true
      → width s.levels ≤ n → width t.levels ≤ n → rounds_slots (rounds s t r) ≤ n
      → AllByRecursion (λ x. IsOwnSlot own (binding_of t x)) (clause_names r)
      → AreRounds (length s.globals) n own (rounds s t r)
  rounds_ranges n own s t bare.done e w h le end fit names = tt
  rounds_ranges n own s t (bare.for_each x xs a r) e w h le end fit names =
      let k = both (scoped s a) _ h in
      let f = front (IsOwnSlot own) (binding_of t) (x ∷ xs) (clause_names r) names in
      (f.0, term_ranges n s a w.0 k.0 le (omega (arith, fit)), subst (λ g. AreRounds g n own (rounds t t r)) e (rounds_ranges n own t t r refl w.1 k.1 end end (omega (arith, fit)) f.1))
  rounds_ranges n own s t (bare.only_if a r) e w h le end fit names =
      let k = both (scoped s a) _ h in
      (term_ranges n s a w.0 k.0 le (omega (arith, fit)), subst (λ g. AreRounds g n own (rounds t t r)) e (rounds_ranges n own t t r refl w.1 k.1 end end (omega (arith, fit)) names))
