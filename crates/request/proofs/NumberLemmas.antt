-- What a typed getter reads of a number's text, against the number within its limits.
use Rattle.std.proofs.Common.{◌≡◌, ℕ, ◌<◌, ◌≤◌, ◌⊎◌, inl, inr, Bool, true, false, List, Option, Some, None, refl, sym, ◌∙◌, arith, Result, Ok, Err, subst, ap}
use Rattle.std.specs.Prelude.{option_and_then, IfSome, ◌↔◌}
use Rattle.std.specs.Str.Parse.{ParsesUnsigned, digits_value, without_leading_plus}
use Rattle.clap.specs.Matches.{ReadsOne}
use Rattle.clap.specs.Values.{IsUnsignedIn}
use Rattle.clap.specs.ValueTests.{is_unsigned_in}
use Rattle.clap.specs.declared.builder.value_parser.ValueParser.TheVariants as vp
use Rattle.clap.proofs.ValueTestLemmas.{accepts-Accepts, Accepts-accepts}
use Rattle.request.specs.CommandLine.{number_within}

abbrev Only : {E : Type 0} → (List ℕ → Result ℕ E → Type 0) → Type 0
Only {E} G = (u : List ℕ) (x : Result ℕ E) → G u x → ParsesUnsigned 64 10 u x

-- the text's number lies within the limits
in_text : (low high : ℕ) (t : List ℕ) → IsUnsignedIn low high t → number_within low high t ≡ Some (digits_value 10 (without_leading_plus t))
in_text low high t h =
    let test : is_unsigned_in low high t ≡ true = Accepts-accepts false (vp.Unsigned low high) t h in
    rw test refl

not_in_text : (low high : ℕ) (t : List ℕ) → (IsUnsignedIn low high t → ⊥) → number_within low high t ≡ None
not_in_text low high t not_in = go (is_unsigned_in low high t) refl
  where
    go : (b : Bool) → is_unsigned_in low high t ≡ b → number_within low high t ≡ None
    go true e = absurd (not_in (accepts-Accepts false (vp.Unsigned low high) t e))
    go false e = rw e refl

pub taken : (E : Type 0) (G : List ℕ → Result ℕ E → Type 0) → Only G → (low high : ℕ) (o : Option (List ℕ)) (r : Option ℕ)
    → (o ≡ None → r ≡ None) → ((t : List ℕ) → o ≡ Some t → ReadsOne G t r)
    → (v : ℕ) → r ≡ Some v → low ≤ v → v ≤ high
    → option_and_then (number_within low high) o ≡ Some v
taken E G only low high None r none some v is least most =
    let nothing = none refl in
    cc
taken E G only low high (Some t) r none some v is least most =
    let read : ReadsOne G t (Some v) = subst (λ (x : Option ℕ). ReadsOne G t x) is (some t refl) in
    let parsed = only t (Ok v) read in
    let same : v ≡ digits_value 10 (without_leading_plus t) = parsed.1 in
    in_text low high t (parsed.0.0, parsed.0.1, omega arith, omega arith) ∙ ap (λ (n : ℕ). Some n) (sym same)

pub refused : (E : Type 0) (G : List ℕ → Result ℕ E → Type 0) → Only G → (low high : ℕ) (o : Option (List ℕ)) (r : Option ℕ)
    → (o ≡ None → r ≡ None) → ((t : List ℕ) → o ≡ Some t → ReadsOne G t r)
    → ((v : ℕ) → r ≡ Some v → low ≤ v → v ≤ high → ⊥)
    → option_and_then (number_within low high) o ≡ None
refused E G only low high None r none some beyond = refl
refused E G only low high (Some t) r none some beyond = not_in_text low high t (λ h. go r refl h)
  where
    go : (x : Option ℕ) → r ≡ x → IsUnsignedIn low high t → ⊥
    go None e h =
        let read : ReadsOne G t None = subst (λ (y : Option ℕ). ReadsOne G t y) e (some t refl) in
        only t (Err read.0) read.1 (h.0, h.1)
    go (Some v) e h =
        let read : ReadsOne G t (Some v) = subst (λ (y : Option ℕ). ReadsOne G t y) e (some t refl) in
        let parsed = only t (Ok v) read in
        let same : v ≡ digits_value 10 (without_leading_plus t) = parsed.1 in
        let least = h.2 in
        let most = h.3 in
        beyond v e (omega arith) (omega arith)

-- what is made of the number that is read, where it is made of numbers within the limits alone
pub made : (E : Type 0) (G : List ℕ → Result ℕ E → Type 0) → Only G → (low high : ℕ) (o : Option (List ℕ)) (r : Option ℕ)
    → (o ≡ None → r ≡ None) → ((t : List ℕ) → o ≡ Some t → ReadsOne G t r)
    → (v : ℕ) → r ≡ Some v → (w : Option ℕ) → IfSome w (λ n. n ≡ v) → (w ≡ None ↔ ((v < low) ⊎ (high < v)))
    → w ≡ option_and_then (number_within low high) o
made E G only low high o r none some v is None same beyond =
    sym (refused E G only low high o r none some
    (λ u other least most. let alike : u ≡ v = cc in elim (beyond.0 refl) [ inl few ↦ omega arith | inr many ↦ omega arith ]))
made E G only low high o r none some v is (Some n) same beyond =
    let not_few : v < low → ⊥ = λ few. let never : Some n ≡ None = beyond.1 (inl few) in cc in
    let not_many : high < v → ⊥ = λ many. let never : Some n ≡ None = beyond.1 (inr many) in cc in
    ap (λ (m : ℕ). Some m) same ∙ sym (taken E G only low high o r none some v is (omega (arith, not_few)) (omega (arith, not_many)))
