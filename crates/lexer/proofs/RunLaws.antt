-- Runs of bytes that pass a test.
use Rattle.std.proofs.Common.{ℕ, suc, ◌≡◌, ◌+◌, ◌≤◌, Bool, true, false, ◌⊎◌, inl, inr, List, [], ◌∷◌, ◌++◌, length, take, drop, refl, ◌∙◌, arith}
use Rattle.std.specs.List.{list_all, prefix_len}
use Rattle.std.proofs.lemmas.List.Folds.{length-prefix_len}
use Rattle.lexer.specs.Begins.{run_length}

-- a test goes one way or the other
pub either : (b : Bool) → (b ≡ true) ⊎ (b ≡ false)
either true = inl refl
either false = inr refl

-- the bytes of a run pass
prefix_passes : (p : ℕ → Bool) (bs : List ℕ) → list_all p (take (prefix_len p bs) bs) ≡ true
prefix_passes p [] = refl
prefix_passes p (b ∷ bs) =
    let one : 1 + prefix_len p bs ≡ suc (prefix_len p bs) = omega arith in
    elim (either (p b)) [
      | inl t ↦ rw (t, one) (rw t (prefix_passes p bs))
      | inr f ↦ rw f refl
    ]

-- bytes that pass are no more than the run
prefix_longest : (p : ℕ → Bool) (front further : List ℕ) → list_all p front ≡ true
    → length front ≤ prefix_len p (front ++ further)
prefix_longest p [] further h = omega arith
prefix_longest p (b ∷ front) further h = elim (either (p b)) [
  | inl t ↦ let others : list_all p front ≡ true = rw t at h in rw t (omega (arith, prefix_longest p front further others))
  | inr f ↦ let none : false ≡ true = rw f at h in absurd cc
]

-- whether bytes go on with one that passes
abbrev pub passes_next : (ℕ → Bool) → List ℕ → Bool
passes_next p [] = false
passes_next p (b ∷ bs) = p b

-- bytes that pass, before one that doesn't, are the run
prefix_exact : (p : ℕ → Bool) (front further : List ℕ) → list_all p front ≡ true → passes_next p further ≡ false
    → prefix_len p (front ++ further) ≡ length front
prefix_exact p [] [] h n = refl
prefix_exact p [] (b ∷ further) h n = rw n refl
prefix_exact p (b ∷ front) further h n = elim (either (p b)) [
  | inl t ↦
      let others : list_all p front ≡ true = rw t at h in
      let further_on : prefix_len p (front ++ further) ≡ length front = prefix_exact p front further others n in
      rw t (omega arith)
  | inr f ↦ let none : false ≡ true = rw f at h in absurd cc
]

-- what follows a run doesn't pass
prefix_stops : (p : ℕ → Bool) (bs : List ℕ) → passes_next p (drop (prefix_len p bs) bs) ≡ false
prefix_stops p [] = refl
prefix_stops p (b ∷ bs) =
    let one : 1 + prefix_len p bs ≡ suc (prefix_len p bs) = omega arith in
    elim (either (p b)) [
      | inl t ↦ rw (t, one) (prefix_stops p bs)
      | inr f ↦ rw f f
    ]

-- the byte behind a run doesn't pass
pub run_stops : (p : ℕ → Bool) (bs : List ℕ) → passes_next p (drop (run_length p bs) bs) ≡ false
run_stops p bs = rw (length-prefix_len p bs) (prefix_stops p bs)

-- each byte of a run passes
pub run_passes : (p : ℕ → Bool) (bs : List ℕ) → list_all p (take (run_length p bs) bs) ≡ true
run_passes p bs = rw (length-prefix_len p bs) (prefix_passes p bs)

-- bytes at the front that pass are no more than the run
pub run_longest : (p : ℕ → Bool) (front further : List ℕ) → list_all p front ≡ true
    → length front ≤ run_length p (front ++ further)
run_longest p front further h = rw (length-prefix_len p (front ++ further)) (prefix_longest p front further h)

-- bytes at the front that pass, before one that doesn't, are as many as the run
pub run_exact : (p : ℕ → Bool) (front further : List ℕ) → list_all p front ≡ true → passes_next p further ≡ false
    → run_length p (front ++ further) ≡ length front
run_exact p front further h n = length-prefix_len p (front ++ further) ∙ prefix_exact p front further h n

-- a prefix is no longer than the bytes
prefix_within : (p : ℕ → Bool) (bs : List ℕ) → prefix_len p bs ≤ length bs
prefix_within p [] = omega arith
prefix_within p (b ∷ bs) = elim (either (p b)) [
  | inl t ↦ rw t (omega (arith, prefix_within p bs))
  | inr f ↦ rw f (omega arith)
]

-- a run is no longer than the bytes
pub run_within : (p : ℕ → Bool) (bs : List ℕ) → run_length p bs ≤ length bs
run_within p bs = rw (length-prefix_len p bs) (prefix_within p bs)
