-- Bytes that are a name by the test are spelled as one, and no others.
use Rattle.std.proofs.Common.{ℕ, ◌≡◌, ◌+◌, ◌==◌, true, List, [], ◌∷◌, length, take, refl, sym, ap, subst, ◌∙◌, arith}
use Rattle.std.specs.Prelude.{◌↔◌}
use Rattle.std.proofs.lemmas.Bool.Decides.{nat_tests}
use Rattle.std.proofs.lemmas.List.{take_all}
use Rattle.lexer.specs.Tokens.{name, number, string, word, mark}
use Rattle.lexer.specs.Begins.{Begins, space, line_end, comment, token, nothing, begins}
use Rattle.lexer.specs.Fits.{Spells, IsLongest}
use Rattle.lexer.specs.Names.{is_name_of, spells_name}
use Rattle.lexer.proofs.FitsLaws.{begins_longest, longest_begins}

-- what passes the test is a name of so many bytes
name_of : (n : ℕ) (at : Begins) → is_name_of n at ≡ true → (w : List ℕ) × (k : ℕ) × (at ≡ token (name w) k) × (k + 1 ≡ n)
name_of n (token (name w) k) e = (w, k, refl, grind (arith, nat_tests))
name_of n (token (number m) k) e = absurd cc
name_of n (token (string s) k) e = absurd cc
name_of n (token (word m) k) e = absurd cc
name_of n (token (mark m) k) e = absurd cc
name_of n space e = absurd cc
name_of n line_end e = absurd cc
name_of n (comment k) e = absurd cc
name_of n nothing e = absurd cc

is_spelled : (w : List ℕ) → spells_name w ≡ true → Spells w (name w)
is_spelled [] e = absurd cc
is_spelled (b ∷ bs) e =
    let w = b ∷ bs in
    let g = name_of (length w) (begins b bs) e in
    let front = (begins_longest b bs (name g.0) g.1 g.2).0.1 in
    let whole : Spells w (name g.0) = subst (λ (v : List ℕ). Spells v (name g.0)) (take_all (g.1 + 1) w (omega (arith, g.3))) front in
    subst (λ (v : List ℕ). Spells w (name v)) (sym whole.0) whole

spelled_is : (w : List ℕ) → Spells w (name w) → spells_name w ≡ true
spelled_is [] h = absurd h.1
spelled_is (b ∷ bs) h =
    let w = b ∷ bs in
    let n = length bs + 1 in
    let whole : Spells (take n w) (name w) = subst (λ (v : List ℕ). Spells v (name w)) (sym (take_all n w (omega arith))) h in
    let longest : IsLongest w n (name w) = ((omega arith, whole, tt), λ m u f. omega arith) in
    let test : (n == length w) ≡ true = grind (arith, nat_tests) in
    ap (is_name_of (length w)) (longest_begins b bs (name w) (length bs) longest) ∙ test

pub name_told : (w : List ℕ) → (spells_name w ≡ true) ↔ Spells w (name w)
name_told w = (is_spelled w, spelled_is w)
