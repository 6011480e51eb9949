-- The fault that the pass over characters finds is at the first byte that is none, and the other way round.
use Rattle.std.proofs.Common.{ℕ, suc, ◌≡◌, ◌+◌, ◌<◌, Bool, true, false, not, ◌&&◌, cond, nat_lt, List, [], ◌∷◌, ◌++◌, length, take, get_or, refl, sym, ap, ◌∙◌, length-append, Some, None, arith}
use Rattle.std.specs.Prelude.{option_map}
use Rattle.std.specs.List.{list_all, prefix_len, before_first, after_first}
use Rattle.std.proofs.lemmas.Bool.Decides.{nat_tests}
use Rattle.std.proofs.lemmas.List.{length-take-le}
use Rattle.std.proofs.lemmas.List.Sums.{AllPass-from_list_all, list_all-from_AllPass, split_at_first, passes_at_first}
use Rattle.lexer.specs.Characters.{is_character, line_at, character_fault}
use Rattle.file_syntax.specs.CharacterFault.{IsCharacterFault}

-- a test that is turned round fails
turned : (b : Bool) → not b ≡ true → b ≡ false
turned true e = absurd cc
turned false e = refl

-- a place that is sought and found
found : (b : Bool) (f : ℕ → ℕ) (i line : ℕ) → option_map f (cond b (Some i) None) ≡ Some line → (b ≡ true) × (line ≡ f i)
found true f i line e = (refl, let same : f i ≡ line = cc in sym same)
found false f i line e = absurd cc

-- the longest front that passes passes
pub front_passes : (t : ℕ → Bool) (xs : List ℕ) → list_all t (take (prefix_len (λ b. not (not (t b))) xs) xs) ≡ true
front_passes t [] = refl
front_passes t (x ∷ xs) = step (t x) refl (front_passes t xs)
  where
    step : (b : Bool) → t x ≡ b → list_all t (take (prefix_len (λ b. not (not (t b))) xs) xs) ≡ true
        → list_all t (take (cond (not (not b)) (1 + prefix_len (λ b. not (not (t b))) xs) 0) (x ∷ xs)) ≡ true
    step true e h = let one : 1 + prefix_len (λ b. not (not (t b))) xs ≡ suc (prefix_len (λ b. not (not (t b))) xs) = omega arith in rw (one, e) h
    step false e h = refl

-- where bytes pass and the next one doesn't, they are the longest front that does
front_long : (t : ℕ → Bool) (xs ys : List ℕ) (y : ℕ) → list_all t xs ≡ true → t y ≡ false
    → prefix_len (λ b. not (not (t b))) (xs ++ y ∷ ys) ≡ length xs
front_long t [] ys y h e = rw e refl
front_long t (x ∷ xs) ys y h e = step (t x) (list_all t xs) (prefix_len (λ b. not (not (t b))) (xs ++ y ∷ ys)) (length xs) h (λ g. front_long t xs ys y g e)
  where
    step : (b r : Bool) (n m : ℕ) → (b && r) ≡ true → (r ≡ true → n ≡ m) → cond (not (not b)) (1 + n) 0 ≡ suc m
    step true r n m e h = let k : n ≡ m = h e in omega arith
    step false r n m e h = absurd cc

-- the line that the pass finds is that of the first byte that is no character
pub character_fault_is : (text : List ℕ) (line : ℕ) → character_fault text ≡ Some line → IsCharacterFault text line
character_fault_is text line e =
    let t : ℕ → Bool = λ b. not (is_character b) in
    let place = prefix_len (λ b. not (not (is_character b))) text in
    let f = found (nat_lt place (length text)) (line_at text) place line e in
    let test : nat_lt place (length text) ≡ true = f.0 in
    let within : place < length text = grind (arith, nat_tests) in
    let long : length (take place text) ≡ place = length-take-le place text (omega arith) in
    record {
      before = before_first t text;
      byte = get_or text place 0;
      behind = after_first t text;
      text_is = sym (split_at_first t text 0 within);
      characters = AllPass-from_list_all is_character _ (front_passes is_character text);
      no_character = turned _ (passes_at_first t text 0 within);
      line_is = f.1 ∙ ap (line_at text) (sym long);
    }

-- the first byte that is no character is found
pub character_fault_as : (text : List ℕ) (line : ℕ) → IsCharacterFault text line → character_fault text ≡ Some line
character_fault_as text line f =
    let long = front_long is_character f.before f.behind f.byte (list_all-from_AllPass is_character f.before f.characters) f.no_character in
    let place : prefix_len (λ b. not (not (is_character b))) text ≡ length f.before = rw f.text_is at long in
    let whole = ap length (sym f.text_is) ∙ length-append f.before (f.byte ∷ f.behind) in
    let test : nat_lt (length f.before) (length text) ≡ true = grind (arith, nat_tests) in
    rw (place, test) (ap Some (sym f.line_is))
