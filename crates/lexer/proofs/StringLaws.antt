-- The strings that begin are as the relation has them.
use Rattle.std.proofs.Common.{ℕ, suc, ◌≡◌, ◌≢◌, ◌+◌, Bool, true, false, inl, inr, ◌==◌, List, [], ◌∷◌, ◌++◌, length, take, map, refl, sym, ap, subst, ◌∙◌, append_assoc, length-append, Option, Some, None, arith}
use Rattle.std.specs.Prelude.{flat_map, option_map}
use Rattle.std.specs.List.{AllByRecursion}
use Rattle.std.proofs.lemmas.Bool.Decides.{nat_tests}
use Rattle.std.proofs.lemmas.List.{take_at, length_push}
use Rattle.lexer.specs.Characters.{newline}
use Rattle.lexer.specs.Tokens.{Token, string}
use Rattle.lexer.specs.Strings.{backslash, is_quote, is_escape, escape_meaning, body_length, unescaped}
use Rattle.lexer.specs.Begins.{token, string_of, string_at}
use Rattle.lexer.specs.Fits.{Piece, plain, escape, piece_text, piece_meaning, IsPiece, Spells}
use Rattle.lexer.proofs.RunLaws.{either}
use Rattle.lexer.proofs.BeginLaws.{IsToken, BeginsAsLong, begins_string}

-- the bytes of a body that is written in pieces
abbrev written : List Piece → List ℕ
written pieces = flat_map piece_text pieces

-- pieces stand for what is read of them
meaning_is : (quote : ℕ) (pieces : List Piece) → AllByRecursion (IsPiece quote) pieces
    → unescaped (written pieces) ≡ map piece_meaning pieces
meaning_is quote [] h = refl
meaning_is quote (plain b ∷ pieces) h =
    let other : b ≢ backslash = h.0.2 in
    let test : (b == backslash) ≡ false = grind (arith, nat_tests) in
    rw test (ap (λ l. b ∷ l) (meaning_is quote pieces h.1))
meaning_is quote (escape b ∷ pieces) h = ap (λ l. escape_meaning b ∷ l) (meaning_is quote pieces h.1)

-- a quote is no backslash
quote_is_other : (quote : ℕ) → is_quote quote ≡ true → (backslash == quote) ≡ false
quote_is_other quote h = grind (arith, nat_tests)

-- the length of a body is that of its pieces
length_is : (quote : ℕ) (pieces : List Piece) (further : List ℕ) → is_quote quote ≡ true
    → AllByRecursion (IsPiece quote) pieces
    → body_length quote false (written pieces ++ quote ∷ further) ≡ Some (length (written pieces))
length_is quote [] further q h =
    let test : (quote == quote) ≡ true = grind (arith, nat_tests) in
    rw test refl
length_is quote (plain b ∷ pieces) further q h =
    let no_quote : b ≢ quote = h.0.0 in
    let no_end : b ≢ newline = h.0.1 in
    let no_backslash : b ≢ backslash = h.0.2 in
    let x : (b == quote) ≡ false = grind (arith, nat_tests) in
    let y : (b == newline) ≡ false = grind (arith, nat_tests) in
    let z : (b == backslash) ≡ false = grind (arith, nat_tests) in
    rw (x, y, z, length_is quote pieces further q h.1) refl
length_is quote (escape b ∷ pieces) further q h =
    rw (quote_is_other quote q, h.0, length_is quote pieces further q h.1) refl

-- a body that has a length is written in pieces, before its quote
record Body (quote : ℕ) (bs : List ℕ) (n : ℕ) : Type 0 where
  pieces : List Piece
  further : List ℕ
  all_pieces : AllByRecursion (IsPiece quote) pieces
  whole : bs ≡ written pieces ++ quote ∷ further
  long : n ≡ length (written pieces)

-- the same behind a backslash
abbrev Rest : Bool → ℕ → List ℕ → ℕ → Type 0
Rest false quote bs n = Body quote bs n
Rest true quote bs n =
    (b : ℕ) × (is_escape b ≡ true)
    × ((further : List ℕ) × (bs ≡ b ∷ further) × ((m : ℕ) × (n ≡ suc m) × Body quote further m))

-- a length that counts one more
counted : (o : Option ℕ) (n : ℕ) → option_map suc o ≡ Some n → (m : ℕ) × (o ≡ Some m) × (n ≡ suc m)
counted None n e = absurd cc
counted (Some m) n e = (m, refl, cc)

-- a body of no piece
body_none : (quote b n : ℕ) (bs : List ℕ) → b ≡ quote → 0 ≡ n → Body quote (b ∷ bs) n
body_none quote b n bs e l = record { pieces = []; further = bs; all_pieces = tt; whole = ap (λ c. c ∷ bs) e; long = sym l }

-- a body with a byte before it
body_plain : (quote b n m : ℕ) (bs : List ℕ) → IsPiece quote (plain b) → n ≡ suc m → Body quote bs m → Body quote (b ∷ bs) n
body_plain quote b n m bs h e r = record {
  pieces = plain b ∷ r.pieces;
  further = r.further;
  all_pieces = (h, r.all_pieces);
  whole = ap (λ l. b ∷ l) r.whole;
  long = e ∙ ap suc r.long;
}

-- a body with a backslash and a byte before it
body_escape : (quote b n m : ℕ) (bs : List ℕ) → b ≡ backslash → n ≡ suc m → Rest true quote bs m → Body quote (b ∷ bs) n
body_escape quote b n m bs e l r =
    let s = r.2.2.2 in
    record {
      pieces = escape r.0 ∷ s.pieces;
      further = s.further;
      all_pieces = (r.1, s.all_pieces);
      whole = rw (e, r.2.1) (ap (λ l. backslash ∷ r.0 ∷ l) s.whole);
      long = l ∙ ap suc r.2.2.1 ∙ ap (λ n. suc (suc n)) s.long;
    }

-- bytes whose body has a length are pieces before a quote
body_is : (bs : List ℕ) (escaped : Bool) (quote n : ℕ) → body_length quote escaped bs ≡ Some n → Rest escaped quote bs n
body_is [] escaped quote n e = absurd cc
body_is (b ∷ bs) true quote n e = elim (either (is_escape b)) [
  | inl t ↦
      let c = counted (body_length quote false bs) n (rw t at e) in
      (b, t, (bs, refl, (c.0, c.2, body_is bs false quote c.0 c.1)))
  | inr f ↦ let none : None ≡ Some n = rw f at e in absurd cc
]
body_is (b ∷ bs) false quote n e = elim (either (b == quote)) [
  | inl t ↦
      let test : (b == quote) ≡ true = t in
      let ends : Some 0 ≡ Some n = rw t at e in
      body_none quote b n bs (grind (arith, nat_tests)) cc
  | inr f ↦ elim (either (b == newline)) [
    | inl t ↦ let none : None ≡ Some n = rw (f, t) at e in absurd cc
    | inr g ↦ elim (either (b == backslash)) [
      | inl t ↦
          let test : (b == backslash) ≡ true = t in
          let c = counted (body_length quote true bs) n (rw (f, g, t) at e) in
          body_escape quote b n c.0 bs (grind (arith, nat_tests)) c.2 (body_is bs true quote c.0 c.1)
      | inr h ↦
          let c = counted (body_length quote false bs) n (rw (f, g, h) at e) in
          body_plain quote b n c.0 bs (unlike b quote f, unlike b newline g, unlike b backslash h) c.2 (body_is bs false quote c.0 c.1)
    ]
  ]
]
  where
    unlike : (b c : ℕ) → (b == c) ≡ false → b ≢ c
    unlike b c test = grind (arith, nat_tests)

-- what a string's token is made of
string_made : (bs : List ℕ) (o : Option ℕ) (t : Token) (k : ℕ) → string_of bs o ≡ token t k
    → (n : ℕ) × (o ≡ Some n) × (string (unescaped (take n bs)) ≡ t) × (n + 1 ≡ k)
string_made bs None t k e = absurd cc
string_made bs (Some n) t k e = (n, refl, cc, cc)

-- a body is what stands before its quote
body_taken : (quote : ℕ) (pieces : List Piece) (further : List ℕ) (n : ℕ) → n ≡ length (written pieces)
    → take n (written pieces ++ quote ∷ further) ≡ written pieces
body_taken quote pieces further n e = take_at (written pieces) (quote ∷ further) n (sym e)

-- pieces between quotes are a token
string_token : (quote : ℕ) (pieces : List Piece) (further : List ℕ) (n : ℕ) → is_quote quote ≡ true
    → AllByRecursion (IsPiece quote) pieces
    → n ≡ length (written pieces)
    → IsToken quote (written pieces ++ quote ∷ further) (string (unescaped (take n (written pieces ++ quote ∷ further)))) (n + 1)
string_token quote pieces further n q h e =
    let body : take n (written pieces ++ quote ∷ further) ≡ written pieces = body_taken quote pieces further n e in
    let regrouped : (written pieces ++ quote ∷ []) ++ further ≡ written pieces ++ quote ∷ further =
    append_assoc (written pieces) (quote ∷ []) further in
    let long : length (written pieces ++ quote ∷ []) ≡ n + 1 = length_push (written pieces) quote ∙ ap (λ m. m + 1) (sym e) in
    let closed : take (n + 1) (written pieces ++ quote ∷ further) ≡ written pieces ++ quote ∷ [] =
    ap (λ l. take (n + 1) l) (sym regrouped) ∙ take_at (written pieces ++ quote ∷ []) further (n + 1) long in (
      omega (arith, length-append (written pieces) (quote ∷ further)),
      (quote, pieces, q, h, ap (λ l. quote ∷ l) closed, ap unescaped body ∙ meaning_is quote pieces h),
      tt,
    )

-- a string that begins is one
pub string_is : (quote : ℕ) (bs : List ℕ) (t : Token) (k : ℕ) → is_quote quote ≡ true
    → string_at quote bs ≡ token t k → IsToken quote bs t k
string_is quote bs t k q e =
    let m = string_made bs (body_length quote false bs) t k e in
    let r = body_is bs false quote m.0 m.1 in
    let shown : IsToken quote bs (string (unescaped (take m.0 bs))) (m.0 + 1) =
    subst (λ (l : List ℕ). IsToken quote l (string (unescaped (take m.0 l))) (m.0 + 1)) (sym r.whole)
    (string_token quote r.pieces r.further m.0 q r.all_pieces r.long) in
    subst (λ (n : ℕ). IsToken quote bs t n) m.3 (subst (λ (u : Token). IsToken quote bs u (m.0 + 1)) m.2 shown)

-- where pieces stand between quotes their string begins
pieces_begin : (quote : ℕ) (pieces : List Piece) (further : List ℕ) (n : ℕ) → is_quote quote ≡ true
    → AllByRecursion (IsPiece quote) pieces
    → n ≡ length (written pieces) + 1
    → BeginsAsLong quote (written pieces ++ quote ∷ further) n (string (map piece_meaning pieces))
pieces_begin quote pieces further n q h e =
    let bs = written pieces ++ quote ∷ further in
    let body : take (length (written pieces)) bs ≡ written pieces = body_taken quote pieces further (length (written pieces)) refl in (
      string (unescaped (take (length (written pieces)) bs)),
      length (written pieces) + 1,
      begins_string quote bs q ∙ ap (λ o. string_of bs o) (length_is quote pieces further q h),
      omega arith,
      λ z. ap string (sym (ap unescaped body ∙ meaning_is quote pieces h)),
    )

-- where bytes are a string its token begins
pub string_as_long : (b : ℕ) (front further s : List ℕ) → Spells (b ∷ front) (string s)
    → BeginsAsLong b (front ++ further) (length front) (string s)
string_as_long b front further s h =
    let quote : ℕ = h.0 in
    let pieces : List Piece = h.1 in
    let same : b ∷ front ≡ quote ∷ (written pieces ++ quote ∷ []) = h.4 in
    let first : b ≡ quote = cc in
    let others : front ≡ written pieces ++ quote ∷ [] = cc in
    let whole : front ++ further ≡ written pieces ++ quote ∷ further =
    ap (λ l. l ++ further) others ∙ append_assoc (written pieces) (quote ∷ []) further in
    let long : length front ≡ length (written pieces) + 1 = ap length others ∙ length_push (written pieces) quote in
    rw (first, whole, h.5) (pieces_begin quote pieces further (length front) h.2 h.3 long)
