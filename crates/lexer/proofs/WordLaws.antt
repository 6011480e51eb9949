-- Which bytes spell the words of the language, and which are names.
use Rattle.std.proofs.Common.{ℕ, ◌≡◌, Bool, true, false, ◌||◌, ◌⊎◌, inl, inr, List, [], ◌∷◌, refl, sym, subst, ◌∙◌, codes, Option, Some, None, if◌then◌else◌}
use Rattle.std.specs.Str.{bytes_eq}
use Rattle.std.specs.List.{AllByRecursion}
use Rattle.std.proofs.lemmas.Slice.Eq.{bytes_eq-Decides}
use Rattle.lexer.specs.declared.token.Word.{Word}
use Rattle.lexer.specs.declared.token.Word.TheVariants.{And, Break, Continue, Def, Elif, Else, For, If, In, Load, Not, Or, Pass, Return, Reserved}
use Rattle.lexer.specs.Tokens.{Token, name, word}
use Rattle.lexer.specs.Words.{expression_word, statement_word, is_reserved_to_except, is_reserved_to_nonlocal, is_reserved_to_yield, is_reserved, word_or_name}
use Rattle.lexer.specs.Fits.{texts_of, IsOneOf, IsWordLike, Spells, StandsOff}

-- what holds of each text holds of one of them
one_of : (P : List ℕ → Type 0) (texts : List (List ℕ)) (w : List ℕ) → AllByRecursion P texts → IsOneOf w texts → P w
one_of P (text ∷ texts) w h (inl e) = subst P (sym e) h.0
one_of P (text ∷ texts) w h (inr k) = one_of P texts w h.1 k
one_of P [] w h k = absurd k

-- each text of a word is read as that word
texts_are : (k : Word) → AllByRecursion (λ text. word_or_name text ≡ word k) (texts_of k)
texts_are And = (refl, tt)
texts_are Break = (refl, tt)
texts_are Continue = (refl, tt)
texts_are Def = (refl, tt)
texts_are Elif = (refl, tt)
texts_are Else = (refl, tt)
texts_are For = (refl, tt)
texts_are If = (refl, tt)
texts_are In = (refl, tt)
texts_are Load = (refl, tt)
texts_are Not = (refl, tt)
texts_are Or = (refl, tt)
texts_are Pass = (refl, tt)
texts_are Return = (refl, tt)
texts_are Reserved =
    (refl, (refl, (refl, (refl, (refl, (refl, (refl, (refl, (refl, (refl, (refl, (refl, (refl, (refl, (refl, (refl, (refl, (refl, (refl, tt)))))))))))))))))))

-- what is written as a word is read as that word
pub word_as : (k : Word) (w : List ℕ) → IsOneOf w (texts_of k) → word_or_name w ≡ word k
word_as k w h = one_of (λ text. word_or_name text ≡ word k) (texts_of k) w (texts_are k) h

-- a word with a text of it
record Entry : Type 0 where
  text : List ℕ
  kind : Word

abbrev entry : List ℕ → Word → Entry
entry text kind = record { text = text; kind = kind }

-- the word of the first text that is this one
abbrev look_up : List Entry → List ℕ → Option Word
look_up [] w = None
look_up (e ∷ es) w = if bytes_eq w e.text then Some e.kind else look_up es w

-- what is looked up is one of its word's texts
looked_up : (es : List Entry) (w : List ℕ) (k : Word) → AllByRecursion (λ e. IsOneOf e.text (texts_of e.kind)) es
    → look_up es w ≡ Some k → IsOneOf w (texts_of k)
looked_up [] w k h e = absurd cc
looked_up (x ∷ es) w k h e = step (bytes_eq w x.text) ((bytes_eq-Decides w x.text).0) (looked_up es w k h.1) e
  where
    step : (b : Bool) → (b ≡ true → w ≡ x.text) → (look_up es w ≡ Some k → IsOneOf w (texts_of k))
        → (if b then Some x.kind else look_up es w) ≡ Some k → IsOneOf w (texts_of k)
    step true same further e =
        let t : w ≡ x.text = same refl in
        let j : x.kind ≡ k = cc in
        rw (t, ← j) h.0
    step false same further e = further e

-- the words of expressions and loops are written as they are read
expression_is : (w : List ℕ) (k : Word) → expression_word w ≡ Some k → IsOneOf w (texts_of k)
expression_is w k e =
    let table : List Entry =
    record { text = codes "and"; kind = And } ∷ record { text = codes "in"; kind = In } ∷ record { text = codes "not"; kind = Not }
    ∷ record { text = codes "or"; kind = Or } ∷ record { text = codes "for"; kind = For } ∷ record { text = codes "break"; kind = Break }
    ∷ record { text = codes "continue"; kind = Continue } ∷ [] in
    looked_up table w k (inl refl, (inl refl, (inl refl, (inl refl, (inl refl, (inl refl, (inl refl, tt))))))) e

-- the words of the other statements too
statement_is : (w : List ℕ) (k : Word) → statement_word w ≡ Some k → IsOneOf w (texts_of k)
statement_is w k e =
    let table : List Entry =
    record { text = codes "def"; kind = Def } ∷ record { text = codes "elif"; kind = Elif } ∷ record { text = codes "else"; kind = Else }
    ∷ record { text = codes "if"; kind = If } ∷ record { text = codes "load"; kind = Load } ∷ record { text = codes "pass"; kind = Pass }
    ∷ record { text = codes "return"; kind = Return } ∷ [] in
    looked_up table w k (inl refl, (inl refl, (inl refl, (inl refl, (inl refl, (inl refl, (inl refl, tt))))))) e

-- whether a text is one of these, or something else held before
abbrev any_of : Bool → List (List ℕ) → List ℕ → Bool
any_of r [] w = r
any_of r (text ∷ texts) w = any_of (r || bytes_eq w text) texts w

-- one of two tests holds
one_holds : (x y : Bool) → (x || y) ≡ true → (x ≡ true) ⊎ (y ≡ true)
one_holds true y e = inl refl
one_holds false y e = inr e

-- what is one of some texts by a test is so
any_is : (P : Type 0) (r : Bool) (texts : List (List ℕ)) (w : List ℕ) → (r ≡ true → P) → (IsOneOf w texts → P)
    → any_of r texts w ≡ true → P
any_is P r [] w h k e = h e
any_is P r (text ∷ texts) w h k e =
    any_is P (r || bytes_eq w text) texts w
    (λ t. elim (one_holds r (bytes_eq w text) t) [ inl a ↦ h a | inr b ↦ k (inl ((bytes_eq-Decides w text).0 b)) ])
    (λ i. k (inr i))
    e

-- what a test finds among texts is one of them
is_one : (texts : List (List ℕ)) (w : List ℕ) → any_of false texts w ≡ true → IsOneOf w texts
is_one texts w e = any_is (IsOneOf w texts) false texts w (λ t. absurd cc) (λ i. i) e

-- what is one of some reserved words is one of them all
in_group : (first : List ℕ) (texts : List (List ℕ)) (w : List ℕ)
    → AllByRecursion (λ text. any_of false (texts_of Reserved) text ≡ true) (first ∷ texts)
    → any_of (bytes_eq w first) texts w ≡ true → IsOneOf w (texts_of Reserved)
in_group first texts w h e =
    let P : List ℕ → Type 0 = λ text. any_of false (texts_of Reserved) text ≡ true in
    is_one (texts_of Reserved) w (any_is (P w) (bytes_eq w first) texts w
    (λ t. one_of P (first ∷ texts) w h (inl ((bytes_eq-Decides w first).0 t)))
    (λ i. one_of P (first ∷ texts) w h (inr i))
    e)

-- the reserved words are written as they are read
reserved_is : (w : List ℕ) → is_reserved w ≡ true → IsOneOf w (texts_of Reserved)
reserved_is w e = elim (one_holds (is_reserved_to_except w || is_reserved_to_nonlocal w) (is_reserved_to_yield w) e) [
  | inl ab ↦ elim (one_holds (is_reserved_to_except w) (is_reserved_to_nonlocal w) ab) [
    | inl a ↦ in_group (codes "as")
        (codes "assert" ∷ codes "async" ∷ codes "await" ∷ codes "class" ∷ codes "del" ∷ codes "except" ∷ [])
        w (refl, (refl, (refl, (refl, (refl, (refl, (refl, tt))))))) a
    | inr b ↦ in_group (codes "finally")
        (codes "from" ∷ codes "global" ∷ codes "import" ∷ codes "is" ∷ codes "lambda" ∷ codes "nonlocal" ∷ [])
        w (refl, (refl, (refl, (refl, (refl, (refl, (refl, tt))))))) b
  ]
  | inr c ↦ in_group (codes "raise") (codes "try" ∷ codes "while" ∷ codes "with" ∷ codes "yield" ∷ [])
      w (refl, (refl, (refl, (refl, (refl, tt))))) c
]

-- what is read by two look-ups and a test is a word that one of them finds, or a name
by_words : (first second : Option Word) (test : Bool) (w : List ℕ) (u : Token)
    → ((k : Word) → first ≡ Some k → IsOneOf w (texts_of k)) → ((k : Word) → second ≡ Some k → IsOneOf w (texts_of k))
    → (test ≡ true → IsOneOf w (texts_of Reserved))
    → (elim first as (λ _. Token) [
      | Some k ↦ word k
      | None ↦ elim second as (λ _. Token) [ Some k ↦ word k | None ↦ if test then word Reserved else name w ]
    ]) ≡ u
    → ((k : Word) × (word k ≡ u) × IsOneOf w (texts_of k)) ⊎ (name w ≡ u)
by_words (Some k) second test w u f s r e = inl (k, e, f k refl)
by_words None (Some k) test w u f s r e = inl (k, e, s k refl)
by_words None None true w u f s r e = inl (Reserved, e, r refl)
by_words None None false w u f s r e = inr e

-- what is read is a word that is written so, or a name
word_or_name_is : (w : List ℕ) (u : Token) → word_or_name w ≡ u → ((k : Word) × (word k ≡ u) × IsOneOf w (texts_of k)) ⊎ (name w ≡ u)
word_or_name_is w u e =
    by_words (expression_word w) (statement_word w) (is_reserved w) w u (expression_is w) (statement_is w) (reserved_is w) e

-- what is read as a word or a name is spelled so
pub word_is : (w : List ℕ) (u : Token) → IsWordLike w → word_or_name w ≡ u → Spells w u
word_is w u h e = elim (word_or_name_is w u e) [
  | inl k ↦ subst (λ (t : Token). Spells w t) k.1 k.2
  | inr n ↦
      let here : word_or_name w ≡ name w = e ∙ sym n in
      let spelled : Spells w (name w) = (refl, h, λ k i. let other : word_or_name w ≡ word k = word_as k w i in absurd cc) in
      subst (λ (t : Token). Spells w t) n spelled
]

-- what is spelled like no word is read as a name
pub name_as : (w : List ℕ) → ((k : Word) → ¬ IsOneOf w (texts_of k)) → word_or_name w ≡ name w
name_as w h = elim (word_or_name_is w (word_or_name w) refl) [
  | inl k ↦ absurd (h k.0 k.2)
  | inr n ↦ sym n
]

-- a word or a name may stand before anything
pub stands_off_word : (w : List ℕ) (u : Token) (further : List ℕ) → word_or_name w ≡ u → StandsOff u further
stands_off_word w u further e = elim (word_or_name_is w u e) [
  | inl k ↦ subst (λ (t : Token). StandsOff t further) k.1 tt
  | inr n ↦ subst (λ (t : Token). StandsOff t further) n tt
]

-- each text of a word is like a word
texts_like : (k : Word) → AllByRecursion IsWordLike (texts_of k)
texts_like And = ((refl, refl), tt)
texts_like Break = ((refl, refl), tt)
texts_like Continue = ((refl, refl), tt)
texts_like Def = ((refl, refl), tt)
texts_like Elif = ((refl, refl), tt)
texts_like Else = ((refl, refl), tt)
texts_like For = ((refl, refl), tt)
texts_like If = ((refl, refl), tt)
texts_like In = ((refl, refl), tt)
texts_like Load = ((refl, refl), tt)
texts_like Not = ((refl, refl), tt)
texts_like Or = ((refl, refl), tt)
texts_like Pass = ((refl, refl), tt)
texts_like Return = ((refl, refl), tt)
texts_like Reserved = (
  (refl, refl),
  (
    (refl, refl),
    (
      (refl, refl),
      (
        (refl, refl),
        (
          (refl, refl),
          (
            (refl, refl),
            (
              (refl, refl),
              (
                (refl, refl),
                (
                  (refl, refl),
                  (
                    (refl, refl),
                    (
                      (refl, refl),
                      (
                        (refl, refl),
                        (
                          (refl, refl),
                          (
                            (refl, refl),
                            ((refl, refl), ((refl, refl), ((refl, refl), ((refl, refl), ((refl, refl), tt))))),
                          ),
                        ),
                      ),
                    ),
                  ),
                ),
              ),
            ),
          ),
        ),
      ),
    ),
  ),
)

-- what is written as a word is like a word
pub word_like : (k : Word) (w : List ℕ) → IsOneOf w (texts_of k) → IsWordLike w
word_like k w h = one_of IsWordLike (texts_of k) w (texts_like k) h
