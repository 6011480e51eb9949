-- A text is a known name exactly where it is that name's text.
use Rattle.std.proofs.Common.{rules, arith, ◌≡◌, refl, ap, sym, ◌∙◌, ℕ, Bool, true, false, List, [], ◌∷◌, Option, Some, None, bytes_eq, if◌then◌else◌}
use Rattle.std.specs.Option.{option_eq}
use Rattle.std.proofs.lemmas.Slice.Eq.{bytes_eq-Decides}
use Rattle.field_names.specs.declared.known_name.KnownName.{KnownName}
use Rattle.field_names.specs.declared.known_name.KnownName.TheVariants as name
use Rattle.field_names.specs.contracts.known_name.KnownNamePartialEq.TheImpl as equality
use Rattle.field_names.specs.Names.{text_of, named_among, known_names, known_as}

abbrev pub same : KnownName → KnownName → Bool
same = equality.eq-value.it

same_is : (j k : KnownName) → same j k ≡ true → j ≡ k
same_is j k e = grind (arith, rules)

same_itself : (k : KnownName) → same k k ≡ true
same_itself k = grind (arith, rules)

-- each known name is found by its text
known_text : (k : KnownName) → known_as (text_of k) ≡ Some k
known_text name.Actions = refl
known_text name.Append = refl
known_text name.Attr = refl
known_text name.Basename = refl
known_text name.Bool = refl
known_text name.DeclareFile = refl
known_text name.EndsWith = refl
known_text name.Extend = refl
known_text name.Files = refl
known_text name.Get = refl
known_text name.Int = refl
known_text name.Items = refl
known_text name.Join = refl
known_text name.Keys = refl
known_text name.Label = refl
known_text name.LabelList = refl
known_text name.Name = refl
known_text name.Package = refl
known_text name.Path = refl
known_text name.Run = refl
known_text name.RunShell = refl
known_text name.Split = refl
known_text name.StartsWith = refl
known_text name.String = refl
known_text name.StringDict = refl
known_text name.StringList = refl
known_text name.ToList = refl
known_text name.Values = refl
known_text name.Write = refl

is_text : (x y : List ℕ) → bytes_eq x y ≡ true → x ≡ y
is_text x y e = grind (arith, rules, bytes_eq-Decides)

same_inside : {j k : KnownName} → Some k ≡ Some j → k ≡ j
same_inside e = grind (arith, rules)

-- what is found among names is the text's
found_text : (ks : List KnownName) (x : List ℕ) (j : KnownName) → named_among ks x ≡ Some j → bytes_eq x (text_of j) ≡ true
found_text [] x j e = absurd (cc)
found_text (k ∷ ks) x j e = first (bytes_eq x (text_of k)) refl e (found_text ks x j)
  where
    first : (b : Bool) → bytes_eq x (text_of k) ≡ b → (if b then Some k else named_among ks x) ≡ Some j
        → (named_among ks x ≡ Some j → bytes_eq x (text_of j) ≡ true) → bytes_eq x (text_of j) ≡ true
    first true is f later = ap (λ l. bytes_eq x (text_of l)) (sym (same_inside f)) ∙ is
    first false is f later = later f

met : (k : KnownName) (x : List ℕ) → bytes_eq x (text_of k) ≡ true → option_eq same (known_as x) (Some k) ≡ true
met k x e =
    ap (λ y. option_eq same (known_as y) (Some k)) (is_text x (text_of k) e)
    ∙ ap (λ o. option_eq same o (Some k)) (known_text k) ∙ same_itself k

missed : (k : KnownName) (x : List ℕ) (o : Option KnownName) → known_as x ≡ o → bytes_eq x (text_of k) ≡ false → option_eq same o (Some k) ≡ false
missed k x None is e = refl
missed k x (Some j) is e = other (same j k) refl
  where
    other : (b : Bool) → same j k ≡ b → same j k ≡ false
    other true s = let t : bytes_eq x (text_of j) ≡ true = found_text known_names x j is in
        let f : bytes_eq x (text_of k) ≡ true = ap (λ l. bytes_eq x (text_of l)) (sym (same_is j k s)) ∙ t in absurd (grind (arith, rules))
    other false s = s

pub is_known : (k : KnownName) (x : List ℕ) → option_eq same (known_as x) (Some k) ≡ bytes_eq x (text_of k)
is_known k x = told (bytes_eq x (text_of k)) refl
  where
    told : (b : Bool) → bytes_eq x (text_of k) ≡ b → option_eq same (known_as x) (Some k) ≡ bytes_eq x (text_of k)
    told true e = met k x e ∙ sym e
    told false e = missed k x (known_as x) refl e ∙ sym e
