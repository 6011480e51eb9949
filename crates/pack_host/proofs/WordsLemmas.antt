-- What a parse of the command comes to.
use Rattle.std.proofs.Common.{◌≡◌, ◌≢◌, ◌∙◌, Bool, true, false, List, [], ◌∷◌, Option, None, Some, Bor, refl, inl, inr, arith, ap, length, subst}
use Rattle.std.proofs.lemmas.Bool.{ne_eqb}
use Rattle.std.proofs.lemmas.Slice.Eq.{bytes_eq-Decides}
use Rattle.std.specs.Prelude.{codes, option_map, unwrap_or}
use Rattle.std.specs.Str.{bytes_eq}
use Rattle.std.specs.Str.Parse.{ParsesBool}
use Rattle.clap.specs.Walk.{Row, Text, is_empty}
use Rattle.clap.specs.Simple.{App, is_simple, matches_of}
use Rattle.clap.specs.Faults.{fault_of, is_simple_and_free}
use Rattle.clap.specs.Kinds.{Kinds, HasKind}
use Rattle.clap.specs.Matches.{ReadsOne}
use Rattle.clap.specs.Values.{kind_of}
use Rattle.clap.specs.declared.error.Error.{Error}
use Rattle.clap.specs.declared.error.kind.ErrorKind.TheVariants as kind
use Rattle.clap.proofs.OnLiterals.{clap_on_literals}
use Rattle.pack_host.specs.CommandLine.{asked, asked_in, command_line, is_set}

command_line-free : is_simple_and_free command_line ≡ true
unfolding command_line clap_on_literals
command_line-free = refl

pub command_line-simple : is_simple command_line ≡ true
unfolding command_line clap_on_literals
command_line-simple = refl

-- what is told of the command that was made
pub faults-made : (made : App) (words : List Text) → made ≡ command_line → (is_simple_and_free made ≡ true → fault_of made words ≡ [])
    → fault_of command_line words ≡ []
faults-made made words is told = subst (λ (a : App). fault_of a words ≡ []) is (told (ap is_simple_and_free is ∙ command_line-free))

pub kinds-made : (made : App) (words : List Text) (e : Error) → made ≡ command_line
    → (is_simple_and_free made ≡ true → HasKind (fault_of made words) e) → HasKind (fault_of command_line words) e
kinds-made made words e is told = subst (λ (a : App). HasKind (fault_of a words) e) is (told (ap is_simple_and_free is ∙ command_line-free))

refusal_has_kinds : (kinds : Kinds) (e : Error) → HasKind kinds e → kind_of e ≢ kind.OutOfMemory → is_empty kinds ≡ false
refusal_has_kinds [] e h other = elim h [ inl m ↦ absurd (other m) | inr a ↦ absurd a ]
refusal_has_kinds (k ∷ ks) e h other = ne_eqb (length (k ∷ ks)) 0 (λ same. omega arith)

pub asked-refused : (words : List Text) (e : Error) → HasKind (fault_of command_line words) e → kind_of e ≢ kind.OutOfMemory → asked words ≡ None
unfolding asked
asked-refused words e h other = rw (refusal_has_kinds (fault_of command_line words) e h other) refl

pub asked-taken : (words : List Text) (rows : List Row) → fault_of command_line words ≡ [] → rows ≡ matches_of command_line words
    → asked words ≡ Some (asked_in rows)
unfolding asked
asked-taken words rows free same = rw (ap is_empty free, same) refl

pub text_read : (o : Option (Bor Text)) (d : Bor Text) → (unwrap_or o d).now ≡ unwrap_or (option_map (λ s. s.now) o) d.now
text_read None d = refl
text_read (Some s) d = refl

-- a text that is read as a flag
pub flag_read : (E : Type 0) (o : Option Text) (r : Option Bool) → (o ≡ None → r ≡ None)
    → ((t : Text) → o ≡ Some t → ReadsOne (ParsesBool {E = E}) t r) → unwrap_or r false ≡ is_set o
flag_read E None r none some = ap (λ (b : Option Bool). unwrap_or b false) (none refl)
flag_read E (Some t) r none some = go r (some t refl)
  where
    other : (b : Bool) → bytes_eq t (codes "true") ≡ b → t ≢ codes "true" → false ≡ b
    other true is differs = absurd (differs ((bytes_eq-Decides t (codes "true")).0 is))
    other false is differs = refl

    go : (b : Option Bool) → ReadsOne (ParsesBool {E = E}) t b → unwrap_or b false ≡ bytes_eq t (codes "true")
    go (Some true) h = rw h refl
    go (Some false) h = rw h refl
    go None h = other (bytes_eq t (codes "true")) refl h.1.0
