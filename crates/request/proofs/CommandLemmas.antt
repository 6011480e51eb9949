-- What a parse of the command comes to.
use Rattle.std.proofs.Common.{◌≡◌, ◌≢◌, ℕ, true, false, List, [], ◌∷◌, Option, None, Some, refl, inl, inr, arith, length}
use Rattle.std.proofs.lemmas.Bool.{ne_eqb}
use Rattle.std.specs.Prelude.{option_and_then}
use Rattle.clap.specs.Walk.{Row, Text, is_empty}
use Rattle.clap.specs.Simple.{is_simple, matches_of}
use Rattle.clap.specs.Faults.{fault_of, is_simple_and_free}
use Rattle.clap.specs.Kinds.{Kinds, HasKind}
use Rattle.clap.specs.Values.{kind_of}
use Rattle.clap.specs.declared.error.Error.{Error}
use Rattle.clap.specs.declared.error.kind.ErrorKind.TheVariants as kind
use Rattle.clap.proofs.OnLiterals.{clap_on_literals}
use Rattle.request.specs.CommandLine.{Written, written, written_in, written_with, command_line, texts_of, steps_of, workers_of}

pub command_line-free : is_simple_and_free command_line ≡ true
unfolding command_line clap_on_literals
command_line-free = refl

pub command_line-simple : is_simple command_line ≡ true
unfolding command_line clap_on_literals
command_line-simple = refl

pub refusal_has_kinds : (kinds : Kinds) (e : Error) → HasKind kinds e → kind_of e ≢ kind.OutOfMemory → is_empty kinds ≡ false
refusal_has_kinds [] e h other = elim h [ inl m ↦ absurd (other m) | inr a ↦ absurd a ]
refusal_has_kinds (k ∷ ks) e h other = ne_eqb (length (k ∷ ks)) 0 (λ same. omega arith)

pub written-taken : (words : List Text) (rows : List Row) (a : Written) → is_empty (fault_of command_line words) ≡ true
    → rows ≡ matches_of command_line words → written_in rows ≡ Some a → written words ≡ Some a
unfolding written
written-taken words rows a free same is = rw free (rw (← same) is)

pub written-refused : (words : List Text) → is_empty (fault_of command_line words) ≡ false → written words ≡ None
unfolding written
written-refused words faulty = rw faulty refl

pub written-without : (words : List Text) (rows : List Row) → is_empty (fault_of command_line words) ≡ true
    → rows ≡ matches_of command_line words → written_in rows ≡ None → written words ≡ None
unfolding written
written-without words rows free same is = rw free (rw (← same) is)

pub written_in-whole : (rows : List Row) (w s : ℕ) → workers_of rows ≡ Some w → steps_of rows ≡ Some s
    → written_in rows ≡ Some (record { workers = w; steps = s; labels = texts_of rows })
written_in-whole rows w s ws ss = rw (ws, ss) refl

pub written_in-no_workers : (rows : List Row) → workers_of rows ≡ None → written_in rows ≡ None
written_in-no_workers rows ws = rw ws refl

pub written_in-no_steps : (rows : List Row) → steps_of rows ≡ None → written_in rows ≡ None
written_in-no_steps rows ss = go (workers_of rows)
  where
    go : (o : Option ℕ) → option_and_then (written_with rows) o ≡ None
    go None = refl
    go (Some w) = rw ss refl
