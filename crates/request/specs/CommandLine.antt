-- The command `bzlan --workers N [--steps S] LABEL..`, as `clap` reads it (docs/REPORT.md, "Command
-- line"; this project's own choice).
use Rattle.std.specs.Prelude.{◌≡◌, ℕ, List, [], ◌∷◌, Option, Some, None, option_map}
use Rattle.std.specs.Prelude.{option_and_then, unwrap_or, if◌then◌else◌, codes, true}
use Rattle.std.specs.Str.Parse.{digits_value, without_leading_plus}
use Rattle.clap.specs.Lexer.{usize_max}
use Rattle.clap.specs.Walk.{Row, Rule, Text, all_of, is_empty, one_of}
use Rattle.clap.specs.Simple.{App, matches_of, new_app, new_rule, with_rule}
use Rattle.clap.specs.Faults.{fault_of}
use Rattle.clap.specs.ValueTests.{is_unsigned_in}
use Rattle.clap.specs.declared.builder.value_parser.ValueParser.TheVariants as vp

-- `--workers N`, which must be given
abbrev pub workers_rule : Rule
workers_rule = record (new_rule (codes "workers")) {
  long = Some (codes "workers");
  required = true;
  parser = Some (vp.Unsigned 1 64);
}

-- `--steps S`, which is 1000000 where it isn't given
abbrev pub steps_rule : Rule
steps_rule = record (new_rule (codes "steps")) {
  long = Some (codes "steps");
  defaults = codes "1000000" ∷ [];
  parser = Some (vp.Unsigned 1 1000000000);
}

-- any number of labels, also none
abbrev pub labels_rule : Rule
labels_rule = record (new_rule (codes "labels")) {
  range = Some (record { start_inclusive = 0; end_inclusive = usize_max });
}

-- the whole command: these options and labels, and what `clap` gives every command
unfoldable pub command_line : App
command_line = with_rule
    (with_rule (with_rule (new_app (codes "bzlan")) workers_rule) steps_rule) labels_rule

-- the command takes the words, and finds this in them
abbrev pub Takes : List Text → List Row → Type 0
Takes words rows = (is_empty (fault_of command_line words) ≡ true)
    × (rows ≡ matches_of command_line words)

-- the number that a text writes, where it lies within the limits
abbrev pub number_within : ℕ → ℕ → Text → Option ℕ
number_within low high text =
    if is_unsigned_in low high text
    then Some (digits_value 10 (without_leading_plus text))
    else None

-- what the words write: two numbers, and the texts that stand for labels
pub record Written : Type 0 where
  pub workers : ℕ
  pub steps : ℕ
  pub labels : List Text

-- of what was found in the words: the number of workers, where it is a legal one
abbrev pub workers_of : List Row → Option ℕ
workers_of rows = option_and_then (number_within 1 64) (one_of (codes "workers") rows)

-- the limit of steps, where it is a legal one
abbrev pub steps_of : List Row → Option ℕ
steps_of rows = option_and_then (number_within 1 1000000000) (one_of (codes "steps") rows)

-- the texts that stand for labels
abbrev pub texts_of : List Row → List Text
texts_of rows = unwrap_or (all_of (codes "labels") rows) []

-- all of it with a number of workers, where the limit of steps is a legal number
abbrev pub written_with : List Row → ℕ → Option Written
written_with rows w =
    option_map (λ s. record { workers = w; steps = s; labels = texts_of rows }) (steps_of rows)

-- all of it, where both numbers are legal
abbrev pub written_in : List Row → Option Written
written_in rows = option_and_then (written_with rows) (workers_of rows)

-- what the words write, the program's name first, where the command takes them
unfoldable pub written : List Text → Option Written
written words =
    if is_empty (fault_of command_line words)
    then written_in (matches_of command_line words)
    else None
