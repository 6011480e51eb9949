-- The command `bzlan_pack [--root DIR] [--strict]`, as `clap` reads it (docs/REPORT.md, "From a
-- folder to an input"; this project's own choice).
use Rattle.std.specs.Prelude.{Bool, true, false, List, [], ◌∷◌, Option, Some, None, unwrap_or}
use Rattle.std.specs.Prelude.{if◌then◌else◌, codes}
use Rattle.std.specs.Str.{bytes_eq}
use Rattle.clap.specs.Walk.{Row, Rule, Text, first_of, is_empty, one_of}
use Rattle.clap.specs.Simple.{App, matches_of, new_app, new_rule, on_top, with_rule}
use Rattle.clap.specs.Faults.{fault_of}
use Rattle.clap.specs.declared.builder.action.ArgAction.TheVariants as action
use Rattle.pack_host.specs.declared.words.PackWords.{PackWords}

-- `--root DIR`, which is `.` where it isn't given
abbrev pub root_rule : Rule
root_rule = record (new_rule (codes "root")) {
  long = Some (codes "root");
  value_names = 1;
  defaults = codes "." ∷ [];
}

-- `--strict`
abbrev pub strict_rule : Rule
strict_rule = record (new_rule (codes "strict")) {
  long = Some (codes "strict");
  action = Some action.SetTrue;
}

-- it has a version, which it tells
abbrev pub versioned : App
versioned = on_top (λ s. record s { has_version = true }) (new_app (codes "bzlan_pack"))

-- the whole command: these options, and what `clap` gives every command that has a version
unfoldable pub command_line : App
command_line = with_rule (with_rule versioned root_rule) strict_rule

-- what the words of the command line ask for: a folder, and whether nothing may be left out
pub record Asked : Type 0 where
  pub root : Text
  pub strict : Bool

-- the text that stands for a flag says that it is given
abbrev pub is_set : Option Text → Bool
is_set None = false
is_set (Some text) = bytes_eq text (codes "true")

-- what the words ask for, of what was found in them
abbrev pub asked_in : List Row → Asked
asked_in rows = record {
  root = unwrap_or (first_of (codes "root") rows) (codes ".");
  strict = is_set (one_of (codes "strict") rows);
}

-- what the words ask for, the program's name first, where the command takes them
unfoldable pub asked : List Text → Option Asked
asked words =
    if is_empty (fault_of command_line words)
    then Some (asked_in (matches_of command_line words))
    else None

-- what was read from the words
abbrev pub asked_by : PackWords → Asked
asked_by w = record { root = w.root.now; strict = w.strict }
