-- What the words of the command line ask for (docs/REPORT.md, "Command line"; this project's own
-- choice).
use Rattle.std.specs.Prelude.{ℕ, List, [], ◌∷◌, Option, Some, None, map, option_map}
use Rattle.std.specs.Prelude.{option_and_then}
use Rattle.request.specs.CommandLine.{Written, written}
use Rattle.workspace.specs.Labels.{LabelParts, label_of}
use Rattle.request.specs.declared.words.Request.{Request}
use Rattle.request.specs.declared.words.Taken.{Taken}

-- a number of workers from 1 to 64, a limit of steps from 1 to 1,000,000,000, and labels
pub record Asked : Type 0 where
  pub workers : ℕ
  pub steps : ℕ
  pub labels : List LabelParts

-- a text's label before those of the texts behind it
abbrev pub label_before : Option (List LabelParts) → List ℕ → Option (List LabelParts)
label_before rest text = option_and_then (λ l. option_map (λ ls. l ∷ ls) rest) (label_of text None)

-- the labels that texts are without a package, where each is one
abbrev pub each_label : List (List ℕ) → Option (List LabelParts)
each_label [] = Some []
each_label (text ∷ texts) = label_before (each_label texts) text

-- what is asked for with these words, where each text for a label is a legal one
abbrev pub asked_of : Written → Option Asked
asked_of w = option_map
    (λ ls. record { workers = w.workers; steps = w.steps; labels = ls }) (each_label w.labels)

-- what the words ask for, the program's name first: the command takes them, and each label is legal
abbrev pub asked : List (List ℕ) → Option Asked
asked words = option_and_then asked_of (written words)

-- what a request asks for
abbrev pub asked_by : Request → Asked
asked_by r = record { workers = r.workers; steps = r.steps; labels = r.labels.items }

-- what was taken from the words
abbrev pub written_by : Taken → Written
written_by t =
    record { workers = t.workers; steps = t.steps; labels = map (λ s. s.now) t.labels.items }
