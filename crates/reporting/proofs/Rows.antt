-- Worked reports, by computation.
use Rattle.std.specs.Prelude.{◌≡◌, ℕ, true, false, List, [], ◌∷◌, ◌++◌, Some, refl, codes}
use Rattle.depsets.specs.Listed.{flat}
use Rattle.actions.specs.declared.action.Action.{Action}
use Rattle.actions.specs.declared.action.Inputs.TheVariants as inputs
use Rattle.targets.specs.declared.outcome.Outcome.TheVariants.{Done}
use Rattle.reporting.specs.Answers.{Node, report_text, is_loud}

-- a target of the package `a` that writes the texts, each to the one file that all speak of
abbrev write : List ℕ → List ℕ → Action
write label text = record {
  mnemonic = codes "FileWrite";
  outputs = record { path = codes "a/o"; owner = label } ∷ [];
  inputs = inputs.Files [];
  words = [];
  content = Some text;
}

abbrev node : List ℕ → List Action → Node
node name actions = record { label = record { «package» = codes "a"; name = name }; outcome = Done [] actions }

-- two targets that write the same
abbrev alike : List Node
alike = node (codes "x") (write (codes "//a:x") [] ∷ []) ∷ node (codes "y") (write (codes "//a:y") [] ∷ []) ∷ []

alike_text : report_text flat [] alike
    ≡ codes "target //a:x ok\n" ++ (codes "  action FileWrite outputs [\"a/o\"] inputs [] words [] content \"\" owners //a:x //a:y\n" ++ codes "target //a:y ok\n")
alike_text = refl

alike_quiet : is_loud flat [] alike ≡ false
alike_quiet = refl

-- and a third that writes something else
abbrev mixed : List Node
mixed = node (codes "q") (write (codes "//a:q") (codes "q") ∷ []) ∷ alike

mixed_text : report_text flat [] mixed
    ≡ codes "target //a:q ok\n" ++ (codes "  action FileWrite outputs [\"a/o\"] inputs [] words [] content \"q\"\n" ++ (codes "target //a:x ok\n"
    ++ (codes "  action FileWrite outputs [\"a/o\"] inputs [] words [] content \"\" owners //a:x //a:y\n"
    ++ (codes "target //a:y ok\n" ++ codes "conflict a/o //a:q //a:x //a:y\n"))))
mixed_text = refl

mixed_loud : is_loud flat [] mixed ≡ true
mixed_loud = refl

-- one target that writes the same twice
abbrev twice : List Node
twice = node (codes "x") (write (codes "//a:x") [] ∷ write (codes "//a:x") [] ∷ []) ∷ []

twice_text : report_text flat [] twice
    ≡ codes "target //a:x ok\n" ++ (codes "  action FileWrite outputs [\"a/o\"] inputs [] words [] content \"\"\n"
    ++ (codes "  action FileWrite outputs [\"a/o\"] inputs [] words [] content \"\"\n" ++ codes "conflict a/o //a:x //a:x\n"))
twice_text = refl
