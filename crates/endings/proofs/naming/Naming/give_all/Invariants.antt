use Rattle.std.proofs.Common.{◌≡◌, drop}
use Rattle.evaluation.specs.Naming.{names_given}
use Rattle.endings.proofs.naming.Naming.give_all.Given as goal

abbrev pub invariant-loop-place : goal.invariant-loop-place
invariant-loop-place l =
    names_given l.self (drop l.place l.names) (drop l.place l.globals) ≡ names_given l.initial.self l.names l.globals
