-- How a fault of an evaluation is printed. (docs/REPORT.md, "Load faults" and "Nodes"; this
-- project's own.)
use Rattle.std.specs.Prelude.{ℕ, List, codes}
use Rattle.ticks.specs.declared.ticks.Kind.{Kind}
use Rattle.ticks.specs.declared.ticks.Kind.TheVariants as kind
use Rattle.ticks.specs.declared.ticks.Broken.{Broken}
use Rattle.ticks.specs.declared.ticks.Broken.TheVariants as broken

-- the kind, as a report names it; the text of `fail` isn't part of its name
abbrev pub kind_text : Kind → List ℕ
kind_text kind.Name = codes "name"
kind_text kind.Unset = codes "unset"
kind_text kind.Wrong = codes "type"
kind_text kind.Frozen = codes "frozen"
kind_text kind.Iterating = codes "iterating"
kind_text kind.Index = codes "index"
kind_text kind.Key = codes "key"
kind_text kind.Overflow = codes "overflow"
kind_text kind.Zero = codes "zero"
kind_text kind.Steps = codes "steps"
kind_text kind.Recursion = codes "recursion"
kind_text kind.Arity = codes "arity"
kind_text kind.Large = codes "large"
kind_text kind.Deep = codes "deep"
kind_text kind.Order = codes "order"
kind_text kind.Place = codes "place"
kind_text (kind.Fail s) = codes "fail"

-- how a call that broke is printed: a fault by its kind's name, want of memory as "no memory",
-- which no report says
abbrev pub broken_text : Broken → List ℕ
broken_text (broken.Kind k) = kind_text k
broken_text broken.NoMemory = codes "no memory"
