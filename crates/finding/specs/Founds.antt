-- What a search for a name gives, as the definitions say it. (This project's own.)
use Rattle.operations.specs.Fields.{Found as Finding, plainly, with_method}
use Rattle.finding.specs.declared.finds.Found.{Found}
use Rattle.finding.specs.declared.finds.Found.TheVariants as found

-- what a search for a field or a method found: a field's value, or a method
abbrev pub finding : Found → Finding
finding (found.Value v) = plainly v
finding (found.Method m) = with_method m
