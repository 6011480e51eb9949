-- The elements of a listing, wherever they are found. (This project's own.)
use Rattle.std.specs.Prelude.{List}
use Rattle.depsets.specs.declared.element.Element.{Element}
use Rattle.depsets.specs.declared.distinct.Found.{Found}
use Rattle.depsets.specs.declared.distinct.Found.TheVariants.{Own, Walked}

-- the elements, be they a depset's own, lent as they are, or put together by a walk
abbrev pub elements_found : Found → List Element
elements_found (Own own) = own.now
elements_found (Walked found) = found
