-- No linked files, and no place: what an evaluation has that stands alone. (That `provider`, `rule`
-- and rules are called only in their places, and are `place` elsewhere, is this project's own.)
use Rattle.std.specs.Prelude.{false, [], None, Err}
use Rattle.ticks.specs.declared.ticks.Kind.TheVariants as kind
use Rattle.operations.specs.Names.{Linked}
use Rattle.language.specs.Place.{Place}

-- no name of another file is known, and a load gives nothing
abbrev pub no_files : Linked
no_files = record { names = λ f n. None; defaults = λ id. []; asked = λ f m x. None }

-- there are no targets, and no object has a field or a method
abbrev pub no_place : Place (Unit {0})
no_place = record {
  call = λ l g w. Err kind.Place;
  has_method = λ l x. false;
  method = λ l x g w. Err kind.Name;
  field = λ l x w. Err kind.Name;
  item = λ n i w. Err kind.Wrong;
  offers = λ n p w. Err kind.Wrong;
}
