-- What a visit of a frozen value finds, in numbers: how many values there are, on how many levels,
-- and whether all of them can be frozen. The value itself counts as one, on the first level. (This
-- project's own words; the specification says only that freezing is deep.)
use Rattle.std.specs.Prelude.{◌≡◌, ◌+◌, ℕ, Bool, true, false, max}
use Rattle.ticks.specs.declared.extent.Extent.{Extent}

-- How many values a visit finds, on how many levels they lie, and whether all of them can be
-- frozen.
pub record Measure : Type 0 where
  pub values : ℕ
  pub levels : ℕ
  pub whole : Bool

-- whether all can be frozen, of two groups of values
abbrev pub both : Bool → Bool → Bool
both true b = b
both false b = false

-- the measure of no value at all, as of an empty list of items
abbrev pub no_values : Measure
no_values = record { values = 0; levels = 0; whole = true }

-- the measure of a key or a leaf: one value, which can be frozen or not
abbrev pub one : Bool → Measure
one whole = record { values = 1; levels = 1; whole = whole }

-- the measure of values that stand beside others: the deeper of both tells the levels
abbrev pub beside : Measure → Measure → Measure
beside m n = record {
  values = m.values + n.values;
  levels = max m.levels n.levels;
  whole = both m.whole n.whole;
}

-- the measure of a value with parts: one more value, on a level above all of them
abbrev pub above : Measure → Measure
above m = record { values = 1 + m.values; levels = 1 + m.levels; whole = m.whole }

-- all of the value can be frozen, and it has as many values as is noted
pub record Agrees (e : Extent) (m : Measure) : Type 0 where
  pub whole : m.whole ≡ true
  pub values : e.values ≡ m.values

-- What is noted of a frozen value is so: on how many levels it has values, and where the note says
-- that all can be frozen, that they can and how many there are.
pub record IsExtent (e : Extent) (m : Measure) : Type 0 where
  pub levels : e.levels ≡ m.levels
  pub known : e.is_whole ≡ true → Agrees e m
