-- The order in which modules are evaluated (this project's own).
use Rattle.std.specs.Prelude.{◌≡◌, ℕ, List}
use Rattle.components.specs.Components.{Found, IsFound}
use Rattle.levels.specs.Levels.{AreHeights, IsOrderBy}

-- where each module depends on those that it loads: their components, their heights, and an order
-- by these
pub record IsPlan (deps : List (List ℕ)) (found : Found) (heights order : List ℕ) : Type 0 where
  pub same : found.deps ≡ deps
  pub components : IsFound found
  pub heights_are : AreHeights deps heights
  pub ordered : IsOrderBy heights order
