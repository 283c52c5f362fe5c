-- What is known of the members of an array.
use Rattle.std.specs.Prelude.{ℕ, ◌<◌, Option}
use Rattle.std.specs.Option.{ForSome}
use Rattle.trap_model.specs.declared.numbers.Geometry.{Geometry}

-- the numbers of the array, the member that is lost, and how many of its rows are rebuilt
pub record Condition : Type 0 where
  pub g : Geometry
  pub lost : Option ℕ
  pub rebuilt : ℕ

-- the lost member and the mark are within the array
pub record IsWithin (g : Geometry) (lost : Option ℕ) (rebuilt : ℕ) : Type 0 where
  pub member : ForSome lost (λ m. m < g.members)
  pub rows : rebuilt < g.rows
