-- What contracts see of the plain machine.
use Rattle.trap_model.specs.declared.numbers.Geometry.{Geometry}
use Rattle.trap_model.specs.declared.history.State.{State}

pub record PlainArray : Type 0 where
  pub geometry : Geometry
  pub state : State
