-- What was said over disks that hold a state.
use Rattle.std.specs.Prelude.{◌≡◌, ℕ, ◌++◌, List}
use Rattle.trap_bank.specs.Disks.{Contents}
use Rattle.trap_bank.specs.Calls.{SaysPart}
use Rattle.trap_model.specs.declared.numbers.Geometry.{Geometry}
use Rattle.trap_model.specs.declared.history.State.{State}
use Rattle.trap_array.specs.Holding.{Holds}

-- exactly this was said, and the disks hold the state
pub record SaidOver (g : Geometry) (s : State) (text : List ℕ) (old now : Contents) : Type 0 where
  pub said : now.said ≡ old.said ++ text
  pub holds : Holds g s now.disks

-- the port failed in this; the disks hold the state
pub record SaidPartOver (g : Geometry) (s : State) (text : List ℕ)
    (old now : Contents) : Type 0 where
  pub part : SaysPart text old now
  pub holds : Holds g s now.disks
