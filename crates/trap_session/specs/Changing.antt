-- Which bytes change while the lines of a session are answered.
use Rattle.std.specs.Prelude.{IsTrue, ℕ}
use Rattle.trap_bank.specs.Disks.{Area, Contents, View, Differs}
use Rattle.trap_bank.specs.Steps.{Steps}
use Rattle.trap_model.specs.declared.request.Request.{Request}
use Rattle.trap_model.specs.declared.request.Request.TheVariants.{Write}
use Rattle.trap_array.specs.Areas.{InWrite}
use Rattle.trap_array.specs.Calls.{Mounted}

-- the disks of the contents differ at most in the area, whatever was said
abbrev pub DiffersIn : Area → Contents → Contents → Type 0
DiffersIn area old new = Differs area old.disks new.disks

-- no byte changed but in the area, and a crash at any moment leaves no other byte changed
pub record ChangesOnly (area : Area) (old new : View) : Type 0 where
  pub now : IsTrue old.tells → DiffersIn area old.now new.now
  pub any_moment : Steps old new (DiffersIn area) (DiffersIn area)

-- no byte
abbrev pub InNothing : ℕ → ℕ → Type 0
InNothing e i = ⊥

-- what the line of a request may touch: a write what a write of its block may, any other nothing
abbrev pub InLine : Mounted → Request → Area
InLine a (Write time block bytes) = InWrite a block
InLine a other = InNothing
