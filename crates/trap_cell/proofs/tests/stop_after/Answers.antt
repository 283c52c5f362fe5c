use Rattle.std.proofs.Common.{◌≡◌, sym, subst, Some}
use Rattle.trap_bank.specs.Memory.{Memory, view_of}
use Rattle.trap_bank.specs.Steps.{Always}
use Rattle.trap_cell.specs.Slots.{Stands}
use Rattle.trap_cell.proofs.tests.stop_after.Goals as goal

pub returns-clause-room : goal.returns-clause-room
returns-clause-room c = subst (λ (m : Memory). (view_of m).sizes 0 ≡ Some 8) (sym c.fuse.ensures) c.requires.room

pub returns-clause-stands : goal.returns-clause-stands
returns-clause-stands c = subst (λ (m : Memory). Always (view_of m) (Stands c.args._cell.now)) (sym c.fuse.ensures) c.requires.stands
