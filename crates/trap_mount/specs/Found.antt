-- What mounting hands over.
use Rattle.std.specs.Prelude.{◌≡◌, length, false}
use Rattle.trap_bank.specs.Disks.{View}
use Rattle.trap_format.specs.HeadValue.{IsHead}
use Rattle.trap_pool.specs.Pooled.{free_of}
use Rattle.trap_mount.specs.Holding.{head_place}
use Rattle.trap_mount.specs.Memory.{HaveBlocksOf}
use Rattle.trap_mount.specs.Mounted.{Mounted}
use Rattle.trap_mount.specs.MountSteps.{ReadsStage}
use Rattle.trap_mount.specs.Reading.{ReadsIndex}
use Rattle.trap_mount.specs.declared.found.Found.{Found}

-- the array that was found, which isn't stopped
abbrev pub array_of : Found → Mounted
array_of f = record {
  g = f.g;
  head = f.head;
  cell = f.cell;
  pending = f.stage.pending;
  index = f.index;
  blocks = length f.buffers.pool.blocks;
  free = free_of f.buffers.pool;
  is_stopped = false;
}

-- The pending writes and the index are those of the head, as the disks have them, and the memory is
-- long enough. An array has one staging slot.
pub record IsFoundOn (f : Found) (old : View) : Type 0 where
  pub head : IsHead f.g f.head
  pub one_slot : f.g.slots ≡ 1
  pub place : f.cell.place ≡ head_place
  pub pending : ReadsStage f.g f.head f.stage old
  pub index : ReadsIndex f.g f.head f.index old
  pub buffers : HaveBlocksOf f.g.block f.buffers
