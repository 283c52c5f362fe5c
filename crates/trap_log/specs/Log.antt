-- What a mounted array keeps in memory of its log's disk.
use Rattle.std.specs.Prelude.{◌≡◌}
use Rattle.trap_cell.specs.Slots.{Slots}
use Rattle.trap_format.specs.HeadValue.{IsHead}
use Rattle.trap_format.specs.declared.head.Head.{Head}
use Rattle.trap_index.specs.Indexed.{Indexed, last_seq, last_record_time}
use Rattle.trap_model.specs.declared.numbers.Geometry.{Geometry}
use Rattle.trap_stage.specs.Slots.{Stage, last_of}
use Rattle.trap_mount.specs.Holding.{head_place}

-- the log's disk as an array knows it: its numbers, the head that was put last, the head's cell,
-- and the pending writes
pub record Log : Type 0 where
  pub g : Geometry
  pub head : Head
  pub cell : Slots
  pub stage : Stage

-- the same, with an index of the retained records
pub record IndexedLog : Type 0 where
  pub g : Geometry
  pub head : Head
  pub cell : Slots
  pub stage : Stage
  pub index : Indexed

abbrev pub with_index : Log → Indexed → IndexedLog
with_index log index = record {
  g = log.g;
  head = log.head;
  cell = log.cell;
  stage = log.stage;
  index = index;
}

-- the head is one of such an array, and cell and stage are the array's; an array has one staging
-- slot
pub record IsLog (g : Geometry) (head : Head) (cell : Slots) (stage : Stage) : Type 0 where
  pub is_head : IsHead g head
  pub one_slot : g.slots ≡ 1
  pub place : cell.place ≡ head_place
  pub same : stage.g ≡ g

-- the pending writes are those between the head's numbers
pub record StagesHead (head : Head) (stage : Stage) : Type 0 where
  pub drained : stage.drained ≡ head.drained
  pub last : last_of stage ≡ head.last

-- the index has the head's first and last number, its first offset and its last time
pub record IndexesHead (head : Head) (index : Indexed) : Type 0 where
  pub first : index.first ≡ head.first
  pub offset : index.first_off ≡ head.first_off
  pub end : last_seq index ≡ head.last
  pub time : last_record_time index ≡ head.last_time

-- both
pub record AreInStep (head : Head) (stage : Stage) (index : Indexed) : Type 0 where
  pub staged : StagesHead head stage
  pub indexed : IndexesHead head index
