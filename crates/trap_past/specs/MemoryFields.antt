-- The fields of a past in memory, as contracts see them.
use Rattle.trap_past.specs.declared.memory.MemoryPast.TheInside.{Inside}
use Rattle.trap_past.specs.Memory.{PastInMemory}

abbrev pub past_memory_of : Inside → PastInMemory
past_memory_of past = record {
  g = past.g;
  first = past.first;
  base_time = past.base_time;
  first_off = past.first_off;
  base = past.base.items;
  entries = past.entries.items;
  presents = past.presents;
  parities = past.parities;
  snapshots = past.snapshots;
  asked = past.asked;
  looked = past.looked;
  calls = past.calls;
  failing = past.failing;
  faults = past.faults;
}
