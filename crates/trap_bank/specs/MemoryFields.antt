-- The fields of a bank in memory, as contracts see them.
use Rattle.std.specs.Prelude.{reverse}
use Rattle.trap_bank.specs.declared.memory.MemoryBank.TheInside.{Inside}
use Rattle.trap_bank.specs.Memory.{Memory}

abbrev pub memory_of : Inside → Memory
memory_of bank = record {
  disks = bank.disks.items;
  said = bank.said.items;
  past = reverse bank.past.items;
  since = bank.since;
  moment = bank.moment;
  faults = bank.faults;
  port_faults = bank.port_faults;
  starved = bank.starved;
  chosen = bank.chosen.numbers;
  fuse = bank.fuse;
  spared = bank.spared;
}
