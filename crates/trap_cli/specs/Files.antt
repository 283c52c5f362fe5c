-- What contracts see of a bank of files: sizes and counts of faults, and nothing of content.
use Rattle.std.specs.Prelude.{ℕ, List, [], Option, Some, None, Bool, true, false, IsTrue, get_or}
use Rattle.std.proofs.Common.{subst}
use Rattle.trap_bank.specs.Disks.{Contents, View}
use Rattle.trap_bank.specs.Calls.{IsLawful}
use Rattle.trap_cli.specs.declared.edge.bank.OpenDisk.{OpenDisk}

-- the size of a file that is open
abbrev pub open_size : {F : Type 0} → Option (OpenDisk F) → Option ℕ
open_size None = None
open_size (Some disk) = Some disk.size

-- no disks, and nothing said
abbrev pub no_contents : Contents
no_contents = record { disks = λ d. None; said = [] }

abbrev pub untold_view : {F : Type 0} → List (Option (OpenDisk F)) → List ℕ → ℕ → View
untold_view disks faults port_faults = record {
  tells = false;
  sizes = λ d. open_size (get_or disks d None);
  now = no_contents;
  unsynced = λ d i. ⊥;
  faults = λ d. get_or faults d 0;
  port_faults = port_faults;
  moment = 0;
  by_one = false;
  left = λ t c. ⊥;
}

abbrev is_false : Bool → Type 0
is_false false = Unit {0}
is_false true = ⊥

pub untold : {P : Type 0} → IsTrue false → P
untold told = absurd (subst is_false told tt)

-- what tells nothing owes nothing of content
pub untold_lawful : {F : Type 0} (disks : List (Option (OpenDisk F))) (faults : List ℕ)
    (port_faults : ℕ)
    → IsLawful (untold_view disks faults port_faults)
untold_lawful disks faults port_faults = record {
  sized = λ told. untold told;
  only_now = λ c left. absurd left;
  counts_now = λ t told. untold told;
}
