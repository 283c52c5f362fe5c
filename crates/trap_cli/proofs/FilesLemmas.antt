-- What each call does to a bank of files, which tells nothing of content.
use Rattle.std.proofs.Common.{◌≡◌, ℕ, ◌<◌, ◌≤◌, List, length, slice_set, ap, Option, None, Result, Ok, Err, OnOk, OnErr, get_or, refl, inl, inr, arith, rules}
use Rattle.trap_bank.specs.Faults.{Rose}
use Rattle.trap_bank.specs.Disks.{Contents}
use Rattle.trap_bank.specs.Calls.{IsOneCall, KeepsLeft, Reads, Writes, Syncs, Makes}
use Rattle.trap_cli.specs.declared.edge.bank.OpenDisk.{OpenDisk}
use Rattle.trap_cli.specs.Counts.{Blames}
use Rattle.trap_cli.specs.Files.{untold_view, untold, open_size}

-- where the call blamed the disk, its count rose
settled_cause : {T E : Type 0} (d : ℕ) (old new : List ℕ) (result : Result T E)
    → OnErr result (Blames d old new) → OnErr result (Rose (get_or old d 0) (get_or new d 0))
settled_cause d old new (Ok value) blamed = search rules
settled_cause d old new (Err error) blamed = omega arith

-- no count fell
settled_later : {T E : Type 0} (d : ℕ) (old new : List ℕ) (result : Result T E)
    → OnErr result (Blames d old new) → OnOk result (new ≡ old) → (e : ℕ) → get_or old e 0 ≤ get_or new e 0
settled_later d old new (Ok value) blamed same e = rw same (omega arith)
settled_later d old new (Err error) blamed same e = blamed.later e

module _ {F : Type 0} (disks disks' : List (Option (OpenDisk F))) (faults faults' : List ℕ) (port port' : ℕ) where
  untold_goes : {T E : Type 0} (result : Result T E) → ((e : ℕ) → get_or faults e 0 ≤ get_or faults' e 0) → port ≤ port'
      → IsOneCall result (untold_view disks faults port) (untold_view disks' faults' port')
  untold_goes result later port_later = record {
    tells = refl;
    faults = later;
    port_faults = port_later;
    later = omega arith;
    rises = λ told. untold told;
    same_by_one = refl;
    by_one = λ told one. untold told;
  }

  untold_elapses : (in_call : Contents → Type 0)
      → KeepsLeft (untold_view disks faults port) (untold_view disks' faults' port') in_call
  untold_elapses in_call = record { nothing_else = λ t c before left. absurd left; keeps = λ t c before left. absurd left }

module _ {F T E : Type 0} (disks : List (Option (OpenDisk F))) (d : ℕ) (faults faults' : List ℕ) (port : ℕ) (result : Result T E)
    (blamed : OnErr result (Blames d faults faults')) (same : OnOk result (faults' ≡ faults)) where
  pub untold_reads : (at : ℕ) (before after : List ℕ)
      → Reads d at before after result (untold_view disks faults port) (untold_view disks faults' port)
  untold_reads at before after = record {
    goes = untold_goes disks disks faults faults' port port result (settled_later d faults faults' result blamed same) (omega arith);
    sizes = λ e. refl;
    cause = settled_cause d faults faults' result blamed;
    time = untold_elapses disks disks faults faults' port port _;
    same = λ told. untold told;
    fewer = λ told. untold told;
    bytes = λ told. untold told;
  }

  pub untold_writes : (at : ℕ) (bytes : List ℕ)
      → Writes d at bytes result (untold_view disks faults port) (untold_view disks faults' port)
  untold_writes at bytes = record {
    goes = untold_goes disks disks faults faults' port port result (settled_later d faults faults' result blamed same) (omega arith);
    sizes = λ e. refl;
    cause = settled_cause d faults faults' result blamed;
    time = untold_elapses disks disks faults faults' port port _;
    torn = λ told. untold told;
    written = λ told. untold told;
    unsynced = λ told. untold told;
  }

  pub untold_syncs : Syncs d result (untold_view disks faults port) (untold_view disks faults' port)
  untold_syncs = record {
    goes = untold_goes disks disks faults faults' port port result (settled_later d faults faults' result blamed same) (omega arith);
    sizes = λ e. refl;
    cause = settled_cause d faults faults' result blamed;
    time = untold_elapses disks disks faults faults' port port _;
    same = λ told. untold told;
    fewer = λ told. untold told;
    synced = λ told. untold told;
  }

-- a disk that could not be made is closed
pub untold_unmade : {F T E : Type 0} (disks : List (Option (OpenDisk F))) (d : ℕ) (faults faults' : List ℕ) (port n : ℕ) {error : E}
    → d < length disks → Blames d faults faults'
    → Makes {T = T} d n (Err error) (untold_view disks faults port) (untold_view (slice_set disks d None) faults' port)
untold_unmade disks d faults faults' port n within blamed = record {
  goes = untold_goes disks (slice_set disks d None) faults faults' port port _ blamed.later (omega arith);
  others = λ e other. ap open_size (search rules);
  sized = search rules;
  resized = inr (inl (search rules));
  cause = omega arith;
  time = untold_elapses disks (slice_set disks d None) faults faults' port port _;
  step = λ told. untold told;
  zeros = λ told. untold told;
  fewer = λ told. untold told;
  stable = λ told. untold told;
  settled = λ told. untold told;
}
