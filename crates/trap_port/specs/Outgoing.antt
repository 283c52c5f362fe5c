-- Bytes that wait for the port, and how they are said.
use Rattle.std.specs.Prelude.{◌≡◌, ℕ, List, ◌++◌, IsTrue, Result, Ok, Err, OnErr}
use Rattle.trap_bank.specs.Disks.{Contents, View}
use Rattle.trap_bank.specs.Called.{CalledAtMost}
use Rattle.trap_bank.specs.Faults.{Rose}
use Rattle.trap_bank.specs.Steps.{Steps, SpokePart}

-- bytes that wait, in a room for that many
pub record Waiting : Type 0 where
  pub room : ℕ
  pub bytes : List ℕ

-- no disk changed
pub record KeepsDisks (old new : View) : Type 0 where
  pub sizes : (e : ℕ) → new.sizes e ≡ old.sizes e
  pub disks : IsTrue old.tells → new.now.disks ≡ old.now.disks

-- the disks are the same; a first part of the bytes that waited was said, and the others wait still
pub record SpokeBut (waited left : List ℕ) (old new : Contents) : Type 0 where
  pub disks : new.disks ≡ old.disks
  pub part : List ℕ
  pub said : new.said ≡ old.said ++ part
  pub whole : part ++ left ≡ waited

-- all that waited was said but what is left; where the port failed, a first part of it
abbrev pub SpokeWaiting : {T E : Type 0} → List ℕ → List ℕ → Result T E → Contents → Contents
    → Type 0
SpokeWaiting waited left (Ok value) old new = SpokeBut waited left old new
SpokeWaiting waited left (Err e) old new = SpokePart waited old new

-- What waited is being said, in one call at most; it fails only where the port's count rose. No
-- disk changes, stopped at any moment too.
pub record SaysWaiting {T E : Type 0} (waited left : List ℕ) (result : Result T E)
    (old new : View) : Type 0 where
  pub steps : Steps old new (SpokePart waited) (SpokeWaiting waited left result)
  pub disks : KeepsDisks old new
  pub cause : OnErr result (Rose old.port_faults new.port_faults)
  pub calls : CalledAtMost 1 old new
