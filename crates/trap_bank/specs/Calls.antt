-- What each call of a bank does, and what a crash may leave.
use Rattle.std.specs.Prelude.{◌≡◌, ◌≢◌, ◌⊎◌, ℕ, ◌+◌, ◌-◌, ◌^◌, ◌<◌, ◌≤◌, min, max, List, ◌++◌}
use Rattle.std.specs.Prelude.{length, replicate, Some, None, IsTrue, Result, OnOk, OnErr}
use Rattle.trap_bank.specs.Faults.{Rose}
use Rattle.trap_bank.specs.Disks.{Contents, View, Area, Within, Either, Differs, Torn, region}
use Rattle.trap_bank.specs.Disks.{size_of}

-- the bank tells, and the contents differ from these at most in the area
pub record LeftOver (area : Area) (v : View) (c : Contents) : Type 0 where
  pub told : IsTrue v.tells
  pub torn : Torn area v.now c

-- what a crash at this moment may leave
abbrev pub MayLeave : View → Contents → Type 0
MayLeave v = LeftOver v.unsynced v

-- the disk is there and has at least that many bytes
abbrev pub Fits : View → ℕ → ℕ → Type 0
Fits v d end = (n : ℕ) × (v.sizes d ≡ Some n) × (end ≤ n)

-- what holds of every bank
pub record IsLawful (v : View) : Type 0 where
  pub sized : IsTrue v.tells → (d : ℕ) → size_of (v.now.disks d) ≡ v.sizes d
  -- since this moment there is no other
  pub only_now : (c : Contents) → v.left v.moment c → MayLeave v c
  -- what a read gives is among what a crash may leave
  pub counts_now : (t : ℕ) → IsTrue v.tells → t ≤ v.moment → v.left t v.now

-- what every call does: no count falls, and time goes on
pub record IsOneCall {T E : Type 0} (result : Result T E) (old new : View) : Type 0 where
  pub tells : new.tells ≡ old.tells
  pub faults : (e : ℕ) → old.faults e ≤ new.faults e
  pub port_faults : old.port_faults ≤ new.port_faults
  pub later : old.moment ≤ new.moment
  pub rises : IsTrue old.tells → OnOk result (old.moment < new.moment)
  pub same_by_one : new.by_one ≡ old.by_one
  pub by_one : IsTrue old.tells → IsTrue old.by_one
      → new.moment ≡ max old.moment (min (old.moment + 1) (2 ^ 64 - 1))

-- what a crash since t may leave it might have left before, or in this call
pub record KeepsLeft (old new : View) (in_call : Contents → Type 0) : Type 0 where
  pub nothing_else : (t : ℕ) (c : Contents) → t ≤ old.moment → new.left t c
      → old.left t c ⊎ in_call c
  pub keeps : (t : ℕ) (c : Contents) → t ≤ old.moment → old.left t c → new.left t c

-- no position became unsynced
abbrev pub NoneUnsynced : View → View → Type 0
NoneUnsynced old new = (e i : ℕ) → new.unsynced e i → old.unsynced e i

-- the buffer is filled from the disk
pub record Reads {T E : Type 0} (d at : ℕ) (before after : List ℕ) (result : Result T E)
    (old new : View) : Type 0 where
  pub goes : IsOneCall result old new
  pub sizes : (e : ℕ) → new.sizes e ≡ old.sizes e
  pub cause : OnErr result (Rose (old.faults d) (new.faults d))
  pub time : KeepsLeft old new (MayLeave old)
  pub same : IsTrue old.tells → new.now ≡ old.now
  pub fewer : IsTrue old.tells → NoneUnsynced old new
  pub bytes : IsTrue old.tells → OnOk result (after ≡ region old.now.disks d at (length before))

-- the bytes are written over the disk's, and their range is unsynced
pub record Writes {T E : Type 0} (d at : ℕ) (bytes : List ℕ) (result : Result T E) (old new : View)
    : Type 0 where
  pub goes : IsOneCall result old new
  pub sizes : (e : ℕ) → new.sizes e ≡ old.sizes e
  pub cause : OnErr result (Rose (old.faults d) (new.faults d))
  pub time : KeepsLeft old new (LeftOver (Either old.unsynced (Within d at (length bytes))) old)
  pub torn : IsTrue old.tells → Torn (Within d at (length bytes)) old.now new.now
  pub written : IsTrue old.tells → OnOk result (region new.now.disks d at (length bytes) ≡ bytes)
  pub unsynced : IsTrue old.tells → (e i : ℕ) → new.unsynced e i
      → Either old.unsynced (Within d at (length bytes)) e i

-- no position of the disk stays unsynced
pub record Syncs {T E : Type 0} (d : ℕ) (result : Result T E) (old new : View) : Type 0 where
  pub goes : IsOneCall result old new
  pub sizes : (e : ℕ) → new.sizes e ≡ old.sizes e
  pub cause : OnErr result (Rose (old.faults d) (new.faults d))
  pub time : KeepsLeft old new (MayLeave old)
  pub same : IsTrue old.tells → new.now ≡ old.now
  pub fewer : IsTrue old.tells → NoneUnsynced old new
  pub synced : IsTrue old.tells → OnOk result ((i : ℕ) → new.unsynced d i → ⊥)

-- some first part of the piece was said
pub record SaysPart (piece : List ℕ) (old new : Contents) : Type 0 where
  pub part : List ℕ
  pub rest : List ℕ
  pub whole : part ++ rest ≡ piece
  pub said : new.said ≡ old.said ++ part

-- what a crash may leave while a piece is said
pub record LeftSaying (piece : List ℕ) (v : View) (c : Contents) : Type 0 where
  pub told : IsTrue v.tells
  pub disks : Differs v.unsynced v.now.disks c.disks
  pub says : SaysPart piece v.now c

-- the piece is said on the port
pub record Says {T E : Type 0} (piece : List ℕ) (result : Result T E) (old new : View)
    : Type 0 where
  pub goes : IsOneCall result old new
  pub sizes : (e : ℕ) → new.sizes e ≡ old.sizes e
  pub cause : OnErr result (Rose old.port_faults new.port_faults)
  pub time : KeepsLeft old new (LeftSaying piece old)
  pub disks : IsTrue old.tells → new.now.disks ≡ old.now.disks
  pub fewer : IsTrue old.tells → NoneUnsynced old new
  pub said : IsTrue old.tells → OnOk result (new.now.said ≡ old.now.said ++ piece)
  pub part : IsTrue old.tells → SaysPart piece old.now new.now

-- the disk is as before, or absent, or has at most n bytes, all zero; all else is the same
pub record Remade (d n : ℕ) (old new : Contents) : Type 0 where
  pub others : (e : ℕ) → e ≢ d → new.disks e ≡ old.disks e
  pub said : new.said ≡ old.said
  pub disk : (new.disks d ≡ old.disks d) ⊎ (new.disks d ≡ None)
      ⊎ ((k : ℕ) × (k ≤ n) × (new.disks d ≡ Some (replicate k 0)))

-- what a crash may leave while a disk is made
pub record LeftMaking (d n : ℕ) (v : View) (c : Contents) : Type 0 where
  pub told : IsTrue v.tells
  pub from : Contents
  pub before : Torn v.unsynced v.now from
  pub step : Remade d n from c

-- the disk gets n zero bytes, whatever it was, and these are stable
pub record Makes {T E : Type 0} (d n : ℕ) (result : Result T E) (old new : View) : Type 0 where
  pub goes : IsOneCall result old new
  pub others : (e : ℕ) → e ≢ d → new.sizes e ≡ old.sizes e
  pub sized : OnOk result (new.sizes d ≡ Some n)
  pub resized : (new.sizes d ≡ old.sizes d) ⊎ (new.sizes d ≡ None)
      ⊎ ((k : ℕ) × (k ≤ n) × (new.sizes d ≡ Some k))
  pub cause : OnErr result (Rose (old.faults d) (new.faults d))
  pub time : KeepsLeft old new (LeftMaking d n old)
  pub step : IsTrue old.tells → Remade d n old.now new.now
  pub zeros : IsTrue old.tells → OnOk result (new.now.disks d ≡ Some (replicate n 0))
  pub fewer : IsTrue old.tells → NoneUnsynced old new
  pub stable : IsTrue old.tells → (new.now.disks d ≡ old.now.disks d)
      ⊎ ((i : ℕ) → new.unsynced d i → ⊥)
  pub settled : IsTrue old.tells → OnOk result ((i : ℕ) → new.unsynced d i → ⊥)
