-- What a run of calls does to a bank, crashes at any moment included.
use Rattle.std.specs.Prelude.{◌≡◌, ◌⊎◌, ℕ, ◌≤◌, List, ◌++◌, length, IsTrue}
use Rattle.trap_bank.specs.Disks.{Contents, View, Disks, Quiet, Differs, Within, region}
use Rattle.trap_bank.specs.Calls.{MayLeave, SaysPart}

-- the contents come by this relation from what a crash at that moment may leave
pub record From (v : View) (step : Contents → Contents → Type 0) (c : Contents) : Type 0 where
  pub origin : Contents
  pub was : MayLeave v origin
  pub by : step origin c

-- Each crash during the run leaves what comes by the first relation from what a crash on entry may
-- leave, and each crash now what comes so by the second. No count fell.
pub record Steps (old new : View) (during after : Contents → Contents → Type 0) : Type 0 where
  pub tells : new.tells ≡ old.tells
  pub faults : (e : ℕ) → old.faults e ≤ new.faults e
  pub port_faults : old.port_faults ≤ new.port_faults
  pub later : old.moment ≤ new.moment
  pub in_run : (t : ℕ) (c : Contents) → t ≤ old.moment → new.left t c
      → old.left t c ⊎ From old during c
  pub now : (c : Contents) → MayLeave new c → From old after c

-- the same, where nothing is said
abbrev pub Moves : View → View → (Disks → Disks → Type 0) → (Disks → Disks → Type 0) → Type 0
Moves old new during after = Steps old new (Quiet during) (Quiet after)

abbrev pub Same : Disks → Disks → Type 0
Same old new = new ≡ old

-- these bytes stand there, and nothing else differs
pub record Placed (d at : ℕ) (bytes : List ℕ) (old new : Disks) : Type 0 where
  pub differs : Differs (Within d at (length bytes)) old new
  pub there : region new d at (length bytes) ≡ bytes

-- and of this disk a crash leaves what a read gives
pub record PlacedThrough (v : View) (d at : ℕ) (bytes : List ℕ) (old new : Disks) : Type 0 where
  pub placed : Placed d at bytes old new
  pub read : new d ≡ v.now.disks d

-- the whole piece was said, and the disks are the same
pub record Spoke (piece : List ℕ) (old new : Contents) : Type 0 where
  pub disks : new.disks ≡ old.disks
  pub said : new.said ≡ old.said ++ piece

-- some first part of the piece was said, and the disks are the same
pub record SpokePart (piece : List ℕ) (old new : Contents) : Type 0 where
  pub disks : new.disks ≡ old.disks
  pub says : SaysPart piece old new

-- The run only read: sizes, what a read gives and what was said are the same, also after a crash at
-- any moment.
pub record OnlyReads (old new : View) : Type 0 where
  pub sizes : (e : ℕ) → new.sizes e ≡ old.sizes e
  pub same : IsTrue old.tells → new.now ≡ old.now
  pub moves : Moves old new Same Same

-- every crash now leaves disks with this
abbrev pub Always : View → (Disks → Type 0) → Type 0
Always v has = (c : Contents) → MayLeave v c → has c.disks
