-- An instant that is asked for: by a number, or by a time.
use Rattle.std.specs.Prelude.{◌≡◌, ℕ, Option, IsTrue}
use Rattle.trap_bank.specs.Disks.{Disks, View}
use Rattle.trap_index.specs.Indexed.{Indexed, IsLastBy}
use Rattle.trap_model.specs.declared.numbers.Geometry.{Geometry}
use Rattle.trap_model.specs.declared.request.Refusal.{Refusal}
use Rattle.trap_model.specs.declared.request.Request.{Request}
use Rattle.trap_model.specs.declared.request.Request.TheVariants.{At, By}
use Rattle.trap_array.specs.Calls.{Mounted}
use Rattle.trap_array.specs.Causes.{Reasons, of_reading}
use Rattle.trap_array.specs.Instants.{HasBadRecord, number_refused, time_refused}
use Rattle.trap_array.specs.declared.instant.Instant.{Instant}
use Rattle.trap_array.specs.declared.instant.Instant.TheVariants.{Number, Time}

-- the request for a block as it was then
abbrev pub request_at : Instant → ℕ → Request
request_at (Number seq) block = At seq block
request_at (Time time) block = By time block

-- why the instant is refused, by the index of what is retained
abbrev pub instant_refused : Indexed → Instant → Option Refusal
instant_refused i (Number seq) = number_refused i seq
instant_refused i (Time time) = time_refused i time

-- why a read of it may answer no value
abbrev pub of_instant : Mounted → Instant → Reasons
of_instant a instant = of_reading a (instant_refused a.index instant)

-- it is the instant after the entry with this number
abbrev pub IsAfter : Indexed → Instant → ℕ → Type 0
IsAfter i (Number seq) q = q ≡ seq
IsAfter i (Time time) q = IsLastBy i time q

-- one of the block's entries after the instant is damaged, with its record at that byte of disk 0
pub record HasBadRecordAfter (g : Geometry) (i : Indexed) (block : ℕ) (instant : Instant)
    (disks : Disks) (offset : ℕ) : Type 0 where
  pub q : ℕ
  pub after : IsAfter i instant q
  pub later : HasBadRecord g i block q disks offset

-- so it is, where the bank tells
abbrev pub IsDamagedSince : Mounted → ℕ → Instant → View → ℕ → Type 0
IsDamagedSince a block instant old offset = IsTrue old.tells
    → HasBadRecordAfter a.g a.index block instant old.now.disks offset
