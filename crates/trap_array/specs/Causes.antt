-- Why a call of a mounted array answers no value.
use Rattle.std.specs.Prelude.{◌≡◌, ◌≢◌, ◌↔◌, ◌⊎◌, ℕ, ◌<◌, ◌≤◌, Option, Some, None, true, false}
use Rattle.std.specs.Prelude.{Bool}
use Rattle.std.specs.Prelude.{Result, Err}
use Rattle.trap_bank.specs.Disks.{View}
use Rattle.trap_bank.specs.Faults.{Rose}
use Rattle.trap_model.specs.Image.{volume}
use Rattle.trap_model.specs.Limits.{greatest_record}
use Rattle.trap_model.specs.declared.numbers.Geometry.{Geometry}
use Rattle.trap_model.specs.declared.request.Refusal.{Refusal}
use Rattle.trap_model.specs.declared.request.Refusal.TheVariants.{NoBlock, Full}
use Rattle.trap_raid.specs.Members.{Counts}
use Rattle.trap_array.specs.Calls.{Mounted, MemberFails}
use Rattle.trap_array.specs.Instants.{number_refused, time_refused}
use Rattle.trap_array.specs.Turning.{IsFull, early_refusal}
use Rattle.trap_array.specs.Untouched.{Untouched}
use Rattle.trap_array.specs.declared.fault.Denied.{Denied}
use Rattle.trap_array.specs.declared.fault.Denied.TheVariants.{Refused, LogFault, MemberFault}
use Rattle.trap_array.specs.declared.fault.Denied.TheVariants.{Stopped}

-- why a call for a block that is there may answer no value
pub record Reasons : Type 1 where
  -- why the array's own numbers refuse it
  pub own : Option Refusal
  -- there may be no room
  pub tight : Type 0
  -- the members whose disks it uses
  pub uses : ℕ → Type 0

-- a write reads members that aren't lost, and writes those of which some row counts
abbrev pub of_write : Mounted → ℕ → Reasons
of_write a time = record {
  own = early_refusal a.head time;
  tight = IsFull a.g a.head (greatest_record a.g.block);
  uses = λ member. Counts a.head.lost a.head.rebuilt 0 member;
}

-- the lost member's places are never read
abbrev pub of_reading : Mounted → Option Refusal → Reasons
of_reading a refusal = record {
  own = refusal;
  tight = ⊥;
  uses = λ member. a.head.lost ≢ Some member;
}

abbrev pub of_read : Mounted → Reasons
of_read a = of_reading a None

abbrev pub of_number : Mounted → ℕ → Reasons
of_number a seq = of_reading a (number_refused a.index seq)

abbrev pub of_time : Mounted → ℕ → Reasons
of_time a time = of_reading a (time_refused a.index time)

-- what is denied before anything else, in this order: a block that isn't there, and then any by a
-- stopped array
abbrev pub DeniesAtOnce : Geometry → Bool → ℕ → Denied → Type 0
DeniesAtOnce g is_stopped block why = ((why ≡ Refused NoBlock) × (volume g ≤ block))
    ⊎ ((why ≡ Stopped) × (block < volume g) × (is_stopped ≡ true))

-- A block that isn't there is refused first, and then a stopped array denies it. Then the array's
-- own numbers refuse it, whatever the bank tells. None of these makes a call of the bank. Where a
-- disk failed, its count rose.
pub record DeniedBy {T : Type 0} (a : Mounted) (block : ℕ) (reasons : Reasons)
    (result : Result T Denied) (old new : View) : Type 0 where
  pub no_block : (result ≡ Err (Refused NoBlock)) ↔ (volume a.g ≤ block)
  pub stopped : (result ≡ Err Stopped) ↔ ((block < volume a.g) × (a.is_stopped ≡ true))
  pub untouched : (volume a.g ≤ block) ⊎ (a.is_stopped ≡ true) → Untouched old new
  pub at_once : (why : Refusal) → reasons.own ≡ Some why → Untouched old new
  pub refused : (why : Refusal) → why ≢ NoBlock → why ≢ Full
      → (result ≡ Err (Refused why)) ↔ ((block < volume a.g) × (a.is_stopped ≡ false)
      × (reasons.own ≡ Some why))
  pub full : result ≡ Err (Refused Full) → reasons.tight
  pub log : result ≡ Err LogFault → Rose (old.faults 0) (new.faults 0)
  pub member : (first second : ℕ) → result ≡ Err (MemberFault first second)
      → MemberFails a first second old new
  pub used : (first second : ℕ) → result ≡ Err (MemberFault first second) → reasons.uses second
