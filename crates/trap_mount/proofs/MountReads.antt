-- Runs of calls that only read, and disks of which a crash leaves what a read gives.
use Rattle.std.proofs.Common.{◌≡◌, ℕ, ◌+◌, Bool, true, false, IsTrue, sym, subst, ◌∙◌}
use Rattle.trap_bank.specs.Disks.{View, Disks}
use Rattle.trap_bank.specs.Steps.{OnlyReads}
use Rattle.trap_bank.proofs.OnlyReads.{told_after, disks_same}
use Rattle.trap_bank.proofs.Rising.{rose_since, rose_later}
use Rattle.trap_model.specs.declared.numbers.Geometry.{Geometry}
use Rattle.trap_mount.specs.Mounting.{Refuses, RefusesAs, MountFails, SizesShow}
use Rattle.trap_mount.specs.declared.fault.MountFault.{MountFault}
use Rattle.trap_mount.specs.declared.fault.MountFault.TheVariants.{NotAnArray, BadVersion, WrongMember, TooManyLost, Damaged, LogFault, MemberFault, OutOfMemory}

-- a bank that tells still does
pub told_before : (a b : View) → OnlyReads a b → IsTrue b.tells → IsTrue a.tells
told_before a b reads told = subst IsTrue reads.moves.tells told

-- a refusal that comes later says the same of the disks before
pub refused_before : (a b : View) (why : MountFault) → OnlyReads a b → (IsTrue b.tells → Refuses b why) → IsTrue a.tells → Refuses a why
refused_before a b why reads refused told = subst (λ (x : Disks). RefusesAs x why) (disks_same a b reads told) (refused (told_after a b reads told))

-- and what failed later failed since before
pub cause_before : (a b c : View) (why : MountFault) → OnlyReads a b → MountFails why b c → MountFails why a c
cause_before a b c NotAnArray reads fails = tt
cause_before a b c (BadVersion version) reads fails = tt
cause_before a b c (WrongMember member) reads fails = tt
cause_before a b c (TooManyLost first second) reads fails = tt
cause_before a b c (Damaged offset) reads fails = tt
cause_before a b c LogFault reads fails = rose_since _ _ _ (reads.moves.faults 0) fails
cause_before a b c (MemberFault first second) reads fails = (fails.0, fails.1, rose_since _ _ _ (reads.moves.faults (second + 1)) fails.2)
cause_before a b c OutOfMemory reads fails = tt

-- what failed before a later run, which only reads, failed in both
pub cause_after : (a b c : View) (why : MountFault) → OnlyReads b c → MountFails why a b → MountFails why a c
cause_after a b c NotAnArray reads fails = tt
cause_after a b c (BadVersion version) reads fails = tt
cause_after a b c (WrongMember member) reads fails = tt
cause_after a b c (TooManyLost first second) reads fails = tt
cause_after a b c (Damaged offset) reads fails = tt
cause_after a b c LogFault reads fails = rose_later _ _ _ fails (reads.moves.faults 0)
cause_after a b c (MemberFault first second) reads fails = (fails.0, fails.1, rose_later _ _ _ fails.2 (reads.moves.faults (second + 1)))
cause_after a b c OutOfMemory reads fails = tt

-- what the sizes show later they showed before
pub sizes_before : (g : Geometry) (a b : View) (why : MountFault) → ((e : ℕ) → b.sizes e ≡ a.sizes e) → SizesShow g why b → SizesShow g why a
sizes_before g a b NotAnArray same shown = tt
sizes_before g a b (BadVersion version) same shown = tt
sizes_before g a b (WrongMember member) same shown = shown
sizes_before g a b (TooManyLost first second) same shown = record {
  first_inside = shown.first_inside;
  inside = shown.inside;
  apart = shown.apart;
  absent = sym (same (second + 1)) ∙ shown.absent;
  lowest = λ m below other none. shown.lowest m below other (same (m + 1) ∙ none);
}
sizes_before g a b (Damaged offset) same shown = tt
sizes_before g a b LogFault same shown = tt
sizes_before g a b (MemberFault first second) same shown = (shown.0, sym (same (second + 1)) ∙ shown.1)
sizes_before g a b OutOfMemory same shown = tt

-- false isn't true
pub false_true : (b : Bool) → b ≡ false → b ≡ true → ⊥
false_true b first second = cc
