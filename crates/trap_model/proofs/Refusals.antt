-- Why a write is refused, by the tests in their order.
use Rattle.std.proofs.Common.{◌≡◌, ◌≢◌, ℕ, ◌+◌, ◌<◌, ◌≤◌, ◌^◌, length, Option, Some, None, Bool, true, false, if◌then◌else◌, nat_lt, nat_le, ◌==◌, refl, ◌∙◌}
use Rattle.std.proofs.lemmas.Bool.{lt-ltb, le-ltb, le-leb, lt-leb, eq-eqb, ne_eqb, or_from, or_left, or_right}
use Rattle.trap_model.specs.declared.numbers.Geometry.{Geometry}
use Rattle.trap_model.specs.declared.history.Entry.{Entry}
use Rattle.trap_model.specs.declared.history.State.{State}
use Rattle.trap_model.specs.declared.request.Refusal.{Refusal}
use Rattle.trap_model.specs.declared.request.Refusal.TheVariants.{NoBlock, TimeBack, Worn, Full}
use Rattle.trap_model.specs.Image.{volume, block_of}
use Rattle.trap_model.specs.Size.{entry_size}
use Rattle.trap_model.specs.State.{last, last_time, image, kept}
use Rattle.trap_model.specs.ArrayStep.{full, write_refusal, block_first}

-- a test that refuses, and one that doesn't
refused : (b : Bool) (why : Refusal) (other : Option Refusal) → b ≡ true → (if b then Some why else other) ≡ Some why
refused true why other e = refl
refused false why other e = cc

passed : (b : Bool) (why : Refusal) (other : Option Refusal) → b ≡ false → (if b then Some why else other) ≡ other
passed true why other e = cc
passed false why other e = refl

-- a block beyond the volume, and one of the array
pub no_block : (g : Geometry) (block : ℕ) (other : Option Refusal) → volume g ≤ block → block_first g block other ≡ Some NoBlock
no_block g block other beyond = refused (nat_le (volume g) block) NoBlock other (le-leb (volume g) block beyond)

pub is_block : (g : Geometry) (block : ℕ) (other : Option Refusal) → block < volume g → block_first g block other ≡ other
is_block g block other inside = passed (nat_le (volume g) block) NoBlock other (lt-leb (volume g) block inside)

module _ (g : Geometry) (s : State) (entry : Entry) where
  -- a time before the last one
  pub write_back : entry.time < last_time s → write_refusal g s entry ≡ Some (TimeBack (last_time s))
  write_back before = refused (nat_lt entry.time (last_time s)) _ _ (lt-ltb entry.time (last_time s) before)

  after_time : last_time s ≤ entry.time → write_refusal g s entry ≡ (if last s == 2 ^ 40 then Some Worn else if full g s entry then Some Full else None)
  after_time time = passed (nat_lt entry.time (last_time s)) _ _ (le-ltb entry.time (last_time s) time)

  -- all numbers are given
  pub write_worn : last_time s ≤ entry.time → last s ≡ 2 ^ 40 → write_refusal g s entry ≡ Some Worn
  write_worn time worn = after_time time ∙ refused (last s == 2 ^ 40) _ _ (eq-eqb (last s) (2 ^ 40) worn)

  after_number : last_time s ≤ entry.time → last s ≢ 2 ^ 40 → write_refusal g s entry ≡ (if full g s entry then Some Full else None)
  after_number time number = after_time time ∙ passed (last s == 2 ^ 40) _ _ (ne_eqb (last s) (2 ^ 40) number)

  -- there are as many entries as may be
  pub write_many : last_time s ≤ entry.time → last s ≢ 2 ^ 40 → length s.entries ≡ g.entries → write_refusal g s entry ≡ Some Full
  write_many time number many = after_number time number ∙ refused (full g s entry) _ _
      (or_left (length s.entries == g.entries) (nat_lt g.ring (kept s + entry_size (block_of (image s) entry.block) entry)) (eq-eqb (length s.entries) g.entries many))

  -- the record doesn't fit into the ring
  pub write_big : last_time s ≤ entry.time → last s ≢ 2 ^ 40 → g.ring < kept s + entry_size (block_of (image s) entry.block) entry → write_refusal g s entry ≡ Some Full
  write_big time number big = after_number time number ∙ refused (full g s entry) _ _
      (or_right (length s.entries == g.entries) (nat_lt g.ring (kept s + entry_size (block_of (image s) entry.block) entry))
      (lt-ltb g.ring (kept s + entry_size (block_of (image s) entry.block) entry) big))

  -- nothing is against it
  pub write_goes : last_time s ≤ entry.time → last s ≢ 2 ^ 40 → length s.entries ≢ g.entries → kept s + entry_size (block_of (image s) entry.block) entry ≤ g.ring → write_refusal g s entry ≡ None
  write_goes time number few fits = after_number time number ∙ passed (full g s entry) _ _
      (or_from (length s.entries == g.entries) (nat_lt g.ring (kept s + entry_size (block_of (image s) entry.block) entry))
      (ne_eqb (length s.entries) g.entries few) (le-ltb g.ring (kept s + entry_size (block_of (image s) entry.block) entry) fits))
