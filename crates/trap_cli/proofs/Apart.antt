-- A state stays held where no disk of the array's log and members changed.
use Rattle.std.proofs.Common.{◌≡◌, inl, inr, ℕ, ◌+◌, ◌<◌, ◌≤◌, List, Option, Some, None, Bool, true, false, IsTrue, refl, sym, ap, ap₂, subst, ◌∙◌, arith}
use Rattle.std.specs.Prelude.{slice_index, unwrap_or}
use Rattle.trap_bank.specs.Disks.{Disks, View, bytes_of, byte, region, size_of}
use Rattle.trap_cell.specs.Slots.{slot_at, current, gate_of, turn_of, current_slot, value_at, cell_value}
use Rattle.trap_format.specs.LogDisk.{IsLogHeader, slot_len}
use Rattle.trap_format.specs.declared.head.Head.{Head}
use Rattle.trap_model.specs.declared.numbers.Geometry.{Geometry}
use Rattle.trap_model.specs.declared.history.State.{State}
use Rattle.trap_raid.specs.Members.{MembersHold, IsMember, IsOut}
use Rattle.trap_ring.specs.Ring.{ring_pos}
use Rattle.trap_stage.specs.Slots.{slot_start}
use Rattle.trap_stage.specs.Staged.{Staged, newest_at}
use Rattle.trap_array.specs.Holding.{HoldsBy, head_place, log_ring}
use Rattle.trap_cli.specs.Frame.{StaysHeld}

-- a disk that is the same reads the same
region_like : (x y : Disks) (d at n : ℕ) → y d ≡ x d → region y d at n ≡ region x d at n
region_like x y d at n same = ap (λ (bytes : Option (List ℕ)). region (λ e. bytes) d at n) same

-- and so does a cell on it
cell_like : (x y : Disks) → y 0 ≡ x 0 → cell_value head_place y ≡ cell_value head_place x
cell_like x y same = ap (λ (slot : Option Bool). value_at slot head_place y) slots ∙ value (current_slot head_place x)
  where
    at : (i : ℕ) → byte y 0 i ≡ byte x 0 i
    at i = ap (λ (bytes : Option (List ℕ)). slice_index (bytes_of bytes) i) same

    slots : current_slot head_place y ≡ current_slot head_place x
    slots = ap₂ (λ (gate turn : ℕ). current gate turn (gate_of head_place true y) (turn_of head_place true y))
        (at (slot_at head_place false)) (at (slot_at head_place false + 1))
        ∙ ap₂ (λ (gate turn : ℕ). current (gate_of head_place false x) (turn_of head_place false x) gate turn)
        (at (slot_at head_place true)) (at (slot_at head_place true + 1))

    value : (slot : Option Bool) → value_at slot head_place y ≡ value_at slot head_place x
    value None = refl
    value (Some second) = ap {B = Option (List ℕ)} Some (region_like x y 0 (slot_at head_place second + 2) 62 same)

module _ (x y : Disks) (same : (e : ℕ) → e ≤ 16 → y e ≡ x e) (g : Geometry) where
  member_like : (m : ℕ) → m < g.members → y (m + 1) ≡ x (m + 1)
  member_like m inside = let most = g.within.members_most in same (m + 1) (omega (arith, inside, most))

  is_member_like : (m : ℕ) → m < g.members → IsMember g x m → IsMember g y m
  is_member_like m inside is = record {
    size = ap size_of (member_like m inside) ∙ is.size;
    header = region_like x y (m + 1) 0 16 (member_like m inside) ∙ is.header;
  }

  was_member : (m : ℕ) → m < g.members → IsMember g y m → IsMember g x m
  was_member m inside is = record {
    size = sym (ap size_of (member_like m inside)) ∙ is.size;
    header = sym (region_like x y (m + 1) 0 16 (member_like m inside)) ∙ is.header;
  }

  was_out : (lost : Option ℕ) (m : ℕ) → m < g.members → IsOut lost y m → IsOut lost x m
  was_out lost m inside (inl is) = inl is
  was_out lost m inside (inr absent) = inr (sym (member_like m inside) ∙ absent)

  is_out : (lost : Option ℕ) (m : ℕ) → m < g.members → IsOut lost x m → IsOut lost y m
  is_out lost m inside (inl is) = inl is
  is_out lost m inside (inr absent) = inr (member_like m inside ∙ absent)

  members_like : (lost : Option ℕ) (rebuilt : ℕ) (writes : List Staged) (image : List (List ℕ))
      → MembersHold g lost rebuilt writes image x → MembersHold g lost rebuilt writes image y
  members_like lost rebuilt writes image hold = record {
    one_out = λ m k in_m in_k out_m out_k. hold.one_out m k in_m in_k (was_out lost m in_m out_m) (was_out lost k in_k out_k);
    made = λ m inside there. is_member_like m inside (hold.made m inside (λ out. there (is_out lost m inside out)));
    places = λ row m in_rows inside trusted.
        ap (λ (bytes : List ℕ). unwrap_or (newest_at g writes row m) bytes) (region_like x y (m + 1) _ g.block (member_like m inside))
        ∙ hold.places row m in_rows inside (record { made = was_member m inside trusted.made; counts = trusted.counts });
  }

  -- where disks 0 to 16 are the same
  pub holds_apart : (h : Head) (s : State) → HoldsBy g h s x → HoldsBy g h s y
  holds_apart h s by =
      let log : y 0 ≡ x 0 = same 0 (omega arith) in
      record {
        value = cell_like x y log ∙ by.value;
        fits = record {
          valid = by.fits.valid;
          head = by.fits.head;
          log = record {
            size = ap size_of log ∙ by.fits.log.size;
            header = subst (λ (bytes : List ℕ). IsLogHeader g bytes) (sym (region_like x y 0 0 64 log)) by.fits.log.header;
            id = by.fits.log.id;
          };
          ring = λ k below. ap (λ (bytes : Option (List ℕ)). slice_index (bytes_of bytes) (ring_pos (log_ring g) (h.first_off + k))) log ∙ by.fits.ring k below;
          slots = λ q low high. region_like x y 0 (slot_start g q) (slot_len g) log ∙ by.fits.slots q low high;
          members = members_like h.lost h.rebuilt _ _ by.fits.members;
        };
      }

-- a run that leaves disks 0 to 16 keeps what they hold
pub held_apart : (old new : View) → (IsTrue old.tells → (e : ℕ) → e ≤ 16 → new.now.disks e ≡ old.now.disks e) → StaysHeld old new
held_apart old new same g s h told was = record {
  state = s;
  head = h;
  by = holds_apart old.now.disks new.now.disks (same told) g h s was;
  keeps = record { lost = λ m lost. inl lost; mark = λ m before after lower. absurd (omega (arith, lower)) };
}
