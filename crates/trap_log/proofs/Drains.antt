-- A drain on disks: which bytes it may write, and what the disks fit then.
use Rattle.std.proofs.Common.{◌≡◌, ℕ, ◌+◌, ◌-◌, ◌≤◌, List, ◌++◌, drop, ⊎_elim, subst, arith}
use Rattle.trap_bank.specs.Disks.{Disks, Within}
use Rattle.trap_format.specs.declared.head.Head.{Head}
use Rattle.trap_model.specs.State.{last, image, kept}
use Rattle.trap_model.specs.declared.history.State.{State}
use Rattle.trap_model.specs.declared.numbers.Geometry.{Geometry}
use Rattle.trap_raid.specs.Draining.{AreDrained}
use Rattle.trap_raid.specs.Members.{MembersHold, InHeaders, InPlaces, Covered}
use Rattle.trap_raid.proofs.MemberLemmas.{drained_members, covered_apart}
use Rattle.trap_ring.specs.Ring.{InRing}
use Rattle.trap_stage.specs.Pending.{pending}
use Rattle.trap_stage.specs.Slots.{InSlots}
use Rattle.trap_stage.specs.Staged.{Staged}
use Rattle.trap_stage.proofs.PendingWrites.{pending-split}
use Rattle.trap_mount.specs.Holding.{log_ring, MatchesHead, Outside}
use Rattle.trap_log.specs.NextHead.{drained_to}
use Rattle.trap_log.proofs.NextHeads.{head_drained}

-- the places that the older of the pending writes cover don't matter
pub covered_outside : (g : Geometry) (h : Head) (s : State) (newer older : List Staged) → pending g s h.drained ≡ newer ++ older → (f i : ℕ) → Covered g older f i → Outside g h s f i
covered_outside g h s newer older parts f i covered =
    let apart = covered_apart g h.lost h.rebuilt newer older f i covered in
    let there : f ≡ covered.member + 1 = covered.within.disk in
    record {
      cell = λ cell. omega (arith, there, cell.disk);
      rest = λ matters. ⊎_elim (λ (header : Within 0 0 64 f i). omega (arith, there, header.disk))
          (λ rest. ⊎_elim (λ (window : InRing (log_ring g) h.first_off (kept s) f i). omega (arith, there, window.disk))
          (λ rest. ⊎_elim (λ (slots : InSlots g h.drained (last s) f i). omega (arith, there, slots.within.disk))
          (λ rest. ⊎_elim (λ (headers : InHeaders g h.lost h.rebuilt f i). apart.1 headers)
          (λ (places : InPlaces g h.lost h.rebuilt (pending g s h.drained) f i). apart.0 (subst (λ (writes : List Staged). InPlaces g h.lost h.rebuilt writes f i) parts
          places)) rest) rest) rest) matters;
    }

-- with the older ones on the members, the disks fit a head that says so
pub drained_fits : (g : Geometry) (h : Head) (s : State) (upto : ℕ) (x : Disks) → MatchesHead g h s x → h.drained ≤ upto → upto ≤ h.last
    → AreDrained g h.lost h.rebuilt (drop (last s - upto) (pending g s h.drained)) x → MatchesHead g (drained_to h upto) s x
drained_fits g h s upto x fits low high drained =
    let parts = pending-split g s h.drained upto low (omega (arith, high, fits.head.last)) in
    record {
      valid = fits.valid;
      head = record {
        head = head_drained g h fits.head.head upto low high;
        first = fits.head.first;
        base_time = fits.head.base_time;
        last = fits.head.last;
        last_time = fits.head.last_time;
        window = fits.head.window;
      };
      log = fits.log;
      ring = fits.ring;
      slots = λ q above most. fits.slots q (omega (arith, above, low)) most;
      members = drained_members g h.lost h.rebuilt (pending g s upto) (drop (last s - upto) (pending g s h.drained)) (image s) x
          (subst (λ (writes : List Staged). MembersHold g h.lost h.rebuilt writes (image s) x) parts fits.members) drained;
    }
