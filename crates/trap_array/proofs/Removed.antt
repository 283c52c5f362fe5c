-- What disks hold without the disk of a member.
use Rattle.std.proofs.Common.{◌≡◌, ℕ, ◌+◌, List, inl, inr, ⊎_elim, sym, ap, subst, ◌∙◌, arith}
use Rattle.std.proofs.lemmas.Bool.{cases_eq}
use Rattle.trap_bank.specs.Disks.{Disks, size_of}
use Rattle.trap_bank.proofs.Regions.{byte_of_disk, region_of_disk}
use Rattle.trap_cell.proofs.Keeping.{value_on_disk}
use Rattle.trap_format.specs.LogDisk.{slot_len, IsLogHeader}
use Rattle.trap_model.specs.State.{image}
use Rattle.trap_model.specs.declared.history.State.{State}
use Rattle.trap_model.specs.declared.numbers.Geometry.{Geometry}
use Rattle.trap_raid.proofs.MemberLemmas.{gone_members}
use Rattle.trap_ring.specs.Ring.{ring_pos}
use Rattle.trap_stage.specs.Pending.{pending}
use Rattle.trap_stage.specs.Slots.{slot_start}
use Rattle.trap_array.specs.Gone.{HoldsBut, IsRemoved}
use Rattle.trap_array.specs.Holding.{head_place, log_ring, HoldsBy, Holds}

module _ (g : Geometry) (s : State) (m : ℕ) (x y : Disks) (but : HoldsBut g s m x) (gone : IsRemoved m x y) where
  log_same : y 0 ≡ x 0
  log_same = gone.others 0 (λ e. omega (arith, e))

  held : HoldsBy g but.head s y
  held =
      let fits = but.by.fits in
      let same = log_same in
      record {
        value = value_on_disk head_place x y same ∙ but.by.value;
        fits = record {
          valid = fits.valid;
          head = fits.head;
          log = record {
            size = ap size_of same ∙ fits.log.size;
            header = subst (λ (bytes : List ℕ). IsLogHeader g bytes) (sym (region_of_disk x y 0 0 64 same)) fits.log.header;
            id = fits.log.id;
          };
          ring = λ k below. byte_of_disk x y 0 (ring_pos (log_ring g) (but.head.first_off + k)) same ∙ fits.ring k below;
          slots = λ q low high. region_of_disk x y 0 (slot_start g q) (slot_len g) same ∙ fits.slots q low high;
          members = gone_members g but.head.lost but.head.rebuilt (pending g s but.head.drained) (image s) x y m fits.members but.others gone.others gone.absent;
        };
      }

  pub removed_holds : Holds g s y
  removed_holds = record { head = but.head; by = held }

  pub removed_but : HoldsBut g s m y
  removed_but = record {
    head = but.head;
    by = held;
    others = λ k inside out.
        elim (cases_eq k m) [
          | inl e ↦ e
          | inr h ↦ but.others k inside (⊎_elim inl (λ absent. inr (sym (gone.others (k + 1) (λ e. h (omega (arith, e)))) ∙ absent)) out)
        ];
  }
