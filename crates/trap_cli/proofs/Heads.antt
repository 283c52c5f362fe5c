-- The heads by which disks hold states.
use Rattle.std.proofs.Common.{◌≡◌, ◌⊎◌, inl, inr, ⊎_elim, ℕ, ◌+◌, ◌≤◌, Some, None, IsTrue, refl, sym, subst, ◌∙◌, arith}
use Rattle.trap_bank.specs.Disks.{Disks, View, size_of}
use Rattle.trap_bank.specs.Steps.{Moves, Always}
use Rattle.trap_bank.proofs.Moves.{read_is_left, moves_weaken}
use Rattle.trap_format.specs.HeadValue.{head_value}
use Rattle.trap_format.specs.LogDisk.{log_size}
use Rattle.trap_format.specs.declared.head.Head.{Head}
use Rattle.trap_format.proofs.Spellings.{heads_same}
use Rattle.trap_model.specs.declared.numbers.Geometry.{Geometry}
use Rattle.trap_model.specs.declared.history.State.{State}
use Rattle.trap_array.specs.Holding.{Holds, HoldsBy}
use Rattle.trap_array.specs.Mounting.{Mounts, SameHead, FoundLost}
use Rattle.trap_mount.proofs.Puts.{put_in_cell, fits_put}
use Rattle.trap_array.specs.Calls.{Mounted, StandsFor}
use Rattle.trap_cli.specs.Left.{WasOut, HoldsSince}
use Rattle.trap_cli.proofs.Stopping.{LostOn}
use Rattle.trap_cli.specs.Frame.{KeepsMembers, StaysHeld}
use Rattle.trap_bank.proofs.Rising.{rose_later}

-- there is one such head
pub same_heads : (g : Geometry) (h k : Head) (s t : State) (x : Disks) → HoldsBy g h s x → HoldsBy g k t x → h ≡ k
same_heads g h k s t x was is = heads_same g h k (head_value h)
    (record { head = was.fits.head.head; spelled = refl })
    (record { head = is.fits.head.head; spelled = let both : Some (head_value h) ≡ Some (head_value k) = sym was.value ∙ is.value in cc })

-- A state stays held, by the same head, where only the slot of the head's cell that isn't current differs, and the value
-- is the same.
pub same_head_by : (g : Geometry) (h : Head) (s : State) (x y : Disks) → SameHead x y → HoldsBy g h s x → HoldsBy g h s y
same_head_by g h s x y same by = record {
  value = same.value ∙ by.value;
  fits = fits_put g h s x y (put_in_cell same.cell x y same.place same.differs) by.fits;
}

pub same_head_holds : (g : Geometry) (s : State) (x y : Disks) → SameHead x y → Holds g s x → Holds g s y
same_head_holds g s x y same holds = record { head = holds.head; by = same_head_by g holds.head s x y same holds.by }

-- and over a mounting
pub mounted_holds : (g : Geometry) (s : State) (a b : View) (y : Disks) → Mounts a b a.now.disks y → Holds g s a.now.disks → Holds g s y
mounted_holds g s a b y (inl same) holds = subst (λ (disks : Disks). Holds g s disks) (sym same) holds
mounted_holds g s a b y (inr (inl head)) holds = same_head_holds g s a.now.disks y head holds
mounted_holds g s a b y (inr (inr still)) holds = let kept = still g holds.head s holds.by in record { head = kept.0; by = kept.1 }

-- what mounting found of the members is so at the end
pub keeps_found : (g : Geometry) (h k : Head) (old mid new : View) → FoundLost g h k old mid → ((e : ℕ) → mid.faults e ≤ new.faults e)
    → KeepsMembers g h k old new
keeps_found g h k old mid new found later = record {
  lost = λ m is. ⊎_elim (λ was. inl was) (λ absent. inr absent.1) (found.lost m is);
  mark = λ m was is lower. ⊎_elim (λ same. absurd (omega (arith, same, lower)))
      (λ zero. ⊎_elim (λ rose. inl (rose_later (old.faults (m + 1)) (mid.faults (m + 1)) (new.faults (m + 1)) rose (later (m + 1)))) (λ other. inr other) (zero.1 m is))
      found.mark;
}

-- of heads that name the same member with the same mark
pub keeps_like : (g : Geometry) (h k l : Head) (old new : View) → KeepsMembers g h k old new → l.lost ≡ k.lost → l.rebuilt ≡ k.rebuilt
    → KeepsMembers g h l old new
keeps_like g h k l old new keeps lost rebuilt = record {
  lost = λ m is. keeps.lost m (sym lost ∙ is);
  mark = λ m was is lower. keeps.mark m was (sym lost ∙ is) (omega (arith, lower, rebuilt));
}

-- a state stays held where no disk changed
pub held_same : (old new : View) → (IsTrue old.tells → new.now.disks ≡ old.now.disks) → StaysHeld old new
held_same old new same g s h told was = record {
  state = s;
  head = h;
  by = subst (λ (disks : Disks). HoldsBy g h s disks) (sym (same told)) was;
  keeps = record { lost = λ m lost. inl lost; mark = λ m before after lower. absurd (omega (arith, lower)) };
}

-- and where none was held
pub held_none : (old new : View) → (IsTrue old.tells → size_of (old.now.disks 0) ≡ None) → StaysHeld old new
held_none old new absent g s h told was = let both : None ≡ Some (log_size g) = sym (absent told) ∙ was.fits.log.size in absurd (cc both)

-- over a mounting, and what follows it, where no disk changes
pub held_mounted : (old mid new : View) → (IsTrue old.tells → Mounts old mid old.now.disks mid.now.disks)
    → ((g : Geometry) (h k : Head) (s t : State) → IsTrue old.tells → HoldsBy g h s old.now.disks → HoldsBy g k t mid.now.disks → FoundLost g h k old mid)
    → ((e : ℕ) → mid.faults e ≤ new.faults e) → (IsTrue old.tells → new.now.disks ≡ mid.now.disks) → StaysHeld old new
held_mounted old mid new mounts lost later same g s h told was =
    let held = mounted_holds g s old mid mid.now.disks (mounts told) (record { head = h; by = was }) in
    record {
      state = s;
      head = held.head;
      by = subst (λ (disks : Disks). HoldsBy g held.head s disks) (sym (same told)) held.by;
      keeps = keeps_found g h held.head old mid new (lost g h held.head s s told was held.by) later;
    }

-- a member that a mounted array calls lost was out on entry
pub found_out : (g : Geometry) (s : State) (a b : View) (array : Mounted)
    → ((g : Geometry) (h k : Head) (s t : State) → IsTrue a.tells → HoldsBy g h s a.now.disks → HoldsBy g k t b.now.disks → FoundLost g h k a b)
    → IsTrue a.tells → IsTrue b.tells → (array.g ≡ g) × Always b (StandsFor array s) → LostOn g a array.head
found_out g s a b array found told told_mid known h t was m is =
    let by_mid = subst (λ (g : Geometry). HoldsBy g array.head s b.now.disks) known.0 (known.1 b.now (read_is_left b told_mid)).by in
    ⊎_elim (λ same. inl same) (λ absent. inr absent.1) ((found g h array.head t s told was by_mid).lost m is)

-- At any moment of mounting: nothing changed, or only the head's other slot; or each state that was held is held by a head
-- that calls no member lost but one that was out.
abbrev pub Mounting : View → Disks → Disks → Type 0
Mounting v old new = (new ≡ old) ⊎ (SameHead old new ⊎ ((g : Geometry) (s : State) → Holds g s v.now.disks → HoldsSince g v new s))

pub mounting_moves : (a b : View) → Moves a b (Mounts a b) (Mounts a b) → Moves a b (Mounting a) (Mounting a)
mounting_moves a b mounts = moves_weaken a b (Mounts a b) (Mounts a b) (Mounting a) (Mounting a) mounts
    (λ x y was step. turn x.disks y.disks step) (λ x y was left step. turn x.disks y.disks step)
  where
    since : (g : Geometry) (s : State) (h : Head) (y : Disks) → HoldsBy g h s a.now.disks → (k : Head) × HoldsBy g k s y × FoundLost g h k a b → HoldsSince g a y s
    since g s h y by kept = record {
      head = kept.0;
      by = kept.1;
      lost = λ other t was m is. subst (λ (h : Head). WasOut h a m) (same_heads g h other s t a.now.disks by was)
          (⊎_elim (λ same. inl same) (λ absent. inr absent.1) (kept.2.lost m is));
    }

    turn : (x y : Disks) → Mounts a b x y → Mounting a x y
    turn x y (inl same) = inl same
    turn x y (inr (inl head)) = inr (inl head)
    turn x y (inr (inr still)) = inr (inr (λ g s holds. since g s holds.head y holds.by (still g holds.head s holds.by)))
