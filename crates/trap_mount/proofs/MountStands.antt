-- A state that the disks hold: which disks hold it too, and what mounting makes of its head.
use Rattle.std.proofs.Common.{◌≡◌, ◌⊎◌, ℕ, ◌+◌, ◌<◌, List, Option, Some, None, unwrap_or, inl, inr, ⊎_elim, refl, sym, ap, subst, ◌∙◌, arith}
use Rattle.trap_bank.specs.Disks.{Disks, region, size_of}
use Rattle.trap_bank.proofs.Regions.{region_of_disk, byte_of_disk, absent_disk}
use Rattle.trap_format.specs.LogDisk.{IsLogHeader}
use Rattle.trap_format.specs.MemberDisk.{row_at}
use Rattle.trap_format.specs.HeadValue.{IsHead}
use Rattle.trap_format.specs.declared.head.Head.{Head}
use Rattle.trap_format.proofs.Spellings.{logs_same}
use Rattle.trap_model.specs.State.{image}
use Rattle.trap_model.specs.declared.numbers.Geometry.{Geometry}
use Rattle.trap_model.specs.declared.history.State.{State}
use Rattle.trap_raid.specs.Members.{Counts, IsMember, IsOut, MembersHold}
use Rattle.trap_raid.proofs.MemberLemmas.{lost_members, forgotten_members}
use Rattle.trap_ring.specs.Ring.{ring_pos}
use Rattle.trap_stage.specs.Staged.{Staged, newest_at}
use Rattle.trap_stage.specs.Pending.{pending}
use Rattle.trap_mount.specs.Holding.{log_ring, MatchesHead, Holds}
use Rattle.trap_mount.specs.Mounting.{HasHeader}
use Rattle.trap_mount.proofs.MountMembers.{no_size}

-- disks hold states of one array alone
pub one_array : (g k : Geometry) (s : State) (x : Disks) → HasHeader g x → Holds k s x → k ≡ g
one_array g k s x header holds = logs_same k g (region x 0 0 64) holds.by.fits.log.id header.id holds.by.fits.log.header header.header

-- ---- the same disks, but perhaps for a member of which no row counts

module _ (g : Geometry) (x y : Disks) (sizes : (e : ℕ) → size_of (y e) ≡ size_of (x e)) where
  member_same : (m : ℕ) → y (m + 1) ≡ x (m + 1) → IsMember g x m → IsMember g y m
  member_same m same member = record { size = ap size_of same ∙ member.size; header = region_of_disk x y (m + 1) 0 16 same ∙ member.header }

  member_before : (m : ℕ) → y (m + 1) ≡ x (m + 1) → IsMember g y m → IsMember g x m
  member_before m same member = record { size = sym (ap size_of same) ∙ member.size; header = sym (region_of_disk x y (m + 1) 0 16 same) ∙ member.header }

  out_before : (lost : Option ℕ) (m : ℕ) → IsOut lost y m → IsOut lost x m
  out_before lost m out = ⊎_elim inl (λ (none : y (m + 1) ≡ None). inr (absent_disk _ (sym (sizes (m + 1)) ∙ no_size _ none))) out

  out_after : (lost : Option ℕ) (m : ℕ) → IsOut lost x m → IsOut lost y m
  out_after lost m out = ⊎_elim inl (λ (none : x (m + 1) ≡ None). inr (absent_disk _ (sizes (m + 1) ∙ no_size _ none))) out

  members_agree : (lost : Option ℕ) (rebuilt : ℕ) (writes : List Staged) (blocks : List (List ℕ)) → ((m : ℕ) → m < g.members → Counts lost rebuilt 0 m → y (m + 1) ≡ x (m + 1))
      → MembersHold g lost rebuilt writes blocks x → MembersHold g lost rebuilt writes blocks y
  members_agree lost rebuilt writes blocks same holds = record {
    one_out = λ m k in_m in_k out_m out_k. holds.one_out m k in_m in_k (out_before lost m out_m) (out_before lost k out_k);
    made = λ m inside counts. member_same m (same m inside (λ is. absurd (counts (inl is)))) (holds.made m inside (λ out. counts (out_after lost m out)));
    places = λ row m below inside trusted.
        let disk = same m inside (λ is. let row_below : row < rebuilt = trusted.counts is in omega arith) in
        ap (λ (bytes : List ℕ). unwrap_or (newest_at g writes row m) bytes) (region_of_disk x y (m + 1) (row_at g row) g.block disk)
        ∙ holds.places row m below inside (record { made = member_before m disk trusted.made; counts = trusted.counts });
  }

  -- all but the head's cell is as before
  pub fits_agree : (k : Head) (s : State) → y 0 ≡ x 0 → ((m : ℕ) → m < g.members → Counts k.lost k.rebuilt 0 m → y (m + 1) ≡ x (m + 1)) → MatchesHead g k s x → MatchesHead g k s y
  fits_agree k s log same fits = record {
    valid = fits.valid;
    head = fits.head;
    log = record {
      size = sizes 0 ∙ fits.log.size;
      header = subst (λ (bytes : List ℕ). IsLogHeader g bytes) (sym (region_of_disk x y 0 0 64 log)) fits.log.header;
      id = fits.log.id;
    };
    ring = λ i below. byte_of_disk x y 0 (ring_pos (log_ring g) (k.first_off + i)) log ∙ fits.ring i below;
    slots = λ q low high. region_of_disk x y 0 _ _ log ∙ fits.slots q low high;
    members = members_agree k.lost k.rebuilt (pending g s k.drained) (image s) same fits.members;
  }

-- ---- the head with the member that is out

module _ (g : Geometry) (writes : List Staged) (blocks : List (List ℕ)) (x : Disks) (before now : ℕ) where
  members_changed : (recorded lost : Option ℕ) → ((m : ℕ) → recorded ≡ Some m → lost ≡ Some m) → ((m : ℕ) → lost ≡ Some m → m < g.members)
      → ((m : ℕ) → lost ≡ Some m → (recorded ≡ Some m) ⊎ ((recorded ≡ None) × (x (m + 1) ≡ None)))
      → (now ≡ before) ⊎ (now ≡ 0) → (recorded ≡ None → before ≡ 0) → (lost ≡ None → now ≡ 0)
      → MembersHold g recorded before writes blocks x → MembersHold g lost now writes blocks x
  members_changed None None still inside from mark zero_before zero_now holds =
      subst (λ (n : ℕ). MembersHold g None n writes blocks x) (zero_before refl ∙ sym (zero_now refl)) holds
  members_changed None (Some m) still inside from mark zero_before zero_now holds =
      let zero_ : now ≡ 0 = ⊎_elim (λ (same : now ≡ before). same ∙ zero_before refl) (λ (none : now ≡ 0). none) mark in
      subst (λ (n : ℕ). MembersHold g (Some m) n writes blocks x) (sym zero_)
      (lost_members g None before writes blocks x m holds (λ k in_k out. holds.one_out k m in_k (inside m refl) out (inr absent)))
    where
      absent : x (m + 1) ≡ None
      absent = ⊎_elim (λ (recorded : None ≡ Some m). cc) (λ none. none.1) (from m refl)
  members_changed (Some m) None still inside from mark zero_before zero_now holds = let two : None ≡ Some m = still m refl in cc
  members_changed (Some m) (Some k) still inside from mark zero_before zero_now holds =
      let same : m ≡ k = one (still m refl) in
      subst (λ (n : ℕ). MembersHold g (Some n) now writes blocks x) same (⊎_elim
      (λ (kept : now ≡ before). subst (λ (n : ℕ). MembersHold g (Some m) n writes blocks x) (sym kept) holds)
      (λ (none : now ≡ 0). subst
      (λ (n : ℕ). MembersHold g (Some m) n writes blocks x) (sym none)
      (forgotten_members g (Some m) before writes blocks x m holds (subst (λ (n : ℕ). n < g.members) (sym same) (inside k refl)) refl))
      mark)
    where
      one : Some k ≡ Some m → m ≡ k
      one e = cc

-- the disks fit the head with the member that is out
pub fits_changed : (g : Geometry) (h k : Head) (s : State) (x : Disks) → IsHead g h → IsHead g k → k ≡ record h { lost = k.lost; rebuilt = k.rebuilt }
    → ((m : ℕ) → h.lost ≡ Some m → k.lost ≡ Some m) → ((m : ℕ) → k.lost ≡ Some m → m < g.members)
    → ((m : ℕ) → k.lost ≡ Some m → (h.lost ≡ Some m) ⊎ ((h.lost ≡ None) × (x (m + 1) ≡ None)))
    → (k.rebuilt ≡ h.rebuilt) ⊎ (k.rebuilt ≡ 0) → MatchesHead g h s x → MatchesHead g k s x
fits_changed g h k s x is_h is_k same still inside from mark fits =
    subst (λ (t : Head). MatchesHead g t s x) (sym same) (record {
      valid = fits.valid;
      head = record {
        head = subst (λ (t : Head). IsHead g t) same is_k;
        first = fits.head.first;
        base_time = fits.head.base_time;
        last = fits.head.last;
        last_time = fits.head.last_time;
        window = fits.head.window;
      };
      log = fits.log;
      ring = fits.ring;
      slots = fits.slots;
      members = members_changed g (pending g s h.drained) (image s) x h.rebuilt k.rebuilt h.lost k.lost still inside from mark is_h.lost.none_rebuilt is_k.lost.none_rebuilt fits.members;
    })
