-- What members hold, over changes of the disks, of the pending writes and of the member that is lost.
use Rattle.std.proofs.Common.{◌≡◌, ◌≢◌, ℕ, ◌+◌, ◌<◌, List, ◌∷◌, ◌++◌, Option, Some, None, inl, inr, ⊎_elim, refl, sym, ap, subst, ◌∙◌, arith}
use Rattle.std.specs.Prelude.{slice_set}
use Rattle.std.specs.Option.{unwrap_or}
use Rattle.std.proofs.lemmas.Bool.{cases_eq}
use Rattle.std.proofs.lemmas.Option.{same_Some}
use Rattle.trap_model.specs.Image.{volume, IsImage}
use Rattle.trap_model.specs.declared.numbers.Geometry.{Geometry}
use Rattle.trap_bank.specs.Disks.{Disks, Contents, View, Area, Differs, region, size_of}
use Rattle.trap_bank.specs.Calls.{IsLawful, MayLeave}
use Rattle.trap_bank.proofs.Regions.{region_apart, region_of_disk, differs_mono}
use Rattle.trap_format.specs.MemberDisk.{row_at}
use Rattle.trap_map.specs.Layout.{block_place}
use Rattle.trap_map.specs.Table.{row_parity, table}
use Rattle.trap_stage.proofs.Overlays.{laid_over-append, laid_over_same, laid_over_next}
use Rattle.trap_stage.proofs.Standing.{stand_from_writes}
use Rattle.trap_stage.specs.Staged.{Staged, newest_at, laid_over, image_after_writes, AreWrites}
use Rattle.trap_raid.specs.Members.{Counts, MembersFit, HoldImage, IsMember, IsOut, IsTrusted, MembersHold, InHeaders, InPlaces, Covered, member_place}
use Rattle.trap_raid.specs.Draining.{AreDrained, Drains, InDrained}
use Rattle.trap_raid.proofs.FitLemmas.{counts_first, others_count}
use Rattle.trap_raid.proofs.DrainLemmas.{one_place, covered_older}
use Rattle.trap_raid.proofs.OptionLemmas.{not_both}

-- a disk of the size of an absent one is absent
still_absent : (a b : Option (List ℕ)) → size_of b ≡ size_of a → b ≡ None → a ≡ None
still_absent None b size none = refl
still_absent (Some xs) None size none = cc
still_absent (Some xs) (Some ys) size none = cc

-- a member that is made isn't absent
there_by_size : (o : Option (List ℕ)) (n : ℕ) → size_of o ≡ Some n → o ≢ None
there_by_size None n size none = cc
there_by_size (Some xs) n size none = cc

-- ---- over a change apart from what counts
module _ (g : Geometry) (lost : Option ℕ) (rebuilt : ℕ) (area : Area) (x y : Disks) (differs : Differs area x y)
    (headers : (e i : ℕ) → InHeaders g lost rebuilt e i → area e i → ⊥) where
  header_stays : (m : ℕ) → m < g.members → Counts lost rebuilt 0 m → region y (m + 1) 0 16 ≡ region x (m + 1) 0 16
  header_stays m inside counts =
      region_apart area x y (m + 1) 0 16 differs
      (λ i low high within. headers (m + 1) i (record { member = m; inside = inside; counts = counts; within = record { disk = refl; from = low; to = high } }) within)

  -- a place that is trusted was so before
  pub trusted_before : (row m : ℕ) → m < g.members → IsTrusted g lost rebuilt y row m → IsTrusted g lost rebuilt x row m
  trusted_before row m inside trusted = record {
    made = record {
      size = sym (differs.sizes (m + 1)) ∙ trusted.made.size;
      header = sym (header_stays m inside (counts_first lost rebuilt row m trusted.counts)) ∙ trusted.made.header;
    };
    counts = trusted.counts;
  }

  out_before : (m : ℕ) → IsOut lost y m → IsOut lost x m
  out_before m out = ⊎_elim inl (λ none. inr (still_absent (x (m + 1)) (y (m + 1)) (differs.sizes (m + 1)) none)) out

  out_after : (m : ℕ) → IsOut lost x m → IsOut lost y m
  out_after m out = ⊎_elim inl (λ none. inr (still_absent (y (m + 1)) (x (m + 1)) (sym (differs.sizes (m + 1))) none)) out

  -- what the members hold stays
  pub members_stay : (writes : List Staged) (image : List (List ℕ)) → ((e i : ℕ) → InPlaces g lost rebuilt writes e i → area e i → ⊥)
      → MembersHold g lost rebuilt writes image x → MembersHold g lost rebuilt writes image y
  members_stay writes image places holds = record {
    one_out = λ m k in_m in_k out_m out_k. holds.one_out m k in_m in_k (out_before m out_m) (out_before k out_k);
    made = λ m inside here.
        let before = holds.made m inside (λ out. here (out_after m out)) in
        record {
          size = differs.sizes (m + 1) ∙ before.size;
          header = header_stays m inside (λ gone. absurd (here (inl gone))) ∙ before.header;
        };
    places = λ row m below inside trusted.
        laid_over_same g writes (member_place g y) (member_place g x) row m
        (λ bare. region_apart area x y (m + 1) (row_at g row) g.block differs
        (λ i low high within. places (m + 1) i (record {
          row = row;
          member = m;
          in_rows = below;
          inside = inside;
          counts = trusted.counts;
          bare = bare;
          within = record { disk = refl; from = low; to = high };
        }) within))
        ∙ holds.places row m below inside (trusted_before row m inside trusted);
  }

-- ---- over a drain and over a write
-- the older writes are on the members
pub drained_members : (g : Geometry) (lost : Option ℕ) (rebuilt : ℕ) (newer older : List Staged) (image : List (List ℕ)) (x : Disks)
    → MembersHold g lost rebuilt (newer ++ older) image x → AreDrained g lost rebuilt older x → MembersHold g lost rebuilt newer image x
drained_members g lost rebuilt newer older image x holds drained = record {
  one_out = holds.one_out;
  made = holds.made;
  places = λ row m below inside trusted.
      laid_over_same g newer (member_place g x) (laid_over g older (member_place g x)) row m
      (λ bare. on_members (newest_at g older row m) (member_place g x row m) (λ bytes found. drained row m bytes below inside trusted.counts found))
      ∙ sym (laid_over-append g newer older (member_place g x) row m)
      ∙ holds.places row m below inside trusted;
}
  where
    on_members : (o : Option (List ℕ)) (held : List ℕ) → ((bytes : List ℕ) → o ≡ Some bytes → held ≡ bytes) → held ≡ unwrap_or o held
    on_members None held same = refl
    on_members (Some bytes) held same = same bytes refl

-- one more write is pending
pub written_members : (g : Geometry) (lost : Option ℕ) (rebuilt : ℕ) (writes : List Staged) (image : List (List ℕ)) (staged : Staged) (x : Disks)
    → MembersHold g lost rebuilt writes image x → IsImage g image → staged.block < volume g
    → staged.parity ≡ row_parity g (slice_set image staged.block staged.bytes) (block_place g staged.block).row
    → MembersHold g lost rebuilt (staged ∷ writes) (slice_set image staged.block staged.bytes) x
written_members g lost rebuilt writes image staged x holds is_image below parity = record {
  one_out = holds.one_out;
  made = holds.made;
  places = λ row m in_rows inside trusted.
      laid_over_next g writes (member_place g x) image staged is_image below parity row m in_rows inside (holds.places row m in_rows inside trusted);
}

-- a place that older writes cover is none of those that count and for which nothing is pending, nor a header, nor on disk 0
pub covered_apart : (g : Geometry) (lost : Option ℕ) (rebuilt : ℕ) (newer older : List Staged) (e i : ℕ) → Covered g older e i
    → (InPlaces g lost rebuilt (newer ++ older) e i → ⊥) × (InHeaders g lost rebuilt e i → ⊥) × (e ≢ 0)
covered_apart g lost rebuilt newer older e i covered = (
  (λ bare.
      let over = covered_older g newer older e i covered in
      let same = one_place g bare.row bare.member over.row over.member e i bare.within over.within in
      not_both (newest_at g (newer ++ older) bare.row bare.member) over.bytes bare.bare
      (ap (λ r. newest_at g (newer ++ older) r bare.member) same.0 ∙ ap (λ m. newest_at g (newer ++ older) over.row m) same.1 ∙ over.newest)),
  (λ header. omega (arith, header.within.to, covered.within.from)),
  (λ zero. omega (arith, zero, covered.within.disk)),
)

-- ---- for a call that reads
-- a member that isn't lost is there whatever a crash leaves
pub members_there : (g : Geometry) (lost : Option ℕ) (rebuilt : ℕ) (v : View) (w : Contents) → IsLawful v → MayLeave v w → MembersFit g lost rebuilt v → (m : ℕ)
    → m < g.members → lost ≢ Some m → w.disks (m + 1) ≢ None
members_there g lost rebuilt v w lawful left fit m inside apart =
    let there = fit m inside (others_count lost rebuilt 0 m apart) in
    there_by_size (w.disks (m + 1)) there.0 (left.torn.disks.sizes (m + 1) ∙ lawful.sized left.told (m + 1) ∙ there.1)

-- the places stand for the image's table
pub stand_for : (g : Geometry) (lost : Option ℕ) (rebuilt : ℕ) (writes : List Staged) (before image : List (List ℕ)) (x : Disks)
    → MembersHold g lost rebuilt writes image x → IsImage g before → AreWrites g before writes → image ≡ image_after_writes before writes
    → ((m : ℕ) → m < g.members → lost ≢ Some m → x (m + 1) ≢ None) → HoldImage g lost writes (member_place g x) image
stand_for g lost rebuilt writes before image x holds is_image are after there =
    let P : List (List ℕ) → Type 0 = λ (other : List (List ℕ)). HoldImage g lost writes (member_place g x) other in
    subst P (sym after)
    (stand_from_writes g (λ row m. lost ≢ Some m) before writes (member_place g x) is_image are
    (λ row m below inside apart.
    holds.places row m below inside (record {
      made = holds.made m inside (λ out. ⊎_elim (λ gone. apart gone) (λ none. there m inside apart none) out);
      counts = others_count lost rebuilt row m apart;
    })
    ∙ ap (λ (other : List (List ℕ)). table g other row m) after))

-- ---- a member that is lost, gone or forgotten
-- no member is out but perhaps this one
abbrev pub NoneOutBut : Geometry → Option ℕ → Disks → ℕ → Type 0
NoneOutBut g lost x m = (k : ℕ) → k < g.members → IsOut lost x k → k ≡ m

-- a member is recorded lost, with nothing rebuilt
pub lost_members : (g : Geometry) (lost : Option ℕ) (rebuilt : ℕ) (writes : List Staged) (image : List (List ℕ)) (x : Disks) (m : ℕ)
    → MembersHold g lost rebuilt writes image x → NoneOutBut g lost x m → MembersHold g (Some m) 0 writes image x
lost_members g lost rebuilt writes image x m holds none = record {
  one_out = λ a b in_a in_b out_a out_b. only_it a in_a out_a ∙ sym (only_it b in_b out_b);
  made = λ k inside here. holds.made k inside (λ out. here (inl (ap (λ (n : ℕ). Some n) (sym (none k inside out)))));
  places = λ row k below inside trusted.
      holds.places row k below inside (record {
        made = trusted.made;
        counts = λ gone. absurd (no_row row (trusted.counts (ap (λ (n : ℕ). Some n) (sym (none k inside (inl gone))))));
      });
}
  where
    only_it : (k : ℕ) → k < g.members → IsOut (Some m) x k → k ≡ m
    only_it k inside out = ⊎_elim (λ same. sym (same_Some m k same)) (λ absent. none k inside (inr absent)) out

    no_row : (row : ℕ) → row < 0 → ⊥
    no_row row h = omega arith

-- where a member is recorded lost, no other is out
pub none_out_but_lost : (g : Geometry) (lost : Option ℕ) (rebuilt : ℕ) (writes : List Staged) (image : List (List ℕ)) (x : Disks) (m : ℕ)
    → MembersHold g lost rebuilt writes image x → m < g.members → lost ≡ Some m → NoneOutBut g lost x m
none_out_but_lost g lost rebuilt writes image x m holds within gone k inside out = holds.one_out k m inside within out (inl gone)

-- its rebuilt rows are forgotten
pub forgotten_members : (g : Geometry) (lost : Option ℕ) (rebuilt : ℕ) (writes : List Staged) (image : List (List ℕ)) (x : Disks) (m : ℕ)
    → MembersHold g lost rebuilt writes image x → m < g.members → lost ≡ Some m → MembersHold g (Some m) 0 writes image x
forgotten_members g lost rebuilt writes image x m holds within gone =
    lost_members g lost rebuilt writes image x m holds (none_out_but_lost g lost rebuilt writes image x m holds within gone)

-- where none is recorded lost, and the members' disks fit, none is out
pub none_out : (g : Geometry) (rebuilt : ℕ) (v : View) (w : Contents) (m : ℕ) → IsLawful v → MayLeave v w → MembersFit g None rebuilt v → NoneOutBut g None w.disks m
none_out g rebuilt v w m lawful left fit k inside out =
    ⊎_elim (λ gone. absurd (no_member gone)) (λ absent. absurd (members_there g None rebuilt v w lawful left fit k inside (λ gone. no_member gone) absent)) out
  where
    no_member : {n : ℕ} → None ≡ Some n → ⊥
    no_member gone = cc

-- only the disk of a member changed that is out and of which no place is trusted
pub beside_members : (g : Geometry) (lost : Option ℕ) (rebuilt : ℕ) (writes : List Staged) (image : List (List ℕ)) (x y : Disks) (m : ℕ)
    → MembersHold g lost rebuilt writes image x → NoneOutBut g lost x m → ((e : ℕ) → e ≢ m + 1 → y e ≡ x e) → IsOut lost y m
    → ((row : ℕ) → IsTrusted g lost rebuilt y row m → ⊥) → MembersHold g lost rebuilt writes image y
beside_members g lost rebuilt writes image x y m holds none others out untrusted = record {
  one_out = λ a b in_a in_b out_a out_b. only_it a in_a out_a ∙ sym (only_it b in_b out_b);
  made = λ k inside here.
      elim (cases_eq k m) [
        | inl e ↦ absurd (here (subst (λ (n : ℕ). IsOut lost y n) (sym e) out))
        | inr h ↦ made_after k h (holds.made k inside (λ was. h (none k inside was)))
      ];
  places = λ row k below inside trusted.
      elim (cases_eq k m) [
        | inl e ↦ absurd (untrusted row (subst (λ (n : ℕ). IsTrusted g lost rebuilt y row n) e trusted))
        | inr h ↦
            laid_over_same g writes (member_place g y) (member_place g x) row k (λ bare. region_of_disk x y (k + 1) (row_at g row) g.block (same k h))
            ∙ holds.places row k below inside (record { made = made_before k h trusted.made; counts = trusted.counts })
      ];
}
  where
    same : (k : ℕ) → k ≢ m → y (k + 1) ≡ x (k + 1)
    same k h = others (k + 1) (λ e. h (omega (arith, e)))

    only_it : (k : ℕ) → k < g.members → IsOut lost y k → k ≡ m
    only_it k inside is_out =
        elim (cases_eq k m) [
          | inl e ↦ e
          | inr h ↦ none k inside (⊎_elim inl (λ absent. inr (sym (same k h) ∙ absent)) is_out)
        ]

    made_after : (k : ℕ) → k ≢ m → IsMember g x k → IsMember g y k
    made_after k h made = record {
      size = ap size_of (same k h) ∙ made.size;
      header = region_of_disk x y (k + 1) 0 16 (same k h) ∙ made.header;
    }

    made_before : (k : ℕ) → k ≢ m → IsMember g y k → IsMember g x k
    made_before k h made = record {
      size = ap size_of (sym (same k h)) ∙ made.size;
      header = sym (region_of_disk x y (k + 1) 0 16 (same k h)) ∙ made.header;
    }

-- a member's disk is removed
pub gone_members : (g : Geometry) (lost : Option ℕ) (rebuilt : ℕ) (writes : List Staged) (image : List (List ℕ)) (x y : Disks) (m : ℕ)
    → MembersHold g lost rebuilt writes image x → NoneOutBut g lost x m → ((e : ℕ) → e ≢ m + 1 → y e ≡ x e) → y (m + 1) ≡ None → MembersHold g lost rebuilt writes image y
gone_members g lost rebuilt writes image x y m holds none others absent =
    beside_members g lost rebuilt writes image x y m holds none others (inr absent)
    (λ row trusted. there_by_size (y (m + 1)) _ trusted.made.size absent)

-- ---- a drain over what the members hold
-- stopped within a drain, they hold what they held
pub torn_members : (g : Geometry) (lost : Option ℕ) (rebuilt : ℕ) (newer older : List Staged) (image : List (List ℕ)) (x y : Disks)
    → MembersHold g lost rebuilt (newer ++ older) image x → Differs (Covered g older) x y → MembersHold g lost rebuilt (newer ++ older) image y
torn_members g lost rebuilt newer older image x y holds differs =
    members_stay g lost rebuilt (Covered g older) x y differs
    (λ e i header covered. let apart = covered_apart g lost rebuilt newer older e i covered in apart.1 header)
    (newer ++ older) image
    (λ e i bare covered. let apart = covered_apart g lost rebuilt newer older e i covered in apart.0 bare) holds

-- after it they hold the same with the newer writes alone pending
pub members_after_drain : (g : Geometry) (lost : Option ℕ) (rebuilt : ℕ) (newer older : List Staged) (image : List (List ℕ)) (x y : Disks)
    → MembersHold g lost rebuilt (newer ++ older) image x → Drains g lost rebuilt older x y → MembersHold g lost rebuilt newer image y
members_after_drain g lost rebuilt newer older image x y holds drains =
    drained_members g lost rebuilt newer older image y (torn_members g lost rebuilt newer older image x y holds
    (differs_mono (InDrained g lost rebuilt older) (Covered g older) x y (λ e i drained. drained.covered) drains.differs)) drains.there
