-- How a replica is loaded: its image, then its cell and its header, and the gate last.
use Rattle.std.proofs.Common.{◌≡◌, ◌≢◌, ℕ, ◌^◌, ◌<◌, ◌≤◌, List, [], ◌∷◌, length, None, Result, Ok, Err, IsTrue, inl, inr, ⊎_elim, refl, sym, ap, subst, ◌∙◌, arith}
use Rattle.trap_bank.specs.Disks.{View, Contents, Within, Differs, Torn, region}
use Rattle.trap_bank.specs.Calls.{IsLawful, MayLeave, Makes, Reads}
use Rattle.trap_bank.specs.Faults.{Rose}
use Rattle.trap_bank.specs.Steps.{Moves, Same, Always, PlacedThrough}
use Rattle.trap_bank.specs.Stream.{Stream}
use Rattle.trap_bank.proofs.Filled.{counts_none}
use Rattle.trap_bank.proofs.Moves.{moves_then, moves_weaken, no_moves, make_steps, made_steps, read_steps}
use Rattle.trap_bank.proofs.Regions.{absent_disk}
use Rattle.trap_bank.proofs.Rising.{rose_since}
use Rattle.trap_format.specs.ReplicaDisk.{home_at, replica_size}
use Rattle.trap_format.specs.declared.shape.Shape.{Shape}
use Rattle.trap_model.specs.Image.{block_of}
use Rattle.trap_replica.specs.OnDisk.{value_bytes}
use Rattle.trap_replica.specs.Creating.{IsReplicaGateOff, front, BeginsShut, ShutsReplica}
use Rattle.trap_replica.specs.Loading.{image_area, image_of, image_size, IsLoadFault, Loads}
use Rattle.trap_replica.specs.LoadSteps.{WritesImage, LoadsShut}
use Rattle.trap_replica.specs.declared.fault.ReplicaFault.{ReplicaFault}
use Rattle.trap_replica.specs.declared.fault.ReplicaFault.TheVariants.{DiskFault, OutOfMemory}
use Rattle.trap_replica.proofs.OneFrame.{Touches, else_apart}
use Rattle.trap_replica.proofs.NewReplica.{IsBlank, absent_off, keeps_after, keeps_shuts, make_part, make_blank, blank_part, shut_begun, shut_done, shut_part, gate_part, gate_done}
use Rattle.trap_replica.proofs.LoadedImage.{blocks_at, can_load}
use Rattle.trap_replica.proofs.LoadedBlocks.{fault_since}

area_after : (s : Shape) (e i : ℕ) → image_area s e i → (e ≡ 17) × (0 < i)
area_after s e i within = (within.disk, omega (arith, within.from))

-- what a read gives of the other disks
pub touch_image : (s : Shape) (a b : View) → (IsTrue a.tells → Torn (image_area s) a.now b.now) → Touches a b
touch_image s a b torn told =
    let t = torn told in
    record { disks = else_apart (image_area s) a.now.disks b.now.disks (λ e i within. within.disk) t.disks; said = t.said }

-- a blank disk stays one while its image area is written
blank_area : (s : Shape) (a b c : View) → Moves a b ShutsReplica (IsBlank s) → Moves b c (Differs (image_area s)) (Differs (image_area s)) → Moves a c ShutsReplica (IsBlank s)
blank_area s a b c made written = moves_then a b c ShutsReplica (IsBlank s) (Differs (image_area s)) (Differs (image_area s)) ShutsReplica (IsBlank s) made written
    (λ x y was step. step)
    (λ x y z was step mid differs. keeps_shuts x.disks z.disks (keeps_after (image_area s) x.disks y.disks z.disks (area_after s) step.keeps differs))
    (λ x y z was step mid differs. record { keeps = keeps_after (image_area s) x.disks y.disks z.disks (area_after s) step.keeps differs; size = differs.sizes 17 ∙ step.size })

blank_same : (s : Shape) (a b c : View) → Moves a b ShutsReplica (IsBlank s) → Moves b c Same Same → Moves a c ShutsReplica (IsBlank s)
blank_same s a b c made same = moves_then a b c ShutsReplica (IsBlank s) Same Same ShutsReplica (IsBlank s) made same
    (λ x y was step. step)
    (λ x y z was step mid is. subst (ShutsReplica x.disks) (sym is) (keeps_shuts x.disks y.disks step.keeps))
    (λ x y z was step mid is. subst (IsBlank s x.disks) (sym is) step)

blank_shuts : (s : Shape) (a b : View) → Moves a b ShutsReplica (IsBlank s) → Moves a b ShutsReplica ShutsReplica
blank_shuts s a b made = moves_weaken a b ShutsReplica (IsBlank s) ShutsReplica ShutsReplica made
    (λ x y was step. step)
    (λ x y was left step. keeps_shuts x.disks y.disks step.keeps)

module _ (s : Shape) (number time : ℕ) (a : View) (from : Stream) where
  -- the disk couldn't be made
  pub load_unmade : {U T E : Type 0} (e : E) (why : ReplicaFault) (b : View) (n : ℕ) → why ≡ DiskFault
      → Makes {T = T} {E = E} 17 n (Err e) a b → LoadsShut {T = U} s number time [] (Err why) a b from from
  load_unmade {U} {T} {E} e why b n disk call = record {
    took = counts_none 0 from;
    whole = tt;
    shut = tt;
    refused = subst (λ (w : ReplicaFault). (w ≢ OutOfMemory) × IsLoadFault s 0 a b from from w) (sym disk) ((λ e. cc), (omega arith, call.cause));
    any_moment = make_part n a b (make_steps {T = T} {E = E} (Err e) a b 17 n call);
  }

  module _ {T E : Type 0} (done : T) (b : View) (n : ℕ) (is : n ≡ replica_size s) (call : Makes {T = T} {E = E} 17 n (Ok done) a b) where
    blank : Moves a b ShutsReplica (IsBlank s)
    blank = make_blank s n a b is (made_steps {T = T} {E = E} done a b 17 n call)

    module _ (bytes : List ℕ) (c : View) (to : Stream) where
      -- the image couldn't be written
      pub load_refused : {U : Type 0} (why : ReplicaFault) → WritesImage {T = U} s bytes (Err why) b c from to → LoadsShut {T = U} s number time bytes (Err why) a c from to
      load_refused why image = record {
        took = image.took;
        whole = tt;
        shut = tt;
        refused = (image.refused.0, fault_since s (length bytes) (length bytes) a b c from from to why refl (blank.faults 17) (omega arith) image.refused.1);
        any_moment = blank_part s (image_area s) a b c (area_after s) blank image.moves;
      }

      module _ {U : Type 0} (value : U) (image : WritesImage {T = U} s bytes (Ok value) b c from to) where
        blank_image : Moves a c ShutsReplica (IsBlank s)
        blank_image = blank_area s a b c blank image.moves

        disk_failed : (d : View) → Rose (c.faults 17) (d.faults 17) → (why : ReplicaFault) → why ≡ DiskFault → (why ≢ OutOfMemory) × IsLoadFault s (length bytes) a d from to why
        disk_failed d rose why disk =
            let all : length bytes ≤ image_size s = omega (arith, image.whole.0) in
            subst (λ (w : ReplicaFault). (w ≢ OutOfMemory) × IsLoadFault s (length bytes) a d from to w) (sym disk)
            ((λ e. cc), (all, rose_since (a.faults 17) (c.faults 17) (d.faults 17) (blank_image.faults 17) rose))

        module _ {R F : Type 0} (result : Result R F) (d : View) (at : ℕ) (before after : List ℕ) (read : Reads 17 at before after result c d) where
          blank_read : Moves a d ShutsReplica (IsBlank s)
          blank_read = blank_same s a c d blank_image (read_steps result c d 17 at before after read)

        -- the first block couldn't be read back
        pub load_unread : {R F : Type 0} (e : F) (d : View) (at : ℕ) (before after : List ℕ) (why : ReplicaFault) → why ≡ DiskFault → Reads {T = R} {E = F} 17 at before after (Err e) c d
            → LoadsShut {T = U} s number time bytes (Err why) a d from to
        load_unread {R} {F} e d at before after why disk read = record {
          took = image.took;
          whole = tt;
          shut = tt;
          refused = disk_failed d read.cause why disk;
          any_moment = blank_shuts s a d (blank_read {R = R} {F = F} (Err e) d at before after read);
        }

        module _ {R F : Type 0} (got : R) (d : View) (at : ℕ) (before after : List ℕ) (read : Reads {T = R} {E = F} 17 at before after (Ok got) c d) where
          blank_now : Moves a d ShutsReplica (IsBlank s)
          blank_now = blank_read {R = R} {F = F} (Ok got) d at before after read

          -- cell and header couldn't be written
          pub load_unbegun : (e : View) (why : ReplicaFault) → why ≡ DiskFault → Moves d e (Differs (front s)) (Differs (front s)) → Rose (d.faults 17) (e.faults 17)
              → LoadsShut {T = U} s number time bytes (Err why) a e from to
          load_unbegun e why disk begun rose = record {
            took = image.took;
            whole = tt;
            shut = tt;
            refused = disk_failed e (rose_since (c.faults 17) (d.faults 17) (e.faults 17) (read.goes.faults 17) rose) why disk;
            any_moment = shut_begun s a d e blank_now begun;
          }

          -- all but the gate is there
          pub load_begun : (e : View) (spelled : List ℕ) → at ≡ home_at s 0 → length before ≡ s.block → spelled ≡ value_bytes number time 0 after
              → Moves d e (Differs (front s)) (BeginsShut e s spelled) → (IsTrue d.tells → Torn (front s) d.now e.now) → Moves d e (Differs (front s)) (Differs (front s))
              → LoadsShut {T = U} s number time bytes (Ok value) a e from to
          load_begun e spelled first sized is begun torn moves = record {
            took = image.took;
            whole = image.whole;
            shut = shut_done s number time (image_of s bytes) spelled a d e spells blank_now begun torn there;
            refused = tt;
            any_moment = shut_begun s a d e blank_now moves;
          }
            where
              told_c : IsTrue d.tells → IsTrue c.tells
              told_c told = subst IsTrue read.goes.tells told

              told_b : IsTrue d.tells → IsTrue b.tells
              told_b told = subst IsTrue image.moves.tells (told_c told)

              there : IsTrue d.tells → (k : ℕ) → k < s.volume → region d.now.disks 17 (home_at s k) s.block ≡ block_of (image_of s bytes) k
              there told k below =
                  ap (λ (w : Contents). region w.disks 17 (home_at s k) s.block) (read.same (told_c told))
                  ∙ image.homes (told_b told) k below ∙ sym (blocks_at s.block s.volume k bytes below)

              spells : IsTrue d.tells → spelled ≡ value_bytes number time 0 (block_of (image_of s bytes) 0)
              spells told =
                  let least : 0 < s.volume = s.within.volume_least in
                  let front_block : after ≡ region c.now.disks 17 (home_at s 0) s.block =
                  read.bytes (told_c told) ∙ ap (λ (k : ℕ). region c.now.disks 17 k (length before)) first ∙ ap (λ (n : ℕ). region c.now.disks 17 (home_at s 0) n) sized in
                  is ∙ ap (value_bytes number time 0)
                  (front_block ∙ image.homes (told_b told) 0 least ∙ sym (blocks_at s.block s.volume 0 bytes least))

  -- an absent disk's gate is off, and stays so
  module _ (lawful : IsLawful a) (none : a.sizes 17 ≡ None) where
    absent : (w : Contents) → MayLeave a w → w.disks 17 ≡ None
    absent w left = absent_disk (w.disks 17) (left.torn.disks.sizes 17 ∙ lawful.sized left.told 17 ∙ none)

    -- so the gate of a disk that wasn't there is off after a load that was refused before it
    pub stays_off : (b : View) → Moves a b ShutsReplica ShutsReplica → Always b IsReplicaGateOff
    stays_off b moves w left =
        let step = moves.now w left in
        ⊎_elim (λ (same : w.disks 17 ≡ step.origin.disks 17). absent_off w.disks (same ∙ absent step.origin step.was)) (λ off. off) step.by.disks.disk

    nothing : Moves a a ShutsReplica ShutsReplica
    nothing = no_moves a ShutsReplica ShutsReplica (λ x was. record { others = λ e other. refl; disk = inl refl })

    -- there was no memory
    pub load_starved : {T : Type 0} (why : ReplicaFault) → why ≡ OutOfMemory → Loads {T = T} s number time [] (Err why) a a from from
    load_starved why is = record {
      took = counts_none 0 from;
      whole = tt;
      made = tt;
      refused = subst (IsLoadFault s 0 a a from from) (sym is) refl;
      shut = inl nothing;
      any_moment = shut_part s number time (image_of s []) a lawful none a nothing;
    }

    module _ (bytes : List ℕ) (b : View) (to : Stream) where
      -- it was refused before the gate
      pub load_stopped : {T : Type 0} (why : ReplicaFault) → LoadsShut {T = T} s number time bytes (Err why) a b from to → Loads {T = T} s number time bytes (Err why) a b from to
      load_stopped why loads = record {
        took = loads.took;
        whole = tt;
        made = tt;
        refused = loads.refused.1;
        shut = inl loads.any_moment;
        any_moment = shut_part s number time (image_of s bytes) a lawful none b loads.any_moment;
      }

      module _ {T : Type 0} (value : T) (loads : LoadsShut {T = T} s number time bytes (Ok value) a b from to) (id : s.id < 2 ^ 64) (most : number ≤ 2 ^ 40) (fits : time < 2 ^ 64) (c : View) where
        -- the gate couldn't be written
        pub load_gate : (why : ReplicaFault) → why ≡ DiskFault → Moves b c (Differs (Within 17 0 1)) (Differs (Within 17 0 1)) → Rose (b.faults 17) (c.faults 17)
            → Loads {T = T} s number time bytes (Err why) a c from to
        load_gate why disk gate rose =
            let all : length bytes ≤ image_size s = omega (arith, loads.whole.0) in
            record {
              took = loads.took;
              whole = tt;
              made = tt;
              refused = subst (IsLoadFault s (length bytes) a c from to) (sym disk) (all, rose_since (a.faults 17) (b.faults 17) (c.faults 17) (loads.any_moment.faults 17) rose);
              shut = inr (disk, loads.whole.0, loads.whole.1);
              any_moment = gate_part s number time (image_of s bytes) a lawful none (can_load s number time bytes id most fits loads.whole.0) b c loads.shut gate;
            }

        -- the replica is whole
        pub load_done : Moves b c (Differs (Within 17 0 1)) (PlacedThrough c 17 0 (165 ∷ [])) → Moves b c (Differs (Within 17 0 1)) (Differs (Within 17 0 1))
            → Loads {T = T} s number time bytes (Ok value) a c from to
        load_done gate moves =
            let can = can_load s number time bytes id most fits loads.whole.0 in
            record {
              took = loads.took;
              whole = loads.whole;
              made = gate_done s number time (image_of s bytes) a lawful none can b c loads.shut gate;
              refused = tt;
              shut = tt;
              any_moment = gate_part s number time (image_of s bytes) a lawful none can b c loads.shut moves;
            }
