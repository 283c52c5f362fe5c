-- How an image's blocks come from a source, and are written home one after the other.
use Rattle.std.proofs.Common.{◌≡◌, ◌≢◌, ℕ, ◌+◌, ◌*◌, ◌<◌, ◌≤◌, List, [], ◌++◌, length, take, drop, Result, Ok, Err, IsTrue, ⊎_elim, refl, sym, ap, subst, ◌∙◌, arith, append-nil}
use Rattle.std.proofs.lemmas.Bool.{cases_lt}
use Rattle.std.proofs.lemmas.List.{take_all}
use Rattle.std.specs.Result.{IsErr, IsErrAnd}
use Rattle.trap_bank.specs.Called.{CalledTimes}
use Rattle.trap_bank.specs.Disks.{View, Within, Differs, Torn, region}
use Rattle.trap_bank.specs.Calls.{Writes}
use Rattle.trap_bank.specs.Filling.{CountsBytes, FillsFrom}
use Rattle.trap_bank.specs.Steps.{Moves}
use Rattle.trap_bank.specs.Stream.{Stream}
use Rattle.trap_bank.proofs.Called.{not_called, called_then}
use Rattle.trap_bank.proofs.Filled.{counts_none, counts_then}
use Rattle.trap_bank.proofs.Moves.{no_moves, moves_mono, moves_again, torn_mono, torn_again, write_steps}
use Rattle.trap_bank.proofs.Regions.{differs_none, region_beside}
use Rattle.trap_bank.proofs.Rising.{rose_since}
use Rattle.trap_format.specs.ReplicaDisk.{home_at}
use Rattle.trap_format.specs.declared.shape.Shape.{Shape}
use Rattle.trap_replica.specs.Loading.{image_area, image_size, IsLoadFault}
use Rattle.trap_replica.specs.LoadSteps.{TakesBlock, WritesBlock, EndsImage, HasHomes, WritesImage}
use Rattle.trap_replica.specs.OnDisk.{home}
use Rattle.trap_replica.specs.declared.fault.ReplicaFault.{ReplicaFault}
use Rattle.trap_replica.specs.declared.fault.ReplicaFault.TheVariants.{Exists, NotAReplica, Damaged, DiskFault, ReadFault, ShortImage, LongImage, Stranger, NoBlock, Stopped, OutOfMemory}
use Rattle.trap_replica.proofs.OneFrame.{block_inside, homes_apart, home_part}
use Rattle.trap_replica.proofs.LoadedImage.{block_kept, block_next}

-- what holds of an error that is known holds of the result
pub err_is : {T E : Type 0} (result : Result T E) (P : E → Type 0) (Q : Result T E → Type 0) → IsErr result → IsErrAnd result P → ((e : E) → P e → Q (Err e)) → Q result
err_is (Ok value) P Q err known holds = absurd (cc err)
err_is (Err e) P Q err known holds = holds e known

-- a fault is one of a longer run too
pub fault_since : (s : Shape) (m n : ℕ) (a b c : View) (from mid to : Stream) (why : ReplicaFault) → m ≡ n → a.faults 17 ≤ b.faults 17 → from.faults ≤ mid.faults
    → IsLoadFault s m b c mid to why → IsLoadFault s n a c from to why
fault_since s m n a b c from mid to (Exists disk) is disks source fault = fault
fault_since s m n a b c from mid to NotAReplica is disks source fault = fault
fault_since s m n a b c from mid to (Damaged offset) is disks source fault = fault
fault_since s m n a b c from mid to DiskFault is disks source fault = (omega (arith, is, fault.0), rose_since (a.faults 17) (b.faults 17) (c.faults 17) disks fault.1)
fault_since s m n a b c from mid to ReadFault is disks source fault = (omega (arith, is, fault.0), rose_since from.faults mid.faults to.faults source fault.1)
fault_since s m n a b c from mid to (ShortImage at) is disks source fault = (fault.0 ∙ is, omega (arith, is, fault.1), fault.2)
fault_since s m n a b c from mid to (LongImage at) is disks source fault = (fault.0, sym is ∙ fault.1)
fault_since s m n a b c from mid to (Stranger id) is disks source fault = fault
fault_since s m n a b c from mid to (NoBlock block) is disks source fault = fault
fault_since s m n a b c from mid to Stopped is disks source fault = fault
fault_since s m n a b c from mid to OutOfMemory is disks source fault = sym is ∙ fault

-- the bytes of two runs are counted from the first byte on
pub counted_all : (bytes : List ℕ) (n : ℕ) (from to : Stream) → CountsBytes bytes 0 n from to → CountsBytes bytes 0 (length bytes) from to
counted_all bytes n from to took = record { left = took.left; counted = omega arith; given = took.given; faults = took.faults; untold = took.untold }

-- a block, filled
pub filled_block : {T : Type 0} (value : T) (bytes buf : List ℕ) (have used used' : ℕ) (from to : Stream) → FillsFrom {E = ReplicaFault} bytes (Ok have) buf used used' from to → length buf ≤ have
    → TakesBlock {T = T} bytes (Ok value) buf used used' from to
filled_block value bytes buf have used used' from to fills full =
    let all : length bytes ≡ length buf = omega (arith, fills.ended.0, fills.within, full) in
    record {
      took = fills.took;
      whole = sym (sym fills.front ∙ ap (λ (n : ℕ). take n buf) all ∙ take_all (length buf) buf (omega arith));
      most = fills.within;
      refused = tt;
    }

module _ (s : Shape) (b used used' : ℕ) (inside : b < s.volume) (counted : used ≡ b * s.block) (bytes block : List ℕ) (sized : length block ≡ s.block) (from to : Stream) where
  within : used + s.block ≤ image_size s
  within = omega (arith, counted, block_inside b s.volume s.block inside)

  -- the block didn't come whole
  pub block_refused : {T : Type 0} (why : ReplicaFault) (v : View) → TakesBlock {T = T} bytes (Err why) block used used' from to → WritesBlock {T = T} s b bytes (Err why) used used' v v from to
  block_refused why v takes = record {
    took = takes.took;
    whole = tt;
    refused = ⊎_elim
        (λ read. let few : used' ≤ image_size s = omega (arith, takes.took.counted, takes.refused.0, sized, within) in
        subst (λ (w : ReplicaFault). (w ≢ OutOfMemory) × IsLoadFault s used' v v from to w) (sym read.0) ((λ e. cc), (few, read.1)))
        (λ short. let few : used' < image_size s = omega (arith, takes.took.counted, takes.refused.0, sized, within) in
        subst (λ (w : ReplicaFault). (w ≢ OutOfMemory) × IsLoadFault s used' v v from to w) (sym short.0) ((λ e. cc), (refl, few, short.1)))
        takes.refused.1;
    there = λ told. tt;
    contents = λ told. record { disks = differs_none (home s b) v.now.disks; said = refl };
    moves = no_moves v (Differs (home s b)) (Differs (home s b)) (λ x was. differs_none (home s b) x.disks);
  }

  module _ {T E : Type 0} (result : Result T E) (old new : View) (at : ℕ) (is : at ≡ home_at s b) (call : Writes 17 at block result old new) where
    moved : Moves old new (Differs (home s b)) (Differs (home s b))
    moved = home_part s b at (length block) old new is sized (write_steps result old new 17 at block call)

    torn : IsTrue old.tells → Torn (home s b) old.now new.now
    torn told = subst (λ (n : ℕ). Torn (Within 17 (home_at s b) n) old.now new.now) sized (subst (λ (k : ℕ). Torn (Within 17 k (length block)) old.now new.now) is (call.torn told))

  -- it came, but the disk failed
  pub block_unwritten : {U T E : Type 0} (e : E) (value : U) (result : Result U ReplicaFault) (old new : View) (at : ℕ) → at ≡ home_at s b → IsErr result → IsErrAnd result (λ why. why ≡ DiskFault)
      → Writes {T = T} {E = E} 17 at block (Err e) old new → TakesBlock {T = U} bytes (Ok value) block used used' from to → WritesBlock {T = U} s b bytes result used used' old new from to
  block_unwritten e value (Ok got) old new at is err disk call takes = absurd (cc err)
  block_unwritten {U} {T} {E} e value (Err why) old new at is err disk call takes =
      let few : used' ≤ image_size s = omega (arith, takes.took.counted, ap length takes.whole, sized, within) in
      record {
        took = takes.took;
        whole = tt;
        refused = subst (λ (w : ReplicaFault). (w ≢ OutOfMemory) × IsLoadFault s used' old new from to w) (sym disk) ((λ e. cc), (few, call.cause));
        there = λ told. tt;
        contents = torn {T = T} {E = E} (Err e) old new at is call;
        moves = moved {T = T} {E = E} (Err e) old new at is call;
      }

  -- it came, and is at home
  pub block_written : {U T E : Type 0} (done : T) (value : U) (old new : View) (at : ℕ) → at ≡ home_at s b → Writes {T = T} {E = E} 17 at block (Ok done) old new
      → TakesBlock {T = U} bytes (Ok value) block used used' from to → WritesBlock {T = U} s b bytes (Ok value) used used' old new from to
  block_written {U} {T} {E} done value old new at is call takes = record {
    took = takes.took;
    whole = sym (ap length takes.whole) ∙ sized;
    refused = tt;
    there = λ told. ap (λ (n : ℕ). region new.now.disks 17 (home_at s b) n) (sym sized) ∙ ap (λ (k : ℕ). region new.now.disks 17 k (length block)) (sym is) ∙ call.written told ∙ takes.whole;
    contents = torn {T = T} {E = E} (Ok done) old new at is call;
    moves = moved {T = T} {E = E} (Ok done) old new at is call;
  }

-- a block's positions are in the image area
in_area : (s : Shape) (b e i : ℕ) → b < s.volume → home s b e i → image_area s e i
in_area s b e i inside within =
    let last = block_inside b s.volume s.block inside in
    record { disk = within.disk; from = omega (arith, within.from); to = omega (arith, within.to, last) }

-- the first blocks came and were written home
pub record HasTaken (s : Shape) (n at : ℕ) (bytes : List ℕ) (old new : View) (from to : Stream) : Type 0 where
  pub took : CountsBytes bytes 0 at from to
  pub counted : at ≡ n * s.block
  pub homes : IsTrue old.tells → HasHomes s n bytes new.now.disks
  pub contents : IsTrue old.tells → Torn (image_area s) old.now new.now
  pub moves : Moves old new (Differs (image_area s)) (Differs (image_area s))
  pub sizes : (e : ℕ) → new.sizes e ≡ old.sizes e
  pub calls : CalledTimes n old new

pub taken_none : (s : Shape) (v : View) (from : Stream) → HasTaken s 0 0 [] v v from from
taken_none s v from = record {
  took = counts_none 0 from;
  counted = grind arith;
  homes = λ told b less. absurd (omega (arith, less));
  contents = λ told. record { disks = differs_none (image_area s) v.now.disks; said = refl };
  moves = no_moves v (Differs (image_area s)) (Differs (image_area s)) (λ x was. differs_none (image_area s) x.disks);
  sizes = λ e. refl;
  calls = not_called v;
}

module _ (s : Shape) (n at at' : ℕ) (bytes more : List ℕ) (a b c : View) (from mid to : Stream) (so_far : HasTaken s n at bytes a b from mid) (inside : n < s.volume) where
  told_still : IsTrue a.tells → IsTrue b.tells
  told_still told = subst IsTrue (sym so_far.moves.tells) told

  module _ {T : Type 0} (result : Result T ReplicaFault) (block : WritesBlock s n more result at at' b c mid to) where
    all_moves : Moves a c (Differs (image_area s)) (Differs (image_area s))
    all_moves = moves_again (image_area s) a b c so_far.moves (moves_mono (home s n) (image_area s) b c (λ e i within. in_area s n e i inside within) block.moves)

    all_torn : IsTrue a.tells → Torn (image_area s) a.now c.now
    all_torn = torn_again (image_area s) a b c so_far.moves.tells so_far.contents
        (λ told. torn_mono (home s n) (image_area s) b.now c.now (λ e i within. in_area s n e i inside within) (block.contents told))

    all_took : CountsBytes (bytes ++ more) 0 at' from to
    all_took = counts_then bytes more 0 at at' from mid to so_far.took block.took

  -- a block more
  pub taken_more : {T : Type 0} (value : T) → WritesBlock s n more (Ok value) at at' b c mid to → ((e : ℕ) → c.sizes e ≡ b.sizes e) → CalledTimes 1 b c
      → HasTaken s (n + 1) at' (bytes ++ more) a c from to
  taken_more value block sizes called = record {
    took = all_took (Ok value) block;
    counted = let one : (n + 1) * s.block ≡ n * s.block + s.block = grind arith in omega (arith, block.took.counted, block.whole, so_far.counted);
    homes = λ told k less. each told k less;
    contents = all_torn (Ok value) block;
    moves = all_moves (Ok value) block;
    sizes = λ e. sizes e ∙ so_far.sizes e;
    calls = called_then n 1 a b c so_far.calls called;
  }
    where
      long : length bytes ≡ n * s.block
      long = omega (arith, so_far.took.counted, so_far.counted)

      each : IsTrue a.tells → (k : ℕ) → k < n + 1 → region c.now.disks 17 (home_at s k) s.block ≡ take s.block (drop (k * s.block) (bytes ++ more))
      each told k less = ⊎_elim
          (λ (before : k < n).
          region_beside 17 (home_at s n) s.block b.now.disks c.now.disks (home_at s k) s.block (block.contents (told_still told)).disks (homes_apart s k n (λ e. omega (arith, before, e)))
          ∙ so_far.homes told k before ∙ sym (block_kept s k n bytes more before (omega (arith, long))))
          (λ (last : n ≤ k). let here : k ≡ n = omega arith in
          subst (λ (j : ℕ). region c.now.disks 17 (home_at s j) s.block ≡ take s.block (drop (j * s.block) (bytes ++ more))) (sym here)
          (block.there (told_still told) ∙ sym (block_next s n bytes more long block.whole)))
          (cases_lt k n)

  -- or it didn't come, or wasn't written
  pub taken_failed : {T : Type 0} (why : ReplicaFault) → WritesBlock {T = T} s n more (Err why) at at' b c mid to → WritesImage {T = T} s (bytes ++ more) (Err why) a c from to
  taken_failed {T} why block = record {
    took = counted_all (bytes ++ more) at' from to (all_took {T = T} (Err why) block);
    whole = tt;
    refused = (
      block.refused.0,
      fault_since s at' (length (bytes ++ more)) a b c from mid to why
          (let n : at' ≡ length (bytes ++ more) = omega (arith, (all_took {T = T} (Err why) block).counted) in n) (so_far.moves.faults 17) so_far.took.faults block.refused.1,
    );
    homes = λ told. tt;
    contents = all_torn {T = T} (Err why) block;
    moves = all_moves {T = T} (Err why) block;
  }

-- after the last block the input is to end
pub image_ended : {T : Type 0} (s : Shape) (at : ℕ) (bytes more : List ℕ) (a b : View) (from mid to : Stream) (result : Result T ReplicaFault) → HasTaken s s.volume at bytes a b from mid
    → EndsImage more result at mid to → WritesImage s (bytes ++ more) result a b from to
image_ended s at bytes more a b from mid to (Ok value) so_far ends =
    let none = ends.ends.0 in
    let all : bytes ++ more ≡ bytes = ap (λ (l : List ℕ). bytes ++ l) none ∙ append-nil bytes in
    record {
      took = counted_all (bytes ++ more) (at + length more) from to (counts_then bytes more 0 at (at + length more) from mid to so_far.took ends.took);
      whole = (omega (arith, ap length all, so_far.took.counted, so_far.counted), ends.ends.1);
      refused = tt;
      homes = λ told b below. so_far.homes told b below ∙ ap (λ (l : List ℕ). take s.block (drop (b * s.block) l)) (sym all);
      contents = so_far.contents;
      moves = so_far.moves;
    }
image_ended {T} s at bytes more a b from mid to (Err why) so_far ends =
    let took = counts_then bytes more 0 at (at + length more) from mid to so_far.took ends.took in
    record {
      took = counted_all (bytes ++ more) (at + length more) from to took;
      whole = tt;
      refused = ⊎_elim
          (λ read. let few : length (bytes ++ more) ≤ image_size s = omega (arith, took.counted, ap length read.1, so_far.counted) in
          subst (λ (w : ReplicaFault). (w ≢ OutOfMemory) × IsLoadFault s (length (bytes ++ more)) a b from to w) (sym read.0)
          ((λ e. cc), (few, rose_since from.faults mid.faults to.faults so_far.took.faults read.2)))
          (λ long. let one : length (bytes ++ more) ≡ image_size s + 1 = omega (arith, took.counted, long.1, so_far.counted) in
          subst (λ (w : ReplicaFault). (w ≢ OutOfMemory) × IsLoadFault s (length (bytes ++ more)) a b from to w) (sym long.0)
          ((λ e. cc), (so_far.counted, one)))
          ends.refused;
      homes = λ told. tt;
      contents = so_far.contents;
      moves = so_far.moves;
    }
