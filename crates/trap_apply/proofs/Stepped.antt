-- What one frame does to a replica.
use Rattle.std.proofs.Common.{◌≡◌, ◌≢◌, ◌⊎◌, ℕ, ◌+◌, ◌<◌, ◌≤◌, arith, length, List, [], ◌∷◌, Bool, true, false, if◌then◌else◌, Option, Some, None, inl, inr, ⊎_elim, refl, sym, subst}
use Rattle.std.specs.Prelude.{not, ◌==◌, nat_lt}
use Rattle.std.proofs.lemmas.Bool.Decides.{nat_tests}
use Rattle.trap_bank.specs.Called.{CalledAtMost}
use Rattle.trap_bank.specs.Disks.{View}
use Rattle.trap_bank.specs.Faults.{Rose}
use Rattle.trap_bank.proofs.Moves.{moves_weaken, no_moves}
use Rattle.trap_bank.specs.Stream.{Stream}
use Rattle.trap_frame.specs.Reading.{FindsFrame}
use Rattle.trap_frame.specs.declared.found.Next.{Next}
use Rattle.trap_frame.specs.declared.found.Next.TheVariants as found
use Rattle.trap_model.specs.Frame.{Sent}
use Rattle.trap_model.specs.declared.frame.Frame.{Frame}
use Rattle.trap_replica.specs.Applying.{Elsewhere, Leaves, take_calls}
use Rattle.trap_replica.specs.Mounted.{MountedReplica, IsUsable, StaysBeside, Receives, arrival, receiver, frame_refusal}
use Rattle.trap_replica.specs.Standing.{Mirrors, HoldsApplied, arrived}
use Rattle.trap_replica.specs.declared.fault.ReplicaFault.{ReplicaFault}
use Rattle.trap_replica.specs.declared.fault.ReplicaFault.TheVariants.{DiskFault, Stranger, NoBlock, Stopped}
use Rattle.trap_apply.specs.Fitting.{FitsReplica}
use Rattle.trap_apply.specs.Reached.{arrivals, HoldsReached, LeavesReached, HasReceived}
use Rattle.trap_apply.specs.Stepping.{FindsSent, Rests, RefusesFrame}

-- nothing else was done
pub keeps_none : (a : MountedReplica) (v : View) → IsUsable a v → StaysBeside a a v v
keeps_none a v ready = record {
  shape = refl;
  usable = ready;
  sizes = λ e. refl;
  elsewhere = no_moves v Elsewhere Elsewhere (λ x was e other. refl);
  touches = λ told. record { disks = λ e other. refl; said = refl };
}

pub keeps_still : {B : Type 0} (view : B → View) (a b : MountedReplica) (first last : B) → IsUsable a (view first) → b ≡ a → last ≡ first → StaysBeside a b (view first) (view last)
keeps_still view a b first last ready replica bank =
    subst (λ (m : MountedReplica). StaysBeside a m (view first) (view last)) (sym replica)
    (subst (λ k. StaysBeside a a (view first) (view k)) (sym bank) (keeps_none a (view first) ready))

-- the frame that was found
pub found_sent : (n size used used' : ℕ) (next : Next) (f : Frame) (parity : List ℕ) (s s' : Stream) → n ≡ size → next ≡ found.Frame f → FindsFrame n next parity used used' s s'
    → FindsSent size (record { frame = f; parity = parity }) used used' s s'
found_sent n size used used' next f parity s s' same is finds =
    subst (λ (m : ℕ). FindsFrame m (found.Frame f) parity used used' s s') same (subst (λ (x : Next). FindsFrame n x parity used used' s s') is finds)

-- a frame that isn't refused
pub not_refused : (refusal : Option ReplicaFault) → ((why : ReplicaFault) → refusal ≡ Some why → ⊥) → refusal ≡ None
not_refused None none = refl
not_refused (Some why) none = absurd (none why refl)

-- numbers by their tests
pub same_number : (m n : ℕ) → (m == n) ≡ true → m ≡ n
same_number m n test = grind (arith, nat_tests)

other_number : (m n : ℕ) → (m == n) ≡ false → m ≢ n
other_number m n test same = grind (arith, nat_tests)

is_below : (m n : ℕ) → nat_lt m n ≡ true → m < n
is_below m n test = grind (arith, nat_tests)

not_below : (m n : ℕ) → nat_lt m n ≡ false → n ≤ m
not_below m n test = grind (arith, nat_tests)

-- a frame that isn't refused is for the replica
passes_tests : (x y s : Bool) (id block : ℕ)
    → (if not x then Some (Stranger id) else (if not y then Some (NoBlock block) else (if s then Some Stopped else None))) ≡ None → (x ≡ true) × (y ≡ true)
passes_tests false y s id block is = absurd cc
passes_tests true false s id block is = absurd cc
passes_tests true true s id block is = (refl, refl)

pub fits_here : (a : MountedReplica) (f : Frame) → frame_refusal a f ≡ None → FitsReplica a.store.shape f
fits_here a f none =
    let tests = passes_tests (f.id == a.store.shape.id) (nat_lt f.block a.store.shape.volume) a.is_stopped f.id f.block none in
    record { own = same_number f.id a.store.shape.id tests.0; inside = is_below f.block a.store.shape.volume tests.1 }

-- a frame is refused for its id or its block, unless the replica is stopped
refusal_kind : (x y s : Bool) (id block : ℕ) (why : ReplicaFault) → s ≡ false
    → (if not x then Some (Stranger id) else (if not y then Some (NoBlock block) else (if s then Some Stopped else None))) ≡ Some why
    → ((why ≡ Stranger id) × (x ≡ false)) ⊎ ((why ≡ NoBlock block) × (x ≡ true) × (y ≡ false))
refusal_kind false y s id block why running is = inl (cc, refl)
refusal_kind true false s id block why running is = inr (cc, refl, refl)
refusal_kind true true true id block why running is = absurd cc
refusal_kind true true false id block why running is = absurd cc

module _ (a b : MountedReplica) (sent : Sent) (old new : View)
    (any_moment : (image : List (List ℕ)) → Mirrors a.store old image → Leaves old new (HoldsApplied a.store.shape (arrived (receiver a image) (arrival sent.frame sent.parity)))) where
  pub leaves_one : LeavesReached (sent ∷ []) a old new
  leaves_one image mirrors = moves_weaken old new
      (λ x y. HoldsApplied a.store.shape (arrived (receiver a image) (arrival sent.frame sent.parity)) y)
      (λ x y. HoldsApplied a.store.shape (arrived (receiver a image) (arrival sent.frame sent.parity)) y)
      (λ x y. HoldsReached a.store.shape (receiver a image) (arrivals (sent ∷ [])) y) (λ x y. HoldsReached a.store.shape (receiver a image) (arrivals (sent ∷ [])) y)
      (any_moment image mirrors) (λ x y was left. inl left) (λ x y was last left. inl left)

  pub received_one : b.is_stopped ≡ false → Receives a b (arrival sent.frame sent.parity) old new → HasReceived (sent ∷ []) a b old new
  received_one running receives = record {
    running = running;
    numbers = receives.numbers;
    mirrors = receives.mirrors;
    calls = receives.calls;
    cell = receives.cell;
    any_moment = leaves_one;
  }

module _ {B : Type 0} (view : B → View) (a b : MountedReplica) (sent : Sent) (first last : B) (why : ReplicaFault) (running : a.is_stopped ≡ false)
    (refused : (w : ReplicaFault) → frame_refusal a sent.frame ≡ Some w → (why ≡ w) × (b ≡ a) × (last ≡ first))
    (cause : frame_refusal a sent.frame ≡ None → (why ≡ DiskFault) × Rose ((view first).faults 17) ((view last).faults 17))
    (stops : frame_refusal a sent.frame ≡ None → b.is_stopped ≡ true)
    (most : frame_refusal a sent.frame ≡ None → CalledAtMost (take_calls a.store.cell (length a.held.frames + 1)) (view first) (view last))
    (any_moment : LeavesReached (sent ∷ []) a (view first) (view last)) where
  fails : frame_refusal a sent.frame ≡ None → RefusesFrame view why sent a b first last
  fails none = subst (λ (w : ReplicaFault). RefusesFrame view w sent a b first last) (sym (cause none).0)
      (record { fits = fits_here a sent.frame none; cause = (cause none).1; stopped = stops none; most = most none; any_moment = any_moment })

  refuses_as : (w : ReplicaFault) → frame_refusal a sent.frame ≡ Some w → RefusesFrame view why sent a b first last
  refuses_as w is =
      let rests : Rests a b first last = record { replica = (refused w is).1; bank = (refused w is).2 } in
      subst (λ (v : ReplicaFault). RefusesFrame view v sent a b first last) (sym (refused w is).0) (⊎_elim
      (λ (kind : (w ≡ Stranger sent.frame.id) × ((sent.frame.id == a.store.shape.id) ≡ false)). subst (λ (v : ReplicaFault). RefusesFrame view v sent a b first last) (sym kind.0)
      (record { named = refl; other = other_number sent.frame.id a.store.shape.id kind.1 }, rests))
      (λ (kind : (w ≡ NoBlock sent.frame.block) × ((sent.frame.id == a.store.shape.id) ≡ true) × (nat_lt sent.frame.block a.store.shape.volume ≡ false)).
      subst (λ (v : ReplicaFault). RefusesFrame view v sent a b first last) (sym kind.0)
      (record { own = same_number sent.frame.id a.store.shape.id kind.1; named = refl; beyond = not_below sent.frame.block a.store.shape.volume kind.2 }, rests))
      (refusal_kind (sent.frame.id == a.store.shape.id) (nat_lt sent.frame.block a.store.shape.volume) a.is_stopped sent.frame.id sent.frame.block w running is))

  by_refusal : (refusal : Option ReplicaFault) → frame_refusal a sent.frame ≡ refusal → RefusesFrame view why sent a b first last
  by_refusal None is = fails is
  by_refusal (Some w) is = refuses_as w is

  pub refuses : RefusesFrame view why sent a b first last
  refuses = by_refusal (frame_refusal a sent.frame) refl
