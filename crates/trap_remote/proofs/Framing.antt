-- What a command changes on the disks.
use Rattle.std.proofs.Common.{◌≡◌, ℕ, List, [], IsTrue, refl, sym, ap, subst, ◌∙◌, arith}
use Rattle.std.specs.Io.KnownBytes.{Consumes}
use Rattle.std.specs.Prelude.{Option, Some, None}
use Rattle.trap_bank.specs.Disks.{Contents, Disks, View, Quiet}
use Rattle.trap_bank.specs.Steps.{Steps, Moves, Same, OnlyReads, SpokePart}
use Rattle.trap_bank.specs.Stream.{Stream}
use Rattle.trap_bank.proofs.Moves.{then_, weaken}
use Rattle.trap_replica.specs.Applying.{Elsewhere}
use Rattle.trap_remote.specs.Found.{ByDisks, ChangesBy, ChangesNothing, ChangesReplica, TookBytes}
use Rattle.trap_remote.specs.declared.outcome.ReplicaEnd.{ReplicaEnd}

-- nothing was said
pub changes_quiet : (step : Disks → Disks → Type 0) (a b : View) → (IsTrue a.tells → step a.now.disks b.now.disks) → Moves a b step step → ChangesBy step a b
changes_quiet step a b now moves = record {
  now = now;
  any_moment = weaken a b (Quiet step) (Quiet step) (ByDisks step) (ByDisks step) moves (λ x y was by. by.disks) (λ x y was left by. by.disks);
}

-- only reads
pub changes_reads : (a b : View) → OnlyReads a b → ChangesBy Same a b
changes_reads a b reads = changes_quiet Same a b (λ told. ap (λ (c : Contents). c.disks) (reads.same told)) reads.moves

-- by a wider step
pub changes_wider : (step also : Disks → Disks → Type 0) (a b : View) → ((x y : Disks) → step x y → also x y) → ChangesBy step a b → ChangesBy also a b
changes_wider step also a b wider by = record {
  now = λ told. wider a.now.disks b.now.disks (by.now told);
  any_moment = weaken a b (ByDisks step) (ByDisks step) (ByDisks also) (ByDisks also) by.any_moment
      (λ x y was step. wider x.disks y.disks step) (λ x y was left step. wider x.disks y.disks step);
}

-- a run that changes the disks by a step, and then one that changes them by another
pub changes_then : (one two both : Disks → Disks → Type 0) (a b c : View) → ((x y z : Disks) → one x y → two y z → both x z) → ((x y : Disks) → one x y → both x y)
    → ChangesBy one a b → ChangesBy two b c → ChangesBy both a c
changes_then one two both a b c join first_alone first second = record {
  now = λ told. join a.now.disks b.now.disks c.now.disks (first.now told) (second.now (subst IsTrue (sym first.any_moment.tells) told));
  any_moment = then_ a b c (ByDisks one) (ByDisks one) (ByDisks two) (ByDisks two) (ByDisks both) (ByDisks both) first.any_moment second.any_moment
      (λ x y was by. first_alone x.disks y.disks by)
      (λ x y z was by mid more. join x.disks y.disks z.disks by more)
      (λ x y z was by mid more. join x.disks y.disks z.disks by more);
}

-- a line is said
pub changes_spoken : (a b : View) (line : List ℕ) → Steps a b (SpokePart line) (SpokePart line) → (IsTrue a.tells → b.now.disks ≡ a.now.disks) → ChangesBy Same a b
changes_spoken a b line spoke same = record {
  now = same;
  any_moment = weaken a b (SpokePart line) (SpokePart line) (ByDisks Same) (ByDisks Same) spoke (λ x y was by. by.disks) (λ x y was left by. by.disks);
}

-- the same disks are the same elsewhere
pub same_elsewhere : (x y : Disks) → Same x y → Elsewhere x y
same_elsewhere x y same e other = ap (λ (disks : Disks). disks e) same

pub elsewhere_then : (x y z : Disks) → Elsewhere x y → Elsewhere y z → Elsewhere x z
elsewhere_then x y z first second e other = second e other ∙ first e other

pub elsewhere_same : (x y z : Disks) → Elsewhere x y → Same y z → Elsewhere x z
elsewhere_same x y z first same = elsewhere_then x y z first (same_elsewhere y z same)

-- nothing but reads
pub reads_nothing : (a b : View) → OnlyReads a b → ChangesNothing a b
reads_nothing a b reads = record { sizes = reads.sizes; changes = changes_reads a b reads }

pub reads_replica : (ended : ReplicaEnd) (a b : View) → OnlyReads a b → ChangesReplica ended a b
reads_replica ended a b reads = record {
  sizes = λ e other. reads.sizes e;
  elsewhere = changes_wider Same Elsewhere a b same_elsewhere (changes_reads a b reads);
  unchanged = λ is. reads_nothing a b reads;
}

-- nothing was taken
pub consumes_none : (left : Option (List ℕ)) → Consumes left left []
consumes_none None = tt
consumes_none (Some rest) = refl

pub took_none : (s : Stream) → TookBytes s s
took_none s = record { bytes = []; taken = consumes_none s.left; given = omega arith; most = omega arith; faults = omega arith; untold = λ is. is }
