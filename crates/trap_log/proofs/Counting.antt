-- How often a commit and a drain call the bank.
use Rattle.std.proofs.Common.{◌≡◌, ℕ, ◌+◌, ◌≤◌, subst, arith}
use Rattle.trap_bank.specs.Called.{CalledTimes, CalledAtMost}
use Rattle.trap_bank.specs.Disks.{View}
use Rattle.trap_bank.proofs.Called.{at_most_more, at_most_then, called_at_most, called_then}
use Rattle.trap_cell.specs.Steps.{put_calls}
use Rattle.trap_mount.specs.Holding.{log_ring}
use Rattle.trap_raid.specs.Condition.{Condition}
use Rattle.trap_raid.specs.Draining.{drain_calls, writes_to}
use Rattle.trap_ring.specs.Ring.{RingPlace, ring_calls}
use Rattle.trap_log.specs.Committing.{commit_calls}
use Rattle.trap_log.specs.Draining.{calls_to_drain}
use Rattle.trap_log.specs.Log.{Log}

-- the first of some calls are no more than all
part_of : (n m : ℕ) → n ≤ n + m
part_of n m = omega arith

both_of : (n m k : ℕ) → n + m ≤ n + (m + k)
both_of n m k = omega arith

-- one call is at most one
one_at_most : (v w : View) → CalledTimes 1 v w → CalledAtMost 1 v w
one_at_most v w one = called_at_most 1 1 v w (omega arith) one

-- ---- a commit
module _ (log : Log) (size : ℕ) (ring : RingPlace) (is_ring : ring ≡ log_ring log.g) (v v1 : View) where
  abbrev n : ℕ
  n = ring_calls (log_ring log.g) log.head.end_off size

  abbrev p : ℕ
  p = put_calls log.cell

  module _ (append : CalledAtMost (ring_calls ring log.head.end_off size) v v1) where
    here : CalledAtMost n v v1
    here = subst (λ (r : RingPlace). CalledAtMost (ring_calls r log.head.end_off size) v v1) is_ring append

    pub append_calls : CalledAtMost (commit_calls log size) v v1
    append_calls = at_most_more n (n + (1 + (1 + p))) v v1 (part_of n (1 + (1 + p))) here

    module _ (v2 : View) (fill : CalledTimes 1 v1 v2) where
      pub fill_calls : CalledAtMost (commit_calls log size) v v2
      fill_calls = at_most_then n 1 (n + (1 + (1 + p))) v v1 v2 (both_of n 1 (1 + p)) here (one_at_most v1 v2 fill)

      module _ (v3 : View) (sync : CalledTimes 1 v2 v3) where
        two : CalledAtMost (1 + 1) v1 v3
        two = at_most_then 1 1 (1 + 1) v1 v2 v3 (omega arith) (one_at_most v1 v2 fill) (one_at_most v2 v3 sync)

        pub sync_calls : CalledAtMost (commit_calls log size) v v3
        sync_calls = at_most_then n (1 + 1) (n + (1 + (1 + p))) v v1 v3 (omega arith) here two

        pub put_calls_most : (v4 : View) → CalledAtMost (put_calls log.cell) v3 v4 → CalledAtMost (commit_calls log size) v v4
        put_calls_most v4 put =
            at_most_then n (1 + (1 + p)) (n + (1 + (1 + p))) v v1 v4 (omega arith) here
            (at_most_then (1 + 1) p (1 + (1 + p)) v1 v3 v4 (omega arith) two put)

  pub whole_calls : CalledTimes (ring_calls ring log.head.end_off size) v v1 → (v2 v3 v4 : View) → CalledTimes 1 v1 v2 → CalledTimes 1 v2 v3
      → CalledTimes (put_calls log.cell) v3 v4 → CalledTimes (commit_calls log size) v v4
  whole_calls append v2 v3 v4 fill sync put =
      called_then n (1 + (1 + p)) v v1 v4
      (subst (λ (r : RingPlace). CalledTimes (ring_calls r log.head.end_off size) v v1) is_ring append)
      (called_then 1 (1 + p) v1 v2 v4 fill (called_then 1 p v2 v3 v4 sync put))

-- ---- a drain
module _ (log : Log) (upto : ℕ) (k : Condition) (is_raid : k ≡ record { g = log.g; lost = log.head.lost; rebuilt = log.head.rebuilt }) (v v1 : View) where
  abbrev d : ℕ
  d = drain_calls log.g log.head.lost log.head.rebuilt (writes_to log.stage upto)

  module _ (drain : CalledAtMost (drain_calls k.g k.lost k.rebuilt (writes_to log.stage upto)) v v1) where
    places : CalledAtMost d v v1
    places = subst (λ (c : Condition). CalledAtMost (drain_calls c.g c.lost c.rebuilt (writes_to log.stage upto)) v v1) is_raid drain

    pub raid_calls : CalledAtMost (calls_to_drain log upto) v v1
    raid_calls = at_most_more d (d + put_calls log.cell) v v1 (part_of d (put_calls log.cell)) places

    pub drain_calls_most : (v2 : View) → CalledAtMost (put_calls log.cell) v1 v2 → CalledAtMost (calls_to_drain log upto) v v2
    drain_calls_most v2 put = at_most_then d (put_calls log.cell) (d + put_calls log.cell) v v1 v2 (omega arith) places put

  pub drained_calls : CalledTimes (drain_calls k.g k.lost k.rebuilt (writes_to log.stage upto)) v v1 → (v2 : View) → CalledTimes (put_calls log.cell) v1 v2
      → CalledTimes (calls_to_drain log upto) v v2
  drained_calls drain v2 put =
      called_then d (put_calls log.cell) v v1 v2
      (subst (λ (c : Condition). CalledTimes (drain_calls c.g c.lost c.rebuilt (writes_to log.stage upto)) v v1) is_raid drain) put
