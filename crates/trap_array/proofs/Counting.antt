-- How often a write calls the bank, from how often its steps do.
use Rattle.std.proofs.Common.{◌≡◌, ◌⊎◌, ℕ, ◌+◌, ◌-◌, ◌%◌, ◌≤◌, List, [], ◌∷◌, drop, Bool, true, false, nat_le, Result, Ok, Err, if◌then◌else◌, inl, inr, refl, sym, ap, subst, ◌∙◌, arith}
use Rattle.std.proofs.lemmas.Bool.{le-leb, leb-true}
use Rattle.std.proofs.lemmas.Result.{on_ok_weaker}
use Rattle.trap_bank.specs.Called.{CalledTimes, CalledAtMost}
use Rattle.trap_bank.specs.Disks.{View}
use Rattle.trap_bank.proofs.Called.{not_called, called_then, called_at_most, at_most_then, at_most_more}
use Rattle.trap_cell.specs.Slots.{Slots, turned}
use Rattle.trap_cell.specs.Steps.{put_calls}
use Rattle.trap_format.specs.declared.head.Head.{Head}
use Rattle.trap_index.specs.Indexed.{Indexed}
use Rattle.trap_model.specs.Limits.{greatest_record}
use Rattle.trap_model.specs.declared.numbers.Geometry.{Geometry}
use Rattle.trap_raid.specs.Draining.{drain_calls, writes_to}
use Rattle.trap_raid.specs.Standing.{plan_reads}
use Rattle.trap_ring.specs.Ring.{RingPlace, ring_calls}
use Rattle.trap_stage.specs.Slots.{last_of}
use Rattle.trap_stage.specs.Staged.{Staged}
use Rattle.trap_log.specs.Draining.{calls_to_drain, calls_for_room, has_slot}
use Rattle.trap_array.specs.Calling.{CallsFor, block_calls, commit_drain_calls, is_slot_free, kept_calls, planned_calls, room_calls}
use Rattle.trap_array.specs.Calls.{Mounted, running}
use Rattle.trap_array.specs.Holding.{log_ring}
use Rattle.trap_array.specs.Log.{Log, IndexedLog, with_index}
use Rattle.trap_array.specs.NextHead.{committed, drained_to}
use Rattle.trap_array.specs.declared.fault.Denied.{Denied}

-- ---- a longer record takes no fewer calls of the ring
one_or_two : (b : Bool) → 1 ≤ (if b then 1 else 2)
one_or_two true = omega arith
one_or_two false = omega arith

ring_more : (r : RingPlace) (at m n : ℕ) → m ≤ n → ring_calls r at m ≤ ring_calls r at n
ring_more r at m n more = by_end (nat_le (at % r.len + n) r.len) refl
  where
    few : (b : Bool) → nat_le (at % r.len + m) r.len ≡ b → (if b then 1 else 2) ≤ 2
    few true is = omega arith
    few false is = omega arith

    by_end : (b : Bool) → nat_le (at % r.len + n) r.len ≡ b → ring_calls r at m ≤ (if b then 1 else 2)
    by_end true is =
        let within = leb-true (at % r.len + n) r.len is in
        let here : nat_le (at % r.len + m) r.len ≡ true = le-leb (at % r.len + m) r.len (omega arith) in
        let one : ring_calls r at m ≡ 1 = ap (λ (c : Bool). if c then 1 else 2) here in
        omega arith
    by_end false is = few (nat_le (at % r.len + m) r.len) refl

pub commit_more : (a : Mounted) (pending : List Staged) (cell : Slots) (block m n : ℕ) → m ≤ n → commit_drain_calls a pending cell block m ≤ commit_drain_calls a pending cell block n
commit_more a pending cell block m n more = add_more (ring_calls (log_ring a.g) a.head.end_off m) (ring_calls (log_ring a.g) a.head.end_off n) (1 + (1 + put_calls cell))
    (block_calls a block + drain_calls a.g a.head.lost a.head.rebuilt pending + put_calls (turned cell))
    (ring_more (log_ring a.g) a.head.end_off m n more)
  where
    add_more : (x y p q : ℕ) → x ≤ y → x + p + q ≤ y + p + q
    add_more x y p q less = omega arith

-- ---- answers
-- a call that failed or refused
pub calls_failed : {T : Type 0} (calls : ℕ → ℕ) (a b : Mounted) (e : Denied) (result : Result T Denied) (v w : View) → Err e ≡ result
    → CalledAtMost (calls (greatest_record a.g.block)) v w → CallsFor calls a b result v w
calls_failed {T = T} calls a b e result v w is most =
    subst (λ (r : Result T Denied). CallsFor calls a b r v w) is (record { kept = λ size grew. tt; most = most })

-- no call
pub calls_none : {T : Type 0} (calls : ℕ → ℕ) (a b : Mounted) (e : Denied) (v : View) → CallsFor {T = T} calls a b (Err e) v v
calls_none calls a b e v = record {
  kept = λ size grew. tt;
  most = called_at_most 0 (calls (greatest_record a.g.block)) v v (omega arith) (not_called v);
}

-- what was kept, whose record has that many bytes
pub calls_kept : {T : Type 0} (calls : ℕ → ℕ) (a b : Mounted) (value : T) (n : ℕ) (v w : View) → b.head.end_off ≡ a.head.end_off + n → calls n ≤ calls (greatest_record a.g.block)
    → CalledTimes (calls n) v w → CallsFor calls a b (Ok value) v w
calls_kept calls a b value n v w long more called = record {
  kept = λ size grew.
      let same : n ≡ size = omega arith in
      subst (λ (k : ℕ). CalledTimes (calls k) v w) same called;
  most = called_at_most (calls n) (calls (greatest_record a.g.block)) v w more called;
}

-- after some calls
pub calls_after : {T : Type 0} (before : ℕ) (first then_ : ℕ → ℕ) (a m b : Mounted) (result : Result T Denied) (v x w : View) → m.g ≡ a.g → m.head.end_off ≡ a.head.end_off
    → ((n : ℕ) → first n ≡ then_ n) → CalledTimes before v x → CallsFor first m b result x w
    → CallsFor (λ n. before + then_ n) a b result v w
calls_after before first then_ a m b result v x w g end same called rest = record {
  kept = λ size grew. on_ok_weaker result
      (λ times. called_then before (then_ size) v x w called (subst (λ (n : ℕ). CalledTimes n x w) (same size) times))
      (rest.kept size (grew ∙ ap (λ (n : ℕ). n + size) (sym end)));
  most =
      let longest : greatest_record m.g.block ≡ greatest_record a.g.block = ap (λ (k : Geometry). greatest_record k.block) g in
      let few : first (greatest_record m.g.block) ≡ then_ (greatest_record a.g.block) = ap first longest ∙ same (greatest_record a.g.block) in
      at_most_then before (then_ (greatest_record a.g.block)) (before + then_ (greatest_record a.g.block)) v x w (omega arith)
      (called_at_most before before v x (omega arith) called)
      (subst (λ (n : ℕ). CalledAtMost n x w) few rest.most);
}

-- ---- a drain after the commit
pub drain_is : (a : IndexedLog) (b : Log) (block size time : ℕ) (bytes parity : List ℕ) → b.g ≡ a.g → b.head ≡ committed a.head time size
    → b.stage.pending ≡ (record { block = block; bytes = bytes; parity = parity }) ∷ a.stage.pending → last_of b.stage ≡ b.head.last → b.cell ≡ turned a.cell
    → calls_to_drain b b.head.last ≡ block_calls (running a) block + drain_calls a.g a.head.lost a.head.rebuilt a.stage.pending + put_calls (turned a.cell)
drain_is a b block size time bytes parity g head pending last cell =
    let none : last_of b.stage - b.head.last ≡ 0 = omega arith in
    let staged : Staged = record { block = block; bytes = bytes; parity = parity } in
    let writes : writes_to b.stage b.head.last ≡ staged ∷ a.stage.pending = ap (λ (n : ℕ). drop n b.stage.pending) none ∙ pending in
    ap (λ (h : Head). drain_calls b.g h.lost h.rebuilt (writes_to b.stage b.head.last) + put_calls b.cell) head
    ∙ ap (λ (k : Geometry). drain_calls k a.head.lost a.head.rebuilt (writes_to b.stage b.head.last) + put_calls b.cell) g
    ∙ ap (λ (w : List Staged). drain_calls a.g a.head.lost a.head.rebuilt w + put_calls b.cell) writes
    ∙ ap (λ (c : Slots). drain_calls a.g a.head.lost a.head.rebuilt (staged ∷ a.stage.pending) + put_calls c) cell

-- ---- a drain before it
-- the calls that make a slot free
pub room_is : (a : Log) (i : Indexed) → last_of a.stage ≡ a.head.last → calls_for_room a ≡ room_calls (running (with_index a i))
room_is a i last =
    let none : last_of a.stage - a.head.last ≡ 0 = omega arith in
    ap (λ (n : ℕ). if has_slot a then 0 else drain_calls a.g a.head.lost a.head.rebuilt (drop n a.stage.pending) + put_calls a.cell) none

-- what is pending then
pub left_or_none : {A : Type 0} (b : Bool) (x p : List A) → x ≡ (if b then p else []) → (x ≡ p) ⊎ (x ≡ [])
left_or_none true x p is = inl is
left_or_none false x p is = inr is

-- a plan asks the same of a log whose writes were drained
pub planned_is : (a b : Mounted) (pending : List Staged) (cell : Slots) (block drained n : ℕ) → b.g ≡ a.g → b.head ≡ drained_to a.head drained → b.pending ≡ pending → b.cell ≡ cell
    → planned_calls b b.pending b.cell block n ≡ planned_calls a pending cell block n
planned_is a b pending cell block drained n g head is same =
    ap (λ (h : Head). planned_calls (record b { head = h }) b.pending b.cell block n) head
    ∙ ap (λ (k : Geometry). planned_calls (record b { g = k; head = a.head }) b.pending b.cell block n) g
    ∙ ap (λ (w : List Staged). planned_calls a w b.cell block n) is
    ∙ ap (λ (c : Slots). planned_calls a pending c block n) same

-- and its reads are a first part of what a write takes
pub planned_first : (a : Mounted) (block size : ℕ) (v w : View) → CalledAtMost (plan_reads a.g a.head.lost a.pending block) v w → CalledAtMost (planned_calls a a.pending a.cell block size) v w
planned_first a block size v w called = at_most_more (plan_reads a.g a.head.lost a.pending block) (planned_calls a a.pending a.cell block size) v w
    (front (plan_reads a.g a.head.lost a.pending block) (commit_drain_calls a a.pending a.cell block size)) called
  where
    front : (m n : ℕ) → m ≤ m + n
    front m n = omega arith

-- and so are the calls that make a slot free
pub room_first : (a : Mounted) (block size : ℕ) (v w : View) → CalledAtMost (room_calls a) v w → CalledAtMost (kept_calls a block size) v w
room_first a block size v w called = at_most_more (room_calls a) (kept_calls a block size) v w
    (front (room_calls a) (planned_calls a (if is_slot_free a then a.pending else []) (if is_slot_free a then a.cell else turned a.cell) block size)) called
  where
    front : (m n : ℕ) → m ≤ m + n
    front m n = omega arith
