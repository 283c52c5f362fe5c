use Rattle.std.proofs.Common.{◌≡◌, ◌<◌, length, IsTrue, refl, arith, rules}
use Rattle.trap_ring.proofs.Appending.{IsFirst, IsRest, none_left, some_left, one_moves, two_moves, window_moves, one_torn, two_torn, one_written, two_written}
use Rattle.trap_ring.proofs.Counting.{one_at_most, one_call, two_at_most, two_calls}
use Rattle.trap_bank.specs.Disks.{Differs, Torn}
use Rattle.trap_bank.specs.Steps.{Moves}
use Rattle.trap_bank.proofs.Called.{took_calls}
use Rattle.trap_ring.specs.Ring.{InRing, KeepsWindow, ring_calls}
use Rattle.trap_ring.proofs.ring.Ring.append.Goals as goal
use Rattle.trap_ring.proofs.ring.Ring.append.Goals.{After-write, After-write-2}

-- ---- after the first write
first_part : (g : _) (c : After-write g)
    → IsFirst c.args.self.now c.args.to (length c.args.bytes.now) c.cut-start.result.0 c.cut-start.result.1 c.disk.result c.split_at.result.0.now
first_part g c = record { cut = c.cut-start.ensures; disk = c.disk.ensures.is; len = c.split_at.ensures.front_len }

one_moved : (g : _) (c : After-write g) → Moves (g.B.Bank.view c.args.bank.now) (g.B.Bank.view c.write.new.self)
    (Differs (InRing c.args.self.now c.args.to (length c.args.bytes.now))) (Differs (InRing c.args.self.now c.args.to (length c.args.bytes.now)))
one_moved g c =
    one_moves c.write.result (g.B.Bank.view c.args.bank.now) (g.B.Bank.view c.write.new.self) c.args.self.now c.args.to (length c.args.bytes.now) c.cut-start.result.0 c.cut-start.result.1
    c.disk.result c.split_at.result.0.now (first_part g c) c.write.ensures.call

one_kept : (g : _) (c : After-write g) → Moves (g.B.Bank.view c.args.bank.now) (g.B.Bank.view c.write.new.self)
    (KeepsWindow c.args.self.now c.args.from c.args.to) (KeepsWindow c.args.self.now c.args.from c.args.to)
one_kept g c =
    window_moves (g.B.Bank.view c.args.bank.now) (g.B.Bank.view c.write.new.self) c.args.self.now c.args.from c.args.to (length c.args.bytes.now) c.cut-start.ensures.some c.requires.room
    (one_moved g c)

one_tore : (g : _) (c : After-write g) → IsTrue (g.B.Bank.view c.args.bank.now).tells
    → Torn (InRing c.args.self.now c.args.to (length c.args.bytes.now)) (g.B.Bank.view c.args.bank.now).now (g.B.Bank.view c.write.new.self).now
one_tore g c =
    one_torn c.write.result (g.B.Bank.view c.args.bank.now) (g.B.Bank.view c.write.new.self) c.args.self.now c.args.to (length c.args.bytes.now) c.cut-start.result.0 c.cut-start.result.1 c.disk.result
    c.split_at.result.0.now (first_part g c) c.write.ensures.call

pub returns-in_err-write-clause-any_moment : goal.returns-in_err-write-clause-any_moment
returns-in_err-write-clause-any_moment g c = one_moved g (goal.at.returns-in_err-write-clause-any_moment g c).After-write

pub returns-in_err-write-clause-window : goal.returns-in_err-write-clause-window
returns-in_err-write-clause-window g c = one_kept g (goal.at.returns-in_err-write-clause-window g c).After-write

pub returns-in_err-write-clause-contents : goal.returns-in_err-write-clause-contents
returns-in_err-write-clause-contents g c = one_tore g (goal.at.returns-in_err-write-clause-contents g c).After-write

pub returns-then-is_empty-clause-any_moment : goal.returns-then-is_empty-clause-any_moment
returns-then-is_empty-clause-any_moment g c = one_moved g (goal.at.returns-then-is_empty-clause-any_moment g c).After-write

pub returns-then-is_empty-clause-window : goal.returns-then-is_empty-clause-window
returns-then-is_empty-clause-window g c = one_kept g (goal.at.returns-then-is_empty-clause-window g c).After-write

pub returns-then-is_empty-clause-contents : goal.returns-then-is_empty-clause-contents
returns-then-is_empty-clause-contents g c = one_tore g (goal.at.returns-then-is_empty-clause-contents g c).After-write

pub returns-then-is_empty-clause-written : goal.returns-then-is_empty-clause-written
returns-then-is_empty-clause-written g c =
    one_written _ (g.B.Bank.view c.args.bank.now) (g.B.Bank.view c.write.new.self) c.args.self.now c.args.from c.args.to (length c.args.bytes.now) c.cut-start.result.0 c.cut-start.result.1
    c.disk.result c.args.bytes.now c.split_at.result.0.now c.split_at.result.1.now refl c.requires.room c.split_at.ensures.by_index.0 (none_left (length c.split_at.result.1.now) c.if-is_empty.ensures)
    (first_part g (goal.at.returns-then-is_empty-clause-written g c).After-write) c.in_ok-write.ensures.call

-- ---- after both
parts : (g : _) (c : After-write-2 g)
    → IsFirst c.args.self.now c.args.to (length c.args.bytes.now) c.cut-start.result.0 c.cut-start.result.1 c.disk.result c.split_at.result.0.now
    × IsRest c.args.self.now (length c.args.bytes.now) c.cut-start.result.1 c.disk-2.result c.begin.result c.split_at.result.1.now
parts g c = (
  record { cut = c.cut-start.ensures; disk = c.disk.ensures.is; len = c.split_at.ensures.front_len },
  record {
    disk = c.disk-2.ensures.is;
    at_beginning = c.begin.ensures;
    len = (let sum = c.split_at.ensures.back_len in omega arith);
    some = some_left (length c.split_at.result.1.now) c.if-is_empty.ensures;
    room = (let room = c.requires.room in omega arith);
  },
)

both_moved : (g : _) (c : After-write-2 g) → Moves (g.B.Bank.view c.args.bank.now) (g.B.Bank.view c.write-2.new.self)
    (Differs (InRing c.args.self.now c.args.to (length c.args.bytes.now))) (Differs (InRing c.args.self.now c.args.to (length c.args.bytes.now)))
both_moved g c =
    two_moves c.write.result c.write-2.result (g.B.Bank.view c.args.bank.now) (g.B.Bank.view c.write.new.self) (g.B.Bank.view c.write-2.new.self) c.args.self.now c.args.to (length c.args.bytes.now)
    c.cut-start.result.0 c.cut-start.result.1 c.disk.result c.disk-2.result c.begin.result c.split_at.result.0.now c.split_at.result.1.now (parts g c).0 (parts g c).1
    c.write.ensures.call c.write-2.ensures.call

both_kept : (g : _) (c : After-write-2 g) → Moves (g.B.Bank.view c.args.bank.now) (g.B.Bank.view c.write-2.new.self)
    (KeepsWindow c.args.self.now c.args.from c.args.to) (KeepsWindow c.args.self.now c.args.from c.args.to)
both_kept g c =
    window_moves (g.B.Bank.view c.args.bank.now) (g.B.Bank.view c.write-2.new.self) c.args.self.now c.args.from c.args.to (length c.args.bytes.now) c.cut-start.ensures.some c.requires.room
    (both_moved g c)

both_tore : (g : _) (c : After-write-2 g) → IsTrue (g.B.Bank.view c.args.bank.now).tells
    → Torn (InRing c.args.self.now c.args.to (length c.args.bytes.now)) (g.B.Bank.view c.args.bank.now).now (g.B.Bank.view c.write-2.new.self).now
both_tore g c =
    two_torn c.write.result c.write-2.result (g.B.Bank.view c.args.bank.now) (g.B.Bank.view c.write.new.self) (g.B.Bank.view c.write-2.new.self) c.args.self.now c.args.to (length c.args.bytes.now)
    c.cut-start.result.0 c.cut-start.result.1 c.disk.result c.disk-2.result c.begin.result c.split_at.result.0.now c.split_at.result.1.now (parts g c).0 (parts g c).1
    c.write.ensures.call c.write-2.ensures.call

pub returns-in_err-write-2-clause-any_moment : goal.returns-in_err-write-2-clause-any_moment
returns-in_err-write-2-clause-any_moment g c = both_moved g (goal.at.returns-in_err-write-2-clause-any_moment g c).After-write-2

pub returns-in_err-write-2-clause-window : goal.returns-in_err-write-2-clause-window
returns-in_err-write-2-clause-window g c = both_kept g (goal.at.returns-in_err-write-2-clause-window g c).After-write-2

pub returns-in_err-write-2-clause-contents : goal.returns-in_err-write-2-clause-contents
returns-in_err-write-2-clause-contents g c = both_tore g (goal.at.returns-in_err-write-2-clause-contents g c).After-write-2

pub returns-clause-any_moment : goal.returns-clause-any_moment
returns-clause-any_moment g c = both_moved g (goal.at.returns-clause-any_moment g c).After-write-2

pub returns-clause-window : goal.returns-clause-window
returns-clause-window g c = both_kept g (goal.at.returns-clause-window g c).After-write-2

pub returns-clause-contents : goal.returns-clause-contents
returns-clause-contents g c = both_tore g (goal.at.returns-clause-contents g c).After-write-2

pub returns-clause-written : goal.returns-clause-written
returns-clause-written g c =
    let both = parts g (goal.at.returns-clause-written g c).After-write-2 in
    two_written _ _ (g.B.Bank.view c.args.bank.now) (g.B.Bank.view c.write.new.self) (g.B.Bank.view c.write-2.new.self) c.args.self.now c.args.from c.args.to (length c.args.bytes.now)
    c.cut-start.result.0 c.cut-start.result.1 c.disk.result c.disk-2.result c.begin.result c.args.bytes.now c.split_at.result.0.now c.split_at.result.1.now c.requires.room
    c.split_at.ensures.by_index.0 both.0 both.1 c.in_ok-write.ensures.call c.in_ok-write-2.ensures.call

-- ---- how often the bank was called
pub returns-in_err-write-clause-calls : goal.returns-in_err-write-clause-calls
returns-in_err-write-clause-calls g c =
    record {
      ok = search rules;
      most = one_at_most c.write.result (g.B.Bank.view c.args.bank.now) (g.B.Bank.view c.write.new.self) c.args.self.now c.args.to (length c.args.bytes.now) c.write.ensures.call.goes;
    }

pub returns-then-is_empty-clause-calls : goal.returns-then-is_empty-clause-calls
returns-then-is_empty-clause-calls g c =
    let all : c.cut-start.result.1 ≡ length c.args.bytes.now =
    (let front = c.split_at.ensures.front_len in let sum = c.split_at.ensures.back_len in let none = none_left (length c.split_at.result.1.now) c.if-is_empty.ensures in omega arith) in
    took_calls _ (ring_calls c.args.self.now c.args.to (length c.args.bytes.now)) (g.B.Bank.view c.args.bank.now) (g.B.Bank.view c.write.new.self)
    (one_call c.write.result (g.B.Bank.view c.args.bank.now) (g.B.Bank.view c.write.new.self) c.args.self.now c.args.to (length c.args.bytes.now)
    c.cut-start.result.0 c.cut-start.result.1 c.cut-start.ensures all c.write.ensures.call.goes)

pub returns-in_err-write-2-clause-calls : goal.returns-in_err-write-2-clause-calls
returns-in_err-write-2-clause-calls g c =
    let part : c.cut-start.result.1 < length c.args.bytes.now =
    (let sum = c.split_at.ensures.back_len in let some = some_left (length c.split_at.result.1.now) c.if-is_empty.ensures in omega arith) in
    record {
      ok = search rules;
      most = two_at_most c.write.result c.write-2.result (g.B.Bank.view c.args.bank.now) (g.B.Bank.view c.write.new.self) (g.B.Bank.view c.write-2.new.self) c.args.self.now c.args.to
          (length c.args.bytes.now) c.cut-start.result.0 c.cut-start.result.1 c.cut-start.ensures part c.write.ensures.call.goes c.write-2.ensures.call.goes;
    }

pub returns-clause-calls : goal.returns-clause-calls
returns-clause-calls g c =
    let part : c.cut-start.result.1 < length c.args.bytes.now =
    (let sum = c.split_at.ensures.back_len in let some = some_left (length c.split_at.result.1.now) c.if-is_empty.ensures in omega arith) in
    took_calls _ (ring_calls c.args.self.now c.args.to (length c.args.bytes.now)) (g.B.Bank.view c.args.bank.now) (g.B.Bank.view c.write-2.new.self)
    (two_calls c.write.result c.write-2.result (g.B.Bank.view c.args.bank.now) (g.B.Bank.view c.write.new.self) (g.B.Bank.view c.write-2.new.self) c.args.self.now c.args.to (length c.args.bytes.now)
    c.cut-start.result.0 c.cut-start.result.1 c.cut-start.ensures part c.write.ensures.call.goes c.write-2.ensures.call.goes)
