use Rattle.std.proofs.Common.{◌≡◌, ◌<◌, length, arith, rules}
use Rattle.trap_ring.proofs.Appending.{IsFirst, IsRest, none_left, some_left}
use Rattle.trap_ring.proofs.Getting.{one_read, two_read, two_reads_move}
use Rattle.trap_ring.proofs.Counting.{one_at_most, one_call, two_at_most, two_calls}
use Rattle.trap_bank.proofs.Called.{took_calls}
use Rattle.trap_ring.specs.Ring.{ring_calls}
use Rattle.trap_ring.proofs.ring.Ring.read.Goals as goal

pub returns-then-is_empty-clause-bytes : goal.returns-then-is_empty-clause-bytes
returns-then-is_empty-clause-bytes g c =
    let size : length c.read.new.buf ≡ length c.split_at_mut-first.result.0.now = (let same = c.read.auto.buf in omega arith) in
    let first : IsFirst c.args.self.now c.args.at (length c.args.buf.now) c.cut-start.result.0 c.cut-start.result.1 c.disk.result c.read.new.buf =
    record { cut = c.cut-start.ensures; disk = c.disk.ensures.is; len = (let len = c.split_at_mut-first.ensures.front_len in omega arith) } in
    one_read _ (g.B.Bank.view c.args.bank.now) (g.B.Bank.view c.read.new.self) c.args.self.now c.args.at (length c.args.buf.now) c.cut-start.result.0 c.cut-start.result.1 c.disk.result
    c.split_at_mut-first.result.0.now c.read.new.buf c.split_at_mut-first.result.1.now size
    (none_left (length c.split_at_mut-first.result.1.now) c.if-is_empty.ensures) first c.in_ok-read.ensures.call

pub returns-in_err-read-2-clause-any_moment : goal.returns-in_err-read-2-clause-any_moment
returns-in_err-read-2-clause-any_moment g c =
    two_reads_move c.read.result c.read-2.result (g.B.Bank.view c.args.bank.now) (g.B.Bank.view c.read.new.self) (g.B.Bank.view c.read-2.new.self) c.disk.result c.cut-start.result.0 c.disk-2.result
    c.begin.result c.split_at_mut-first.result.0.now c.read.new.buf
    c.split_at_mut-first.result.1.now c.read-2.new.buf c.read.ensures.call c.read-2.ensures.call

pub returns-clause-any_moment : goal.returns-clause-any_moment
returns-clause-any_moment g c =
    two_reads_move c.read.result c.read-2.result (g.B.Bank.view c.args.bank.now) (g.B.Bank.view c.read.new.self) (g.B.Bank.view c.read-2.new.self) c.disk.result c.cut-start.result.0 c.disk-2.result
    c.begin.result c.split_at_mut-first.result.0.now c.read.new.buf
    c.split_at_mut-first.result.1.now c.read-2.new.buf c.read.ensures.call c.read-2.ensures.call

pub returns-clause-bytes : goal.returns-clause-bytes
returns-clause-bytes g c =
    let size : length c.read.new.buf ≡ length c.split_at_mut-first.result.0.now = (let same = c.read.auto.buf in omega arith) in
    let first : IsFirst c.args.self.now c.args.at (length c.args.buf.now) c.cut-start.result.0 c.cut-start.result.1 c.disk.result c.read.new.buf =
    record { cut = c.cut-start.ensures; disk = c.disk.ensures.is; len = (let len = c.split_at_mut-first.ensures.front_len in omega arith) } in
    let more_size : length c.read-2.new.buf ≡ length c.split_at_mut-first.result.1.now = (let same = c.read-2.auto.buf in omega arith) in
    let rest : IsRest c.args.self.now (length c.args.buf.now) c.cut-start.result.1 c.disk-2.result c.begin.result c.read-2.new.buf =
    record {
      disk = c.disk-2.ensures.is;
      at_beginning = c.begin.ensures;
      len = (let sum = c.split_at_mut-first.ensures.back_len in omega arith);
      some = (let some = some_left (length c.split_at_mut-first.result.1.now) c.if-is_empty.ensures in omega arith);
      room = (let room = c.requires.room in omega arith);
    } in
    two_read _ _ (g.B.Bank.view c.args.bank.now) (g.B.Bank.view c.read.new.self) (g.B.Bank.view c.read-2.new.self) c.args.self.now c.args.at (length c.args.buf.now) c.cut-start.result.0
    c.cut-start.result.1 c.disk.result c.disk-2.result c.begin.result
    c.split_at_mut-first.result.0.now c.read.new.buf c.split_at_mut-first.result.1.now c.read-2.new.buf size more_size first rest c.in_ok-read.ensures.call c.in_ok-read-2.ensures.call

pub returns-in_err-read-clause-calls : goal.returns-in_err-read-clause-calls
returns-in_err-read-clause-calls g c =
    record {
      ok = search rules;
      most = one_at_most c.read.result (g.B.Bank.view c.args.bank.now) (g.B.Bank.view c.read.new.self) c.args.self.now c.args.at (length c.args.buf.now) c.read.ensures.call.goes;
    }

pub returns-then-is_empty-clause-calls : goal.returns-then-is_empty-clause-calls
returns-then-is_empty-clause-calls g c =
    let all : c.cut-start.result.1 ≡ length c.args.buf.now =
    (let front = c.split_at_mut-first.ensures.front_len in let sum = c.split_at_mut-first.ensures.back_len in
    let none = none_left (length c.split_at_mut-first.result.1.now) c.if-is_empty.ensures in omega arith) in
    took_calls _ (ring_calls c.args.self.now c.args.at (length c.args.buf.now)) (g.B.Bank.view c.args.bank.now) (g.B.Bank.view c.read.new.self)
    (one_call c.read.result (g.B.Bank.view c.args.bank.now) (g.B.Bank.view c.read.new.self) c.args.self.now c.args.at (length c.args.buf.now)
    c.cut-start.result.0 c.cut-start.result.1 c.cut-start.ensures all c.read.ensures.call.goes)

pub returns-in_err-read-2-clause-calls : goal.returns-in_err-read-2-clause-calls
returns-in_err-read-2-clause-calls g c =
    let part : c.cut-start.result.1 < length c.args.buf.now =
    (let sum = c.split_at_mut-first.ensures.back_len in let some = some_left (length c.split_at_mut-first.result.1.now) c.if-is_empty.ensures in omega arith) in
    record {
      ok = search rules;
      most = two_at_most c.read.result c.read-2.result (g.B.Bank.view c.args.bank.now) (g.B.Bank.view c.read.new.self) (g.B.Bank.view c.read-2.new.self) c.args.self.now c.args.at
          (length c.args.buf.now) c.cut-start.result.0 c.cut-start.result.1 c.cut-start.ensures part c.read.ensures.call.goes c.read-2.ensures.call.goes;
    }

pub returns-clause-calls : goal.returns-clause-calls
returns-clause-calls g c =
    let part : c.cut-start.result.1 < length c.args.buf.now =
    (let sum = c.split_at_mut-first.ensures.back_len in let some = some_left (length c.split_at_mut-first.result.1.now) c.if-is_empty.ensures in omega arith) in
    took_calls _ (ring_calls c.args.self.now c.args.at (length c.args.buf.now)) (g.B.Bank.view c.args.bank.now) (g.B.Bank.view c.read-2.new.self)
    (two_calls c.read.result c.read-2.result (g.B.Bank.view c.args.bank.now) (g.B.Bank.view c.read.new.self) (g.B.Bank.view c.read-2.new.self) c.args.self.now c.args.at (length c.args.buf.now)
    c.cut-start.result.0 c.cut-start.result.1 c.cut-start.ensures part c.read.ensures.call.goes c.read-2.ensures.call.goes)
