use Rattle.std.proofs.Common.{◌+◌, rules, arith}
use Rattle.trap_bank.proofs.Called.{called_once, called_then, called_at_most, took_calls}
use Rattle.trap_bank.proofs.Moves.{read_steps}
use Rattle.trap_bank.proofs.OnlyReads.{reads_then, reads_once}
use Rattle.trap_raid.proofs.OwnDisks.{reads_synced, stable_read}
use Rattle.trap_raid.proofs.own_disk.has_header.Goals as goal

pub returns-in_err-read-clause-reads : goal.returns-in_err-read-clause-reads
returns-in_err-read-clause-reads g c =
    reads_then _ (g.B.Bank.view c.sync.new.self) _ (reads_synced _ _ _ _ c.sync.ensures.call) (reads_once _ _ _ _ _ _ _ c.read.ensures.call)

pub returns-clause-reads : goal.returns-clause-reads
returns-clause-reads g c =
    reads_then _ (g.B.Bank.view c.sync.new.self) _ (reads_synced _ _ _ _ c.sync.ensures.call) (reads_once _ _ _ _ _ _ _ c.read.ensures.call)

pub returns-clause-stable : goal.returns-clause-stable
returns-clause-stable g c =
    stable_read _ _ (g.B.Bank.view c.sync.new.self) (g.B.Bank.view c.read.new.self) (c.args.member + 1) c.in_ok-sync.ensures.call (read_steps _ _ _ _ _ _ _ c.read.ensures.call) c.read.ensures.call.same

pub returns-in_err-sync-clause-calls : goal.returns-in_err-sync-clause-calls
returns-in_err-sync-clause-calls g c = record { ok = search rules; most = called_at_most 1 2 _ _ (omega arith) (called_once _ _ _ c.sync.ensures.call.goes) }

pub returns-in_err-read-clause-calls : goal.returns-in_err-read-clause-calls
returns-in_err-read-clause-calls g c = record {
  ok = search rules;
  most = called_at_most 2 2 _ _ (omega arith) (called_then 1 1 _ _ _ (called_once _ _ _ c.sync.ensures.call.goes) (called_once _ _ _ c.read.ensures.call.goes));
}

pub returns-clause-calls : goal.returns-clause-calls
returns-clause-calls g c = took_calls _ 2 _ _ (called_then 1 1 _ _ _ (called_once _ _ _ c.sync.ensures.call.goes) (called_once _ _ _ c.read.ensures.call.goes))
