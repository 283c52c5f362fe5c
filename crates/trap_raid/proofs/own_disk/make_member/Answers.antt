use Rattle.std.proofs.Common.{IsTrue, ◌+◌, rules, arith}
use Rattle.trap_bank.specs.Disks.{View}
use Rattle.trap_bank.specs.Steps.{Moves}
use Rattle.trap_raid.specs.OwnDisk.{OnlyDisk}
use Rattle.trap_bank.proofs.Called.{called_once, called_then, called_at_most, at_most_then, took_calls}
use Rattle.trap_bank.proofs.Moves.{make_steps, made_steps}
use Rattle.trap_raid.proofs.OwnDisks.{only_made, only_written, member_made, touches_then}
use Rattle.trap_raid.proofs.own_disk.make_member.Goals as goal
use Rattle.trap_raid.proofs.own_disk.make_member.Goals.{After-write_through}

pub returns-in_default-clause-any_moment : goal.returns-in_default-clause-any_moment
returns-in_default-clause-any_moment g c = only_made _ _ _ _ (make_steps _ _ _ _ _ c.make.ensures.call)

-- ---- the header is written, whether or not that failed
abbrev written : (g : _) → After-write_through g → View
written g c = g.B.Bank.view c.write_through.new.bank

touched : (g : _) (c : After-write_through g) → IsTrue (g.B.Bank.view c.args.bank.now).tells
    → OnlyDisk (c.args.member + 1) (g.B.Bank.view c.args.bank.now).now.disks (written g c).now.disks
touched g c =
    touches_then _ _ _ (g.B.Bank.view c.args.bank.now) (g.B.Bank.view c.make.new.self) (written g c) c.make.ensures.call.goes.tells
    (λ told. (c.make.ensures.call.step told).others)
    c.write_through.ensures.contents

moved : (g : _) (c : After-write_through g) → Moves (g.B.Bank.view c.args.bank.now) (written g c) (OnlyDisk (c.args.member + 1)) (OnlyDisk (c.args.member + 1))
moved g c =
    only_written _ _ _ _ _ _ _ (made_steps _ _ _ _ _ c.in-Ok.ensures.call)
    c.write_through.ensures.any_moment

pub returns-in-Err-clause-touches : goal.returns-in-Err-clause-touches
returns-in-Err-clause-touches g c = touched g (goal.at.returns-in-Err-clause-touches g c).After-write_through

pub returns-in-Err-clause-any_moment : goal.returns-in-Err-clause-any_moment
returns-in-Err-clause-any_moment g c = moved g (goal.at.returns-in-Err-clause-any_moment g c).After-write_through

pub returns-in-Ok-write_through-clause-touches : goal.returns-in-Ok-write_through-clause-touches
returns-in-Ok-write_through-clause-touches g c = touched g (goal.at.returns-in-Ok-write_through-clause-touches g c).After-write_through

pub returns-in-Ok-write_through-clause-any_moment : goal.returns-in-Ok-write_through-clause-any_moment
returns-in-Ok-write_through-clause-any_moment g c = moved g (goal.at.returns-in-Ok-write_through-clause-any_moment g c).After-write_through

-- ---- and stays
pub returns-in-Ok-write_through-clause-ok : goal.returns-in-Ok-write_through-clause-ok
returns-in-Ok-write_through-clause-ok g c =
    member_made c.args.g.now c.args.member _ c.spell_member.new.out (g.B.Bank.view c.args.bank.now) (g.B.Bank.view c.make.new.self) (g.B.Bank.view c.write_through.new.bank)
    c.member_len.ensures c.spell_member.ensures (made_steps _ _ _ _ _ c.in-Ok.ensures.call)
    c.in-Ok-write_through.ensures.ok

-- ---- its calls
pub returns-in_default-clause-calls : goal.returns-in_default-clause-calls
returns-in_default-clause-calls g c = record { ok = search rules; most = called_at_most 1 3 _ _ (omega arith) (called_once _ _ _ c.make.ensures.call.goes) }

pub returns-in-Err-clause-calls : goal.returns-in-Err-clause-calls
returns-in-Err-clause-calls g c = record {
  ok = search rules;
  most = at_most_then 1 2 3 _ _ _ (omega arith) (called_at_most 1 1 _ _ (omega arith) (called_once _ _ _ c.make.ensures.call.goes)) c.write_through.ensures.calls.most;
}

pub returns-in-Ok-write_through-clause-calls : goal.returns-in-Ok-write_through-clause-calls
returns-in-Ok-write_through-clause-calls g c = took_calls _ 3 _ _ (called_then 1 2 _ _ _ (called_once _ _ _ c.make.ensures.call.goes) c.in-Ok-write_through.ensures.calls.ok)
