use Rattle.std.proofs.Common.{arith, rules, sym, refl, ◌∙◌, length}
use Rattle.trap_bank.proofs.Called.{called_once, called_then, called_at_most}
use Rattle.trap_bank.proofs.Moves.{read_steps, same_then}
use Rattle.trap_cell.specs.Slots.{place_of}
use Rattle.trap_cell.proofs.Mounting.{mount_stands, mount_value}
use Rattle.trap_cell.proofs.cell.Cell.mount.Goals as goal

pub returns-in_err-read-clause-any_moment : goal.returns-in_err-read-clause-any_moment
returns-in_err-read-clause-any_moment g c = same_then _ _ _ c.read.ensures.any_moment (read_steps _ _ _ _ _ _ _ c.read-2.ensures.call)

pub returns-clause-any_moment : goal.returns-clause-any_moment
returns-clause-any_moment g c = same_then _ _ _ c.read.ensures.any_moment (read_steps _ _ _ _ _ _ _ c.read-2.ensures.call)

pub returns-clause-mounted : goal.returns-clause-mounted
returns-clause-mounted g c = record {
  place = refl;
  value = mount_value c.in_ok-heads.heads (place_of c.args.disk c.args.at (length c.args.value.now)) c.in-Some.second (g.B.Bank.view c.args.bank.now)
      (g.B.Bank.view c.read.new.bank) c.slot_start-start.result _ c.in_ok-heads.ensures.heads c.read.ensures.same c.read.ensures.any_moment.tells
      (sym c.in-Some.is ∙ c.current.ensures) c.slot_start-start.ensures c.in_ok-read.ensures.call.bytes;
  stands = mount_stands c.in_ok-heads.heads (place_of c.args.disk c.args.at (length c.args.value.now)) _ _ _ (g.B.Bank.view c.args.bank.now) _ c.requires.stable
      c.in_ok-heads.ensures.heads (sym c.in-Some.is ∙ c.current.ensures) c.turn-turn.ensures.turn c.is_other_open-other_open.ensures
      (same_then _ _ _ c.read.ensures.any_moment (read_steps _ _ _ _ _ _ _ c.read-2.ensures.call));
}

pub returns-clause-calls : goal.returns-clause-calls
returns-clause-calls g c =
    let all = called_then 2 1 _ _ _ c.in_ok-heads.ensures.calls.ok (called_once _ _ _ c.read-2.ensures.call.goes) in
    record { ok = all; no_value = λ none. absurd (search rules); most = called_at_most 3 3 _ _ (omega arith) all }
