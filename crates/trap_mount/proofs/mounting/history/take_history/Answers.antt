use Rattle.std.proofs.Common.{ℕ, ◌%◌, Err, ap, refl, arith}
use Rattle.trap_mount.proofs.MountHistory.{records_right, record_wrong, index_read}
use Rattle.trap_mount.proofs.mounting.history.take_history.Goals as goal

pub returns-in-Ok-clause-ok : goal.returns-in-Ok-clause-ok
returns-in-Ok-clause-ok g c =
    record {
      known = index_read c.args.g.now c.args.head.now _ _ _ _ (g.B.Bank.view c.args.bank.now)
          (record { size = refl; volume_ = c.volume.ensures.is; first = refl; base_time = refl; first_off = refl; last = refl; last_time = refl; end_off = refl })
          c.ring_of-ring.ensures c.requires.none c.in-Ok.ensures.ok.taken c.in-Ok.ensures.ok.read;
      records = λ told slots. records_right c.args.g.now c.args.head.now _ _ (g.B.Bank.view c.args.bank.now).now.disks c.requires.head
          (record { size = refl; volume_ = c.volume.ensures.is; first = refl; base_time = refl; first_off = refl; last = refl; last_time = refl; end_off = refl })
          c.ring_of-ring.ensures slots (c.in-Ok.ensures.ok.right told);
    }

pub returns-in-Err-Damaged-clause-refused : goal.returns-in-Err-Damaged-clause-refused
returns-in-Err-Damaged-clause-refused g c = λ told slots.
    record_wrong c.args.g.now c.args.head.now _ _ (g.B.Bank.view c.args.bank.now).now.disks c.requires.head
    (record { size = refl; volume_ = c.volume.ensures.is; first = refl; base_time = refl; first_off = refl; last = refl; last_time = refl; end_off = refl })
    c.ring_of-ring.ensures slots c.in-Err-Damaged.at _
    (c.in-Err-Damaged.ensures.damaged told _ (ap Err c.in-Err-Damaged.field-0-is))
    (omega (arith, c.ring_start.ensures, ap (λ (n : ℕ). c.in-Err-Damaged.at % n) c.ring_len.ensures))
