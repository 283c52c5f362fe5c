use Rattle.std.proofs.Common.{IsTrue, refl, ◌∙◌}
use Rattle.trap_mount.specs.Mounting.{Refuses}
use Rattle.trap_mount.specs.MountEnds.{MountEnds}
use Rattle.trap_mount.specs.declared.fault.MountFault.TheVariants.{LogFault}
use Rattle.trap_bank.proofs.OnlyReads.{reads_then}
use Rattle.trap_bank.proofs.Rising.{rose_since}
use Rattle.trap_mount.proofs.MountReads.{cause_before, sizes_before, false_true}
use Rattle.trap_mount.proofs.MountHistory.{exit}
use Rattle.trap_mount.proofs.MountRefusals.{never_refused}
use Rattle.trap_mount.proofs.MountPuts.{complete, members_refused, put_failed, put_room, stage_put, index_put, stands_still, mount_ready, mount_exact, mount_stands, mount_found, mount_slots, mount_head, head_read}
use Rattle.trap_mount.proofs.MountPuts.{writes_head, keeps_read, read_others, keeps_put, put_others}
use Rattle.trap_mount.proofs.mounting.mount.Goals as goal

-- ---- the log was refused

pub returns-in_err-found-clause-ended : goal.returns-in_err-found-clause-ended
returns-in_err-found-clause-ended g c =
    let old = g.B.Bank.view c.args.bank.now in
    let new = g.B.Bank.view c.find_log.new.bank in
    let refused = c.in_err-found.ensures.refused in
    exit (λ why. MountEnds why old new) c.from_residual.result c.in_err-found.field-0.0 c.from_residual.ensures.1 (record {
      cause = record {
        refused = refused;
        failed = c.in_err-found.ensures.cause;
        shown = λ is. absurd (false_true _ c.in_err-found.ensures.log is);
        complete = λ numbers h s told by log members. complete old new numbers h s told by log members c.in_err-found.field-0.0 refused c.in_err-found.ensures.cause;
      };
      held = λ numbers s told holds. never_refused numbers s old.now.disks holds c.in_err-found.field-0.0 (refused told);
      nothing_written = λ is. c.find_log.ensures.reads;
    })

-- ---- the members were refused

pub returns-in_err-head-clause-ended : goal.returns-in_err-head-clause-ended
returns-in_err-head-clause-ended g c =
    let old = g.B.Bank.view c.args.bank.now in
    let mid = g.B.Bank.view c.find_log.new.bank in
    let new = g.B.Bank.view c.find_members.new.bank in
    let reads = reads_then old mid new c.find_log.ensures.reads c.find_members.ensures.reads in
    let refused : IsTrue old.tells → Refuses old c.in_err-head.field-0.0 = members_refused c.in_ok-found.found.g c.in_ok-found.found.head c.in_ok-found.found.cell c.in_ok-found.found.stage old mid _
    c.find_log.ensures.reads c.in_ok-found.ensures.ok c.in_err-head.ensures.refused in
    exit (λ why. MountEnds why old new) c.from_residual-in_err-head.result c.in_err-head.field-0.0 c.from_residual-in_err-head.ensures.1 (record {
      cause = record {
        refused = refused;
        failed = cause_before old mid new _ c.find_log.ensures.reads c.in_err-head.ensures.cause;
        shown = λ is. (c.in_ok-found.found.g, c.in_ok-found.ensures.ok.header.size, sizes_before c.in_ok-found.found.g old mid _ c.find_log.ensures.reads.sizes c.in_err-head.ensures.shown);
        complete = λ numbers h s told by log members. complete old new numbers h s told by log members c.in_err-head.field-0.0 refused
            (cause_before old mid new _ c.find_log.ensures.reads c.in_err-head.ensures.cause);
      };
      held = λ numbers s told holds. never_refused numbers s old.now.disks holds c.in_err-head.field-0.0 (refused told);
      nothing_written = λ is. reads;
    })

-- ---- the put

pub put_changed-requires-clause-cell : goal.put_changed-requires-clause-cell
put_changed-requires-clause-cell g c = record {
  place = c.in_ok-found.ensures.ok.head.place;
  stands = stands_still c.in_ok-found.found.g c.in_ok-found.found.head c.in_ok-head.head c.in_ok-found.found.cell c.in_ok-found.found.stage
      (g.B.Bank.view c.args.bank.now) (g.B.Bank.view c.find_log.new.bank) (g.B.Bank.view c.find_members.new.bank) c.find_log.ensures.reads c.find_members.ensures.reads
      (g.met.B.Bank.lawful c.find_log.new.bank) c.in_ok-found.ensures.ok c.in_ok-head.ensures.ok;
  room = put_room c.in_ok-found.found.g c.in_ok-found.found.head c.in_ok-head.head c.in_ok-found.found.cell c.in_ok-found.found.stage
      (g.B.Bank.view c.args.bank.now) (g.B.Bank.view c.find_log.new.bank) (g.B.Bank.view c.find_members.new.bank) c.find_log.ensures.reads c.find_members.ensures.reads
      (g.met.B.Bank.lawful c.find_log.new.bank) c.in_ok-found.ensures.ok c.in_ok-head.ensures.ok;
}

pub returns-in_default-clause-sizes : goal.returns-in_default-clause-sizes
returns-in_default-clause-sizes g c = λ e. c.put_changed.ensures.sizes e ∙ c.find_members.ensures.reads.sizes e ∙ c.find_log.ensures.reads.sizes e

pub returns-in_default-clause-ended : goal.returns-in_default-clause-ended
returns-in_default-clause-ended g c =
    let old = g.B.Bank.view c.args.bank.now in
    let mid = g.B.Bank.view c.find_members.new.bank in
    let new = g.B.Bank.view c.put_changed.new.bank in
    let reads = reads_then old (g.B.Bank.view c.find_log.new.bank) mid c.find_log.ensures.reads c.find_members.ensures.reads in
    record {
      cause = record {
        refused = λ told. tt;
        failed = put_failed old mid new LogFault reads c.in_default.ensures.cause refl;
        shown = λ is. absurd (cc is);
        complete = λ numbers h s told by log members. absurd (log (rose_since _ _ _ (reads.moves.faults 0) c.in_default.ensures.cause));
      };
      held = λ numbers s told holds. refl;
      nothing_written = λ is. absurd (is refl);
    }

-- ---- the array is mounted

pub returns-clause-knows : goal.returns-clause-knows
returns-clause-knows g c = record {
  head = c.in_ok-head.ensures.ok.head;
  one_slot = c.in_ok-found.ensures.ok.header.one_slot;
  place = c.put_changed.ensures.place;
  pending = stage_put c.in_ok-found.found.g c.in_ok-found.found.head c.in_ok-head.head c.in_ok-found.found.cell c.in_ok-found.found.stage
      (g.B.Bank.view c.args.bank.now) (g.B.Bank.view c.find_log.new.bank) (g.B.Bank.view c.find_members.new.bank) c.find_log.ensures.reads c.find_members.ensures.reads
      (g.met.B.Bank.lawful c.find_log.new.bank) c.in_ok-found.ensures.ok c.in_ok-head.ensures.ok;
  index = index_put c.in_ok-found.found.g c.in_ok-found.found.head c.in_ok-head.head c.in_ok-found.found.cell c.in_ok-found.found.stage
      (g.B.Bank.view c.args.bank.now) (g.B.Bank.view c.find_log.new.bank) (g.B.Bank.view c.find_members.new.bank) c.find_log.ensures.reads c.find_members.ensures.reads
      (g.met.B.Bank.lawful c.find_log.new.bank) c.in_ok-found.ensures.ok c.in_ok-head.ensures.ok c.in_ok-found.found.index c.in_ok-found.ensures.index;
  buffers = c.in_ok-found.ensures.buffers;
}

pub returns-clause-mounted : goal.returns-clause-mounted
returns-clause-mounted g c =
    record {
      stands = mount_stands c.in_ok-found.found.g c.in_ok-found.found.head c.in_ok-head.head c.in_ok-found.found.cell c.in_ok-found.found.stage
          (g.B.Bank.view c.args.bank.now) (g.B.Bank.view c.find_log.new.bank) (g.B.Bank.view c.find_members.new.bank) c.find_log.ensures.reads c.find_members.ensures.reads
          (g.met.B.Bank.lawful c.find_log.new.bank) c.in_ok-found.ensures.ok c.in_ok-head.ensures.ok
          (g.B.Bank.view c.put_changed.new.bank) c.put_changed.new.cell c.in_ok-found.found.index
          c.in_ok-found.found.buffers c.in_ok-found.ensures.index c.in-Ok.ensures.ok c.put_changed.ensures.sizes;
      ready = mount_ready c.in_ok-found.found.g c.in_ok-found.found.head c.in_ok-head.head c.in_ok-found.found.cell c.in_ok-found.found.stage
          (g.B.Bank.view c.args.bank.now) (g.B.Bank.view c.find_log.new.bank) (g.B.Bank.view c.find_members.new.bank) c.find_log.ensures.reads c.find_members.ensures.reads
          (g.met.B.Bank.lawful c.find_log.new.bank) c.in_ok-found.ensures.ok c.in_ok-head.ensures.ok
          (g.B.Bank.view c.put_changed.new.bank) c.put_changed.new.cell c.in_ok-found.found.index
          c.in_ok-found.found.buffers c.in_ok-found.ensures.index c.in-Ok.ensures.ok c.put_changed.ensures.sizes c.in_ok-found.ensures.buffers;
      running = refl;
      exact = mount_exact c.in_ok-found.found.g c.in_ok-found.found.head c.in_ok-head.head c.in_ok-found.found.cell c.in_ok-found.found.stage
          (g.B.Bank.view c.args.bank.now) (g.B.Bank.view c.find_log.new.bank) (g.B.Bank.view c.find_members.new.bank) c.find_log.ensures.reads c.find_members.ensures.reads
          (g.met.B.Bank.lawful c.find_log.new.bank) c.in_ok-found.ensures.ok c.in_ok-head.ensures.ok
          (g.B.Bank.view c.put_changed.new.bank) c.put_changed.new.cell c.in_ok-found.found.index
          c.in_ok-found.found.buffers c.in_ok-found.ensures.index c.in-Ok.ensures.ok c.put_changed.ensures.sizes;
      found = mount_found c.in_ok-found.found.g c.in_ok-found.found.head c.in_ok-head.head c.in_ok-found.found.cell c.in_ok-found.found.stage
          (g.B.Bank.view c.args.bank.now) (g.B.Bank.view c.find_log.new.bank) (g.B.Bank.view c.find_members.new.bank) c.find_log.ensures.reads c.find_members.ensures.reads
          (g.met.B.Bank.lawful c.find_log.new.bank) c.in_ok-found.ensures.ok c.in_ok-head.ensures.ok
          (g.B.Bank.view c.put_changed.new.bank) c.put_changed.new.cell c.in_ok-found.found.index
          c.in_ok-found.found.buffers c.in_ok-found.ensures.index c.in-Ok.ensures.ok c.put_changed.ensures.sizes;
      slots = mount_slots c.in_ok-found.found.g c.in_ok-found.found.head c.in_ok-head.head c.in_ok-found.found.cell c.in_ok-found.found.stage
          (g.B.Bank.view c.args.bank.now) (g.B.Bank.view c.find_log.new.bank) (g.B.Bank.view c.find_members.new.bank) c.find_log.ensures.reads c.find_members.ensures.reads
          (g.met.B.Bank.lawful c.find_log.new.bank) c.in_ok-found.ensures.ok c.in_ok-head.ensures.ok
          (g.B.Bank.view c.put_changed.new.bank) c.put_changed.new.cell c.in_ok-found.found.index
          c.in_ok-found.found.buffers c.in_ok-found.ensures.index c.in-Ok.ensures.ok c.put_changed.ensures.sizes;
      index = index_put c.in_ok-found.found.g c.in_ok-found.found.head c.in_ok-head.head c.in_ok-found.found.cell c.in_ok-found.found.stage
          (g.B.Bank.view c.args.bank.now) (g.B.Bank.view c.find_log.new.bank) (g.B.Bank.view c.find_members.new.bank) c.find_log.ensures.reads c.find_members.ensures.reads
          (g.met.B.Bank.lawful c.find_log.new.bank) c.in_ok-found.ensures.ok c.in_ok-head.ensures.ok c.in_ok-found.found.index c.in_ok-found.ensures.index;
      head = mount_head c.in_ok-found.found.g c.in_ok-found.found.head c.in_ok-head.head c.in_ok-found.found.cell c.in_ok-found.found.stage
          (g.B.Bank.view c.args.bank.now) (g.B.Bank.view c.find_log.new.bank) (g.B.Bank.view c.find_members.new.bank) c.find_log.ensures.reads c.find_members.ensures.reads
          (g.met.B.Bank.lawful c.find_log.new.bank) c.in_ok-found.ensures.ok c.in_ok-head.ensures.ok
          (g.B.Bank.view c.put_changed.new.bank) c.put_changed.new.cell c.in_ok-found.found.index
          c.in_ok-found.found.buffers c.in_ok-found.ensures.index c.in-Ok.ensures.ok c.put_changed.ensures.sizes;
    }

pub returns-clause-sizes : goal.returns-clause-sizes
returns-clause-sizes g c = λ e. c.put_changed.ensures.sizes e ∙ c.find_members.ensures.reads.sizes e ∙ c.find_log.ensures.reads.sizes e

-- ---- the other disks, and the states

pub returns-in_err-found-clause-others : goal.returns-in_err-found-clause-others
returns-in_err-found-clause-others g c = read_others (g.B.Bank.view c.args.bank.now) (g.B.Bank.view c.find_log.new.bank) c.find_log.ensures.reads

pub returns-in_err-found-clause-keeps : goal.returns-in_err-found-clause-keeps
returns-in_err-found-clause-keeps g c = keeps_read (g.B.Bank.view c.args.bank.now) (g.B.Bank.view c.find_log.new.bank) c.find_log.ensures.reads

pub returns-in_err-head-clause-others : goal.returns-in_err-head-clause-others
returns-in_err-head-clause-others g c = read_others (g.B.Bank.view c.args.bank.now) (g.B.Bank.view c.find_members.new.bank)
    (reads_then (g.B.Bank.view c.args.bank.now) (g.B.Bank.view c.find_log.new.bank) (g.B.Bank.view c.find_members.new.bank) c.find_log.ensures.reads c.find_members.ensures.reads)

pub returns-in_err-head-clause-keeps : goal.returns-in_err-head-clause-keeps
returns-in_err-head-clause-keeps g c = keeps_read (g.B.Bank.view c.args.bank.now) (g.B.Bank.view c.find_members.new.bank)
    (reads_then (g.B.Bank.view c.args.bank.now) (g.B.Bank.view c.find_log.new.bank) (g.B.Bank.view c.find_members.new.bank) c.find_log.ensures.reads c.find_members.ensures.reads)

pub returns-in_default-clause-others : goal.returns-in_default-clause-others
returns-in_default-clause-others g c = put_others c.in_ok-found.found.g c.in_ok-found.found.head c.in_ok-head.head c.in_ok-found.found.cell c.in_ok-found.found.stage
    (g.B.Bank.view c.args.bank.now) (g.B.Bank.view c.find_log.new.bank) (g.B.Bank.view c.find_members.new.bank) c.find_log.ensures.reads c.find_members.ensures.reads
    (g.met.B.Bank.lawful c.find_log.new.bank) c.in_ok-found.ensures.ok c.in_ok-head.ensures.ok (g.B.Bank.view c.put_changed.new.bank) c.put_changed.ensures.contents

pub returns-in_default-clause-keeps : goal.returns-in_default-clause-keeps
returns-in_default-clause-keeps g c = keeps_put c.in_ok-found.found.g c.in_ok-found.found.head c.in_ok-head.head c.in_ok-found.found.cell c.in_ok-found.found.stage
    (g.B.Bank.view c.args.bank.now) (g.B.Bank.view c.find_log.new.bank) (g.B.Bank.view c.find_members.new.bank) c.find_log.ensures.reads c.find_members.ensures.reads
    (g.met.B.Bank.lawful c.find_log.new.bank) c.in_ok-found.ensures.ok c.in_ok-head.ensures.ok (g.B.Bank.view c.put_changed.new.bank) c.put_changed.ensures.any_moment c.put_changed.ensures.contents

pub returns-clause-others : goal.returns-clause-others
returns-clause-others g c = put_others c.in_ok-found.found.g c.in_ok-found.found.head c.in_ok-head.head c.in_ok-found.found.cell c.in_ok-found.found.stage
    (g.B.Bank.view c.args.bank.now) (g.B.Bank.view c.find_log.new.bank) (g.B.Bank.view c.find_members.new.bank) c.find_log.ensures.reads c.find_members.ensures.reads
    (g.met.B.Bank.lawful c.find_log.new.bank) c.in_ok-found.ensures.ok c.in_ok-head.ensures.ok (g.B.Bank.view c.put_changed.new.bank) c.put_changed.ensures.contents

pub returns-clause-keeps : goal.returns-clause-keeps
returns-clause-keeps g c = keeps_put c.in_ok-found.found.g c.in_ok-found.found.head c.in_ok-head.head c.in_ok-found.found.cell c.in_ok-found.found.stage
    (g.B.Bank.view c.args.bank.now) (g.B.Bank.view c.find_log.new.bank) (g.B.Bank.view c.find_members.new.bank) c.find_log.ensures.reads c.find_members.ensures.reads
    (g.met.B.Bank.lawful c.find_log.new.bank) c.in_ok-found.ensures.ok c.in_ok-head.ensures.ok (g.B.Bank.view c.put_changed.new.bank) c.put_changed.ensures.any_moment c.put_changed.ensures.contents

-- ---- nothing is written but the head

pub returns-in_err-found-clause-writes : goal.returns-in_err-found-clause-writes
returns-in_err-found-clause-writes g c = head_read (g.B.Bank.view c.args.bank.now) (g.B.Bank.view c.find_log.new.bank) c.find_log.ensures.reads

pub returns-in_err-head-clause-writes : goal.returns-in_err-head-clause-writes
returns-in_err-head-clause-writes g c = head_read (g.B.Bank.view c.args.bank.now) (g.B.Bank.view c.find_members.new.bank)
    (reads_then (g.B.Bank.view c.args.bank.now) (g.B.Bank.view c.find_log.new.bank) (g.B.Bank.view c.find_members.new.bank) c.find_log.ensures.reads c.find_members.ensures.reads)

pub returns-in_default-clause-writes : goal.returns-in_default-clause-writes
returns-in_default-clause-writes g c = writes_head c.in_ok-found.found.g c.in_ok-found.found.head c.in_ok-head.head c.in_ok-found.found.cell c.in_ok-found.found.stage
    (g.B.Bank.view c.args.bank.now) (g.B.Bank.view c.find_log.new.bank) (g.B.Bank.view c.find_members.new.bank) c.find_log.ensures.reads c.find_members.ensures.reads
    (g.met.B.Bank.lawful c.find_log.new.bank) c.in_ok-found.ensures.ok c.in_ok-head.ensures.ok (g.B.Bank.view c.put_changed.new.bank) c.put_changed.ensures.any_moment c.put_changed.ensures.contents

pub returns-clause-writes : goal.returns-clause-writes
returns-clause-writes g c = writes_head c.in_ok-found.found.g c.in_ok-found.found.head c.in_ok-head.head c.in_ok-found.found.cell c.in_ok-found.found.stage
    (g.B.Bank.view c.args.bank.now) (g.B.Bank.view c.find_log.new.bank) (g.B.Bank.view c.find_members.new.bank) c.find_log.ensures.reads c.find_members.ensures.reads
    (g.met.B.Bank.lawful c.find_log.new.bank) c.in_ok-found.ensures.ok c.in_ok-head.ensures.ok (g.B.Bank.view c.put_changed.new.bank) c.put_changed.ensures.any_moment c.put_changed.ensures.contents
