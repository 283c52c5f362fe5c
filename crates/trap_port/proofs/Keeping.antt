-- Runs that change no disk.
use Rattle.std.proofs.Common.{IsTrue, refl, sym, ap, subst, ◌∙◌, ◌≡◌}
use Rattle.trap_bank.specs.Disks.{Contents, View}
use Rattle.trap_bank.specs.Steps.{OnlyReads}
use Rattle.trap_port.specs.Outgoing.{KeepsDisks}

-- nothing was done
pub keeps_none : (v : View) → KeepsDisks v v
keeps_none v = record { sizes = λ e. refl; disks = λ told. refl }

-- disks were read
pub keeps_read : (a b : View) → OnlyReads a b → KeepsDisks a b
keeps_read a b reads = record { sizes = reads.sizes; disks = λ told. ap (λ (c : Contents). c.disks) (reads.same told) }

-- one run after another
pub keeps_then : (a b c : View) → b.tells ≡ a.tells → KeepsDisks a b → KeepsDisks b c → KeepsDisks a c
keeps_then a b c tells first second = record {
  sizes = λ e. second.sizes e ∙ first.sizes e;
  disks = λ told. second.disks (subst IsTrue (sym tells) told) ∙ first.disks told;
}
