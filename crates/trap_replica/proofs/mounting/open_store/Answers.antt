use Rattle.std.proofs.Common.{length, inr, refl, ap, subst, ◌∙◌, arith}
use Rattle.std.proofs.lemmas.List.{with_items_is}
use Rattle.trap_replica.specs.Mounting.{IsNoValue}
use Rattle.trap_replica.proofs.MountedDisk.{stable_reads, wrong_value, found_value, opens}
use Rattle.trap_replica.proofs.mounting.open_store.Goals as goal

pub returns-in_default-clause-refused : goal.returns-in_default-clause-refused
returns-in_default-clause-refused g c = λ told.
    let same = c.as_slice-bytes.ensures.value ∙ with_items_is c.in_ok-value.value c.read_cell.new.value
    (omega (arith, c.read_cell.auto.value, ap length c.as_mut_slice.ensures.value, c.in_ok-value.value.ok.0)) in
    inr (
      refl,
      wrong_value c.args.s.now (g.B.Bank.view c.args.bank.now).now.disks c.read_cell.new.value (c.requires.has told) (c.in_ok-cell.ensures.mounted.value told)
          (subst (IsNoValue c.args.s.now) same c.in_default.ensures.none),
    )

pub returns-clause-ok : goal.returns-clause-ok
returns-clause-ok g c =
    let same = c.as_slice-bytes.ensures.value ∙ with_items_is c.in_ok-value.value c.read_cell.new.value
    (omega (arith, c.read_cell.auto.value, ap length c.as_mut_slice.ensures.value, c.in_ok-value.value.ok.0)) in
    opens _ (g.B.Bank.view c.args.bank.now) (g.B.Bank.view c.read_cell.new.bank)
    (record { fits = (c.requires.there.0, c.read_cell.ensures.reads.sizes 17 ∙ c.requires.there.1, c.requires.there.2); stands = c.in_ok-cell.ensures.mounted.stands })
    (λ told. record {
      has = c.requires.has told;
      value = found_value c.args.s.now (g.B.Bank.view c.args.bank.now).now.disks c.in-Some.numbers.number c.in-Some.numbers.time c.in-Some.numbers.block c.read_cell.new.value
          c.as_slice-bytes.result.now _ (c.in_ok-cell.ensures.mounted.value told) same c.in-Some.ensures.some
          (with_items_is c.in_ok-contents.contents c.copy_contents.new.contents (omega (
            arith,
            c.copy_contents.auto.contents,
            ap length c.as_mut_slice-2.ensures.value,
            c.in_ok-contents.contents.ok.0,
          )) ∙ c.copy_contents.ensures);
    })
    c.read_cell.ensures.reads
    (stable_reads (g.B.Bank.view c.args.bank.now) (g.B.Bank.view c.read_cell.new.bank) c.read_cell.ensures.reads c.requires.stable)
    c.in-Some.ensures.fits
