use Rattle.std.proofs.Common.{refl}
use Rattle.trap_array.specs.Log.{with_index}
use Rattle.trap_array.proofs.LookingBack.{can_look, lawful, present_goes}
use Rattle.trap_array.proofs.log_past.LogPastPresent.present.Goals as goal

pub fetch-requires-clause-sizes : goal.fetch-requires-clause-sizes
fetch-requires-clause-sizes g c =
    (can_look (with_index c.args.self.now.log.now c.args.self.now.index.now) (g.B.Bank.view c.args.self.now.bank.now) c.args.self.now.for_log).sizes

pub returns-in-Ok-clause-told : goal.returns-in-Ok-clause-told
returns-in-Ok-clause-told g c =
    lawful (with_index c.args.self.now.log.now c.args.self.now.index.now) (g.B.Bank.view c.args.self.now.bank.now)
    (record { presents = 0; parities = 0; snapshots = 0; faults = 0; asked = 0; looked = 0 }) c.args.self.now.for_log.same

pub returns-in-Err-clause-told : goal.returns-in-Err-clause-told
returns-in-Err-clause-told g c =
    lawful (with_index c.args.self.now.log.now c.args.self.now.index.now) (g.B.Bank.view c.args.self.now.bank.now)
    (record { presents = 0; parities = 0; snapshots = 0; faults = 0; asked = 0; looked = 0 }) c.args.self.now.for_log.same

pub returns-in-Ok-clause-present : goal.returns-in-Ok-clause-present
returns-in-Ok-clause-present g c s stands = c.in-Ok.ensures.bytes stands.0 c.args.self.now.index.now s stands.1

pub returns-in-Ok-clause-acts : goal.returns-in-Ok-clause-acts
returns-in-Ok-clause-acts g c =
    let here = with_index c.args.self.now.log.now c.args.self.now.index.now in (
      refl,
      (
        refl,
        present_goes here _ _ _ _ _ _ _ _ (g.B.Bank.view c.args.self.now.bank.now) (g.B.Bank.view c.fetch.new.bank) c.fetch.ensures.any_moment
            (c.fetch.ensures.calls c.args.self.now.index.now).exact.most,
      ),
    )

pub returns-in-Err-clause-acts : goal.returns-in-Err-clause-acts
returns-in-Err-clause-acts g c =
    let here = with_index c.args.self.now.log.now c.args.self.now.index.now in (
      refl,
      (
        refl,
        present_goes here _ _ _ _ _ _ _ _ (g.B.Bank.view c.args.self.now.bank.now) (g.B.Bank.view c.fetch.new.bank) c.fetch.ensures.any_moment
            (c.fetch.ensures.calls c.args.self.now.index.now).exact.most,
      ),
    )
