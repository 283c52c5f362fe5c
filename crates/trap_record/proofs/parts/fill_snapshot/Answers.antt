use Rattle.std.proofs.Common.{rules, refl}
use Rattle.trap_record.proofs.Getting.{whole_codes, code-snapshot}
use Rattle.trap_record.proofs.parts.fill_snapshot.Goals as goal

pub returns-in-Ok-clause-whole : goal.returns-in-Ok-clause-whole
returns-in-Ok-clause-whole c = (
  λ t. whole_codes _ c.from-end.result c.from.result c.args.rec.now c.args.bytes.now c.from-end.ensures c.from.ensures c.requires.long c.requires.begins
      (c.check.ensures.spelled.0 (search rules)) (code-snapshot _ _ _ c.requires.marked (c.decode.new.out, search rules, c.in-Ok.ensures.decoded)),
  λ whole. refl,
)
