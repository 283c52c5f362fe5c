use Rattle.std.proofs.Common.{rules, refl}
use Rattle.trap_record.proofs.Getting.{whole_codes}
use Rattle.trap_record.proofs.parts.fill_parity.Goals as goal

pub returns-in-Ok-clause-whole : goal.returns-in-Ok-clause-whole
returns-in-Ok-clause-whole c = (
  λ t. whole_codes _ c.from-end.result c.from.result c.args.rec.now c.args.bytes.now c.from-end.ensures c.from.ensures c.requires.long c.requires.begins
      (c.decode.new.out, search rules, c.in-Ok.ensures.decoded) (c.if-not-is_snapshot.ensures.0 refl),
  λ whole. refl,
)
