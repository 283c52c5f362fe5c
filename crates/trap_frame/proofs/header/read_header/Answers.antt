use Rattle.std.proofs.Common.{refl}
use Rattle.trap_frame.proofs.Headers.{frame_header-read}
use Rattle.trap_frame.proofs.header.read_header.Goals as goal

pub returns-clause-found : goal.returns-clause-found
returns-clause-found c = record {
  ranges = c.if-not-keeps_ranges.ensures.0 refl;
  spelled = frame_header-read c.args.bytes.now c.fields_in-frame.result (c.if-not-has_magic.ensures.0 refl) c.fields_in-frame.ensures;
}
