use Rattle.trap_lines.proofs.Passing.{first_found}
use Rattle.trap_lines.proofs.reader.pieces.find_line_feed.Goals as goal

pub returns : goal.returns
returns c = first_found c.args.bytes.now c.memchr.result c.memchr.ensures
