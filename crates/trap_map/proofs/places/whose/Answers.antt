use Rattle.std.proofs.Common.{◌+◌, ◌-◌, ◌*◌, ◌/◌, ◌%◌, ◌^◌, ◌<◌, arith}
use Rattle.trap_map.proofs.LeftLemmas.{at_fits, back_is_inside}
use Rattle.trap_map.proofs.places.whose.Goals as goal

-- the block is below the volume, which fits
below_most : (c : goal.After-from-before) → (c.args.row / c.from-chunk.result * (c.from-members.result - 1) + c.from-before.result) * c.from-chunk.result + c.args.row % c.from-chunk.result < 2 ^ 20
below_most c =
    let parity : c.parity_of-parity.result < c.args.g.now.members = omega arith in
    let apart = back_is_inside c.parity_of-parity.result c.args.member c.args.g.now.members parity c.requires.member c.if-member-parity.false in
    let inside : c.from-before.result + 1 < c.args.g.now.members = omega arith in
    at_fits c.args.g.now.members c.args.g.now.chunk c.args.g.now.rows c.args.row c.from-before.result c.from-members.result c.from-chunk.result
    c.from-members.ensures c.from-chunk.ensures (omega arith) (omega arith) (omega arith) c.requires.row inside

pub overflow_mul-result-2 : goal.overflow_mul-result-2
overflow_mul-result-2 c = let h = below_most c in omega arith

pub overflow_add-result-2 : goal.overflow_add-result-2
overflow_add-result-2 c = let h = below_most c in omega arith
