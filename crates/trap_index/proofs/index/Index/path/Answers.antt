use Rattle.std.proofs.Common.{ℕ, ◌+◌, ap, arith}
use Rattle.trap_model.specs.declared.known.Known.TheVariants.{Present}
use Rattle.trap_model.specs.declared.known.Path.{Path}
use Rattle.trap_model.specs.declared.known.Way.TheVariants.{Back}
use Rattle.trap_index.specs.declared.item.Item.{Item}
use Rattle.trap_index.proofs.Walking.{walk_begins, walk_retained, walk_goes_on, walk_falls, walk_short, walk_ends}
use Rattle.trap_index.proofs.index.Index.path.Goals as goal

pub loop-number-init : goal.loop-number-init
loop-number-init c = walk_begins c.args.self.now c.args.block c.args.seq c.newest-number.result c.requires.high c.newest-number.ensures.newest

pub retained-number-requires-clause-low : goal.retained-number-requires-clause-low
retained-number-requires-clause-low c =
    (walk_retained c.args.self.now c.args.block c.args.seq c.loop-number.turns c.loop-number.number c.newest-number.ensures.indexed c.loop-number.invariant c.loop-number-test.true).0

pub retained-number-requires-clause-high : goal.retained-number-requires-clause-high
retained-number-requires-clause-high c =
    (walk_retained c.args.self.now c.args.block c.args.seq c.loop-number.turns c.loop-number.number c.newest-number.ensures.indexed c.loop-number.invariant c.loop-number-test.true).1

pub overflow_add-turns : goal.overflow_add-turns
overflow_add-turns c =
    let more = walk_goes_on c.args.self.now c.args.block c.args.seq c.loop-number.turns c.loop-number.number c.newest-number.ensures.indexed c.loop-number.invariant
    c.retained-number.result.prev c.loop-number-test.true (ap (λ (x : Item). x.prev) c.retained-number.ensures) in
    let short = walk_short c.args.self.now c.args.block c.args.seq (c.loop-number.turns + 1) c.retained-number.result.prev c.newest-number.ensures.indexed more in
    let few = c.newest-number.ensures.indexed.few in
    let most = c.args.self.now.g.within.entries_most in
    omega arith

pub loop-number-smaller : goal.loop-number-smaller
loop-number-smaller c =
    walk_falls c.args.self.now c.args.block c.args.seq c.loop-number.turns c.loop-number.number c.newest-number.ensures.indexed c.loop-number.invariant
    c.retained-number.result.prev c.loop-number-test.true (ap (λ (x : Item). x.prev) c.retained-number.ensures)

pub loop-number-preserved : goal.loop-number-preserved
loop-number-preserved c =
    walk_goes_on c.args.self.now c.args.block c.args.seq c.loop-number.turns c.loop-number.number c.newest-number.ensures.indexed c.loop-number.invariant
    c.retained-number.result.prev c.loop-number-test.true (ap (λ (x : Item). x.prev) c.retained-number.ensures)

abbrev path_back : ℕ → Path
path_back n = record { from = Present; turns = n; way = Back }

pub returns : goal.returns
returns c =
    ap path_back
    (walk_ends c.args.self.now c.args.block c.args.seq c.loop-number.turns c.loop-number.number c.newest-number.ensures.indexed c.loop-number.invariant c.requires.low c.loop-number-test.false)
