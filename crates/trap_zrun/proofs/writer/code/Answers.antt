use Rattle.std.proofs.Common.{ℕ, ◌+◌, ◌-◌, List, take, drop, sym, subst, arith, length-take}
use Rattle.trap_zrun.proofs.Coding.{IsCoded, found_by, coded-more, coded-room, coded_done}
use Rattle.trap_zrun.proofs.writer.code.Goals as goal

pub put_segment-end-requires-clause-room : goal.put_segment-end-requires-clause-room
put_segment-end-requires-clause-room c =
    let l = c.literal_end-stop.ensures in
    let z = c.zeros_from.ensures in
    let found = found_by c.args.block.now c.loop-at.at c.zeros_from.result c.literal_end-stop.result z.zeros z.end l.from l.within l.literal l.zeros in
    let room = coded-room c.args.block.now (take c.loop-at.end c.loop-at.out) c.loop-at.at (c.loop-at.at + c.zeros_from.result) c.literal_end-stop.result
    c.loop-at-test.true found c.loop-at.invariant.coded in
    omega (arith, length-take c.loop-at.end c.loop-at.out, length-take (c.literal_end-stop.result - (c.loop-at.at + c.zeros_from.result)) (drop (c.loop-at.at + c.zeros_from.result) c.args.block.now))

pub loop-at-preserved : goal.loop-at-preserved
loop-at-preserved c =
    let l = c.literal_end-stop.ensures in
    let z = c.zeros_from.ensures in
    let found = found_by c.args.block.now c.loop-at.at c.zeros_from.result c.literal_end-stop.result z.zeros z.end l.from l.within l.literal l.zeros in
    let more = coded-more c.args.block.now (take c.loop-at.end c.loop-at.out) c.loop-at.at (c.loop-at.at + c.zeros_from.result) c.literal_end-stop.result
    c.loop-at-test.true found c.loop-at.invariant.coded in
    record {
      inside = l.within;
      room = (let room = coded-room c.args.block.now (take c.loop-at.end c.loop-at.out) c.loop-at.at (c.loop-at.at + c.zeros_from.result) c.literal_end-stop.result
          c.loop-at-test.true found c.loop-at.invariant.coded in
          omega (
            arith,
            length-take c.loop-at.end c.loop-at.out,
            length-take (c.literal_end-stop.result - (c.loop-at.at + c.zeros_from.result))
                (drop (c.loop-at.at + c.zeros_from.result) c.args.block.now),
          ));
      coded = subst (λ (x : List ℕ). IsCoded c.args.block.now c.literal_end-stop.result x) (sym c.put_segment-end.ensures.so_far) more;
    }

pub returns-clause-spelled : goal.returns-clause-spelled
returns-clause-spelled c = coded_done c.args.block.now (take c.loop-at.end c.loop-at.out) c.loop-at.at c.loop-at-test.false c.loop-at.invariant.coded
