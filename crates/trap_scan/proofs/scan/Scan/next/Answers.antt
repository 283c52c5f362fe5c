use Rattle.std.proofs.Common.{drop, refl, subst, arith}
use Rattle.trap_record.specs.Reading.{IsWhole}
use Rattle.trap_scan.specs.Window.{IsFront, HasRanges}
use Rattle.trap_scan.proofs.Taking.{is_not, loaded_after, ahead_after, comes_next, none_next}
use Rattle.trap_scan.proofs.scan.Scan.next.Goals as goal

pub returns-clause-right : goal.returns-clause-right
returns-clause-right g c = λ told bytes ahead.
    let disks = (g.B.Bank.view c.args.bank.now).now.disks in
    let size = c.args.self.now.expected.size in
    let whole : IsWhole size c.in-Some.front.rec c.in-Some.front.len bytes = subst (λ f. IsFront size bytes f) c.in-Some.is (c.in_ok-front.ensures.found told bytes ahead) in
    let place = c.args.ring.now in (
      drop c.in-Some.front.len bytes,
      comes_next place c.args.self.now _ c.in-Some.front bytes disks (record { expected = refl; seq = refl; time = refl; place = c.front.ensures.place })
          (c.may_follow.ensures.0 c.if-not-may_follow.false) whole ahead,
      ahead_after place c.in-Some.front.len c.args.self.now.window c.front.new.self c.take.new.self.window bytes disks c.front.ensures.place c.take.ensures.over whole.there ahead,
    )

pub returns-clause-loaded : goal.returns-clause-loaded
returns-clause-loaded g c = λ told.
    loaded_after c.args.ring.now c.in-Some.front.len c.front.new.self c.take.new.self.window (g.B.Bank.view c.args.bank.now).now.disks (c.front.ensures.loaded told) c.take.ensures.over

pub returns-then-not-may_follow-clause-damaged : goal.returns-then-not-may_follow-clause-damaged
returns-then-not-may_follow-clause-damaged g c = λ told at is.
    let disks = (g.B.Bank.view c.args.bank.now).now.disks in
    let size = c.args.self.now.expected.size in
    record {
      place_is = (let here = c.at-at.ensures in cc);
      none = λ bytes ahead.
          none_next c.args.ring.now c.args.self.now _ c.in-Some.front bytes disks (record { expected = refl; seq = refl; time = refl; place = c.front.ensures.place })
          (λ may. is_not c.may_follow.result c.if-not-may_follow.true (c.may_follow.ensures.1 may))
          (subst (λ f. IsFront size bytes f) c.in-Some.is (c.in_ok-front.ensures.found told bytes ahead)) ahead;
    }

pub returns-clause-next : goal.returns-clause-next
returns-clause-next g c =
    let may = c.may_follow.ensures.0 c.if-not-may_follow.false in
    let place = c.front.ensures.place in
    let over = c.take.ensures.over in
    record {
      expected = c.take.ensures.expected;
      checked = record {
        ranges = subst (λ f. HasRanges c.args.self.now.expected.size f) c.in-Some.is c.in_ok-front.ensures.ranges;
        block = may.block;
        later = may.later;
        last = λ none. (may.ends none).time;
      };
      number = may.number;
      seq = c.take.ensures.seq;
      time = c.take.ensures.time;
      at = omega (arith, place.at, over.at);
    }
