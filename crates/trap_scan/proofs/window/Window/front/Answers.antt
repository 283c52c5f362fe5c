use Rattle.trap_scan.proofs.Fronts.{found_whole, found_bad, found_end, found_short, ahead_again, room_again, held_not_short}
use Rattle.trap_scan.proofs.window.Window.front.Goals as goal

pub returns-in-Whole-clause-found : goal.returns-in-Whole-clause-found
returns-in-Whole-clause-found g c = λ told bytes ahead.
    found_whole c.args.size c.in-Whole.rec c.in-Whole.used c.args.ring.now c.args.self.now bytes _ c.in-Whole.ensures (c.requires.loaded told) ahead

pub returns-in-Bad-clause-found : goal.returns-in-Bad-clause-found
returns-in-Bad-clause-found g c = λ told bytes ahead.
    found_bad c.args.size c.in-Bad.at c.args.ring.now c.args.self.now bytes _ c.requires.size c.in-Bad.ensures (c.requires.loaded told) ahead

pub returns-then-is_whole-clause-found : goal.returns-then-is_whole-clause-found
returns-then-is_whole-clause-found g c = λ told bytes ahead.
    found_end c.args.size c.args.ring.now c.args.self.now bytes _ c.requires.size c.in-Short.ensures (c.is_whole.ensures.0 c.if-is_whole.true) (c.requires.loaded told) ahead

pub returns-in-Whole-front_read-clause-found : goal.returns-in-Whole-front_read-clause-found
returns-in-Whole-front_read-clause-found g c = λ told bytes ahead.
    let new = c.load.new.self in
    found_whole c.args.size c.in-Whole-front_read.rec c.in-Whole-front_read.used c.args.ring.now new bytes _ c.in-Whole-front_read.ensures (c.load.ensures.loaded told)
    (ahead_again c.args.ring.now c.args.self.now new bytes _ c.load.ensures.place ahead)

pub returns-in-Bad-front_read-clause-found : goal.returns-in-Bad-front_read-clause-found
returns-in-Bad-front_read-clause-found g c = λ told bytes ahead.
    let new = c.load.new.self in
    found_bad c.args.size c.in-Bad-front_read.at c.args.ring.now new bytes _ c.requires.size c.in-Bad-front_read.ensures (c.load.ensures.loaded told)
    (ahead_again c.args.ring.now c.args.self.now new bytes _ c.load.ensures.place ahead)

pub returns-in-Short-front_read-clause-found : goal.returns-in-Short-front_read-clause-found
returns-in-Short-front_read-clause-found g c = λ told bytes ahead.
    let new = c.load.new.self in
    found_short c.args.size c.args.ring.now new bytes _ c.requires.size (room_again c.args.size c.args.self.now new c.load.ensures.place c.requires.buffer)
    c.in-Short-front_read.ensures c.in_ok-load-in-Short.ensures.filled (c.load.ensures.loaded told)
    (ahead_again c.args.ring.now c.args.self.now new bytes _ c.load.ensures.place ahead)

pub returns-in_err-load-in-Short-clause-untouched : goal.returns-in_err-load-in-Short-clause-untouched
returns-in_err-load-in-Short-clause-untouched g c = λ held. absurd (held_not_short c.args.size c.args.self.now c.requires.size held c.in-Short.ensures)

pub returns-in-Whole-front_read-clause-untouched : goal.returns-in-Whole-front_read-clause-untouched
returns-in-Whole-front_read-clause-untouched g c = λ held. absurd (held_not_short c.args.size c.args.self.now c.requires.size held c.in-Short.ensures)

pub returns-in-Bad-front_read-clause-untouched : goal.returns-in-Bad-front_read-clause-untouched
returns-in-Bad-front_read-clause-untouched g c = λ held. absurd (held_not_short c.args.size c.args.self.now c.requires.size held c.in-Short.ensures)

pub returns-in-Short-front_read-clause-untouched : goal.returns-in-Short-front_read-clause-untouched
returns-in-Short-front_read-clause-untouched g c = λ held. absurd (held_not_short c.args.size c.args.self.now c.requires.size held c.in-Short.ensures)
