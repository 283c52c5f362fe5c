use Rattle.std.proofs.Common.{◌≡◌, ◌-◌, ◌==◌, Some, None, take, drop, subst, sym, ◌∙◌, length-take, arith}
use Rattle.std.specs.List.{position}
use Rattle.std.proofs.lemmas.List.{take_all}
use Rattle.trap_script.specs.Lines.{HasNoFeed}
use Rattle.trap_lines.specs.Reader.{unread, Refills}
use Rattle.trap_lines.proofs.reader.LineReader.next.Goals as goal
use Rattle.trap_lines.proofs.Passing.{line_ends, front_grows, no_feed_found}

pub returns-in-Some-clause-found : goal.returns-in-Some-clause-found
returns-in-Some-clause-found g c =
    let stream = g.S.Source.stream in
    let r2 = c.await_more.new.self in
    let there = subst (λ more. Refills more r2 (stream c.await_more.new.source)) c.if-not-branch.false c.in_ok-await_more.ensures.more in
    let line = line_ends c.args.self.now c.pieces.self r2 c.pass.new.self c.pass_feed.new.self
    (stream c.args.source.now) (stream c.pieces.source) (stream c.await_more.new.source) c.in-Some.place
    c.pieces.invariant.1 c.pieces.invariant.2 c.await_more.ensures.passes c.await_more.ensures.line
    (omega (arith, r2.within, r2.chunk.ok.0)) (subst (λ chunk. position (λ byte. byte == 10) (take (r2.end - r2.at) (drop r2.at chunk)) ≡ Some c.in-Some.place)
    c.deref.ensures.value (sym c.find_line_feed.ensures ∙ c.in-Some.is))
    c.pass.ensures.advances c.pass.ensures.line c.pass_feed.ensures.advances c.pass_feed.ensures.line in
    (line.0, line.1, line.2, there.1)

pub pieces-preserved : goal.pieces-preserved
pieces-preserved g c =
    let stream = g.S.Source.stream in
    let r2 = c.await_more.new.self in
    let count = r2.end - r2.at in
    let there = subst (λ more. Refills more r2 (stream c.await_more.new.source)) c.if-not-branch.false c.in_ok-await_more.ensures.more in
    let none : HasNoFeed (unread r2) = no_feed_found (unread r2) (subst (λ chunk. position (λ byte. byte == 10) (take (r2.end - r2.at) (drop r2.at chunk)) ≡ None)
    c.deref.ensures.value (sym c.find_line_feed.ensures ∙ c.in-None.is)) in
    let whole : take count (unread r2) ≡ unread r2 =
    take_all count (unread r2) (omega (arith, length-take count (drop r2.at r2.chunk.items))) in
    let grown = front_grows c.args.self.now c.pieces.self r2 c.pass-in-None.new.self
    (stream c.args.source.now) (stream c.pieces.source) (stream c.await_more.new.source) count
    c.pieces.invariant.1 c.pieces.invariant.2 c.await_more.ensures.passes c.await_more.ensures.line
    (omega arith) (omega (arith, r2.within, r2.chunk.ok.0)) (subst HasNoFeed (sym whole) none)
    c.pass-in-None.ensures.advances c.pass-in-None.ensures.line in
    let given = grown.2.given in
    let below = c.requires.below in
    let short = c.pieces.invariant.5 in
    let idle = c.await_more.ensures.passes.used in
    let step = c.pass-in-None.ensures.advances.used in
    (_, grown.1, grown.2, λ some. there.1, omega (arith, given, below), omega (arith, short, idle, step))
