use Rattle.std.proofs.Common.{◌≡◌, ◌≤◌, ◌+◌, ◌-◌, [], refl, sym, ap, ◌∙◌, arith}
use Rattle.trap_array.specs.declared.span.Span.{Span}
use Rattle.trap_bank.specs.declared.disks.Failed.{Failed}
use Rattle.trap_index.specs.Indexed.{last_seq}
use Rattle.trap_send.proofs.Gathering.{calls_then, calls_none, calls_once}
use Rattle.trap_bank.proofs.Called.{called_once, called_at_most}
use Rattle.trap_cli.proofs.Listings.{HasCome, lists_start, lists_each, lists_failed, lists_line, lists_end, keeps_then, keeps_none}
use Rattle.trap_cli.proofs.history.say_lines.Goals as goal
use Rattle.trap_cli.proofs.history.say_lines.Goals.{in-Some+in_ok-len, in_default}

pub loop-before-init : goal.loop-before-init
loop-before-init g c =
    let view = g.B.Bank.view c.args.bank.now in
    let begins : c.args.array.now.index.first ≡ c.span-span.result.first = c.requires.first ∙ sym (ap (λ (span : Span). span.first) c.span-span.ensures.head) in
    record {
      within = omega arith;
      long = refl;
      steps = lists_start c.args.array.now c.span-span.result.first begins view [];
      disks = keeps_none view;
      calls = calls_none (c.span-span.result.first - c.args.array.now.index.first) view;
    }

pub returns-in_err-len-clause-steps : goal.returns-in_err-len-clause-steps
returns-in_err-len-clause-steps g c =
    let span = c.span-span.result in
    let begins : c.args.array.now.index.first ≡ span.first = c.requires.first ∙ sym (ap (λ (span : Span). span.first) c.span-span.ensures.head) in
    let ends : last_seq c.args.array.now.index ≡ span.last = c.requires.last ∙ sym (ap (λ (span : Span). span.last) c.span-span.ensures.head) in
    lists_failed c.args.array.now span.first begins span.last ends (g.B.Bank.view c.args.bank.now) (g.B.Bank.view c.loop-before.bank) (g.B.Bank.view c.make_room.new.bank)
    c.loop-before.before (omega arith) (omega arith) c.loop-before.piece c.loop-before.len c.loop-before.invariant.steps
    c.from_residual.result c.from_residual.ensures.0 c.in_err-len.ensures.steps

pub loop-before-preserved : goal.loop-before-preserved
loop-before-preserved g c =
    let span = c.span-span.result in
    let view = g.B.Bank.view in
    let so_far = c.loop-before.invariant in
    let begins : c.args.array.now.index.first ≡ span.first = c.requires.first ∙ sym (ap (λ (span : Span). span.first) c.span-span.ensures.head) in
    let ends : last_seq c.args.array.now.index ≡ span.last = c.requires.last ∙ sym (ap (λ (span : Span). span.last) c.span-span.ensures.head) in
    elim c.match-entry.branch [
      | in-Some+in_ok-len w ↦
          let here : HasCome c.args.array.now (view c.args.bank.now) (view w.make_room.new.bank) (c.loop-before.before + 1) w.put_line-len.new.out w.put_line-len.result = record {
            within = omega (arith, w.put_line-len.ensures.end, w.in_ok-len.ensures.room, so_far.long);
            long = w.put_line-len.auto.out ∙ so_far.long;
            steps = lists_line c.args.array.now span.first begins span.last ends (view c.args.bank.now) (view c.loop-before.bank) (view w.make_room.new.bank)
                c.loop-before.before (omega arith) (omega arith) c.loop-before.piece c.loop-before.len so_far.steps
                Failed w.in_ok-len.len w.put_line-len.result w.put_line-len.new.out w.in-Some.item w.in_ok-len.ensures.steps w.in-Some.ensures.some w.put_line-len.ensures.so_far;
            disks = keeps_then (view c.args.bank.now) (view c.loop-before.bank) (view w.make_room.new.bank) so_far.steps.tells so_far.disks w.make_room.ensures.disks;
            calls = calls_then (c.loop-before.before - c.args.array.now.index.first) 1 (c.loop-before.before + 1 - c.args.array.now.index.first)
                (view c.args.bank.now) (view c.loop-before.bank) (view w.make_room.new.bank) (omega arith) so_far.steps.tells so_far.calls w.make_room.ensures.calls;
          } in
          rw w.bank-is (rw w.piece-is (rw w.len-is here))
      | in_default w ↦
          let there = lists_each c.args.array.now span.first begins span.last ends (view c.args.bank.now) (view c.loop-before.bank) (view c.loop-before.bank)
          c.loop-before.before (omega arith) (omega arith) c.loop-before.piece c.loop-before.len so_far.steps in
          absurd (let both = w.in_default.ensures.retained.1 there in cc both)
    ]

pub returns-clause-steps : goal.returns-clause-steps
returns-clause-steps g c =
    let span = c.span-span.result in
    let begins : c.args.array.now.index.first ≡ span.first = c.requires.first ∙ sym (ap (λ (span : Span). span.first) c.span-span.ensures.head) in
    let ends : last_seq c.args.array.now.index ≡ span.last = c.requires.last ∙ sym (ap (λ (span : Span). span.last) c.span-span.ensures.head) in
    let order : span.first ≤ span.last = omega (arith, begins, ends) in
    lists_end c.args.array.now (g.B.Bank.view c.args.bank.now) (g.B.Bank.view c.loop-before.bank) (g.B.Bank.view c.say.new.self)
    c.loop-before.before c.loop-before.piece c.loop-before.len c.say.result (omega (arith, order, ends)) c.loop-before.invariant.steps c.say.ensures.call

pub returns-in_err-len-clause-calls : goal.returns-in_err-len-clause-calls
returns-in_err-len-clause-calls g c =
    let view = g.B.Bank.view in
    let i = c.args.array.now.index in
    let span = c.span-span.result in
    let begins : i.first ≡ span.first = c.requires.first ∙ sym (ap (λ (span : Span). span.first) c.span-span.ensures.head) in
    let ends : last_seq i ≡ span.last = c.requires.last ∙ sym (ap (λ (span : Span). span.last) c.span-span.ensures.head) in
    calls_then (c.loop-before.before - i.first) 1 (last_seq i - i.first + 1) (view c.args.bank.now) (view c.loop-before.bank) (view c.make_room.new.bank)
    (omega (arith, begins, ends)) c.loop-before.invariant.steps.tells c.loop-before.invariant.calls c.make_room.ensures.calls

pub returns-clause-calls : goal.returns-clause-calls
returns-clause-calls g c =
    let view = g.B.Bank.view in
    let i = c.args.array.now.index in
    let span = c.span-span.result in
    let begins : i.first ≡ span.first = c.requires.first ∙ sym (ap (λ (span : Span). span.first) c.span-span.ensures.head) in
    let ends : last_seq i ≡ span.last = c.requires.last ∙ sym (ap (λ (span : Span). span.last) c.span-span.ensures.head) in
    let call = calls_once (view c.loop-before.bank) (view c.say.new.self) (called_at_most 1 1 (view c.loop-before.bank) (view c.say.new.self) (omega arith)
    (called_once c.say.result (view c.loop-before.bank) (view c.say.new.self) c.say.ensures.call.goes)) in
    calls_then (c.loop-before.before - i.first) 1 (last_seq i - i.first + 1) (view c.args.bank.now) (view c.loop-before.bank) (view c.say.new.self)
    (omega (arith, begins, ends)) c.loop-before.invariant.steps.tells c.loop-before.invariant.calls call
