use Rattle.std.proofs.Common.{rules, ◌≡◌, ℕ, None, sym, subst, ◌∙◌}
use Rattle.trap_array.specs.Asked.{IsDamagedSince, instant_refused}
use Rattle.trap_array.specs.Calls.{running}
use Rattle.trap_array.specs.Log.{with_index}
use Rattle.trap_array.specs.Sources.{CallsAtMost, reads_back}
use Rattle.trap_array.proofs.Asking.{instant_denied, instant_told, one_after, told_replies}
use Rattle.trap_array.proofs.Sources.{looks_deny}
use Rattle.trap_array.proofs.past.look_back_to.Goals as goal

pub returns-in-Some-clause-reply : goal.returns-in-Some-clause-reply
returns-in-Some-clause-reply g c told s stands =
    instant_denied c.args.index.now s stands.index c.args.log.now.g c.args.block c.requires.block c.args.instant c.in-Some.why (sym c.refusal.ensures ∙ c.in-Some.is)

pub returns-clause-reply : goal.returns-clause-reply
returns-clause-reply g c told s stands =
    let none : instant_refused c.args.index.now c.args.instant ≡ None = search rules in
    told_replies (running (with_index c.args.log.now c.args.index.now)) c.args.block c.last_entry-seq.result (g.B.Bank.view c.args.bank.now) (g.B.Bank.view c.look_back.new.bank)
    c.look_back.result c.look_back.new.into _ _ (instant_told c.args.index.now s stands.index c.args.log.now.g c.args.block c.requires.block c.args.instant
    c.last_entry-seq.result none c.last_entry-seq.ensures.after) (c.look_back.ensures.contents told s stands) c.look_back.ensures.cause

pub returns-clause-calls : goal.returns-clause-calls
returns-clause-calls g c seq is =
    let here = running (with_index c.args.log.now c.args.index.now) in
    let same = one_after c.args.index.now c.args.instant c.last_entry-seq.result seq c.last_entry-seq.ensures.after is in
    subst (λ (q : ℕ). CallsAtMost (reads_back here c.args.block q) (g.B.Bank.view c.args.bank.now) (g.B.Bank.view c.look_back.new.bank)) same c.look_back.ensures.calls

pub returns-clause-cause : goal.returns-clause-cause
returns-clause-cause g c =
    let here = running (with_index c.args.log.now c.args.index.now) in
    let old = g.B.Bank.view c.args.bank.now in
    let q = c.last_entry-seq.result in
    looks_deny here c.args.block q (IsDamagedSince here c.args.block c.args.instant old) old (g.B.Bank.view c.look_back.new.bank) c.look_back.result
    (λ at damaged told. record { q = q; after = c.last_entry-seq.ensures.after; later = damaged told }) c.look_back.ensures.cause
