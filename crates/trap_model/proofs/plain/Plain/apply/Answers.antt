use Rattle.std.proofs.Common.{◌≡◌, ℕ, List, [], ◌∷◌, ◌++◌, None, false, subst, sym, ◌∙◌, ap}
use Rattle.trap_model.specs.PlainArray.{PlainArray}
use Rattle.trap_model.specs.declared.history.Entry.{Entry}
use Rattle.trap_model.specs.declared.request.Request.{Request}
use Rattle.trap_model.specs.declared.request.Request.TheVariants.{Write, Keep}
use Rattle.trap_model.specs.State.{IsValid}
use Rattle.trap_model.specs.ArrayStep.{refusal, IsSized}
use Rattle.trap_model.proofs.Adding.{write_accepted, added_valid, number_accepted}
use Rattle.trap_model.proofs.Dropping.{kept_from_valid}
use Rattle.trap_model.proofs.plain.Plain.apply.Goals as goal

pub invariant_of-self : goal.invariant_of-self
invariant_of-self c =
    let g = c.self.inside.geometry in
    let s = c.self.inside.state in
    let request = Write c.in-Write.time c.in-Write.block c.in-Write.bytes in
    let accepted : refusal g s request ≡ None =
    subst (λ (r : Request). refusal g s r ≡ None) c.in-Write.is (subst (λ (p : PlainArray). refusal p.geometry p.state c.args.request.now ≡ None) (sym c.self.view_is) c.requires.accepted) in
    let sized : IsSized g request =
    subst (λ (r : Request). IsSized g r) c.in-Write.is (subst (λ (p : PlainArray). IsSized p.geometry c.args.request.now) (sym c.self.view_is) c.requires.sized) in
    let time = c.in-Write.time in
    let block = c.in-Write.block in
    let with : List ℕ → Entry = λ bytes. record { time = time; block = block; bytes = bytes; snap = false } in
    let entries : c.push.new.self ≡ s.entries ++ with c.in-Write.bytes ∷ [] =
    c.in_ok-push-in-Write.ensures.ok ∙ ap (λ (bytes : List ℕ). s.entries ++ with bytes ∷ []) c.in_ok-bytes-in-Write.ensures in
    subst (λ (es : List Entry). IsValid g (record { first = s.first; base_time = s.base_time; base = s.base; entries = es })) (sym entries)
    (added_valid g s (with c.in-Write.bytes) c.self.invariant (write_accepted g s time block c.in-Write.bytes accepted) sized)

pub invariant_of-self-in-Keep : goal.invariant_of-self-in-Keep
invariant_of-self-in-Keep c =
    let g = c.self.inside.geometry in
    let s = c.self.inside.state in
    let accepted : refusal g s (Keep c.in-Keep.seq) ≡ None =
    subst (λ (r : Request). refusal g s r ≡ None) c.in-Keep.is (subst (λ (p : PlainArray). refusal p.geometry p.state c.args.request.now ≡ None) (sym c.self.view_is) c.requires.accepted) in
    let range = number_accepted s c.in-Keep.seq accepted in
    subst (IsValid g) (sym c.keep_from.ensures) (kept_from_valid g s c.in-Keep.seq c.self.invariant range.0 range.1)
