use Rattle.std.proofs.Common.{◌≡◌, ◌∙◌, option_copied, Some, IfSome, IsSome, take, refl, ap, sym, subst}
use Rattle.trap_cache.specs.Cached.{Cached, bytes_under}
use Rattle.trap_cache.specs.declared.slots.Slot.{Slot}
use Rattle.trap_cache.proofs.Hits.{hit, missed}
use Rattle.trap_cache.proofs.Places.{sized_at}
use Rattle.trap_cache.proofs.Steps.{still_cache, promoted_is, first_shown, got, not_got}
use Rattle.trap_cache.proofs.cache.Cache.get.Goals as goal

pub returns-in_err-place : goal.returns-in_err-place
returns-in_err-place c =
    let s = c.self.inside in
    let none = sym c.find.ensures ∙ c.in_err-place.was in (
      (refl, λ _. tt, not_got s.size s.used c.args.block c.args.seq s.slots.entries c.args.self.now c.self.view_is none),
      record {
        moves = tt;
        bytes = ap option_copied c.from_residual.ensures ∙ sym (missed (take s.used s.slots.entries) c.args.block c.args.seq none).0
            ∙ ap (λ (q : Cached). bytes_under c.args.block c.args.seq q.kept) c.self.view_is;
      },
    )

pub invariant_of-self-2 : goal.invariant_of-self-2
invariant_of-self-2 c =
    let s = c.self.inside in
    let p = c.in_ok-place.place in
    let h = hit s.used s.slots.entries p c.args.block c.args.seq c.self.invariant.slots.distinct (sym c.find.ensures ∙ c.in_ok-place.was) in
    still_cache s.size s.used s.used p s.slots c.promote.new.self h.slot h.slot c.self.invariant h.there
    (sized_at s.size s.slots.entries p (p, h.slot) c.self.invariant.slots.sized h.there) c.self.invariant.few
    (promoted_is s.used p c.args.block c.args.seq s.slots c.promote.new.self h c.promote.ensures.entries)

pub bytes_at-requires : goal.bytes_at-requires
bytes_at-requires c =
    let s = c.self.inside in
    let p = c.in_ok-place.place in
    let h = hit s.used s.slots.entries p c.args.block c.args.seq c.self.invariant.slots.distinct (sym c.find.ensures ∙ c.in_ok-place.was) in
    subst IsSome (sym (first_shown s.used p c.args.block c.args.seq s.slots c.promote.new.self h c.promote.ensures.entries)) refl

pub returns : goal.returns
returns c =
    let s = c.self.inside in
    let p = c.in_ok-place.place in
    let found = sym c.find.ensures ∙ c.in_ok-place.was in
    let h = hit s.used s.slots.entries p c.args.block c.args.seq c.self.invariant.slots.distinct found in
    let bytes : c.bytes_at.result.now ≡ h.slot.bytes.items =
    subst (λ o. IfSome o (λ (slot : Slot). c.bytes_at.result.now ≡ slot.bytes.items))
    (first_shown s.used p c.args.block c.args.seq s.slots c.promote.new.self h c.promote.ensures.entries) c.bytes_at.ensures in (
      (refl, λ _. tt, got s.size s.used p c.args.block c.args.seq s.slots c.promote.new.self c.args.self.now c.self.view_is c.self.invariant.slots.distinct found c.promote.ensures.entries),
      record {
        moves = tt;
        bytes = ap Some bytes ∙ sym h.bytes ∙ ap (λ (q : Cached). bytes_under c.args.block c.args.seq q.kept) c.self.view_is;
      },
    )
