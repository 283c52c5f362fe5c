use Rattle.std.proofs.Common.{◌≡◌, ◌≤◌, ◌+◌, ◌∙◌, length, IfSome, IsSome, inl, inr, refl, ap, sym, subst, arith}
use Rattle.trap_cache.specs.Cached.{Cached}
use Rattle.trap_cache.specs.declared.slots.Slot.{Slot}
use Rattle.trap_cache.proofs.Hits.{hit}
use Rattle.trap_cache.proofs.Places.{sized_at, last_there}
use Rattle.trap_cache.proofs.Steps.{shown, still_cache, kept_again, kept_new, last_is}
use Rattle.trap_cache.proofs.cache.Cache.keep.Goals as goal

pub rewrite-requires-clause-there : goal.rewrite-requires-clause-there
rewrite-requires-clause-there c =
    let s = c.self.inside in
    let h = hit s.used s.slots.entries c.in-Some.place c.args.block c.args.seq c.self.invariant.slots.distinct (sym c.find.ensures ∙ c.in-Some.is) in
    subst IsSome (sym (shown s.slots.entries c.in-Some.place h.slot h.there)) refl

pub rewrite-requires-clause-size : goal.rewrite-requires-clause-size
rewrite-requires-clause-size c =
    let s = c.self.inside in
    let p = c.in-Some.place in
    let h = hit s.used s.slots.entries p c.args.block c.args.seq c.self.invariant.slots.distinct (sym c.find.ensures ∙ c.in-Some.is) in
    let size : length c.args.bytes.now ≡ s.size = c.requires ∙ sym (ap (λ (q : Cached). q.size) c.self.view_is) in
    subst (λ o. IfSome o (λ (slot : Slot). length c.args.bytes.now ≡ length slot.bytes.items)) (sym (shown s.slots.entries p h.slot h.there))
    (size ∙ sym (sized_at s.size s.slots.entries p (p, h.slot) c.self.invariant.slots.sized h.there))

pub invariant_of-self : goal.invariant_of-self
invariant_of-self c =
    let s = c.self.inside in
    let p = c.in-Some.place in
    let r = c.rewrite.ensures in
    let h = hit s.used s.slots.entries p c.args.block c.args.seq c.self.invariant.slots.distinct (sym c.find.ensures ∙ c.in-Some.is) in
    let size : length c.args.bytes.now ≡ s.size = c.requires ∙ sym (ap (λ (q : Cached). q.size) c.self.view_is) in
    still_cache s.size s.used s.used p s.slots c.rewrite.new.slots h.slot r.slot c.self.invariant h.there (ap length r.has_bytes ∙ size) c.self.invariant.few r.first

pub rewrite-requires-in-None-clause-there : goal.rewrite-requires-in-None-clause-there
rewrite-requires-in-None-clause-there c =
    let es = c.self.inside.slots.entries in
    let p = c.last_place-place.result in
    let i = c.self.invariant.slots in
    let e = last_there 15 es p i.distinct (last_is es p i.sixteen c.last_place-place.ensures) in
    subst IsSome (sym (shown es p e.0 e.1)) refl

pub rewrite-requires-in-None-clause-size : goal.rewrite-requires-in-None-clause-size
rewrite-requires-in-None-clause-size c =
    let es = c.self.inside.slots.entries in
    let p = c.last_place-place.result in
    let i = c.self.invariant.slots in
    let e = last_there 15 es p i.distinct (last_is es p i.sixteen c.last_place-place.ensures) in
    let size : length c.args.bytes.now ≡ c.self.inside.size = c.requires ∙ sym (ap (λ (q : Cached). q.size) c.self.view_is) in
    subst (λ o. IfSome o (λ (slot : Slot). length c.args.bytes.now ≡ length slot.bytes.items)) (sym (shown es p e.0 e.1))
    (size ∙ sym (sized_at c.self.inside.size es p (p, e.0) i.sized e.1))

pub invariant_of-self-then-self-lt-SLOTS : goal.invariant_of-self-then-self-lt-SLOTS
invariant_of-self-then-self-lt-SLOTS c =
    let s = c.self.inside in
    let p = c.last_place-place.result in
    let i = c.self.invariant.slots in
    let r = c.rewrite-in-None.ensures in
    let e = last_there 15 s.slots.entries p i.distinct (last_is s.slots.entries p i.sixteen c.last_place-place.ensures) in
    let size : length c.args.bytes.now ≡ s.size = c.requires ∙ sym (ap (λ (q : Cached). q.size) c.self.view_is) in
    let few : s.used + 1 ≤ 16 = let h = c.if-self-lt-SLOTS.true in omega (arith, h) in
    still_cache s.size s.used (s.used + 1) p s.slots c.rewrite-in-None.new.slots e.0 r.slot c.self.invariant e.1 (ap length r.has_bytes ∙ size) few r.first

pub invariant_of-self-else-self-lt-SLOTS : goal.invariant_of-self-else-self-lt-SLOTS
invariant_of-self-else-self-lt-SLOTS c =
    let s = c.self.inside in
    let p = c.last_place-place.result in
    let i = c.self.invariant.slots in
    let r = c.rewrite-in-None.ensures in
    let e = last_there 15 s.slots.entries p i.distinct (last_is s.slots.entries p i.sixteen c.last_place-place.ensures) in
    let size : length c.args.bytes.now ≡ s.size = c.requires ∙ sym (ap (λ (q : Cached). q.size) c.self.view_is) in
    still_cache s.size s.used s.used p s.slots c.rewrite-in-None.new.slots e.0 r.slot c.self.invariant e.1 (ap length r.has_bytes ∙ size) c.self.invariant.few r.first

pub returns-in-Some : goal.returns-in-Some
returns-in-Some c =
    let s = c.self.inside in
    kept_again s.size s.used c.in-Some.place c.args.block c.args.seq c.args.bytes.now s.slots c.rewrite.new.slots c.args.self.now
    c.self.view_is c.self.invariant (sym c.find.ensures ∙ c.in-Some.is) c.rewrite.ensures

pub returns-then-self-lt-SLOTS : goal.returns-then-self-lt-SLOTS
returns-then-self-lt-SLOTS c =
    let s = c.self.inside in
    let h = c.if-self-lt-SLOTS.true in
    kept_new s.size s.used (s.used + 1) c.last_place-place.result c.args.block c.args.seq c.args.bytes.now s.slots c.rewrite-in-None.new.slots c.args.self.now
    c.self.view_is c.self.invariant (sym c.find.ensures ∙ c.in-None.is) c.last_place-place.ensures c.rewrite-in-None.ensures
    (omega (arith, h)) (omega arith) (inl (omega arith))

pub returns-else-self-lt-SLOTS : goal.returns-else-self-lt-SLOTS
returns-else-self-lt-SLOTS c =
    let s = c.self.inside in
    let h = c.if-self-lt-SLOTS.false in
    let few = c.self.invariant.few in
    kept_new s.size s.used s.used c.last_place-place.result c.args.block c.args.seq c.args.bytes.now s.slots c.rewrite-in-None.new.slots c.args.self.now
    c.self.view_is c.self.invariant (sym c.find.ensures ∙ c.in-None.is) c.last_place-place.ensures c.rewrite-in-None.ensures
    few (omega arith) (inr (omega (arith, h, few)))
