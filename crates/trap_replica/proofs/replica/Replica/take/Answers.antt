use Rattle.std.proofs.Common.{◌≡◌, ℕ, ◌+◌, ◌<◌, length, None, Some, refl, subst, sym, rules}
use Rattle.trap_bank.specs.Called.{CalledAtMost}
use Rattle.trap_model.specs.Receiver.{Receiver, answer}
use Rattle.trap_replica.specs.Mounted.{MountedReplica, arrival, receiver, frame_refusal, Receives, left_out}
use Rattle.trap_replica.specs.Applying.{Leaves, take_calls}
use Rattle.trap_replica.specs.Standing.{Mirrors, HoldsApplied, arrived}
use Rattle.trap_replica.proofs.FrameTaken.{leaves_kept, leaves_out, receives_nothing, receives, is_arrived, near, named_inside, one_answer, not_left, length_hold}
use Rattle.trap_replica.proofs.replica.Replica.take.Goals as goal

pub returns-in-Some-clause-any_moment : goal.returns-in-Some-clause-any_moment
returns-in-Some-clause-any_moment g c = λ image mirrors. leaves_kept c.args.self.now.store c.args.self.now.held (arrival c.args.frame.now c.args.parity.now) (g.B.Bank.view c.args.bank.now)
    image mirrors

pub returns-in-Some-left_out-clause-any_moment : goal.returns-in-Some-left_out-clause-any_moment
returns-in-Some-left_out-clause-any_moment g c = λ image mirrors. leaves_kept c.args.self.now.store c.args.self.now.held (arrival c.args.frame.now c.args.parity.now)
    (g.B.Bank.view c.args.bank.now) image mirrors

pub returns-in-Some-left_out-clause-answer : goal.returns-in-Some-left_out-clause-answer
returns-in-Some-left_out-clause-answer g c = λ image.
    let f = arrival c.args.frame.now c.args.parity.now in
    subst (λ (m : MountedReplica). c.in-Some-left_out.taken ≡ answer (receiver m image) f) c.self.view_is
    (leaves_out c.self.inside.store c.self.inside.held f c.in-Some-left_out.taken (sym (c.in-Some-left_out.ensures f refl)) image)

pub returns-in-Some-left_out-clause-ok : goal.returns-in-Some-left_out-clause-ok
returns-in-Some-left_out-clause-ok g c =
    let f = arrival c.args.frame.now c.args.parity.now in
    subst (λ (m : MountedReplica). Receives m m f (g.B.Bank.view c.args.bank.now) (g.B.Bank.view c.args.bank.now)) c.self.view_is
    (receives_nothing c.self.inside.store c.self.inside.held f c.in-Some-left_out.taken (sym (c.in-Some-left_out.ensures f refl)) c.self.inside.is_stopped (g.B.Bank.view c.args.bank.now))

pub admit-requires-clause-fresh : goal.admit-requires-clause-fresh
admit-requires-clause-fresh g c = let e = c.left_out.ensures (arrival c.args.frame.now c.args.parity.now) refl in cc

pub admit-requires-clause-fits : goal.admit-requires-clause-fits
admit-requires-clause-fits g c =
    let f = arrival c.args.frame.now c.args.parity.now in
    let e = c.left_out.ensures f refl in
    let fresh : left_out c.self.inside.store c.self.inside.held f ≡ None = cc in
    let none : frame_refusal c.args.self.now c.args.frame.now ≡ None = cc in
    record {
      near = near c.self.inside.store c.self.inside.held f fresh;
      last = c.requires.last;
      inside = subst (λ (m : MountedReplica). c.args.frame.now.block < m.store.shape.volume) (sym c.self.view_is) (named_inside c.args.self.now c.args.frame.now none);
      sized = subst (λ (m : MountedReplica). length c.args.parity.now ≡ m.store.shape.block) (sym c.self.view_is) c.requires.sized;
    }

pub returns-in-Ok-clause-ok : goal.returns-in-Ok-clause-ok
returns-in-Ok-clause-ok g c =
    let f = arrival c.args.frame.now c.args.parity.now in
    let e = c.left_out.ensures f refl in
    let fresh : left_out c.self.inside.store c.self.inside.held f ≡ None = cc in
    subst (λ (m : MountedReplica). Receives m (record { store = c.admit.new.store; held = c.admit.new.held; is_stopped = c.self.inside.is_stopped }) f (g.B.Bank.view c.args.bank.now)
    (g.B.Bank.view c.admit.new.bank)) c.self.view_is
    (receives c.self.inside.store c.admit.new.store c.self.inside.held c.admit.new.held f (g.B.Bank.view c.args.bank.now) (g.B.Bank.view c.admit.new.bank) c.in-Ok.ensures.ok
    c.in-Ok.ensures.done fresh c.self.inside.is_stopped c.self.inside.is_stopped)

pub returns-in-Ok-clause-any_moment : goal.returns-in-Ok-clause-any_moment
returns-in-Ok-clause-any_moment g c = λ image mirrors.
    let f = arrival c.args.frame.now c.args.parity.now in
    let e = c.left_out.ensures f refl in
    let fresh : left_out c.self.inside.store c.self.inside.held f ≡ None = cc in
    subst (λ (m : MountedReplica). Mirrors m.store (g.B.Bank.view c.args.bank.now) image → Leaves (g.B.Bank.view c.args.bank.now) (g.B.Bank.view c.admit.new.bank)
    (HoldsApplied m.store.shape (arrived (receiver m image) f))) c.self.view_is
    (λ was. subst (λ (r : Receiver). Leaves (g.B.Bank.view c.args.bank.now) (g.B.Bank.view c.admit.new.bank) (HoldsApplied c.self.inside.store.shape r))
    (is_arrived c.self.inside.store c.self.inside.held f image fresh) (c.admit.ensures.passes.any_moment image was)) mirrors

pub returns-in-Err-clause-any_moment : goal.returns-in-Err-clause-any_moment
returns-in-Err-clause-any_moment g c = λ image mirrors.
    let f = arrival c.args.frame.now c.args.parity.now in
    let e = c.left_out.ensures f refl in
    let fresh : left_out c.self.inside.store c.self.inside.held f ≡ None = cc in
    subst (λ (m : MountedReplica). Mirrors m.store (g.B.Bank.view c.args.bank.now) image → Leaves (g.B.Bank.view c.args.bank.now) (g.B.Bank.view c.admit.new.bank)
    (HoldsApplied m.store.shape (arrived (receiver m image) f))) c.self.view_is
    (λ was. subst (λ (r : Receiver). Leaves (g.B.Bank.view c.args.bank.now) (g.B.Bank.view c.admit.new.bank) (HoldsApplied c.self.inside.store.shape r))
    (is_arrived c.self.inside.store c.self.inside.held f image fresh) (c.admit.ensures.passes.any_moment image was)) mirrors

pub returns-in-Some-left_out-clause-left_out : goal.returns-in-Some-left_out-clause-left_out
returns-in-Some-left_out-clause-left_out g c = λ none given is.
    let f = arrival c.args.frame.now c.args.parity.now in
    let was = subst (λ (m : MountedReplica). left_out m.store m.held f ≡ Some c.in-Some-left_out.taken) c.self.view_is (sym (c.in-Some-left_out.ensures f refl)) in
    (one_answer (left_out c.args.self.now.store c.args.self.now.held f) c.in-Some-left_out.taken given was is, refl, refl)

pub returns-in-Ok-clause-left_out : goal.returns-in-Ok-clause-left_out
returns-in-Ok-clause-left_out g c = λ none given is.
    let f = arrival c.args.frame.now c.args.parity.now in
    let e = c.left_out.ensures f refl in
    let fresh : left_out c.self.inside.store c.self.inside.held f ≡ None = cc in
    absurd (not_left (left_out c.args.self.now.store c.args.self.now.held f) given (subst (λ (m : MountedReplica). left_out m.store m.held f ≡ None) c.self.view_is fresh) is)

pub returns-in-Err-clause-left_out : goal.returns-in-Err-clause-left_out
returns-in-Err-clause-left_out g c = λ none given is.
    let f = arrival c.args.frame.now c.args.parity.now in
    let e = c.left_out.ensures f refl in
    let fresh : left_out c.self.inside.store c.self.inside.held f ≡ None = cc in
    absurd (not_left (left_out c.args.self.now.store c.args.self.now.held f) given (subst (λ (m : MountedReplica). left_out m.store m.held f ≡ None) c.self.view_is fresh) is)

pub returns-in-Ok-clause-cause : goal.returns-in-Ok-clause-cause
returns-in-Ok-clause-cause g c = λ none.
    let a = g.B.Bank.view c.args.bank.now in
    let b = g.B.Bank.view c.admit.new.bank in
    record {
      cause = tt;
      stops = search rules;
      most = subst (λ (m : MountedReplica). CalledAtMost (take_calls m.store.cell (length m.held.frames + 1)) a b) c.self.view_is
          (subst (λ (n : ℕ). CalledAtMost (take_calls c.self.inside.store.cell n) a b) (length_hold (arrival c.args.frame.now c.args.parity.now) c.self.inside.held.frames)
          c.admit.ensures.passes.most);
    }

pub returns-in-Err-clause-cause : goal.returns-in-Err-clause-cause
returns-in-Err-clause-cause g c = λ none.
    let a = g.B.Bank.view c.args.bank.now in
    let d = g.B.Bank.view c.admit.new.bank in
    record {
      cause = search rules;
      stops = search rules;
      most = subst (λ (m : MountedReplica). CalledAtMost (take_calls m.store.cell (length m.held.frames + 1)) a d) c.self.view_is
          (subst (λ (n : ℕ). CalledAtMost (take_calls c.self.inside.store.cell n) a d) (length_hold (arrival c.args.frame.now c.args.parity.now) c.self.inside.held.frames)
          c.admit.ensures.passes.most);
    }
