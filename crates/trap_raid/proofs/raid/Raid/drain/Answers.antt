use Rattle.std.proofs.Common.{◌≡◌, ℕ, ◌+◌, List, [], ◌∷◌, IsTrue, Err, IfErr, refl, sym, ap, subst, ◌∙◌, arith, rules}
use Rattle.trap_bank.specs.Disks.{Differs, Torn}
use Rattle.trap_bank.specs.Steps.{Moves}
use Rattle.trap_bank.proofs.Moves.{torn_same}
use Rattle.trap_stage.specs.Staged.{Staged}
use Rattle.trap_stage.specs.Found.{staged_numbered}
use Rattle.trap_raid.specs.Condition.{Condition}
use Rattle.trap_raid.specs.Members.{DrainFits}
use Rattle.trap_raid.specs.Draining.{writes_to, Drains, InDrained, IsDrainedTo, write_calls, drain_calls}
use Rattle.trap_bank.specs.Called.{CalledTimes, TakesCalls}
use Rattle.trap_bank.proofs.Called.{not_called}
use Rattle.trap_raid.proofs.FitLemmas.{drain_fits_along}
use Rattle.trap_raid.proofs.DrainSteps.{drain_start, drain_more, drain_torn, drain_given, drain_fails, fits_next, writes_to-none, writes_to-end}
use Rattle.trap_raid.proofs.DrainCosts.{drain_costs, drain_cost_failed}
use Rattle.trap_raid.proofs.CostLemmas.{takes_always}
use Rattle.trap_raid.proofs.raid.Raid.drain.Goals as goal

pub write_slot-requires-clause-disks : goal.write_slot-requires-clause-disks
write_slot-requires-clause-disks g c =
    let old = g.B.Bank.view c.args.bank.now in
    let mid = g.B.Bank.view c.loop-number.bank in
    let here = c.args.self.now in
    let staged : Staged = record { block = c.slot-block.result.0; bytes = c.slot-block.result.1.now; parity = c.slot-block.result.2.now } in
    let P : Condition → Type 0 = λ k. DrainFits k.g k.lost k.rebuilt (staged ∷ []) mid in
    let Q : Staged → Type 0 = λ one. DrainFits here.g here.lost here.rebuilt (one ∷ []) mid in
    subst P (sym c.self.view_is) (subst Q (sym c.slot-block.ensures.is)
    (drain_fits_along here.g here.lost here.rebuilt (staged_numbered c.args.stage.now (c.loop-number.number + 1) ∷ []) old mid c.loop-number.invariant.sizes
    (fits_next here.g here.lost here.rebuilt c.args.stage.now c.loop-number.number c.args.upto (omega (arith, c.loop-number.auto.number, c.drained-number.ensures))
    (omega arith) (omega arith) old c.requires.disks)))

pub loop-number-init : goal.loop-number-init
loop-number-init g c = record {
  moves = subst (λ (n : ℕ). Moves (g.B.Bank.view c.args.bank.now) (g.B.Bank.view c.args.bank.now)
      (Differs (InDrained c.args.self.now.g c.args.self.now.lost c.args.self.now.rebuilt (writes_to c.args.stage.now c.args.upto)))
      (Drains c.args.self.now.g c.args.self.now.lost c.args.self.now.rebuilt (writes_to c.args.stage.now n)))
      (sym c.drained-number.ensures) (drain_start c.args.self.now.g c.args.self.now.lost c.args.self.now.rebuilt c.args.stage.now c.args.upto (g.B.Bank.view c.args.bank.now));
  contents = torn_same (InDrained c.args.self.now.g c.args.self.now.lost c.args.self.now.rebuilt (writes_to c.args.stage.now c.args.upto)) (g.B.Bank.view c.args.bank.now)
      (g.B.Bank.view c.args.bank.now) (λ told. refl);
  calls = subst (λ (writes : List Staged). CalledTimes (drain_calls c.args.self.now.g c.args.self.now.lost c.args.self.now.rebuilt writes) (g.B.Bank.view c.args.bank.now)
      (g.B.Bank.view c.args.bank.now))
      (sym (ap (λ (n : ℕ). writes_to c.args.stage.now n) c.drained-number.ensures ∙ writes_to-none c.args.stage.now)) (not_called (g.B.Bank.view c.args.bank.now));
  within = omega (arith, c.drained-number.ensures);
  sizes = λ e. refl;
}

-- the next pending write is on the members
pub loop-number-preserved : goal.loop-number-preserved
loop-number-preserved g c =
    let mid = g.B.Bank.view c.loop-number.bank in
    let new = g.B.Bank.view c.write_slot.new.bank in
    let here = c.args.self.now in
    let staged : Staged = record { block = c.slot-block.result.0; bytes = c.slot-block.result.1.now; parity = c.slot-block.result.2.now } in
    let P : Condition → Type 0 = λ k. Moves mid new (Differs (InDrained k.g k.lost k.rebuilt (staged ∷ []))) (Drains k.g k.lost k.rebuilt (staged ∷ [])) in
    let Q : Staged → Type 0 = λ one. Moves mid new (Differs (InDrained here.g here.lost here.rebuilt (one ∷ []))) (Drains here.g here.lost here.rebuilt (one ∷ [])) in
    let S : Condition → Type 0 = λ k. IsTrue mid.tells → Torn (InDrained k.g k.lost k.rebuilt (staged ∷ [])) mid.now new.now in
    let R : Staged → Type 0 = λ one. IsTrue mid.tells → Torn (InDrained here.g here.lost here.rebuilt (one ∷ [])) mid.now new.now in
    let T : Condition → Type 0 = λ k. CalledTimes (write_calls k.g k.lost k.rebuilt staged) mid new in
    let U : Staged → Type 0 = λ one. CalledTimes (write_calls here.g here.lost here.rebuilt one) mid new in
    record {
      moves = drain_more here.g here.lost here.rebuilt c.args.stage.now c.loop-number.number c.args.upto
          (omega (arith, c.loop-number.auto.number, c.drained-number.ensures)) (omega arith) (omega arith)
          (g.B.Bank.view c.args.bank.now) mid new c.loop-number.invariant.moves
          (subst Q c.slot-block.ensures.is (subst P c.self.view_is c.in_ok-write_slot.ensures.ok));
      contents = drain_given here.g here.lost here.rebuilt c.args.stage.now c.loop-number.number c.args.upto
          (omega (arith, c.loop-number.auto.number, c.drained-number.ensures)) (omega arith) (omega arith)
          (g.B.Bank.view c.args.bank.now) mid new c.loop-number.invariant.moves.tells c.loop-number.invariant.contents
          (subst R c.slot-block.ensures.is (subst S c.self.view_is c.write_slot.ensures.contents));
      calls = drain_costs here.g here.lost here.rebuilt c.args.stage.now c.loop-number.number c.args.upto
          (omega (arith, c.loop-number.auto.number, c.drained-number.ensures)) (omega arith) (omega arith)
          (g.B.Bank.view c.args.bank.now) mid new c.loop-number.invariant.calls
          (subst U c.slot-block.ensures.is (subst T c.self.view_is c.in_ok-write_slot.ensures.calls.ok));
      within = omega (arith, c.min-number-end.ensures, c.last.ensures.is, c.drained-number.ensures);
      sizes = λ e. c.write_slot.ensures.sizes e ∙ c.loop-number.invariant.sizes e;
    }

-- stopped within one write, after those before it
pub returns-in_err-write_slot-clause-any_moment : goal.returns-in_err-write_slot-clause-any_moment
returns-in_err-write_slot-clause-any_moment g c =
    let mid = g.B.Bank.view c.loop-number.bank in
    let new = g.B.Bank.view c.write_slot.new.bank in
    let here = c.args.self.now in
    let staged : Staged = record { block = c.slot-block.result.0; bytes = c.slot-block.result.1.now; parity = c.slot-block.result.2.now } in
    let P : Condition → Type 0 = λ k. Moves mid new (Differs (InDrained k.g k.lost k.rebuilt (staged ∷ []))) (Differs (InDrained k.g k.lost k.rebuilt (staged ∷ []))) in
    let Q : Staged → Type 0 = λ one. Moves mid new (Differs (InDrained here.g here.lost here.rebuilt (one ∷ []))) (Differs (InDrained here.g here.lost here.rebuilt (one ∷ []))) in
    drain_torn here.g here.lost here.rebuilt c.args.stage.now c.loop-number.number c.args.upto (omega (arith, c.loop-number.auto.number, c.drained-number.ensures)) (omega arith) (omega arith)
    (g.B.Bank.view c.args.bank.now) mid new c.loop-number.invariant.moves
    (subst Q c.slot-block.ensures.is (subst P c.self.view_is c.write_slot.ensures.any_moment))

-- what a read gives then
pub returns-in_err-write_slot-clause-contents : goal.returns-in_err-write_slot-clause-contents
returns-in_err-write_slot-clause-contents g c =
    let mid = g.B.Bank.view c.loop-number.bank in
    let new = g.B.Bank.view c.write_slot.new.bank in
    let here = c.args.self.now in
    let staged : Staged = record { block = c.slot-block.result.0; bytes = c.slot-block.result.1.now; parity = c.slot-block.result.2.now } in
    let S : Condition → Type 0 = λ k. IsTrue mid.tells → Torn (InDrained k.g k.lost k.rebuilt (staged ∷ [])) mid.now new.now in
    let R : Staged → Type 0 = λ one. IsTrue mid.tells → Torn (InDrained here.g here.lost here.rebuilt (one ∷ [])) mid.now new.now in
    drain_given here.g here.lost here.rebuilt c.args.stage.now c.loop-number.number c.args.upto (omega (arith, c.loop-number.auto.number, c.drained-number.ensures)) (omega arith) (omega arith)
    (g.B.Bank.view c.args.bank.now) mid new c.loop-number.invariant.moves.tells c.loop-number.invariant.contents
    (subst R c.slot-block.ensures.is (subst S c.self.view_is c.write_slot.ensures.contents))

-- the member is one that the write goes to
pub returns-in_err-write_slot-clause-place : goal.returns-in_err-write_slot-clause-place
returns-in_err-write_slot-clause-place g c =
    let here = c.args.self.now in
    let staged : Staged = record { block = c.slot-block.result.0; bytes = c.slot-block.result.1.now; parity = c.slot-block.result.2.now } in
    let failed = c.in_err-write_slot.field-0.0 in
    let P : Condition → Type 0 = λ k. IsDrainedTo k.g k.lost k.rebuilt (staged ∷ []) failed.member in
    let Q : Staged → Type 0 = λ one. IsDrainedTo here.g here.lost here.rebuilt (one ∷ []) failed.member in
    let is : Err c.in_err-write_slot.field-0.0 ≡ c.from_residual.result = search rules in
    subst (λ r. IfErr r (λ why. IsDrainedTo here.g here.lost here.rebuilt (writes_to c.args.stage.now c.args.upto) why.member)) is
    (drain_fails here.g here.lost here.rebuilt c.args.stage.now c.loop-number.number c.args.upto (omega (arith, c.loop-number.auto.number, c.drained-number.ensures)) (omega arith) (omega arith)
    failed.member (subst Q c.slot-block.ensures.is (subst P c.self.view_is c.in_err-write_slot.ensures.place)))

pub returns-in_err-write_slot-clause-calls : goal.returns-in_err-write_slot-clause-calls
returns-in_err-write_slot-clause-calls g c =
    let mid = g.B.Bank.view c.loop-number.bank in
    let new = g.B.Bank.view c.write_slot.new.bank in
    let here = c.args.self.now in
    let staged : Staged = record { block = c.slot-block.result.0; bytes = c.slot-block.result.1.now; parity = c.slot-block.result.2.now } in
    let P : Condition → Type 0 = λ k. TakesCalls (write_calls k.g k.lost k.rebuilt staged) c.write_slot.result mid new in
    let Q : Staged → Type 0 = λ one. TakesCalls (write_calls here.g here.lost here.rebuilt one) c.write_slot.result mid new in
    let is : Err c.in_err-write_slot.field-0.0 ≡ c.from_residual.result = search rules in
    drain_cost_failed here.g here.lost here.rebuilt c.args.stage.now c.loop-number.number c.args.upto (omega (arith, c.loop-number.auto.number, c.drained-number.ensures)) (omega arith) (omega arith)
    c.write_slot.result c.from_residual.result c.in_err-write_slot.field-0.0 (g.B.Bank.view c.args.bank.now) mid new is c.loop-number.invariant.calls
    (subst Q c.slot-block.ensures.is (subst P c.self.view_is c.write_slot.ensures.calls))

-- all of them are done
pub returns-clause-ok : goal.returns-clause-ok
returns-clause-ok g c =
    let here = c.args.self.now in
    subst (λ (writes : List Staged). Moves (g.B.Bank.view c.args.bank.now) (g.B.Bank.view c.loop-number.bank)
    (Differs (InDrained here.g here.lost here.rebuilt (writes_to c.args.stage.now c.args.upto))) (Drains here.g here.lost here.rebuilt writes))
    (writes_to-end c.args.stage.now c.loop-number.number c.args.upto (omega (arith, c.loop-number.auto.number, c.drained-number.ensures))
    (omega (arith, c.loop-number-test.false, c.min-number-end.ensures, c.last.ensures.is)) c.loop-number.invariant.within)
    c.loop-number.invariant.moves

-- it was called for each write
pub returns-clause-calls : goal.returns-clause-calls
returns-clause-calls g c =
    let here = c.args.self.now in
    let calls = drain_calls here.g here.lost here.rebuilt (writes_to c.args.stage.now c.args.upto) in
    takes_always calls _ (g.B.Bank.view c.args.bank.now) (g.B.Bank.view c.loop-number.bank)
    (subst (λ (writes : List Staged). CalledTimes (drain_calls here.g here.lost here.rebuilt writes) (g.B.Bank.view c.args.bank.now) (g.B.Bank.view c.loop-number.bank))
    (writes_to-end c.args.stage.now c.loop-number.number c.args.upto (omega (arith, c.loop-number.auto.number, c.drained-number.ensures))
    (omega (arith, c.loop-number-test.false, c.min-number-end.ensures, c.last.ensures.is)) c.loop-number.invariant.within)
    c.loop-number.invariant.calls)
