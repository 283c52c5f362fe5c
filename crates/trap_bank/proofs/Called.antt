-- How numbers of calls add up.
use Rattle.std.proofs.Common.{◌≡◌, ℕ, ◌+◌, ◌≤◌, IsTrue, Result, Ok, refl, sym, ap, subst, ◌∙◌, arith}
use Rattle.trap_bank.specs.Disks.{View}
use Rattle.trap_bank.specs.Calls.{IsOneCall}
use Rattle.trap_bank.specs.Called.{moment_after, CalledTimes, CalledAtMost, TakesCalls}

-- calls, and then more calls
moment_then : (a b moment : ℕ) → moment_after b (moment_after a moment) ≡ moment_after (a + b) moment
moment_then a b moment = omega arith

moment_more : (a b moment : ℕ) → a ≤ b → moment_after a moment ≤ moment_after b moment
moment_more a b moment more = omega arith

moment_along : (b x y : ℕ) → x ≤ y → moment_after b x ≤ moment_after b y
moment_along b x y more = omega arith

-- one call, whatever its answer
pub called_once : {T E : Type 0} (result : Result T E) (old new : View) → IsOneCall result old new → CalledTimes 1 old new
called_once result old new goes = record { tells = goes.tells; by_one = goes.same_by_one; moment = λ told by_one. goes.by_one told by_one }

-- no call
pub not_called : (v : View) → CalledTimes 0 v v
not_called v = record { tells = refl; by_one = refl; moment = λ told by_one. omega arith }

-- calls, and then more calls
pub called_then : (a b : ℕ) (x y z : View) → CalledTimes a x y → CalledTimes b y z → CalledTimes (a + b) x z
called_then a b x y z first second = record {
  tells = second.tells ∙ first.tells;
  by_one = second.by_one ∙ first.by_one;
  moment = λ told by_one.
      second.moment (subst IsTrue (sym first.tells) told) (subst IsTrue (sym first.by_one) by_one)
      ∙ ap (λ (m : ℕ). moment_after b m) (first.moment told by_one) ∙ moment_then a b x.moment;
}

-- exactly so many calls are at most more of them
pub called_at_most : (a b : ℕ) (x y : View) → a ≤ b → CalledTimes a x y → CalledAtMost b x y
called_at_most a b x y more called = record {
  tells = called.tells;
  by_one = called.by_one;
  moment = λ told by_one. omega (arith, called.moment told by_one, moment_more a b x.moment more);
}

-- the same of two runs, one after the other
pub at_most_then : (a b c : ℕ) (x y z : View) → a + b ≤ c → CalledAtMost a x y → CalledAtMost b y z → CalledAtMost c x z
at_most_then a b c x y z whole first second = record {
  tells = second.tells ∙ first.tells;
  by_one = second.by_one ∙ first.by_one;
  moment = λ told by_one.
      let later = second.moment (subst IsTrue (sym first.tells) told) (subst IsTrue (sym first.by_one) by_one) in
      let front = moment_along b y.moment (moment_after a x.moment) (first.moment told by_one) in
      let both = moment_then a b x.moment in
      let more = moment_more (a + b) c x.moment whole in
      omega (arith, later, front, both, more);
}

-- at most so many calls are at most more of them
pub at_most_more : (a b : ℕ) (x y : View) → a ≤ b → CalledAtMost a x y → CalledAtMost b x y
at_most_more a b x y more called = record {
  tells = called.tells;
  by_one = called.by_one;
  moment = λ told by_one. omega (arith, called.moment told by_one, moment_more a b x.moment more);
}

-- a run that did all its calls
pub took_calls : {T E : Type 0} (value : T) (n : ℕ) (x y : View) → CalledTimes n x y → TakesCalls {E = E} n (Ok value) x y
took_calls value n x y called = record { ok = called; most = called_at_most n n x y (omega arith) called }
