-- Calls of the log as a source, one after the other.
use Rattle.std.proofs.Common.{◌≡◌, ℕ, ◌+◌, IsTrue, ⊎_elim, sym, subst, ◌∙◌, arith}
use Rattle.std.proofs.lemmas.Bool.{cases_eq}
use Rattle.trap_bank.specs.Steps.{OnlyReads}
use Rattle.trap_bank.specs.Disks.{Contents, View}
use Rattle.trap_model.specs.declared.history.State.{State}
use Rattle.trap_bank.proofs.OnlyReads.{reads_none, reads_then, told_after}
use Rattle.trap_array.specs.Calls.{Mounted, StandsFor, running}
use Rattle.trap_array.specs.Instants.{FailsByDisk}
use Rattle.trap_array.specs.Log.{IndexedLog}
use Rattle.trap_array.specs.Sources.{CallCounts, CallsBeside, OnlyLooked, LookFailed, present_of}
use Rattle.trap_array.specs.declared.fault.Denied.{Denied}
use Rattle.trap_array.specs.declared.fault.Denied.TheVariants.{Refused, LogFault, MemberFault}
use Rattle.trap_array.specs.declared.fault.Denied.TheVariants.{Damaged, Stopped}

module _ (log same : IndexedLog) (x y z : CallCounts) (a b c : View) (is : log ≡ same)
    (first : OnlyLooked log x y a b) (then : OnlyLooked same y z b c) where
  second : OnlyLooked log y z b c
  second = subst (λ (l : IndexedLog). OnlyLooked l y z b c) (sym is) then

  -- the numbers of calls add up
  both : (m n sum : ℕ) → sum ≡ m + n → CallsBeside m x y a b → CallsBeside n y z b c
      → CallsBeside sum x z a c
  both m n sum is before after told one =
      let front = before told one in
      let rest = after (told_after a b first.reads told) (subst IsTrue (sym first.by_one) one) in
      omega (arith, front, rest, is)

  still_none : z.presents ≡ x.presents → (z.asked ≡ x.asked) × CallsBeside 0 x z a c
  still_none kept =
      let front = first.none (omega (arith, kept, first.presents, second.presents)) in
      let rest = second.none (omega (arith, kept, first.presents, second.presents)) in
      (rest.0 ∙ front.0, both 0 0 0 (omega arith) front.1 rest.1)

  still_one : z.presents ≡ x.presents + 1
      → CallsBeside (present_of (running log) z.asked) x z a c
  still_one more = ⊎_elim
      (λ kept.
      let front = first.none kept in
      both 0 (present_of (running log) z.asked) (present_of (running log) z.asked) (omega arith)
      front.1 (second.one (omega (arith, more, kept))))
      (λ other.
      let rest = second.none (omega (arith, more, other, first.presents, second.presents)) in
      let front = first.one (omega (arith, more, other, first.presents, second.presents)) in
      subst (λ (n : ℕ). CallsBeside (present_of (running log) n) x z a c) (sym rest.0)
      (both (present_of (running log) y.asked) 0 (present_of (running log) y.asked) (omega arith)
      front rest.1))
      (cases_eq y.presents x.presents)

  pub looks_then : OnlyLooked log x z a c
  looks_then = record {
    reads = reads_then a b c first.reads second.reads;
    presents = omega (arith, first.presents, second.presents);
    by_one = second.by_one ∙ first.by_one;
    none = still_none;
    one = still_one;
  }

-- it stands for the same states
pub still_stands : (log : IndexedLog) (a b : View) (s : State) → OnlyReads a b → IsTrue a.tells
    → StandsFor (running log) s a.now.disks → StandsFor (running log) s b.now.disks
still_stands log a b s reads told stands =
    subst (λ (c : Contents). StandsFor (running log) s c.disks) (sym (reads.same told)) stands

-- a fault between is one of the whole
fails_within : (m : Mounted) (a b c d : View) → OnlyReads a b → OnlyReads c d → (e : Denied)
    → FailsByDisk m b c e → FailsByDisk m a d e
fails_within m a b c d before after (Refused why) fails = fails
fails_within m a b c d before after LogFault fails =
    omega (arith, fails, before.moves.faults 0, after.moves.faults 0)
fails_within m a b c d before after (MemberFault first second) fails = record {
  same = fails.same;
  member = record {
    inside = fails.member.inside;
    apart = fails.member.apart;
    rose = omega (
      arith,
      fails.member.rose,
      before.moves.faults (second + 1),
      after.moves.faults (second + 1),
    );
  };
}
fails_within m a b c d before after (Damaged offset) fails = fails
fails_within m a b c d before after Stopped fails = fails

pub failed_since : (log same : IndexedLog) (x y z : CallCounts) (a b c : View) (e : Denied)
    → log ≡ same → OnlyLooked log x y a b → LookFailed same y z b c e → LookFailed log x z a c e
failed_since log same x y z a b c e is looks then =
    let failed = subst (λ (l : IndexedLog). LookFailed l y z b c e) (sym is) then in
    record {
      fails = fails_within (running log) a b c c looks.reads (reads_none c) e failed.fails;
      asked = λ first second at. (let later = failed.asked first second at in omega (
        arith,
        later,
        looks.presents,
      ));
      damaged =
          λ offset at told s stands. failed.damaged offset at (told_after a b looks.reads told) s
          (still_stands log a b s looks.reads told stands);
    }

pub failed_still : (log same : IndexedLog) (x y z : CallCounts) (a b c : View) (e : Denied)
    → log ≡ same → LookFailed log x y a b e → OnlyLooked same y z b c → LookFailed log x z a c e
failed_still log same x y z a b c e is failed looks = record {
  fails = fails_within (running log) a a b c (reads_none a) looks.reads e failed.fails;
  asked = λ first second at. (let before = failed.asked first second at in omega (
    arith,
    before,
    looks.presents,
  ));
  damaged = failed.damaged;
}
