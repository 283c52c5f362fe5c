-- The line in which a session found a record damaged.
use Rattle.std.proofs.Common.{◌≡◌, ℕ, List, [], ◌∷◌, Result, Err, IsTrue, refl, sym, ap, subst, arith}
use Rattle.std.specs.Prelude.{Contains}
use Rattle.std.proofs.lemmas.List.Elements.{Contains-append_left, Contains-append_right}
use Rattle.trap_bank.specs.Disks.{View}
use Rattle.trap_bank.specs.Stream.{Stream}
use Rattle.trap_model.specs.declared.request.Request.{Request}
use Rattle.trap_array.specs.Calls.{Mounted}
use Rattle.trap_array.specs.declared.fault.Denied.TheVariants as denied
use Rattle.trap_session.specs.Exchange.{Exchange, IsSessionOver, AreLinesOf}
use Rattle.trap_session.specs.Exchange.Exchange.{answers, quits, fails, input_ends, source_fails, too_long}
use Rattle.trap_session.specs.Leaving.{HasRecordsMore}
use Rattle.trap_session.specs.Store.{IsDamagedFor}
use Rattle.trap_session.specs.declared.outcome.Ended.{Ended as Answered}
use Rattle.trap_session.specs.declared.outcome.SessionFault.{SessionFault}
use Rattle.trap_session.specs.declared.outcome.SessionFault.TheVariants as serving
use Rattle.trap_cli.specs.declared.outcome.Ended.TheVariants.{Stopped}
use Rattle.trap_cli.specs.Said.{FindsBad}
use Rattle.trap_cli.specs.Stopping.{IsLineOf}

same_fault : {x y : SessionFault} → ◌≡◌ {A = Result Answered SessionFault} (Err x) (Err y) → x ≡ y
same_fault is = cc is

-- one of these lines names the record, by what the array knows at the end
record FoundIn (asked : List Request) (b : Mounted) (offset : ℕ) (new : View) : Type 0 where
  line : Request
  among : Contains asked line
  bad : IsTrue new.tells → IsDamagedFor b.g b.index line new.now.disks offset

found_in : {B : Type 0} {view : B → View} {a b : Mounted} {first last : B} {asked : List Request} {result : Result Answered SessionFault}
    → Exchange view a first asked result b last → (offset : ℕ) → result ≡ Err (serving.Array (denied.Damaged offset)) → FoundIn asked b offset (view last)
found_in (answers a b c first mid last line rest result goes more) offset is =
    let found = found_in more offset is in
    record { line = found.line; among = Contains-append_right (line ∷ []) rest found.line found.among; bad = found.bad }
found_in (quits a b first last goes) offset is = absurd (cc is)
found_in {view = view} (fails a b first last line fault goes) offset is = record {
  line = line;
  among = (0, omega arith, refl);
  bad = goes.damaged offset (ap Err (same_fault is));
}
found_in (input_ends a bank) offset is = absurd (cc is)
found_in (source_fails a bank) offset is = absurd (cc is)
found_in (too_long a bank) offset is = absurd (cc is)

-- the lines that were asked for are the input's
line_of : {result : Result Answered SessionFault} (size : ℕ) (from : Stream) (asked : List Request) (fault : SessionFault) (line : Request) → result ≡ Err fault
    → AreLinesOf size from result asked → Contains asked line → IsLineOf size from line
line_of size from asked fault line is of among input left =
    let known = subst (λ (result : Result Answered SessionFault). AreLinesOf size from result asked) is of input left in
    subst (λ (all : List Request). Contains all line) (sym known.1) (Contains-append_left asked known.0 line among)

-- so the run names one of them
pub finds_bad : {B : Type 0} (view : B → View) (a b : Mounted) (result : Result Answered SessionFault) (first last : B) (from to : Stream)
    → b.g ≡ a.g → HasRecordsMore a.index b.index → IsSessionOver view a b result first last from to → (why : SessionFault) → result ≡ Err why
    → (offset : ℕ) → Stopped why ≡ Stopped (serving.Array (denied.Damaged offset)) → FindsBad a offset (view last) from
finds_bad view a b result first last from to same more over why was offset is =
    let damaged : why ≡ serving.Array (denied.Damaged offset) = cc is in
    let so : result ≡ Err (serving.Array (denied.Damaged offset)) = subst (λ (why : SessionFault). result ≡ Err why) damaged was in
    let found = found_in over.exchange offset so in
    record {
      b = b;
      same = same;
      more = more;
      asked = found.line;
      line = line_of a.g.block from over.asked (serving.Array (denied.Damaged offset)) found.line so over.lines found.among;
      bad = found.bad;
    }
