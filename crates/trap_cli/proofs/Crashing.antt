-- What a crash leaves while a session is mounted, goes on and stops.
use Rattle.std.proofs.Common.{◌≡◌, ◌⊎◌, inl, inr, ⊎_elim, ℕ, ◌+◌, ◌≤◌, List, [], ◌∷◌, ◌++◌, length, drop, IsTrue, refl, sym, ap, subst, ◌∙◌, append_assoc, append-nil, arith}
use Rattle.trap_bank.specs.Disks.{Contents, Disks, View, Quiet}
use Rattle.trap_bank.specs.Calls.{MayLeave}
use Rattle.trap_bank.specs.Steps.{Steps, Moves, Always}
use Rattle.trap_bank.specs.Stream.{Stream}
use Rattle.trap_bank.proofs.Moves.{then_, weaken}
use Rattle.trap_model.specs.ArrayStep.{step}
use Rattle.trap_model.specs.declared.numbers.Geometry.{Geometry}
use Rattle.trap_model.specs.declared.history.State.{State}
use Rattle.trap_model.specs.declared.request.Request.{Request}
use Rattle.trap_script.specs.Lines.{lines, line_feeds}
use Rattle.trap_script.specs.Walk.{state_after, first_texts, AnsweredPart}
use Rattle.trap_script.proofs.WalkLemmas.{state_after-next, state_after-all, first_texts-all}
use Rattle.trap_script.proofs.InputLemmas.{lines_go_on}
use Rattle.trap_script.proofs.GivenLemmas.{below_end}
use Rattle.trap_array.specs.Holding.{Holds}
use Rattle.trap_array.specs.Calls.{Mounted, StandsFor, HoldsLike}
use Rattle.trap_array.specs.Mounting.{SameHead}
use Rattle.trap_mount.specs.declared.fault.MountFault.{MountFault}
use Rattle.trap_session.specs.declared.outcome.SessionFault.TheVariants as serving
use Rattle.trap_session.specs.Serving.{Serves, bytes_taken}
use Rattle.trap_cli.specs.declared.outcome.Ended.{Ended}
use Rattle.trap_cli.specs.declared.outcome.Ended.TheVariants.{Done, NotMounted, Stopped, Memory}
use Rattle.trap_cli.specs.Command.{command_session}
use Rattle.trap_cli.specs.Ended.{last_line}
use Rattle.trap_cli.specs.Said.{SessionSaid, BeginsHeld, ServedSaid}
use Rattle.trap_cli.specs.Left.{IsFaultFront, HoldsSince, LeftSaid}
use Rattle.trap_cli.specs.Crash.{HoldsAfter, AfterGiven, replies_given, SessionLeaves, LeavesNow, LeavesWithFront}
use Rattle.trap_cli.proofs.Lines.{array_answers, given_fault}
use Rattle.trap_session.proofs.Arrays.{torn_of}
use Rattle.trap_cli.proofs.Stopping.{LostOn, since_store, since_like, stops_since}
use Rattle.trap_cli.proofs.Heads.{same_head_holds, Mounting}

pub no_front : IsFaultFront []
no_front = (Done, [], refl)

drop_all : (all : List Request) → drop (length all) all ≡ []
drop_all [] = refl
drop_all (x ∷ all) = drop_all all

module _ (g : Geometry) (s : State) (input : List ℕ) (old : View) (from : Stream) (begins : BeginsHeld g s input old from) where
  -- before the first line, only a fault line is said
  pub none_given : (p : List ℕ) → IsFaultFront p → replies_given g s input p ≡ 0
  none_given p front = given_fault (step g) (array_answers g) s (lines g.block input) 0 p (lines_go_on g.block input) (omega arith) front

  -- while the array is mounted
  pub mount_leaves : (p : List ℕ) → IsFaultFront p → (x y : Contents) → MayLeave old x → Mounting old x.disks y.disks → SessionLeaves g s input old p y.disks
  mount_leaves p front x y was (inl same) = inl (front, record { entry = x.disks; left = was.torn.disks; same = inl same })
  mount_leaves p front x y was (inr (inl head)) = inl (front, record { entry = x.disks; left = was.torn.disks; same = inr head })
  mount_leaves p front x y was (inr (inr still)) =
      inr (inl (subst (λ (j : ℕ). HoldsAfter g s old input j y.disks) (sym (none_given p front)) (still g s begins.holds)))

  -- where every crash on entry leaves the state
  pub crash_holds : Always old (λ disks. Holds g s disks) → (p : List ℕ) (disks : Disks) → SessionLeaves g s input old p disks
      → AfterGiven g s input p (λ t. Holds g t disks)
  crash_holds always p disks (inl (front, beside)) =
      let entry = always (record { disks = beside.entry; said = old.now.said })
      (record { told = begins.tells; torn = record { disks = beside.left; said = refl } }) in (
        0,
        inl (sym (none_given p front)),
        ⊎_elim (λ (same : disks ≡ beside.entry). subst (λ (disks : Disks). Holds g s disks) (sym same) entry)
            (λ (same : SameHead beside.entry disks). same_head_holds g s beside.entry disks same entry) beside.same,
      )
  crash_holds always p disks (inr (inl now)) = (_, inl refl, record { head = now.head; by = now.by })
  crash_holds always p disks (inr (inr next)) = (_, inr refl, record { head = next.head; by = next.by })

  -- and then a line is said
  pub said_after : (before : List ℕ) (z : Contents) (p0 front : List ℕ) → z.said ≡ before ++ p0 → SessionLeaves g s input old (p0 ++ front) z.disks
      → LeftSaid (SessionLeaves g s input old) before (record { disks = z.disks; said = z.said ++ front })
  said_after before z p0 front said leaves = record {
    part = p0 ++ front;
    said = ap (λ (l : List ℕ). l ++ front) said ∙ append_assoc before p0 front;
    leaves = leaves;
  }

  answered_leaves : (x y z : Contents) (j : ℕ) (front : List ℕ) → IsFaultFront front → y.said ≡ x.said → j ≤ length (lines g.block input)
      → z.said ≡ y.said ++ first_texts (step g) s (lines g.block input) j
      → HoldsAfter g s old input j z.disks ⊎ HoldsAfter g s old input (j + 1) z.disks
      → LeftSaid (SessionLeaves g s input old) x.said (record { disks = z.disks; said = z.said ++ front })
  answered_leaves x y z j front fault quiet within said holds =
      let given = given_fault (step g) (array_answers g) s (lines g.block input) j front (lines_go_on g.block input) within fault in
      said_after x.said z (first_texts (step g) s (lines g.block input) j) front
      (said ∙ ap (λ (l : List ℕ). l ++ first_texts (step g) s (lines g.block input) j) quiet)
      (inr (subst (λ (k : ℕ). HoldsAfter g s old input k z.disks ⊎ HoldsAfter g s old input (k + 1) z.disks) (sym given) holds))

  -- when the session has stopped
  stopped_leaves : (ended : Ended) (to : Stream) (x y z : Contents) → y.said ≡ x.said
      → SessionSaid (since_store g old) ended s input y z from to → (front rest : List ℕ) → front ++ rest ≡ last_line ended
      → LeftSaid (SessionLeaves g s input old) x.said (record { disks = z.disks; said = z.said ++ front })
  stopped_leaves Done to x y z quiet stops front rest is =
      let all = lines g.block input in
      answered_leaves x y z (length all) front (Done, rest, is) quiet (omega arith)
      (stops.said ∙ ap (λ (l : List ℕ). y.said ++ l) (sym (first_texts-all (step g) s all (length all) (drop_all all))))
      (inl (subst (λ (t : State). HoldsSince g old z.disks t) (sym (state_after-all (step g) s all (length all) (drop_all all))) stops.holds))
  stopped_leaves (NotMounted why) to x y z quiet stops front rest is =
      answered_leaves x y z 0 front (NotMounted why, rest, is) quiet stops.1.within stops.1.said (inl stops.1.holds)
  stopped_leaves (Stopped (serving.Array why)) to x y z quiet stops front rest is =
      let stops = torn_of (since_store g old) why s input y z from to stops in
      answered_leaves x y z stops.j front (Stopped (serving.Array why), rest, is) quiet
      (let below = below_end (lines g.block input) stops.j stops.asked stops.rest stops.next in omega (arith, below)) stops.said
      (⊎_elim (λ (holds : HoldsSince g old z.disks (state_after (step g) s (lines g.block input) stops.j)). inl holds)
      (λ (holds : HoldsSince g old z.disks ((step g).next (state_after (step g) s (lines g.block input) stops.j) stops.asked)).
      inr (subst (λ (t : State). HoldsSince g old z.disks t) (sym (state_after-next (step g) s (lines g.block input) stops.j stops.asked stops.rest stops.next)) holds))
      stops.torn)
  stopped_leaves (Stopped serving.ReadFault) to x y z quiet stops front rest is =
      answered_leaves x y z (line_feeds (bytes_taken input from to)) front (Stopped serving.ReadFault, rest, is) quiet stops.within stops.said (inl stops.holds)
  stopped_leaves (Stopped serving.WriteFault) to x y z quiet stops [] rest is =
      said_after x.said z stops.part [] (stops.said ∙ ap (λ (l : List ℕ). l ++ stops.part) quiet)
      (subst (λ (p : List ℕ). SessionLeaves g s input old p z.disks) (sym (append-nil stops.part)) (inr stops.holds))
  stopped_leaves (Stopped serving.WriteFault) to x y z quiet stops (byte ∷ front) rest is = absurd (cc is)
  stopped_leaves (Stopped serving.TooLong) to x y z quiet stops front rest is =
      answered_leaves x y z (line_feeds (bytes_taken input from to)) front (Stopped serving.TooLong, rest, is) quiet stops.within stops.said (inl stops.holds)
  stopped_leaves Memory to x y z quiet stops front rest is =
      answered_leaves x y z 0 front (Memory, rest, is) quiet stops.within stops.said (inl stops.holds)
  stopped_leaves ended to x y z quiet stops front rest is = absurd stops

  -- while it goes on
  serving_leaves : (x y z : Contents) → y.said ≡ x.said → AnsweredPart (step g) (λ (t : State). HoldsSince g old z.disks t) s (lines g.block input) y.said z.said
      → LeftSaid (SessionLeaves g s input old) x.said z
  serving_leaves x y z quiet part = record {
    part = part.part;
    said = part.said ∙ ap (λ (l : List ℕ). l ++ part.part) quiet;
    leaves = inr part.holds;
  }

-- An array that can't be mounted is left so.
pub unmounted_steps : (a b : View) (from : Stream) (why : MountFault) → Moves a b (Mounting a) (Mounting a)
    → Steps a b (LeavesNow command_session a from) (LeavesWithFront (last_line (NotMounted why)) command_session a from)
unmounted_steps a b from why moves = weaken a b (Quiet (Mounting a)) (Quiet (Mounting a)) (LeavesNow command_session a from)
    (LeavesWithFront (last_line (NotMounted why)) command_session a from) moves
    (λ x y was step g s input begins. record {
      part = [];
      said = step.said ∙ sym (append-nil x.said);
      leaves = mount_leaves g s input a from begins [] no_front x y was step.disks;
    })
    (λ x y was left step front rest is g s input begins. said_after g s input a from begins x.said y [] front (step.said ∙ sym (append-nil x.said))
    (mount_leaves g s input a from begins front (NotMounted why, rest, is) x y was step.disks))

-- A session goes on over the mounted array, and stops.
pub session_steps : (a b c : View) (from to : Stream) (ended : Ended) (array : Mounted)
    → ((g : Geometry) (s : State) → IsTrue a.tells → Holds g s a.now.disks → (array.g ≡ g) × Always b (StandsFor array s))
    → ((g : Geometry) (s : State) → IsTrue a.tells → Holds g s a.now.disks → LostOn g a array.head)
    → Moves a b (Mounting a) (Mounting a)
    → Steps b c (Serves array b from) (ServedSaid array b ended from to)
    → Steps a c (LeavesNow command_session a from) (LeavesWithFront (last_line ended) command_session a from)
session_steps a b c from to ended array stands lost mounted served = then_ a b c (Quiet (Mounting a)) (Quiet (Mounting a))
    (Serves array b from) (ServedSaid array b ended from to) (LeavesNow command_session a from) (LeavesWithFront (last_line ended) command_session a from) mounted served
    (λ x y was step g s input begins. record {
      part = [];
      said = step.said ∙ sym (append-nil x.said);
      leaves = mount_leaves g s input a from begins [] no_front x y was step.disks;
    })
    (λ x y z was step mid part g s input begins.
    let known = stands g s begins.tells begins.holds in
    serving_leaves g s input a from begins x y z step.said (part_held g s input array y z known.0 (lost g s begins.tells begins.holds) (part s known.1 input begins.left)))
    (λ x y z was step mid stopped front rest is g s input begins.
    let known = stands g s begins.tells begins.holds in
    stopped_leaves g s input a from begins ended to x y z step.said
    (stops_since array g a ended s input y y z from to known.0 (lost g s begins.tells begins.holds) refl (stopped s known.1 input begins.left)) front rest is)
  where
    part_held : (g : Geometry) (s : State) (input : List ℕ) (array : Mounted) (y z : Contents) → array.g ≡ g → LostOn g a array.head
        → AnsweredPart (step array.g) (λ (t : State). HoldsLike array.g array.head t z.disks) s (lines array.g.block input) y.said z.said
        → AnsweredPart (step g) (λ (t : State). HoldsSince g a z.disks t) s (lines g.block input) y.said z.said
    part_held g s input array y z is lost part =
        let part = subst (λ (g : Geometry). AnsweredPart (step g) (λ (t : State). HoldsLike g array.head t z.disks) s (lines g.block input) y.said z.said) is part in
        record {
          part = part.part;
          rest = part.rest;
          said = part.said;
          front = part.front;
          holds = ⊎_elim (λ holds. inl (since_like g a array.head z.disks _ lost holds)) (λ holds. inr (since_like g a array.head z.disks _ lost holds)) part.holds;
        }
