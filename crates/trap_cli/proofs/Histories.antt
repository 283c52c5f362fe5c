-- All but the last line of `history`.
use Rattle.std.proofs.Common.{◌≡◌, inl, inr, ⊎_elim, ℕ, ◌≤◌, List, [], ◌++◌, Result, Ok, Err, false, IsTrue, refl, sym, ap, subst, ◌∙◌, append-nil, arith}
use Rattle.trap_bank.specs.Disks.{Contents, Disks, View, Quiet}
use Rattle.trap_bank.specs.Faults.{Rose}
use Rattle.trap_bank.specs.Calls.{MayLeave}
use Rattle.trap_bank.specs.Steps.{Steps, Moves, Same, OnlyReads, Always}
use Rattle.trap_bank.specs.Stream.{Stream}
use Rattle.trap_bank.proofs.Moves.{then_, weaken, read_is_left}
use Rattle.trap_format.specs.declared.head.Head.{Head}
use Rattle.trap_model.specs.declared.numbers.Geometry.{Geometry}
use Rattle.trap_model.specs.declared.history.State.{State}
use Rattle.trap_array.specs.Holding.{Holds, HoldsBy}
use Rattle.trap_array.specs.Calls.{Mounted, StandsFor}
use Rattle.trap_array.specs.MountEnds.{MountCause}
use Rattle.trap_array.specs.Mounting.{Mounts, SameHead, FoundLost, MayPutHead, WritesHead, HasFound, IsNoLog, is_refusal}
use Rattle.trap_mount.specs.declared.fault.MountFault.{MountFault}
use Rattle.trap_mount.specs.declared.fault.MountFault.TheVariants.{NotAnArray, LogFault}
use Rattle.trap_cli.specs.declared.outcome.Ended.{Ended}
use Rattle.trap_cli.specs.declared.outcome.Ended.TheVariants.{Done, NotMounted, Port}
use Rattle.trap_cli.specs.Command.{command_history}
use Rattle.trap_cli.specs.Ended.{last_line}
use Rattle.trap_cli.specs.History.{history_text}
use Rattle.trap_port.specs.Outgoing.{KeepsDisks}
use Rattle.trap_cli.specs.Listing.{Lists, HasListed, index_text}
use Rattle.trap_cli.specs.Mounting.{IsMountable}
use Rattle.trap_cli.specs.Left.{IsFaultFront, LeftSaid}
use Rattle.trap_cli.specs.Crash.{HistoryLeaves, LeavesNow, LeavesWithFront}
use Rattle.trap_cli.specs.Run.{CommandOutcome}
use Rattle.trap_cli.specs.Frame.{ByDisks, Frames, StaysHeld}
use Rattle.trap_cli.specs.Session.{MountsArray, MountsOnly, SaysFound, CallsFound}
use Rattle.trap_cli.proofs.Saying.{no_part, took_none}
use Rattle.trap_bank.proofs.Rising.{rose_since}
use Rattle.trap_cli.proofs.Framing.{changes_kept, changes_reads, no_log_fault, put_later, mount_changes}
use Rattle.trap_cli.proofs.Heads.{same_head_holds, mounted_holds, held_mounted, found_out, Mounting, mounting_moves}
use Rattle.trap_cli.proofs.Listings.{part_told, whole_told}
use Rattle.trap_cli.proofs.Stopping.{LostOn}
use Rattle.trap_cli.proofs.Crashing.{no_front}

module _ (g : Geometry) (s : State) (old : View) where
  -- while the array is mounted
  pub mount_lists : Holds g s old.now.disks → (p : List ℕ) → IsFaultFront p → (x y : Contents) → MayLeave old x → Mounting old x.disks y.disks → HistoryLeaves g s old p y.disks
  mount_lists holds p front x y was (inl same) = inl (front, record { entry = x.disks; left = was.torn.disks; same = inl same })
  mount_lists holds p front x y was (inr (inl head)) = inl (front, record { entry = x.disks; left = was.torn.disks; same = inr head })
  mount_lists holds p front x y was (inr (inr still)) = inr (inl front, still g s holds)

  -- where every crash on entry leaves the state, so does every crash now
  pub crash_lists : Always old (λ disks. Holds g s disks) → IsTrue old.tells → (p : List ℕ) (disks : Disks) → HistoryLeaves g s old p disks → Holds g s disks
  crash_lists always told p disks (inl (front, beside)) =
      let entry = always (record { disks = beside.entry; said = old.now.said })
      (record { told = told; torn = record { disks = beside.left; said = refl } }) in
      ⊎_elim (λ (same : disks ≡ beside.entry). subst (λ (disks : Disks). Holds g s disks) (sym same) entry)
      (λ (same : SameHead beside.entry disks). same_head_holds g s beside.entry disks same entry) beside.same
  crash_lists always told p disks (inr (front, holds)) = record { head = holds.head; by = holds.by }

-- some first part was said, whatever was answered
some_listed : {T E : Type 0} (a : Mounted) (result : Result T E) (x y : Contents) → HasListed a result x y → Lists a x y
some_listed a (Ok value) x y listed = record {
  disks = listed.disks;
  says = record { part = index_text a.index; rest = []; whole = append-nil (index_text a.index); said = listed.says };
}
some_listed a (Err e) x y listed = listed

-- while the lines are said no disk changes
history_mounts : {B T E : Type 0} (view : B → View) (a : Mounted) (result : Result T E) (ended : Ended) (first mounted last : B) → MountsArray a (view first) (view mounted)
    → KeepsDisks (view mounted) (view last) → Steps (view mounted) (view last) (Lists a) (HasListed a result)
    → ((x y : Contents) → x.said ≡ (view mounted).now.said → HasListed a result x y → SaysFound command_history a (view mounted) ended (view mounted).now y)
    → CallsFound view command_history a ended mounted last → MountsOnly view command_history ended first last
history_mounts view a result ended first mounted last mounts keeps listed says calls = record {
  a = a;
  mounted = mounted;
  mounts = mounts;
  stays = record {
    sizes = keeps.sizes;
    changes = record {
      now = keeps.disks;
      any_moment = weaken (view mounted) (view last) (Lists a) (HasListed a result) (ByDisks Same) (ByDisks Same) listed
          (λ x y was by. by.disks) (λ x y was left by. (some_listed a result x y by).disks);
    };
  };
  says = λ told.
      let mid = subst IsTrue (sym mounts.writes.any_moment.tells) told in
      let came = listed.now (view last).now (read_is_left (view last) (subst IsTrue (sym listed.tells) mid)) in
      says came.origin (view last).now came.was.torn.said came.by;
  calls = calls;
}

-- all lines were said
pub listed_mounts : {B : Type 0} (T E : Type 0) (value : T) (view : B → View) (a : Mounted) (first mounted last : B) → MountsArray a (view first) (view mounted)
    → KeepsDisks (view mounted) (view last) → Steps (view mounted) (view last) (Lists a) (HasListed {T = T} {E = E} a (Ok value))
    → CallsFound view command_history a Done mounted last → MountsOnly view command_history Done first last
listed_mounts T E value view a first mounted last mounts keeps listed calls = history_mounts {T = T} {E = E} view a (Ok value) Done first mounted last mounts keeps listed
    (λ x y same listed. listed.says ∙ ap (λ (l : List ℕ). l ++ index_text a.index) same) calls

-- a part of them was
pub cut_mounts : {B : Type 0} (T E : Type 0) (e : E) (view : B → View) (a : Mounted) (first mounted last : B) → MountsArray a (view first) (view mounted)
    → KeepsDisks (view mounted) (view last) → Steps (view mounted) (view last) (Lists a) (HasListed {T = T} {E = E} a (Err e))
    → CallsFound view command_history a Port mounted last → MountsOnly view command_history Port first last
cut_mounts T E e view a first mounted last mounts keeps listed calls = history_mounts {T = T} {E = E} view a (Err e) Port first mounted last mounts keeps listed
    (λ x y same listed. record {
      part = listed.says.part;
      rest = listed.says.rest;
      whole = listed.says.whole;
      said = listed.says.said ∙ ap (λ (l : List ℕ). l ++ listed.says.part) same;
    }) calls

-- The array could not be mounted.
unlisted_steps : (a b : View) (from : Stream) (why : MountFault) → Moves a b (Mounting a) (Mounting a)
    → Steps a b (LeavesNow command_history a from) (LeavesWithFront (last_line (NotMounted why)) command_history a from)
unlisted_steps a b from why moves = weaken a b (Quiet (Mounting a)) (Quiet (Mounting a)) (LeavesNow command_history a from)
    (LeavesWithFront (last_line (NotMounted why)) command_history a from) moves
    (λ x y was step g s told holds. record {
      part = [];
      said = step.said ∙ sym (append-nil x.said);
      leaves = mount_lists g s a holds [] no_front x y was step.disks;
    })
    (λ x y was left step front rest is g s told holds. record {
      part = front;
      said = ap (λ (l : List ℕ). l ++ front) step.said;
      leaves = mount_lists g s a holds front (NotMounted why, rest, is) x y was step.disks;
    })

-- what the lines leave, over a state that the array stands for
lists_leave : (a : View) (array : Mounted) (g : Geometry) (s : State) (x y z : Contents) → y.said ≡ x.said → array.g ≡ g → StandsFor array s y.disks → LostOn g a array.head
    → Lists array y z → LeftSaid (HistoryLeaves g s a) x.said z
lists_leave a array g s x y z quiet is stands lost listed =
    let says = part_told array s y.disks y z stands listed in
    record {
      part = says.part;
      said = says.said ∙ ap (λ (l : List ℕ). l ++ says.part) quiet;
      leaves = inr (
        inr (says.rest, says.whole),
        record {
          head = array.head;
          by = subst (λ (g : Geometry). HoldsBy g array.head s z.disks) is
              (subst (λ (disks : Disks). HoldsBy array.g array.head s disks) (sym listed.disks) stands.by);
          lost = lost;
        },
      );
    }

-- The lines are said over the mounted array.
listed_steps : {T E : Type 0} (a b c : View) (from : Stream) (ended : Ended) (array : Mounted) (result : Result T E) → last_line ended ≡ []
    → ((g : Geometry) (s : State) → IsTrue a.tells → Holds g s a.now.disks → (array.g ≡ g) × Always b (StandsFor array s))
    → ((g : Geometry) (s : State) → IsTrue a.tells → Holds g s a.now.disks → LostOn g a array.head)
    → Moves a b (Mounting a) (Mounting a)
    → Steps b c (Lists array) (HasListed array result)
    → Steps a c (LeavesNow command_history a from) (LeavesWithFront (last_line ended) command_history a from)
listed_steps a b c from ended array result silent stands lost mounted listed = then_ a b c (Quiet (Mounting a)) (Quiet (Mounting a))
    (Lists array) (HasListed array result) (LeavesNow command_history a from) (LeavesWithFront (last_line ended) command_history a from) mounted listed
    (λ x y was step g s told holds. record {
      part = [];
      said = step.said ∙ sym (append-nil x.said);
      leaves = mount_lists g s a holds [] no_front x y was step.disks;
    })
    (λ x y z was step mid lists g s told holds.
    let known = stands g s told holds in
    lists_leave a array g s x y z step.said known.0 (known.1 y mid) (lost g s told holds) lists)
    (λ x y z was step mid lists front rest is g s told holds.
    let known = stands g s told holds in
    let left = lists_leave a array g s x y z step.said known.0 (known.1 y mid) (lost g s told holds) (some_listed array result y z lists) in
    let none = no_part front rest (last_line ended) silent is in
    record {
      part = left.part;
      said = ap (λ (l : List ℕ). z.said ++ l) none ∙ append-nil z.said ∙ left.said;
      leaves = left.leaves;
    })

module _ (a b : View) (from : Stream) (mounted : Moves a b (Mounts a b) (Mounts a b)) (sizes : (e : ℕ) → b.sizes e ≡ a.sizes e)
    (contents : IsTrue a.tells → Quiet (Mounts a b) a.now b.now)
    (writes : WritesHead a b)
    (lost : (g : Geometry) (h k : Head) (s t : State) → IsTrue a.tells → HoldsBy g h s a.now.disks → HoldsBy g k t b.now.disks → FoundLost g h k a b) where
  -- The array could not be mounted.
  pub unlisted_outcome : (why : MountFault) → (IsNoLog (a.sizes 0) → why ≡ NotAnArray) → MountCause why a b
      → ((why ≡ LogFault → ⊥) → OnlyReads a b)
      → ((g : Geometry) (s : State) → IsTrue a.tells → Holds g s a.now.disks → is_refusal why ≡ false)
      → CommandOutcome command_history (NotMounted why) a b from from
  unlisted_outcome why no_log by unwritten held = record {
    cause = by;
    first = λ none. ap NotMounted (no_log none);
    unchanged = λ is. record { sizes = sizes; changes = changes_reads a b (unwritten (no_log_fault why is)) };
    unmounted = λ other is. mount_changes a b writes;
    stops = λ g s told holds. (
      held g s told holds,
      record {
        said = (contents told).said ∙ sym (append-nil a.now.said);
        holds = mounted_holds g s a b b.now.disks (contents told).disks holds;
      },
    );
    frame = record { changes = mount_changes a b writes; sizes = λ e is. sizes e };
    unread = λ other. refl;
    took = took_none from;
    silent = λ is told. (contents told).said;
    held = held_mounted a b b (λ told. (contents told).disks) lost (λ e. omega arith) (λ told. refl);
    steps = unlisted_steps a b from why (mounting_moves a b mounted);
  }

  module _ (c : View) (array : Mounted)
      (stands : (g : Geometry) (s : State) → IsTrue a.tells → Holds g s a.now.disks → (array.g ≡ g) × Always b (StandsFor array s))
      (found : HasFound array a b) (keeps : KeepsDisks b c) (log : IsNoLog (a.sizes 0) → ⊥) where
    told_mid : IsTrue a.tells → IsTrue b.tells
    told_mid told = subst IsTrue (sym mounted.tells) told

    was_out : (g : Geometry) (s : State) → IsTrue a.tells → Holds g s a.now.disks → LostOn g a array.head
    was_out g s told holds = found_out g s a b array lost told (told_mid told) (stands g s told holds)

    mountable : IsMountable a
    mountable told = let passed = found.passed told in (array.g, record { h = passed.0; members = passed.1; own = passed.3 })

    held_now : ((e : ℕ) → b.faults e ≤ c.faults e) → StaysHeld a c
    held_now later = held_mounted a b c (λ told. (contents told).disks) lost later (λ told. keeps.disks (told_mid told))

    module _ {T E : Type 0} (result : Result T E) (listed : Steps b c (Lists array) (HasListed array result)) where
      told_end : IsTrue a.tells → IsTrue c.tells
      told_end told = subst IsTrue (sym listed.tells) (told_mid told)

      framed : Frames command_history a c
      framed = record {
        changes = changes_kept (MayPutHead a b) (MayPutHead a c) a b c (Lists array) (HasListed array result) (put_later a b c listed.faults) (mount_changes a b writes)
            listed (λ y z by. by.disks) (λ y z by. (some_listed array result y z by).disks) keeps.disks;
        sizes = λ e is. keeps.sizes e ∙ sizes e;
      }

      -- what a read gives at the end
      holds_now : (g : Geometry) (s : State) → IsTrue a.tells → Holds g s a.now.disks → Holds g s c.now.disks
      holds_now g s told holds = subst (λ (disks : Disks). Holds g s disks) (sym (keeps.disks (told_mid told)))
          (mounted_holds g s a b b.now.disks (contents told).disks holds)

    -- Every line was said.
    pub listed_outcome : (T E : Type 0) (value : T) → Steps b c (Lists array) (HasListed {T = T} {E = E} array (Ok value)) → CommandOutcome command_history Done a c from from
    listed_outcome T E value listed = record {
      cause = mountable;
      first = λ none. absurd (log none);
      unchanged = λ is. absurd (cc is);
      unmounted = λ why is. absurd (cc is);
      stops = λ g s told holds.
          let known = stands g s told holds in
          let came = listed.now c.now (read_is_left c (told_end {T = T} {E = E} (Ok value) listed told)) in
          record {
            said = whole_told array s came.origin.disks came.origin c.now (known.1 came.origin came.was) came.by
                ∙ ap (λ (l : List ℕ). l ++ history_text s) (came.was.torn.said ∙ (contents told).said);
            holds = holds_now {T = T} {E = E} (Ok value) listed g s told holds;
          };
      frame = framed {T = T} {E = E} (Ok value) listed;
      unread = λ other. refl;
      took = took_none from;
      silent = λ is told. absurd (cc is);
      held = held_now listed.faults;
      steps = listed_steps {T = T} {E = E} a b c from Done array (Ok value) refl stands was_out (mounting_moves a b mounted) listed;
    }

    -- The port failed in the lines.
    pub cut_outcome : (T E : Type 0) (e : E) → Steps b c (Lists array) (HasListed {T = T} {E = E} array (Err e)) → Rose b.port_faults c.port_faults → CommandOutcome command_history Port a c from from
    cut_outcome T E e listed rose = record {
      cause = (mountable, rose_since a.port_faults b.port_faults c.port_faults mounted.port_faults rose);
      first = λ none. absurd (log none);
      unchanged = λ is. absurd (cc is);
      unmounted = λ why is. absurd (cc is);
      stops = λ g s told holds.
          let known = stands g s told holds in
          let came = listed.now c.now (read_is_left c (told_end {T = T} {E = E} (Err e) listed told)) in
          let says = part_told array s came.origin.disks came.origin c.now (known.1 came.origin came.was) came.by in
          record {
            part = record {
              part = says.part;
              rest = says.rest;
              whole = says.whole;
              said = says.said ∙ ap (λ (l : List ℕ). l ++ says.part) (came.was.torn.said ∙ (contents told).said);
            };
            holds = holds_now {T = T} {E = E} (Err e) listed g s told holds;
          };
      frame = framed {T = T} {E = E} (Err e) listed;
      unread = λ other. refl;
      took = took_none from;
      silent = λ is told. absurd (cc is);
      held = held_now listed.faults;
      steps = listed_steps {T = T} {E = E} a b c from Port array (Err e) refl stands was_out (mounting_moves a b mounted) listed;
    }
