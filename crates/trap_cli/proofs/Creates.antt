-- All but the last line of `create`.
use Rattle.std.proofs.Common.{◌≡◌, ◌≢◌, ◌↔◌, ◌⊎◌, get_or, inl, inr, ⊎_elim, ℕ, zero, suc, ◌+◌, ◌<◌, ◌≤◌, List, [], ◌++◌, Option, Some, None, Result, Ok, Err, true, false, IsTrue, refl, sym, ap, subst, ◌∙◌, append_assoc, append-nil, arith}
use Rattle.std.proofs.lemmas.Bool.{cases_eq}
use Rattle.trap_bank.specs.Faults.{Rose}
use Rattle.trap_bank.specs.Disks.{Contents, Disks, View, Quiet, Differs, size_of, bytes_of}
use Rattle.trap_bank.specs.Calls.{MayLeave, IsLawful, Says}
use Rattle.trap_bank.specs.Steps.{Steps, Moves, Same, SpokePart, OnlyReads}
use Rattle.trap_bank.specs.Stream.{Stream}
use Rattle.trap_bank.proofs.Moves.{then_, weaken, nothing_done, read_is_left, say_steps}
use Rattle.trap_model.specs.declared.asked.Asked.{Asked}
use Rattle.trap_model.specs.declared.numbers.Geometry.{Geometry}
use Rattle.trap_format.specs.Checked.{first_broken, HasNumbers}
use Rattle.trap_format.specs.declared.limits.Field.{Field}
use Rattle.trap_format.specs.LogDisk.{log_size}
use Rattle.trap_model.specs.Limits.{open_gate}
use Rattle.trap_format.specs.MemberDisk.{member_size}
use Rattle.trap_format.proofs.Spellings.{same_geometry}
use Rattle.trap_array.specs.Creating.{CreateFails as MakeFails, IsLogGateOff, Creates, HasCreated, MembersFirst, AreSized, IsLowest, NoneIsThere, fresh_head}
use Rattle.trap_mount.specs.CreateEnds.{IsMade, IsMaking, KeepsOrder, StaysBeyond, DisksBeyondStay}
use Rattle.trap_mount.specs.declared.fault.CreateFault.{CreateFault}
use Rattle.trap_mount.specs.declared.fault.CreateFault.TheVariants.{Exists, LogFault, MemberFault}
use Rattle.trap_cli.specs.declared.outcome.Ended.{Ended}
use Rattle.trap_cli.specs.declared.outcome.Ended.TheVariants.{Done, BadGeometry, NotCreated, Port}
use Rattle.trap_cli.specs.Command.{command_create}
use Rattle.trap_cli.specs.Ended.{last_line, created_line, is_create_refusal}
use Rattle.trap_cli.specs.Cause.{CreateDenied, HasNewSizes}
use Rattle.trap_cli.specs.Creating.{HoldsNew, NotCreatedSaid, IsUnfinished}
use Rattle.trap_cli.specs.Left.{IsFaultFront}
use Rattle.trap_cli.specs.Crash.{CreateLeaves, LeavesNow, LeavesWithFront}
use Rattle.trap_cli.specs.Run.{CommandOutcome}
use Rattle.trap_cli.specs.Frame.{ChangesBy, InAsked, Frames}
use Rattle.trap_cli.proofs.Saying.{took_none}
use Rattle.trap_cli.proofs.Framing.{changes_none, changes_quiet, changes_wider, changes_kept}
use Rattle.trap_bank.proofs.OnlyReads.{reads_none}
use Rattle.trap_bank.proofs.Regions.{absent_disk}
use Rattle.trap_cli.proofs.Heads.{held_same, held_none}
use Rattle.trap_cli.proofs.Lines.{not_created}

-- the numbers that were asked for are those of one array
numbers_same : (asked : Asked) (g h : Geometry) → HasNumbers g asked → HasNumbers h asked → g ≡ h
numbers_same asked g h a b = same_geometry g h (a.id ∙ sym b.id) (a.members ∙ sym b.members) (a.chunk ∙ sym b.chunk) (a.block ∙ sym b.block) (a.rows ∙ sym b.rows)
    (a.slots ∙ sym b.slots) (a.gap ∙ sym b.gap) (a.entries ∙ sym b.entries) (a.ring ∙ sym b.ring)

-- the disks that were made keep their sizes
pub new_sizes_later : (asked : Asked) (mid new : View) → ((e : ℕ) → new.sizes e ≡ mid.sizes e) → HasNewSizes asked mid → HasNewSizes asked new
new_sizes_later asked mid new same has g numbers = (same 0 ∙ (has g numbers).0, λ m inside. same (m + 1) ∙ (has g numbers).1 m inside)

-- there is one lowest disk
lowest_same : (g : Geometry) (v : View) (d e : ℕ) → IsLowest g v d → IsLowest g v e → d ≡ e
lowest_same g v d e a b = ⊎_elim (λ (is : d ≡ e). is)
    (λ (other : d ≢ e). ⊎_elim (λ (below : d < e). absurd (a.there (b.lowest d below))) (λ (below : e < d). absurd (b.there (a.lowest e below))) (apart other)) (cases_eq d e)
  where
    apart : d ≢ e → (d < e) ⊎ (e < d)
    apart other = grind (arith, other)

-- where there is none, no disk of the array is there
none_there : (g : Geometry) (v : View) → ((d : ℕ) → IsLowest g v d → ⊥) → NoneIsThere g v
none_there g v none d inside = below (suc d) d (omega arith) inside
  where
    at : (d : ℕ) → d ≤ g.members → ((e : ℕ) → e < d → v.sizes e ≡ None) → (size : Option ℕ) → v.sizes d ≡ size → v.sizes d ≡ None
    at d inside lower None is = is
    at d inside lower (Some n) is = absurd (none d (record { inside = inside; there = λ absent. let both : Some n ≡ None = sym is ∙ absent in cc; lowest = lower }))

    below : (n d : ℕ) → d < n → d ≤ g.members → v.sizes d ≡ None
    below zero d less inside = absurd (omega (arith, less))
    below (suc n) d less inside = at d inside (λ e under. below n e (omega (arith, less, under)) (omega (arith, inside, under))) (v.sizes d) refl

-- the gate of an absent disk 0 is off
absent_off : (disks : Disks) → disks 0 ≡ None → IsLogGateOff disks
absent_off disks absent is_open =
    let both : 0 ≡ open_gate = sym (ap (λ (disk : Option (List ℕ)). get_or (bytes_of disk) 0 0) absent) ∙ is_open in cc

-- each crash in a run leaves what comes by its relation and has this too, where another fact of the same run says so
steps_with : (a b : View) (d1 a1 d2 a2 : Contents → Contents → Type 0) (has : Contents → Type 0) → Steps a b d1 a1 → Steps a b d2 a2
    → ((x y : Contents) → MayLeave a x → d2 x y → has y) → ((x y : Contents) → MayLeave a x → a2 x y → has y)
    → Steps a b (λ x y. d1 x y × has y) (λ x y. a1 x y × has y)
steps_with a b d1 a1 d2 a2 has first second during after = record {
  tells = first.tells;
  faults = first.faults;
  port_faults = first.port_faults;
  later = first.later;
  in_run = λ t w le left. ⊎_elim inl
      (λ one. ⊎_elim inl
      (λ two. inr (record { origin = one.origin; was = one.was; by = (one.by, during two.origin w two.was two.by) }))
      (second.in_run t w le left))
      (first.in_run t w le left);
  now = λ w left.
      let one = first.now w left in
      let two = second.now w left in
      record { origin = one.origin; was = one.was; by = (one.by, after two.origin w two.was two.by) };
}

module _ (asked : Asked) (a : View) (lawful : IsLawful a) where
  -- disk 0 is absent on entry, whatever a crash leaves
  log_absent : (g : Geometry) → NoneIsThere g a → (x : Contents) → MayLeave a x → x.disks 0 ≡ None
  log_absent g none x was = absent_disk (x.disks 0) (was.torn.disks.sizes 0 ∙ lawful.sized was.told 0 ∙ none 0 (omega arith))

  -- so the members came first by what a read gives on entry
  members_first : (g : Geometry) → NoneIsThere g a → (x : Contents) → MayLeave a x → (disks : Disks) → MembersFirst g x.disks disks → MembersFirst g a.now.disks disks
  members_first g none x was disks first = ⊎_elim
      (λ (same : disks 0 ≡ x.disks 0). inl (same ∙ log_absent g none x was ∙ sym (log_absent g none a.now (read_is_left a was.told)))) (λ made. inr made) first

  -- disks that a crash on entry might have left
  unchanged : (p : List ℕ) (x : Contents) (disks : Disks) → IsFaultFront p → MayLeave a x → disks ≡ x.disks → CreateLeaves asked a p disks
  unchanged p x disks front was same =
      let left = subst (λ (disks : Disks). CreateLeft disks) (sym same) was.torn.disks in
      record {
        broken = λ field is. left;
        there = λ g d numbers low. left;
        made = λ g numbers none. (
          inl (absent_off disks (ap (λ (disks : Disks). disks 0) same ∙ log_absent g none x was)),
          members_first g none x was disks (inl (ap (λ (disks : Disks). disks 0) same)),
        );
        whole = λ g rest numbers none is. absurd (not_created asked.id p rest front is);
      }
    where
      CreateLeft : Disks → Type 0
      CreateLeft disks = Differs a.unsynced a.now.disks disks

  pub entry_creates : (x : Contents) → MayLeave a x → CreateLeaves asked a [] x.disks
  entry_creates x was = unchanged [] x x.disks (Done, [], refl) was refl

  -- a refusal that changed nothing
  refused_steps : (b : View) (from : Stream) (ended : Ended) → Moves a b Same Same
      → Steps a b (LeavesNow (command_create asked) a from) (LeavesWithFront (last_line ended) (command_create asked) a from)
  refused_steps b from ended moves = weaken a b (Quiet Same) (Quiet Same) (LeavesNow (command_create asked) a from) (LeavesWithFront (last_line ended) (command_create asked) a from) moves
      (λ x y was same. record { part = []; said = same.said ∙ sym (append-nil x.said); leaves = unchanged [] x y.disks (Done, [], refl) was same.disks })
      (λ x y was left same front rest is. record {
        part = front;
        said = ap (λ (l : List ℕ). l ++ front) same.said;
        leaves = unchanged front x y.disks (ended, rest, is) was same.disks;
      })

  -- A number breaks its limit.
  pub broken_outcome : (field : Field) (from : Stream) → first_broken asked ≡ Some field → CommandOutcome (command_create asked) (BadGeometry field) a a from from
  broken_outcome field from is = record {
    cause = is;
    first = (λ other broken. let both : Some field ≡ Some other = sym is ∙ broken in cc, λ g d kept numbers low. let both : None ≡ Some field = sym kept ∙ is in absurd (cc both));
    unchanged = λ refused. record { sizes = λ e. refl; changes = changes_none a };
    unmounted = λ why is. absurd (cc is);
    stops = λ told. refl;
    frame = record { changes = changes_wider Same (InAsked asked) a a (λ x y same. inl same) (changes_none a); sizes = λ e is. refl };
    unread = λ other. refl;
    took = took_none from;
    silent = λ is told. refl;
    held = held_same a a (λ told. refl);
    steps = refused_steps a from (BadGeometry field) (nothing_done a (Quiet Same) (Quiet Same) (λ x was. record { disks = refl; said = refl }));
  }

  module _ (kept : first_broken asked ≡ None) (g : Geometry) (numbers : HasNumbers g asked) (b : View) (from : Stream) where
    no_field : (ended : Ended) (field : Field) → first_broken asked ≡ Some field → ended ≡ BadGeometry field
    no_field ended field is = let both : None ≡ Some field = sym kept ∙ is in absurd (cc both)

    -- A disk is there already.
    pub exists_outcome : (d : ℕ) → IsLowest g a d → OnlyReads a b → CommandOutcome (command_create asked) (NotCreated (Exists d)) a b from from
    exists_outcome d low untouched = record {
      cause = (g, numbers, low);
      first = (
        no_field (NotCreated (Exists d)),
        λ h e kept also other. ap (λ (d : ℕ). NotCreated (Exists d))
            (lowest_same g a d e low (subst (λ (g : Geometry). IsLowest g a e) (numbers_same asked h g also numbers) other)),
      );
      unchanged = λ refused. record { sizes = untouched.sizes; changes = still };
      unmounted = λ why is. absurd (cc is);
      stops = untouched.same;
      frame = record { changes = changes_wider Same (InAsked asked) a b (λ x y same. inl same) still; sizes = λ e is. untouched.sizes e };
      unread = λ other. refl;
      took = took_none from;
      silent = λ is told. ap (λ (c : Contents). c.said) (untouched.same told);
      held = held_same a b (λ told. ap (λ (c : Contents). c.disks) (untouched.same told));
      steps = refused_steps b from (NotCreated (Exists d)) untouched.moves;
    }
      where
        still : ChangesBy Same a b
        still = changes_quiet Same a b (λ told. ap (λ (c : Contents). c.disks) (untouched.same told)) untouched.moves

    module _ (no_low : (d : ℕ) → IsLowest g a d → ⊥) (beside : DisksBeyondStay g a b) (making : NoneIsThere g a → IsMaking g a b) (order : KeepsOrder g a b) where
      none : NoneIsThere g a
      none = none_there g a no_low

      not_there : (ended : Ended) (h : Geometry) (d : ℕ) → first_broken asked ≡ None → HasNumbers h asked → IsLowest h a d → ended ≡ NotCreated (Exists d)
      not_there ended h d kept also low = absurd (no_low d (subst (λ (g : Geometry). IsLowest g a d) (numbers_same asked h g also numbers) low))

      -- the members were made first
      abbrev Ordered : Contents → Type 0
      Ordered y = MembersFirst g a.now.disks y.disks

      first_in : (x y : Contents) → MayLeave a x → Quiet (MembersFirst g) x y → Ordered y
      first_in x y was first = members_first g none x was y.disks first.disks

      -- while it is made
      unmade : (p : List ℕ) (x y : Contents) → IsFaultFront p → Creates g x.disks y.disks → Ordered y → CreateLeaves asked a p y.disks
      unmade p x y front creates order = record {
        broken = λ field is. let both : None ≡ Some field = sym kept ∙ is in absurd (cc both);
        there = λ h d also low. absurd (no_low d (subst (λ (g : Geometry). IsLowest g a d) (numbers_same asked h g also numbers) low));
        made = λ h also none. subst (λ (g : Geometry). Creates g a.now.disks y.disks × MembersFirst g a.now.disks y.disks) (numbers_same asked g h numbers also) (creates, order);
        whole = λ h rest also none is. absurd (not_created asked.id p rest front is);
      }

      -- and when it is made
      made : (p : List ℕ) (disks : Disks) → HoldsNew g disks → MembersFirst g a.now.disks disks → CreateLeaves asked a p disks
      made p disks holds order = record {
        broken = λ field is. let both : None ≡ Some field = sym kept ∙ is in absurd (cc both);
        there = λ h d also low. absurd (no_low d (subst (λ (g : Geometry). IsLowest g a d) (numbers_same asked h g also numbers) low));
        made = λ h also none. subst (λ (g : Geometry). Creates g a.now.disks disks × MembersFirst g a.now.disks disks) (numbers_same asked g h numbers also)
            (inr (record { head = fresh_head; by = holds.by }), order);
        whole = λ h rest also none is. subst (λ (g : Geometry). HoldsNew g disks) (numbers_same asked g h numbers also) holds;
      }

      -- what changes
      beyond_same : ChangesBy (StaysBeyond g) a b
      beyond_same = changes_quiet (StaysBeyond g) a b beside.contents beside.any_moment

      -- A disk failed.
      pub failed_outcome : (why : CreateFault) → is_create_refusal why ≡ false → CreateDenied g why a b
          → CommandOutcome (command_create asked) (NotCreated why) a b from from
      failed_outcome why fault fails = record {
        cause = (g, numbers, fails);
        first = (no_field (NotCreated why), not_there (NotCreated why));
        unchanged = λ refused. absurd (cc);
        unmounted = λ why is. absurd (cc is);
        stops = λ told. unfinished why fault (record {
          g = g;
          numbers = numbers;
          said = ((making none).contents told).said;
          disks = ((making none).contents told).disks;
          order = (order.contents told).disks;
        });
        frame = record {
          changes = changes_wider (StaysBeyond g) (InAsked asked) a b (λ x y same. inr (g, numbers, same)) beyond_same;
          sizes = λ e is. beside.sizes e (is g numbers);
        };
        unread = λ other. refl;
        took = took_none from;
        silent = λ is told. ((making none).contents told).said;
        held = held_none a b (λ told. lawful.sized told 0 ∙ none 0 (omega arith));
        steps = weaken a b (λ x y. Quiet (Creates g) x y × Ordered y) (λ x y. Quiet (Creates g) x y × Ordered y) (LeavesNow (command_create asked) a from)
            (LeavesWithFront (last_line (NotCreated why)) (command_create asked) a from)
            (steps_with a b (Quiet (Creates g)) (Quiet (Creates g)) (Quiet (MembersFirst g)) (Quiet (MembersFirst g)) Ordered
            (making none).any_moment order.any_moment first_in first_in)
            (λ x y was step. record { part = []; said = step.0.said ∙ sym (append-nil x.said); leaves = unmade [] x y (Done, [], refl) step.0.disks step.1 })
            (λ x y was left step front rest is. record {
              part = front;
              said = ap (λ (l : List ℕ). l ++ front) step.0.said;
              leaves = unmade front x y (NotCreated why, rest, is) step.0.disks step.1;
            });
      }
        where
          unfinished : (why : CreateFault) → is_create_refusal why ≡ false → IsUnfinished asked a.now b.now → NotCreatedSaid asked why a.now b.now
          unfinished (Exists d) fault is = absurd (cc fault)
          unfinished LogFault fault is = is
          unfinished (MemberFault first second) fault is = is

      module _ (c : View) (new : IsMade g a b) (lawful_mid : IsLawful b)
          {T E : Type 0} (result : Result T E) (says : Says (created_line asked.id) result b c) where
        told_mid : IsTrue a.tells → IsTrue b.tells
        told_mid told = subst IsTrue (sym new.moves.tells) told

        -- every crash leaves the new array whole
        whole_left : (y : Contents) → MayLeave b y → HoldsNew g y.disks
        whole_left y left = record {
          by = new.holds y left;
          members = λ m inside absent.
              let both : None ≡ Some (member_size g) = sym (ap size_of absent) ∙ left.torn.disks.sizes (m + 1) ∙ lawful_mid.sized left.told (m + 1) ∙ new.members m inside in
              cc both;
        }

        holds_now : IsTrue a.tells → HoldsNew g c.now.disks
        holds_now told = subst (λ (disks : Disks). HoldsNew g disks) (sym (says.disks (told_mid told))) (whole_left b.now (read_is_left b (told_mid told)))

        said_before : IsTrue a.tells → b.now.said ≡ a.now.said
        said_before told = ((making none).contents told).said

        -- whatever the bank tells, and after its line too
        sized : HasNewSizes asked c
        sized = new_sizes_later asked b c says.sizes (λ h also. subst (λ (g : Geometry). (b.sizes 0 ≡ Some (log_size g)) × AreSized g g.members b)
            (numbers_same asked g h numbers also) (new.log, new.members))

        framed : Frames (command_create asked) a c
        framed = record {
          changes = changes_kept (StaysBeyond g) (InAsked asked) a b c (SpokePart (created_line asked.id)) (SpokePart (created_line asked.id))
              (λ x y same. inr (g, numbers, same)) beyond_same (say_steps result b c (created_line asked.id) says)
              (λ y z by. by.disks) (λ y z by. by.disks) says.disks;
          sizes = λ e is. says.sizes e ∙ beside.sizes e (is g numbers);
        }

        created_steps : (line : List ℕ) → Steps a c (LeavesNow (command_create asked) a from) (LeavesWithFront line (command_create asked) a from)
        created_steps line = then_ a b c (λ x y. Quiet (Creates g) x y × Ordered y) (λ x y. Quiet (HasCreated g) x y × Ordered y)
            (SpokePart (created_line asked.id)) (SpokePart (created_line asked.id))
            (LeavesNow (command_create asked) a from) (LeavesWithFront line (command_create asked) a from)
            (steps_with a b (Quiet (Creates g)) (Quiet (HasCreated g)) (Quiet (MembersFirst g)) (Quiet (MembersFirst g)) Ordered new.moves order.any_moment first_in first_in)
            (say_steps result b c (created_line asked.id) says)
            (λ x y was step. record { part = []; said = step.0.said ∙ sym (append-nil x.said); leaves = unmade [] x y (Done, [], refl) step.0.disks step.1 })
            (λ x y z was step mid spoke. record {
              part = spoke.says.part;
              said = spoke.says.said ∙ ap (λ (l : List ℕ). l ++ spoke.says.part) step.0.said;
              leaves = still_made spoke.says.part y z.disks (sym spoke.disks) (whole_left y mid) step.1;
            })
            (λ x y z was step mid spoke front rest is. record {
              part = spoke.says.part ++ front;
              said = ap (λ (l : List ℕ). l ++ front) (spoke.says.said ∙ ap (λ (l : List ℕ). l ++ spoke.says.part) step.0.said)
                  ∙ append_assoc x.said spoke.says.part front;
              leaves = still_made (spoke.says.part ++ front) y z.disks (sym spoke.disks) (whole_left y mid) step.1;
            })
          where
            still_made : (p : List ℕ) (y : Contents) (disks : Disks) → y.disks ≡ disks → HoldsNew g y.disks → Ordered y → CreateLeaves asked a p disks
            still_made p y disks same holds order = subst (λ (disks : Disks). CreateLeaves asked a p disks) same (made p y.disks holds order)

        -- The array is made, and its line was said.
        pub created_outcome : (IsTrue b.tells → c.now.said ≡ b.now.said ++ created_line asked.id) → CommandOutcome (command_create asked) Done a c from from
        created_outcome whole = record {
          cause = (kept, sized);
          first = (no_field Done, not_there Done);
          unchanged = λ refused. absurd (cc refused);
          unmounted = λ why is. absurd (cc is);
          stops = λ told. record {
            g = g;
            numbers = numbers;
            said = whole (told_mid told) ∙ ap (λ (l : List ℕ). l ++ created_line asked.id) (said_before told);
            holds = holds_now told;
          };
          frame = framed;
          unread = λ other. refl;
          took = took_none from;
          silent = λ is told. absurd (cc is);
          held = held_none a c (λ told. lawful.sized told 0 ∙ none 0 (omega arith));
          steps = created_steps [];
        }

        -- The port failed in its line.
        pub unsaid_outcome : Rose b.port_faults c.port_faults → CommandOutcome (command_create asked) Port a c from from
        unsaid_outcome rose = record {
          cause = (kept, omega (arith, new.moves.port_faults, rose), sized);
          first = (no_field Port, not_there Port);
          unchanged = λ refused. absurd (cc refused);
          unmounted = λ why is. absurd (cc is);
          stops = λ told.
              let part = says.part (told_mid told) in
              record {
                g = g;
                numbers = numbers;
                part = record { part = part.part; rest = part.rest; whole = part.whole; said = part.said ∙ ap (λ (l : List ℕ). l ++ part.part) (said_before told) };
                holds = holds_now told;
              };
          frame = framed;
          unread = λ other. refl;
          took = took_none from;
          silent = λ is told. absurd (cc is);
          held = held_none a c (λ told. lawful.sized told 0 ∙ none 0 (omega arith));
          steps = created_steps [];
        }

-- What `create` answers when it made no array.
pub uncreated_outcome : {T : Type 0} (asked : Asked) (g : Geometry) (a b : View) (from : Stream) (result : Result T CreateFault) (why : CreateFault)
    → IsLawful a → first_broken asked ≡ None → HasNumbers g asked → result ≡ Err why
    → ((d : ℕ) → (result ≡ Err (Exists d)) ↔ IsLowest g a d) → ((d : ℕ) → IsLowest g a d → b ≡ a)
    → MakeFails g why a b → DisksBeyondStay g a b → (NoneIsThere g a → IsMaking g a b) → KeepsOrder g a b
    → CommandOutcome (command_create asked) (NotCreated why) a b from from
uncreated_outcome asked g a b from result (Exists d) lawful kept numbers is exists untouched fails beside making order =
    let low = (exists d).0 is in
    exists_outcome asked a lawful kept g numbers b from d low (subst (λ (v : View). OnlyReads a v) (sym (untouched d low)) (reads_none a))
uncreated_outcome asked g a b from result LogFault lawful kept numbers is exists untouched fails beside making order =
    let no_low : (d : ℕ) → IsLowest g a d → ⊥ = λ d low. let both : Err LogFault ≡ Err (Exists d) = sym is ∙ (exists d).1 low in cc in
    failed_outcome asked a lawful kept g numbers b from no_low beside making order LogFault refl fails.0
uncreated_outcome asked g a b from result (MemberFault first second) lawful kept numbers is exists untouched fails beside making order =
    let no_low : (d : ℕ) → IsLowest g a d → ⊥ = λ d low. let both : Err (MemberFault first second) ≡ Err (Exists d) = sym is ∙ (exists d).1 low in cc in
    failed_outcome asked a lawful kept g numbers b from no_low beside making order (MemberFault first second) refl (fails.1, (fails.0, fails.2), fails.3)

-- an array that was made had none of its disks there
pub none_before : {T : Type 0} (g : Geometry) (a : View) (result : Result T CreateFault) (value : T) → result ≡ Ok value
    → ((d : ℕ) → (result ≡ Err (Exists d)) ↔ IsLowest g a d) → (d : ℕ) → IsLowest g a d → ⊥
none_before g a result value is exists d low = let both : Ok value ≡ Err (Exists d) = sym is ∙ (exists d).1 low in cc

-- a bank that a disk's being there leaves as it was is left so by a refusal
pub refused_idle : {T : Type 0} {B : Type 0} (g : Geometry) (a : View) (result : Result T CreateFault) (why : CreateFault) (first done : B) → result ≡ Err why
    → ((d : ℕ) → (result ≡ Err (Exists d)) ↔ IsLowest g a d) → ((d : ℕ) → IsLowest g a d → done ≡ first) → is_create_refusal why ≡ true → done ≡ first
refused_idle g a result (Exists d) first done is exists untouched refused = untouched d ((exists d).0 is)
refused_idle g a result LogFault first done is exists untouched refused = absurd (cc refused)
refused_idle g a result (MemberFault member second) first done is exists untouched refused = absurd (cc refused)
