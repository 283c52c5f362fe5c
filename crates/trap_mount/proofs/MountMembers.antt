-- What mounting finds of the members' disks.
use Rattle.std.proofs.Common.{◌≡◌, ◌≢◌, ◌⊎◌, ℕ, ◌+◌, ◌<◌, ◌≤◌, List, Option, Some, None, true, false, not, eqb, IsTrue, inl, inr, ⊎_elim, refl, sym, ap, subst, ◌∙◌, arith}
use Rattle.std.proofs.lemmas.Bool.{cases_eq}
use Rattle.std.proofs.lemmas.Bool.Decides.{nat_tests}
use Rattle.std.specs.Option.{option_eq}
use Rattle.trap_bank.specs.Disks.{View, Disks, size_of}
use Rattle.trap_bank.specs.Calls.{IsLawful}
use Rattle.trap_bank.specs.Faults.{Rose}
use Rattle.trap_bank.specs.Steps.{OnlyReads}
use Rattle.trap_bank.proofs.OnlyReads.{told_after, disks_same}
use Rattle.trap_bank.proofs.Rising.{rose_since}
use Rattle.trap_bank.proofs.Regions.{absent_disk}
use Rattle.trap_format.specs.HeadValue.{lost_byte, IsHead}
use Rattle.trap_format.specs.MemberDisk.{member_size}
use Rattle.trap_format.specs.declared.head.Head.{Head}
use Rattle.trap_model.specs.declared.numbers.Geometry.{Geometry}
use Rattle.trap_raid.specs.Members.{IsMember, IsOut}
use Rattle.trap_mount.specs.Mounting.{HasRecords, HasMembers, AreOut, AreAbsent, IsWrong, IsFailing, Refuses}
use Rattle.trap_mount.specs.MountSteps.{IsOnlyOut, IsFirstOut, FindsLost, ReadsMember, ReadsMembers, IsNextMember, KeepsRows, FindsMembers}
use Rattle.trap_mount.specs.declared.fault.MountFault.{MountFault}
use Rattle.trap_raid.proofs.OwnDisks.{stable_reads}
use Rattle.trap_mount.proofs.MountReads.{refused_before}

-- an absent disk has no size
pub no_size : (x : Option (List ℕ)) → x ≡ None → size_of x ≡ None
no_size x e = ap size_of e

-- a member is this one, or it isn't
pub is_some_or_not : (o : Option ℕ) (m : ℕ) → (o ≡ Some m) ⊎ (o ≢ Some m)
is_some_or_not None m = inr (λ e. cc)
is_some_or_not (Some k) m = ⊎_elim (λ (same : k ≡ m). inl (ap {B = Option ℕ} Some same)) (λ other. inr (λ e. other (one e))) (cases_eq k m)
  where
    one : Some k ≡ Some m → k ≡ m
    one e = cc

-- ---- one disk

-- what was read of a disk was so before a run that only reads,
pub member_before : (g : Geometry) (m : ℕ) (a b c : View) → OnlyReads a b → ReadsMember g m b c → ReadsMember g m a c
member_before g m a b c reads member = record {
  size = sym (reads.sizes (m + 1)) ∙ member.size;
  own = λ told. subst (λ (x : Disks). IsMember g x m) (disks_same a b reads told) (member.own (told_after a b reads told));
  stable = member.stable;
}

-- and it is so after one
pub member_after : (g : Geometry) (m : ℕ) (a b c : View) → OnlyReads b c → ReadsMember g m a b → ReadsMember g m a c
member_after g m a b c reads member = record { size = member.size; own = member.own; stable = stable_reads b c (m + 1) reads member.stable }

-- one member more
pub members_more : (g : Geometry) (lost : Option ℕ) (n : ℕ) (a b c : View) → OnlyReads a b → OnlyReads b c → ReadsMembers g lost n a b
    → (lost ≢ Some n → ReadsMember g n b c) → ReadsMembers g lost (n + 1) a c
members_more g lost n a b c to_b to_c members next m below other =
    ⊎_elim (λ (same : m ≡ n). subst (λ (x : ℕ). lost ≢ Some x → ReadsMember g x a c) (sym same) (λ not. member_before g n a b c to_b (next not)) other)
    (λ (apart : m ≢ n). member_after g m a b c to_c (members m (omega arith) other))
    (cases_eq m n)

-- ---- the lost member

module _ (g : Geometry) (h : Head) (lost : Option ℕ) (v : View) (lawful : IsLawful v) (told : IsTrue v.tells) (finds : FindsLost g h.lost lost v) where
  -- no other member is out
  only : (m : ℕ) → m < g.members → IsOut h.lost v.now.disks m → lost ≡ Some m
  only m inside out = ⊎_elim (finds.still m) (λ (none : v.now.disks (m + 1) ≡ None). decide none (is_some_or_not lost m)) out
    where
      decide : v.now.disks (m + 1) ≡ None → (lost ≡ Some m) ⊎ (lost ≢ Some m) → lost ≡ Some m
      decide none is = ⊎_elim (λ same. same) (λ other. absurd (finds.others m inside other (sym (lawful.sized told (m + 1)) ∙ no_size _ none))) is

  pub finds_only : IsOnlyOut g h.lost lost v.now.disks
  finds_only = record {
    only = only;
    out = λ m is. ⊎_elim inl (λ absent. inr (absent_disk _ (lawful.sized told (m + 1) ∙ absent.1))) (finds.from m is);
  }

  pub finds_one : HasRecords g h v.now.disks → HasMembers g h v.now.disks
  finds_one records = record { records = records; one_out = λ m k in_m in_k out_m out_k. one m k (sym (only m in_m out_m) ∙ only k in_k out_k) }
    where
      one : (m k : ℕ) → Some m ≡ Some k → m ≡ k
      one m k e = cc

-- two members are out
pub are_out : (g : Geometry) (h : Head) (v : View) → IsLawful v → IsTrue v.tells → (out : Option ℕ) (first second : ℕ) → out ≡ Some first → IsFirstOut g h.lost v (Some first)
    → (second < g.members) × (out ≢ Some second) × (v.sizes (second + 1) ≡ None) × ((k : ℕ) → k < second → out ≢ Some k → v.sizes (k + 1) ≢ None)
    → AreOut g h v.now.disks first second
are_out g h v lawful told out first second is one two = record {
  first_ = ⊎_elim inl (λ none. inr (none.0, one.0, absent first none.1, λ m below. there m (none.2 m below))) one.1;
  inside = two.0;
  apart = λ same. two.1 (is ∙ ap {B = Option ℕ} Some (sym same));
  absent = absent second two.2;
  lowest = λ m below other. there m (two.3 m below (λ e. other (sym (same_some m (sym is ∙ e)))));
}
  where
    absent : (m : ℕ) → v.sizes (m + 1) ≡ None → v.now.disks (m + 1) ≡ None
    absent m e = absent_disk _ (lawful.sized told (m + 1) ∙ e)

    there : (m : ℕ) → v.sizes (m + 1) ≢ None → v.now.disks (m + 1) ≢ None
    there m other e = other (sym (lawful.sized told (m + 1)) ∙ no_size _ e)

    same_some : (m : ℕ) → Some first ≡ Some m → first ≡ m
    same_some m e = cc

-- and so the sizes show
pub are_absent : (g : Geometry) (recorded : Option ℕ) (v : View) (out : Option ℕ) (first second : ℕ) → out ≡ Some first → IsFirstOut g recorded v (Some first)
    → (second < g.members) × (out ≢ Some second) × (v.sizes (second + 1) ≡ None) × ((k : ℕ) → k < second → out ≢ Some k → v.sizes (k + 1) ≢ None)
    → AreAbsent g first second v
are_absent g recorded v out first second is one two = record {
  first_inside = one.0;
  inside = two.0;
  apart = λ same. two.1 (is ∙ ap {B = Option ℕ} Some (sym same));
  absent = two.2;
  lowest = λ m below other. two.3 m below (λ e. other (sym (same_some m (sym is ∙ e))));
}
  where
    same_some : (m : ℕ) → Some first ≡ Some m → first ≡ m
    same_some m e = cc

-- the member that is looked at after those below it
pub member_next : (g : Geometry) (h : Head) (lost : Option ℕ) (n : ℕ) (a b : View) → IsTrue a.tells → n < g.members → lost ≢ Some n
    → IsOnlyOut g h.lost lost a.now.disks → ReadsMembers g lost n a b → IsNextMember g h a.now.disks n
member_next g h lost n a b told inside other is_out members = record {
  inside = inside;
  counts = λ is. other (is_out.only n inside is);
  lowest = λ m below counts. (members m below (λ is. counts (is_out.out m is))).own told;
}

-- it is the lowest wrong one where its disk isn't its own
pub wrong_next : (g : Geometry) (h : Head) (x : Disks) (n : ℕ) → IsNextMember g h x n → (IsMember g x n → ⊥) → IsWrong g h x n
wrong_next g h x n next wrong = record { inside = next.inside; counts = next.counts; wrong = wrong; lowest = next.lowest }

-- and it may fail where its disk has its size
pub failing_next : (g : Geometry) (h : Head) (v : View) (n : ℕ) → IsLawful v → IsTrue v.tells → v.sizes (n + 1) ≡ Some (member_size g) → IsNextMember g h v.now.disks n → IsFailing g h v.now.disks n
failing_next g h v n lawful told size next = record { inside = next.inside; counts = next.counts; sized = lawful.sized told (n + 1) ∙ size; lowest = next.lowest }

-- what is refused at one disk is refused of all
pub check_refused : (g : Geometry) (lost : Option ℕ) (n : ℕ) (a b : View) (why : MountFault) → OnlyReads a b → n < g.members → lost ≢ Some n → ReadsMembers g lost n a b
    → (IsTrue b.tells → (h : Head) → IsNextMember g h b.now.disks n → HasMembers g h b.now.disks → Refuses b why)
    → IsTrue a.tells → (h : Head) → IsOnlyOut g h.lost lost a.now.disks → HasMembers g h a.now.disks → Refuses a why
check_refused g lost n a b why reads inside other members refused told h only has =
    let same = disks_same a b reads told in
    refused_before a b why reads (λ later. refused later h
    (subst (λ (x : Disks). IsNextMember g h x n) (sym same) (member_next g h lost n a b told inside other only members))
    (subst (λ (x : Disks). HasMembers g h x) (sym same) has)) told

-- ---- tests

pub option_differs : (o : Option ℕ) (n : ℕ) → not (option_eq eqb o (Some n)) ≡ true → o ≢ Some n
option_differs None n e same = cc
option_differs (Some k) n e same = apart (one same)
  where
    one : Some k ≡ Some n → k ≡ n
    one both = cc

    apart : k ≡ n → ⊥
    apart both = grind (arith, nat_tests)

pub option_same : (o : Option ℕ) (n : ℕ) → not (option_eq eqb o (Some n)) ≡ false → o ≡ Some n
option_same None n e = cc
option_same (Some k) n e = ap {B = Option ℕ} Some same
  where
    same : k ≡ n
    same = grind (arith, nat_tests)

-- ---- all members

module _ (g : Geometry) (h : Head) (lost : Option ℕ) (rebuilt : ℕ) (a b c : View) (to_b : OnlyReads a b) (to_c : OnlyReads b c) (head : IsHead g h)
    (finds : FindsLost g h.lost lost a) (others : ReadsMembers g lost g.members a b)
    (none : h.lost ≡ None → rebuilt ≡ 0) (some : (m : ℕ) → h.lost ≡ Some m → KeepsRows g m h.rebuilt rebuilt b c) where
  no_lost : lost ≡ None → h.lost ≡ None
  no_lost e = by_recorded h.lost (λ m is. finds.still m is)
    where
      by_recorded : (o : Option ℕ) → ((m : ℕ) → o ≡ Some m → lost ≡ Some m) → o ≡ None
      by_recorded None still = refl
      by_recorded (Some m) still = let two : lost ≡ Some m = still m refl in cc

  rows : (rebuilt ≡ 0) ⊎ (rebuilt ≡ h.rebuilt)
  rows = by_recorded h.lost none some
    where
      by_recorded : (o : Option ℕ) → (o ≡ None → rebuilt ≡ 0) → ((m : ℕ) → o ≡ Some m → KeepsRows g m h.rebuilt rebuilt b c) → (rebuilt ≡ 0) ⊎ (rebuilt ≡ h.rebuilt)
      by_recorded None zero_ keeps = inl (zero_ refl)
      by_recorded (Some m) zero_ keeps = ⊎_elim (λ same. inr same) (λ rest. inl rest.0) (keeps m refl).mark

  lost_inside : lost_byte lost ≤ g.members
  lost_inside = by_lost lost finds.inside
    where
      by_lost : (o : Option ℕ) → ((m : ℕ) → o ≡ Some m → m < g.members) → lost_byte o ≤ g.members
      by_lost None inside = omega arith
      by_lost (Some m) inside = let below : m < g.members = inside m refl in omega arith

  own : (m : ℕ) → lost ≡ Some m → 0 < rebuilt → ReadsMember g m a c
  own m is more = ⊎_elim (λ (recorded : h.lost ≡ Some m). member_before g m a b c to_b ((some m recorded).own more))
      (λ absent. let zero_ : rebuilt ≡ 0 = none absent.0 in absurd (omega arith)) (finds.from m is)

  mark : IsTrue a.tells → (rebuilt ≡ h.rebuilt) ⊎ ((rebuilt ≡ 0) × ((m : ℕ) → lost ≡ Some m → Rose (a.faults (m + 1)) (c.faults (m + 1)) ⊎ (IsMember g a.now.disks m → ⊥)))
  mark told = by_recorded h.lost none some finds.still head.lost.none_rebuilt
    where
      at : (k : ℕ) → Rose (b.faults (k + 1)) (c.faults (k + 1)) ⊎ (IsMember g b.now.disks k → ⊥) → Rose (a.faults (k + 1)) (c.faults (k + 1)) ⊎ (IsMember g a.now.disks k → ⊥)
      at k = ⊎_elim (λ rose. inl (rose_since _ _ _ (to_b.moves.faults (k + 1)) rose)) (λ not. inr (subst (λ (x : Disks). IsMember g x k → ⊥) (disks_same a b to_b told) not))

      by_recorded : (o : Option ℕ) → (o ≡ None → rebuilt ≡ 0) → ((m : ℕ) → o ≡ Some m → KeepsRows g m h.rebuilt rebuilt b c) → ((m : ℕ) → o ≡ Some m → lost ≡ Some m) → (o ≡ None → h.rebuilt ≡ 0)
          → (rebuilt ≡ h.rebuilt) ⊎ ((rebuilt ≡ 0) × ((m : ℕ) → lost ≡ Some m → Rose (a.faults (m + 1)) (c.faults (m + 1)) ⊎ (IsMember g a.now.disks m → ⊥)))
      by_recorded None zero_ keeps still before = inl (zero_ refl ∙ sym (before refl))
      by_recorded (Some k) zero_ keeps still before = ⊎_elim (λ same. inl same)
          (λ rest. inr (
            rest.0,
            λ m is. subst
                (λ (n : ℕ). Rose (a.faults (n + 1)) (c.faults (n + 1)) ⊎ (IsMember g a.now.disks n → ⊥)) (one m (sym (still k refl) ∙ is)) (at k (rest.1 (told_after a b to_b told))),
          ))
          (keeps k refl).mark
        where
          one : (m : ℕ) → Some k ≡ Some m → k ≡ m
          one m e = cc

  pub members_found : FindsMembers g h (record h { lost = lost; rebuilt = rebuilt }) a c
  members_found = record {
    head = record {
      version = head.version;
      lost = record { member = lost_inside; rebuilt = below; none_rebuilt = λ e. none (no_lost e) };
      numbers = record { dropped = head.numbers.dropped; drained = head.numbers.drained; last_most = head.numbers.last_most; pending = head.numbers.pending; retained = head.numbers.retained };
      offsets = record { order = head.offsets.order; window = head.offsets.window; end_most = head.offsets.end_most };
      times = head.times;
      time_fits = head.time_fits;
      empty = λ e. record { offsets = (head.empty e).offsets; times = (head.empty e).times };
    };
    same = refl;
    lost = finds;
    others = λ m inside other. member_after g m a b c to_c (others m inside other);
    own = own;
    found = λ told. record {
      same = refl;
      lost = finds.from;
      still = finds.still;
      mark = mark told;
    };
  }
    where
      below : rebuilt < g.rows
      below = let before = head.lost.rebuilt in ⊎_elim (λ (zero_ : rebuilt ≡ 0). omega arith) (λ (same : rebuilt ≡ h.rebuilt). omega arith) rows
