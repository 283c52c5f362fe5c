-- Records one after the other: what is known once the first ones are taken.
use Rattle.std.proofs.Common.{◌≡◌, ℕ, suc, ◌+◌, ◌-◌, ◌<◌, ◌≤◌, List, ◌++◌, length, IsTrue, refl, sym, ◌∙◌, ap, subst, inl, inr, arith, length-append}
use Rattle.trap_bank.specs.Disks.{Disks, View}
use Rattle.trap_bank.proofs.OnlyReads.{reads_none, reads_then, told_after, disks_same}
use Rattle.trap_bank.specs.Steps.{OnlyReads}
use Rattle.trap_model.specs.declared.log_record.LogRec.{LogRec}
use Rattle.trap_ring.specs.Ring.{RingPlace, RingHas}
use Rattle.trap_scan.specs.Chain.{History, Follows, AreRecords, IsBroken}
use Rattle.trap_scan.specs.Faults.{check_fault}
use Rattle.trap_scan.specs.Window.{IsWindow, IsLoaded, IsAhead}
use Rattle.trap_scan.specs.Scan.{IsAtFirst, BreaksAt, history_of, more_of, GivesNext, TakesNext, IsDamagedRecord, AreAhead, BreaksAhead}
use Rattle.trap_scan.specs.declared.scan.Scan.{Scan}
use Rattle.trap_scan.specs.declared.expected.Expected.{Expected}
use Rattle.trap_scan.specs.declared.fault.ScanFault.{ScanFault}
use Rattle.trap_scan.specs.declared.fault.ScanFault.TheVariants as scan
use Rattle.trap_scan.specs.declared.fault.CheckFault.TheVariants as check

-- What is so of the rest of the bytes is so of all of them, since the records in front of it are right.
pub record Leads (h : History) (seq time count : ℕ) (bytes : List ℕ) (seq' time' count' : ℕ) (rest : List ℕ) : Type 0 where
  pub shorter : length rest ≤ length bytes
  pub right : AreRecords h seq' time' count' rest → AreRecords h seq time count bytes
  pub broken : (behind : ℕ) → IsBroken h seq' time' count' rest behind → IsBroken h seq time count bytes (behind + (length bytes - length rest))

pub leads_none : (h : History) (seq time count : ℕ) (bytes : List ℕ) → Leads h seq time count bytes seq time count bytes
leads_none h seq time count bytes = record {
  shorter = omega arith;
  right = λ is. is;
  broken = λ behind is. let same : behind + (length bytes - length bytes) ≡ behind = omega arith in
      subst (λ (n : ℕ). IsBroken h seq time count bytes n) (sym same) is;
}

-- one record in front
pub leads_one : (h : History) (seq time count more : ℕ) (bytes rest : List ℕ) (r : LogRec) → count ≡ suc more → Follows h seq time more bytes r rest
    → Leads h seq time count bytes r.seq r.time more rest
leads_one h seq time count more bytes rest r some follows = record {
  shorter = short;
  right = λ is. subst (λ (n : ℕ). AreRecords h seq time n bytes) (sym some) (r, rest, follows, is);
  broken = λ behind is. subst (λ (n : ℕ). IsBroken h seq time n bytes (behind + (length bytes - length rest))) (sym some)
      (inr (r, rest, behind, follows, (let fewer = short in omega arith), is));
}
  where
    short : length rest ≤ length bytes
    short =
        let all : length bytes ≡ length (follows.first ++ rest) = ap length follows.parts in
        let sum = length-append follows.first rest in
        omega arith

-- some records in front, and more after them
pub leads_then : (h : History) (seq time count : ℕ) (bytes : List ℕ) (seq' time' count' : ℕ) (mid : List ℕ) (seq'' time'' count'' : ℕ) (rest : List ℕ)
    → Leads h seq time count bytes seq' time' count' mid → Leads h seq' time' count' mid seq'' time'' count'' rest → Leads h seq time count bytes seq'' time'' count'' rest
leads_then h seq time count bytes seq' time' count' mid seq'' time'' count'' rest first second =
    let short = first.shorter in
    let shorter = second.shorter in
    record {
      shorter = omega arith;
      right = λ is. first.right (second.right is);
      broken = λ behind is.
          let sum : behind + (length mid - length rest) + (length bytes - length mid) ≡ behind + (length bytes - length rest) = omega arith in
          subst (λ (n : ℕ). IsBroken h seq time count bytes n) sum (first.broken (behind + (length mid - length rest)) (second.broken behind is));
    }

-- From what is ahead of one scan, the bytes ahead of a later one follow after right records.
pub record Reaches (place : RingPlace) (disks : Disks) (old new : Scan) (bytes : List ℕ) : Type 0 where
  pub rest : List ℕ
  pub ahead : IsAhead place new.window rest disks
  pub leads : Leads (history_of old.expected) old.seq old.time (old.expected.last - old.seq) bytes new.seq new.time (old.expected.last - new.seq) rest

-- what holds of a scan that took some records since it was another
pub record Scanned (place : RingPlace) (a b : View) (old new : Scan) : Type 0 where
  pub expected : new.expected ≡ old.expected
  pub at : old.window.at ≤ new.window.at
  pub looks : OnlyReads a b
  pub loaded : IsTrue a.tells → IsLoaded place new.window a.now.disks
  pub reaches : IsTrue a.tells → (bytes : List ℕ) → IsAhead place old.window bytes a.now.disks → Reaches place a.now.disks old new bytes

pub scanned_none : (place : RingPlace) (v : View) (s : Scan) → (IsTrue v.tells → IsLoaded place s.window v.now.disks) → Scanned place v v s s
scanned_none place v s loaded = record {
  expected = refl;
  at = omega arith;
  looks = reads_none v;
  loaded = loaded;
  reaches = λ told bytes ahead. record { rest = bytes; ahead = ahead; leads = leads_none (history_of s.expected) s.seq s.time (s.expected.last - s.seq) bytes };
}

-- one more record is taken
pub scanned_next : (place : RingPlace) (a b c : View) (old mid new : Scan) (r : LogRec) → Scanned place a b old mid → mid.seq < mid.expected.last → OnlyReads b c
    → new.expected ≡ mid.expected → TakesNext mid new r → (IsTrue b.tells → IsLoaded place new.window b.now.disks) → (IsTrue b.tells → GivesNext place mid new b.now.disks r)
    → Scanned place a c old new
scanned_next place a b c old mid new r before more looks expected takes loaded gives = record {
  expected = expected ∙ before.expected;
  at = (let first = before.at in let second = takes.at in omega arith);
  looks = reads_then a b c before.looks looks;
  loaded = λ told. subst (λ (d : Disks). IsLoaded place new.window d) (disks_same a b before.looks told) (loaded (told_after a b before.looks told));
  reaches = λ told bytes ahead. reached told bytes (before.reaches told bytes ahead);
}
  where
    reached : IsTrue a.tells → (bytes : List ℕ) → Reaches place a.now.disks old mid bytes → Reaches place a.now.disks old new bytes
    reached told bytes reaches =
        let same = disks_same a b before.looks told in
        let next = gives (told_after a b before.looks told) reaches.rest (subst (λ (d : Disks). IsAhead place mid.window reaches.rest d) (sym same) reaches.ahead) in
        let h = history_of old.expected in
        let last = ap (λ e. e.last) before.expected in
        let number = takes.number in
        let seq = takes.seq in
        let count : old.expected.last - mid.seq ≡ suc (more_of mid) = omega arith in
        let left : more_of mid ≡ old.expected.last - new.seq = omega arith in
        let follows : Follows h mid.seq mid.time (more_of mid) reaches.rest r next.0 =
        subst (λ e. Follows (history_of e) mid.seq mid.time (more_of mid) reaches.rest r next.0) before.expected next.1 in
        let one = leads_one h mid.seq mid.time (old.expected.last - mid.seq) (more_of mid) reaches.rest next.0 r count follows in
        record {
          rest = next.0;
          ahead = subst (λ (d : Disks). IsAhead place new.window next.0 d) same next.2;
          leads =
              subst (λ (n : ℕ). Leads h old.seq old.time (old.expected.last - old.seq) bytes n new.time (old.expected.last - new.seq) next.0) (sym takes.seq)
              (subst (λ (n : ℕ). Leads h old.seq old.time (old.expected.last - old.seq) bytes r.seq n (old.expected.last - new.seq) next.0) (sym takes.time)
              (subst (λ (n : ℕ). Leads h old.seq old.time (old.expected.last - old.seq) bytes r.seq r.time n next.0) left
              (leads_then h old.seq old.time (old.expected.last - old.seq) bytes mid.seq mid.time (old.expected.last - mid.seq) reaches.rest r.seq r.time (more_of mid) next.0 reaches.leads one)));
        }

-- all records are taken
pub scanned_all : (place : RingPlace) (a b : View) (old new : Scan) → Scanned place a b old new → new.expected.last ≤ new.seq → IsTrue a.tells
    → (bytes : List ℕ) → IsAhead place old.window bytes a.now.disks → AreAhead old bytes
scanned_all place a b old new scanned done told bytes ahead =
    let reaches = scanned.reaches told bytes ahead in
    let last = ap (λ e. e.last) scanned.expected in
    let none : old.expected.last - new.seq ≡ 0 = omega arith in
    reaches.leads.right (subst (λ (n : ℕ). AreRecords (history_of old.expected) new.seq new.time n reaches.rest) (sym none) tt)

-- no record comes next
pub scanned_broken : (place : RingPlace) (a b : View) (old mid : Scan) (at : ℕ) → Scanned place a b old mid → mid.seq < mid.expected.last → IsTrue a.tells
    → (IsTrue b.tells → IsDamagedRecord place mid b.now.disks at) → (bytes : List ℕ) → IsAhead place old.window bytes a.now.disks → BreaksAhead old bytes at
scanned_broken place a b old mid at scanned more told damaged bytes ahead =
    let same = disks_same a b scanned.looks told in
    let is = damaged (told_after a b scanned.looks told) in
    let here = is.place_is in
    let reaches = scanned.reaches told bytes ahead in
    let short = reaches.leads.shorter in
    let long = ahead.long in
    let rest_long = reaches.ahead.long in
    let later = scanned.at in
    let old_end = old.placed in
    let mid_end = mid.placed in
    let end = ap (λ e. e.end_off) scanned.expected in
    let last = ap (λ e. e.last) scanned.expected in
    let h = history_of old.expected in
    let count : suc (more_of mid) ≡ old.expected.last - mid.seq = omega arith in
    let none : (r : LogRec) (rest : List ℕ) → Follows h mid.seq mid.time (more_of mid) reaches.rest r rest → ⊥ =
    λ r rest follows. is.none reaches.rest (subst (λ (d : Disks). IsAhead place mid.window reaches.rest d) (sym same) reaches.ahead) r rest
    (subst (λ e. Follows (history_of e) mid.seq mid.time (more_of mid) reaches.rest r rest) (sym scanned.expected) follows) in
    let broken : IsBroken h mid.seq mid.time (old.expected.last - mid.seq) reaches.rest 0 =
    subst (λ (n : ℕ). IsBroken h mid.seq mid.time n reaches.rest 0) count (inl (refl, none)) in
    let place_is : 0 + (length bytes - length reaches.rest) ≡ at - old.window.at = omega arith in
    record {
      least = omega arith;
      broken = subst (λ (n : ℕ). IsBroken h old.seq old.time (old.expected.last - old.seq) bytes n) place_is (reaches.leads.broken 0 broken);
    }

-- which answer of reading the next record is one of damage
pub was_damaged : (fault : ScanFault) (at : ℕ) → check_fault fault ≡ check.Damaged at → fault ≡ scan.Damaged at
was_damaged scan.DiskFault at e = cc
was_damaged (scan.Damaged n) at e = cc

-- the bytes of a scan that is at the first record are all of them
pub breaks_first : (place : RingPlace) (e : Expected) (s : Scan) (bytes : List ℕ) (disks : Disks) (at : ℕ) → IsAtFirst e s → IsWindow place e.first_off e.end_off bytes disks
    → (IsAhead place s.window bytes disks → BreaksAhead s bytes at) → BreaksAt e bytes at
breaks_first place e s bytes disks at first window breaks =
    let here = first.at in
    let placed = s.placed in
    let end = ap (λ q. q.end_off) first.expected in
    let long = window.long in
    let is = breaks (record { long = omega arith; there = subst (λ (n : ℕ). RingHas place n bytes disks) (sym first.at) window.there }) in
    let least = is.least in
    record {
      least = omega arith;
      broken =
          subst (λ (n : ℕ). IsBroken (history_of e) e.first e.base_time (e.last - e.first) bytes (at - n)) first.at
          (subst (λ (n : ℕ). IsBroken (history_of e) n e.base_time (e.last - n) bytes (at - s.window.at)) first.seq
          (subst (λ (n : ℕ). IsBroken (history_of e) s.seq n (e.last - s.seq) bytes (at - s.window.at)) first.time
          (subst (λ q. IsBroken (history_of q) s.seq s.time (q.last - s.seq) bytes (at - s.window.at)) first.expected is.broken)));
    }
