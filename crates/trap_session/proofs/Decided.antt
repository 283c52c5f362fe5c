-- Where the array's own numbers decide a reply, a call of the array answers that refusal, and makes no call of the bank.
use Rattle.std.proofs.Common.{◌≡◌, ◌⊎◌, inl, inr, ⊎_elim, ℕ, ◌+◌, ◌^◌, ◌<◌, ◌≤◌, ◌==◌, nat_lt, nat_le, Bool, true, false, if◌then◌else◌, Option, Some, None, IsTrue, Result, Ok, Err, OnOk, OnErr, refl, sym, ap, subst, ◌∙◌, arith}
use Rattle.std.proofs.lemmas.Bool.{le-leb, lt-leb}
use Rattle.std.proofs.lemmas.Bool.Decides.{leb_tells}
use Rattle.std.specs.Prelude.{◌≢◌, min, max, List, ◌++◌, ◌-◌}
use Rattle.trap_bank.specs.Disks.{Contents, View, byte, size_of}
use Rattle.trap_bank.specs.Calls.{Says, SaysPart, LeftSaying}
use Rattle.trap_bank.specs.Faults.{Rose}
use Rattle.trap_format.specs.declared.head.Head.{Head}
use Rattle.trap_index.specs.Indexed.{Indexed, last_seq}
use Rattle.trap_model.specs.Image.{volume}
use Rattle.trap_model.specs.declared.request.Refusal.{Refusal}
use Rattle.trap_model.specs.declared.request.Refusal.TheVariants.{NoLine, NoBlock, TimeBack, Worn, Full, NotKept, Ahead}
use Rattle.trap_model.specs.declared.request.Reply.{Reply}
use Rattle.trap_model.specs.declared.request.Reply.TheVariants.{No}
use Rattle.trap_array.specs.Calls.{Mounted}
use Rattle.trap_array.specs.Causes.{Reasons, DeniedBy}
use Rattle.trap_array.specs.Instants.{number_refused, time_refused}
use Rattle.trap_array.specs.Turning.{early_refusal}
use Rattle.trap_array.specs.Untouched.{Untouched}
use Rattle.trap_array.specs.declared.fault.Denied.{Denied}
use Rattle.trap_array.specs.declared.fault.Denied.TheVariants.{Refused}
use Rattle.trap_session.specs.Deciding.{refusal_reply, decided_of_block}
use Rattle.trap_session.specs.Denying.{EndsSession}

-- a reason that is neither that the block isn't there nor that there is no room
abbrev pub IsOwn : Refusal → Type 0
IsOwn why = (why ≢ NoBlock) × (why ≢ Full)

abbrev pub AreOwn : Option Refusal → Type 0
AreOwn reason = (why : Refusal) → reason ≡ Some why → IsOwn why

own_none : AreOwn None
own_none why is = absurd (cc is)

own_if : (b : Bool) (it : Refusal) (other : Option Refusal) → IsOwn it → AreOwn other → AreOwn (if b then Some it else other)
own_if true it other here there why is = let same : it ≡ why = cc is in subst IsOwn same here
own_if false it other here there why is = there why is

pub read_own : AreOwn None
read_own = own_none

pub early_own : (h : Head) (time : ℕ) → AreOwn (early_refusal h time)
early_own h time = own_if (nat_lt time h.last_time) (TimeBack h.last_time) _ ((λ e. cc e), (λ e. cc e))
    (own_if (h.last == 2 ^ 40) Worn None ((λ e. cc e), (λ e. cc e)) own_none)

pub number_own : (i : Indexed) (seq : ℕ) → AreOwn (number_refused i seq)
number_own i seq = own_if (nat_lt seq i.first) (NotKept i.first) _ ((λ e. cc e), (λ e. cc e))
    (own_if (nat_lt (last_seq i) seq) (Ahead (last_seq i)) None ((λ e. cc e), (λ e. cc e)) own_none)

pub time_own : (i : Indexed) (time : ℕ) → AreOwn (time_refused i time)
time_own i time = own_if (nat_lt time i.base_time) (NotKept i.base_time) None ((λ e. cc e), (λ e. cc e)) own_none

-- the call refused for this reason, at once
record IsRefused {T : Type 0} (call : Result T Denied) (reply : Reply) (v u : View) : Type 0 where
  why : Refusal
  is : call ≡ Err (Refused why)
  says : No why ≡ reply
  still : Untouched v u

module _ {T : Type 0} (a : Mounted) (block : ℕ) (reasons : Reasons) (call : Result T Denied) (v u : View) (denied : DeniedBy a block reasons call v u) (own : AreOwn reasons.own) (reply : Reply) where
  decided : decided_of_block a block reasons.own ≡ Some reply → IsRefused call reply v u
  decided same = ⊎_elim
      (λ (yes : (nat_le (volume a.g) block ≡ true) × (volume a.g ≤ block)). beyond yes.1 (subst Decides yes.0 same))
      (λ (no : (nat_le (volume a.g) block ≡ false) × (block < volume a.g)). there no.1 a.is_stopped refl (subst Decides no.0 same))
      (leb_tells (volume a.g) block)
    where
      Decides : Bool → Type 0
      Decides above = (if above then Some (No NoBlock) else if a.is_stopped then None else refusal_reply reasons.own) ≡ Some reply

      beyond : volume a.g ≤ block → Some (No NoBlock) ≡ Some reply → IsRefused call reply v u
      beyond above is = record { why = NoBlock; is = denied.no_block.1 above; says = cc is; still = denied.untouched (inl above) }

      by_reason : block < volume a.g → a.is_stopped ≡ false → (reason : Option Refusal) → reasons.own ≡ reason → refusal_reply reason ≡ Some reply → IsRefused call reply v u
      by_reason below running None reason is = absurd (cc is)
      by_reason below running (Some why) reason is =
          let mine = own why reason in
          record { why = why; is = (denied.refused why mine.0 mine.1).1 (below, running, reason); says = cc is; still = denied.at_once why reason }

      there : block < volume a.g → (stopped : Bool) → a.is_stopped ≡ stopped → (if stopped then None else refusal_reply reasons.own) ≡ Some reply → IsRefused call reply v u
      there below true stopped is = absurd (cc is)
      there below false running is = by_reason below running reasons.own refl is

  -- a call that went well decided nothing
  pub decided_well : (value : T) → call ≡ Ok value → decided_of_block a block reasons.own ≡ Some reply → ⊥
  decided_well value well same = let refused = decided same in cc (well, refused.is)

  -- nor one in which something failed
  pub decided_fault : (e : Denied) → call ≡ Err e → EndsSession e → decided_of_block a block reasons.own ≡ Some reply → ⊥
  decided_fault e failed ends same = let refused = decided same in
      subst EndsSession (is_same e refused.why (sym failed ∙ refused.is)) ends
    where
      is_same : (e : Denied) (why : Refusal) → ◌≡◌ {A = Result T Denied} (Err e) (Err (Refused why)) → e ≡ Refused why
      is_same e why is = cc is

  -- and a refusal is the reply
  pub decided_refused : (why : Refusal) → call ≡ Err (Refused why) → decided_of_block a block reasons.own ≡ Some reply → (No why ≡ reply) × Untouched v u
  decided_refused why is same = let refused = decided same in
      (let one : why ≡ refused.why = same_why why refused.why (sym is ∙ refused.is) in ap No one ∙ refused.says, refused.still)
    where
      same_why : (x y : Refusal) → ◌≡◌ {A = Result T Denied} (Err (Refused x)) (Err (Refused y)) → x ≡ y
      same_why x y is = cc is

-- What is refused is decided so, but perhaps that there is no room.
module _ {T : Type 0} (a : Mounted) (block : ℕ) (reasons : Reasons) (call : Result T Denied) (v u : View) (denied : DeniedBy a block reasons call v u) where
  by_own : (why : Refusal) → IsOwn why → call ≡ Err (Refused why) → decided_of_block a block reasons.own ≡ Some (No why)
  by_own why own is = let all = (denied.refused why own.0 own.1).0 is in
      ap (λ (above : Bool). if above then Some (No NoBlock) else if a.is_stopped then None else refusal_reply reasons.own) (lt-leb (volume a.g) block all.0)
      ∙ ap (λ (stopped : Bool). if stopped then None else refusal_reply reasons.own) all.1
      ∙ ap refusal_reply all.2

  pub refused_possible : (why : Refusal) → call ≡ Err (Refused why) → (decided_of_block a block reasons.own ≡ Some (No why)) ⊎ ((why ≡ Full) × reasons.tight)
  refused_possible NoLine is = inl (by_own NoLine ((λ e. cc e), (λ e. cc e)) is)
  refused_possible NoBlock is = inl (ap (λ (above : Bool). if above then Some (No NoBlock) else if a.is_stopped then None else refusal_reply reasons.own)
      (le-leb (volume a.g) block (denied.no_block.0 is)))
  refused_possible (TimeBack last) is = inl (by_own (TimeBack last) ((λ e. cc e), (λ e. cc e)) is)
  refused_possible Worn is = inl (by_own Worn ((λ e. cc e), (λ e. cc e)) is)
  refused_possible Full is = inr (refl, denied.full is)
  refused_possible (NotKept bound) is = inl (by_own (NotKept bound) ((λ e. cc e), (λ e. cc e)) is)
  refused_possible (Ahead last) is = inl (by_own (Ahead last) ((λ e. cc e), (λ e. cc e)) is)

  -- and a read finds room
  pub read_possible : (reasons.tight → ⊥) → (why : Refusal) → call ≡ Err (Refused why) → decided_of_block a block reasons.own ≡ Some (No why)
  read_possible roomy why is = ⊎_elim (λ decided. decided) (λ tight. absurd (roomy tight.1)) (refused_possible why is)

-- a piece that was said after a call that made none of the bank
pub says_since : {T E : Type 0} (piece : List ℕ) (result : Result T E) (v u w : View) → Untouched v u → Says piece result u w → Says piece result v w
says_since {T} {E} piece result v u w still call = record {
  goes = record {
    tells = call.goes.tells ∙ still.tells;
    faults = λ e. subst (λ (n : ℕ). n ≤ w.faults e) (still.faults e) (call.goes.faults e);
    port_faults = subst (λ (n : ℕ). n ≤ w.port_faults) still.port_faults call.goes.port_faults;
    later = subst (λ (n : ℕ). n ≤ w.moment) still.moment call.goes.later;
    rises = λ told. subst (λ (n : ℕ). OnOk result (n < w.moment)) still.moment (call.goes.rises (now_told told));
    same_by_one = call.goes.same_by_one ∙ still.by_one;
    by_one = λ told counts. subst (λ (n : ℕ). w.moment ≡ max n (min (n + 1) (2 ^ 64 - 1))) still.moment
        (call.goes.by_one (now_told told) (subst IsTrue (sym still.by_one) counts));
  };
  sizes = λ e. call.sizes e ∙ still.sizes e;
  cause = subst (λ (n : ℕ). OnErr result (Rose n w.port_faults)) still.port_faults call.cause;
  time = record {
    nothing_else = λ t c le left. ⊎_elim (λ before. inl ((still.left t c).0 before)) (λ in_call. inr (saying c in_call)) (call.time.nothing_else t c (at_most t le) left);
    keeps = λ t c le left. call.time.keeps t c (at_most t le) ((still.left t c).1 left);
  };
  disks = λ told. call.disks (now_told told) ∙ ap (λ (c : Contents). c.disks) still.now;
  fewer = λ told e i more. (still.unsynced e i).0 (call.fewer (now_told told) e i more);
  said = λ told. subst (λ (c : Contents). OnOk result (w.now.said ≡ c.said ++ piece)) still.now (call.said (now_told told));
  part = λ told. subst (λ (c : Contents). SaysPart piece c w.now) still.now (call.part (now_told told));
}
  where
    now_told : IsTrue v.tells → IsTrue u.tells
    now_told told = subst IsTrue (sym still.tells) told

    at_most : (t : ℕ) → t ≤ v.moment → t ≤ u.moment
    at_most t le = omega (arith, le, still.moment)

    saying : (c : Contents) → LeftSaying piece u c → LeftSaying piece v c
    saying c left = record {
      told = subst IsTrue still.tells left.told;
      disks = record {
        sizes = λ e. left.disks.sizes e ∙ ap (λ (x : Contents). size_of (x.disks e)) still.now;
        bytes = λ e i clean. left.disks.bytes e i (λ more. clean ((still.unsynced e i).0 more)) ∙ ap (λ (x : Contents). byte x.disks e i) still.now;
      };
      says = subst (λ (x : Contents). SaysPart piece x c) still.now left.says;
    }
