-- How often reads call the bank.
use Rattle.std.proofs.Common.{◌≡◌, ◌≢◌, ℕ, ◌+◌, ◌≤◌, List, Option, Some, None, Result, Ok, Err, OnOk, inl, inr, sym, subst, ap, ◌∙◌, arith}
use Rattle.std.specs.Prelude.{IfErr}
use Rattle.std.proofs.lemmas.Result.{on_ok_weaker}
use Rattle.trap_model.specs.declared.numbers.Geometry.{Geometry}
use Rattle.trap_bank.specs.Disks.{View}
use Rattle.trap_bank.specs.Calls.{Reads}
use Rattle.trap_bank.specs.Called.{CalledTimes, TakesCalls}
use Rattle.trap_bank.proofs.Called.{called_once, not_called, called_then, called_at_most, at_most_then, at_most_more}
use Rattle.trap_map.specs.declared.places.Place.{Place}
use Rattle.trap_map.specs.Layout.{parity_member, block_place}
use Rattle.trap_stage.specs.Staged.{Staged, newest_at}
use Rattle.trap_raid.specs.declared.reads.MemberFailed.{MemberFailed}
use Rattle.trap_raid.specs.Reads.{IsReadFor, StopsPlanAt}
use Rattle.trap_raid.specs.Standing.{calls_for, bare_others, reads_of, reads_until, plan_reads}
use Rattle.trap_raid.proofs.StandingLemmas.{reads_pending, reads_own, reads_others, until_own, until_others, bare_more, bare_same, bare_grows}

-- ---- in general
-- the same number by another name
pub called_are : (a b : ℕ) (x y : View) → a ≡ b → CalledTimes a x y → CalledTimes b x y
called_are a b x y e called = subst (λ (n : ℕ). CalledTimes n x y) e called

pub takes_are : {T E : Type 0} (a b : ℕ) (result : Result T E) (x y : View) → a ≡ b → TakesCalls a result x y → TakesCalls b result x y
takes_are {T} {E} a b result x y e takes = subst (λ (n : ℕ). TakesCalls {T = T} {E = E} n result x y) e takes

on_ok_always : {T E : Type 0} (result : Result T E) (P : Type 0) → P → OnOk result P
on_ok_always (Ok v) P p = p
on_ok_always (Err e) P p = tt

-- exactly so many on every answer
pub takes_always : {T E : Type 0} (calls : ℕ) (result : Result T E) (x y : View) → CalledTimes calls x y → TakesCalls calls result x y
takes_always calls result x y called = record { ok = on_ok_always result (CalledTimes calls x y) called; most = called_at_most calls calls x y (omega arith) called }

-- calls, and then more
pub takes_then : {T E : Type 0} (a b : ℕ) (result : Result T E) (x y z : View) → CalledTimes a x y → TakesCalls b result y z → TakesCalls (a + b) result x z
takes_then a b result x y z first second = record {
  ok = on_ok_weaker result (λ (called : CalledTimes b y z). called_then a b x y z first called) second.ok;
  most = at_most_then a b (a + b) x y z (omega arith) (called_at_most a a x y (omega arith) first) second.most;
}

-- a part that failed, of more
pub takes_failed : {T E U F : Type 0} (a whole : ℕ) (part : Result T E) (result : Result U F) (why : F) (x y : View) → a ≤ whole → Err why ≡ result
    → TakesCalls a part x y → TakesCalls whole result x y
takes_failed {U = U} {F = F} a whole part result why x y less is takes =
    subst (λ (r : Result U F). TakesCalls whole r x y) is (record { ok = tt; most = at_most_more a whole x y less takes.most })

-- one call of `read`
pub read_called : {T E : Type 0} (result : Result T E) (old new : View) (d at : ℕ) (before after : List ℕ) → Reads d at before after result old new → CalledTimes 1 old new
read_called result old new d at before after call = called_once result old new call.goes

-- ---- what stands at a member's place
pub standing_pending_calls : (o : Option (List ℕ)) (bytes : List ℕ) (v : View) → o ≡ Some bytes → CalledTimes (calls_for o) v v
standing_pending_calls o bytes v found = called_are 0 (calls_for o) v v (sym (ap (λ (p : Option (List ℕ)). calls_for p) found)) (not_called v)

pub standing_bare_calls : (o : Option (List ℕ)) (x y : View) → o ≡ None → CalledTimes 1 x y → CalledTimes (calls_for o) x y
standing_bare_calls o x y none called = called_are 1 (calls_for o) x y (sym (ap (λ (p : Option (List ℕ)). calls_for p) none)) called

-- ---- the others of a row
module _ (g : Geometry) (writes : List Staged) (row one n : ℕ) (x y : View) (called : CalledTimes (bare_others g writes row one n) x y) where
  pub others_next : (z : View) → n ≢ one → CalledTimes (calls_for (newest_at g writes row n)) y z → CalledTimes (bare_others g writes row one (n + 1)) x z
  others_next z other more =
      called_are (bare_others g writes row one n + calls_for (newest_at g writes row n)) (bare_others g writes row one (n + 1)) x z (sym (bare_more g writes row one n other))
      (called_then (bare_others g writes row one n) (calls_for (newest_at g writes row n)) x y z called more)

  pub others_skip : n ≡ one → CalledTimes (bare_others g writes row one (n + 1)) x y
  others_skip e = called_are (bare_others g writes row one n) (bare_others g writes row one (n + 1)) x y (sym (bare_same g writes row one n e)) called

  pub others_failed : {T E U F : Type 0} (part : Result T E) (result : Result U F) (why : F) (members : ℕ) (z : View) → n + 1 ≤ members → n ≢ one → Err why ≡ result
      → CalledTimes (calls_for (newest_at g writes row n)) y z → TakesCalls (bare_others g writes row one members) result x z
  others_failed part result why members z below other is more =
      let grows = bare_grows g writes row one (n + 1) members below in
      takes_failed (bare_others g writes row one (n + 1)) (bare_others g writes row one members) part result why x z (omega arith) is
      (takes_always (bare_others g writes row one (n + 1)) part x z (others_next z other more))

  -- a member failed, and nothing was read after it
  pub others_stopped : {U : Type 0} (result : Result U MemberFailed) (failed : MemberFailed) (z : View) → Err failed ≡ result → failed.member ≡ n → newest_at g writes row n ≡ None
      → CalledTimes (calls_for (newest_at g writes row n)) y z → IfErr result (λ f. CalledTimes (bare_others g writes row one f.member + 1) x z)
  others_stopped {U} result failed z is at none more =
      subst (λ (r : Result U MemberFailed). IfErr r (λ f. CalledTimes (bare_others g writes row one f.member + 1) x z)) is
      (called_are (bare_others g writes row one n + calls_for (newest_at g writes row n)) (bare_others g writes row one failed.member + 1) x z
      (ap (λ (o : Option (List ℕ)). bare_others g writes row one n + calls_for o) none ∙ ap (λ (k : ℕ). bare_others g writes row one k + 1) (sym at))
      (called_then (bare_others g writes row one n) (calls_for (newest_at g writes row n)) x y z called more))

  pub others_done : {T E : Type 0} (result : Result T E) (members : ℕ) → n ≡ members → TakesCalls (bare_others g writes row one members) result x y
  others_done result members e =
      takes_always (bare_others g writes row one members) result x y
      (called_are (bare_others g writes row one n) (bare_others g writes row one members) x y (ap (λ (k : ℕ). bare_others g writes row one k) e) called)

-- ---- a read of a place
-- bytes are pending for it
pub pending_calls : {T E : Type 0} (g : Geometry) (lost : Option ℕ) (writes : List Staged) (row member : ℕ) (bytes : List ℕ) (result : Result T E) (v : View)
    → newest_at g writes row member ≡ Some bytes → TakesCalls (reads_of g lost writes row member) result v v
pending_calls g lost writes row member bytes result v found =
    takes_always (reads_of g lost writes row member) result v v
    (called_are 0 (reads_of g lost writes row member) v v (sym (reads_pending g lost writes row member bytes found)) (not_called v))

-- its member isn't lost
pub own_calls : {T E : Type 0} (g : Geometry) (lost : Option ℕ) (writes : List Staged) (row member : ℕ) (result : Result T E) (old new : View)
    → newest_at g writes row member ≡ None → lost ≢ Some member → CalledTimes 1 old new → TakesCalls (reads_of g lost writes row member) result old new
own_calls g lost writes row member result old new none apart called =
    takes_always (reads_of g lost writes row member) result old new
    (called_are 1 (reads_of g lost writes row member) old new (sym (reads_own g lost writes row member none apart)) called)

-- it is
pub others_calls : {T E : Type 0} (g : Geometry) (lost : Option ℕ) (writes : List Staged) (row member : ℕ) (result : Result T E) (old new : View)
    → newest_at g writes row member ≡ None → lost ≡ Some member → TakesCalls (bare_others g writes row member g.members) result old new → TakesCalls (reads_of g lost writes row member) result old new
others_calls g lost writes row member result old new none gone takes =
    takes_are (bare_others g writes row member g.members) (reads_of g lost writes row member) result old new (sym (reads_others g lost writes row member none gone)) takes

-- ---- a read of a place that failed
pub own_stopped : {T : Type 0} (g : Geometry) (lost : Option ℕ) (writes : List Staged) (row member : ℕ) (result : Result T MemberFailed) (old new : View) → lost ≢ Some member
    → CalledTimes 1 old new → IfErr result (λ f. CalledTimes (reads_until g lost writes row member f.member) old new)
own_stopped g lost writes row member (Ok v) old new apart called = tt
own_stopped g lost writes row member (Err f) old new apart called =
    called_are 1 (reads_until g lost writes row member f.member) old new (sym (until_own g lost writes row member f.member apart)) called

pub lost_stopped : {T : Type 0} (g : Geometry) (lost : Option ℕ) (writes : List Staged) (row member : ℕ) (result : Result T MemberFailed) (old new : View) → lost ≡ Some member
    → IfErr result (λ f. CalledTimes (bare_others g writes row member f.member + 1) old new)
    → IfErr result (λ f. CalledTimes (reads_until g lost writes row member f.member) old new)
lost_stopped g lost writes row member (Ok v) old new gone called = tt
lost_stopped g lost writes row member (Err f) old new gone called =
    called_are (bare_others g writes row member f.member + 1) (reads_until g lost writes row member f.member) old new (sym (until_others g lost writes row member f.member gone)) called

-- ---- the two reads of a plan
reads_are : (g : Geometry) (lost : Option ℕ) (writes : List Staged) (block : ℕ) (place : Place) (member : ℕ) → place ≡ block_place g block
    → member ≡ parity_member g place.row → reads_of g lost writes place.row place.member + reads_of g lost writes place.row member ≡ plan_reads g lost writes block
reads_are g lost writes block place member is_place is_member =
    ap (λ (m : ℕ). reads_of g lost writes place.row place.member + reads_of g lost writes place.row m) is_member
    ∙ ap (λ (p : Place). reads_of g lost writes p.row p.member + reads_of g lost writes p.row (parity_member g p.row)) is_place

module _ (g : Geometry) (lost : Option ℕ) (writes : List Staged) (block : ℕ) (place : Place) (member : ℕ) (is_place : place ≡ block_place g block)
    (is_member : member ≡ parity_member g place.row) where
  -- the first one failed
  pub plan_failed_first : {T E U F : Type 0} (first : Result T E) (result : Result U F) (why : F) (x y : View) → Err why ≡ result
      → TakesCalls (reads_of g lost writes place.row place.member) first x y → TakesCalls (plan_reads g lost writes block) result x y
  plan_failed_first first result why x y is one =
      let sum = reads_are g lost writes block place member is_place is_member in
      takes_failed (reads_of g lost writes place.row place.member) (plan_reads g lost writes block) first result why x y (omega arith) is one

  pub plan_stopped_first : {U : Type 0} (result : Result U MemberFailed) (failed : MemberFailed) (x y : View) → Err failed ≡ result
      → IsReadFor g lost writes place.row place.member failed.member → CalledTimes (reads_until g lost writes place.row place.member failed.member) x y
      → IfErr result (λ f. StopsPlanAt g lost writes block x y f.member)
  plan_stopped_first {U} result failed x y is read called =
      subst (λ (r : Result U MemberFailed). IfErr r (λ f. StopsPlanAt g lost writes block x y f.member)) is
      (inl (subst (λ (p : Place). IsReadFor g lost writes p.row p.member failed.member × CalledTimes (reads_until g lost writes p.row p.member failed.member) x y) is_place (read, called)))

  pub plan_stopped_second : {U : Type 0} (result : Result U MemberFailed) (failed : MemberFailed) (x y z : View) → Err failed ≡ result
      → IsReadFor g lost writes place.row member failed.member → CalledTimes (reads_of g lost writes place.row place.member) x y
      → CalledTimes (reads_until g lost writes place.row member failed.member) y z → IfErr result (λ f. StopsPlanAt g lost writes block x z f.member)
  plan_stopped_second {U} result failed x y z is read first second =
      let P : ℕ → ℕ → ℕ → Type 0 = λ row own other. IsReadFor g lost writes row other failed.member
      × CalledTimes (reads_of g lost writes row own + reads_until g lost writes row other failed.member) x z in
      subst (λ (r : Result U MemberFailed). IfErr r (λ f. StopsPlanAt g lost writes block x z f.member)) is
      (inr (subst (λ (p : Place). P p.row p.member (parity_member g p.row)) is_place (subst (λ (m : ℕ). P place.row place.member m) is_member (
        read,
        called_then (reads_of g lost writes place.row place.member) (reads_until g lost writes place.row member failed.member) x y z first second,
      ))))

  -- so did the second, or neither did
  pub plan_both : {T E : Type 0} (second : Result T E) (x y z : View) → CalledTimes (reads_of g lost writes place.row place.member) x y
      → TakesCalls (reads_of g lost writes place.row member) second y z → TakesCalls (plan_reads g lost writes block) second x z
  plan_both second x y z one two =
      takes_are (reads_of g lost writes place.row place.member + reads_of g lost writes place.row member) (plan_reads g lost writes block) second x z
      (reads_are g lost writes block place member is_place is_member)
      (takes_then (reads_of g lost writes place.row place.member) (reads_of g lost writes place.row member) second x y z one two)

  pub plan_done : {T E : Type 0} (result : Result T E) (x y z : View) → CalledTimes (reads_of g lost writes place.row place.member) x y
      → CalledTimes (reads_of g lost writes place.row member) y z → TakesCalls (plan_reads g lost writes block) result x z
  plan_done result x y z one two =
      plan_both result x y z one (takes_always (reads_of g lost writes place.row member) result y z two)
