-- What a crash leaves while a replica is made, and then says its line.
use Rattle.std.proofs.Common.{◌≡◌, ◌⊎◌, inl, inr, ⊎_elim, ℕ, List, [], ◌++◌, Some, None, Result, true, false, IsTrue, refl, sym, ap, subst, ◌∙◌, append-nil}
use Rattle.trap_bank.specs.Calls.{IsLawful, MayLeave, Says}
use Rattle.trap_bank.specs.Disks.{Contents, Disks, View, Quiet, Differs}
use Rattle.trap_bank.specs.Steps.{Steps, Moves, Same, OnlyReads, SpokePart}
use Rattle.trap_bank.proofs.Moves.{then_, weaken, read_is_left, say_steps}
use Rattle.trap_format.specs.declared.limits.Field.{Field}
use Rattle.trap_format.specs.declared.shape.Shape.{Shape}
use Rattle.trap_replica.specs.Applying.{Elsewhere}
use Rattle.trap_bank.proofs.Regions.{absent_disk}
use Rattle.trap_replica.specs.Creating.{MakesReplica, HasMade, MakesDisk, IsReplicaGateOff}
use Rattle.trap_replica.proofs.NewReplica.{absent_off}
use Rattle.trap_replica.specs.OnDisk.{ReplicaHolds}
use Rattle.trap_remote.specs.Ended.{changes_no_disk}
use Rattle.trap_remote.specs.Found.{ChangesBy, ChangesReplica, LeftSaid}
use Rattle.trap_remote.specs.Making.{first_broken_in, HasAskedNumbers, LeavesMade}
use Rattle.trap_remote.specs.declared.outcome.AskedReplica.{AskedReplica}
use Rattle.trap_remote.specs.declared.outcome.ReplicaEnd.{ReplicaEnd}
use Rattle.trap_remote.proofs.Framing.{changes_then, changes_spoken, elsewhere_same}

module _ (asked : AskedReplica) (number time : ℕ) (image : Shape → List (List ℕ)) (line : List ℕ) (some : [] ≡ line → ⊥) (a : View) (lawful : IsLawful a) where
  -- the gate of an absent disk 17 is off
  pub absent_gate : a.sizes 17 ≡ None → (x : Contents) → MayLeave a x → IsReplicaGateOff x.disks
  absent_gate none x was = absent_off x.disks (absent_disk (x.disks 17) (was.torn.disks.sizes 17 ∙ lawful.sized was.told 17 ∙ none))

  -- disks that a crash on entry might have left
  pub unmade : (x : Contents) (disks : Disks) → MayLeave a x → disks ≡ x.disks → LeavesMade asked number time image line a [] disks
  unmade x disks was same =
      let left = subst (λ (disks : Disks). Differs a.unsynced a.now.disks disks) (sym same) was.torn.disks in
      record {
        front = (line, refl);
        broken = λ field is. left;
        there = λ there. left;
        made = λ kept none. inl (subst IsReplicaGateOff (sym same) (absent_gate none x was));
        whole = λ is. absurd (some is);
      }

  -- a run that ended before anything was made
  pub unmade_steps : (b : View) → OnlyReads a b → (after : Contents → Contents → Type 0) → ((x y : Contents) → Quiet Same x y → after x y)
      → Steps a b (λ x y. LeftSaid (LeavesMade asked number time image line a) x.said y) after
  unmade_steps b reads after ends = weaken a b (Quiet Same) (Quiet Same) (λ x y. LeftSaid (LeavesMade asked number time image line a) x.said y) after reads.moves
      (λ x y was same. record { part = []; said = same.said ∙ sym (append-nil x.said); leaves = unmade x y.disks was same.disks })
      (λ x y was left same. ends x y same)

  module _ (kept : first_broken_in asked number ≡ None) (none : a.sizes 17 ≡ None) (s : Shape) (is_asked : HasAskedNumbers asked s) where
    no_field : {P : Type 0} (field : Field) → first_broken_in asked number ≡ Some field → P
    no_field field is = let both : None ≡ Some field = sym kept ∙ is in absurd (cc both)

    -- while it is made
    pub making : (disks : Disks) → IsReplicaGateOff disks ⊎ ReplicaHolds s number time (image s) disks → LeavesMade asked number time image line a [] disks
    making disks has = record {
      front = (line, refl);
      broken = λ field is. no_field field is;
      there = λ there. absurd (there none);
      made = λ kept none. ⊎_elim (λ no. inl no) (λ holds. inr (s, is_asked, holds)) has;
      whole = λ is. absurd (some is);
    }

    -- and when it is made
    pub is_made : (part rest : List ℕ) (disks : Disks) → part ++ rest ≡ line → ReplicaHolds s number time (image s) disks → LeavesMade asked number time image line a part disks
    is_made part rest disks front holds = record {
      front = (rest, front);
      broken = λ field is. no_field field is;
      there = λ there. absurd (there none);
      made = λ kept none. inr (s, is_asked, holds);
      whole = λ is. (s, is_asked, holds);
    }

    -- it isn't made whole, and nothing is said
    pub making_steps : (b : View) (during after : Disks → Disks → Type 0) (ends : Contents → Contents → Type 0) → Moves a b during after
        → ((x y : Disks) → during x y → IsReplicaGateOff y ⊎ ReplicaHolds s number time (image s) y) → ((x y : Contents) → MayLeave b y → Quiet after x y → ends x y)
        → Steps a b (λ x y. LeftSaid (LeavesMade asked number time image line a) x.said y) ends
    making_steps b during after ends moves has at_end = weaken a b (Quiet during) (Quiet after) (λ x y. LeftSaid (LeavesMade asked number time image line a) x.said y) ends moves
        (λ x y was step. record { part = []; said = step.said ∙ sym (append-nil x.said); leaves = making y.disks (has x.disks y.disks step.disks) })
        (λ x y was left step. at_end x y left step)

    -- it is made, and its line is said
    pub made_steps : (b c : View) (during : Disks → Disks → Type 0) (image0 : List (List ℕ)) (spoken ends : Contents → Contents → Type 0)
        → image0 ≡ image s
        → Moves a b during (HasMade s number time image0)
        → ((x y : Disks) → during x y → IsReplicaGateOff y ⊎ ReplicaHolds s number time (image s) y)
        → Steps b c (SpokePart line) spoken
        → ((x y z : Contents) → HasMade s number time (image s) x.disks z.disks → y.said ≡ x.said → spoken y z → ends x z)
        → ((y z : Contents) → spoken y z → z.disks ≡ y.disks)
        → Steps a c (λ x y. LeftSaid (LeavesMade asked number time image line a) x.said y) ends
    made_steps b c during image0 spoken ends is moves has spoke at_end same = then_ a b c (Quiet during) (Quiet (HasMade s number time image0)) (SpokePart line) spoken
        (λ x y. LeftSaid (LeavesMade asked number time image line a) x.said y) ends moves spoke
        (λ x y was step. record { part = []; said = step.said ∙ sym (append-nil x.said); leaves = making y.disks (has x.disks y.disks step.disks) })
        (λ x y z was step mid spoke. record {
          part = spoke.says.part;
          said = spoke.says.said ∙ ap (λ (l : List ℕ). l ++ spoke.says.part) step.said;
          leaves = is_made spoke.says.part spoke.says.rest z.disks spoke.says.whole (made_now x.disks y.disks z.disks spoke.disks step.disks).holds;
        })
        (λ x y z was step mid said. at_end x y z (made_now x.disks y.disks z.disks (same y z said) step.disks) step.said said)
      where
        made_now : (x y z : Disks) → z ≡ y → HasMade s number time image0 x y → HasMade s number time (image s) x z
        made_now x y z same made = subst (λ (disks : Disks). HasMade s number time (image s) x disks) (sym same) (subst (λ (i : List (List ℕ)). HasMade s number time i x y) is made)

-- what a new replica changes
pub making_changes : {T E : Type 0} (s : Shape) (result : Result T E) (a b : View) (during after : Disks → Disks → Type 0) → MakesDisk s result a b → Moves a b during after
    → ((x y : Disks) → during x y → Elsewhere x y) → ((x y : Disks) → after x y → Elsewhere x y) → ChangesBy Elsewhere a b
making_changes s result a b during after disk moves in_run at_end = record {
  now = λ told. (disk.touches told).disks;
  any_moment = weaken a b (Quiet during) (Quiet after) (λ x y. Elsewhere x.disks y.disks) (λ x y. Elsewhere x.disks y.disks) moves
      (λ x y was step. in_run x.disks y.disks step.disks) (λ x y was left step. at_end x.disks y.disks step.disks);
}

pub made_changes : {T E U F : Type 0} (ended : ReplicaEnd) (s : Shape) (result : Result T E) (a b c : View) (line : List ℕ) (during after : Disks → Disks → Type 0)
    → changes_no_disk ended ≡ false → MakesDisk s result a b → Moves a b during after → ((x y : Disks) → during x y → Elsewhere x y) → ((x y : Disks) → after x y → Elsewhere x y)
    → (said : Result U F) → Says line said b c → ChangesReplica ended a c
made_changes ended s result a b c line during after changed disk moves in_run at_end said says = record {
  sizes = λ e other. says.sizes e ∙ disk.sizes e other;
  elsewhere = changes_then Elsewhere Same Elsewhere a b c elsewhere_same (λ x y same. same) (making_changes s result a b during after disk moves in_run at_end)
      (changes_spoken b c line (say_steps said b c line says) says.disks);
  unchanged = λ is. let both : false ≡ true = sym changed ∙ is in absurd (cc both);
}

pub unmade_changes : {T E : Type 0} (ended : ReplicaEnd) (s : Shape) (result : Result T E) (a b : View) (during after : Disks → Disks → Type 0)
    → changes_no_disk ended ≡ false → MakesDisk s result a b → Moves a b during after → ((x y : Disks) → during x y → Elsewhere x y) → ((x y : Disks) → after x y → Elsewhere x y)
    → ChangesReplica ended a b
unmade_changes ended s result a b during after changed disk moves in_run at_end = record {
  sizes = disk.sizes;
  elsewhere = making_changes s result a b during after disk moves in_run at_end;
  unchanged = λ is. let both : false ≡ true = sym changed ∙ is in absurd (cc both);
}

-- what a read gives
pub making_now : {T E : Type 0} (s : Shape) (number time : ℕ) (image : List (List ℕ)) (result : Result T E) (a b : View) (during : Disks → Disks → Type 0) → MakesDisk s result a b
    → Moves a b during (MakesReplica s number time image) → IsTrue a.tells → Quiet (MakesReplica s number time image) a.now b.now
making_now s number time image result a b during disk moves told =
    let came = moves.now b.now (read_is_left b (subst IsTrue (sym moves.tells) told)) in
    record { disks = record { others = (disk.touches told).disks; disk = came.by.disks.disk }; said = (disk.touches told).said }

pub made_now : {T E : Type 0} (s : Shape) (number time : ℕ) (image : List (List ℕ)) (result : Result T E) (a b : View) (during : Disks → Disks → Type 0) → MakesDisk s result a b
    → Moves a b during (HasMade s number time image) → IsTrue a.tells → HasMade s number time image a.now.disks b.now.disks
made_now s number time image result a b during disk moves told =
    let came = moves.now b.now (read_is_left b (subst IsTrue (sym moves.tells) told)) in
    record { others = (disk.touches told).disks; holds = came.by.disks.holds; fresh = came.by.disks.fresh }
