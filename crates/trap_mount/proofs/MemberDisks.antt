-- How the members' disks are made, one after the other.
use Rattle.std.proofs.Common.{◌≡◌, ◌≢◌, ◌⊎◌, ℕ, ◌+◌, ◌<◌, Some, IsTrue, ⊎_elim, sym, subst, ◌∙◌, arith}
use Rattle.std.proofs.lemmas.Bool.{cases_eq}
use Rattle.trap_bank.specs.Disks.{View, Disks}
use Rattle.trap_bank.specs.Steps.{Moves}
use Rattle.trap_bank.proofs.Moves.{moves_then}
use Rattle.trap_format.specs.MemberDisk.{member_size}
use Rattle.trap_model.specs.declared.numbers.Geometry.{Geometry}
use Rattle.trap_mount.specs.Creating.{OnlyDisk, OnlyMembers, new_member, HasMember, HasNewMembers, AreSized}

module _ (g : Geometry) (m : ℕ) where
  -- a member's disk is none of the others
  beside_members : m < g.members → (x y : Disks) → OnlyDisk (m + 1) x y → OnlyMembers g x y
  beside_members inside x y only e out = only e (λ is. ⊎_elim (λ (log : e ≡ 0). omega (arith, is, log)) (λ (beyond : g.members < e). omega (arith, is, beyond, inside)) out)

  -- the next member's disk is made
  pub members_more : (a b c : View) → m < g.members → Moves a b (OnlyMembers g) (HasNewMembers g m) → Moves b c (OnlyDisk (m + 1)) (HasMember g m) → Moves a c (OnlyMembers g) (HasNewMembers g (m + 1))
  members_more a b c inside before next = moves_then a b c (OnlyMembers g) (HasNewMembers g m) (OnlyDisk (m + 1)) (HasMember g m) (OnlyMembers g) (HasNewMembers g (m + 1)) before next
      (λ x y was step. step)
      (λ x y z was step mid only e out. beside_members inside y.disks z.disks only e out ∙ step.others e out)
      (λ x y z was step mid made. record {
        others = λ e out. beside_members inside y.disks z.disks made.others e out ∙ step.others e out;
        disks = λ k below. ⊎_elim
            (λ (is : k ≡ m). subst (λ (j : ℕ). z.disks (j + 1) ≡ Some (new_member g j)) (sym is) made.disk)
            (λ (earlier : k ≢ m). made.others (k + 1) (λ same. earlier (omega (arith, same))) ∙ step.disks k (omega (arith, below, earlier)))
            (cases_eq k m);
      })

  -- while it is made
  pub members_part : (a b c : View) → m < g.members → Moves a b (OnlyMembers g) (HasNewMembers g m) → Moves b c (OnlyDisk (m + 1)) (OnlyDisk (m + 1)) → Moves a c (OnlyMembers g) (OnlyMembers g)
  members_part a b c inside before next = moves_then a b c (OnlyMembers g) (HasNewMembers g m) (OnlyDisk (m + 1)) (OnlyDisk (m + 1)) (OnlyMembers g) (OnlyMembers g) before next
      (λ x y was step. step)
      (λ x y z was step mid only e out. beside_members inside y.disks z.disks only e out ∙ step.others e out)
      (λ x y z was step mid only e out. beside_members inside y.disks z.disks only e out ∙ step.others e out)

  -- what a read gives of the other disks
  pub members_touch : (a b c : View) → m < g.members → b.tells ≡ a.tells → (IsTrue a.tells → OnlyMembers g a.now.disks b.now.disks) → (IsTrue b.tells → OnlyDisk (m + 1) b.now.disks c.now.disks)
      → IsTrue a.tells → OnlyMembers g a.now.disks c.now.disks
  members_touch a b c inside tells first second told e out = beside_members inside b.now.disks c.now.disks (second (subst IsTrue (sym tells) told)) e out ∙ first told e out

-- a disk beside the members' isn't a member's
pub apart_from : (g : Geometry) (m e : ℕ) → m < g.members → (e ≡ 0) ⊎ (g.members < e) → e ≢ m + 1
apart_from g m e inside = ⊎_elim (λ (zero_ : e ≡ 0). λ is. omega (arith, zero_, is)) (λ (beyond : g.members < e). λ is. omega (arith, inside, beyond, is))

-- one disk more has its size
pub sized_more : (g : Geometry) (n : ℕ) (a b : View) → ((e : ℕ) → e ≢ n + 1 → b.sizes e ≡ a.sizes e) → AreSized g n a → b.sizes (n + 1) ≡ Some (member_size g) → AreSized g (n + 1) b
sized_more g n a b same sized next m below =
    ⊎_elim (λ (is : m ≡ n). subst (λ (k : ℕ). b.sizes (k + 1) ≡ Some (member_size g)) (sym is) next)
    (λ (other : m ≢ n). same (m + 1) (λ is. other (omega (arith, is))) ∙ sized m (omega (arith, below, other)))
    (cases_eq m n)
