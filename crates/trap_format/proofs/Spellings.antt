-- No bytes are two headers, or the values of two heads.
use Rattle.std.proofs.Common.{◌≡◌, ℕ, ◌^◌, ◌<◌, List, get_or, ap, sym, ◌∙◌, arith, subst}
use Rattle.std.proofs.Math.Bridge.{le_prop}
use Rattle.std.proofs.Math.Nat.{ℕ_set}
use Rattle.std.proofs.Math.Bool.{Bool-set}
use Rattle.std.specs.Prelude.{slice_range}
use Rattle.trap_model.specs.Limits.{AreWithinLimits}
use Rattle.trap_model.specs.declared.numbers.Geometry.{Geometry}
use Rattle.trap_format.specs.declared.head.Head.{Head}
use Rattle.trap_format.specs.LogDisk.{log_header, IsLogHeader}
use Rattle.trap_format.specs.MemberDisk.{member_header}
use Rattle.trap_format.specs.HeadValue.{IsHeadValue}
use Rattle.trap_format.proofs.BigEndian.{same_of_2, same_of_4, same_of_8}
use Rattle.trap_format.proofs.Heads.{head_fits, head_same}

-- numbers keep their limits in one way
limits_prop : (members chunk block rows slots gap entries ring : ℕ) → IsProp (AreWithinLimits members chunk block rows slots gap entries ring)
limits_prop members chunk block rows slots gap entries ring = hlevel (le_prop, ℕ_set, Bool-set)

abbrev geometry : (id members chunk block rows slots gap entries ring : ℕ) → AreWithinLimits members chunk block rows slots gap entries ring → Geometry
geometry id members chunk block rows slots gap entries ring within = record {
  id = id;
  members = members;
  chunk = chunk;
  block = block;
  rows = rows;
  slots = slots;
  gap =
      gap;
  entries = entries;
  ring = ring;
  within = within;
}

-- so an array's numbers are all that it is
same_numbers : (id i members m chunk c block b rows r slots s gap ga entries e ring ri : ℕ) → id ≡ i → members ≡ m → chunk ≡ c → block ≡ b → rows ≡ r → slots ≡ s
    → gap ≡ ga → entries ≡ e → ring ≡ ri → (w : AreWithinLimits members chunk block rows slots gap entries ring) (v : AreWithinLimits m c b r s ga e ri)
    → geometry id members chunk block rows slots gap entries ring w ≡ geometry i m c b r s ga e ri v
same_numbers id i members m chunk c block b rows r slots s gap ga entries e ring ri p1 p2 p3 p4 p5 p6 p7 p8 p9 w =
    let from0 : (v : AreWithinLimits members chunk block rows slots gap entries ring) → geometry id members chunk block rows slots gap entries ring w ≡ geometry id
    members chunk block rows slots gap entries ring v =
    λ v. ap (geometry id members chunk block rows slots gap entries ring) (limits_prop members chunk block rows slots gap entries ring w v) in
    let from1 = subst (λ (x : ℕ). (v : AreWithinLimits members chunk block rows slots gap entries ring)
    → geometry id members chunk block rows slots gap entries ring w ≡ geometry x members chunk block rows slots gap entries ring v) p1 from0 in
    let from2 = subst (λ (x : ℕ). (v : AreWithinLimits x chunk block rows slots gap entries ring)
    → geometry id members chunk block rows slots gap entries ring w ≡ geometry i x chunk block rows slots gap entries ring v) p2 from1 in
    let from3 = subst (λ (x : ℕ). (v : AreWithinLimits m x block rows slots gap entries ring)
    → geometry id members chunk block rows slots gap entries ring w ≡ geometry i m x block rows slots gap entries ring v) p3 from2 in
    let from4 = subst (λ (x : ℕ). (v : AreWithinLimits m c x rows slots gap entries ring) → geometry id members chunk block rows slots gap entries ring w ≡ geometry i m c
    x rows slots gap entries ring v) p4 from3 in
    let from5 = subst (λ (x : ℕ). (v : AreWithinLimits m c b x slots gap entries ring) → geometry id members chunk block rows slots gap entries ring w ≡ geometry i m c b
    x slots gap entries ring v) p5 from4 in
    let from6 = subst (λ (x : ℕ). (v : AreWithinLimits m c b r x gap entries ring) → geometry id members chunk block rows slots gap entries ring w ≡ geometry i m c b r x
    gap entries ring v) p6 from5 in
    let from7 = subst (λ (x : ℕ). (v : AreWithinLimits m c b r s x entries ring) → geometry id members chunk block rows slots gap entries ring w ≡ geometry i m c b r s x entries ring v) p7 from6 in
    let from8 = subst (λ (x : ℕ). (v : AreWithinLimits m c b r s ga x ring) → geometry id members chunk block rows slots gap entries ring w ≡ geometry i m c b r s ga x ring v) p8 from7 in
    subst (λ (x : ℕ). (v : AreWithinLimits m c b r s ga e x) → geometry id members chunk block rows slots gap entries ring w ≡ geometry i m c b r s ga e x v) p9 from8

pub same_geometry : (g h : Geometry) → g.id ≡ h.id → g.members ≡ h.members → g.chunk ≡ h.chunk → g.block ≡ h.block → g.rows ≡ h.rows → g.slots ≡ h.slots → g.gap ≡ h.gap
    → g.entries ≡ h.entries → g.ring ≡ h.ring → g ≡ h
same_geometry g h p1 p2 p3 p4 p5 p6 p7 p8 p9 = same_numbers _ _ _ _ _ _ _ _ _ _ _ _ _ _ _ _ _ _ p1 p2 p3 p4 p5 p6 p7 p8 p9 g.within h.within

pub logs_same : (g h : Geometry) (bytes : List ℕ) → g.id < 2 ^ 64 → h.id < 2 ^ 64 → IsLogHeader g bytes → IsLogHeader h bytes → g ≡ h
logs_same g h bytes a b p q =
    let e : log_header g ≡ log_header h = sym p.spelled ∙ q.spelled in
    let id : g.id ≡ h.id = same_of_8 g.id h.id a b (ap (λ (xs : List ℕ). slice_range xs 5 13) e) in
    let members : g.members ≡ h.members = ap (λ (xs : List ℕ). get_or xs 13 0) e in
    let chunk : g.chunk ≡ h.chunk = ap (λ (xs : List ℕ). get_or xs 14 0) e in
    let block : g.block ≡ h.block = same_of_2 g.block h.block (omega (arith, g.within.block_most)) (omega (arith, h.within.block_most)) (ap (λ (xs : List ℕ). slice_range xs 15 17) e) in
    let rows : g.rows ≡ h.rows = same_of_4 g.rows h.rows (omega (arith, g.within.rows_most)) (omega (arith, h.within.rows_most)) (ap (λ (xs : List ℕ). slice_range xs 17 21) e) in
    let slots : g.slots ≡ h.slots = ap (λ (xs : List ℕ). get_or xs 21 0) e in
    let gap : g.gap ≡ h.gap = ap (λ (xs : List ℕ). get_or xs 22 0) e in
    let entries : g.entries ≡ h.entries = same_of_4 g.entries h.entries (omega (arith, g.within.entries_most)) (omega (arith, h.within.entries_most)) (ap (λ (xs : List ℕ). slice_range xs 23 27) e) in
    let ring : g.ring ≡ h.ring = same_of_8 g.ring h.ring (omega (arith, g.within.ring_most)) (omega (arith, h.within.ring_most)) (ap (λ (xs : List ℕ). slice_range xs 27 35) e) in
    same_geometry g h id members chunk block rows slots gap entries ring

pub members_same : (i j m k : ℕ) → i < 2 ^ 64 → j < 2 ^ 64 → member_header i m ≡ member_header j k → (i ≡ j) × (m ≡ k)
members_same i j m k a b e = (same_of_8 i j a b (ap (λ (xs : List ℕ). slice_range xs 4 12) e), ap (λ (xs : List ℕ). get_or xs 12 0) e)

pub heads_same : (g : Geometry) (h k : Head) (bytes : List ℕ) → IsHeadValue g h bytes → IsHeadValue g k bytes → h ≡ k
heads_same g h k bytes p q = head_same h k (head_fits g h p.head) (head_fits g k q.head) (sym p.spelled ∙ q.spelled)
