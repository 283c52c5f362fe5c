-- Disks are refused for one thing at most: each refusal says how far mounting comes, and that it comes no further.
use Rattle.std.proofs.Common.{◌≡◌, ◌≢◌, ◌⊎◌, ℕ, zero, suc, ◌+◌, ◌-◌, ◌<◌, ◌≤◌, List, slice_index, Some, None, Bool, true, false, inl, inr, ⊎_elim, refl, sym, ap, ap₂, subst, ◌∙◌, arith}
use Rattle.std.proofs.lemmas.Option.{same_Some}
use Rattle.trap_bank.specs.Disks.{Disks, region}
use Rattle.trap_cell.specs.Slots.{cell_value}
use Rattle.trap_format.specs.HeadValue.{lost_byte, IsHead, IsHeadValue, head_value}
use Rattle.trap_format.specs.declared.head.Head.{Head}
use Rattle.trap_format.proofs.Spellings.{logs_same, heads_same}
use Rattle.trap_model.specs.declared.numbers.Geometry.{Geometry}
use Rattle.trap_raid.specs.Members.{IsMember, IsOut}
use Rattle.trap_ring.specs.Ring.{ring_pos}
use Rattle.trap_scan.specs.Chain.{IsBroken}
use Rattle.trap_scan.specs.Window.{IsWindow}
use Rattle.trap_scan.proofs.ChainLaws.{one_broken, right_unbroken}
use Rattle.trap_scan.proofs.Windows.{window_one}
use Rattle.trap_stage.specs.Found.{IsDamagedSlot}
use Rattle.trap_stage.proofs.OneAnswer.{first_damaged}
use Rattle.trap_mount.specs.Holding.{head_place, log_ring}
use Rattle.trap_mount.specs.Creating.{BeginsLog}
use Rattle.trap_mount.specs.Mounting.{HasHeader, HasHead, HasSlots, HasRecords, HasMembers, AreOut, IsWrong, IsDamage, IsOtherVersion, RefusesAs, is_refusal, head_history}
use Rattle.trap_mount.specs.declared.fault.MountFault.{MountFault}
use Rattle.trap_mount.specs.declared.fault.MountFault.TheVariants.{NotAnArray, BadVersion, WrongMember, TooManyLost, Damaged, LogFault, MemberFault, OutOfMemory}

-- two numbers of which none is the lower
by_order : (m n : ℕ) → (m < n → ⊥) → (n < m → ⊥) → m ≡ n
by_order m n low high = omega arith

-- every disk that is to be there is its member's own
abbrev AllOwn : Geometry → Head → Disks → Type 0
AllOwn g h x = (m : ℕ) → m < g.members → (IsOut h.lost x m → ⊥) → IsMember g x m

-- what holds where mounting comes so far
abbrev Reach : Disks → ℕ → Type 0
Reach x zero = Unit {0}
Reach x (suc zero) = BeginsLog x
Reach x (suc (suc zero)) = (g : Geometry) × HasHeader g x
Reach x (suc (suc (suc zero))) = (g : Geometry) × (h : Head) × HasHead g h x
Reach x (suc (suc (suc (suc zero)))) = (g : Geometry) × (h : Head) × HasSlots g h x
Reach x (suc (suc (suc (suc (suc zero))))) = (g : Geometry) × (h : Head) × HasRecords g h x
Reach x (suc (suc (suc (suc (suc (suc zero)))))) = (g : Geometry) × (h : Head) × HasMembers g h x
Reach x (suc (suc (suc (suc (suc (suc (suc zero))))))) = (g : Geometry) × (h : Head) × HasMembers g h x × AllOwn g h x
Reach x (suc (suc (suc (suc (suc (suc (suc (suc n)))))))) = ⊥

one_less : (x : Disks) (n : ℕ) → Reach x (suc n) → Reach x n
one_less x zero far = tt
one_less x (suc zero) far = far.1.begins
one_less x (suc (suc zero)) far = (far.0, far.2.header)
one_less x (suc (suc (suc zero))) far = (far.0, far.1, far.2.head)
one_less x (suc (suc (suc (suc zero)))) far = (far.0, far.1, far.2.slots)
one_less x (suc (suc (suc (suc (suc zero))))) far = (far.0, far.1, far.2.records)
one_less x (suc (suc (suc (suc (suc (suc zero)))))) far = (far.0, far.1, far.2)
one_less x (suc (suc (suc (suc (suc (suc (suc n))))))) far = absurd far

-- who comes far comes less far
less : (x : Disks) (more n : ℕ) → Reach x (more + n) → Reach x n
less x zero n far = let e : zero + n ≡ n = omega arith in subst (Reach x) e far
less x (suc more) n far = let e : suc more + n ≡ suc (more + n) = omega arith in less x more n (one_less x (more + n) (subst (Reach x) e far))

-- ---- one header, one head

one_header : (g k : Geometry) (x : Disks) → HasHeader g x → HasHeader k x → g ≡ k
one_header g k x a b = logs_same g k (region x 0 0 64) a.id b.id a.header b.header

one_head : (g : Geometry) (h l : Head) (x : Disks) → HasHead g h x → HasHead g l x → h ≡ l
one_head g h l x a b = heads_same g h l (head_value h) (record { head = a.head; spelled = refl }) (record { head = b.head; spelled = same_Some (head_value h) (head_value l) (sym a.value ∙ b.value) })

-- what is said of the one is said of the other
as_one : (P : Geometry → Head → Type 0) (g k : Geometry) (h l : Head) (x : Disks) → HasHead g h x → HasHead k l x → P k l → P g h
as_one P g k h l x a b holds =
    let same = one_header g k x a.header b.header in
    let here = subst (λ (n : Geometry). HasHead n l x) (sym same) b in
    let head = one_head g h l x a here in
    subst (λ (t : Head). P g t) (sym head) (subst (λ (n : Geometry). P n l) (sym same) holds)

-- ---- how far mounting comes, and what it answers there

abbrev Answer : Disks → ℕ → MountFault → Type 0
Answer x zero why = why ≡ NotAnArray
Answer x (suc zero) why = why ≡ Damaged 0
Answer x (suc (suc zero)) why =
    ((version : ℕ) × (bytes : List ℕ) × (cell_value head_place x ≡ Some bytes) × (slice_index bytes 0 ≡ version) × (version ≢ 1) × (why ≡ BadVersion version))
    ⊎ (((bytes : List ℕ) → cell_value head_place x ≡ Some bytes → slice_index bytes 0 ≡ 1) × (why ≡ Damaged 64))
Answer x (suc (suc (suc zero))) why =
    (g : Geometry) × (h : Head) × (offset : ℕ) × HasHead g h x × IsDamagedSlot g h.drained h.last x offset × (why ≡ Damaged offset)
Answer x (suc (suc (suc (suc zero)))) why =
    (g : Geometry) × (h : Head) × (window : List ℕ) × (at : ℕ) × HasHead g h x × IsWindow (log_ring g) h.first_off h.end_off window x
    × IsBroken (head_history g h) h.first h.base_time (h.last - h.first) window at × (why ≡ Damaged (ring_pos (log_ring g) (h.first_off + at)))
Answer x (suc (suc (suc (suc (suc zero))))) why =
    (g : Geometry) × (h : Head) × (first : ℕ) × (second : ℕ) × HasHead g h x × AreOut g h x first second × (why ≡ TooManyLost first second)
Answer x (suc (suc (suc (suc (suc (suc zero)))))) why =
    (g : Geometry) × (h : Head) × (m : ℕ) × HasHead g h x × IsWrong g h x m × (why ≡ WrongMember m)
Answer x (suc (suc (suc (suc (suc (suc (suc n))))))) why = ⊥

record Ends (x : Disks) (why : MountFault) (n : ℕ) : Type 0 where
  pub most : n ≤ 6
  pub reached : Reach x n
  pub no_further : Reach x (suc n) → ⊥
  pub answer : Answer x n why

module _ (x : Disks) where
  -- ---- no further

  not_head : (g : Geometry) → HasHeader g x → ((bytes : List ℕ) → cell_value head_place x ≡ Some bytes → (slice_index bytes 0 ≡ 1) × ((h : Head) → IsHeadValue g h bytes → ⊥))
      → (k : Geometry) (h : Head) → HasHead k h x → ⊥
  not_head g header none k h head =
      let here = subst (λ (n : Geometry). HasHead n h x) (one_header k g x head.header header) head in
      (none (head_value h) here.value).1 h (record { head = here.head; spelled = refl })

  not_version : (version : ℕ) → IsOtherVersion x version → (k : Geometry) (h : Head) → HasHead k h x → ⊥
  not_version version other k h head =
      let same : head_value h ≡ other.bytes = same_Some (head_value h) other.bytes (sym head.value ∙ other.value) in
      other.other (sym other.is ∙ ap (λ (bytes : List ℕ). slice_index bytes 0) (sym same) ∙ head.head.version)

  not_records : (g : Geometry) (h : Head) (window : List ℕ) (at : ℕ) → IsWindow (log_ring g) h.first_off h.end_off window x
      → IsBroken (head_history g h) h.first h.base_time (h.last - h.first) window at → HasRecords g h x → ⊥
  not_records g h window at is broken records =
      let same : window ≡ records.window = window_one (log_ring g) h.first_off h.end_off window records.window x is records.is in
      let most = g.within.block_most in
      right_unbroken (head_history g h) h.first h.base_time (h.last - h.first) records.window at (omega arith) records.records
      (subst (λ (bytes : List ℕ). IsBroken (head_history g h) h.first h.base_time (h.last - h.first) bytes at) same broken)

  abbrev FirstOut : Geometry → Head → ℕ → Type 0
  FirstOut g h first = (h.lost ≡ Some first) ⊎ ((h.lost ≡ None) × (first < g.members) × (x (first + 1) ≡ None) × ((m : ℕ) → m < first → x (m + 1) ≢ None))

  first_inside : (g : Geometry) (h : Head) (first : ℕ) → lost_byte h.lost ≤ g.members → FirstOut g h first → first < g.members
  first_inside g h first most = ⊎_elim (λ is. let byte : lost_byte h.lost ≡ first + 1 = ap lost_byte is in omega arith) (λ none. none.1)

  not_members : (g : Geometry) (h : Head) (first second : ℕ) → IsHead g h → AreOut g h x first second → HasMembers g h x → ⊥
  not_members g h first second head out members =
      out.apart (members.one_out second first out.inside (first_inside g h first head.lost.member out.first_) (inr out.absent) (⊎_elim inl (λ none. inr none.2) out.first_))

  -- ---- each refusal is of one step

  damage_ends : (offset : ℕ) → IsDamage x offset → (n : ℕ) × Ends x (Damaged offset) n
  damage_ends offset = ⊎_elim
      (λ none. (1, record { most = omega arith; reached = none.0; no_further = λ far. none.2 far.0 far.1; answer = ap Damaged none.1 }))
      (⊎_elim
      (λ value. (
        2,
        record {
          most = omega arith;
          reached = (value.0, value.1);
          no_further = λ far. not_head value.0 value.1 value.3 far.0 far.1 far.2;
          answer = inr (λ bytes is. (value.3 bytes is).0, ap Damaged value.2);
        },
      ))
      (⊎_elim
      (λ slot. (
        3,
        record {
          most = omega arith;
          reached = (slot.0, slot.1, slot.2);
          no_further = λ far. let here = as_one (λ g h. HasSlots g h x) slot.0 far.0 slot.1 far.1 x slot.2 far.2.head far.2 in slot.3.broken (here.slots slot.3.number slot.3.low slot.3.high);
          answer = (slot.0, slot.1, offset, slot.2, slot.3, refl);
        },
      ))
      (λ bad. (
        4,
        record {
          most = omega arith;
          reached = (bad.0, bad.1, bad.4);
          no_further = λ far. not_records bad.0 bad.1 bad.2 bad.3 bad.5 bad.6 (as_one (λ g h. HasRecords g h x) bad.0 far.0 bad.1 far.1 x bad.4.head far.2.slots.head far.2);
          answer = (bad.0, bad.1, bad.2, bad.3, bad.4.head, bad.5, bad.6, ap Damaged bad.7);
        },
      ))))

  ends : (why : MountFault) → RefusesAs x why → is_refusal why ≡ true → (n : ℕ) × Ends x why n
  ends NotAnArray refused is = (0, record { most = omega arith; reached = tt; no_further = refused; answer = refl })
  ends (BadVersion version) refused is = (
    2,
    record {
      most = omega arith;
      reached = (refused.g, refused.header);
      no_further = λ far. not_version version refused far.0 far.1 far.2;
      answer = inl (version, refused.bytes, refused.value, refused.is, refused.other, refl);
    },
  )
  ends (WrongMember member) refused is = (
    6,
    record {
      most = omega arith;
      reached = (refused.0, refused.1, refused.2);
      no_further = λ far.
          let own = as_one (λ g h. AllOwn g h x) refused.0 far.0 refused.1 far.1 x refused.2.records.slots.head far.2.records.slots.head far.3 in
          refused.3.wrong (own member refused.3.inside refused.3.counts);
      answer = (refused.0, refused.1, member, refused.2.records.slots.head, refused.3, refl);
    },
  )
  ends (TooManyLost first second) refused is = (
    5,
    record {
      most = omega arith;
      reached = (refused.0, refused.1, refused.2);
      no_further = λ far. not_members refused.0 refused.1 first second refused.2.slots.head.head refused.3
          (as_one (λ g h. HasMembers g h x) refused.0 far.0 refused.1 far.1 x refused.2.slots.head far.2.records.slots.head far.2);
      answer = (refused.0, refused.1, first, second, refused.2.slots.head, refused.3, refl);
    },
  )
  ends (Damaged offset) refused is = damage_ends offset refused
  ends LogFault refused is = cc
  ends (MemberFault first second) refused is = cc
  ends OutOfMemory refused is = cc

  -- ---- and each step has one answer

  same_first : (g : Geometry) (h : Head) (a b : ℕ) → FirstOut g h a → FirstOut g h b → a ≡ b
  same_first g h a b = ⊎_elim
      (λ is_a. ⊎_elim (λ is_b. same_Some a b (sym is_a ∙ is_b)) (λ none. let two : Some a ≡ None = sym is_a ∙ none.0 in cc))
      (λ none_a. ⊎_elim (λ is_b. let two : Some b ≡ None = sym is_b ∙ none_a.0 in cc) (λ none_b. lowest none_a.2 none_a.3 none_b.2 none_b.3))
    where
      lowest : x (a + 1) ≡ None → ((m : ℕ) → m < a → x (m + 1) ≢ None) → x (b + 1) ≡ None → ((m : ℕ) → m < b → x (m + 1) ≢ None) → a ≡ b
      lowest absent_a below_a absent_b below_b = by_order a b (λ less_. below_b a less_ absent_a) (λ more. below_a b more absent_b)

  same_second : (g : Geometry) (h : Head) (first a b : ℕ) → AreOut g h x first a → AreOut g h x first b → a ≡ b
  same_second g h first a b out_a out_b = by_order a b (λ less_. out_b.lowest a less_ out_a.apart out_a.absent) (λ more. out_a.lowest b more out_b.apart out_b.absent)

  same_wrong : (g : Geometry) (h : Head) (a b : ℕ) → IsWrong g h x a → IsWrong g h x b → a ≡ b
  same_wrong g h a b wrong_a wrong_b = by_order a b (λ less_. wrong_a.wrong (wrong_b.lowest a less_ wrong_a.counts)) (λ more. wrong_b.wrong (wrong_a.lowest b more wrong_b.counts))

  same_version : (v w : ℕ) (bytes other : List ℕ) → cell_value head_place x ≡ Some bytes → cell_value head_place x ≡ Some other → slice_index bytes 0 ≡ v → slice_index other 0 ≡ w → v ≡ w
  same_version v w bytes other is_v is_w at_v at_w = sym at_v ∙ ap (λ (xs : List ℕ). slice_index xs 0) (same_Some bytes other (sym is_v ∙ is_w)) ∙ at_w

  same_broken : (g : Geometry) (h : Head) (window other : List ℕ) (a b : ℕ) → IsWindow (log_ring g) h.first_off h.end_off window x → IsWindow (log_ring g) h.first_off h.end_off other x
      → IsBroken (head_history g h) h.first h.base_time (h.last - h.first) window a → IsBroken (head_history g h) h.first h.base_time (h.last - h.first) other b → a ≡ b
  same_broken g h window other a b is_a is_b broken_a broken_b =
      let same : other ≡ window = window_one (log_ring g) h.first_off h.end_off other window x is_b is_a in
      let most = g.within.block_most in
      one_broken (head_history g h) h.first h.base_time (h.last - h.first) window a b (omega arith) broken_a
      (subst (λ (bytes : List ℕ). IsBroken (head_history g h) h.first h.base_time (h.last - h.first) bytes b) same broken_b)

  one_answer : (n : ℕ) (a b : MountFault) → Answer x n a → Answer x n b → a ≡ b
  one_answer zero a b at_a at_b = at_a ∙ sym at_b
  one_answer (suc zero) a b at_a at_b = at_a ∙ sym at_b
  one_answer (suc (suc zero)) a b at_a at_b = ⊎_elim
      (λ v. ⊎_elim (λ w. v.5 ∙ ap BadVersion (same_version v.0 w.0 v.1 w.1 v.2 w.2 v.3 w.3) ∙ sym w.5) (λ none. absurd (v.4 (sym v.3 ∙ none.0 v.1 v.2))) at_b)
      (λ none. ⊎_elim (λ w. absurd (w.4 (sym w.3 ∙ none.0 w.1 w.2))) (λ also. none.1 ∙ sym also.1) at_b)
      at_a
  one_answer (suc (suc (suc zero))) a b at_a at_b =
      at_a.5 ∙ ap Damaged (first_damaged at_a.0 at_a.1.drained at_a.1.last x at_a.2 at_b.2 at_a.4
      (as_one (λ g h. IsDamagedSlot g h.drained h.last x at_b.2) at_a.0 at_b.0 at_a.1 at_b.1 x at_a.3 at_b.3 at_b.4)) ∙ sym at_b.5
  one_answer (suc (suc (suc (suc zero)))) a b at_a at_b =
      let there = as_one
      (λ g h. IsWindow (log_ring g) h.first_off h.end_off at_b.2 x × IsBroken (head_history g h) h.first h.base_time (h.last - h.first) at_b.2 at_b.3 ×
      (b ≡ Damaged (ring_pos (log_ring g) (h.first_off + at_b.3))))
      at_a.0 at_b.0 at_a.1 at_b.1 x at_a.4 at_b.4 (at_b.5, at_b.6, at_b.7) in
      at_a.7 ∙ ap (λ (at : ℕ). Damaged (ring_pos (log_ring at_a.0) (at_a.1.first_off + at))) (same_broken at_a.0 at_a.1 at_a.2 at_b.2 at_a.3 at_b.3 at_a.5 there.0 at_a.6 there.1) ∙ sym there.2
  one_answer (suc (suc (suc (suc (suc zero))))) a b at_a at_b =
      let out_b = as_one (λ g h. AreOut g h x at_b.2 at_b.3) at_a.0 at_b.0 at_a.1 at_b.1 x at_a.4 at_b.4 at_b.5 in
      let first = same_first at_a.0 at_a.1 at_a.2 at_b.2 at_a.5.first_ out_b.first_ in
      at_a.6 ∙ ap₂ TooManyLost first (same_second at_a.0 at_a.1 at_b.2 at_a.3 at_b.3 (subst (λ (m : ℕ). AreOut at_a.0 at_a.1 x m at_a.3) first at_a.5) out_b) ∙ sym at_b.6
  one_answer (suc (suc (suc (suc (suc (suc zero)))))) a b at_a at_b =
      at_a.5 ∙ ap WrongMember (same_wrong at_a.0 at_a.1 at_a.2 at_b.2 at_a.4 (as_one (λ g h. IsWrong g h x at_b.2) at_a.0 at_b.0 at_a.1 at_b.1 x at_a.3 at_b.3 at_b.4)) ∙ sym at_b.5
  one_answer (suc (suc (suc (suc (suc (suc (suc n))))))) a b at_a at_b = absurd at_a

  no_more : (a : MountFault) (n m : ℕ) → Ends x a n → Reach x m → n < m → ⊥
  no_more a n m end reached less_ =
      let e : m ≡ (m - suc n) + suc n = omega arith in
      end.no_further (less x (m - suc n) (suc n) (subst (Reach x) e reached))

  pub one : (a b : MountFault) → RefusesAs x a → RefusesAs x b → is_refusal a ≡ true → is_refusal b ≡ true → a ≡ b
  one a b refused_a refused_b is_a is_b =
      let end_a = ends a refused_a is_a in
      let end_b = ends b refused_b is_b in
      let same : end_a.0 ≡ end_b.0 = by_order end_a.0 end_b.0 (no_more a end_a.0 end_b.0 end_a.1 end_b.1.reached) (no_more b end_b.0 end_a.0 end_b.1 end_a.1.reached) in
      one_answer end_b.0 a b (subst (λ (n : ℕ). Answer x n a) same end_a.1.answer) end_b.1.answer

  pub none : (g : Geometry) (h : Head) → HasMembers g h x → AllOwn g h x → (why : MountFault) → RefusesAs x why → is_refusal why ≡ false
  none g h members own why refused = by_kind (is_refusal why) refl
    where
      by_kind : (b : Bool) → is_refusal why ≡ b → is_refusal why ≡ false
      by_kind false e = e
      by_kind true e =
          let end = ends why refused e in
          let most = end.1.most in
          absurd (no_more why end.0 7 end.1 (g, h, members, own) (omega arith))
