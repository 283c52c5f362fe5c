-- Rows of the lost member: what stands at their places, and what holds once they are written.
use Rattle.std.proofs.Common.{◌≡◌, ◌≢◌, ◌⊎◌, ℕ, ◌+◌, ◌<◌, ◌≤◌, List, Option, Some, None, Bool, true, false, if◌then◌else◌, eq-eqb, inl, inr, ⊎_elim, refl, sym, ap, subst, ◌∙◌, arith}
use Rattle.std.specs.Option.{unwrap_or}
use Rattle.std.proofs.lemmas.Bool.{cases_eq, cases_lt}
use Rattle.trap_block.proofs.OverLemmas.{xor_but_same}
use Rattle.trap_model.specs.Image.{IsImage}
use Rattle.trap_model.specs.declared.numbers.Geometry.{Geometry}
use Rattle.trap_bank.specs.Disks.{Disks, View, Differs}
use Rattle.trap_bank.proofs.Regions.{region_apart, region_of_disk}
use Rattle.trap_format.specs.MemberDisk.{row_at}
use Rattle.trap_map.specs.Table.{table}
use Rattle.trap_stage.specs.Staged.{Staged, newest_at, laid_over}
use Rattle.trap_stage.proofs.Overlays.{laid_over_same}
use Rattle.trap_raid.specs.Condition.{Condition}
use Rattle.trap_raid.specs.Members.{MembersFit, RowFits, PlaceFits, HoldImage, IsMember, IsTrusted, MembersHold, IsOut, member_place}
use Rattle.trap_raid.specs.Draining.{place_area}
use Rattle.trap_raid.specs.Standing.{is_lost, standing_at}
use Rattle.trap_raid.proofs.DrainLemmas.{one_place, place_beside}
use Rattle.trap_raid.proofs.FitLemmas.{row_fits, place_fits}
use Rattle.trap_raid.proofs.MemberLemmas.{members_stay}
use Rattle.trap_raid.proofs.TableLemmas.{others_stand, pending_stands}
use Rattle.trap_rebuild.specs.Rebuilding.{AllFit, InNextRows, AreRebuilt, AreOfTable}

-- ---- the disks have all rows
pub all_fit : (g : Geometry) (lost : Option ℕ) (rebuilt : ℕ) (v : View) → AllFit g v → MembersFit g lost rebuilt v
all_fit g lost rebuilt v fit member inside counts = fit member inside

pub row_of_all : (g : Geometry) (v : View) (row member : ℕ) → AllFit g v → row < g.rows → member < g.members → RowFits g v row member
row_of_all g v row member fit below inside = row_fits g None 0 v row member (all_fit g None 0 v fit) below inside (λ gone. absurd (no_member gone))
  where
    no_member : {n : ℕ} → None ≡ Some n → ⊥
    no_member gone = cc

pub place_of_all : (g : Geometry) (lost : Option ℕ) (writes : List Staged) (v : View) (row member : ℕ) → AllFit g v → row < g.rows → member < g.members → PlaceFits g lost writes v row member
place_of_all g lost writes v row member fit below inside = place_fits g lost 0 writes v row member (all_fit g lost 0 v fit) below inside

pub all_fit_along : (g : Geometry) (old new : View) → ((e : ℕ) → new.sizes e ≡ old.sizes e) → AllFit g old → AllFit g new
all_fit_along g old new sizes fit member inside = let there = fit member inside in (there.0, sizes (member + 1) ∙ there.1, there.2)

-- ---- what stands at the lost member's places
one_member : (lost : Option ℕ) (m n : ℕ) → lost ≡ Some m → lost ≡ Some n → m ≡ n
one_member lost m n e f = cc

lost_is : (lost : Option ℕ) (m : ℕ) → lost ≡ Some m → is_lost lost m ≡ true
lost_is lost m gone = ap (λ (o : Option ℕ). is_lost o m) gone ∙ eq-eqb m m refl

-- it rests on the other members' places of the row alone
pub standing_same : (g : Geometry) (lost : Option ℕ) (writes : List Staged) (p q : ℕ → ℕ → List ℕ) (row m : ℕ) → lost ≡ Some m
    → ((k : ℕ) → k ≢ m → p row k ≡ q row k) → standing_at g lost writes p row m ≡ standing_at g lost writes q row m
standing_same g lost writes p q row m gone same =
    ap (λ (bytes : List ℕ). unwrap_or (newest_at g writes row m) bytes)
    (chosen (is_lost lost m) _ _ _ _ (lost_is lost m gone)
    (xor_but_same g.block m g.members (laid_over g writes p row) (laid_over g writes q row) (λ k below apart. laid_over_same g writes p q row k (λ bare. same k apart))))
  where
    chosen : (b : Bool) (x y z w : List ℕ) → b ≡ true → x ≡ y → (if b then x else z) ≡ (if b then y else w)
    chosen true x y z w e f = f
    chosen false x y z w e f = cc

-- over an image, it is the table's
pub standing_is_table : (g : Geometry) (lost : Option ℕ) (writes : List Staged) (place : ℕ → ℕ → List ℕ) (image : List (List ℕ)) → IsImage g image → HoldImage g lost writes place image
    → (row m : ℕ) → row < g.rows → m < g.members → lost ≡ Some m → standing_at g lost writes place row m ≡ table g image row m
standing_is_table g lost writes place image is_image stands row m below inside gone =
    either (newest_at g writes row m) (is_lost lost m) _ (place row m) (table g image row m) (lost_is lost m gone)
    (λ bytes found. pending_stands g lost writes place image stands row m bytes below inside found)
    (others_stand g lost writes place image is_image stands row m below inside gone)
  where
    either : (o : Option (List ℕ)) (b : Bool) (x y t : List ℕ) → b ≡ true → ((bytes : List ℕ) → o ≡ Some bytes → bytes ≡ t) → x ≡ t → unwrap_or o (if b then x else y) ≡ t
    either (Some bytes) b x y t is pending others = pending bytes refl
    either None true x y t is pending others = others
    either None false x y t is pending others = cc

module _ (c : Condition) (writes : List Staged) (m : ℕ) (lost : c.lost ≡ Some m) where
  -- ---- one row more
  -- a row's place is among them
  pub row_among : (upto row : ℕ) → c.rebuilt ≤ row → row < upto → (e i : ℕ) → place_area c.g row m e i → InNextRows c upto e i
  row_among upto row low high e i within = record { member = m; lost = lost; row = row; from = low; to = high; within = within }

  -- the other members' places stay
  pub others_stay : (upto : ℕ) (x y : Disks) → Differs (InNextRows c upto) x y → (row k : ℕ) → k ≢ m → member_place c.g y row k ≡ member_place c.g x row k
  others_stay upto x y differs row k apart =
      region_apart (InNextRows c upto) x y (k + 1) (row_at c.g row) c.g.block differs
      (λ i low high among.
      let here = one_member c.lost among.member m among.lost lost in
      apart (omega (arith, among.within.disk, here)))

  -- the next row is written over the others
  pub one_more : (upto row : ℕ) (x y z : Disks) → c.rebuilt ≤ row → Differs (InNextRows c upto) x y → Differs (place_area c.g row m) y z
      → member_place c.g z row m ≡ standing_at c.g c.lost writes (member_place c.g y) row m → AreRebuilt c writes (member_place c.g x) row y
      → AreRebuilt c writes (member_place c.g x) (row + 1) z
  one_more upto row x y z low before now there so_far member r gone first last =
      let is : member ≡ m = one_member c.lost member m gone lost in
      subst (λ (k : ℕ). member_place c.g z r k ≡ standing_at c.g c.lost writes (member_place c.g x) r k) (sym is)
      (⊎_elim
      (λ (here : r ≡ row). subst (λ (n : ℕ). member_place c.g z n m ≡ standing_at c.g c.lost writes (member_place c.g x) n m) (sym here)
      (there ∙ standing_same c.g c.lost writes (member_place c.g y) (member_place c.g x) row m lost (λ k apart. others_stay upto x y before row k apart)))
      (λ (earlier : r ≢ row). place_beside c.g r m row m y z now (λ same here. earlier same) ∙ so_far m r lost first (omega (arith, last, earlier)))
      (cases_eq r row))

  -- ---- all of them
  -- they rest on the lost member's disk alone
  pub rebuilt_on : (place : ℕ → ℕ → List ℕ) (upto : ℕ) (x y : Disks) → y (m + 1) ≡ x (m + 1) → AreRebuilt c writes place upto x → AreRebuilt c writes place upto y
  rebuilt_on place upto x y same rows member row gone low high =
      let is : member ≡ m = one_member c.lost member m gone lost in
      subst (λ (k : ℕ). member_place c.g y row k ≡ standing_at c.g c.lost writes place row k) (sym is)
      (region_same same ∙ rows m row lost low high)
    where
      region_same : y (m + 1) ≡ x (m + 1) → member_place c.g y row m ≡ member_place c.g x row m
      region_same e = region_of_disk x y (m + 1) (row_at c.g row) c.g.block e

  -- over an image they are its table's
  pub rebuilt_table : (place : ℕ → ℕ → List ℕ) (image : List (List ℕ)) (upto : ℕ) (y : Disks) → IsImage c.g image → HoldImage c.g c.lost writes place image → upto ≤ c.g.rows → m < c.g.members
      → AreRebuilt c writes place upto y → AreOfTable c image upto y
  rebuilt_table place image upto y is_image stands most inside rows member row gone low high =
      let is : member ≡ m = one_member c.lost member m gone lost in
      rows member row gone low high
      ∙ standing_is_table c.g c.lost writes place image is_image stands row member (omega (arith, high, most)) (omega (arith, is, inside)) gone

  -- a lost member's own disk is so after them
  pub own_stays : (upto : ℕ) (x y : Disks) → Differs (InNextRows c upto) x y → IsMember c.g x m → IsMember c.g y m
  own_stays upto x y differs own = record {
    size = differs.sizes (m + 1) ∙ own.size;
    header = region_apart (InNextRows c upto) x y (m + 1) 0 16 differs (λ i low high among. omega (arith, high, among.within.from)) ∙ own.header;
  }

  -- with all rows, no member need be lost
  pub all_raised : (image : List (List ℕ)) (upto : ℕ) (y : Disks) → upto ≡ c.g.rows → IsMember c.g y m → MembersHold c.g c.lost upto writes image y → MembersHold c.g None 0 writes image y
  all_raised image upto y whole own held = record {
    one_out = λ a b in_a in_b out_a out_b. held.one_out a b in_a in_b (wider a out_a) (wider b out_b);
    made = λ k inside here. ⊎_elim (λ (is : k ≡ m). subst (λ (n : ℕ). IsMember c.g y n) (sym is) own)
        (λ (other : k ≢ m). held.made k inside (λ out. ⊎_elim (λ gone. other (one_member c.lost k m gone lost)) (λ absent. here (inr absent)) out)) (cases_eq k m);
    places = λ row k below inside trusted. held.places row k below inside (record { made = trusted.made; counts = λ gone. omega (arith, below, whole) });
  }
    where
      no_member : {n : ℕ} → None ≡ Some n → ⊥
      no_member gone = cc

      wider : (k : ℕ) → IsOut None y k → IsOut c.lost y k
      wider k out = ⊎_elim (λ none. absurd (no_member none)) (λ absent. inr absent) out

  -- what the members hold, they hold up to the later mark
  pub mark_raised : (image : List (List ℕ)) (upto : ℕ) (x y given : Disks) → Differs (InNextRows c upto) x y → AreOfTable c image upto y → HoldImage c.g c.lost writes (member_place c.g given) image
      → MembersHold c.g c.lost c.rebuilt writes image x → MembersHold c.g c.lost upto writes image y
  mark_raised image upto x y given differs rows stands holds = record {
    one_out = held.one_out;
    made = held.made;
    places = λ row k below inside trusted. by_row row k below inside trusted (cases_eq k m) (cases_lt row c.rebuilt);
  }
    where
      held : MembersHold c.g c.lost c.rebuilt writes image y
      held = members_stay c.g c.lost c.rebuilt (InNextRows c upto) x y differs
          (λ e i header among. omega (arith, header.within.to, among.within.from))
          writes image
          (λ e i place among.
          let same = one_place c.g place.row place.member among.row among.member e i place.within among.within in
          let gone : c.lost ≡ Some place.member = among.lost ∙ ap {B = Option ℕ} Some (sym same.1) in
          let below = place.counts gone in
          omega (arith, below, same.0, among.from))
          holds

      laid : (o : Option (List ℕ)) (held_ t : List ℕ) → ((bytes : List ℕ) → o ≡ Some bytes → bytes ≡ t) → held_ ≡ t → unwrap_or o held_ ≡ t
      laid (Some bytes) held_ t pending there = pending bytes refl
      laid None held_ t pending there = there

      by_row : (row k : ℕ) → row < c.g.rows → k < c.g.members → IsTrusted c.g c.lost upto y row k → (k ≡ m) ⊎ (k ≢ m) → (row < c.rebuilt) ⊎ (c.rebuilt ≤ row)
          → laid_over c.g writes (member_place c.g y) row k ≡ table c.g image row k
      by_row row k below inside trusted (inr other) low = held.places row k below inside (record { made = trusted.made; counts = λ gone. absurd (other (one_member c.lost k m gone lost)) })
      by_row row k below inside trusted (inl is) (inl low) = held.places row k below inside (record { made = trusted.made; counts = λ gone. low })
      by_row row k below inside trusted (inl is) (inr high) =
          let gone : c.lost ≡ Some k = lost ∙ ap {B = Option ℕ} Some (sym is) in
          laid (newest_at c.g writes row k) (member_place c.g y row k) (table c.g image row k)
          (λ bytes found. pending_stands c.g c.lost writes (member_place c.g given) image stands row k bytes below inside found)
          (rows k row gone high (trusted.counts gone))
