-- The table's places from the members that are not lost, and the plan of a write.
use Rattle.std.proofs.Common.{◌≡◌, ◌≢◌, ℕ, ◌<◌, List, [], length, get_or, Option, Some, None, ap, sym, subst, ◌∙◌}
use Rattle.std.specs.Option.{MatchOption, unwrap_or}
use Rattle.std.proofs.lemmas.Option.{MatchOption-at_some, MatchOption-at_none}
use Rattle.trap_block.specs.Xor.{xor, xor_but}
use Rattle.trap_block.proofs.OverLemmas.{xor_but_same}
use Rattle.trap_model.specs.Image.{volume, IsImage}
use Rattle.trap_model.specs.declared.numbers.Geometry.{Geometry}
use Rattle.trap_map.specs.declared.places.Place.{Place}
use Rattle.trap_map.specs.Layout.{parity_member, block_place}
use Rattle.trap_map.specs.Table.{row_parity, table}
use Rattle.trap_map.proofs.PlaceLemmas.{block_is_not_parity}
use Rattle.trap_map.proofs.TableLemmas.{table_at_block, table_at_parity, table_from_others, parity_after_write}
use Rattle.trap_bank.specs.Disks.{Contents}
use Rattle.trap_stage.specs.Staged.{Staged, newest_at, laid_over}
use Rattle.trap_raid.specs.Members.{HoldImage, member_place}
use Rattle.trap_raid.specs.Plan.{IsPlan}

-- ---- from places that stand for the table
-- what stands at a member that isn't lost
pub laid_over_stands : (g : Geometry) (lost : Option ℕ) (writes : List Staged) (place : ℕ → ℕ → List ℕ) (image : List (List ℕ)) → HoldImage g lost writes place image
    → (row member : ℕ) → row < g.rows → member < g.members → lost ≢ Some member → laid_over g writes place row member ≡ table g image row member
laid_over_stands g lost writes place image stands row member below inside apart =
    either (newest_at g writes row member) (place row member) (table g image row member) (lost ≢ Some member) apart (stands row member below inside)
  where
    either : (o : Option (List ℕ)) (x y : List ℕ) (P : Type 0) → P → MatchOption o (P → x ≡ y) (λ bytes. bytes ≡ y) → unwrap_or o x ≡ y
    either None x y P p h = h p
    either (Some z) x y P p h = h

-- the others' places give the lost member's place
pub others_stand : (g : Geometry) (lost : Option ℕ) (writes : List Staged) (place : ℕ → ℕ → List ℕ) (image : List (List ℕ)) → IsImage g image
    → HoldImage g lost writes place image → (row member : ℕ) → row < g.rows → member < g.members → lost ≡ Some member
    → xor_but g.block member (laid_over g writes place row) g.members ≡ table g image row member
others_stand g lost writes place image is_image stands row member below inside gone =
    xor_but_same g.block member g.members (laid_over g writes place row) (table g image row)
    (λ m less apart. laid_over_stands g lost writes place image stands row m below less (λ e. apart (same_lost lost m member e gone)))
    ∙ sym (table_from_others g image is_image row member below inside)
  where
    same_lost : (lost : Option ℕ) (m n : ℕ) → lost ≡ Some m → lost ≡ Some n → m ≡ n
    same_lost lost m n e f = cc

-- pending bytes
pub pending_stands : (g : Geometry) (lost : Option ℕ) (writes : List Staged) (place : ℕ → ℕ → List ℕ) (image : List (List ℕ)) → HoldImage g lost writes place image
    → (row member : ℕ) (bytes : List ℕ) → row < g.rows → member < g.members → newest_at g writes row member ≡ Some bytes → bytes ≡ table g image row member
pending_stands g lost writes place image stands row member bytes below inside found =
    MatchOption-at_some (lost ≢ Some member → place row member ≡ table g image row member) (λ (b : List ℕ). b ≡ table g image row member) bytes found (stands row member below inside)

-- a member's bytes, where none are pending
pub member_stands : (g : Geometry) (lost : Option ℕ) (writes : List Staged) (place : ℕ → ℕ → List ℕ) (image : List (List ℕ)) → HoldImage g lost writes place image
    → (row member : ℕ) → row < g.rows → member < g.members → newest_at g writes row member ≡ None → lost ≢ Some member → place row member ≡ table g image row member
member_stands g lost writes place image stands row member below inside none apart =
    MatchOption-at_none (lost ≢ Some member → place row member ≡ table g image row member) (λ (b : List ℕ). b ≡ table g image row member) none (stands row member below inside) apart

-- the table at a block's place
pub table_at_place : (g : Geometry) (image : List (List ℕ)) (place : Place) (block : ℕ) → place ≡ block_place g block → table g image place.row place.member ≡ get_or image block []
table_at_place g image place block e =
    ap (λ p. table g image p.row p.member) e ∙ table_at_block g image block

-- the block's member is not the one with the row's parity
pub members_apart : (g : Geometry) (block : ℕ) (place : Place) (member : ℕ) → place ≡ block_place g block → member ≡ parity_member g place.row → place.member ≢ member
members_apart g block place member is_place is_member same =
    block_is_not_parity g block
    (ap (λ (p : Place). p.member) (sym is_place) ∙ same ∙ is_member ∙ ap (λ (p : Place). parity_member g p.row) is_place)

-- the plan, from what its two reads gave
pub plan_from_reads : (g : Geometry) (image : List (List ℕ)) (block : ℕ) (place : Place) (member : ℕ) (fresh first second delta parity : List ℕ) → IsImage g image
    → block < volume g → length fresh ≡ g.block → place ≡ block_place g block → member ≡ parity_member g place.row → first ≡ table g image place.row place.member
    → delta ≡ xor first fresh → second ≡ table g image place.row member → parity ≡ xor second delta → IsPlan g image block fresh delta parity
plan_from_reads g image block place member fresh first second delta parity is_image below size is_place is_member is_first is_delta is_second is_parity =
    let at_row : row_parity g image place.row ≡ row_parity g image (block_place g block).row = ap (λ p. row_parity g image p.row) is_place in
    let old : delta ≡ xor (get_or image block []) fresh = is_delta ∙ ap (λ b. xor b fresh) (is_first ∙ table_at_place g image place block is_place) in
    record {
      write_parity = old;
      row_parity_after =
          is_parity ∙ ap (λ b. xor b delta) (is_second ∙ table_at_parity g image place.row member is_member ∙ at_row)
          ∙ ap (λ b. xor (row_parity g image (block_place g block).row) b) old
          ∙ sym (parity_after_write g image is_image block below fresh size);
    }

-- places of disks that were only read stand for what they stood for
pub stand_along : (g : Geometry) (lost : Option ℕ) (writes : List Staged) (old new : Contents) (image : List (List ℕ)) → new ≡ old
    → HoldImage g lost writes (member_place g old.disks) image → HoldImage g lost writes (member_place g new.disks) image
stand_along g lost writes old new image same stands =
    let P : Contents → Type 0 = λ (c : Contents). HoldImage g lost writes (member_place g c.disks) image in
    subst P (sym same) stands
