-- Members full of zeros hold the zero image.
use Rattle.std.proofs.Common.{◌≡◌, ◌≢◌, ℕ, zero, suc, ◌+◌, ◌-◌, ◌<◌, List, [], take, drop, length, replicate, Option, Some, None, inl, inr, ⊎_elim, refl, sym, ap, ◌∙◌, arith}
use Rattle.std.proofs.lemmas.Bool.{cases_eq}
use Rattle.std.proofs.lemmas.List.{length-replicate, get_or-replicate, take-replicate, drop-replicate}
use Rattle.trap_block.specs.Xor.{zeros, xor_but}
use Rattle.trap_block.proofs.XorLemmas.{xor-zeros}
use Rattle.trap_block.proofs.OverLemmas.{xor_but_here, xor_but_there, xor_but_same}
use Rattle.trap_model.specs.Image.{volume, zero_image}
use Rattle.trap_model.specs.declared.numbers.Geometry.{Geometry}
use Rattle.trap_map.specs.Layout.{parity_member, block_at}
use Rattle.trap_map.specs.Table.{table, data_place}
use Rattle.trap_map.proofs.PlaceLemmas.{block_at-within}
use Rattle.trap_map.proofs.TableLemmas.{table_at_parity, table_elsewhere}
use Rattle.trap_bank.specs.Disks.{Disks, Within, Differs, size_of, bytes_of}
use Rattle.trap_bank.proofs.Regions.{region_apart}
use Rattle.trap_format.specs.MemberDisk.{row_at, member_size}
use Rattle.trap_raid.proofs.FitLemmas.{row_within}
use Rattle.trap_raid.specs.Members.{IsMember, IsOut, MembersHold, member_place}

-- the exclusive-or of zero blocks
zeros_but : (size one n : ℕ) → xor_but size one (λ m. zeros size) n ≡ zeros size
zeros_but size one zero = refl
zeros_but size one (suc n) =
    elim (cases_eq n one) [
      | inl e ↦ xor_but_here size one n (λ m. zeros size) e ∙ zeros_but size one n
      | inr h ↦
          xor_but_there size one n (λ m. zeros size) h ∙ xor-zeros (xor_but size one (λ m. zeros size) n) size (ap length (zeros_but size one n) ∙ length-replicate size 0)
          ∙ zeros_but size one n
    ]

zero_data : (g : Geometry) (row m : ℕ) → row < g.rows → m < g.members → m ≢ parity_member g row → data_place g (zero_image g) row m ≡ zeros g.block
zero_data g row m below inside apart =
    get_or-replicate (volume g) (block_at g m row) (zeros g.block) [] (block_at-within g m row inside below apart)

-- each place of the zero image's table is zero
pub zero_table : (g : Geometry) (row m : ℕ) → row < g.rows → m < g.members → table g (zero_image g) row m ≡ zeros g.block
zero_table g row m below inside =
    elim (cases_eq m (parity_member g row)) [
      | inl e ↦
          table_at_parity g (zero_image g) row m e
          ∙ xor_but_same g.block (parity_member g row) g.members (data_place g (zero_image g) row) (λ k. zeros g.block) (λ k less apart. zero_data g row k below less apart)
          ∙ zeros_but g.block (parity_member g row) g.members
      | inr h ↦ table_elsewhere g (zero_image g) row m h ∙ zero_data g row m below inside h
    ]

-- members that are made, and of which each place is zero, hold the zero image with nothing pending
pub zero_members : (g : Geometry) (x : Disks) → ((m : ℕ) → m < g.members → IsMember g x m)
    → ((row m : ℕ) → row < g.rows → m < g.members → member_place g x row m ≡ zeros g.block) → MembersHold g None 0 [] (zero_image g) x
zero_members g x made places = record {
  one_out = λ m k in_m in_k out_m out_k. absurd (none_out m in_m out_m);
  made = λ m inside here. made m inside;
  places = λ row m below inside trusted. places row m below inside ∙ sym (zero_table g row m below inside);
}
  where
    no_member : {n : ℕ} → None ≡ Some n → ⊥
    no_member gone = cc

    there : (o : Option (List ℕ)) (n : ℕ) → size_of o ≡ Some n → o ≡ None → ⊥
    there None n size none = cc
    there (Some xs) n size none = cc

    none_out : (m : ℕ) → m < g.members → IsOut None x m → ⊥
    none_out m inside out = ⊎_elim (λ gone. no_member gone) (λ absent. there (x (m + 1)) _ (made m inside).size absent) out

-- ---- disks that were made
-- a place of a disk full of zeros
pub zero_place : (g : Geometry) (x : Disks) (row m : ℕ) → x (m + 1) ≡ Some (replicate (member_size g) 0) → row < g.rows → member_place g x row m ≡ zeros g.block
zero_place g x row m made below =
    let within = row_within g row below in
    ap (λ o. take g.block (drop (row_at g row) (bytes_of o))) made
    ∙ ap (λ (bytes : List ℕ). take g.block bytes) (drop-replicate (row_at g row) (member_size g) 0)
    ∙ take-replicate g.block (member_size g - row_at g row) 0 (omega arith)

-- the header's bytes are none of a place's
pub places_after_header : (g : Geometry) (x y : Disks) (row member m : ℕ) → Differs (Within (m + 1) 0 16) x y → member_place g y row member ≡ member_place g x row member
places_after_header g x y row member m differs =
    region_apart (Within (m + 1) 0 16) x y (member + 1) (row_at g row) g.block differs (λ i low high within. omega (arith, low, within.to))
