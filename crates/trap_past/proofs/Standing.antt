-- The state that a source stands for, entry by entry, as an index tells of it.
use Rattle.std.proofs.Common.{◌≡◌, ◌≢◌, ℕ, zero, suc, ◌+◌, ◌-◌, ◌<◌, ◌≤◌, List, [], ◌∷◌, ◌++◌, length, get_or, take, cond, true, ◌==◌, refl, ap, sym, ◌∙◌, ⊎_elim, arith, length-append, add-zero}
use Rattle.std.proofs.lemmas.Bool.{cases_eq, eq-eqb}
use Rattle.std.proofs.lemmas.List.{get_or_default}
use Rattle.std.proofs.lemmas.List.Elements.{filter_more}
use Rattle.trap_block.specs.Xor.{xor}
use Rattle.trap_model.specs.declared.history.Entry.{Entry}
use Rattle.trap_model.specs.declared.history.State.{State}
use Rattle.trap_model.specs.declared.log_record.LogRec.{LogRec}
use Rattle.trap_model.specs.Image.{block_of, image_after}
use Rattle.trap_model.specs.Records.{no_entry, entry_at}
use Rattle.trap_model.specs.State.{image_at}
use Rattle.trap_model.proofs.Images.{block_more_same, block_more_other}
use Rattle.trap_index.specs.declared.item.Item.{Item}
use Rattle.trap_index.specs.Indexed.{Indexed, last_seq, of_block, no_rec, item_at}
use Rattle.trap_index.proofs.Chains.{of_block_more}
use Rattle.trap_past.specs.Past.{Retained, IsOf, IsIndexOf}
use Rattle.trap_past.specs.Undo.{parity_at}
use Rattle.trap_past.proofs.Undoing.{undo_one}

-- how many of the first records write a block
abbrev pub writes_to : Indexed → ℕ → ℕ → ℕ
writes_to i block count = length (of_block block (take count i.recs))

-- one record more, which writes it
pub writes_to-more : (i : Indexed) (block k : ℕ) → k < length i.recs → (get_or i.recs k no_rec).block ≡ block → writes_to i block (k + 1) ≡ writes_to i block k + 1
writes_to-more i block k inside is =
    let rec = get_or i.recs k no_rec in
    let t : (rec.block == block) ≡ true = eq-eqb rec.block block is in
    let one : cond (rec.block == block) (rec ∷ []) [] ≡ rec ∷ [] = rw t refl in
    let more : of_block block (take (k + 1) i.recs) ≡ of_block block (take k i.recs) ++ cond (rec.block == block) (rec ∷ []) [] = filter_more
    (λ (r : LogRec). r.block == block) i.recs k no_rec inside in
    ap (λ (l : List LogRec). length l) (more ∙ ap (λ (l : List LogRec). of_block block (take k i.recs) ++ l) one) ∙ length-append (of_block block (take k i.recs)) (rec ∷ [])

module _ (i : Indexed) (v : Retained) (s : State) (of : IsOf v s) (index : IsIndexOf i v) where
  pub as_long : length i.recs ≡ length s.entries
  as_long =
      let one = index.first in
      let two = index.last in
      let three = of.first in
      let four = of.last in
      omega arith

  -- the record of an entry has its block
  pub same_block : (k : ℕ) → k < length i.recs → (get_or i.recs k no_rec).block ≡ (get_or s.entries k no_entry).block
  same_block k inside =
      let one = index.first in
      let two = index.last in
      let three = of.first in
      let q = v.first + k + 1 in
      let at_record : q - (i.first + 1) ≡ k = omega arith in
      let at_entry : q - (s.first + 1) ≡ k = omega arith in
      let items : item_at i q ≡ v.item q = index.items q (omega arith) (omega arith) in
      let is = of.items q (omega arith) (omega arith) in
      sym (ap (λ (n : ℕ). (get_or i.recs n no_rec).block) at_record)
      ∙ ap (λ (item : Item). item.block) items
      ∙ is.block
      ∙ ap (λ (n : ℕ). (get_or s.entries n no_entry).block) at_entry

  -- and the entry has a block's bytes
  whole_block : (k : ℕ) → k < length i.recs → length (get_or s.entries k no_entry).bytes ≡ v.size
  whole_block k inside =
      let one = index.first in
      let two = index.last in
      let three = of.first in
      let q = v.first + k + 1 in
      let at_entry : q - (s.first + 1) ≡ k = omega arith in
      let is = of.items q (omega arith) (omega arith) in
      sym (ap (λ (n : ℕ). length (get_or s.entries n no_entry).bytes) at_entry) ∙ is.whole

  -- so has each block at each instant
  pub sized_at : (block k : ℕ) → block < v.volume → k ≤ length i.recs → length (block_of (image_after s.base (take k s.entries)) block) ≡ v.size
  sized_at block zero inside within = of.sized block inside
  sized_at block (suc k) inside within =
      let long = as_long in
      let blocks = of.blocks in
      let entry = get_or s.entries k no_entry in
      let next : suc k ≡ k + 1 = omega arith in
      ap (λ (n : ℕ). length (block_of (image_after s.base (take n s.entries)) block)) next
      ∙ ⊎_elim
      (λ (e : entry.block ≡ block).
      sym (ap (λ (b : List ℕ). length b) (block_more_same s.base s.entries k entry block (omega arith) (get_or_default s.entries k no_entry entry (omega arith)) e (omega arith)))
      ∙ whole_block k (omega arith))
      (λ (h : entry.block ≡ block → ⊥).
      sym (ap (λ (b : List ℕ). length b) (block_more_other s.base s.entries k entry block (omega arith) (get_or_default s.entries k no_entry entry (omega arith)) h))
      ∙ sized_at block k inside (omega arith))
      (cases_eq entry.block block)

  -- where no record between writes a block, it stays
  pub stays : (block p d : ℕ) → p + d ≤ length i.recs → writes_to i block (p + d) ≡ writes_to i block p
      → block_of (image_after s.base (take (p + d) s.entries)) block ≡ block_of (image_after s.base (take p s.entries)) block
  stays block p zero within same = ap (λ (n : ℕ). block_of (image_after s.base (take n s.entries)) block) (add-zero p)
  stays block p (suc d) within same =
      let k = p + d in
      let next : p + suc d ≡ k + 1 = omega arith in
      let long = as_long in
      let entry = get_or s.entries k no_entry in
      let before = of_block_more block i.recs p k (omega arith) in
      let behind = of_block_more block i.recs k (p + suc d) (omega arith) in
      let other : entry.block ≢ block = λ e.
      let one = writes_to-more i block k (omega arith) (same_block k (omega arith) ∙ e) in
      let again : writes_to i block (p + suc d) ≡ writes_to i block (k + 1) = ap (writes_to i block) next in
      omega arith in
      ap (λ (n : ℕ). block_of (image_after s.base (take n s.entries)) block) next
      ∙ sym (block_more_other s.base s.entries k entry block (omega arith) (get_or_default s.entries k no_entry entry (omega arith)) other)
      ∙ stays block p d (omega arith) (omega arith)

  -- the block before an entry that writes it is the block after it, with the entry's parity taken back
  pub taken_back : (block number : ℕ) → block < v.volume → i.first < number → number ≤ last_seq i → (get_or i.recs (number - (i.first + 1)) no_rec).block ≡ block
      → xor (block_of (image_after s.base (take (number - i.first) s.entries)) block) (parity_at s number) ≡ block_of (image_after s.base (take (number - (i.first + 1)) s.entries)) block
  taken_back block number inside low high writes =
      let long = as_long in
      let blocks = of.blocks in
      let one = index.first in
      let three = of.first in
      let k = number - (i.first + 1) in
      let entry = get_or s.entries k no_entry in
      let after : number - i.first ≡ k + 1 = omega arith in
      let at_entry : number - (s.first + 1) ≡ k = omega arith in
      let at_image : number - 1 - s.first ≡ k = omega arith in
      let is : entry.block ≡ block = sym (same_block k (omega arith)) ∙ writes in
      let old = block_of (image_after s.base (take k s.entries)) block in
      let new : block_of (image_after s.base (take (number - i.first) s.entries)) block ≡ entry.bytes =
      ap (λ (n : ℕ). block_of (image_after s.base (take n s.entries)) block) after
      ∙ sym (block_more_same s.base s.entries k entry block (omega arith) (get_or_default s.entries k no_entry entry (omega arith)) is (omega arith)) in
      let of_entry : entry_at s number ≡ entry = ap (λ (n : ℕ). get_or s.entries n no_entry) at_entry in
      let of_image : image_at s (number - 1) ≡ image_after s.base (take k s.entries) = ap (λ (n : ℕ). image_after s.base (take n s.entries)) at_image in
      let parity : parity_at s number ≡ xor old entry.bytes =
      ap (λ (im : List (List ℕ)). xor (block_of im (entry_at s number).block) (entry_at s number).bytes) of_image
      ∙ ap (λ (e : Entry). xor (block_of (image_after s.base (take k s.entries)) e.block) e.bytes) of_entry
      ∙ ap (λ (b : ℕ). xor (block_of (image_after s.base (take k s.entries)) b) entry.bytes) is in
      ap (λ (b : List ℕ). xor b (parity_at s number)) new
      ∙ ap (xor entry.bytes) parity
      ∙ undo_one v.size old entry.bytes (sized_at block k inside (omega arith)) (whole_block k (omega arith))
