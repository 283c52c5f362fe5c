-- Indexes of the states that sources tell.
use Rattle.std.proofs.Common.{◌≡◌, ℕ, suc, ◌+◌, ◌-◌, ◌<◌, List, [], ◌∷◌, length, get_or, drop, true, false, ◌==◌, refl, ap, sym, ◌∙◌, ⊎_elim, arith, length-drop}
use Rattle.std.proofs.lemmas.Bool.{cases_Bool}
use Rattle.std.proofs.lemmas.List.{get_or-drop}
use Rattle.trap_model.specs.declared.history.Entry.{Entry}
use Rattle.trap_model.specs.declared.history.State.{State}
use Rattle.trap_model.specs.declared.known.Known.TheVariants.{Present}
use Rattle.trap_model.specs.declared.known.Path.{Path}
use Rattle.trap_model.specs.declared.known.Way.TheVariants.{Back}
use Rattle.trap_model.specs.declared.log_record.LogRec.{LogRec}
use Rattle.trap_model.specs.Image.{volume}
use Rattle.trap_model.specs.Path.{path}
use Rattle.trap_model.specs.Path as model
use Rattle.trap_model.specs.Records.{no_entry}
use Rattle.trap_model.specs.State.{IsValid}
use Rattle.trap_index.specs.Describes.{Describes}
use Rattle.trap_index.specs.declared.item.Item.{Item}
use Rattle.trap_index.specs.Indexed.{Indexed, of_block, no_rec, path_to}
use Rattle.trap_index.proofs.Describing.{item_told, last_told}
use Rattle.trap_past.specs.Past.{Retained, IsOf, IsIndexOf}
use Rattle.trap_past.proofs.Standing.{as_long, same_block}

-- a source with an index's blocks and entries may stand for a state that the index describes
pub of_described : (i : Indexed) (s : State) (v : Retained) → Describes i s → IsValid i.g s → IsIndexOf i v → v.volume ≡ volume i.g → v.size ≡ i.g.block → IsOf v s
of_described i s v is valid index blocks size =
    let one = index.first in
    let two = index.last in
    let three = is.first in
    let lasts = last_told i s is in
    record {
      blocks = valid.base.long ∙ sym blocks;
      sized = λ block inside. valid.base.sized block (omega arith) ∙ sym size;
      first = omega arith;
      last = omega arith;
      items = λ q low high.
          let told = item_told i s q is (omega arith) (omega arith) in
          let same = index.items q low high in
          let entry = valid.entries (q - (s.first + 1)) no_entry (omega arith) in
          let within = entry.block in
          record {
            time = ap (λ (x : Item). x.time) (sym same) ∙ told.time;
            block = ap (λ (x : Item). x.block) (sym same) ∙ told.block;
            snap = ap (λ (x : Item). x.snap) (sym same) ∙ told.snap;
            within = omega arith;
            whole = entry.size ∙ sym size;
          };
    }

-- as many records as entries write a block, where they write the same ones
same_count : (block : ℕ) (recs : List LogRec) (entries : List Entry) → length recs ≡ length entries
    → ((k : ℕ) → k < length recs → (get_or recs k no_rec).block ≡ (get_or entries k no_entry).block) → length (of_block block recs) ≡ length (model.entries_of_block block entries)
same_count block [] [] long same = refl
same_count block [] (entry ∷ entries) long same = cc
same_count block (rec ∷ recs) [] long same = cc
same_count block (rec ∷ recs) (entry ∷ entries) long same =
    let rest = same_count block recs entries (omega arith) (λ k below. same (suc k) (omega arith)) in
    let here : rec.block ≡ entry.block = same 0 (omega arith) in
    ⊎_elim
    (λ (t : (entry.block == block) ≡ true).
    let s : (rec.block == block) ≡ true = ap (λ (b : ℕ). b == block) here ∙ t in
    let one : of_block block (rec ∷ recs) ≡ rec ∷ of_block block recs = rw s refl in
    let other : model.entries_of_block block (entry ∷ entries) ≡ entry ∷ model.entries_of_block block entries = rw t refl in
    let first = ap (λ (l : List LogRec). length l) one in
    let second = ap (λ (l : List Entry). length l) other in
    omega arith)
    (λ (f : (entry.block == block) ≡ false).
    let s : (rec.block == block) ≡ false = ap (λ (b : ℕ). b == block) here ∙ f in
    let one : of_block block (rec ∷ recs) ≡ of_block block recs = rw s refl in
    let other : model.entries_of_block block (entry ∷ entries) ≡ model.entries_of_block block entries = rw f refl in
    let first = ap (λ (l : List LogRec). length l) one in
    let second = ap (λ (l : List Entry). length l) other in
    omega arith)
    (cases_Bool (entry.block == block))

abbrev path_back : ℕ → Path
path_back n = record { from = Present; turns = n; way = Back }

pub path_same : (i : Indexed) (s : State) (v : Retained) (block q : ℕ) → IsOf v s → IsIndexOf i v → path_to i block q ≡ path s block q
path_same i s v block q of index =
    let one = index.first in
    let three = of.first in
    let long = as_long i v s of index in
    let n = q - i.first in
    let same : q - i.first ≡ q - s.first = omega arith in
    let recs = length-drop n i.recs in
    let entries = length-drop n s.entries in
    let counts = same_count block (drop n i.recs) (drop n s.entries) (omega arith) (λ k below.
    ap (λ (r : LogRec). r.block) (get_or-drop n i.recs k no_rec)
    ∙ same_block i v s of index (n + k) (omega arith)
    ∙ sym (ap (λ (e : Entry). e.block) (get_or-drop n s.entries k no_entry))) in
    ap path_back (counts ∙ ap (λ (m : ℕ). length (model.entries_of_block block (drop m s.entries))) same)
