-- The parities of a block's writes, taken back, the newest first.
use Rattle.std.proofs.Common.{◌≡◌, ◌≢◌, ℕ, ◌-◌, ◌<◌, List, [], ◌∷◌, ◌++◌, length, take, drop, All, true, false, ◌==◌, refl, ap, sym, ◌∙◌, ⊎_elim, arith, length-append, append-nil}
use Rattle.std.proofs.lemmas.Bool.{cases_Bool, eqb-true, eq-eqb, false≢true}
use Rattle.std.proofs.lemmas.List.{take-append-drop}
use Rattle.std.proofs.lemmas.List.Elements.{All-head, All-tail, All-take, All-drop}
use Rattle.trap_block.specs.Xor.{xor}
use Rattle.trap_block.proofs.XorLemmas.{xor-comm}
use Rattle.trap_block.proofs.OverLemmas.{xor_twice}
use Rattle.trap_model.specs.declared.history.Entry.{Entry}
use Rattle.trap_model.specs.declared.history.State.{State}
use Rattle.trap_model.specs.declared.numbers.Geometry.{Geometry}
use Rattle.trap_model.specs.Image.{volume, IsImage, block_of, written, entry_parity, image_after}
use Rattle.trap_model.specs.Path.{entries_of_block}
use Rattle.trap_model.specs.State.{image, image_at, above, IsEntry, IsValid}
use Rattle.trap_model.proofs.Images.{block_written_same, block_written_other}
use Rattle.trap_model.proofs.Dropping.{image_after-append}
use Rattle.trap_model.proofs.Validity.{image_after_is_image}
use Rattle.trap_past.specs.Undo.{parities_over, parities_above, contents_before}

-- taking back one list of parities and then another
contents_before-append : (contents : List ℕ) (xs ys : List (List ℕ)) → contents_before contents (xs ++ ys) ≡ contents_before (contents_before contents xs) ys
contents_before-append contents [] ys = refl
contents_before-append contents (x ∷ xs) ys = contents_before-append (xor contents x) xs ys

-- new contents xor the parity are the old ones
pub undo_one : (size : ℕ) (old new : List ℕ) → length old ≡ size → length new ≡ size → xor new (xor old new) ≡ old
undo_one size old new e f = ap (xor new) (xor-comm old new) ∙ xor_twice size new old f e

-- an image with an entry written is one
image_written : (g : Geometry) (base : List (List ℕ)) (entry : Entry) (later : List Entry) → IsImage g base → All (IsEntry g) (entry ∷ later) → IsImage g (written base entry)
image_written g base entry later is entries = image_after_is_image g base (take 1 (entry ∷ later)) is (All-take (IsEntry g) 1 (entry ∷ later) entries)

pub undone : (g : Geometry) (base : List (List ℕ)) (entries : List Entry) (block : ℕ) → IsImage g base → All (IsEntry g) entries → block < volume g
    → block_of base block ≡ contents_before (block_of (image_after base entries) block) (parities_over block base entries)
undone g base [] block is all inside = refl
undone g base (entry ∷ later) block is all inside =
    let next : IsImage g (written base entry) = image_written g base entry later is all in
    let rest : block_of (written base entry) block ≡ contents_before (block_of (image_after base (entry ∷ later)) block) (parities_over block (written base entry) later) =
    undone g (written base entry) later block next (All-tail (IsEntry g) entry later all) inside in
    ⊎_elim
    (λ (t : (entry.block == block) ≡ true).
    let same : entry.block ≡ block = eqb-true entry.block block t in
    let of_entry = All-head (IsEntry g) entry later all in
    let size = of_entry.size in
    let long = is.long in
    let here : block_of (written base entry) block ≡ entry.bytes = block_written_same base entry block same (omega arith) in
    let split : parities_over block base (entry ∷ later) ≡ parities_over block (written base entry) later ++ entry_parity base entry ∷ [] = rw t refl in
    let old : block_of base entry.block ≡ block_of base block = ap (block_of base) same in
    let back : xor entry.bytes (entry_parity base entry) ≡ block_of base entry.block = undo_one g.block (block_of base entry.block) entry.bytes (ap length old ∙ is.sized block inside) size in
    let taken = contents_before-append (block_of (image_after base (entry ∷ later)) block) (parities_over block (written base entry) later) (entry_parity base entry ∷ []) in
    sym (ap (contents_before (block_of (image_after base (entry ∷ later)) block)) split ∙ taken ∙ ap (λ (b : List ℕ). xor b (entry_parity base entry)) (sym rest ∙ here) ∙ back ∙ old))
    (λ (f : (entry.block == block) ≡ false).
    let other : entry.block ≢ block = λ e. false≢true (sym f ∙ eq-eqb entry.block block e) in
    let split : parities_over block base (entry ∷ later) ≡ parities_over block (written base entry) later = rw f (append-nil (parities_over block (written base entry) later)) in
    sym (block_written_other base entry block other) ∙ rest ∙ ap (contents_before (block_of (image_after base (entry ∷ later)) block)) (sym split))
    (cases_Bool (entry.block == block))

pub undone_at : (g : Geometry) (s : State) (block q : ℕ) → IsValid g s → block < volume g → block_of (image_at s q) block ≡ contents_before (block_of (image s) block) (parities_above s block q)
undone_at g s block q valid inside =
    let k = q - s.first in
    let before = image_after_is_image g s.base (take k s.entries) valid.base (All-take (IsEntry g) k s.entries valid.entries) in
    let whole : image_after (image_at s q) (above s q) ≡ image s =
    sym (image_after-append s.base (take k s.entries) (drop k s.entries)) ∙ ap (image_after s.base) (take-append-drop k s.entries) in
    undone g (image_at s q) (above s q) block before (All-drop (IsEntry g) k s.entries valid.entries) inside
    ∙ ap (λ (im : List (List ℕ)). contents_before (block_of im block) (parities_above s block q)) whole

-- there is one parity for each write of the block
pub length-parities_over : (block : ℕ) (base : List (List ℕ)) (entries : List Entry) → length (parities_over block base entries) ≡ length (entries_of_block block entries)
length-parities_over block base [] = refl
length-parities_over block base (entry ∷ later) =
    let rest = length-parities_over block (written base entry) later in
    ⊎_elim
    (λ (t : (entry.block == block) ≡ true).
    let sum = length-append (parities_over block (written base entry) later) (entry_parity base entry ∷ []) in
    let split : parities_over block base (entry ∷ later) ≡ parities_over block (written base entry) later ++ entry_parity base entry ∷ [] = rw t refl in
    let one : entries_of_block block (entry ∷ later) ≡ entry ∷ entries_of_block block later = rw t refl in
    let long = ap (λ (l : List (List ℕ)). length l) split in
    let counts = ap (λ (l : List Entry). length l) one in
    omega arith)
    (λ (f : (entry.block == block) ≡ false).
    let split : parities_over block base (entry ∷ later) ≡ parities_over block (written base entry) later = rw f (append-nil (parities_over block (written base entry) later)) in
    let none : entries_of_block block (entry ∷ later) ≡ entries_of_block block later = rw f refl in
    ap (λ (l : List (List ℕ)). length l) split ∙ rest ∙ sym (ap (λ (l : List Entry). length l) none))
    (cases_Bool (entry.block == block))
