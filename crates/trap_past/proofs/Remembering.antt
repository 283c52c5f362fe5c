-- Pasts in memory: the state that one stands for, and its blocks.
use Rattle.std.proofs.Common.{◌≡◌, ℕ, ◌+◌, ◌-◌, ◌<◌, ◌≤◌, List, [], length, get_or, take, map, refl, ap, sym, ◌∙◌, arith}
use Rattle.std.proofs.lemmas.List.{get_or-map, length-map, get_or_default, take-map}
use Rattle.std.proofs.lemmas.List.Elements.{All-take}
use Rattle.trap_model.specs.declared.history.Entry.{Entry}
use Rattle.trap_model.specs.declared.log_record.LogRec.{LogRec}
use Rattle.trap_model.specs.Image.{volume, block_of, image_after}
use Rattle.trap_model.specs.Records.{no_entry, entry_at}
use Rattle.trap_model.specs.State.{image_at, IsEntry}
use Rattle.trap_model.proofs.Validity.{image_after_is_image}
use Rattle.trap_index.specs.Indexed.{no_rec, last_seq}
use Rattle.trap_past.specs.declared.memory.Kept.{Kept}
use Rattle.trap_past.specs.Memory.{PastInMemory, kept_entry, kept_rec, past_state, index_of, past_of, IsPastInMemory}
use Rattle.trap_past.specs.Past.{IsOf}

-- what stands for an entry where there is none
abbrev pub nothing : Kept
nothing = record { rec = no_rec; contents = [] }

pub entry_in : (m : PastInMemory) (k : ℕ) → k < length m.entries → get_or (map kept_entry m.entries) k no_entry ≡ kept_entry (get_or m.entries k nothing)
entry_in m k inside = get_or-map kept_entry m.entries k nothing no_entry inside

rec_in : (m : PastInMemory) (k : ℕ) → k < length m.entries → get_or (map kept_rec m.entries) k no_rec ≡ kept_rec (get_or m.entries k nothing)
rec_in m k inside = get_or-map kept_rec m.entries k nothing no_rec inside

-- the past can stand for its state
pub stands_for : (m : PastInMemory) → IsPastInMemory m → IsOf (past_of m).has (past_state m)
stands_for m is =
    let entries = length-map m.entries kept_entry in
    let recs = length-map m.entries kept_rec in
    record {
      blocks = is.image.long;
      sized = is.image.sized;
      first = refl;
      last = omega arith;
      items = λ q low high.
          let k = q - (m.first + 1) in
          let entry = entry_in m k (omega arith) in
          let rec = rec_in m k (omega arith) in
          let all = is.written k no_entry (omega arith) in
          record {
            time = ap (λ (r : LogRec). r.time) rec ∙ sym (ap (λ (e : Entry). e.time) entry);
            block = ap (λ (r : LogRec). r.block) rec ∙ sym (ap (λ (e : Entry). e.block) entry);
            snap = ap (λ (r : LogRec). r.snap) rec ∙ sym (ap (λ (e : Entry). e.snap) entry);
            within = all.block;
            whole = all.size;
          };
    }

-- a block after some entries has its size
pub sized_after : (m : PastInMemory) (count block : ℕ) → IsPastInMemory m → block < volume m.g → length (block_of (image_after m.base (take count (map kept_entry m.entries))) block) ≡ m.g.block
sized_after m count block is inside =
    (image_after_is_image m.g m.base (take count (map kept_entry m.entries)) is.image (All-take (IsEntry m.g) count (map kept_entry m.entries) is.written)).sized block inside

pub sized_now : (m : PastInMemory) (block : ℕ) → IsPastInMemory m → block < volume m.g → length (block_of (image_after m.base (map kept_entry m.entries)) block) ≡ m.g.block
sized_now m block is inside = (image_after_is_image m.g m.base (map kept_entry m.entries) is.image is.written).sized block inside

-- the entry with a number
pub record IsEntryAt (m : PastInMemory) (q : ℕ) (kept : Kept) : Type 0 where
  pub is : kept_entry kept ≡ entry_at (past_state m) q
  pub block : kept.rec.block < volume m.g
  pub size : length kept.contents ≡ m.g.block

pub entry_kept : (m : PastInMemory) (q at : ℕ) (kept : Kept) → IsPastInMemory m → m.first < q → q ≤ last_seq (index_of m) → at ≡ q - m.first - 1 → kept ≡ get_or m.entries at kept → IsEntryAt m q kept
entry_kept m q at kept is low high place read =
    let recs = length-map m.entries kept_rec in
    let entries = length-map m.entries kept_entry in
    let k = q - (m.first + 1) in
    let same : at ≡ k = omega arith in
    let inside : k < length m.entries = omega arith in
    let here : kept_entry kept ≡ get_or (map kept_entry m.entries) k no_entry =
    ap kept_entry (read ∙ ap (λ (n : ℕ). get_or m.entries n kept) same ∙ get_or_default m.entries k kept nothing inside) ∙ sym (entry_in m k inside) in
    let all = is.written k no_entry (omega arith) in
    let within = all.block in
    let blocks = ap (λ (e : Entry). e.block) here in
    record {
      is = here;
      block = omega arith;
      size = ap (λ (e : Entry). length e.bytes) here ∙ all.size;
    }

-- the block of an entry before it
pub before_is : (m : PastInMemory) (q count block : ℕ) (base : List (List ℕ)) (entries : List Kept) (found : List ℕ) → base ≡ m.base → entries ≡ m.entries
    → count ≡ q - m.first - 1 → block ≡ (entry_at (past_state m) q).block → found ≡ block_of (image_after base (map kept_entry (take count entries))) block
    → found ≡ block_of (image_at (past_state m) (q - 1)) (entry_at (past_state m) q).block
before_is m q count block base entries found base_is entries_is place writes is =
    let same : count ≡ q - 1 - m.first = omega arith in
    is
    ∙ ap (λ (b : List (List ℕ)). block_of (image_after b (map kept_entry (take count entries))) block) base_is
    ∙ ap (λ (l : List Kept). block_of (image_after m.base (map kept_entry (take count l))) block) entries_is
    ∙ ap (λ (l : List Entry). block_of (image_after m.base l) block) (sym (take-map kept_entry count m.entries))
    ∙ ap (λ (n : ℕ). block_of (image_after m.base (take n (map kept_entry m.entries))) block) same
    ∙ ap (λ (b : ℕ). block_of (image_at (past_state m) (q - 1)) b) writes
