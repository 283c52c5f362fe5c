-- A further record: the items with its own are those of the records with it.
use Rattle.std.proofs.Common.{◌≡◌, ℕ, ◌+◌, ◌-◌, ◌<◌, ◌≤◌, List, [], ◌∷◌, ◌++◌, length, get_or, set, take, drop, Bool, true, false, ap, sym, ◌∙◌, subst, ⊎_elim, arith, length-append}
use Rattle.std.proofs.lemmas.Bool.{cases_lt, cases_eq}
use Rattle.std.proofs.lemmas.List.{length-set, get_or-set_same, get_or-set_other, get_or_append_left, get_or_push, take-append-le, take_all}
use Rattle.circular_buffer.specs.Buffer.{Buffer, buffer, keep_last}
use Rattle.trap_model.specs.declared.log_record.LogRec.{LogRec}
use Rattle.trap_model.specs.declared.numbers.Geometry.{Geometry}
use Rattle.trap_model.specs.Image.{volume}
use Rattle.trap_model.specs.LogRecord.{IsRecordInRange, SnapshotLength}
use Rattle.trap_index.specs.declared.item.Item.{Item}
use Rattle.trap_index.specs.Indexed.{Indexed, with_record, last_seq, last_record_time, rec_len, recs_len, newest, no_rec, item_after}
use Rattle.trap_index.specs.Keeping.{KeepsItems, rec_of_item, recs_of, no_item, link, told}
use Rattle.trap_index.proofs.Numbered.{length-recs_of, recs_of-push, numbered-push, times-push, time_of_last-push, recs_len-push}
use Rattle.trap_index.proofs.Chains.{newest-push, newest-push_other}
use Rattle.trap_index.proofs.Links.{link-some}

-- what a caller says of a further record
pub record IsNext (i : Indexed) (rec : LogRec) : Type 0 where
  pub few : length i.recs < i.g.entries
  pub number : rec.seq ≡ last_seq i + 1
  pub time : last_record_time i ≤ rec.time
  pub block : rec.block < volume i.g
  pub ranges : IsRecordInRange i.g.block rec

-- a record has at most 8232 bytes
pub rec_short : (g : Geometry) (rec : LogRec) → IsRecordInRange g.block rec → rec_len rec ≤ 8232
rec_short g rec ranges =
    let most = g.within.block_most in
    let first = ranges.parity.1 in
    let second = snapshot_most g.block rec.snap rec.slen ranges.snapshot in
    omega arith
  where
    snapshot_most : (size : ℕ) (snap : Bool) (len : ℕ) → SnapshotLength size snap len → len ≤ size + 7
    snapshot_most size true len is = is.1
    snapshot_most size false len is = omega arith

item_same : (first_off : ℕ) (recs more : List LogRec) (k : ℕ) → k < length recs → item_after first_off (take k recs) (get_or recs k no_rec) ≡ item_after first_off
    (take k (recs ++ more)) (get_or (recs ++ more) k no_rec)
item_same first_off recs more k inside =
    let fronts = sym (take-append-le k recs more (omega arith)) in
    let heres = sym (get_or_append_left recs more no_rec k inside) in
    ap (λ (before : List LogRec). item_after first_off before (get_or recs k no_rec)) fronts
    ∙ ap (λ (r : LogRec). item_after first_off (take k (recs ++ more)) r) heres

item_last : (first_off : ℕ) (recs : List LogRec) (rec : LogRec) (k : ℕ) → length recs ≡ k → item_after first_off recs rec ≡ item_after first_off
    (take k (recs ++ rec ∷ [])) (get_or (recs ++ rec ∷ []) k no_rec)
item_last first_off recs rec k is =
    let fronts : recs ≡ take k (recs ++ rec ∷ []) = sym (take-append-le k recs (rec ∷ []) (omega arith) ∙ take_all k recs (omega arith)) in
    let heres : rec ≡ get_or (recs ++ rec ∷ []) k no_rec = sym (get_or_push recs rec no_rec k is) in
    ap (λ (before : List LogRec). item_after first_off before rec) fronts
    ∙ ap (λ (r : LogRec). item_after first_off (take k (recs ++ rec ∷ [])) r) heres

-- what is kept of the records with a further one
pub kept_added : (i : Indexed) (items : List Item) (capacity : ℕ) (heads : List ℕ) (end_off last : ℕ) (rec : LogRec) (item : Item)
    → KeepsItems i items capacity heads end_off last → IsNext i rec → length items ≡ length i.recs → told i.first item ≡ item_after i.first_off i.recs rec
    → KeepsItems (with_record i rec) (items ++ item ∷ []) capacity (set heads rec.block rec.seq) (end_off + rec_len rec) rec.time
kept_added i items capacity heads end_off last rec item kept next same is_told =
    let long : length (i.recs ++ rec ∷ []) ≡ length i.recs + 1 = length-append i.recs (rec ∷ []) in
    let was = kept.indexed in
    let few = next.few in
    let most_entries = i.g.within.entries_most in
    let seq = next.number in
    let seq_most = next.ranges.last in
    record {
      indexed = record {
        few = omega arith;
        last_most = omega arith;
        numbers = numbered-push i.first i.recs rec was.numbers (let is : rec.seq ≡ i.first + length i.recs + 1 = omega arith in is);
        times = times-push i.base_time i.recs rec was.times next.time;
      };
      room = kept.room;
      item = λ k inside. ⊎_elim
          (λ (older : k < length i.recs).
          ap (told i.first) (get_or_append_left items (item ∷ []) no_item k (omega arith))
          ∙ kept.item k older ∙ item_same i.first_off i.recs (rec ∷ []) k older)
          (λ (newer : length i.recs ≤ k).
          ap (told i.first) (get_or_push items item no_item k (omega arith)) ∙ is_told
          ∙ item_last i.first_off i.recs rec k (omega arith))
          (cases_lt k (length i.recs));
      blocks = length-set heads rec.block rec.seq ∙ kept.blocks;
      head = λ block inside. ⊎_elim
          (λ (is : block ≡ rec.block).
          let here : get_or (set heads rec.block rec.seq) rec.block 0 ≡ rec.seq = get_or-set_same heads rec.block rec.seq 0 (let blocks = kept.blocks in let block_is = next.block in omega arith) in
          ap (λ (b : ℕ). link i.first (get_or (set heads rec.block rec.seq) b 0)) is ∙ ap (link i.first) here ∙ link-some i.first rec.seq (omega arith) ∙ sym (newest-push block i.recs rec (sym is)))
          (λ (other : block ≡ rec.block → ⊥).
          ap (link i.first) (get_or-set_other heads rec.block block rec.seq 0 other) ∙ kept.head block inside ∙ sym (newest-push_other block i.recs rec (λ e. other (sym e))))
          (cases_eq block rec.block);
      end = (let was_end = kept.end in let more = recs_len-push i.recs rec in omega arith);
      end_most = (let was_most = kept.end_most in let short = rec_short i.g rec next.ranges in omega arith);
      time = sym (time_of_last-push i.base_time i.recs rec);
    }

-- the fields of an index with a further record
pub record IsAddedTo (i : Indexed) (new : Buffer Item) (heads : List ℕ) (end_off last : ℕ) (rec : LogRec) : Type 0 where
  pub recs : recs_of i.first new.items ≡ i.recs ++ rec ∷ []
  pub kept : KeepsItems (record i { recs = recs_of i.first new.items }) new.items new.capacity heads end_off last

keep_all : (capacity : ℕ) (items : List Item) → length items ≤ capacity → keep_last capacity items ≡ items
keep_all capacity items few = let none : length items - capacity ≡ 0 = omega arith in ap (λ (n : ℕ). drop n items) none

-- the item that is made of a record's header
abbrev pub item_made : LogRec → ℕ → ℕ → Item
item_made rec off prev = record { time = rec.time; block = rec.block; off = off; plen = rec.plen; slen = rec.slen; snap = rec.snap; prev = prev }

same_item : (rec : LogRec) (off off' prev prev' : ℕ) → off ≡ off' → prev ≡ prev' → item_made rec off prev ≡ item_made rec off' prev'
same_item rec off off' prev prev' p q = cc

pub added : (i : Indexed) (items : Buffer Item) (heads : List ℕ) (end_off last : ℕ) (rec : LogRec) (new : Buffer Item) (prev : ℕ)
    → KeepsItems i items.items items.capacity heads end_off last → i.recs ≡ recs_of i.first items.items → IsNext i rec → prev ≡ get_or heads rec.block 0
    → new ≡ buffer (keep_last items.capacity (items.items ++ item_made rec end_off prev ∷ [])) items.capacity → IsAddedTo i new (set heads rec.block rec.seq) (end_off + rec_len rec) rec.time rec
added i items heads end_off last rec new prev kept of next prev_is new_is =
    let item = item_made rec end_off prev in
    let long : length i.recs ≡ length items.items = ap (λ (l : List LogRec). length l) of ∙ length-recs_of i.first items.items in
    let is_told : told i.first item ≡ item_after i.first_off i.recs rec = same_item rec end_off (i.first_off + recs_len i.recs) (link i.first prev)
    (newest rec.block i.recs) kept.end (ap (link i.first) prev_is ∙ kept.head rec.block next.block) in
    let more : length (items.items ++ item ∷ []) ≡ length items.items + 1 = length-append items.items (item ∷ []) in
    let items_are : new.items ≡ items.items ++ item ∷ [] =
    ap (λ (b : Buffer Item). b.items) new_is
    ∙ keep_all items.capacity (items.items ++ item ∷ []) (let few = next.few in let room = kept.room in omega arith) in
    let room : items.capacity ≡ new.capacity = sym (ap (λ (b : Buffer Item). b.capacity) new_is) in
    let pushed : recs_of i.first (items.items ++ item ∷ []) ≡ recs_of i.first items.items ++ rec_of_item rec.seq item ∷ [] = recs_of-push i.first rec.seq items.items item
    (let seq = next.number in omega arith) in
    let recs : recs_of i.first new.items ≡ i.recs ++ rec ∷ [] = ap (recs_of i.first) items_are ∙ pushed ∙ ap (λ (l : List LogRec). l ++ rec ∷ []) (sym of) in
    let whole : KeepsItems (with_record i rec) (items.items ++ item ∷ []) items.capacity (set heads rec.block rec.seq) (end_off + rec_len rec) rec.time = kept_added i
    items.items items.capacity heads end_off last rec item kept next (sym long) is_told in
    record {
      recs = recs;
      kept = subst (λ (l : List LogRec). KeepsItems (record i { recs = l }) new.items new.capacity (set heads rec.block rec.seq) (end_off + rec_len rec) rec.time) (sym recs)
          (subst (λ (c : ℕ). KeepsItems (with_record i rec) new.items c (set heads rec.block rec.seq) (end_off + rec_len rec) rec.time) room
          (subst (λ (l : List Item). KeepsItems (with_record i rec) l items.capacity (set heads rec.block rec.seq) (end_off + rec_len rec) rec.time) (sym items_are) whole));
    }
