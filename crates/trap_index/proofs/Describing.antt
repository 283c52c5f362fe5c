-- What an index of a state's records tells of the state.
use Rattle.std.proofs.Common.{◌≡◌, ℕ, zero, suc, ◌+◌, ◌-◌, ◌<◌, ◌≤◌, List, [], ◌∷◌, ◌++◌, length, get_or, take, drop, filter, nat_le, true, false, refl, ap, sym, ◌∙◌, subst, inl, inr, ⊎_elim, arith, length-drop}
use Rattle.std.proofs.lemmas.Bool.{le-leb, lt-leb}
use Rattle.std.proofs.lemmas.List.{take-append-drop, drop_more, drop_at, take_at, length-take-le, get_or-drop, get_or-take, take_all}
use Rattle.trap_model.specs.declared.history.Entry.{Entry}
use Rattle.trap_model.specs.declared.history.State.{State}
use Rattle.trap_model.specs.declared.log_record.LogRec.{LogRec}
use Rattle.trap_model.specs.declared.known.Known.TheVariants.{Present}
use Rattle.trap_model.specs.declared.known.Path.{Path}
use Rattle.trap_model.specs.declared.known.Way.TheVariants.{Back}
use Rattle.trap_model.specs.declared.numbers.Geometry.{Geometry}
use Rattle.trap_model.specs.ArrayStep.{added, kept_from}
use Rattle.trap_model.specs.Image.{block_of, written, image_after}
use Rattle.trap_model.specs.Path.{path}
use Rattle.trap_model.specs.Records.{rec_of, no_entry, entry_at, record_of, records_from, records}
use Rattle.trap_model.specs.Size.{size_over}
use Rattle.trap_model.specs.State as state
use Rattle.trap_model.specs.State.{fresh, image, image_at, image_by, kept, last, up_to}
use Rattle.trap_model.proofs.Records.{length-record_of, length-records_from, records_from-append}
use Rattle.trap_index.specs.Indexed.{Indexed, nothing_indexed, with_record, dropped_to, time_of_last, last_seq, last_record_time, recs_len, rec_len, of_block, newest, no_rec, rec_at, item_at, IsLastBy, path_to}
use Rattle.trap_index.specs.Describes.{headers_from, headers, Describes, IsLastOf, block_before, IsItemOf}
use Rattle.trap_index.proofs.Numbered.{numbered-take}
use Rattle.trap_index.proofs.Chains.{IsNewest, HasNone, newest_cases, of_block_parts, none_of_block}
use Rattle.trap_index.proofs.Headers.{length-headers, headers-take, headers-drop, headers-push, headers-at, headers-numbered, headers-time, headers-len, headers-of_block, rec_len-entry}

pub describes_fresh : (g : Geometry) (first_off : ℕ) → Describes (nothing_indexed g 0 0 first_off) (fresh g)
describes_fresh g first_off = record { first = refl; base_time = refl; recs = refl }

pub describes-added : (i : Indexed) (s : State) (e : Entry) → Describes i s → Describes (with_record i (rec_of (last s + 1) (block_of (image s) e.block) e)) (added s e)
describes-added i s e is = record {
  first = is.first;
  base_time = is.base_time;
  recs = ap (λ (l : List LogRec). l ++ rec_of (last s + 1) (block_of (image s) e.block) e ∷ []) is.recs
      ∙ sym (headers-push s.base s.first (last s + 1) s.entries e refl);
}

-- with entries dropped it tells of the state without them
pub describes-dropped : (i : Indexed) (s : State) (q : ℕ) → Describes i s → s.first ≤ q → q ≤ last s → Describes (dropped_to i q) (kept_from s q)
describes-dropped i s q is low high =
    let d = q - s.first in
    let at : q - i.first ≡ d = ap (λ (n : ℕ). q - n) is.first in
    let fronts : take (q - i.first) i.recs ≡ headers_from s.base s.first (take d s.entries) =
    ap (λ (n : ℕ). take n i.recs) at ∙ ap (take d) is.recs ∙ headers-take s.base s.first d s.entries in
    record {
      first = refl;
      base_time = ap (λ (t : ℕ). time_of_last t (take (q - i.first) i.recs)) is.base_time ∙ ap (time_of_last s.base_time) fronts
          ∙ headers-time s.base s.first s.base_time (take d s.entries);
      recs = ap (λ (n : ℕ). drop n i.recs) at ∙ ap (drop d) is.recs ∙ headers-drop s.base s.first d s.entries (omega arith)
          ∙ ap (λ (n : ℕ). headers_from (image_at s q) n (drop d s.entries)) (let same : s.first + d ≡ q = omega arith in same);
    }

pub last_told : (i : Indexed) (s : State) → Describes i s → last_seq i ≡ last s
last_told i s is =
    let long : length i.recs ≡ length s.entries = ap (λ (l : List LogRec). length l) is.recs ∙ length-headers s.base s.first s.entries in
    let first = is.first in
    omega arith

pub time_told : (i : Indexed) (s : State) → Describes i s → last_record_time i ≡ state.last_time s
time_told i s is = ap (λ (t : ℕ). time_of_last t i.recs) is.base_time ∙ ap (time_of_last s.base_time) is.recs ∙ headers-time s.base s.first s.base_time s.entries

pub bytes_told : (i : Indexed) (s : State) → Describes i s → recs_len i.recs ≡ kept s
bytes_told i s is = ap recs_len is.recs ∙ headers-len s.base s.first s.entries

-- the header of a number is that of its entry
pub rec_told : (i : Indexed) (s : State) (q : ℕ) → Describes i s → s.first < q → q ≤ last s → rec_at i q ≡ rec_of q (block_before s q) (entry_at s q)
rec_told i s q is low high =
    let k = q - (s.first + 1) in
    let here : q - 1 - s.first ≡ k = omega arith in
    ap (λ (n : ℕ). get_or i.recs (q - (n + 1)) no_rec) is.first
    ∙ ap (λ (l : List LogRec). get_or l k no_rec) is.recs
    ∙ headers-at s.base s.first q k s.entries (omega arith) (omega arith)
    ∙ ap (λ (n : ℕ). rec_of q (block_of (image_after s.base (take n s.entries)) (entry_at s q).block) (entry_at s q)) (sym here)

-- the records up to a number are those of the entries up to it
pub front_told : (i : Indexed) (s : State) (k : ℕ) → Describes i s → take k i.recs ≡ take k (headers s)
front_told i s k is = ap (take k) is.recs

-- the newest number of a block is that of its last entry
pub newest_told : (s : State) (block k : ℕ) → k ≤ length s.entries → IsLastOf s block (s.first + k) (newest block (take k (headers s)))
newest_told s block k within =
    let recs = headers s in
    let long : length recs ≡ length s.entries = length-headers s.base s.first s.entries in
    let front : length (take k recs) ≡ k = length-take-le k recs (omega arith) in
    let block_is : (j : ℕ) → j < k → (get_or (take k recs) j no_rec).block ≡ (entry_at s (s.first + 1 + j)).block = λ (j : ℕ) (below : j < k). entry_block s k j within below in
    ⊎_elim
    (λ (none : HasNone 0 block (take k recs)).
    let number = none.number in
    record {
      high = omega arith;
      writes = inl number;
      later = λ q low above most writes.
          let j = q - (s.first + 1) in
          let at : s.first + 1 + j ≡ q = omega arith in
          none_of_block block (take k recs) j (ap (λ (l : List LogRec). length l) none.none) (omega arith)
          (block_is j (omega arith) ∙ ap (λ (n : ℕ). (entry_at s n).block) at ∙ writes);
    })
    (λ (found : IsNewest s.first block (take k recs) (newest block (take k recs))).
    let n = newest block (take k recs) in
    let low_n = found.low in
    let high_n = found.high in
    let m = n - (s.first + 1) in
    let here : s.first + 1 + m ≡ n = omega arith in
    record {
      high = omega arith;
      writes = inr (low_n, ap (λ (q : ℕ). (entry_at s q).block) (sym here) ∙ sym (block_is m (omega arith)) ∙ found.writes);
      later = λ q low above most writes.
          let j = q - (n + 1) in
          let p = q - (s.first + 1) in
          let at : s.first + 1 + p ≡ q = omega arith in
          let place : (n - s.first) + j ≡ p = omega arith in
          let parts = of_block_parts block (take k recs) (n - s.first) in
          let same = ap (λ (l : List LogRec). length l) found.upto in
          let rest : length (of_block block (drop (n - s.first) (take k recs))) ≡ 0 = omega arith in
          let size = length-drop (n - s.first) (take k recs) in
          none_of_block block (drop (n - s.first) (take k recs)) j rest (omega arith)
          (ap (λ (r : LogRec). r.block) (get_or-drop (n - s.first) (take k recs) j no_rec ∙ ap (λ (x : ℕ). get_or (take k recs) x no_rec) place)
          ∙ block_is p (omega arith) ∙ ap (λ (x : ℕ). (entry_at s x).block) at ∙ writes);
    })
    (newest_cases s.first block (take k recs) (numbered-take s.first recs k (headers-numbered s.base s.first s.entries)))
  where
    entry_block : (s : State) (k j : ℕ) → k ≤ length s.entries → j < k → (get_or (take k (headers s)) j no_rec).block ≡ (entry_at s (s.first + 1 + j)).block
    entry_block s k j within below =
        let at : s.first + 1 + j - (s.first + 1) ≡ j = omega arith in
        ap (λ (r : LogRec). r.block) (get_or-take k (headers s) j no_rec below ∙ headers-at s.base s.first (s.first + 1 + j) j s.entries (omega arith) refl)
        ∙ ap (λ (n : ℕ). (get_or s.entries n no_entry).block) (sym at)

pub newest_is_last : (i : Indexed) (s : State) (block : ℕ) → Describes i s → IsLastOf s block (last s) (newest block i.recs)
newest_is_last i s block is =
    let all : take (length s.entries) (headers s) ≡ headers s = take_all (length s.entries) (headers s) (let long = length-headers s.base s.first s.entries in omega arith) in
    subst (IsLastOf s block (last s)) (ap (newest block) (all ∙ sym is.recs)) (newest_told s block (length s.entries) (omega arith))

pub item_told : (i : Indexed) (s : State) (q : ℕ) → Describes i s → s.first < q → q ≤ last s → IsItemOf s i.first_off q (item_at i q)
item_told i s q is low high =
    let rec = rec_told i s q is low high in
    let k = q - (s.first + 1) in
    let firsts = is.first in
    let place : q - (i.first + 1) ≡ k = omega arith in
    let before : q - 1 - s.first ≡ k = omega arith in
    let number : s.first + k ≡ q - 1 = omega arith in
    let front : take (q - (i.first + 1)) i.recs ≡ take k (headers s) = ap (λ (n : ℕ). take n i.recs) place ∙ ap (take k) is.recs in
    let block : (rec_at i q).block ≡ (entry_at s q).block = ap (λ (r : LogRec). r.block) rec in
    record {
      time = ap (λ (r : LogRec). r.time) rec;
      block = block;
      snap = ap (λ (r : LogRec). r.snap) rec;
      plen = ap (λ (r : LogRec). r.plen) rec;
      slen = ap (λ (r : LogRec). r.slen) rec;
      off = ap (λ (l : List LogRec). i.first_off + recs_len l) (front ∙ headers-take s.base s.first k s.entries)
          ∙ ap (λ (n : ℕ). i.first_off + n) (headers-len s.base s.first (take k s.entries))
          ∙ ap (λ (n : ℕ). i.first_off + size_over s.base (take n s.entries)) (sym before);
      prev = subst (λ (u : ℕ). IsLastOf s (entry_at s q).block u (item_at i q).prev) number
          (subst (IsLastOf s (entry_at s q).block (s.first + k)) (sym (ap (λ (b : ℕ). newest b (take (q - (i.first + 1)) i.recs)) block ∙ ap (newest (entry_at s q).block) front))
          (newest_told s (entry_at s q).block k (omega arith)));
    }

-- the record of a number stands after those of the entries before it
pub record_told : (i : Indexed) (s : State) (q : ℕ) → Describes i s → s.first < q → q ≤ last s
    → take (rec_len (rec_at i q)) (drop ((item_at i q).off - i.first_off) (records s)) ≡ record_of q (block_before s q) (entry_at s q)
record_told i s q is low high =
    let k = q - (s.first + 1) in
    let before : q - 1 - s.first ≡ k = omega arith in
    let entry = entry_at s q in
    let old = block_before s q in
    let images : image_after s.base (take k s.entries) ≡ image_at s (q - 1) = ap (λ (n : ℕ). image_after s.base (take n s.entries)) (sym before) in
    let parts : s.entries ≡ take k s.entries ++ entry ∷ drop (k + 1) s.entries =
    sym (take-append-drop k s.entries) ∙ ap (λ (l : List Entry). take k s.entries ++ l) (drop_more s.entries k no_entry (omega arith)) in
    let front = records_from s.base s.first (take k s.entries) in
    let size : length (take k s.entries) ≡ k = length-take-le k s.entries (omega arith) in
    let next : s.first + k + 1 ≡ q = omega arith in
    let rest = records_from (written (image_after s.base (take k s.entries)) entry) (s.first + k + 1) (drop (k + 1) s.entries) in
    let whole : records s ≡ front ++ (record_of q old entry ++ rest) =
    ap (records_from s.base s.first) parts
    ∙ records_from-append s.base s.first (s.first + k) (take k s.entries) (entry ∷ drop (k + 1) s.entries) (omega arith)
    ∙ ap (λ (n : ℕ). front ++ (record_of n (block_of (image_after s.base (take k s.entries)) entry.block) entry ++ rest)) next
    ∙ ap (λ (im : List (List ℕ)). front ++ (record_of q (block_of im entry.block) entry ++ rest)) images in
    let item = item_told i s q is low high in
    let offs = item.off in
    let same : size_over s.base (up_to s (q - 1)) ≡ size_over s.base (take k s.entries) = ap (λ (n : ℕ). size_over s.base (take n s.entries)) before in
    let long : length front ≡ (item_at i q).off - i.first_off = (let fronts = length-records_from s.base s.first (take k s.entries) in omega arith) in
    let one : length (record_of q old entry) ≡ rec_len (rec_at i q) =
    length-record_of q old entry ∙ sym (rec_len-entry q old entry) ∙ sym (ap rec_len (rec_told i s q is low high)) in
    ap (λ (l : List ℕ). take (rec_len (rec_at i q)) (drop ((item_at i q).off - i.first_off) l)) whole
    ∙ ap (take (rec_len (rec_at i q))) (drop_at front (record_of q old entry ++ rest) ((item_at i q).off - i.first_off) long)
    ∙ take_at (record_of q old entry) rest (rec_len (rec_at i q)) one

-- the first so many entries are those by a time
by_time : (xs : List Entry) (t k : ℕ) → k ≤ length xs → ((j : ℕ) → j < k → (get_or xs j no_entry).time ≤ t)
    → ((j : ℕ) → k ≤ j → j < length xs → t < (get_or xs j no_entry).time) → filter (λ (entry : Entry). nat_le entry.time t) xs ≡ take k xs
by_time [] t zero within by later = refl
by_time [] t (suc k) within by later = refl
by_time (x ∷ xs) t zero within by later =
    let late : nat_le x.time t ≡ false = lt-leb x.time t (later 0 (omega arith) (omega arith)) in
    let rest : filter (λ (entry : Entry). nat_le entry.time t) xs ≡ [] = by_time xs t zero (omega arith) (λ j below. absurd (omega arith))
    (λ j above inside. later (suc j) (omega arith) (omega arith)) in
    rw late rest
by_time (x ∷ xs) t (suc k) within by later =
    let early : nat_le x.time t ≡ true = le-leb x.time t (by 0 (omega arith)) in
    let rest : filter (λ (entry : Entry). nat_le entry.time t) xs ≡ take k xs = by_time xs t k (omega arith) (λ j below. by (suc j) (omega arith))
    (λ j above inside. later (suc j) (omega arith) (omega arith)) in
    rw early (ap (λ (l : List Entry). x ∷ l) rest)

-- the image by a time is the one after the last number by that time
pub image_told : (i : Indexed) (s : State) (t q : ℕ) → Describes i s → IsLastBy i t q → image_by s t ≡ image_at s q
image_told i s t q is last_by =
    let ends = last_told i s is in
    let firsts = is.first in
    let low = last_by.low in
    let high = last_by.high in
    let time_is : (j : ℕ) → j < length s.entries → (get_or s.entries j no_entry).time ≡ (rec_at i (s.first + 1 + j)).time =
    λ (j : ℕ) (inside : j < length s.entries).
    let at : s.first + 1 + j - (s.first + 1) ≡ j = omega arith in
    sym (ap (λ (r : LogRec). r.time) (rec_told i s (s.first + 1 + j) is (omega arith) (omega arith)) ∙ ap (λ (n : ℕ). (get_or s.entries n no_entry).time) at) in
    ap (image_after s.base) (by_time s.entries t (q - s.first) (omega arith)
    (λ j below. let time = time_is j (omega arith) in let early = last_by.by (s.first + 1 + j) (omega arith) (omega arith) in omega arith)
    (λ j above inside. let time = time_is j inside in let late = last_by.later (s.first + 1 + j) (omega arith) (omega arith) in omega arith))

abbrev path_back : ℕ → Path
path_back n = record { from = Present; turns = n; way = Back }

pub path_told : (i : Indexed) (s : State) (block q : ℕ) → Describes i s → path_to i block q ≡ path s block q
path_told i s block q is = ap path_back
    (ap (λ (n : ℕ). length (of_block block (drop (q - n) i.recs))) is.first
    ∙ ap (λ (l : List LogRec). length (of_block block (drop (q - s.first) l))) is.recs
    ∙ headers-of_block s.base s.first block (q - s.first) s.entries)
