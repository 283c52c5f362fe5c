-- Records that are dropped: the items that stay are told as those of the records that stay.
use Rattle.std.proofs.Common.{◌≡◌, ℕ, suc, ◌+◌, ◌-◌, ◌<◌, ◌≤◌, List, length, get_or, take, drop, ap, sym, ◌∙◌, subst, arith, length-drop}
use Rattle.std.proofs.lemmas.List.{get_or-drop, drop-take, take_all, take-take, length-take-le}
use Rattle.circular_buffer.specs.Buffer.{Buffer, buffer, keep_last}
use Rattle.trap_model.specs.declared.log_record.LogRec.{LogRec}
use Rattle.trap_index.specs.declared.item.Item.{Item}
use Rattle.trap_index.specs.Indexed.{Indexed, dropped_to, last_seq, last_record_time, time_of_last, recs_len, newest, no_rec, recs_up_to, recs_above, item_after, item_at}
use Rattle.trap_index.specs.Keeping.{IsIndexed, KeepsItems, AreNumbered, recs_of, no_item, link, told}
use Rattle.trap_index.proofs.Numbered.{length-recs_of, numbered-take, numbered-drop, times-drop, time_of_last-parts, time_of_last-at, recs_len-parts, recs_of-drop}
use Rattle.trap_index.proofs.Links.{link-twice, newest-drop}
use Rattle.trap_index.proofs.Added.{item_made}

same_item : (rec rec' : LogRec) (off off' prev prev' : ℕ) → rec ≡ rec' → off ≡ off' → prev ≡ prev' → item_made rec off prev ≡ item_made rec' off' prev'
same_item rec rec' off off' prev prev' p q r = cc

-- the item of a record that stays, with its link as it is read then
item_stays : (first first_off : ℕ) (recs : List LogRec) (d k : ℕ) → AreNumbered first recs → d + k < length recs
    → told (first + d) (item_after first_off (take (d + k) recs) (get_or recs (d + k) no_rec)) ≡ item_after (first_off + recs_len (take d recs)) (take k (drop d recs)) (get_or (drop d recs) k no_rec)
item_stays first first_off recs d k is inside =
    let rec = get_or recs (d + k) no_rec in
    let rec' = get_or (drop d recs) k no_rec in
    let front = take (d + k) recs in
    let between : drop d front ≡ take k (drop d recs) = drop-take d k recs in
    let recs_are : rec ≡ rec' = sym (get_or-drop d recs k no_rec) in
    let parts = recs_len-parts front d in
    let fronts : recs_len (take d front) ≡ recs_len (take d recs) = ap recs_len (take-take d (d + k) recs (omega arith)) in
    let rest : recs_len (drop d front) ≡ recs_len (take k (drop d recs)) = ap recs_len between in
    let long : length front ≡ d + k = length-take-le (d + k) recs (omega arith) in
    same_item rec rec' (first_off + recs_len front) (first_off + recs_len (take d recs) + recs_len (take k (drop d recs)))
    (link (first + d) (newest rec.block front)) (newest rec'.block (take k (drop d recs)))
    recs_are (omega arith)
    (sym (newest-drop first rec.block front d (numbered-take first recs (d + k) is) (omega arith)) ∙ ap (newest rec.block) between
    ∙ ap (λ (r : LogRec). newest r.block (take k (drop d recs))) recs_are)

-- what is kept of the records that stay
pub kept_dropped : (i : Indexed) (items : List Item) (capacity : ℕ) (heads : List ℕ) (end_off last d : ℕ) → KeepsItems i items capacity heads end_off last
    → d ≤ length i.recs → KeepsItems (dropped_to i (i.first + d)) (drop d items) capacity heads end_off last
kept_dropped i items capacity heads end_off last d kept within =
    let was = kept.indexed in
    let q = i.first + d in
    let at : i.first + d - i.first ≡ d = omega arith in
    let made : KeepsItems (record {
      g = i.g;
      first = q;
      base_time = time_of_last i.base_time (take d i.recs);
      first_off = i.first_off + recs_len (take d i.recs);
      recs =
          drop d i.recs;
    }) (drop d items) capacity heads end_off last = record {
      indexed = record {
        few = (let few = was.few in let rest = length-drop d i.recs in omega arith);
        last_most = (let most = was.last_most in let rest = length-drop d i.recs in omega arith);
        numbers = numbered-drop i.first i.recs d was.numbers within;
        times = times-drop i.base_time i.recs d was.times;
      };
      room = kept.room;
      item = λ k inside.
          let rest = length-drop d i.recs in
          ap (told q) (get_or-drop d items k no_item)
          ∙ told_twice i.first q (get_or items (d + k) no_item) (omega arith)
          ∙ ap (told q) (kept.item (d + k) (omega arith))
          ∙ item_stays i.first i.first_off i.recs d k was.numbers (omega arith);
      blocks = kept.blocks;
      head = λ block inside.
          sym (link-twice i.first q (get_or heads block 0) (omega arith)) ∙ ap (link q) (kept.head block inside)
          ∙ sym (newest-drop i.first block i.recs d was.numbers within);
      end = (let was_end = kept.end in let parts = recs_len-parts i.recs d in omega arith);
      end_most = (let was_most = kept.end_most in let rest = length-drop d i.recs in omega arith);
      time = kept.time ∙ sym (time_of_last-parts i.base_time i.recs d);
    } in
    subst (λ (n : ℕ). KeepsItems (record {
      g = i.g;
      first = q;
      base_time = time_of_last i.base_time (take n i.recs);
      first_off = i.first_off + recs_len (take n i.recs);
      recs = drop n i.recs;
    }) (drop d items) capacity heads end_off last) (sym at) made
  where
    told_twice : (first q : ℕ) (item : Item) → first ≤ q → told q item ≡ told q (told first item)
    told_twice first q item h = ap (λ (n : ℕ). record item { prev = n }) (sym (link-twice first q item.prev h))

-- the fields of an index with entries dropped
pub record IsDroppedTo (i : Indexed) (q : ℕ) (new : Buffer Item) (heads : List ℕ) (end_off last : ℕ) : Type 0 where
  pub recs : recs_of q new.items ≡ recs_above i q
  pub kept : KeepsItems (record (dropped_to i q) { recs = recs_of q new.items }) new.items new.capacity heads end_off last

pub dropped : (i : Indexed) (items : Buffer Item) (heads : List ℕ) (end_off last q count : ℕ) (new : Buffer Item)
    → KeepsItems i items.items items.capacity heads end_off last → i.recs ≡ recs_of i.first items.items → i.first ≤ q → q ≤ last_seq i → count + q ≡ last_seq i
    → new ≡ buffer (keep_last count items.items) items.capacity → IsDroppedTo i q new heads end_off last
dropped i items heads end_off last q count new kept of low high counts new_is =
    let d = q - i.first in
    let long : length i.recs ≡ length items.items = ap (λ (l : List LogRec). length l) of ∙ length-recs_of i.first items.items in
    let is_q : i.first + d ≡ q = omega arith in
    let gone : length items.items - count ≡ d = omega arith in
    let items_are : new.items ≡ drop d items.items = ap (λ (b : Buffer Item). b.items) new_is ∙ ap (λ (n : ℕ). drop n items.items) gone in
    let room : items.capacity ≡ new.capacity = sym (ap (λ (b : Buffer Item). b.capacity) new_is) in
    let recs : recs_of q new.items ≡ recs_above i q =
    ap (recs_of q) items_are ∙ ap (λ (n : ℕ). recs_of n (drop d items.items)) (sym is_q) ∙ recs_of-drop i.first items.items d (omega arith) ∙ ap (drop d) (sym of) in
    let whole : KeepsItems (dropped_to i q) (drop d items.items) items.capacity heads end_off last =
    subst (λ (n : ℕ). KeepsItems (dropped_to i n) (drop d items.items) items.capacity heads end_off last) is_q (kept_dropped i items.items items.capacity heads end_off last d kept (omega arith)) in
    record {
      recs = recs;
      kept = subst (λ (l : List LogRec). KeepsItems (record (dropped_to i q) { recs = l }) new.items new.capacity heads end_off last) (sym recs)
          (subst (λ (c : ℕ). KeepsItems (dropped_to i q) new.items c heads end_off last) room
          (subst (λ (l : List Item). KeepsItems (dropped_to i q) l items.capacity heads end_off last) (sym items_are) whole));
    }

-- ---- the numbers at the instant after a record
pub time_told_at : (i : Indexed) (q : ℕ) → i.first < q → q ≤ last_seq i → time_of_last i.base_time (recs_up_to i q) ≡ (item_at i q).time
time_told_at i q low high =
    let k = q - (i.first + 1) in
    ap (λ (n : ℕ). time_of_last i.base_time (take n i.recs)) (let one : q - i.first ≡ suc k = omega arith in one) ∙ time_of_last-at i.base_time i.recs k (omega arith)

pub time_at_first : (i : Indexed) (q : ℕ) → q ≡ i.first → time_of_last i.base_time (recs_up_to i q) ≡ i.base_time
time_at_first i q is = ap (λ (n : ℕ). time_of_last i.base_time (take n i.recs)) (let none : q - i.first ≡ 0 = omega arith in none)

pub off_told_at : (i : Indexed) (q : ℕ) → i.first ≤ q → (item_at i (q + 1)).off ≡ i.first_off + recs_len (recs_up_to i q)
off_told_at i q low = ap (λ (n : ℕ). i.first_off + recs_len (take n i.recs)) (let same : q + 1 - (i.first + 1) ≡ q - i.first = omega arith in same)

pub off_at_last : (i : Indexed) (q : ℕ) → q ≡ last_seq i → i.first_off + recs_len i.recs ≡ i.first_off + recs_len (recs_up_to i q)
off_at_last i q is = ap (λ (l : List LogRec). i.first_off + recs_len l) (sym (take_all (q - i.first) i.recs (omega arith)))

-- ---- what dropping leaves
pub last-dropped : (i : Indexed) (q : ℕ) → i.first ≤ q → q ≤ last_seq i → last_seq (dropped_to i q) ≡ last_seq i
last-dropped i q low high = let rest = length-drop (q - i.first) i.recs in omega arith

pub last_record_time-dropped : (i : Indexed) (q : ℕ) → last_record_time (dropped_to i q) ≡ last_record_time i
last_record_time-dropped i q = time_of_last-parts i.base_time i.recs (q - i.first)

pub bytes-dropped : (i : Indexed) (q : ℕ) → (dropped_to i q).first_off + recs_len (dropped_to i q).recs ≡ i.first_off + recs_len i.recs
bytes-dropped i q = let parts = recs_len-parts i.recs (q - i.first) in omega arith

pub newest-dropped : (i : Indexed) (q block : ℕ) → IsIndexed i → i.first ≤ q → q ≤ last_seq i → newest block (dropped_to i q).recs ≡ link q (newest block i.recs)
newest-dropped i q block is low high =
    newest-drop i.first block i.recs (q - i.first) is.numbers (omega arith)
    ∙ ap (λ (n : ℕ). link n (newest block i.recs)) (let same : i.first + (q - i.first) ≡ q = omega arith in same)

pub item-dropped : (i : Indexed) (q n : ℕ) → IsIndexed i → i.first ≤ q → q < n → n ≤ last_seq i → item_at (dropped_to i q) n ≡ told q (item_at i n)
item-dropped i q n is low above high =
    let d = q - i.first in
    let k = n - (q + 1) in
    let is_q : i.first + d ≡ q = omega arith in
    let at : d + k ≡ n - (i.first + 1) = omega arith in
    sym (item_stays i.first i.first_off i.recs d k is.numbers (omega arith))
    ∙ ap (λ (m : ℕ). told m (item_after i.first_off (take (d + k) i.recs) (get_or i.recs (d + k) no_rec))) is_q
    ∙ ap (λ (m : ℕ). told q (item_after i.first_off (take m i.recs) (get_or i.recs m no_rec))) at
