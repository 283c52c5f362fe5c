-- The record that a commit adds to the index.
use Rattle.std.proofs.Common.{◌≡◌, ℕ, ◌+◌, ◌-◌, [], ◌∷◌, length, Bool, false, ap, sym, subst, ◌∙◌, arith, refl, length-append}
use Rattle.trap_format.specs.declared.head.Head.{Head}
use Rattle.trap_index.specs.Indexed.{Indexed, with_record}
use Rattle.trap_index.specs.Describes.{Describes}
use Rattle.trap_index.proofs.Describing.{describes-added}
use Rattle.trap_index.proofs.Numbered.{time_of_last-push}
use Rattle.trap_model.specs.ArrayStep.{added}
use Rattle.trap_model.specs.Image.{block_of}
use Rattle.trap_model.specs.Records.{rec_of, change_code, snapshot_code, next_record}
use Rattle.trap_model.specs.State.{last, image}
use Rattle.trap_model.specs.declared.history.Entry.{Entry}
use Rattle.trap_model.specs.declared.history.State.{State}
use Rattle.trap_model.specs.declared.log_record.LogRec.{LogRec}
use Rattle.trap_stage.specs.Slots.{Stage}
use Rattle.trap_stage.specs.Staged.{Staged}
use Rattle.trap_log.specs.Log.{StagesHead, IndexesHead, AreInStep}
use Rattle.trap_log.specs.NextHead.{committed, drained_to, next_rec}

-- the header of the next record, from its length
abbrev pub rec_for : Head → Entry → ℕ → LogRec
rec_for h e size = next_rec h e.time e.block size

-- an entry that isn't marked has one code
none_marked : (e : Entry) → e.snap ≡ false → length (snapshot_code e) ≡ 0
none_marked e unmarked = subst (λ (b : Bool). length (snapshot_code (record e { snap = b })) ≡ 0) (sym unmarked) refl

rec_same : (e : Entry) (snap : Bool) (q p a b c d : ℕ) → snap ≡ false → q ≡ p → a ≡ c → b ≡ d
    → ◌≡◌ {A = LogRec} (record { snap = false; seq = q; time = e.time; block = e.block; plen = a; slen = b }) (record { snap = snap; seq = p; time = e.time; block = e.block; plen = c; slen = d })
rec_same e snap q p a b c d s1 s2 s3 s4 = cc

-- it is the header of the entry's record
pub rec_is : (h : Head) (s : State) (e : Entry) → h.last ≡ last s → e.snap ≡ false → rec_for h e (length (next_record s e)) ≡ rec_of (last s + 1) (block_of (image s) e.block) e
rec_is h s e end unmarked =
    let none = none_marked e unmarked in
    let codes = length-append (change_code (block_of (image s) e.block) e) (snapshot_code e) in
    rec_same e e.snap (h.last + 1) (last s + 1) (length (next_record s e) - 26) 0 (length (change_code (block_of (image s) e.block) e)) (length (snapshot_code e))
    unmarked (omega arith) (omega arith) (omega arith)

-- so the index describes the state with the entry
pub further_told : (h : Head) (s : State) (e : Entry) (i j : Indexed) → Describes i s → h.last ≡ last s → e.snap ≡ false
    → j ≡ with_record i (rec_for h e (length (next_record s e))) → Describes j (added s e)
further_told h s e i j is end unmarked known =
    subst (λ (k : Indexed). Describes k (added s e)) (sym (known ∙ ap (with_record i) (rec_is h s e end unmarked))) (describes-added i s e is)

-- with the record, the index goes with the next head again
pub next_in_step : (h : Head) (e : Entry) (size : ℕ) (stage after : Stage) (write : Staged) (i j : Indexed) → AreInStep h stage i
    → after ≡ record stage { pending = write ∷ stage.pending } → j ≡ with_record i (rec_for h e size) → AreInStep (committed h e.time size) after j
next_in_step h e size stage after write i j step more known =
    subst (λ (k : Indexed). AreInStep (committed h e.time size) after k) (sym known)
    (subst (λ (k : Stage). AreInStep (committed h e.time size) k (with_record i (rec_for h e size))) (sym more) (record {
      staged = record { drained = step.staged.drained; last = omega (arith, step.staged.last) };
      indexed = record {
        first = step.indexed.first;
        offset = step.indexed.offset;
        end = omega (arith, step.indexed.end, length-append i.recs (rec_for h e size ∷ []));
        time = time_of_last-push i.base_time i.recs (rec_for h e size);
      };
    }))

-- a head that differs in what is drained has the same index
pub indexes_drained : (h t : Head) (i : Indexed) (upto : ℕ) → t ≡ drained_to h upto → IndexesHead h i → IndexesHead t i
indexes_drained h t i upto is indexes = subst (λ (u : Head). IndexesHead u i) (sym is) (record { first = indexes.first; offset = indexes.offset; end = indexes.end; time = indexes.time })

pub drained_step : (h t : Head) (stage rest : Stage) (i : Indexed) (upto : ℕ) → t ≡ drained_to h upto → StagesHead t rest → AreInStep h stage i → AreInStep t rest i
drained_step h t stage rest i upto is staged step = record { staged = staged; indexed = indexes_drained h t i upto is step.indexed }
