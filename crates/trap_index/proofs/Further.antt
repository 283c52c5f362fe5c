-- The record of a further entry of a valid state is one that an index takes.
use Rattle.std.proofs.Common.{◌≡◌, ℕ, ◌+◌, ◌^◌, ◌<◌, ◌≤◌, List, [], ◌∷◌, ◌++◌, length, ap, sym, ◌∙◌, subst, refl, arith, length-append}
use Rattle.std.proofs.lemmas.List.{get_or_push}
use Rattle.std.proofs.lemmas.List.Elements.{All-get_or}
use Rattle.trap_model.specs.declared.history.Entry.{Entry}
use Rattle.trap_model.specs.declared.history.State.{State}
use Rattle.trap_model.specs.declared.log_record.LogRec.{LogRec}
use Rattle.trap_model.specs.declared.numbers.Geometry.{Geometry}
use Rattle.trap_model.specs.ArrayStep.{added}
use Rattle.trap_model.specs.Image.{block_of}
use Rattle.trap_model.specs.Records.{rec_of, no_entry}
use Rattle.trap_model.specs.State.{time_after, image, last, IsEntry, NeverFall, IsValid}
use Rattle.trap_model.proofs.Further.{last-added, image_is_image}
use Rattle.trap_model.proofs.Records.{record_is_log_record}
use Rattle.trap_index.specs.Indexed.{Indexed}
use Rattle.trap_index.specs.Describes.{Describes}
use Rattle.trap_index.proofs.Added.{IsNext}
use Rattle.trap_index.proofs.Describing.{last_told, time_told}
use Rattle.trap_index.proofs.Headers.{length-headers}

last_time_least : (before : ℕ) (xs : List Entry) (e : Entry) → NeverFall before (xs ++ e ∷ []) → time_after before xs ≤ e.time
last_time_least before [] e h = h.0
last_time_least before (x ∷ xs) e h = last_time_least x.time xs e h.1

pub next_told : (g : Geometry) (i : Indexed) (s : State) (e : Entry) → Describes i s → i.g ≡ g → IsValid g s → IsValid g (added s e) → e.time < 2 ^ 64
    → IsNext i (rec_of (last s + 1) (block_of (image s) e.block) e)
next_told g i s e is same was valid time =
    let ends = last_told i s is in
    let times = time_told i s is in
    let long : length i.recs ≡ length s.entries = ap (λ (l : List LogRec). length l) is.recs ∙ length-headers s.base s.first s.entries in
    let more : length (s.entries ++ e ∷ []) ≡ length s.entries + 1 = length-append s.entries (e ∷ []) in
    let most = last-added s e in
    let few = valid.few in
    let last_most = valid.last_most in
    let entries : i.g.entries ≡ g.entries = ap (λ (h : Geometry). h.entries) same in
    let least = last_time_least s.base_time s.entries e valid.times in
    let entry : IsEntry g e = subst (IsEntry g) (get_or_push s.entries e no_entry (length s.entries) refl)
    (All-get_or (IsEntry g) (s.entries ++ e ∷ []) (length s.entries) no_entry (omega arith) valid.entries) in
    let sized = (image_is_image g s was).sized e.block entry.block in
    let record_is = record_is_log_record g (last s + 1) (block_of (image s) e.block) e entry sized (omega arith) (omega arith) time in
    subst (λ (h : Geometry). IsNext (record i { g = h }) (rec_of (last s + 1) (block_of (image s) e.block) e)) (sym same) (record {
      few = omega arith;
      number = omega arith;
      time = omega arith;
      block = entry.block;
      ranges = record_is.ranges;
    })
