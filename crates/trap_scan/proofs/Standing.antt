-- The records of a history are right.
use Rattle.std.proofs.Common.{◌≡◌, ℕ, ◌+◌, ◌^◌, ◌<◌, ◌≤◌, List, [], ◌∷◌, length, refl, sym, ◌∙◌, arith}
use Rattle.std.specs.Prelude.{All}
use Rattle.std.proofs.lemmas.List.Elements.{All-head, All-tail}
use Rattle.trap_model.proofs.Adding.{time_rises}
use Rattle.trap_model.specs.declared.numbers.Geometry.{Geometry}
use Rattle.trap_model.specs.declared.history.Entry.{Entry}
use Rattle.trap_model.specs.declared.history.State.{State}
use Rattle.trap_model.specs.Image.{volume, block_of, IsImage, written}
use Rattle.trap_model.specs.State.{last, time_after, last_time, IsEntry, NeverFall, IsValid}
use Rattle.trap_model.specs.Records.{change_code, snapshot_code, rec_of, record_of, records_from, records}
use Rattle.trap_model.proofs.Records.{record_is_log_record}
use Rattle.trap_model.proofs.Validity.{written_is_image}
use Rattle.trap_scan.specs.Chain.{History, AreRecords}

-- the history of an array's entries, whose last one has this time
abbrev pub history_at : Geometry → ℕ → History
history_at g time = record { size = g.block; volume = volume g; last_time = time }

-- nothing stands after the last record, and its time is the last one
ends_here : (image : List (List ℕ)) (q time : ℕ) (later : List Entry) → length later ≡ 0 → (records_from image q later ≡ []) × (time ≡ time_after time later)
ends_here image q time [] none = (refl, refl)
ends_here image q time (entry ∷ later) none = absurd (omega arith)

stand_from : (g : Geometry) (end : ℕ) (image : List (List ℕ)) (q time : ℕ) (entries : List Entry) → end ≡ time_after time entries → end < 2 ^ 64
    → IsImage g image → All (IsEntry g) entries → NeverFall time entries → q + length entries ≤ 2 ^ 40
    → AreRecords (history_at g end) q time (length entries) (records_from image q entries)
stand_from g end image q time [] last below is all rise most = tt
stand_from g end image q time (entry ∷ later) last below is all rise most =
    let fits = All-head (IsEntry g) entry later all in
    let old = block_of image entry.block in
    let high = time_rises entry.time later rise.1 in (
      rec_of (q + 1) old entry,
      records_from (written image entry) (q + 1) later,
      record {
        parity = change_code old entry;
        snapshot = snapshot_code entry;
        first = record_of (q + 1) old entry;
        is = record_is_log_record g (q + 1) old entry fits (is.sized entry.block fits.block) (omega arith) (omega arith) (omega arith);
        parts = refl;
        number = refl;
        block = fits.block;
        later = rise.0;
        ends = λ none. let ends = ends_here (written image entry) (q + 1) entry.time later none in (ends.0, ends.1 ∙ sym last);
      },
      stand_from g end (written image entry) (q + 1) entry.time later last below (written_is_image g image entry is fits) (All-tail (IsEntry g) entry later all) rise.1 (omega arith),
    )

-- the records of a valid state are right
pub records_stand : (g : Geometry) (s : State) → IsValid g s → last_time s < 2 ^ 64
    → AreRecords (history_at g (last_time s)) s.first s.base_time (length s.entries) (records s)
records_stand g s valid below = stand_from g (last_time s) s.base s.first s.base_time s.entries refl below valid.base valid.entries valid.times valid.last_most
