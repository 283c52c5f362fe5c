-- A further entry: what its acceptance says, and that the state with it is valid.
use Rattle.std.proofs.Common.{◌≡◌, ◌≢◌, ℕ, ◌+◌, ◌<◌, ◌≤◌, ◌^◌, List, [], ◌∷◌, ◌++◌, length, Option, Some, None, Bool, true, false, if◌then◌else◌, nat_lt, nat_le, ◌==◌, refl, arith, length-append}
use Rattle.std.proofs.lemmas.Bool.{ltb-false, leb-false, eqb-false, or_parts}
use Rattle.std.proofs.lemmas.List.Elements.{All-push}
use Rattle.trap_model.specs.declared.numbers.Geometry.{Geometry}
use Rattle.trap_model.specs.declared.history.Entry.{Entry}
use Rattle.trap_model.specs.declared.history.State.{State}
use Rattle.trap_model.specs.declared.request.Refusal.{Refusal}
use Rattle.trap_model.specs.declared.request.Request.TheVariants.{Write}
use Rattle.trap_model.specs.Image.{volume, block_of}
use Rattle.trap_model.specs.Size.{entry_size}
use Rattle.trap_model.specs.State.{last, last_time, time_after, image, kept, IsEntry, NeverFall, IsValid}
use Rattle.trap_model.specs.ArrayStep.{entry_of, full, refusal, number_refusal, added}
use Rattle.trap_model.proofs.Histories.{size_over-push}

-- a test that didn't refuse
pub not_refused : (b : Bool) (why : Refusal) (other : Option Refusal) → (if b then Some why else other) ≡ None → (b ≡ false) × (other ≡ None)
not_refused true why other e = cc
not_refused false why other e = (refl, e)

-- what is so where a write is accepted
pub record IsAccepted (g : Geometry) (s : State) (entry : Entry) : Type 0 where
  pub block : entry.block < volume g
  pub time : last_time s ≤ entry.time
  pub number : last s ≢ 2 ^ 40
  pub few : length s.entries ≢ g.entries
  pub fits : kept s + entry_size (block_of (image s) entry.block) entry ≤ g.ring

pub write_accepted : (g : Geometry) (s : State) (time block : ℕ) (bytes : List ℕ) → refusal g s (Write time block bytes) ≡ None → IsAccepted g s (entry_of g s time block bytes)
write_accepted g s time block bytes e =
    let entry = entry_of g s time block bytes in
    let first = not_refused (nat_le (volume g) block) _ _ e in
    let second = not_refused (nat_lt time (last_time s)) _ _ first.1 in
    let third = not_refused (last s == 2 ^ 40) _ _ second.1 in
    let fourth = not_refused (full g s entry) _ _ third.1 in
    let room = or_parts (length s.entries == g.entries) (nat_lt g.ring (kept s + entry_size (block_of (image s) block) entry)) fourth.0 in
    record {
      block = leb-false (volume g) block first.0;
      time = ltb-false time (last_time s) second.0;
      number = eqb-false (last s) (2 ^ 40) third.0;
      few = eqb-false (length s.entries) g.entries room.0;
      fits = ltb-false g.ring (kept s + entry_size (block_of (image s) block) entry) room.1;
    }

-- times that never fall end at no earlier one
pub time_rises : (before : ℕ) (entries : List Entry) → NeverFall before entries → before ≤ time_after before entries
time_rises before [] rise = omega arith
time_rises before (entry ∷ later) rise = let low = rise.0 in let high = time_rises entry.time later rise.1 in omega arith

never_fall-push : (before : ℕ) (xs : List Entry) (entry : Entry) → NeverFall before xs → time_after before xs ≤ entry.time → NeverFall before (xs ++ entry ∷ [])
never_fall-push before [] entry h later = (later, tt)
never_fall-push before (x ∷ xs) entry h later = (h.0, never_fall-push x.time xs entry h.1 later)

-- the state with the entry is valid
pub added_valid : (g : Geometry) (s : State) (entry : Entry) → IsValid g s → IsAccepted g s entry → length entry.bytes ≡ g.block → IsValid g (added s entry)
added_valid g s entry valid is size =
    let long : length (s.entries ++ entry ∷ []) ≡ length s.entries + 1 = length-append s.entries (entry ∷ []) in
    record {
      base = valid.base;
      entries = All-push (IsEntry g) s.entries entry valid.entries (record { block = is.block; size = size });
      times = never_fall-push s.base_time s.entries entry valid.times is.time;
      last_most = omega (arith, valid.last_most, is.number);
      few = omega (arith, valid.few, is.few);
      fits = omega (arith, size_over-push s.base s.entries entry, is.fits);
    }

-- a number that is accepted is retained
pub number_accepted : (s : State) (seq : ℕ) → number_refusal s seq ≡ None → (s.first ≤ seq) × (seq ≤ last s)
number_accepted s seq e =
    let first = not_refused (nat_lt seq s.first) _ _ e in
    let second = not_refused (nat_lt (last s) seq) _ _ first.1 in
    (ltb-false seq s.first first.0, ltb-false (last s) seq second.0)
