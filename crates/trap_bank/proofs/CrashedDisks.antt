-- Disks in a crash, one after another, and the bank after it.
use Rattle.std.proofs.Common.{◌≡◌, ℕ, ◌+◌, ◌<◌, ◌≤◌, ◌≢◌, List, [], length, replicate, get_or, set, Option, Some, None, refl, sym, ◌∙◌, ap, subst, ⊎_elim, arith, add-one, get_or-set_same, get_or-set_other}
use Rattle.std.proofs.lemmas.Bool.{cases_lt}
use Rattle.std.proofs.lemmas.Bool.Decides.{eqb_tells}
use Rattle.std.proofs.Math.ListN.{get_or-eq_default}
use mathlib.Core.Path.{fun_ext}
use Rattle.trap_bank.specs.Kept.{Kept, InRanges}
use Rattle.trap_bank.specs.Record.{bytes_kept, ranges_kept}
use Rattle.trap_bank.specs.Memory.{Memory, state_of}
use Rattle.trap_bank.specs.Crash.{Crashed, AllCrashed, Crashes, first_draw, last_draw, option_crashed, stable_kept}

-- the bytes of the next disk are drawn after those of this one
pub drawn_next : (seed : ℕ) (old : List (Option Kept)) (d x y : ℕ) (disk : Option Kept) → x ≡ first_draw seed old d → disk ≡ get_or old d None
    → y ≡ last_draw seed x (ranges_kept disk) → y ≡ first_draw seed old (d + 1)
drawn_next seed old d x y disk from is number =
    number ∙ ap (λ (n : ℕ). last_draw seed n (ranges_kept disk)) from
    ∙ ap (λ (o : Option Kept). last_draw seed (first_draw seed old d) (ranges_kept o)) is
    ∙ sym (ap (λ (k : ℕ). first_draw seed old k) (add-one d))

-- one more disk is after the crash
pub one_more_crashed : (seed d x : ℕ) (old now : List (Option Kept)) (disk new : Option Kept) → d < length now → x ≡ first_draw seed old d → disk ≡ get_or old d None
    → Crashed seed x disk new → ((k : ℕ) → k < d → Crashed seed (first_draw seed old k) (get_or old k None) (get_or now k None))
    → (k : ℕ) → k < d + 1 → Crashed seed (first_draw seed old k) (get_or old k None) (get_or (set now d new) k None)
one_more_crashed seed d x old now disk new below from is crashed done k lt =
    let here : Crashed seed (first_draw seed old d) (get_or old d None) (get_or (set now d new) d None) =
    subst (λ (o : Option Kept). Crashed seed (first_draw seed old d) (get_or old d None) o) (sym (get_or-set_same now d new None below))
    (subst (λ (o : Option Kept). Crashed seed (first_draw seed old d) o new) is (subst (λ (n : ℕ). Crashed seed n disk new) from crashed)) in
    ⊎_elim
    (λ same. subst (λ (j : ℕ). Crashed seed (first_draw seed old j) (get_or old j None) (get_or (set now d new) j None)) (sym same.1) here)
    (λ apart. let other : k ≢ d = apart.1 in let earlier : k < d = omega arith in
    subst (λ (o : Option Kept). Crashed seed (first_draw seed old k) (get_or old k None) o) (sym (get_or-set_other now d k new None other)) (done k earlier))
    (eqb_tells k d)

-- the disks after it are as before
pub others_left : (d : ℕ) (old now : List (Option Kept)) (new : Option Kept) → ((k : ℕ) → d ≤ k → get_or now k None ≡ get_or old k None)
    → (k : ℕ) → d + 1 ≤ k → get_or (set now d new) k None ≡ get_or old k None
others_left d old now new left k le =
    let other : k ≢ d = omega arith in
    get_or-set_other now d k new None other ∙ left k (omega arith)

absent_crashed : (seed x : ℕ) → Crashed seed x None None
absent_crashed seed x = record { exact = refl; size = refl; agree = λ i out. refl }

-- no number that a disk may have is left out
pub all_crashed : (seed n : ℕ) (old now : List (Option Kept)) → length now ≡ length old → length old ≤ n
    → ((k : ℕ) → k < n → Crashed seed (first_draw seed old k) (get_or old k None) (get_or now k None)) → AllCrashed seed old now
all_crashed seed n old now count all done = record {
  count = count;
  each = λ d. ⊎_elim (λ (below : d < n). done d below)
      (λ (beyond : n ≤ d).
      let old_end : length old ≤ d = omega arith in
      let now_end : length now ≤ d = omega arith in
      let old_none : get_or old d None ≡ None = get_or-eq_default old None old_end in
      let now_none : get_or now d None ≡ None = get_or-eq_default now None now_end in
      subst (λ (o : Option Kept). Crashed seed (first_draw seed old d) o (get_or now d None)) (sym old_none)
      (subst (λ (o : Option Kept). Crashed seed (first_draw seed old d) None o) (sym now_none) (absent_crashed seed (first_draw seed old d))))
      (cases_lt d n);
}

kept_at_zero : (x : ℕ) (disk : Option Kept) → bytes_kept (option_crashed 0 x disk) ≡ bytes_kept disk
kept_at_zero x None = refl
kept_at_zero x (Some disk) = refl

stable_at_one : (x : ℕ) (disk : Option Kept) → bytes_kept (option_crashed 1 x disk) ≡ stable_kept disk
stable_at_one x None = refl
stable_at_one x (Some disk) = refl

nothing_unsynced : (seed x : ℕ) (disk : Option Kept) (i : ℕ) → InRanges (ranges_kept (option_crashed seed x disk)) i → ⊥
nothing_unsynced seed x None i h = h
nothing_unsynced seed x (Some disk) i h = h

-- the bank after a crash
abbrev pub after_crash : Memory → List (Option Kept) → Memory
after_crash m disks = record m { disks = disks; past = []; since = m.moment; chosen = replicate 8 0; fuse = None; spared = replicate 21 None }

pub crashes : (seed : ℕ) (m : Memory) (disks : List (Option Kept)) → AllCrashed seed m.disks disks → Crashes seed m (after_crash m disks)
crashes seed m disks all = record {
  left = record {
    told = refl;
    torn = record {
      disks = record { sizes = λ e. (all.each e).size; bytes = λ e i out. (all.each e).agree i out };
      said = refl;
    };
  };
  kept = λ zero_seed.
      let same : (state_of (after_crash m disks)).disks ≡ (state_of m).disks = fun_ext (λ e.
      ap bytes_kept (all.each e).exact
      ∙ ap (λ (n : ℕ). bytes_kept (option_crashed n (first_draw seed m.disks e) (get_or m.disks e None))) zero_seed
      ∙ kept_at_zero (first_draw seed m.disks e) (get_or m.disks e None)) in
      λ i. record { disks = same i; said = m.said };
  last_sync = λ one_seed d.
      ap bytes_kept (all.each d).exact
      ∙ ap (λ (n : ℕ). bytes_kept (option_crashed n (first_draw seed m.disks d) (get_or m.disks d None))) one_seed
      ∙ stable_at_one (first_draw seed m.disks d) (get_or m.disks d None);
  exact = λ d. (all.each d).exact;
  synced = λ d i u. nothing_unsynced seed (first_draw seed m.disks d) (get_or m.disks d None) i
      (subst (λ (o : Option Kept). InRanges (ranges_kept o) i) (all.each d).exact u);
  rest = refl;
}
