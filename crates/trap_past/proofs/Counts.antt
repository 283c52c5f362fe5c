-- What calls of a source's methods change.
use Rattle.std.proofs.Common.{◌≡◌, ℕ, zero, suc, ◌+◌, ◌≤◌, refl, ap, sym, ◌∙◌, inr, arith}
use Rattle.trap_index.specs.Indexed.{Indexed, item_at}
use Rattle.trap_past.specs.Asking.{nth_newest, last_looked, Undoes, UndoesAtMost}
use Rattle.trap_past.specs.Past.{Past, Remains, GivesPresent, GivesParity}

-- it remains over two runs
pub remains_again : (old mid new : Past) → Remains old mid → Remains mid new → Remains old new
remains_again old mid new before here = record {
  has = here.has ∙ before.has;
  stands = λ s. (λ stood. (here.stands s).0 ((before.stands s).0 stood), λ stands. (before.stands s).1 ((here.stands s).1 stands));
}

-- the last of one more
looked_more : (i : Indexed) (block k n before : ℕ) → n ≡ k + 1 → last_looked i block n before ≡ nth_newest i block k
looked_more i block k zero before is = absurd (omega arith)
looked_more i block k (suc n) before is =
    let same : n ≡ k = omega arith in
    ap (nth_newest i block) same

-- the link of one is the next one
pub linked : (i : Indexed) (block k n : ℕ) → n ≡ k + 1 → (item_at i (nth_newest i block k)).prev ≡ nth_newest i block n
linked i block k zero is = absurd (omega arith)
linked i block k (suc n) is =
    let same : k ≡ n = omega arith in
    ap (λ (m : ℕ). (item_at i (nth_newest i block m)).prev) same

-- one parity more
pub undoes_more : (i : Indexed) (turns block seq : ℕ) (old mid new : Past) → seq ≡ nth_newest i block turns → Undoes i turns block old mid → GivesParity seq mid new
    → Undoes i (turns + 1) block old new
undoes_more i turns block seq old mid new next before here =
    let one = before.parities in
    let two = here.parities in
    record {
      remains = remains_again old mid new before.remains here.remains;
      presents = here.presents ∙ before.presents;
      asked = here.asked ∙ before.asked;
      parities = omega arith;
      looked = here.looked ∙ next ∙ sym (looked_more i block turns (turns + 1) old.looked refl);
      snapshots = here.snapshots ∙ before.snapshots;
    }

-- the present alone
pub undoes_none : (i : Indexed) (block : ℕ) (old new : Past) → GivesPresent block old new → Undoes i 0 block old new
undoes_none i block old new call =
    let one = call.parities in
    record {
      remains = call.remains;
      presents = call.presents;
      asked = call.asked;
      parities = omega arith;
      looked = call.looked;
      snapshots = call.snapshots;
    }

-- a number of turns is at most a greater one
pub undoes_at_most : (i : Indexed) (turns most block : ℕ) (old new : Past) → Undoes i turns block old new → turns ≤ most → UndoesAtMost i most block old new
undoes_at_most i turns most block old new call few = record {
  remains = call.remains;
  present = inr (call.presents, call.asked);
  taken = turns;
  few = few;
  present_first = (λ none. let one = call.presents in absurd (omega arith));
  parities = call.parities;
  looked = call.looked;
  snapshots = call.snapshots;
}
