-- What a call of a bank in memory does to counts and to the moments since which a crash may have left something.
use Rattle.std.proofs.Common.{◌≡◌, ◌⊎◌, ℕ, ◌+◌, ◌-◌, ◌^◌, ◌<◌, ◌≤◌, min, List, [], ◌∷◌, length, get_or, slice_set, slice_index, Option, Result, OnOk, refl, sym, subst, inl, inr, ⊎_elim, arith, get_or-set_same, get_or-set_other}
use Rattle.std.proofs.lemmas.Bool.Decides.{eqb_tells}
use Rattle.trap_bank.specs.declared.record.Change.{Change}
use Rattle.trap_bank.specs.declared.record.Entry.{Entry}
use Rattle.trap_bank.specs.Faults.{Rose}
use Rattle.trap_bank.specs.Disks.{Contents}
use Rattle.trap_bank.specs.Calls.{IsOneCall, KeepsLeft, MayLeave}
use Rattle.trap_bank.specs.Counts.{one_more}
use Rattle.trap_bank.specs.Kept.{Kept}
use Rattle.trap_bank.specs.Record.{State, before, still, InCall, InCalls, BeganBefore}
use Rattle.trap_bank.specs.Memory.{Memory, IsMemoryBank, state_of, view_of}

-- the same bank with other counts
abbrev pub recounted : Memory → ℕ → List ℕ → ℕ → ℕ → Memory
recounted m moment faults port starved = record m { moment = moment; faults = faults; port_faults = port; starved = starved }

-- the bank after a call that is in its record
abbrev pub changed : Memory → List (Option Kept) → List ℕ → Change → List ℕ → ℕ → Memory
changed m disks said change faults port = record m {
  disks = disks;
  said = said;
  past = record { moment = m.moment; change = change } ∷ m.past;
  moment = m.moment + 1;
  faults = faults;
  port_faults = port;
}

-- a call that began at t or later began before the moment
pub began : (s : State) (past : List Entry) (n t : ℕ) (c : Contents) → BeganBefore past n → InCalls s past t c → t < n
began s [] n t c before_ h = absurd h
began s (e ∷ older) n t c before_ h = let from : t ≤ e.moment = h.0 in omega arith

pub goes : {T E : Type 0} (result : Result T E) (m n : Memory) → n.moment ≡ one_more m.moment
    → ((e : ℕ) → get_or m.faults e 0 ≤ get_or n.faults e 0) → m.port_faults ≤ n.port_faults → OnOk result (m.moment < n.moment)
    → IsOneCall result (view_of m) (view_of n)
goes result m n passes faults port rises = record {
  tells = refl;
  faults = faults;
  port_faults = port;
  later = omega arith;
  rises = λ told. rises;
  same_by_one = refl;
  by_one = λ told way. passes;
}

-- where a call changed no more than counts, a crash may have left what it might have left before
pub idle : (m : Memory) (moment : ℕ) (faults : List ℕ) (port starved : ℕ) (in_call : Contents → Type 0) → IsMemoryBank m → m.moment ≤ moment
    → KeepsLeft (view_of m) (view_of (recounted m moment faults port starved)) in_call
idle m moment faults port starved in_call sound later = record {
  nothing_else = λ t c le left. inl (⊎_elim (λ now. inl now)
      (λ past. inr (⊎_elim
      (λ (unknown : t < m.since). let since : m.since ≤ m.moment = sound.kept.since in let lt : t < m.moment = omega arith in (lt, inl unknown))
      (λ calls. (began (state_of m) m.past m.moment t c sound.kept.began calls, inr calls)) past.1)) left);
  keeps = λ t c le left. ⊎_elim (λ now. inl now) (λ past. inr (let old : t < m.moment = past.0 in let lt : t < moment = omega arith in (lt, past.1))) left;
}

-- a call that is in the record
pub recorded : (m : Memory) (disks : List (Option Kept)) (said : List ℕ) (change : Change) (faults : List ℕ) (port : ℕ) (in_call : Contents → Type 0)
    → IsMemoryBank m
    → before (state_of (changed m disks said change faults port)) change ≡ state_of m
    → ((c : Contents) → MayLeave (still (state_of (changed m disks said change faults port))) c → in_call c)
    → ((c : Contents) → InCall (state_of m) (state_of (changed m disks said change faults port)) change c → in_call c)
    → ((c : Contents) → MayLeave (still (state_of m)) c → InCall (state_of m) (state_of (changed m disks said change faults port)) change c)
    → KeepsLeft (view_of m) (view_of (changed m disks said change faults port)) in_call
recorded m disks said change faults port in_call sound back now_is call_is was_is =
    let new : State = state_of (changed m disks said change faults port) in
    record {
      nothing_else = λ t c le left. ⊎_elim (λ now. inr (now_is c now))
          (λ past. ⊎_elim
          (λ (unknown : t < m.since). let since : m.since ≤ m.moment = sound.kept.since in let lt : t < m.moment = omega arith in inl (inr (lt, inl unknown)))
          (λ calls. ⊎_elim (λ inside. inr (call_is c inside))
          (λ older. inl (inr (began (state_of m) m.past m.moment t c sound.kept.began older, inr older)))
          (subst (λ (s : State). InCall s new change c ⊎ InCalls s m.past t c) back calls.1)) past.1) left;
      keeps = λ t c le left. ⊎_elim
          (λ now. let lt : t < m.moment + 1 = omega arith in
          inr (lt, inr (le, subst (λ (s : State). InCall s new change c ⊎ InCalls s m.past t c) (sym back) (inl (was_is c now)))))
          (λ past. let old : t < m.moment = past.0 in let lt : t < m.moment + 1 = omega arith in
          inr (
            lt,
            ⊎_elim (λ unknown. inl unknown)
                (λ older. inr (le, subst (λ (s : State). InCall s new change c ⊎ InCalls s m.past t c) (sym back) (inr older))) past.1,
          )) left;
    }

-- a count that was raised
pub raised : (counts : List ℕ) (d : ℕ) → d < length counts → Rose (get_or counts d 0) (get_or (slice_set counts d (one_more (slice_index counts d))) d 0)
raised counts d below =
    let same : get_or (slice_set counts d (one_more (slice_index counts d))) d 0 ≡ one_more (slice_index counts d) = get_or-set_same counts d (one_more (slice_index counts d)) 0 below in
    subst (λ (n : ℕ). min (get_or counts d 0 + 1) (2 ^ 64 - 1) ≤ n) (sym same) (omega arith)

-- no count falls where one is raised
pub none_falls : (counts : List ℕ) (d e : ℕ) → d < length counts → get_or counts e 0 ≤ get_or (slice_set counts d (one_more (slice_index counts d))) e 0
none_falls counts d e below = ⊎_elim
    (λ here. subst (λ (k : ℕ). get_or counts k 0 ≤ get_or (slice_set counts d (one_more (slice_index counts d))) k 0) (sym here.1)
    (subst (λ (n : ℕ). get_or counts d 0 ≤ n) (sym (get_or-set_same counts d (one_more (slice_index counts d)) 0 below)) (omega arith)))
    (λ other. subst (λ (n : ℕ). get_or counts e 0 ≤ n) (sym (get_or-set_other counts d e (one_more (slice_index counts d)) 0 other.1)) (omega arith))
    (eqb_tells e d)
