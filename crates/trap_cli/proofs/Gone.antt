-- What a crash leaves where at most one member is out, though its disk be removed.
use Rattle.std.proofs.Common.{◌≡◌, inl, inr, ⊎_elim, ℕ, ◌+◌, ◌<◌, List, Some, None, IsTrue, refl, sym, subst, ◌∙◌}
use Rattle.trap_bank.specs.Disks.{Disks, View}
use Rattle.trap_bank.specs.Calls.{IsLawful, MayLeave}
use Rattle.trap_bank.specs.Steps.{Always}
use Rattle.trap_bank.specs.Stream.{Stream}
use Rattle.trap_bank.proofs.Moves.{read_is_left}
use Rattle.trap_model.specs.State.{fresh}
use Rattle.trap_model.specs.declared.numbers.Geometry.{Geometry}
use Rattle.trap_model.specs.declared.history.State.{State}
use Rattle.trap_array.specs.Creating.{fresh_head}
use Rattle.trap_array.specs.Gone.{HoldsBut, IsRemoved}
use Rattle.trap_array.specs.Holding.{HoldsBy}
use Rattle.trap_array.specs.Mounting.{SameHead}
use Rattle.trap_bank.proofs.Regions.{absent_disk}
use Rattle.trap_array.proofs.Removed.{removed_but}
use Rattle.trap_cli.specs.Creating.{HoldsNew}
use Rattle.trap_cli.specs.Said.{BeginsHeld}
use Rattle.trap_cli.specs.Left.{LeftOnEntry, HoldsSince, LeftBesideHead}
use Rattle.trap_cli.specs.Crash.{SessionLeaves, HistoryLeaves, SendLeaves, AfterGiven, OneMayGo}
use Rattle.trap_cli.proofs.Crashing.{none_given}
use Rattle.trap_cli.proofs.Heads.{same_head_by}

-- no member of a new array is out
pub new_but : (g : Geometry) (m : ℕ) (disks : Disks) → HoldsNew g disks → HoldsBut g (fresh g) m disks
new_but g m disks new = record {
  head = fresh_head;
  by = new.by;
  others = λ k inside out. ⊎_elim (λ (lost : None ≡ Some k). absurd (cc lost)) (λ (absent : disks (k + 1) ≡ None). absurd (new.members k inside absent)) out;
}

-- the member that may be out may be removed
pub may_go : (g : Geometry) (t : State) (m : ℕ) (left now : Disks) → OneMayGo g m left now → HoldsBut g t m left → HoldsBut g t m now
may_go g t m left now one but = ⊎_elim (λ (same : now ≡ left). subst (λ (disks : Disks). HoldsBut g t m disks) (sym same) but)
    (λ (removed : IsRemoved m left now). removed_but g t m left now but removed) one.gone

module _ (g : Geometry) (s : State) (m : ℕ) (v : View) (lawful : IsLawful v) (told : IsTrue v.tells) (always : Always v (λ disks. HoldsBut g s m disks))
    (left : Disks) (others : (k : ℕ) → k < g.members → left (k + 1) ≡ None → k ≡ m) where
  -- what a crash on entry might have left
  entry_left : (entry : Disks) → LeftOnEntry v entry → MayLeave v (record { disks = entry; said = v.now.said })
  entry_left entry was = record { told = told; torn = record { disks = was; said = refl } }

  -- no member was out on entry but perhaps the one
  since_but : (t : State) → HoldsSince g v left t → HoldsBut g t m left
  since_but t since =
      let entry = always v.now (read_is_left v told) in
      record {
        head = since.head;
        by = since.by;
        others = λ k inside out. ⊎_elim
            (λ (lost : since.head.lost ≡ Some k). ⊎_elim (λ (was : entry.head.lost ≡ Some k). entry.others k inside (inl was))
            (λ (none : v.sizes (k + 1) ≡ None). entry.others k inside (inr (absent_disk (v.now.disks (k + 1)) (lawful.sized told (k + 1) ∙ none))))
            (since.lost entry.head s entry.by k lost))
            (λ (absent : left (k + 1) ≡ None). others k inside absent) out;
      }

  beside_but : LeftBesideHead v left → HoldsBut g s m left
  beside_but beside =
      let entry = always (record { disks = beside.entry; said = v.now.said }) (entry_left beside.entry beside.left) in
      record {
        head = entry.head;
        by = ⊎_elim (λ (same : left ≡ beside.entry). subst (λ (disks : Disks). HoldsBy g entry.head s disks) (sym same) entry.by)
            (λ (same : SameHead beside.entry left). same_head_by g entry.head s beside.entry left same entry.by) beside.same;
        others = λ k inside out. ⊎_elim (λ lost. entry.others k inside (inl lost)) (λ absent. others k inside absent) out;
      }

  -- after a session: the state after the lines whose replies were given, or after one more
  pub session_but : (input p : List ℕ) (from : Stream) → BeginsHeld g s input v from → SessionLeaves g s input v p left
      → AfterGiven g s input p (λ t. HoldsBut g t m left)
  session_but input p from begins (inl (front, beside)) = (0, inl (sym (none_given g s input v from begins p front)), beside_but beside)
  session_but input p from begins (inr (inl now)) = (_, inl refl, since_but _ now)
  session_but input p from begins (inr (inr next)) = (_, inr refl, since_but _ next)

  -- after a history: the state
  pub history_but : (p : List ℕ) → HistoryLeaves g s v p left → HoldsBut g s m left
  history_but p (inl (front, beside)) = beside_but beside
  history_but p (inr (front, since)) = since_but s since

  -- and after a run of `send`
  pub send_but : (seq : ℕ) (p : List ℕ) → SendLeaves g s seq v p left → HoldsBut g s m left
  send_but seq p (inl (front, beside)) = beside_but beside
  send_but seq p (inr (front, since)) = since_but s since

-- and so it is with the member removed
pub gone_after : (g : Geometry) (s : State) (m : ℕ) (input p : List ℕ) (v : View) (from : Stream) → IsLawful v → BeginsHeld g s input v from
    → Always v (λ disks. HoldsBut g s m disks) → (left now : Disks) → OneMayGo g m left now → SessionLeaves g s input v p left
    → AfterGiven g s input p (λ t. HoldsBut g t m now)
gone_after g s m input p v from lawful begins always left now one leaves =
    let held = session_but g s m v lawful begins.tells always left one.others input p from begins leaves in
    (held.0, held.1, may_go g _ m left now one held.2)
