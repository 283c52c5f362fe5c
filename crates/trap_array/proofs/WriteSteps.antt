-- A write of a mounted array, from what it does to the log.
use Rattle.std.proofs.Common.{◌≡◌, ℕ, ◌+◌, ◌<◌, ◌≤◌, List, length, Option, Some, None, Bool, false, ◌||◌, Result, Ok, Err, IfErr, IsTrue, inl, inr, ⊎_elim, refl, sym, ap, subst, ◌∙◌, arith}
use Rattle.trap_bank.specs.Disks.{Disks, View}
use Rattle.trap_bank.specs.Steps.{Moves, Same, OnlyReads}
use Rattle.trap_bank.proofs.Moves.{moves_weaken, always_same}
use Rattle.trap_cell.specs.Slots.{Stands, cell_value}
use Rattle.trap_format.specs.HeadValue.{head_value}
use Rattle.trap_format.specs.declared.head.Head.{Head}
use Rattle.trap_index.specs.Indexed.{Indexed}
use Rattle.trap_model.specs.ArrayStep.{step, accepted, after, or_refused}
use Rattle.trap_model.specs.Image.{volume, block_of}
use Rattle.trap_model.specs.State.{image}
use Rattle.trap_model.specs.declared.history.State.{State}
use Rattle.trap_model.specs.declared.numbers.Geometry.{Geometry}
use Rattle.trap_model.specs.declared.request.Refusal.{Refusal}
use Rattle.trap_model.specs.declared.request.Reply.{Reply}
use Rattle.trap_model.specs.declared.request.Request.TheVariants.{Write, Read}
use Rattle.trap_model.specs.declared.request.Reply.TheVariants.{Is, No}
use Rattle.trap_model.proofs.Refusals.{no_block, is_block}
use Rattle.trap_array.specs.Calls.{Mounted, StandsFor, HoldsLike, TakesTo, HasSizes, IsReady, SameArray, AtAnyMoment, StandsAfterCall, is_fault, running}
use Rattle.trap_pool.specs.Pooled.{free_of}
use Rattle.trap_stage.specs.Slots.{Stage}
use Rattle.trap_array.specs.Growing.{HasRecordOf, IndexAfterFault, IndexAfter}
use Rattle.trap_array.specs.Holding.{head_place}
use Rattle.trap_array.specs.Log.{Log, IndexedLog, with_index, AreInStep, IsArray, Buffers, HaveBlocksOf}
use Rattle.trap_array.specs.Turning.{Denies, MovesLog}
use Rattle.trap_array.specs.declared.fault.Denied.{Denied}
use Rattle.trap_array.specs.declared.fault.Denied.TheVariants.{Refused, LogFault, MemberFault, Damaged, Stopped}
pub use Rattle.trap_log.proofs.GoingOn.{sizes_on, can_drain_on, can_drain_after}
use Rattle.trap_array.proofs.IndexSteps.{index_same}
use Rattle.trap_array.proofs.KeepSteps.{next_of}
use Rattle.trap_array.proofs.Sizes.{sizes_still}
use Rattle.trap_bank.proofs.Moves.{unmoved}
use Rattle.trap_array.proofs.Turns.{holds_still}

-- the array with that log
abbrev pub mounted : IndexedLog → Bool → Mounted
mounted log is_stopped = record { g = log.g; head = log.head; cell = log.cell; pending = log.stage.pending; index = log.index; blocks = 6; free = 6; is_stopped = is_stopped }

-- an array is the one with its log: between two calls its region has six blocks, all of them free
abbrev pub with_buffers : IndexedLog → Buffers → Bool → Mounted
with_buffers log buffers is_stopped = record {
  g = log.g;
  head = log.head;
  cell = log.cell;
  pending = log.stage.pending;
  index = log.index;
  blocks = length buffers.pool.blocks;
  free = free_of buffers.pool;
  is_stopped = is_stopped;
}

pub buffers_are : (log : IndexedLog) (buffers : Buffers) (stopped : Bool) (block : ℕ) → HaveBlocksOf block buffers → mounted log stopped ≡ with_buffers log buffers stopped
buffers_are log buffers stopped block have =
    ap (λ (n : ℕ). record (mounted log stopped) { blocks = n }) (sym have.blocks)
    ∙ ap (λ (n : ℕ). record (mounted log stopped) { blocks = length buffers.pool.blocks; free = n }) (sym have.free)

-- so is one in memory
pub array_is : {log : Log} {index : Indexed} {buffers : Buffers} {stopped : Bool} → IsArray log index buffers stopped
    → mounted (with_index log index) stopped ≡ with_buffers (with_index log index) buffers stopped
array_is {log} {index} {buffers} {stopped} is = buffers_are (with_index log index) buffers stopped log.g.block is.room

-- whether it is stopped says nothing of the disks
pub as_going : (log : IndexedLog) (stopped : Bool) (s : State) (x : Disks) → StandsFor (mounted log stopped) s x → StandsFor (running log) s x
as_going log stopped s x stands = record { by = stands.by; cell = stands.cell; pending = stands.pending; index = stands.index }

pub as_mounted : (log : IndexedLog) (stopped : Bool) (s : State) (x : Disks) → StandsFor (running log) s x → StandsFor (mounted log stopped) s x
as_mounted log stopped s x stands = record { by = stands.by; cell = stands.cell; pending = stands.pending; index = stands.index }

module _ (a : IndexedLog) (stopped : Bool) (b : IndexedLog) (stopped_too : Bool) (time block : ℕ) where
  record_mounted : (seq : ℕ) → HasRecordOf (running a) (running b) seq time block → HasRecordOf (mounted a stopped) (mounted b stopped_too) seq time block
  record_mounted seq more = record { number = more.number; size = more.size; least = more.least; added = more.added; long = more.long }

  fault_mounted : IndexAfterFault (running a) (running b) time block → IndexAfterFault (mounted a stopped) (mounted b stopped_too) time block
  fault_mounted either = ⊎_elim inl (λ more. inr (more.0, record_mounted (a.head.last + 1) more.1)) either

  pub index_mounted : (result : Result ℕ Denied) → IndexAfter (running a) (running b) time block result → IndexAfter (mounted a stopped) (mounted b stopped_too) time block result
  index_mounted (Ok seq) after = record_mounted seq after
  index_mounted (Err (Refused why)) after = after
  index_mounted (Err LogFault) after = fault_mounted after
  index_mounted (Err (MemberFault first second)) after = fault_mounted after
  index_mounted (Err (Damaged offset)) after = after
  index_mounted (Err Stopped) after = after

module _ (a : IndexedLog) (stopped : Bool) (v w : View) (next : State → State) where
  pub may_mounted : Moves v w (AtAnyMoment (running a) v next) (AtAnyMoment (running a) v next) → Moves v w (AtAnyMoment (mounted a stopped) v next) (AtAnyMoment (mounted a stopped) v next)
  may_mounted moves =
      moves_weaken v w (AtAnyMoment (running a) v next) (AtAnyMoment (running a) v next) (AtAnyMoment (mounted a stopped) v next) (AtAnyMoment (mounted a stopped) v next) moves
      (λ x y was step s always. step s (λ c left. as_going a stopped s c.disks (always c left)))
      (λ x y was left step s always. step s (λ c left. as_going a stopped s c.disks (always c left)))

  pub has_mounted : (b : IndexedLog) (stopped_too : Bool) → Moves v w (AtAnyMoment (running a) v next) (StandsAfterCall (running a) (running b) v next)
      → Moves v w (AtAnyMoment (mounted a stopped) v next) (StandsAfterCall (mounted a stopped) (mounted b stopped_too) v next)
  has_mounted b stopped_too moves =
      moves_weaken v w (AtAnyMoment (running a) v next) (StandsAfterCall (running a) (running b) v next) (AtAnyMoment (mounted a stopped) v next)
      (StandsAfterCall (mounted a stopped) (mounted b stopped_too) v next) moves
      (λ x y was step s always. step s (λ c left. as_going a stopped s c.disks (always c left)))
      (λ x y was left step s always. as_mounted b stopped_too (next s) y.disks (step s (λ c left. as_going a stopped s c.disks (always c left))))

-- a block that isn't there is not written
module _ (a : Mounted) (v : View) (time block : ℕ) (bytes : List ℕ) (beyond : volume a.g ≤ block) where
  nothing_new : (s : State) → next_of a.g time block bytes s ≡ s
  nothing_new s = ap (λ (o : Option Refusal). or_refused o (after a.g s (Write time block bytes)) (λ _. s)) (no_block a.g block _ beyond)

  pub beyond_turned : Moves v v (AtAnyMoment a v (next_of a.g time block bytes)) (StandsAfterCall a a v (next_of a.g time block bytes))
  beyond_turned =
      moves_weaken v v Same Same (AtAnyMoment a v (next_of a.g time block bytes)) (StandsAfterCall a a v (next_of a.g time block bytes)) (unmoved v)
      (λ x y was same s always. inl (holds_still a s y.disks (subst (λ (d : Disks). StandsFor a s d) (sym same) (always x was))))
      (λ x y was left same s always.
      let P : Disks → Type 0 = λ (d : Disks). StandsFor a s d in
      let Q : State → Type 0 = λ (t : State). StandsFor a t y.disks in
      subst Q (sym (nothing_new s)) (subst P (sym same) (always x was)))

  pub beyond_any : Moves v v (AtAnyMoment a v (next_of a.g time block bytes)) (AtAnyMoment a v (next_of a.g time block bytes))
  beyond_any =
      moves_weaken v v Same Same (AtAnyMoment a v (next_of a.g time block bytes)) (AtAnyMoment a v (next_of a.g time block bytes)) (unmoved v)
      (λ x y was same s always. inl (holds_still a s y.disks (subst (λ (d : Disks). StandsFor a s d) (sym same) (always x was))))
      (λ x y was left same s always. inl (holds_still a s y.disks (subst (λ (d : Disks). StandsFor a s d) (sym same) (always x was))))

-- the sizes of an array that goes on
sizes_along : (a b : Mounted) (v w : View) → SameArray a b → ((d : ℕ) → w.sizes d ≡ v.sizes d) → HasSizes a.g a.head.lost a.head.rebuilt v → HasSizes b.g b.head.lost b.head.rebuilt w
sizes_along a b v w on same sizes = sizes_on a.g b.g a.head b.head v w on.g on.follows same sizes

-- the pending writes are those between the head's numbers
counted : (h : Head) (stage : Stage) (i : Indexed) → AreInStep h stage i → h.drained + length stage.pending ≡ h.last
counted h stage i step = omega (arith, step.staged.drained, step.staged.last)

pub ready_after : (a b : IndexedLog) (next : State → State) (replies : State → Reply) (result : Result ℕ Denied) (v w : View) (stopped : Bool)
    → MovesLog a b next replies result v w → stopped ≡ is_fault result
    → HasSizes a.g a.head.lost a.head.rebuilt v → IsReady (mounted b stopped) w
ready_after a b next replies result v w stopped turns is sizes = record {
  sizes = λ none. let along = sizes_along (running a) (running b) v w turns.same_array turns.sizes sizes in record { log = along.log; members = along.members };
  stands = λ none. (turns.cell (sym is ∙ none)).stands;
  value = λ none. (turns.cell (sym is ∙ none)).value;
  count = λ none. counted b.head b.stage b.index (turns.in_step (sym is ∙ none));
  room = (refl, refl);
}

-- and it holds of the array what is to hold
pub array_after : (a b : Log) (i j : Indexed) (room : Buffers) (next : State → State) (replies : State → Reply) (time block : ℕ) (result : Result ℕ Denied) (v w : View) (stopped : Bool)
    → MovesLog (with_index a i) (with_index b j) next replies result v w → IndexAfter (running (with_index a i)) (running (with_index b j)) time block result → stopped ≡ is_fault result
    → i.g ≡ a.g → HaveBlocksOf a.g.block room → IsArray b j room stopped
array_after a b i j room next replies time block result v w stopped turns after is same blocks = record {
  room = subst (λ (g : Geometry). HaveBlocksOf g.block room) (sym turns.same_array.g) blocks;
  same = index_same (running (with_index a i)) (running (with_index b j)) time block result after ∙ same ∙ sym turns.same_array.g;
  in_step = λ none. turns.in_step (sym is ∙ none);
}

-- calls that only read leave an array ready
pub ready_still : (log : IndexedLog) (stopped stopped_too : Bool) (v w : View) → OnlyReads v w → stopped ≡ false → IsReady (mounted log stopped) v → IsReady (mounted log stopped_too) w
ready_still log stopped stopped_too v w reads running ready = record {
  sizes = λ none. sizes_still log.g log.head.lost log.head.rebuilt v w reads.sizes (ready.sizes running);
  stands = λ none. always_same v w (Stands log.cell) reads.moves (ready.stands running);
  value = λ none. always_same v w (λ disks. cell_value head_place disks ≡ Some (head_value log.head)) reads.moves (ready.value running);
  count = λ none. ready.count running;
  room = (refl, refl);
}

-- of an array that isn't stopped a call that only reads leaves all but whether it is stopped now
pub stays_same : {T : Type 0} (log : IndexedLog) (buffers : Buffers) (was stopped : Bool) (a : Mounted) (result : Result T Denied) (block : ℕ) → HaveBlocksOf block buffers → mounted log was ≡ a
    → was ≡ false → stopped ≡ is_fault result → with_buffers log buffers stopped ≡ record a { is_stopped = a.is_stopped || is_fault result }
stays_same log buffers was stopped a result block have is running by =
    sym (buffers_are log buffers stopped block have)
    ∙ ap (mounted log) (by ∙ sym (ap (λ (b : Bool). b || is_fault result) running))
    ∙ ap (λ (m : Mounted). record m { is_stopped = m.is_stopped || is_fault result }) is

-- ---- a read
-- calls that only read keep the state, whether or not the array is stopped then
pub reads_keep : {T : Type 0} (a b : Mounted) (stopped : Bool) (result : Result T Denied) (v w : View) → OnlyReads v w → b ≡ record a { is_stopped = stopped } → TakesTo a b (λ s. s) result v w
reads_keep {T = T} a b stopped result v w reads is =
    subst (λ (m : Mounted). TakesTo a m (λ s. s) result v w) (sym is) (record {
      turned = λ done running. moves_weaken v w Same Same (AtAnyMoment a v (λ s. s)) (StandsAfterCall a (record a { is_stopped = stopped }) v (λ s. s)) reads.moves
          (λ x y was same s always. inl (held s x.disks y.disks same (always x was)))
          (λ x y was left same s always.
          let there = subst (λ (d : Disks). StandsFor a s d) (sym same) (always x was) in
          record { by = there.by; cell = there.cell; pending = there.pending; index = there.index });
      any_moment = moves_weaken v w Same Same (AtAnyMoment a v (λ s. s)) (AtAnyMoment a v (λ s. s)) reads.moves
          (λ x y was same s always. inl (held s x.disks y.disks same (always x was)))
          (λ x y was left same s always. inl (held s x.disks y.disks same (always x was)));
    })
  where
    held : (s : State) (x y : Disks) → Same x y → StandsFor a s x → HoldsLike a.g a.head s y
    held s x y same stands = holds_still a s y (subst (λ (d : Disks). StandsFor a s d) (sym same) stands)

-- of what an array knows
pub log_keeps : {T : Type 0} (a b : Mounted) (log : IndexedLog) (was stopped : Bool) (result : Result T Denied) (v w : View) → OnlyReads v w → mounted log was ≡ a
    → b ≡ mounted log stopped → TakesTo a b (λ s. s) result v w
log_keeps {T = T} a b log was stopped result v w reads is after =
    subst (λ (m : Mounted). TakesTo m b (λ s. s) result v w) is (reads_keep (mounted log was) b stopped result v w reads after)

-- what the model replies to a read of a block that is there
pub read_replies : (g : Geometry) (s : State) (block : ℕ) → block < volume g → (step g).reply s (Read block) ≡ Is (block_of (image s) block)
read_replies g s block inside = ap (λ (o : Option Refusal). or_refused o (accepted s (Read block)) No) (is_block g block None inside)
