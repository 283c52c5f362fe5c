-- What was said and what the disks hold when a command is done, before its last line is said.
use Rattle.std.specs.Prelude.{◌≡◌, ◌⊎◌, ℕ, List, [], Some, None, Option, IsTrue, Err, true}
use Rattle.std.specs.Prelude.{false}
use Rattle.trap_bank.specs.Disks.{Contents, View}
use Rattle.trap_bank.specs.Stream.{Stream}
use Rattle.trap_bank.specs.Steps.{Always}
use Rattle.trap_array.specs.Areas.{MayTouch}
use Rattle.trap_array.specs.Calls.{Mounted, StandsFor}
use Rattle.trap_model.specs.declared.numbers.Geometry.{Geometry}
use Rattle.trap_model.specs.declared.history.State.{State}
use Rattle.trap_model.specs.declared.request.Request.{Request}
use Rattle.trap_array.specs.Holding.{Holds}
use Rattle.trap_array.specs.declared.fault.Denied.TheVariants as denied
use Rattle.trap_array.specs.Mounting.{is_refusal}
use Rattle.trap_session.specs.Changing.{ChangesOnly}
use Rattle.trap_session.specs.Store.{Store, store_of, array_store, IsDamagedFor}
use Rattle.trap_session.specs.Leaving.{HasRecordsMore}
use Rattle.trap_session.specs.declared.outcome.SessionFault.TheVariants as serving
use Rattle.trap_session.specs.Serving.{StopsDone, StopsAfter, StopsAs, StopsBy, StandsAtEnd, Took}
use Rattle.trap_session.specs.Serving.{TookQuit}
use Rattle.trap_remote.specs.Applying.{ApplySaid}
use Rattle.trap_remote.specs.Creating.{CreateEnds}
use Rattle.trap_remote.specs.Exporting.{ExportSaid}
use Rattle.trap_remote.specs.Loading.{LoadSaid}
use Rattle.trap_cli.specs.Ended.{EndsReplica}
use Rattle.trap_cli.specs.Creating.{CreateSaid}
use Rattle.trap_cli.specs.History.{history_text}
use Rattle.trap_cli.specs.SaidOver.{SaidOver, SaidPartOver}
use Rattle.trap_cli.specs.Sending.{SendSaid}
use Rattle.trap_cli.specs.Stopping.{IsLineOf}
use Rattle.trap_cli.specs.declared.command.Command.{Command}
use Rattle.trap_cli.specs.declared.command.Command.TheVariants.{Create, Session, History, Send}
use Rattle.trap_cli.specs.declared.command.Command.TheVariants.{ReplicaCreate, ReplicaLoad}
use Rattle.trap_cli.specs.declared.command.Command.TheVariants.{Apply, ReplicaExport}
use Rattle.trap_cli.specs.declared.outcome.Ended.{Ended}
use Rattle.trap_cli.specs.declared.outcome.Ended.TheVariants.{Done}
use Rattle.trap_cli.specs.declared.outcome.Ended.TheVariants.{NotMounted, Stopped, Port, Memory}

-- the states of an array on disks that hold them
abbrev pub held_store : Geometry → Store State
held_store g = store_of g (λ disks s. Holds g s disks)

-- `session` over disks that hold a state. None of its refusals comes, nor any other end.
abbrev pub SessionSaid : Store State → Ended → State → List ℕ → Contents → Contents → Stream
    → Stream → Type 0
SessionSaid store Done s input old now from to = StopsDone store s input old now
SessionSaid store (NotMounted why) s input old now from to =
    (is_refusal why ≡ false) × StopsAfter store s input 0 old now
SessionSaid store (Stopped why) s input old now from to =
    StopsAs store (Err why) s input old now from to
SessionSaid store Memory s input old now from to = StopsAfter store s input 0 old now
SessionSaid store ended s input old now from to = ⊥

-- `history` over disks that hold a state. None of its refusals comes, nor any other end.
abbrev pub HistorySaid : Geometry → State → Ended → Contents → Contents → Type 0
HistorySaid g s Done old now = SaidOver g s (history_text s) old now
HistorySaid g s (NotMounted why) old now = (is_refusal why ≡ false) × SaidOver g s [] old now
HistorySaid g s Port old now = SaidPartOver g s (history_text s) old now
HistorySaid g s ended old now = ⊥

-- the bank and the source tell, and the disks hold the state
pub record BeginsHeld (g : Geometry) (s : State) (input : List ℕ) (v : View)
    (from : Stream) : Type 0 where
  pub left : from.left ≡ Some input
  pub tells : IsTrue v.tells
  pub holds : Holds g s v.now.disks

-- Where the bank tells, and for `session` also the source, and the disks held a state on entry. For
-- a replica's command, where disk 17 held an image.
abbrev pub SaidAndHeld : Option Command → Ended → View → Contents → Stream → Stream → Type 0
SaidAndHeld None ended old now from to = IsTrue old.tells → now ≡ old.now
SaidAndHeld (Some Session) ended old now from to = (g : Geometry) (s : State) (input : List ℕ)
    → BeginsHeld g s input old from → SessionSaid (held_store g) ended s input old.now now from to
SaidAndHeld (Some History) ended old now from to = (g : Geometry) (s : State)
    → IsTrue old.tells → Holds g s old.now.disks → HistorySaid g s ended old.now now
SaidAndHeld (Some (Send seq)) ended old now from to = (g : Geometry) (s : State)
    → IsTrue old.tells → Holds g s old.now.disks → SendSaid g s seq ended old.now now
SaidAndHeld (Some (Create asked)) ended old now from to =
    IsTrue old.tells → CreateSaid asked ended old.now now
SaidAndHeld (Some (ReplicaCreate asked)) ended old now from to =
    EndsReplica (λ end. IsTrue old.tells → CreateEnds asked end old.now now) ended
SaidAndHeld (Some (ReplicaLoad asked start)) ended old now from to =
    EndsReplica (λ end. IsTrue old.tells → LoadSaid asked start end from old.now now) ended
SaidAndHeld (Some Apply) ended old now from to =
    EndsReplica (λ end. ApplySaid end old from to old.now now) ended
SaidAndHeld (Some ReplicaExport) ended old now from to =
    EndsReplica (λ end. ExportSaid end old old.now now) ended

-- At its end, where the array stood for a state on entry and the input is known: the session ended
-- so.
abbrev pub ServedSaid : Mounted → View → Ended → Stream → Stream → Contents → Contents → Type 0
ServedSaid a v ended from to old new =
    (s : State) → Always v (StandsFor a s) → (input : List ℕ) → from.left ≡ Some input
    → SessionSaid (array_store a) ended s input old new from to

-- why a mounted session ended so; no other end comes
abbrev pub ServedCause : Mounted → Ended → View → View → Stream → Stream → Type 0
ServedCause a Done old new from to = (to.ended ≡ true) ⊎ TookQuit a.g.block from to
ServedCause a (Stopped why) old new from to = StopsBy a (Err why) old new from to
ServedCause a Memory old new from to = Unit {0}
ServedCause a ended old new from to = ⊥

-- a line of the input in which a mounted session found a record damaged, by what the array knows at
-- its end
pub record FindsBad (a : Mounted) (offset : ℕ) (new : View) (from : Stream) : Type 0 where
  pub b : Mounted
  pub same : b.g ≡ a.g
  pub more : HasRecordsMore a.index b.index
  pub asked : Request
  pub line : IsLineOf a.g.block from asked
  pub bad : IsTrue new.tells → IsDamagedFor b.g b.index asked new.now.disks offset

-- what a mounted session leaves: no size changed, nor any byte but what calls of the array may
-- touch; a state that was held is held; the bytes taken are the next of the source's
pub record LeavesMounted (a : Mounted) (ended : Ended) (old new : View)
    (from to : Stream) : Type 0 where
  pub sizes : (e : ℕ) → new.sizes e ≡ old.sizes e
  pub changes : ChangesOnly (MayTouch a) old new
  pub held : StandsAtEnd a old new
  pub took : Took from to
  pub bad : (offset : ℕ) → ended ≡ Stopped (serving.Array (denied.Damaged offset))
      → FindsBad a offset new from
