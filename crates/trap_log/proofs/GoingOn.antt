-- A log that goes on after its calls: its head is a later one, and it can be drained.
use Rattle.std.proofs.Common.{◌≡◌, ℕ, Option, Result, Ok, Err, OnOk, refl, sym, subst, ◌∙◌}
use Rattle.trap_bank.specs.Disks.{View}
use Rattle.trap_format.specs.declared.head.Head.{Head}
use Rattle.trap_index.specs.Indexed.{Indexed}
use Rattle.trap_model.specs.declared.numbers.Geometry.{Geometry}
use Rattle.trap_log.specs.Calls.{Mounted, HasSizes, SameArray, SameLog, running}
use Rattle.trap_log.specs.Growing.{IsLaterHead}
use Rattle.trap_log.specs.Log.{Log, IndexedLog, with_index, StagesHead}
use Rattle.trap_log.specs.Ready.{CanDrain, KnowsCell}
use Rattle.trap_log.proofs.Sizes.{sizes_still}
use Rattle.trap_log.proofs.Turns.{later_same, later_then}

pub goes_still : (a : Mounted) → SameArray a a
goes_still a = record { g = refl; follows = later_same a.head }

pub goes_then : (a b c : Mounted) → SameArray a b → SameArray b c → SameArray a c
goes_then a b c first second = record { g = second.g ∙ first.g; follows = later_then a.head b.head c.head first.follows second.follows }

-- a call whose head is the same, or a later one
pub goes_same : (a b : IndexedLog) → b.g ≡ a.g → b.head ≡ a.head → SameArray (running a) (running b)
goes_same a b g head = record { g = g; follows = subst (λ (h : Head). IsLaterHead a.head h) (sym head) (later_same a.head) }

pub goes_later : (a b : IndexedLog) → b.g ≡ a.g → IsLaterHead a.head b.head → SameArray (running a) (running b)
goes_later a b g later = record { g = g; follows = later }

-- the same of a log alone
pub log_still : (a : Log) → SameLog a a
log_still a = record { g = refl; follows = later_same a.head }

pub log_same : (a b : Log) → b.g ≡ a.g → b.head ≡ a.head → SameLog a b
log_same a b g head = record { g = g; follows = subst (λ (h : Head). IsLaterHead a.head h) (sym head) (later_same a.head) }

pub log_later : (a b : Log) → b.g ≡ a.g → IsLaterHead a.head b.head → SameLog a b
log_later a b g later = record { g = g; follows = later }

pub log_of : (a b : Log) (i j : Indexed) → SameArray (running (with_index a i)) (running (with_index b j)) → SameLog a b
log_of a b i j on = record { g = on.g; follows = on.follows }

pub array_of : (a b : Log) (i j : Indexed) → SameLog a b → SameArray (running (with_index a i)) (running (with_index b j))
array_of a b i j on = record { g = on.g; follows = on.follows }

-- the sizes of an array that goes on
pub sizes_on : (g k : Geometry) (h t : Head) (v w : View) → k ≡ g → IsLaterHead h t → ((d : ℕ) → w.sizes d ≡ v.sizes d) → HasSizes g h.lost h.rebuilt v → HasSizes k t.lost t.rebuilt w
sizes_on g k h t v w is later same sizes =
    subst (λ (x : Geometry). HasSizes x t.lost t.rebuilt w) (sym is)
    (subst (λ (lost : Option ℕ). HasSizes g lost t.rebuilt w) (sym later.lost)
    (subst (λ (n : ℕ). HasSizes g h.lost n w) (sym later.rebuilt)
    (sizes_still g h.lost h.rebuilt v w same sizes)))

-- a log that goes on can be drained
pub can_drain_on : (a b : Log) (v w : View) → SameLog a b → ((d : ℕ) → w.sizes d ≡ v.sizes d) → HasSizes a.g a.head.lost a.head.rebuilt v → StagesHead b.head b.stage
    → KnowsCell b.cell b.head w → CanDrain b w
can_drain_on a b v w on same sizes staged cell = record {
  staged = staged;
  sizes = (let along = sizes_on a.g b.g a.head b.head v w on.g on.follows same sizes in record { log = along.log; members = along.members });
  cell = cell;
}

-- after a call that makes it so, where that is done
pub can_drain_after : {T E : Type 0} (result : Result T E) (a b : Log) (v w : View) → SameLog a b → ((d : ℕ) → w.sizes d ≡ v.sizes d) → HasSizes a.g a.head.lost a.head.rebuilt v
    → OnOk result (StagesHead b.head b.stage) → OnOk result (KnowsCell b.cell b.head w) → OnOk result (CanDrain b w)
can_drain_after (Ok value) a b v w on same sizes staged cell = can_drain_on a b v w on same sizes staged cell
can_drain_after (Err e) a b v w on same sizes staged cell = tt
