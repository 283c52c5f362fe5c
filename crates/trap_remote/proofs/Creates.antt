-- The command `replica-create`.
use Rattle.std.proofs.Common.{◌≡◌, ◌≢◌, ◌↔◌, ℕ, List, [], ◌++◌, Option, Some, None, Result, Ok, Err, true, false, IsTrue, refl, sym, ap, subst, ◌∙◌, arith}
use Rattle.trap_bank.specs.Called.{CalledTimes, CalledAtMost}
use Rattle.trap_bank.specs.Calls.{IsLawful, Says}
use Rattle.trap_bank.specs.Disks.{Disks, View}
use Rattle.trap_bank.specs.Faults.{Rose}
use Rattle.trap_bank.specs.Steps.{Moves, Spoke, SpokePart}
use Rattle.trap_bank.proofs.Called.{called_once, called_at_most, at_most_then, at_most_more, not_called}
use Rattle.trap_bank.proofs.Moves.{say_steps, said_steps}
use Rattle.trap_bank.proofs.OnlyReads.{reads_none}
use Rattle.trap_bank.proofs.Rising.{rose_since}
use Rattle.trap_format.specs.ReplicaDisk.{replica_size}
use Rattle.trap_format.specs.declared.limits.Field.{Field}
use Rattle.trap_format.specs.declared.shape.Shape.{Shape}
use Rattle.trap_replica.specs.Creating.{MakesReplica, HasMade, MakesDisk, zero_blocks}
use Rattle.trap_replica.specs.declared.fault.ReplicaFault.{ReplicaFault}
use Rattle.trap_replica.specs.declared.fault.ReplicaFault.TheVariants.{Exists, DiskFault}
use Rattle.trap_remote.specs.Ended.{created_line, makes_nothing}
use Rattle.trap_remote.specs.Making.{first_broken_in, HasAskedNumbers, MayMake, MakeFirst}
use Rattle.trap_remote.specs.Creating.{CreateEnds, CreateOutcome}
use Rattle.trap_remote.specs.declared.outcome.AskedReplica.{AskedReplica}
use Rattle.trap_remote.specs.declared.outcome.ReplicaEnd.{ReplicaEnd}
use Rattle.trap_remote.specs.declared.outcome.ReplicaEnd.TheVariants.{Done, Port, BadGeometry, NotMade}
use Rattle.trap_remote.proofs.Framing.{reads_replica}
use Rattle.trap_remote.proofs.Making.{unmade_steps, making_steps, made_steps, made_changes, unmade_changes, making_now, made_now}

-- the line has bytes
line_some : (id : ℕ) → [] ≡ created_line id → ⊥
line_some id is = cc

module _ (asked : AskedReplica) (a : View) (lawful : IsLawful a) where
  line : List ℕ
  line = created_line asked.id

  -- A number breaks its limit.
  pub broken_outcome : (field : Field) → first_broken_in asked 0 ≡ Some field → CreateOutcome asked (BadGeometry field) a a
  broken_outcome field is = record {
    cause = is;
    first = record {
      broken = λ other broken. let both : Some field ≡ Some other = sym is ∙ broken in ap BadGeometry (some_same field other both);
      there = λ kept there. let both : None ≡ Some field = sym kept ∙ is in absurd (cc both);
    };
    said = λ told. record { disks = refl; said = refl };
    silent = λ is told. refl;
    changes = reads_replica (BadGeometry field) a a (reads_none a);
    steps = unmade_steps asked 0 0 zero_blocks (created_line asked.id) (line_some asked.id) a lawful a (reads_none a) (CreateEnds asked (BadGeometry field)) (λ x y same. same);
    completes = λ kept none disk port. let both : None ≡ Some field = sym kept ∙ is in absurd (cc both);
    calls = called_at_most 0 10 a a (omega arith) (not_called a);
  }
    where
      some_same : (x y : Field) → ◌≡◌ {A = Option Field} (Some x) (Some y) → x ≡ y
      some_same x y e = cc

  module _ (kept : first_broken_in asked 0 ≡ None) where
    no_field : (ended : ReplicaEnd) (field : Field) → first_broken_in asked 0 ≡ Some field → ended ≡ BadGeometry field
    no_field ended field is = let both : None ≡ Some field = sym kept ∙ is in absurd (cc both)

    -- Disk 17 is there already.
    exists_outcome : a.sizes 17 ≢ None → CreateOutcome asked (NotMade (Exists 17)) a a
    exists_outcome there = record {
      cause = record { kept = kept; is = refl; there = there };
      first = record { broken = no_field (NotMade (Exists 17)); there = λ also there. refl };
      said = λ told. record { disks = refl; said = refl };
      silent = λ is told. refl;
      changes = reads_replica (NotMade (Exists 17)) a a (reads_none a);
      steps = unmade_steps asked 0 0 zero_blocks (created_line asked.id) (line_some asked.id) a lawful a (reads_none a) (CreateEnds asked (NotMade (Exists 17))) (λ x y same. same);
      completes = λ kept none disk port. absurd (there none);
      calls = called_at_most 0 10 a a (omega arith) (not_called a);
    }

    module _ (s : Shape) (is_asked : HasAskedNumbers asked s) (none : a.sizes 17 ≡ None) (b : View) where
      abbrev may : MayMake asked 0 a
      may = record { kept = kept; shape = s; asked_ = is_asked; none = none }

      not_there : (ended : ReplicaEnd) → MakeFirst asked 0 ended a
      not_there ended = record { broken = no_field ended; there = λ also there. absurd (there none) }

      -- It failed.
      failed_outcome : {T E : Type 0} (result : Result T E) → MakesDisk s result a b → Moves a b (MakesReplica s 0 0 (zero_blocks s)) (MakesReplica s 0 0 (zero_blocks s))
          → Rose (a.faults 17) (b.faults 17) → CalledAtMost 9 a b → CreateOutcome asked (NotMade DiskFault) a b
      failed_outcome result disk moves rose calls = record {
        cause = (may, rose);
        first = not_there (NotMade DiskFault);
        said = λ told. record { shape = s; asked_ = is_asked; makes = making_now s 0 0 (zero_blocks s) result a b (MakesReplica s 0 0 (zero_blocks s)) disk moves told };
        silent = λ is told. (disk.touches told).said;
        changes = unmade_changes (NotMade DiskFault) s result a b (MakesReplica s 0 0 (zero_blocks s)) (MakesReplica s 0 0 (zero_blocks s)) refl disk moves
            (λ x y made. made.others) (λ x y made. made.others);
        steps = making_steps asked 0 0 zero_blocks (created_line asked.id) (line_some asked.id) a lawful kept none s is_asked b
            (MakesReplica s 0 0 (zero_blocks s)) (MakesReplica s 0 0 (zero_blocks s)) (CreateEnds asked (NotMade DiskFault)) moves (λ x y made. made.disk)
            (λ x y left step. record { shape = s; asked_ = is_asked; makes = step });
        completes = λ kept none disk port. absurd (disk rose);
        calls = at_most_more 9 10 a b (omega arith) calls;
      }

      module _ {T E : Type 0} (result : Result T E) (disk : MakesDisk s result a b) (sized : b.sizes 17 ≡ Some (replica_size s))
          (moves : Moves a b (MakesReplica s 0 0 (zero_blocks s)) (HasMade s 0 0 (zero_blocks s)))
          (calls : CalledTimes 9 a b) (c : View) where
        told_mid : IsTrue a.tells → IsTrue b.tells
        told_mid told = subst IsTrue (sym moves.tells) told

        holds_now : IsTrue a.tells → b.now.disks ≡ c.now.disks → HasMade s 0 0 (zero_blocks s) a.now.disks c.now.disks
        holds_now told same = subst (λ (disks : Disks). HasMade s 0 0 (zero_blocks s) a.now.disks disks) same
            (made_now s 0 0 (zero_blocks s) result a b (MakesReplica s 0 0 (zero_blocks s)) disk moves told)

        calls_all : {U F : Type 0} (said : Result U F) → Says (created_line asked.id) said b c → CalledAtMost 10 a c
        calls_all said says = at_most_then 9 1 10 a b c (omega arith) (called_at_most 9 9 a b (omega arith) calls)
            (called_at_most 1 1 b c (omega arith) (called_once said b c says.goes))

        -- It is made, and its line was said.
        pub created_outcome : {U F : Type 0} (value : U) → Says {T = U} {E = F} (created_line asked.id) (Ok value) b c → CreateOutcome asked Done a c
        created_outcome {U} {F} value says = record {
          cause = (may, says.sizes 17 ∙ sized);
          first = not_there Done;
          said = λ told. record {
            shape = s;
            asked_ = is_asked;
            made = holds_now told (sym (says.disks (told_mid told)));
            said = says.said (told_mid told) ∙ ap (λ (l : List ℕ). l ++ created_line asked.id) (disk.touches told).said;
          };
          silent = λ is told. absurd (cc);
          changes = made_changes Done s result a b c (created_line asked.id) (MakesReplica s 0 0 (zero_blocks s)) (HasMade s 0 0 (zero_blocks s)) refl disk moves
              (λ x y made. made.others) (λ x y made. made.others) (let said : Result U F = Ok value in said) says;
          steps = made_steps asked 0 0 zero_blocks (created_line asked.id) (line_some asked.id) a lawful kept none s is_asked b c (MakesReplica s 0 0 (zero_blocks s)) (zero_blocks s)
              (Spoke (created_line asked.id)) (CreateEnds asked Done) refl moves (λ x y made. made.disk) (said_steps {T = U} {E = F} value b c (created_line asked.id) says)
              (λ x y z made quiet spoke. record {
                shape = s;
                asked_ = is_asked;
                made = made;
                said = spoke.said ∙ ap (λ (l : List ℕ). l ++ created_line asked.id) quiet;
              })
              (λ y z spoke. spoke.disks);
          completes = λ kept none disk_fails port_fails. (refl, λ told. says.said (told_mid told) ∙ ap (λ (l : List ℕ). l ++ created_line asked.id) (disk.touches told).said);
          calls = calls_all {U = U} {F = F} (Ok value) says;
        }

        -- The port failed in its line.
        pub unsaid_outcome : {U F : Type 0} (e : F) → Says {T = U} {E = F} (created_line asked.id) (Err e) b c → CreateOutcome asked Port a c
        unsaid_outcome {U} {F} e says = record {
          cause = ((may, says.sizes 17 ∙ sized), rose_since a.port_faults b.port_faults c.port_faults moves.port_faults says.cause);
          first = not_there Port;
          said = λ told.
              let part = says.part (told_mid told) in
              record {
                shape = s;
                asked_ = is_asked;
                made = holds_now told (sym (says.disks (told_mid told)));
                part = record { part = part.part; rest = part.rest; whole = part.whole; said = part.said ∙ ap (λ (l : List ℕ). l ++ part.part) (disk.touches told).said };
              };
          silent = λ is told. absurd (cc);
          changes = made_changes Port s result a b c (created_line asked.id) (MakesReplica s 0 0 (zero_blocks s)) (HasMade s 0 0 (zero_blocks s)) refl disk moves
              (λ x y made. made.others) (λ x y made. made.others) (let said : Result U F = Err e in said) says;
          steps = made_steps asked 0 0 zero_blocks (created_line asked.id) (line_some asked.id) a lawful kept none s is_asked b c (MakesReplica s 0 0 (zero_blocks s)) (zero_blocks s)
              (SpokePart (created_line asked.id)) (CreateEnds asked Port) refl moves (λ x y made. made.disk) (say_steps {T = U} {E = F} (Err e) b c (created_line asked.id) says)
              (λ x y z made quiet spoke. record {
                shape = s;
                asked_ = is_asked;
                made = made;
                part = record {
                  part = spoke.says.part;
                  rest = spoke.says.rest;
                  whole = spoke.says.whole;
                  said = spoke.says.said ∙ ap (λ (l : List ℕ). l ++ spoke.says.part) quiet;
                };
              })
              (λ y z spoke. spoke.disks);
          completes = λ kept none disk_fails port_fails. absurd (port_fails (rose_since a.port_faults b.port_faults c.port_faults moves.port_faults says.cause));
          calls = calls_all {U = U} {F = F} (Err e) says;
        }

-- What `create` answers when it made no replica.
pub uncreated_outcome : {T : Type 0} (asked : AskedReplica) (s : Shape) (a b : View) (result : Result T ReplicaFault) (why : ReplicaFault) → IsLawful a
    → first_broken_in asked 0 ≡ None → HasAskedNumbers asked s → result ≡ Err why
    → ((result ≡ Err (Exists 17)) ↔ (a.sizes 17 ≢ None)) → (a.sizes 17 ≢ None → b ≡ a)
    → MakesDisk s result a b → (a.sizes 17 ≡ None → (why ≡ DiskFault) × Rose (a.faults 17) (b.faults 17))
    → (a.sizes 17 ≡ None → CalledAtMost 9 a b)
    → (a.sizes 17 ≡ None → Moves a b (MakesReplica s 0 0 (zero_blocks s)) (MakesReplica s 0 0 (zero_blocks s)))
    → CreateOutcome asked (NotMade why) a b
uncreated_outcome {T} asked s a b result why lawful kept is_asked is exists untouched disk cause calls moves = by_size (a.sizes 17) refl
  where
    why_same : (x y : ReplicaFault) → ◌≡◌ {A = Result T ReplicaFault} (Err x) (Err y) → x ≡ y
    why_same x y e = cc

    by_size : (size : Option ℕ) → a.sizes 17 ≡ size → CreateOutcome asked (NotMade why) a b
    by_size None none =
        let failed = cause none in
        subst (λ (why : ReplicaFault). CreateOutcome asked (NotMade why) a b) (sym failed.0)
        (failed_outcome asked a lawful kept s is_asked none b result disk (moves none) failed.1 (calls none))
    by_size (Some n) size =
        let there : a.sizes 17 ≢ None = λ none. let both : None ≡ Some n = sym none ∙ size in cc in
        subst (λ (why : ReplicaFault). CreateOutcome asked (NotMade why) a b) (why_same (Exists 17) why (sym (exists.1 there) ∙ is))
        (subst (λ (b : View). CreateOutcome asked (NotMade (Exists 17)) a b) (sym (untouched there)) (exists_outcome asked a lawful kept there))

-- Where disk 17 was there, nothing was called; else it failed.
pub uncreated_still : {B : Type 0} (size : Option ℕ) (why : ReplicaFault) (Rises : Type 0) (first last : B) → (size ≢ None → last ≡ first)
    → (size ≡ None → (why ≡ DiskFault) × Rises) → makes_nothing why ≡ true → last ≡ first
uncreated_still None why Rises first last untouched cause still = let both : false ≡ true = sym (ap makes_nothing (cause refl).0) ∙ still in absurd (cc both)
uncreated_still (Some n) why Rises first last untouched cause still = untouched (λ none. cc)

-- a replica that was made had no disk 17
pub none_before : {T : Type 0} (a : View) (result : Result T ReplicaFault) (value : T) → result ≡ Ok value
    → ((result ≡ Err (Exists 17)) ↔ (a.sizes 17 ≢ None)) → a.sizes 17 ≡ None
none_before {T} a result value is exists = by_size (a.sizes 17) refl
  where
    by_size : (size : Option ℕ) → a.sizes 17 ≡ size → a.sizes 17 ≡ None
    by_size None none = none
    by_size (Some n) size =
        let there : a.sizes 17 ≢ None = λ none. let both : None ≡ Some n = sym none ∙ size in cc in
        let both : Ok value ≡ Err (Exists 17) = sym is ∙ exists.1 there in
        absurd cc
