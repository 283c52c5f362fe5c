use Rattle.std.proofs.Common.{◌≡◌, ℕ, ◌-◌, min, max, List, length, take, drop, refl, subst}
use Rattle.trap_bank.proofs.Feeding.{given_of_left, none_left}
use Rattle.trap_bank.proofs.memory_input.MemorySourceSource.take.Goals as goal

pub returns-clause-taken : goal.returns-clause-taken
returns-clause-taken c =
    let s = c.args.self.now in
    let n : ℕ = c.give-len.result in
    let front : take n c.give-len.new.buf ≡ take n (drop s.given s.bytes.items) =
    subst (λ (xs : List ℕ). take n c.give-len.new.buf ≡ take n (drop s.given xs)) c.deref.ensures.value c.give-len.ensures.front in
    let len : n ≡ min (max s.piece 1) (min (length c.args.buf.now) (length s.bytes.items - s.given)) =
    subst (λ (xs : List ℕ). n ≡ min (max s.piece 1) (min (length c.args.buf.now) (length xs - s.given))) c.deref.ensures.value c.give-len.ensures.len in
    record {
      left = given_of_left s.bytes.items c.give-len.new.buf s.given n front;
      given = refl;
      ended = refl;
      untold = λ none. cc;
      at_end = λ none. none_left s.bytes.items s.given s.piece (length c.args.buf.now) n len c.requires.room none;
    }
