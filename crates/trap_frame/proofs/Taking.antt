-- What was taken of a source, within what a reader takes.
use Rattle.std.proofs.Common.{◌≡◌, ⊎_elim, ℕ, ◌+◌, ◌≤◌, ◌<◌, ◌^◌, List, ◌++◌, length, arith}
use Rattle.std.proofs.lemmas.Bool.{cases_eq}
use Rattle.std.specs.Prelude.{Result, Ok, Err}
use Rattle.trap_bank.specs.Filling.{CountsBytes, FillsFrom}
use Rattle.trap_bank.specs.Stream.{Stream}
use Rattle.trap_bank.proofs.Filled.{counts_then}
use Rattle.trap_frame.specs.declared.filling.Stop.{Stop}
use Rattle.trap_frame.specs.declared.filling.Stop.TheVariants.{Source, TooLong}
use Rattle.trap_frame.specs.Filling.{TakesBytes, FillsBuffer}

-- what two calls took, one after the other
pub took_then : (a b : List ℕ) (u v w : ℕ) (s t r : Stream) → TakesBytes a u v s t → TakesBytes b v w t r → TakesBytes (a ++ b) u w s r
took_then a b u v w s t r p q = record { counts = counts_then a b u v w s t r p.counts q.counts; most = q.most }

module _ {E : Type 0} (bytes buf : List ℕ) (room most u v : ℕ) (s t : Stream) (long : length buf ≡ most) (within : most ≤ room) (last : u + most ≤ 2 ^ 40) where
  -- the source failed
  pub stops_failed : (e : E) → FillsFrom bytes (Err e) buf u v s t → FillsBuffer bytes room (Err Source) u v s t
  stops_failed e fills = record {
    took = record { counts = fills.took; most = omega (arith, fills.took.counted, fills.within, long, last) };
    within = omega (arith, fills.within, long, within);
    ended = (omega (arith, fills.ended.0, long, within), fills.ended.1);
  }

  -- as many bytes were taken as a reader takes
  pub stops_long : (have : ℕ) → FillsFrom {E = E} bytes (Ok have) buf u v s t → have ≡ most → most < room → u + most ≡ 2 ^ 40 → FillsBuffer bytes room (Err TooLong) u v s t
  stops_long have fills all less full = record {
    took = record { counts = fills.took; most = omega (arith, fills.took.counted, fills.within, long, last) };
    within = omega (arith, fills.within, long, within);
    ended = (omega (arith, fills.ended.0, all, less), omega (arith, fills.took.counted, fills.ended.0, all, full));
  }

  -- all that was asked for came, or the input ended
  pub fills_part : (have : ℕ) → FillsFrom {E = E} bytes (Ok have) buf u v s t → (have ≡ most → room ≤ most) → FillsBuffer bytes room (Ok have) u v s t
  fills_part have fills full = record {
    took = record { counts = fills.took; most = omega (arith, fills.took.counted, fills.within, long, last) };
    within = omega (arith, fills.within, long, within);
    ended = (fills.ended.0, λ few. record { ends = fills.ended.1 (less few); more = omega (arith, fills.took.counted, fills.ended.0, less few, long, last) });
  }
    where
      less : have < room → have < length buf
      less few = ⊎_elim
          (λ (all : have ≡ most). absurd (omega (arith, full all, all, few)))
          (λ other. omega (arith, other, fills.within, fills.ended.0, long))
          (cases_eq have most)
