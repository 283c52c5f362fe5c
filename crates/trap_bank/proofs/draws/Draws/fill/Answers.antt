use Rattle.std.proofs.Common.{◌≡◌, ℕ, ◌<◌, List, ◌++◌, ◌∷◌, [], length, sym, ◌∙◌, ap, lt_of_lt_of_le, le_of_eq}
use Rattle.std.proofs.lemmas.List.{take_more_set}
use Rattle.trap_bank.specs.Draws.{next_number, drawn_byte, drawn, after_draws}
use Rattle.trap_bank.proofs.Drawing.{next_draw, next_byte}
use Rattle.trap_bank.proofs.draws.Draws.fill.Goals as goal

pub loop-i-preserved : goal.loop-i-preserved
loop-i-preserved c =
    let x : ℕ = c.args.self.now.number in
    let i : ℕ = c.loop-i.i in
    let below : i < length c.loop-i.bytes = lt_of_lt_of_le c.loop-i-test.true (le_of_eq (sym c.loop-i.auto.bytes)) in
    let byte : c.next.result ≡ drawn_byte (next_number (after_draws i x)) = c.next.ensures.byte ∙ ap (λ (n : ℕ). drawn_byte (next_number n)) c.loop-i.invariant.number in
    record {
      bytes = take_more_set c.loop-i.bytes i c.next.result below
          ∙ ap (λ (bytes : List ℕ). bytes ++ c.next.result ∷ []) c.loop-i.invariant.bytes
          ∙ ap (λ (b : ℕ). drawn i x ++ b ∷ []) byte
          ∙ sym (next_byte i x);
      number = c.next.ensures.number ∙ ap next_number c.loop-i.invariant.number ∙ sym (next_draw i x);
    }
