use Rattle.std.proofs.Common.{inr, refl, sym, ◌∙◌, arith}
use Rattle.std.proofs.lemmas.Bool.{false≢true}
use Rattle.trap_mount.proofs.mounting.members.rows_of.Goals as goal

pub returns-else-own-clause-rows : goal.returns-else-own-clause-rows
returns-else-own-clause-rows g c = record {
  mark = inr (refl, λ told. inr (λ is. false≢true (sym c.if-own.false ∙ (c.in-Ok.ensures.own told).1 is)));
  own = λ some. absurd (omega (arith, some));
}
