use Rattle.std.proofs.Common.{ap, sym, ◌∙◌, arith}
use Rattle.trap_index.specs.declared.item.Item.{Item}
use Rattle.trap_index.specs.Indexed.{Indexed}
use Rattle.trap_index.proofs.Dropped.{time_told_at}
use Rattle.trap_index.proofs.index.Index.time_at.Goals as goal

pub returns : goal.returns
returns c =
    let firsts = ap (λ (i : Indexed). i.first) c.self.view_is in
    ap (λ (x : Item). x.time) c.retained.ensures
    ∙ sym (time_told_at c.args.self.now c.args.seq (omega (arith, firsts, c.requires.low, c.if-seq-self.false)) c.requires.high)
