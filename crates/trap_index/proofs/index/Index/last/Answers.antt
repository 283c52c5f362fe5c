use Rattle.std.proofs.Common.{ap, arith}
use Rattle.trap_index.specs.Indexed.{Indexed, last_seq}
use Rattle.trap_index.proofs.Numbered.{length-recs_of}
use Rattle.trap_index.proofs.index.Index.last.Goals as goal

pub returns-clause-last : goal.returns-clause-last
returns-clause-last c =
    let long = length-recs_of c.self.inside.first c.self.inside.items.items in
    let seen = ap (λ (i : Indexed). last_seq i) c.self.view_is in
    omega arith

pub returns-clause-most : goal.returns-clause-most
returns-clause-most c =
    let long = length-recs_of c.self.inside.first c.self.inside.items.items in
    let most = c.self.invariant.indexed.last_most in
    omega arith
