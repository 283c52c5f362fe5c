use Rattle.std.proofs.Common.{◌+◌, subst, arith}
use Rattle.trap_index.specs.Indexed.{Indexed, IsLastBy}
use Rattle.trap_index.proofs.Numbered.{length-recs_of}
use Rattle.trap_index.proofs.Timed.{items_in_order, last_by}
use Rattle.trap_index.proofs.index.Index.last_by_time.Goals as goal

pub count_by-requires-clause-few : goal.count_by-requires-clause-few
count_by-requires-clause-few c =
    let long = length-recs_of c.self.inside.first c.self.inside.items.items in
    let few = c.self.invariant.indexed.few in
    let most = c.self.inside.g.within.entries_most in
    omega arith

pub count_by-requires-clause-order : goal.count_by-requires-clause-order
count_by-requires-clause-order c =
    items_in_order _ c.self.inside.items.items c.self.inside.items.capacity c.self.inside.newest.items c.self.inside.end_off c.self.inside.last_time c.self.invariant
    (length-recs_of c.self.inside.first c.self.inside.items.items)

pub overflow_add-result : goal.overflow_add-result
overflow_add-result c =
    let long = length-recs_of c.self.inside.first c.self.inside.items.items in
    let within = c.count_by.ensures.within in
    let most = c.self.invariant.indexed.last_most in
    omega arith

pub returns : goal.returns
returns c =
    subst (λ (i : Indexed). IsLastBy i c.args.t (c.self.inside.first + c.count_by.result)) c.self.view_is
    (last_by _ c.self.inside.items.items c.self.inside.items.capacity c.self.inside.newest.items c.self.inside.end_off c.self.inside.last_time c.self.invariant
    (length-recs_of c.self.inside.first c.self.inside.items.items) c.args.t c.count_by.result c.count_by.ensures)
