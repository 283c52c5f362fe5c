use Rattle.std.proofs.Common.{◌≡◌, sym, ◌∙◌, subst}
use Rattle.std.proofs.lemmas.Bool.{false≢true}
use Rattle.trap_format.specs.HeadValue.{IsHead}
use Rattle.trap_format.proofs.Heads.{head_read, head_fits, head_same}
use Rattle.trap_format.proofs.head_value.read_head.Goals as goal

pub returns-then-is_head-clause-some : goal.returns-then-is_head-clause-some
returns-then-is_head-clause-some c = record {
  head = c.is_head.ensures.0 c.if-is_head.true;
  spelled = head_read c.args.bytes.now c.head_in-head.result c.told-bytes c.head_in-head.ensures.stands;
}

pub returns-else-is_head-clause-none : goal.returns-else-is_head-clause-none
returns-else-is_head-clause-none c = λ h is.
    let read = c.head_in-head.result in
    let spelled = head_read c.args.bytes.now read c.told-bytes c.head_in-head.ensures.stands in
    let same : read ≡ h = head_same read h c.head_in-head.ensures.fits (head_fits c.args.g.now h is.head) (sym spelled ∙ is.spelled) in
    false≢true (sym c.if-is_head.false ∙ c.is_head.ensures.1 (subst (IsHead c.args.g.now) (sym same) is.head))
