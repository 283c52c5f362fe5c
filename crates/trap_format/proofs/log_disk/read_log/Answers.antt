use Rattle.std.proofs.Common.{◌≡◌, None, Option, Result, refl, sym, ◌∙◌, subst, arith}
use Rattle.std.specs.Prelude.{IfOk, IfSome, IfNone, IsOk}
use Rattle.trap_model.specs.declared.numbers.Geometry.{Geometry}
use Rattle.trap_format.specs.declared.limits.BadGeometry.{BadGeometry}
use Rattle.trap_format.specs.Checked.{first_broken, HasNumbers}
use Rattle.trap_format.specs.LogDisk.{IsLogHeader}
use Rattle.trap_format.proofs.Checks.{if_some, if_none, err_not_ok}
use Rattle.trap_format.proofs.Numbers.{within_limits}
use Rattle.trap_format.proofs.LogHeaders.{log_read, header_keeps}
use Rattle.trap_format.proofs.log_disk.read_log.Goals as goal

pub returns-clause-some : goal.returns-clause-some
returns-clause-some c =
    let bytes = c.args.bytes.now in
    let asked = c.numbers_in.result in
    let ok : IfOk c.check.result (λ g. HasNumbers g asked) = c.check.ensures.ok in
    let kept : IsOk c.check.result → first_broken asked ≡ None = c.check.ensures.kept.0 in
    subst (λ (o : Option Geometry). IfSome o (λ g. IsLogHeader g bytes)) (sym c.ok.ensures.value)
    (if_some c.check.result (λ g. IsLogHeader g bytes) (λ g e.
    let same : HasNumbers g asked = subst (λ (r : Result Geometry BadGeometry). IfOk r (λ h. HasNumbers h asked)) e ok in
    let none : first_broken asked ≡ None = kept (subst (λ (r : Result Geometry BadGeometry). IsOk r) (sym e) refl) in
    record {
      one_slot = same.slots ∙ (within_limits asked none).1;
      spelled = log_read bytes g asked (omega arith) (c.is_log.ensures.0 c.if-not-is_log.false) (c.ends_in_zeros.ensures.0 c.if-not-ends_in_zeros.false) c.numbers_in.ensures same;
    }))

pub returns-clause-none : goal.returns-clause-none
returns-clause-none c =
    let bytes = c.args.bytes.now in
    let asked = c.numbers_in.result in
    let kept : first_broken asked ≡ None → IsOk c.check.result = c.check.ensures.kept.1 in
    subst (λ (o : Option Geometry). IfNone o ((g : Geometry) → ¬ (IsLogHeader g bytes))) (sym c.ok.ensures.value)
    (if_none c.check.result ((g : Geometry) → ¬ (IsLogHeader g bytes)) (λ bad e g is.
    err_not_ok bad (subst (λ (r : Result Geometry BadGeometry). IsOk r) e (kept (header_keeps bytes g asked c.numbers_in.ensures is)))))
