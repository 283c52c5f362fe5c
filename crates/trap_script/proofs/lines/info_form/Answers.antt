use Rattle.trap_script.proofs.LineLemmas.{info_with_more}
use Rattle.trap_script.proofs.lines.info_form.Goals as goal

pub returns-in-Some : goal.returns-in-Some
returns-in-Some c = record { asked = λ fresh. rw c.in-Some.is (info_with_more c.in-Some.field-0.now) }
