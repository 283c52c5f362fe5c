use Rattle.std.proofs.Common.{◌≡◌, ◌∷◌}
use Rattle.std.specs.List.{slice_split}
use Rattle.trap_script.specs.Lines.{is_space}
use Rattle.trap_script.proofs.LineLemmas.{read_with_more}
use Rattle.trap_script.proofs.lines.read_form.Goals as goal

pub returns-in-Some-more : goal.returns-in-Some-more
returns-in-Some-more c =
    let cut : slice_split is_space c.in-Some.rest.now ≡ c.cut_field.result.0.now ∷ slice_split is_space c.in-Some-more.field-0.now
    = rw c.in-Some-more.is at c.cut_field.ensures in
    record { asked = λ fresh. rw c.in-Some.is (read_with_more c.in-Some.rest.now c.cut_field.result.0.now c.in-Some-more.field-0.now cut) }
