use Rattle.std.proofs.Common.{◌≡◌, ◌∷◌, sym}
use Rattle.std.specs.List.{slice_split}
use Rattle.trap_script.specs.Lines.{is_space}
use Rattle.trap_script.proofs.LineLemmas.{numbers_with_more}
use Rattle.trap_script.proofs.lines.two_numbers.Goals as goal

pub returns-in-Some : goal.returns-in-Some
returns-in-Some c =
    let rest = c.in_ok-rest.field-0.now in
    let later = c.in_ok-later.field-0.now in
    let more = c.in-Some.field-0.now in
    let first : slice_split is_space rest ≡ c.cut_field.result.0.now ∷ slice_split is_space later
    = rw c.in_ok-later.was at c.cut_field.ensures in
    let second : slice_split is_space later ≡ c.cut_field-2.result.0.now ∷ slice_split is_space more
    = rw c.in-Some.is at c.cut_field-2.ensures in
    rw c.in_ok-rest.was (sym (numbers_with_more rest c.cut_field.result.0.now later c.cut_field-2.result.0.now more first second))
