use Rattle.std.proofs.Common.{◌≡◌, ◌∷◌, ◌∙◌, ap, sym, length}
use Rattle.std.specs.List.{slice_split}
use Rattle.hex.specs.Hex.{decode_sized}
use Rattle.trap_script.specs.Lines.{is_space, write_request}
use Rattle.trap_script.specs.Numbers.{number_of}
use Rattle.trap_script.proofs.LineLemmas.{write_parts, write_asked, no_contents, decoded, undecoded}
use Rattle.trap_script.proofs.lines.write_form.Goals as goal

pub returns-in-Ok-clause-asked : goal.returns-in-Ok-clause-asked
returns-in-Ok-clause-asked c =
    let rest = c.in-Some.rest.now in
    let time = c.cut_field.result.0.now in
    let later = c.in-Some-later.later.now in
    let block = c.cut_field-2.result.0.now in
    let digits = c.in-Some-digits.digits.now in
    let cut : slice_split is_space rest ≡ time ∷ slice_split is_space later = rw c.in-Some-later.is at c.cut_field.ensures in
    let cut2 : slice_split is_space later ≡ block ∷ slice_split is_space digits = rw c.in-Some-digits.is at c.cut_field-2.ensures in
    let read = decode_sized digits (length c.args.fresh.now) in
    let is = decoded read c.decode_to_slice.result c.decode_to_slice.new.block c.decode_to_slice.ensures c.in-Ok.is in
    rw c.in-Some.is (write_parts (length c.args.fresh.now) rest time later block digits cut cut2
    ∙ write_asked (number_of time) (number_of block) read c.in-Some-read_number.time c.in-Some-read_number-2.block c.decode_to_slice.new.block
    (sym c.read_number.ensures ∙ c.in-Some-read_number.is) (sym c.read_number-2.ensures ∙ c.in-Some-read_number-2.is) is)

pub returns-in-Err-clause-asked : goal.returns-in-Err-clause-asked
returns-in-Err-clause-asked c =
    let rest = c.in-Some.rest.now in
    let time = c.cut_field.result.0.now in
    let later = c.in-Some-later.later.now in
    let block = c.cut_field-2.result.0.now in
    let digits = c.in-Some-digits.digits.now in
    let cut : slice_split is_space rest ≡ time ∷ slice_split is_space later = rw c.in-Some-later.is at c.cut_field.ensures in
    let cut2 : slice_split is_space later ≡ block ∷ slice_split is_space digits = rw c.in-Some-digits.is at c.cut_field-2.ensures in
    let read = decode_sized digits (length c.args.fresh.now) in
    let is = undecoded read c.decode_to_slice.result c.decode_to_slice.new.block c.in-Err.field-0 c.decode_to_slice.ensures c.in-Err.is in
    rw c.in-Some.is (write_parts (length c.args.fresh.now) rest time later block digits cut cut2
    ∙ ap (write_request (number_of time) (number_of block)) is ∙ no_contents (number_of time) (number_of block) c.in-Err.field-0)
