use Rattle.std.proofs.Common.{◌≡◌, ◌+◌, ◌↔◌, ℕ, List, length, false, Ok, sym, ap, subst, ◌∙◌, arith}
use Rattle.std.specs.Prelude.{min}
use Rattle.trap_lines.specs.Reader.{IsLine}
use Rattle.trap_model.specs.declared.numbers.Geometry.{Geometry}
use Rattle.trap_model.specs.declared.request.Request.{Request}
use Rattle.trap_script.specs.Lines.{longest_line, request_of, goes_on}
use Rattle.trap_session.specs.Answers.{AnswersLine}
use Rattle.trap_session.specs.declared.outcome.Next.TheVariants.{Quit}
use Rattle.trap_session.proofs.FormLemmas.{kept_asks}
use Rattle.trap_session.proofs.buffers.Buffers.answer_found.Goals as goal

pub returns : goal.returns
returns g c =
    let view = g.B.Bank.view in
    let array = c.args.array.now in
    let size = array.g.block in
    let reader = c.args.reader.now in
    let same : size ≡ c.args.self.now.g.block = ap (λ (g : Geometry). g.block) c.requires.geometry in
    let fresh : c.len.result ≡ size = omega (arith, c.len.ensures, c.args.self.now.block, same) in
    let wide : length reader.line.items ≡ longest_line size + 1 = omega (arith, c.requires.room, same) in
    let kept : c.min-kept.result ≡ min c.args.len (longest_line size + 1) =
    c.min-kept.ensures ∙ ap (λ (n : ℕ). min c.args.len n) (c.line_room.ensures ∙ ap (λ (n : ℕ). longest_line n + 1) fresh) in
    let asks = λ (line : List ℕ) (is : IsLine line c.args.len reader). ap (request_of size) c.line.ensures
    ∙ kept_asks size c.min-kept.result line reader.line.items wide (kept ∙ ap (λ (n : ℕ). min n (longest_line size + 1)) (sym is.long)) is.held in
    record {
      answers = λ line is. subst (λ (asked : Request). AnswersLine array c.one.new.array c.one.result asked (view c.args.bank.now) (view c.one.new.bank)) (asks line is) c.one.ensures.answers;
      quit = λ line is. subst (λ (asked : Request). (c.one.result ≡ Ok Quit) ↔ (goes_on asked ≡ false)) (asks line is) c.one.ensures.quit;
      same = c.one.ensures.same;
    }
