use Rattle.std.proofs.Common.{refl, sym, ◌∙◌}
use Rattle.std.specs.Prelude.{codes}
use Rattle.std.proofs.lemmas.Bool.Decides.{Decides-eqb}
use Rattle.std.proofs.lemmas.Slice.Eq.{slice_eq-Decides}
use Rattle.trap_cli.proofs.Words.{first_word, not_other}
use Rattle.trap_cli.proofs.command.read_create.Goals as goal

pub returns-in-Some : goal.returns-in-Some
returns-in-Some c =
    let is = slice_eq-Decides Decides-eqb c.as_str.result.now (codes "create") _ refl in
    record {
      first = c.index-words-0.result;
      others = _;
      parts = first_word c.args.words.now c.index-words-0.result 9 c.requires c.index-words-0.is;
      named = sym c.as_str.ensures.value ∙ is.0 (not_other _ (sym c.ne.ensures ∙ c.if-ne.false));
      counted = c.in-Some.ensures.some;
    }
