use Rattle.std.proofs.Common.{refl, sym, ◌∙◌}
use Rattle.std.specs.Prelude.{codes}
use Rattle.std.proofs.lemmas.Bool.Decides.{Decides-eqb}
use Rattle.std.proofs.lemmas.Slice.Eq.{slice_eq-Decides}
use Rattle.trap_cli.proofs.Words.{one_word}
use Rattle.trap_cli.proofs.command.read_alone.Goals as goal

pub returns-then-eq : goal.returns-then-eq
returns-then-eq c =
    let is = slice_eq-Decides Decides-eqb c.as_str-name.result.now (codes "session") c.eq.result c.eq.ensures in
    record {
      first = c.index-words-0.result;
      others = _;
      parts = one_word c.args.words.now c.index-words-0.result c.requires c.index-words-0.is;
      named = sym c.as_str-name.ensures.value ∙ is.0 c.if-eq.true;
      counted = refl;
    }

pub returns-then-eq-2 : goal.returns-then-eq-2
returns-then-eq-2 c =
    let is = slice_eq-Decides Decides-eqb c.as_str-name.result.now (codes "history") c.eq-2.result c.eq-2.ensures in
    record {
      first = c.index-words-0.result;
      others = _;
      parts = one_word c.args.words.now c.index-words-0.result c.requires c.index-words-0.is;
      named = sym c.as_str-name.ensures.value ∙ is.0 c.if-eq-2.true;
      counted = refl;
    }

pub returns-then-eq-3 : goal.returns-then-eq-3
returns-then-eq-3 c =
    let is = slice_eq-Decides Decides-eqb c.as_str-name.result.now (codes "apply") c.eq-3.result c.eq-3.ensures in
    record {
      first = c.index-words-0.result;
      others = _;
      parts = one_word c.args.words.now c.index-words-0.result c.requires c.index-words-0.is;
      named = sym c.as_str-name.ensures.value ∙ is.0 c.if-eq-3.true;
      counted = refl;
    }

pub returns-then-eq-4 : goal.returns-then-eq-4
returns-then-eq-4 c =
    let is = slice_eq-Decides Decides-eqb c.as_str-name.result.now (codes "replica-export") c.eq-4.result c.eq-4.ensures in
    record {
      first = c.index-words-0.result;
      others = _;
      parts = one_word c.args.words.now c.index-words-0.result c.requires c.index-words-0.is;
      named = sym c.as_str-name.ensures.value ∙ is.0 c.if-eq-4.true;
      counted = refl;
    }
