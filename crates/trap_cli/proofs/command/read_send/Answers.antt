use Rattle.std.proofs.Common.{Option, ℕ, [], ◌∷◌, refl, sym, ap, ◌∙◌}
use Rattle.std.specs.Prelude.{codes}
use Rattle.std.proofs.lemmas.Bool.Decides.{Decides-eqb}
use Rattle.std.proofs.lemmas.Slice.Eq.{slice_eq-Decides}
use Rattle.trap_cli.proofs.Words.{two_words, word_read, not_other}
use Rattle.trap_cli.proofs.command.read_send.Goals as goal

pub returns-in-Some : goal.returns-in-Some
returns-in-Some c =
    let is = slice_eq-Decides Decides-eqb c.as_str.result.now (codes "send") _ refl in
    record {
      first = c.index-words-0.result;
      others = c.index-words-1.result ∷ [];
      parts = two_words c.args.words.now c.index-words-0.result c.index-words-1.result c.requires c.index-words-0.is c.index-words-1.is;
      named = sym c.as_str.ensures.value ∙ is.0 (not_other _ (sym c.ne.ensures ∙ c.if-ne.false));
      counted = ap (λ (n : Option ℕ). n ∷ [])
          (word_read c.index-words-1.result c.as_bytes.result.now c.read_number.result c.in-Some.seq c.as_bytes.ensures.value c.read_number.ensures c.in-Some.is);
    }
