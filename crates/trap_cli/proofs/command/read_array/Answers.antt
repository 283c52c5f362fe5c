use Rattle.std.proofs.Common.{map, ap, ◌∙◌}
use Rattle.std.specs.Prelude.{string_bytes, String}
use Rattle.std.specs.declared.alloc.Global.{Global}
use Rattle.trap_script.specs.Numbers.{number_of}
use Rattle.trap_cli.proofs.Words.{nine_words, word_read, nine_read}
use Rattle.trap_cli.proofs.command.read_array.Goals as goal

pub returns-clause-some : goal.returns-clause-some
returns-clause-some c =
    ap (map (λ (word : String Global). number_of (string_bytes word))) (nine_words c.args.words.now _ _ _ _ _ _ _ _ _ c.requires
    c.index-words-0.is c.index-words-1.is c.index-words-2.is c.index-words-3.is c.index-words-4.is c.index-words-5.is
    c.index-words-6.is c.index-words-7.is c.index-words-8.is)
    ∙ nine_read _ _ _ _ _ _ _ _ _ _ _ _ _ _ _ _ _ _
    (word_read c.index-words-0.result c.as_bytes.result.now c.read_number.result c.in_ok-read_number.field-0 c.as_bytes.ensures.value c.read_number.ensures c.in_ok-read_number.was)
    (word_read c.index-words-1.result c.as_bytes-2.result.now c.read_number-2.result c.in_ok-read_number-2.field-0 c.as_bytes-2.ensures.value c.read_number-2.ensures c.in_ok-read_number-2.was)
    (word_read c.index-words-2.result c.as_bytes-3.result.now c.read_number-3.result c.in_ok-read_number-3.field-0 c.as_bytes-3.ensures.value c.read_number-3.ensures c.in_ok-read_number-3.was)
    (word_read c.index-words-3.result c.as_bytes-4.result.now c.read_number-4.result c.in_ok-read_number-4.field-0 c.as_bytes-4.ensures.value c.read_number-4.ensures c.in_ok-read_number-4.was)
    (word_read c.index-words-4.result c.as_bytes-5.result.now c.read_number-5.result c.in_ok-read_number-5.field-0 c.as_bytes-5.ensures.value c.read_number-5.ensures c.in_ok-read_number-5.was)
    (word_read c.index-words-5.result c.as_bytes-6.result.now c.read_number-6.result c.in_ok-read_number-6.field-0 c.as_bytes-6.ensures.value c.read_number-6.ensures c.in_ok-read_number-6.was)
    (word_read c.index-words-6.result c.as_bytes-7.result.now c.read_number-7.result c.in_ok-read_number-7.field-0 c.as_bytes-7.ensures.value c.read_number-7.ensures c.in_ok-read_number-7.was)
    (word_read c.index-words-7.result c.as_bytes-8.result.now c.read_number-8.result c.in_ok-read_number-8.field-0 c.as_bytes-8.ensures.value c.read_number-8.ensures c.in_ok-read_number-8.was)
    (word_read c.index-words-8.result c.as_bytes-9.result.now c.read_number-9.result c.in_ok-read_number-9.field-0 c.as_bytes-9.ensures.value c.read_number-9.ensures c.in_ok-read_number-9.was)
