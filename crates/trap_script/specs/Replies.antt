-- The texts of replies.
use Rattle.std.specs.Prelude.{ℕ, List, [], ◌++◌, length, codes, decimal}
use Rattle.hex.specs.Hex.{encode_lower}
use Rattle.trap_model.specs.declared.request.Refusal.{Refusal}
use Rattle.trap_model.specs.declared.request.Refusal.TheVariants.{NoLine, NoBlock, TimeBack, Worn}
use Rattle.trap_model.specs.declared.request.Refusal.TheVariants.{Full, NotKept, Ahead}
use Rattle.trap_model.specs.declared.request.Reply.{Reply}
use Rattle.trap_model.specs.declared.request.Reply.TheVariants.{Kept, Is, At, Span, No, Silent}
use Rattle.trap_script.specs.declared.answers.Answer.{Answer}
use Rattle.trap_script.specs.declared.answers.Answer.TheVariants as answer

-- a refusal without its line feed
abbrev pub refusal_words : Refusal → List ℕ
refusal_words NoLine = codes "no line"
refusal_words NoBlock = codes "no block"
refusal_words (TimeBack last) = codes "no time " ++ decimal last
refusal_words Worn = codes "no worn"
refusal_words Full = codes "no full"
refusal_words (NotKept bound) = codes "no kept " ++ decimal bound
refusal_words (Ahead last) = codes "no ahead " ++ decimal last

-- the numbers of the history without their line feed
abbrev pub span_words : ℕ → ℕ → ℕ → ℕ → List ℕ
span_words first last base_time last_time =
    codes "is " ++ decimal first ++ codes " " ++ decimal last
    ++ codes " " ++ decimal base_time ++ codes " " ++ decimal last_time

-- a reply without its line feed
abbrev pub reply_words : Reply → List ℕ
reply_words (Kept seq) = codes "ok " ++ decimal seq
reply_words (Is bytes) = codes "is " ++ encode_lower bytes
reply_words (At bytes) = codes "at " ++ encode_lower bytes
reply_words (Span first last base_time last_time) = span_words first last base_time last_time
reply_words (No refusal) = refusal_words refusal
reply_words Silent = []

-- the text of a reply: a line, or nothing
abbrev pub reply_text : Reply → List ℕ
reply_text (Kept seq) = reply_words (Kept seq) ++ codes "\n"
reply_text (Is bytes) = reply_words (Is bytes) ++ codes "\n"
reply_text (At bytes) = reply_words (At bytes) ++ codes "\n"
reply_text (Span first last base_time last_time) =
    reply_words (Span first last base_time last_time) ++ codes "\n"
reply_text (No refusal) = reply_words (No refusal) ++ codes "\n"
reply_text Silent = []

-- the reply that an answer stands for
abbrev pub reply_from : Answer → Reply
reply_from (answer.Kept seq) = Kept seq
reply_from (answer.Is bytes) = Is bytes.now
reply_from (answer.At bytes) = At bytes.now
reply_from (answer.Span span) = Span span.first span.last span.base_time span.last_time
reply_from (answer.No refusal) = No refusal

-- how many bytes of contents an answer shows
abbrev pub shown_len : Answer → ℕ
shown_len (answer.Kept seq) = 0
shown_len (answer.Is bytes) = length bytes.now
shown_len (answer.At bytes) = length bytes.now
shown_len (answer.Span span) = 0
shown_len (answer.No refusal) = 0
