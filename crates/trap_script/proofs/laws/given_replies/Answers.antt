use Rattle.trap_script.specs.Lines.{lines}
use Rattle.trap_script.proofs.GivenLemmas.{given_replies, given_in_reply}
use Rattle.trap_script.proofs.InputLemmas.{lines_go_on}
use Rattle.trap_script.proofs.laws.given_replies.Goals as goal

pub returns-clause-whole : goal.returns-clause-whole
returns-clause-whole g c = λ m s size input j speaks within.
    given_replies m (record { speaks = speaks }) s (lines size input) j (lines_go_on size input) within

pub returns-clause-part : goal.returns-clause-part
returns-clause-part g c = λ m s requests j next rest front at short.
    given_in_reply m s requests j next rest front at short
