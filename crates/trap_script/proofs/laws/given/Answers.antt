use Rattle.trap_script.proofs.GivenLemmas.{given_said, given_within, given_greatest}
use Rattle.trap_script.proofs.laws.given.Goals as goal

pub returns-clause-said : goal.returns-clause-said
returns-clause-said c = given_said

pub returns-clause-within : goal.returns-clause-within
returns-clause-within c = given_within

pub returns-clause-greatest : goal.returns-clause-greatest
returns-clause-greatest c texts bytes j within said = given_greatest texts j bytes within said
