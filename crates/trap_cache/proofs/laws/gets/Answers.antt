use Rattle.trap_cache.proofs.LawProofs.{found_after_get}
use Rattle.trap_cache.proofs.laws.gets.Goals as goal

pub returns : goal.returns
returns c = λ k block seq b s. found_after_get k block seq b s
