use Rattle.std.proofs.Common.{take}
use Rattle.trap_cache.specs.Cached.{without}
use Rattle.trap_cache.proofs.LawProofs.{got_what_was_kept, others_after_keep, stays_with_room}
use Rattle.trap_cache.proofs.laws.keeps.Goals as goal

pub returns-clause-kept : goal.returns-clause-kept
returns-clause-kept c = λ k block seq bytes. got_what_was_kept block seq bytes (take 15 (without block seq k.kept))

pub returns-clause-others : goal.returns-clause-others
returns-clause-others c = λ k block seq b s bytes was other found. others_after_keep k block seq b s bytes was other found

pub returns-clause-room : goal.returns-clause-room
returns-clause-room c = λ k block seq b s bytes other room. stays_with_room k block seq b s bytes other room
