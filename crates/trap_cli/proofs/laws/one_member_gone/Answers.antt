use Rattle.std.proofs.Common.{inl}
use Rattle.trap_model.specs.ArrayStep.{step}
use Rattle.trap_script.specs.Lines.{lines}
use Rattle.trap_script.specs.Walk.{state_after}
use Rattle.trap_cli.proofs.Completing.{session_completes}
use Rattle.trap_cli.proofs.Gone.{new_but, may_go, gone_after, history_but, send_but}
use Rattle.trap_cli.proofs.laws.one_member_gone.Goals as goal

pub returns-clause-created : goal.returns-clause-created
returns-clause-created g c = new_but

pub returns-clause-session : goal.returns-clause-session
returns-clause-session g c entry array s m input p from left gone begins always leaves one =
    gone_after array s m input p (g.B.Bank.view entry) from (g.met.B.Bank.lawful entry) begins always left gone one leaves

pub returns-clause-history : goal.returns-clause-history
returns-clause-history g c entry array s m p left gone told always leaves one =
    may_go array s m left gone one (history_but array s m (g.B.Bank.view entry) (g.met.B.Bank.lawful entry) told always left one.others p leaves)

pub returns-clause-send : goal.returns-clause-send
returns-clause-send g c entry array s m seq p left gone told always leaves one =
    may_go array s m left gone one (send_but array s m (g.B.Bank.view entry) (g.met.B.Bank.lawful entry) told always left one.others seq p leaves)

pub returns-clause-answers : goal.returns-clause-answers
returns-clause-answers g c entry next after array s m input p more from asked to left status begins always leaves one told known short runs nothing =
    let view = g.B.Bank.view in
    let held = gone_after array s m input p (view entry) from (g.met.B.Bank.lawful entry) begins always left (view next).now.disks one leaves in (
      held.0,
      held.1,
      session_completes status (view next) (view after) asked to (g.met.B.Bank.lawful next) runs.ended runs.ends
          array (state_after (step array) s (lines array.block input) held.0) more
          (record { left = known; tells = told; holds = record { head = held.2.head; by = held.2.by } }) short
          (record { log = nothing.log; members = λ k inside rose. inl (nothing.members k inside rose); port = nothing.port; source = nothing.source }),
    )
