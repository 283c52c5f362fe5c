-- A machine that answers requests: the reply to each in a state, and the state after it.
use Rattle.trap_model.specs.declared.request.Request.{Request}
use Rattle.trap_model.specs.declared.request.Reply.{Reply}

pub record Machine (S : Type 0) : Type 0 where
  pub reply : S → Request → Reply
  pub next : S → Request → S
