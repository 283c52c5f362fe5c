use Rattle.std.proofs.Common.{inl, inr}
use Rattle.std.proofs.lemmas.Bool.{cases_eq}
use Rattle.trap_map.specs.Layout.{parity_member}
use Rattle.trap_map.proofs.PlaceLemmas.{member_within, row_of-within, owner_of-block_place, place_from_owner, owner_at_parity, owner_elsewhere}
use Rattle.trap_map.proofs.laws.places.Goals as goal

pub returns-clause-within : goal.returns-clause-within
returns-clause-within c = λ g block below. (member_within g block, row_of-within g block below)

pub returns-clause-block : goal.returns-clause-block
returns-clause-block c = λ g block. owner_of-block_place g block

pub returns-clause-place : goal.returns-clause-place
returns-clause-place c = λ g member row block inside below owned. place_from_owner g member row block inside below owned

pub returns-clause-parity : goal.returns-clause-parity
returns-clause-parity c = λ g member row. (
  (λ parity. elim (cases_eq member (parity_member g row)) [
    | inl e ↦ e
    | inr h ↦ let here = owner_elsewhere g member row h in absurd (cc)
  ]),
  (λ e. owner_at_parity g member row e),
)
