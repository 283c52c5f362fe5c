use Rattle.std.proofs.Common.{◌≡◌, ℕ, ◌+◌, ◌≤◌, List, ◌++◌, length, take, drop, subst, subst₂, ap, sym, ◌∙◌}
use Rattle.trap_bank.specs.declared.disk.Range.{Range}
use Rattle.trap_bank.specs.Kept.{Kept, IsStableBut, overlaid}
use Rattle.trap_bank.proofs.Ranges.{written_is_kept, length-overlaid, cut_to_length}
use Rattle.trap_bank.proofs.disk.Disk.write.Goals as goal

pub invariant_of-self-2 : goal.invariant_of-self-2
invariant_of-self-2 c =
    let old : List ℕ = c.self.inside.bytes.items in
    let fresh : List ℕ = c.args.bytes.now in
    let same : old ≡ c.args.self.now.bytes = ap (λ (disk : Kept). disk.bytes) c.self.view_is in
    let fits : c.args.at + length fresh ≤ length old = subst (λ (xs : List ℕ). c.args.at + length fresh ≤ length xs) (sym same) c.requires in
    let laid : c.overwrite.new.bytes ≡ overlaid old c.args.at fresh = subst (λ (xs : List ℕ). c.overwrite.new.bytes ≡ overlaid xs c.args.at fresh) c.as_mut_slice.ensures.value c.overwrite.ensures in
    let long : length c.overwrite.new.bytes ≡ c.self.inside.bytes.len = ap length laid ∙ length-overlaid old c.args.at fresh fits ∙ sym c.self.inside.bytes.ok.0 in
    let whole : take c.self.inside.bytes.len (c.overwrite.new.bytes ++ drop (length c.overwrite.new.bytes) old) ≡ overlaid old c.args.at fresh =
    cut_to_length c.overwrite.new.bytes (drop (length c.overwrite.new.bytes) old) c.self.inside.bytes.len long ∙ laid in
    subst₂ (λ (xs : List ℕ) (rs : List Range). IsStableBut xs c.self.inside.stable.items rs) (sym whole) (sym c.in_ok-push.ensures.ok)
    (written_is_kept old c.self.inside.stable.items c.self.inside.ranges c.args.at fresh fits c.self.invariant)
