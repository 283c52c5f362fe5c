use Rattle.std.proofs.Common.{ℕ, length, refl, sym, subst, arith}
use Rattle.std.specs.Int.{w32, w64, to_be_bytes}
use Rattle.trap_format.proofs.Written.{Written, written_none, written_more, written_all}
use Rattle.trap_replica.specs.OnDisk.{value_bytes}
use Rattle.trap_replica.proofs.layout.spell_value.Goals as goal

pub returns : goal.returns
returns c =
    let n = length c.args.value.now in
    let none = written_none n c.args.value.now refl in
    let first = written_more n 0 _ (to_be_bytes w64 c.args.number) _ _ none (omega arith) c.put_u64.ensures in
    let second = written_more n 8 _ (to_be_bytes w64 c.args.time) _ _ first (omega arith) c.put_u64-2.ensures in
    let third = written_more n 16 _ (to_be_bytes w32 c.args.block) _ _ second (omega arith) c.put_u32.ensures in
    let fourth = written_more n 20 _ c.args.contents.now _ _ third (omega arith) c.put_contents.ensures in
    written_all n (value_bytes c.args.number c.args.time c.args.block c.args.contents.now) c.put_contents.new.value
    (subst (λ (k : ℕ). Written n k (value_bytes c.args.number c.args.time c.args.block c.args.contents.now) c.put_contents.new.value) (sym c.requires) fourth)
