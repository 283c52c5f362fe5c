use Rattle.std.proofs.Common.{◌≡◌, ℕ, List, [], ◌++◌, length, take, drop, Option, reverse, subst, sym, ap, ◌∙◌}
use Rattle.trap_bank.specs.declared.record.Entry.{Entry}
use Rattle.trap_bank.specs.Kept.{Kept}
use Rattle.trap_bank.specs.Memory.{Memory}
use Rattle.trap_bank.specs.Crash.{AllCrashed, Crashes}
use Rattle.trap_bank.proofs.Ranges.{cut_to_length}
use Rattle.trap_bank.proofs.CrashedDisks.{crashes, after_crash}
use Rattle.trap_bank.proofs.memory.MemoryBank.crash.Goals as goal

pub returns : goal.returns
returns c =
    let b = c.self.inside in
    let m : Memory = record {
      disks = b.disks.items;
      said = b.said.items;
      past = reverse b.past.items;
      since = b.since;
      moment = b.moment;
      faults = b.faults;
      port_faults = b.port_faults;
      starved = b.starved;
      chosen = b.chosen.numbers;
      fuse = b.fuse;
      spared = b.spared;
    } in
    let disks : List (Option Kept) = c.crash_all.new.disks in
    let all : AllCrashed c.args.seed m.disks disks = subst (λ (old : List (Option Kept)). AllCrashed c.args.seed old disks) c.as_mut_slice.ensures.value c.crash_all.ensures in
    let long : length disks ≡ b.disks.len =
    c.crash_all.ensures.count ∙ ap (λ (old : List (Option Kept)). length old) c.as_mut_slice.ensures.value ∙ sym b.disks.ok.0 in
    let whole : take b.disks.len (disks ++ drop (length disks) b.disks.items) ≡ disks = cut_to_length disks (drop (length disks) b.disks.items) b.disks.len long in
    let none : reverse c.clear.new.self.items ≡ [] = ap (λ (past : List Entry). reverse past) c.clear.ensures.items in
    let behind : List (Option Kept) → List Entry → List ℕ → Memory =
    λ disks past chosen. record (after_crash m disks) { past = past; chosen = chosen } in
    let laid : Crashes c.args.seed m (behind disks [] c.new-self-inside.result.numbers) =
    subst (λ (chosen : List ℕ). Crashes c.args.seed m (behind disks [] chosen)) (sym c.new-self-inside.ensures) (crashes c.args.seed m disks all) in
    let cleared : Crashes c.args.seed m (behind disks (reverse c.clear.new.self.items) c.new-self-inside.result.numbers) =
    subst (λ (past : List Entry). Crashes c.args.seed m (behind disks past c.new-self-inside.result.numbers)) (sym none) laid in
    subst (λ (old : Memory). Crashes c.args.seed old (behind (take b.disks.len (disks ++ drop (length disks) b.disks.items)) (reverse c.clear.new.self.items)
    c.new-self-inside.result.numbers)) c.self.view_is
    (subst (λ (disks : List (Option Kept)). Crashes c.args.seed m (behind disks (reverse c.clear.new.self.items) c.new-self-inside.result.numbers)) (sym whole) cleared)
