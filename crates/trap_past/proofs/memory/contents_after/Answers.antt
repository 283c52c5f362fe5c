use Rattle.std.proofs.Common.{◌≡◌, ◌<◌, length, get_or, map, ap, sym, ◌∙◌, arith}
use Rattle.std.proofs.lemmas.List.{get_or-map, length-map}
use Rattle.trap_model.proofs.Images.{block_more_same, block_more_other}
use Rattle.trap_past.specs.Memory.{kept_entry}
use Rattle.trap_past.proofs.memory.contents_after.Goals as goal
use Rattle.trap_past.proofs.memory.contents_after.Goals.{then-kept-block, else-kept-block}

pub loop-kept-preserved : goal.loop-kept-preserved
loop-kept-preserved c =
    let xs = map kept_entry c.args.entries.now in
    let i = c.loop-kept.kept-index in
    let x = kept_entry c.kept-item.result in
    let long = length-map c.args.entries.now kept_entry in
    let inside : i < length xs = omega arith in
    let is : x ≡ get_or xs i x = ap kept_entry c.kept-item.is ∙ sym (get_or-map kept_entry c.args.entries.now i c.kept-item.result x (omega arith)) in
    elim c.if-kept-block.branch [
      | then-kept-block w ↦
          let e = block_more_same c.args.base.now xs i x c.args.block inside is w.if-kept-block.true c.requires in
          cc
      | else-kept-block w ↦
          let e = block_more_other c.args.base.now xs i x c.args.block inside is w.if-kept-block.false in
          cc
    ]
