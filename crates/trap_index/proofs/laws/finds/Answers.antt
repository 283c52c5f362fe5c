use Rattle.trap_index.proofs.Describing.{record_told, image_told, path_told}
use Rattle.trap_index.proofs.laws.finds.Goals as goal

pub returns : goal.returns
returns c = record { record_there = record_told; image_there = image_told; path_there = path_told }
