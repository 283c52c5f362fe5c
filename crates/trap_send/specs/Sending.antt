-- What `send` says of a state: the frames of its entries.
use Rattle.std.specs.Prelude.{ℕ, ◌+◌, List, [], ◌∷◌, ◌++◌, length, flat_map}
use Rattle.trap_block.specs.Xor.{xor}
use Rattle.trap_model.specs.declared.history.Entry.{Entry}
use Rattle.trap_model.specs.declared.history.State.{State}
use Rattle.trap_model.specs.Frame.{Sent, frame_header}
use Rattle.trap_model.specs.Image.{block_of, written}
use Rattle.trap_model.specs.Records.{change_code}
use Rattle.trap_model.specs.Size.{code_of}
use Rattle.trap_model.specs.State.{above, image_at}

-- the frame of entry number q, over its block's contents before
abbrev pub frame_of : ℕ → ℕ → List ℕ → Entry → Sent
frame_of id q old entry = record {
  frame = record {
    id = id;
    seq = q;
    time = entry.time;
    block = entry.block;
    length = length (change_code old entry);
  };
  parity = xor old entry.bytes;
}

-- the frames of these entries, the first of them over this image and with the number after q
abbrev pub frames_from : ℕ → List (List ℕ) → ℕ → List Entry → List Sent
frames_from id image q [] = []
frames_from id image q (entry ∷ later) =
    frame_of id (q + 1) (block_of image entry.block) entry
    ∷ frames_from id (written image entry) (q + 1) later

-- the bytes of a frame: its header, and the code of its parity
abbrev pub frame_bytes : Sent → List ℕ
frame_bytes sent = frame_header sent.frame ++ code_of sent.parity

-- the frames of a state's entries above number p, for first ≤ p ≤ last
abbrev pub sent_frames : ℕ → State → ℕ → List Sent
sent_frames id s p = frames_from id (image_at s p) p (above s p)

-- and their bytes, one after the other
abbrev pub sent_text : ℕ → State → ℕ → List ℕ
sent_text id s p = flat_map frame_bytes (sent_frames id s p)
