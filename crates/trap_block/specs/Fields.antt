-- A piece written over a part of a list of bytes.
use Rattle.std.specs.Prelude.{ℕ, ◌+◌, List, ◌++◌, length, take, drop}

-- the list with a piece over its bytes from an offset on, and all others as they were
abbrev pub put_over : ℕ → List ℕ → List ℕ → List ℕ
put_over at piece bytes = take at bytes ++ piece ++ drop (at + length piece) bytes
