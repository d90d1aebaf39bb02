-- Bytes put over the front of a buffer.
use Rattle.std.specs.Prelude.{ℕ, List, ◌++◌, length, take, drop}

-- the buffer with as many of the bytes over its front as it has room for
abbrev pub laid_over : List ℕ → List ℕ → List ℕ
laid_over bytes buf = take (length buf) bytes ++ drop (length bytes) buf
