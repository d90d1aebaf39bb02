-- What a memory stands for, with the frames of the pages that were written.
use Rattle.std.specs.Prelude.{ℕ, List}
use Rattle.mx_base.specs.Memory.{Bytes}
use Rattle.paged_memory.specs.Paged.{Paged, bytes_of, touched_of}

-- the byte at each address, the touched pages, and how many frames there are
pub record Framed : Type 0 where
  pub bytes : Bytes
  pub touched : List ℕ
  pub capacity : ℕ

abbrev pub framed_of : Paged → Framed
framed_of m = record { bytes = bytes_of m; touched = touched_of m; capacity = m.capacity }
