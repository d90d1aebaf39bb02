use Rattle.std.proofs.Common.{◌≡◌, ◌-◌, ℕ}
use Rattle.obj_file.specs.Fields.{many_at}
use Rattle.obj_file.specs.ImageReading.{file_at}
use Rattle.obj_file.proofs.Loop.{with_front}
use Rattle.obj_file.proofs.image_reader.files_of.Given as goal

abbrev pub invariant-loop : goal.invariant-loop
invariant-loop l = with_front l.files.items (many_at (λ (_ : ℕ). file_at) (λ n _. n) (l.count - l.counter) 0 l.rest) ≡ many_at (λ (_ : ℕ). file_at) (λ n _. n) l.count 0 l.bytes
