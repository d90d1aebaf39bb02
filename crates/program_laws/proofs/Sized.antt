-- The entry of a function and its return with the sizes of their instructions. Those of additions, subtractions and comparisons depend on the constant.
use Rattle.std.proofs.Common.{ℕ, ◌+◌, ◌*◌, ◌<◌, [], ◌∷◌, ◌++◌}
use Rattle.x86_forms.specs.declared.instr.Instr.TheVariants.{Syscall}
use Rattle.call_gates.specs.Gates.{Code, rax, rcx, rsp, load_cell, store_cell, sets, returns, data_cell, depth_cell}
use Rattle.step_code.specs.Entry as entry

-- how many bytes each addition, subtraction and comparison has
pub record Sizes : Type 0 where
  pub depth_compared : ℕ
  pub one_added : ℕ
  pub room_compared : ℕ
  pub frame_taken : ℕ
  pub words_taken : ℕ
  pub frame_given : ℕ
  pub one_taken : ℕ
  pub words_given : ℕ

pub record AreSizes (z : Sizes) : Type 0 where
  pub depth_compared : 0 < z.depth_compared
  pub one_added : 0 < z.one_added
  pub room_compared : 0 < z.room_compared
  pub frame_taken : 0 < z.frame_taken
  pub words_taken : 0 < z.words_taken
  pub frame_given : 0 < z.frame_given
  pub one_taken : 0 < z.one_taken
  pub words_given : 0 < z.words_given

abbrev pub overflows : Code
overflows = sets rax 0x1005 ∷ (Syscall, 2) ∷ []

abbrev pub counts : Sizes → Code
counts z = load_cell rax depth_cell ∷ (entry.compares rax 4096, z.depth_compared) ∷ (entry.hops 2 7, 7) ∷ overflows

abbrev pub enters : Sizes → (frame units : ℕ) → Code
enters z frame units =
    (entry.adds rax 1, z.one_added) ∷ store_cell depth_cell rax
    ∷ load_cell rax data_cell ∷ (entry.compares rax (0x5000_0000 + frame), z.room_compared) ∷ (entry.hops 3 7, 7) ∷ sets rax 0x1005 ∷ (Syscall, 2)
    ∷ (entry.takes rax frame, z.frame_taken) ∷ store_cell data_cell rax
    ∷ (entry.takes rsp (8 * units), z.words_taken)
    ∷ []

abbrev pub inner_entry : Sizes → (frame units : ℕ) → Code
inner_entry z frame units = counts z ++ enters z frame units

abbrev pub inner_return : Sizes → (frame units : ℕ) → Code
inner_return z frame units =
    load_cell rcx data_cell ∷ (entry.adds rcx frame, z.frame_given) ∷ store_cell data_cell rcx
    ∷ load_cell rcx depth_cell ∷ (entry.takes rcx 1, z.one_taken) ∷ store_cell depth_cell rcx
    ∷ (entry.adds rsp (8 * units), z.words_given)
    ∷ returns
    ∷ []
