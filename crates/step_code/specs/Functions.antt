-- The code of a whole C function: the inner entry, the homing of arguments, the steps, the end and the return, one behind the other; and
-- what is asked of the homes of its values.
use Rattle.std.specs.Prelude.{◌≡◌, ℕ, ◌+◌, ◌^◌, ◌<◌, ◌≤◌, false, Option, List, [], ◌∷◌, ◌++◌, length, slice_index_or}
use Rattle.mx_base.specs.declared.numbers.IntKind.{IntKind}
use Rattle.mx_base.specs.Memory.{Bytes, list_at}
use Rattle.mx_base.specs.StopOfC.{AccessOfC}
use Rattle.x86_forms.specs.declared.instr.Instr.{Instr}
use Rattle.fat_ir.specs.declared.program.FatFun.{FatFun}
use Rattle.fat_ir.specs.Functions.{Parameter}
use Rattle.step_code.specs.declared.pieces.Piece.{Piece}
use Rattle.step_code.specs.declared.pieces.Piece.TheVariants.{Plain}
use Rattle.step_code.specs.Steps.{Plan, end_pieces}
use Rattle.step_code.specs.Homes.{Assigned}
use Rattle.step_code.specs.Homing.{homing, taken, FineArguments}
use Rattle.step_code.specs.Entry.{inner_entry, inner_return}
use Rattle.step_code.specs.Bytes.{size_of_pieces, size_of_steps, bytes_of_pieces, bytes_of_steps, AllValid, AllStepsValid, AllHere}

-- instructions as pieces
abbrev pub plain : List Instr → List Piece
plain [] = []
plain (i ∷ is) = Plain i ∷ plain is

-- how a function is laid out: its plan, how many words of the control stack its frame has, the first and the last step of each value's
-- span, and where its labels stand
pub record Layout : Type 0 where
  pub plan : Plan
  pub units : ℕ
  pub first : ℕ → ℕ
  pub last : ℕ → ℕ
  pub label_at : ℕ → ℕ

module _ (f : FatFun) (parameters : List Parameter) (l : Layout) where
  -- ---- where its parts stand, from the address of its inner entry on

  abbrev pub homing_at : ℕ → ℕ
  homing_at at = at + size_of_pieces (plain (inner_entry f.frame l.units))

  abbrev pub steps_at : ℕ → ℕ
  steps_at at = homing_at at + size_of_pieces (homing l.plan f.private parameters)

  abbrev pub end_at : ℕ → ℕ
  end_at at = steps_at at + size_of_steps l.plan f.steps

  abbrev pub return_at : ℕ → ℕ
  return_at at = end_at at + size_of_pieces end_pieces

  abbrev pub past_function : ℕ → ℕ
  past_function at = return_at at + size_of_pieces (plain (inner_return f.frame l.units))

  -- ---- its bytes, where symbols stand at addresses

  abbrev pub bytes_of_function : (entry_at : ℕ → ℕ) → (at : ℕ) → List ℕ
  bytes_of_function entry_at at =
      bytes_of_pieces l.label_at entry_at at (plain (inner_entry f.frame l.units))
      ++ (bytes_of_pieces l.label_at entry_at (homing_at at) (homing l.plan f.private parameters)
      ++ (bytes_of_steps l.plan l.label_at entry_at (steps_at at) f.steps
      ++ (bytes_of_pieces l.label_at entry_at (end_at at) end_pieces
      ++ bytes_of_pieces l.label_at entry_at (return_at at) (plain (inner_return f.frame l.units)))))

  -- an image has them, from an address on that lies behind the outer entries; each instruction is valid, each label is where it stands,
  -- the end's before the return, and the checks of each judgement have its access
  pub record IsWritten (image : Bytes) (access_of : ℕ → Option AccessOfC) (entry_at : ℕ → ℕ) (at : ℕ) : Type 0 where
    pub low : 0x0200_0000 ≤ at
    pub high : past_function at ≤ 0x1100_0000
    pub bytes : list_at (length (bytes_of_function entry_at at)) image at ≡ bytes_of_function entry_at at
    pub homing_valid : AllValid l.label_at entry_at (homing_at at) (homing l.plan f.private parameters)
    pub steps_valid : AllStepsValid l.plan l.label_at entry_at (steps_at at) f.steps
    pub here : AllHere l.plan l.label_at access_of (steps_at at) f.steps
    pub exit : l.label_at l.plan.exit ≡ return_at at
    pub small_labels : (k : ℕ) → l.label_at k < 2 ^ 62

  -- ---- its homes

  -- in a frame of at most 504 words, and a data frame of at most 64 MB: homes are assigned, private values have the sorts that the
  -- function says, and the homes of parameters of these kinds hold no argument that is still to come
  pub record HomesFit (kinds : List (Option IntKind)) : Type 0 where
    pub few_words : l.units ≤ 504
    pub few_bytes : f.frame ≤ 0x0400_0000
    pub assigned : Assigned l.units f.private f.steps l.plan l.first l.last
    pub sorts : (x : ℕ) → x < f.private → slice_index_or f.bounds x false ≡ l.plan.is_bounds x
    pub few_taken : taken parameters ≤ f.private
    pub arguments : FineArguments l.plan l.first 0 f.private 0 0 parameters kinds
