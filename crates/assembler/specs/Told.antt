-- What a function tells of the object of a text.
use Rattle.std.specs.Prelude.{◌≡◌, ℕ, Result, Ok, Err}
use Rattle.asm_text.specs.declared.fault.AsmKind.{AsmKind}
use Rattle.asm_text.specs.declared.fault.AsmFault.{AsmFault}
use Rattle.asm_text.specs.declared.fault.AsmFault.TheVariants.{Line, OutOfMemory}

abbrev pub Refuses : {A : Type 0} → AsmFault → Result A (ℕ × AsmKind) → Type 0
Refuses (Line line kind) wanted = wanted ≡ Err (line, kind)
Refuses OutOfMemory wanted = Unit {0}

-- the value, or the first refused line and why, unless memory is wanting
abbrev pub Tells : {A B : Type 0} → (A → B) → Result A AsmFault → Result B (ℕ × AsmKind) → Type 0
Tells view (Ok x) wanted = wanted ≡ Ok (view x)
Tells view (Err e) wanted = Refuses e wanted
