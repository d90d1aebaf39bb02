-- What is owed of each C function so that its code does its steps: its code stands in the image, its homes fit, and its steps are what code
-- asks of them.
use Rattle.std.specs.Prelude.{◌≡◌, ◌<◌, ◌≤◌, ◌&&◌, ℕ, nat_lt, Bool, true, false, Option, None, Some, List, [], ◌∷◌}
use Rattle.mx_base.specs.declared.numbers.IntKind.{IntKind}
use Rattle.mx_base.specs.Memory.{Bytes}
use Rattle.mx_base.specs.StopOfC.{AccessOfC}
use Rattle.x86_forms.specs.Watch.{is_legacy}
use Rattle.obj_file.specs.Machine.{IsReader}
use Rattle.fat_ir.specs.Functions.{Linked, Target, OfC, Outside}
use Rattle.step_code.specs.Asked.{FineSteps}
use Rattle.step_code.specs.Functions.{Layout, IsWritten, HomesFit}
use Rattle.call_sigs.specs.Signatures.{Signature, Result, Nothing, Pointer, Of}
use Rattle.legacy_calls.specs.Legacy.{Linkage}

-- ---- what symbols call

-- what a target takes and gives
abbrev pub signature_of : Linkage → Target → Signature
signature_of k (OfC f) = k.own f
signature_of k (Outside g) = k.legacy g

-- where calls of it go: to the inner entry of a C function, or to the stub of a legacy function
abbrev pub entry_of : (inner stub : ℕ → ℕ) → Target → ℕ
entry_of inner stub (OfC f) = inner f
entry_of inner stub (Outside g) = stub g

-- where calls of a function's symbols go
abbrev pub entries_of : (inner stub : ℕ → ℕ) → Linked → ℕ → ℕ
entries_of inner stub l symbol = entry_of inner stub (l.targets symbol)

-- it is one of the image's
abbrev pub is_there : Linkage → Target → Bool
is_there k (OfC f) = nat_lt f k.outers
is_there k (Outside g) = nat_lt g k.stubs

-- a call's arguments are as many as the parameters, those of pointers with bounds, and numbers without
abbrev pub are_arguments : List (Option IntKind) → List (ℕ × Option ℕ) → Bool
are_arguments [] [] = true
are_arguments [] (a ∷ rest) = false
are_arguments (q ∷ qs) [] = false
are_arguments (None ∷ qs) ((a, None) ∷ rest) = false
are_arguments (None ∷ qs) ((a, Some b) ∷ rest) = are_arguments qs rest
are_arguments (Some kind ∷ qs) ((a, None) ∷ rest) = are_arguments qs rest
are_arguments (Some kind ∷ qs) ((a, Some b) ∷ rest) = false

abbrev pub is_pointer_result : Result → Bool
is_pointer_result Nothing = false
is_pointer_result Pointer = true
is_pointer_result (Of kind) = false

-- whether a symbol gives a pointer, and whether it takes a call's arguments
abbrev pub returns_in : Linkage → Linked → ℕ → Bool
returns_in k l symbol = is_pointer_result (signature_of k (l.targets symbol)).result

abbrev pub takes_in : Linkage → Linked → ℕ → List (ℕ × Option ℕ) → Bool
takes_in k l symbol args = is_there k (l.targets symbol) && are_arguments (signature_of k (l.targets symbol)).parameters args

-- ---- functions

module _ (k : Linkage) (image : Bytes) (places : ℕ → Option AccessOfC) (inner stub : ℕ → ℕ) where
  -- of one C function: the image has its code, its homes fit, one whose signature gives a pointer gives bounds, and its steps are what
  -- code asks of them
  pub record IsFunction (l : Linked) (f : ℕ) : Type 0 where
    pub layout : Layout
    pub written : IsWritten l.fun l.parameters layout image places (entries_of inner stub l) (inner f)
    pub homes : HomesFit l.fun l.parameters layout (k.own f).parameters
    pub pointer : (k.own f).result ≡ Pointer → layout.plan.pointer ≡ true
    pub steps : FineSteps layout.units layout.plan l.located l.fun.steps layout.first layout.last (returns_in k l) (takes_in k l)
        0 l.fun.steps

  -- of the functions of a program: bytes are read exactly, functions are at most 65,536, each is so, and no check stands in legacy code
  pub record HasFunctions (program : ℕ → Linked) : Type 0 where
    pub reader : IsReader k.reads
    pub few : k.outers ≤ 65536
    pub each : (f : ℕ) → f < k.outers → IsFunction (program f) f
    pub placed : (a : ℕ) → is_legacy a ≡ true → places a ≡ None
