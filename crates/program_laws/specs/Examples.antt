-- A whole image of two C functions, with all that is asked of it: `int f(int a, int *p) { return *p; }`, and `main`, which keeps 7 in an
-- object, calls f with a number and the object's address, and gives what comes back.
use Rattle.std.specs.Prelude.{ℕ, zero, suc, ◌+◌, ◌-◌, ◌==◌, ◌&&◌, nat_le, nat_lt, Bool, true, false, if◌then◌else◌, Option, None, Some, List, [], ◌∷◌, ◌++◌, length, slice_index_or}
use Rattle.mx_base.specs.declared.numbers.IntKind.TheVariants.{I32}
use Rattle.mx_base.specs.declared.places.Place.{Place}
use Rattle.mx_base.specs.Memory.{Bytes}
use Rattle.mx_base.specs.StopOfC.{AccessOfC, StopOfC}
use Rattle.obj_file.specs.Machine.{Reading}
use Rattle.fat_ir.specs.declared.program.FatFun.{FatFun}
use Rattle.fat_ir.specs.declared.step.FatStep.TheVariants as s
use Rattle.fat_ir.specs.Calls.{Outcome, Comes, Stops, Stuck}
use Rattle.fat_ir.specs.Functions.{Linked, OfC}
use Rattle.fat_ir.specs.Step.{ObjectAt}
use Rattle.step_code.specs.declared.homes.Home.{Home}
use Rattle.step_code.specs.declared.homes.Home.TheVariants.{Reg, Slot, Bnd}
use Rattle.step_code.specs.Steps.{Plan}
use Rattle.step_code.specs.Bytes.{places_of_steps}
use Rattle.step_code.specs.Functions.{Layout, steps_at, bytes_of_function}
use Rattle.call_sigs.specs.Signatures.{Signature, Of}
use Rattle.call_gates.specs.Gates.{bytes_of_code, start_gate, start_at, landing_gate, landing_at, outer_gate, stub_gate}
use Rattle.legacy_calls.specs.Legacy.{Linkage}
use Rattle.program_laws.specs.Functions.{entries_of}

-- ---- the program

abbrev pub object_at : ℕ
object_at = 0x2000_0000

abbrev pub place_of_write : Place
place_of_write = record { file = 0; line = 1; col = 1 }

abbrev pub place_of_read : Place
place_of_read = record { file = 0; line = 2; col = 1 }

-- in `main`, 0 is a number, 1 an address, 2 its bounds, and 3 what comes back
abbrev pub main_steps : FatFun
main_steps = record {
  name = 0;
  private = 0;
  arrived = 0;
  temps = 4;
  bounds = false ∷ false ∷ true ∷ false ∷ [];
  frame = 0;
  steps = s.Place 1 2 (Some 1) 0 4 ∷ s.Const 0 7 ∷ s.Judge 1 4 2 true place_of_write ∷ s.Store 1 0 I32
      ∷ s.Call 0 ((0, None) ∷ (1, Some 2) ∷ []) (Some 3) None ∷ s.Give (Some 3) None ∷ [];
}

-- in `f`, 0 is a, 1 and 2 are p, and 3 is what p points to
abbrev pub f_steps : FatFun
f_steps = record {
  name = 1;
  private = 3;
  arrived = 0;
  temps = 1;
  bounds = false ∷ false ∷ true ∷ false ∷ [];
  frame = 0;
  steps = s.Judge 1 4 2 false place_of_read ∷ s.Load 1 3 I32 ∷ s.Give (Some 3) None ∷ [];
}

abbrev pub linked_main : Linked
linked_main = record { fun = main_steps; parameters = []; targets = λ symbol. OfC 1; located = λ symbol. ObjectAt object_at }

abbrev pub linked_f : Linked
linked_f = record {
  fun = f_steps;
  parameters = record { private = true; pointer = false } ∷ record { private = true; pointer = true } ∷ [];
  targets = λ symbol. OfC 1;
  located = λ symbol. ObjectAt object_at;
}

abbrev pub program : ℕ → Linked
program zero = linked_main
program (suc n) = linked_f

-- ---- homes

-- the third value is bounds
abbrev pub is_bounds : ℕ → Bool
is_bounds zero = false
is_bounds (suc zero) = false
is_bounds (suc (suc zero)) = true
is_bounds (suc (suc (suc n))) = false

-- calls find values in words of the frame
abbrev pub homes_of_main : ℕ → Home
homes_of_main zero = Slot 0
homes_of_main (suc zero) = Slot 1
homes_of_main (suc (suc zero)) = Slot 2
homes_of_main (suc (suc (suc n))) = Slot 4

-- arguments stay where they arrive, and a pointer's bounds go to BND2
abbrev pub homes_of_f : ℕ → Home
homes_of_f zero = Reg 7
homes_of_f (suc zero) = Reg 6
homes_of_f (suc (suc zero)) = Bnd 2
homes_of_f (suc (suc (suc n))) = Slot 0

-- the four values are there from the first step to the last, and no other is
abbrev pub first_of : ℕ → ℕ
first_of x = if nat_lt x 4 then 0 else 1

abbrev pub last_of : ℕ → ℕ
last_of x = if nat_lt x 4 then 5 else 0

abbrev pub main_at : ℕ
main_at = 0x0200_0000

abbrev pub f_at : ℕ
f_at = 0x0200_1000

abbrev pub stub_at : ℕ
stub_at = 0x0200_2000

abbrev pub plan_of : (ℕ → Home) → Plan
plan_of home = record { home = home; is_bounds = is_bounds; spare = 0; exit = 0; pointer = false; located = λ symbol. ObjectAt object_at }

-- the end of each function, where its only label stands
abbrev pub end_of_main : ℕ
end_of_main = 0x0200_00D6

abbrev pub end_of_f : ℕ
end_of_f = 0x0200_109B

abbrev pub layout_of_main : Layout
layout_of_main = record { plan = plan_of homes_of_main; units = 5; first = first_of; last = last_of; label_at = λ label. end_of_main }

abbrev pub layout_of_f : Layout
layout_of_f = record { plan = plan_of homes_of_f; units = 1; first = first_of; last = last_of; label_at = λ label. end_of_f }

-- ---- the image

abbrev pub signature_of_main : Signature
signature_of_main = record { result = Of I32; parameters = [] }

abbrev pub signature_of_f : Signature
signature_of_f = record { result = Of I32; parameters = Some I32 ∷ None ∷ [] }

abbrev pub signatures : ℕ → Signature
signatures zero = signature_of_main
signatures (suc n) = signature_of_f

abbrev pub inner_at : ℕ → ℕ
inner_at zero = main_at
inner_at (suc n) = f_at

abbrev pub stubs_at : ℕ → ℕ
stubs_at g = stub_at

-- a legacy function, which nothing calls, has a stub too
abbrev pub linkage : (List ℕ → Reading) → (preserve : Bool) → Linkage
linkage reads preserve = record {
  reads = reads;
  preserve = preserve;
  outers = 2;
  own = signatures;
  stubs = 1;
  legacy = λ g. signature_of_f;
  begins = λ g. 0x1200_0000;
}

abbrev pub bytes_of_main : List ℕ
bytes_of_main = bytes_of_function main_steps [] layout_of_main (entries_of inner_at stubs_at linked_main) main_at

abbrev pub bytes_of_f : List ℕ
bytes_of_f = bytes_of_function f_steps linked_f.parameters layout_of_f (entries_of inner_at stubs_at linked_f) f_at

-- bytes from addresses on
abbrev pub parts_of_image : List (ℕ × List ℕ)
parts_of_image =
    (start_at, bytes_of_code (start_gate main_at)) ∷ (landing_at, bytes_of_code landing_gate)
    ∷ (0x0101_0000, bytes_of_code (outer_gate signature_of_main main_at 0x0101_0000))
    ∷ (0x0101_0080, bytes_of_code (outer_gate signature_of_f f_at 0x0101_0080))
    ∷ (main_at, bytes_of_main) ∷ (f_at, bytes_of_f)
    ∷ (stub_at, bytes_of_code (stub_gate signature_of_f 0x1200_0000 stub_at)) ∷ []

abbrev pub byte_among : List (ℕ × List ℕ) → ℕ → ℕ
byte_among [] a = 0
byte_among (x ∷ rest) a = if nat_le x.0 a && nat_lt a (x.0 + length x.1) then slice_index_or x.1 (a - x.0) 0 else byte_among rest a

abbrev pub image : Bytes
image = byte_among parts_of_image

abbrev pub access_among : List (ℕ × AccessOfC) → ℕ → Option AccessOfC
access_among [] a = None
access_among (x ∷ rest) a = if a == x.0 then Some x.1 else access_among rest a

abbrev pub places : ℕ → Option AccessOfC
places = access_among (
    places_of_steps layout_of_main.plan (steps_at main_steps [] layout_of_main main_at) main_steps.steps
    ++ places_of_steps layout_of_f.plan (steps_at f_steps linked_f.parameters layout_of_f f_at) f_steps.steps)

-- ---- what the program comes to

abbrev pub why_of : Outcome → Option StopOfC
why_of (Comes v w) = None
why_of (Stops why w) = Some why
why_of Stuck = None
