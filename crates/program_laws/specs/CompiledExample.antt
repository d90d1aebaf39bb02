-- A whole image of one compiled function, `int main(void) { int x = 7; return x; }`.
use Rattle.std.specs.Prelude.{ℕ, ◌==◌, nat_lt, Bool, false, if◌then◌else◌, Option, None, List, [], ◌∷◌, slice_index_or}
use Rattle.mx_base.specs.declared.numbers.IntKind.TheVariants.{I32}
use Rattle.mx_base.specs.Memory.{Bytes}
use Rattle.mx_base.specs.StopOfC.{AccessOfC}
use Rattle.obj_file.specs.Machine.{Reading}
use Rattle.fat_ir.specs.Functions.{OfC}
use Rattle.fat_ir.specs.Spans.{Range}
use Rattle.fat_ir.specs.Step.{ObjectAt}
use Rattle.bounds_plan.specs.steps.Code.{fat_function}
use Rattle.bounds_plan.specs.steps.Compiled.{compiled}
use Rattle.bounds_plan.specs.meaning.Core.{Word, Variable, Assign, OfNumber, Do, Then, ReturnNumber}
use Rattle.bounds_plan.specs.meaning.Functions.{FunctionOfC, Linked}
use Rattle.step_code.specs.declared.homes.Home.{Home}
use Rattle.step_code.specs.declared.homes.Home.TheVariants.{Slot}
use Rattle.step_code.specs.Functions.{bytes_of_function}
use Rattle.call_sigs.specs.Signatures.{Signature, Of}
use Rattle.call_gates.specs.Gates.{bytes_of_code, start_gate, start_at, landing_gate, landing_at, outer_gate}
use Rattle.legacy_calls.specs.Legacy.{Linkage}
use Rattle.program_laws.specs.Compiled.{Assignment, layout_of}
use Rattle.program_laws.specs.Examples.{byte_among}
use Rattle.program_laws.specs.Functions.{entries_of}

-- x is the private variable 0
abbrev pub main_of_c : FunctionOfC
main_of_c = record {
  parameters = [];
  privates = false ∷ [];
  variables = [];
  frame = 0;
  body = Then (Do (OfNumber (Assign 0 (Word 7)))) (ReturnNumber (Variable 0));
}

abbrev pub linked_of_c : Linked
linked_of_c = record { fun = main_of_c; targets = λ symbol. OfC 0; located = λ symbol. ObjectAt 0 }

abbrev pub program_of_c : ℕ → Linked
program_of_c f = linked_of_c

abbrev pub names : ℕ → ℕ
names f = 0

abbrev pub code_at : ℕ
code_at = 0x0200_0000

-- the variable and the first temporary have words of the frame, and no other value is named
abbrev pub word_of_value : ℕ → Home
word_of_value v = if v == 1 then Slot 1 else Slot 0

abbrev pub range_of_value : ℕ → Range
range_of_value v = if nat_lt v 2 then record { from = 0; past = 5 } else record { from = 0; past = 0 }

abbrev pub homes_of_c : Assignment
homes_of_c = record {
  plan = record {
    home = word_of_value;
    is_bounds = λ v. slice_index_or (fat_function 0 main_of_c).bounds v false;
    spare = 2;
    exit = 1;
    pointer = false;
    located = λ symbol. ObjectAt 0;
  };
  units = 6;
  range = range_of_value;
  label_at = λ label. if label == 1 then 0x0200_009A else 0x0200_008A;
}

abbrev pub signature_of_c : Signature
signature_of_c = record { result = Of I32; parameters = [] }

abbrev pub inner_of_c : ℕ → ℕ
inner_of_c f = code_at

abbrev pub stubs_of_c : ℕ → ℕ
stubs_of_c g = 0

abbrev pub linkage_of_c : (List ℕ → Reading) → (preserve : Bool) → Linkage
linkage_of_c reads preserve = record {
  reads = reads;
  preserve = preserve;
  outers = 1;
  own = λ f. signature_of_c;
  stubs = 0;
  legacy = λ g. signature_of_c;
  begins = λ g. 0x1200_0000;
}

abbrev pub bytes_of_c : List ℕ
bytes_of_c = bytes_of_function (fat_function 0 main_of_c) [] (layout_of homes_of_c) (entries_of inner_of_c stubs_of_c (compiled 0 linked_of_c)) code_at

abbrev pub image_of_c : Bytes
image_of_c = byte_among (
    (start_at, bytes_of_code (start_gate code_at)) ∷ (landing_at, bytes_of_code landing_gate)
    ∷ (0x0101_0000, bytes_of_code (outer_gate signature_of_c code_at 0x0101_0000)) ∷ (code_at, bytes_of_c) ∷ [])

-- no access is checked
abbrev pub no_places : ℕ → Option AccessOfC
no_places a = None
