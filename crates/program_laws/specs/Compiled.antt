-- What is owed of each function of a compiled program: of its bytes by the linker, of its homes by what assigns them, and of its tree that
-- it keeps to the limits of code.
use Rattle.std.specs.Prelude.{◌≡◌, ◌<◌, ◌≤◌, ℕ, ◌+◌, true, Option, None, Some, List, [], ◌∷◌, length}
use Rattle.mx_base.specs.declared.numbers.IntKind.{IntKind}
use Rattle.mx_base.specs.Memory.{Bytes}
use Rattle.mx_base.specs.StopOfC.{AccessOfC}
use Rattle.x86_forms.specs.Watch.{is_legacy}
use Rattle.obj_file.specs.Machine.{IsReader}
use Rattle.fat_ir.specs.Spans.{Range}
use Rattle.bounds_plan.specs.steps.Code.{fat_function, fat_parameters, is_pointer, most_pairs}
use Rattle.bounds_plan.specs.steps.Compiled.{FitsProgram, compiled}
use Rattle.bounds_plan.specs.meaning.Functions.{Linked, Parameter, Private, Framed}
use Rattle.bounds_plan.specs.steps.Sorts.{pairs_of}
use Rattle.step_code.specs.Functions.{Layout, IsWritten}
use Rattle.step_code.specs.Homes.{first_in, last_in}
use Rattle.step_code.specs.Homing.{Clear, next_pair, width_of}
use Rattle.step_code.specs.Steps.{Plan}
use Rattle.asked_steps.specs.Homes.{HomesServe}
use Rattle.asked_steps.specs.Trees.{FunctionWithin}
use Rattle.call_sigs.specs.Signatures.{Pointer}
use Rattle.legacy_calls.specs.Legacy.{Linkage}
use Rattle.program_laws.specs.Functions.{entries_of, returns_in, takes_in}

-- homes by spans, in a frame of so many words, with labels at addresses
pub record Assignment : Type 0 where
  pub plan : Plan
  pub units : ℕ
  pub range : ℕ → Range
  pub label_at : ℕ → ℕ

abbrev pub layout_of : Assignment → Layout
layout_of a = record {
  plan = a.plan;
  units = a.units;
  first = λ x. first_in (a.range x);
  last = λ x. last_in (a.range x);
  label_at = a.label_at;
}

-- what the parameters of a function are: numbers of kinds, or without a kind pointers
abbrev pub kinds_of : List Parameter → List (Option IntKind)
kinds_of [] = []
kinds_of (Private x kind ∷ rest) = kind ∷ kinds_of rest
kinds_of (Framed offset kind ∷ rest) = kind ∷ kinds_of rest

-- the home of a parameter holds no argument that is still to come
module _ (p : Plan) (first : ℕ → ℕ) where
  abbrev pub IsClear : (x i b : ℕ) → Option IntKind → Type 0
  IsClear x i b None = Clear p first i b (p.home x) × Clear p first i b (p.home (x + 1))
  IsClear x i b (Some kind) = Clear p first i b (p.home x)

  -- those of private parameters from `home` on, in order, and the others from `temp` on
  abbrev pub AreClear : (home temp i b : ℕ) → List Parameter → Type 0
  AreClear home temp i b [] = Unit {0}
  AreClear home temp i b (Private x kind ∷ rest) =
      IsClear home i b kind × AreClear (home + width_of (is_pointer kind)) temp (i + 1) (next_pair (is_pointer kind) b) rest
  AreClear home temp i b (Framed offset kind ∷ rest) =
      IsClear temp i b kind × AreClear home (temp + width_of (is_pointer kind)) (i + 1) (next_pair (is_pointer kind) b) rest

module _ (k : Linkage) (image : Bytes) (places : ℕ → Option AccessOfC) (inner stub : ℕ → ℕ) where
  pub record IsCompiled (name : ℕ) (l : Linked) (f : ℕ) : Type 0 where
    pub homes : Assignment
    pub written : IsWritten (fat_function name l.fun) (fat_parameters l.fun.parameters) (layout_of homes) image places
        (entries_of inner stub (compiled name l)) (inner f)
    pub serve : HomesServe (fat_function name l.fun) homes.units homes.plan homes.range
    pub few_words : homes.units ≤ 504
    pub few_bytes : l.fun.frame ≤ 0x0400_0000
    -- the homes of parameters hold no argument that is still to come
    pub arguments : AreClear homes.plan (λ v. first_in (homes.range v)) 0 (length l.fun.privates) 0 0 l.fun.parameters
    pub pointer : (k.own f).result ≡ Pointer → homes.plan.pointer ≡ true
    pub located : (symbol : ℕ) → homes.plan.located symbol ≡ l.located symbol
    pub within : FunctionWithin homes.plan.located homes.plan.pointer (returns_in k (compiled name l)) (takes_in k (compiled name l)) l.fun

  pub record HasCompiled (takes_outside : ℕ → ℕ) (program : ℕ → Linked) (name : ℕ → ℕ) : Type 0 where
    pub reader : IsReader k.reads
    pub few : k.outers ≤ 65536
    pub fits : FitsProgram takes_outside program
    pub signatures : (f : ℕ) → (k.own f).parameters ≡ kinds_of (program f).fun.parameters
    pub few_pairs : (f : ℕ) → pairs_of (program f).fun.body ≤ most_pairs
    pub each : (f : ℕ) → f < k.outers → IsCompiled (name f) (program f) f
    pub placed : (a : ℕ) → is_legacy a ≡ true → places a ≡ None
