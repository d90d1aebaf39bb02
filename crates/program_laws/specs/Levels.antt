-- What it means that functions do their steps: at each depth, by what they call one level deeper.
use Rattle.std.specs.Prelude.{ℕ, suc, Option}
use Rattle.mx_base.specs.Memory.{Bytes}
use Rattle.mx_base.specs.StopOfC.{AccessOfC}
use Rattle.fat_ir.specs.Calls.{Callee}
use Rattle.fat_ir.specs.Functions.{Linked, calls}
use Rattle.fat_ir.specs.Laws.{FramesGivenBack, LeftByCalls, NoMoreTurns}
use Rattle.legacy_calls.specs.Legacy.{Linkage, outside}
use Rattle.gate_laws.specs.Crossings.{deeper}
use Rattle.gate_laws.specs.Standing.{Calls}

module _ (k : Linkage) (image : Bytes) (places : ℕ → Option AccessOfC) (inner stub : ℕ → ℕ) where
  -- calls of C functions and of legacy functions do what they mean, where so many functions may still be entered, leave no more turns, and
  -- give their frames back
  pub record Do (depth : ℕ) (own other : Callee) : Type 0 where
    pub calls_own : Calls k image places depth 64 k.outers inner k.own own
    pub calls_other : Calls k image places depth 112 k.stubs stub k.legacy other
    pub left_own : LeftByCalls NoMoreTurns own
    pub left_other : LeftByCalls NoMoreTurns other
    pub frames_own : FramesGivenBack own
    pub frames_other : FramesGivenBack other

  -- then calls of the functions that call them do so, where one more may be entered
  abbrev pub DoDeeper : (program : ℕ → Linked) → Type 0
  DoDeeper program = (depth : ℕ) (own other : Callee) → Do depth own other
      → Calls k image places (suc depth) 64 k.outers inner k.own (deeper program own other)

  -- and where none may be entered, a call stops
  abbrev pub StopDeepest : (program : ℕ → Linked) → Type 0
  StopDeepest program = Calls k image places 0 64 k.outers inner k.own (calls program (outside k) 0)
