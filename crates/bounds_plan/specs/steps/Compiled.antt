-- When functions and programs of C do the same as their fat steps: what their trees must be, and what is outside of them.
use Rattle.std.specs.Prelude.{ℕ, ◌+◌, ◌≡◌, Bool, false, Some, None, List, [], ◌∷◌, length, slice_index_or}
use Rattle.mx_base.specs.World.{World}
use Rattle.fat_ir.specs.declared.program.FatFun.{FatFun}
use Rattle.fat_ir.specs.Values.{Value}
use Rattle.fat_ir.specs.Calls.{Callee, Outcome}
use Rattle.fat_ir.specs.Step.{Symbols, Next}
use Rattle.fat_ir.specs.Run.{steps_run}
use Rattle.fat_ir.specs.Functions.{Target, OfC, Outside, Parameter as FatParameter, values_at_entry, Linked as FatLinked}
use Rattle.bounds_plan.specs.meaning.Expressions.{CalleeOfC}
use Rattle.bounds_plan.specs.meaning.Functions.{Parameter, Private, Framed, FunctionOfC, Linked}
use Rattle.bounds_plan.specs.steps.Code.{fat_parameters, fat_function}
use Rattle.bounds_plan.specs.laws.Laws.{LeftByCalls, NoMoreTurns}
use Rattle.bounds_plan.specs.steps.Follows.{IsNumber, IsPointer, FitsStatement, DoesSame}

-- ---- functions

-- whether each of the private values of a function is bounds
abbrev pub sorts_of : FunctionOfC → ℕ → Bool
sorts_of f v = slice_index_or f.privates v false

-- the private parameters have the private values from `home` on, in order
abbrev pub ParametersStand : (private : ℕ) → (is_bounds : ℕ → Bool) → (home : ℕ) → List Parameter → Type 0
ParametersStand private is_bounds home [] = Unit {0}
ParametersStand private is_bounds home (Private x (Some kind) ∷ rest) = (x ≡ home) × IsNumber private is_bounds x × ParametersStand private is_bounds (home + 1) rest
ParametersStand private is_bounds home (Private x None ∷ rest) = (x ≡ home) × IsPointer private is_bounds x × ParametersStand private is_bounds (home + 2) rest
ParametersStand private is_bounds home (Framed offset kind ∷ rest) = ParametersStand private is_bounds home rest

-- the variables of a function are as its steps have them: its private parameters have the first of the private values, its body names
-- private values of the right sort, and each call has as many arguments as its symbol takes
pub record FitsFunction (takes : ℕ → ℕ) (f : FunctionOfC) : Type 0 where
  pub parameters : ParametersStand (length f.privates) (sorts_of f) 0 f.parameters
  pub body : FitsStatement (length f.privates) (sorts_of f) takes f.body

-- the run of a function's steps, from its entry to its end
abbrev pub function_run_by_steps : Symbols → FatFun → List FatParameter → List Value → World → Outcome
function_run_by_steps symbols f parameters args w = steps_run symbols f.private f.steps Next record { values = values_at_entry f parameters args; world = w }

-- ---- programs

-- a C function in its program, once it is compiled
abbrev pub compiled : (name : ℕ) → Linked → FatLinked
compiled name l = record { fun = fat_function name l.fun; parameters = fat_parameters l.fun.parameters; targets = l.targets; located = l.located }

abbrev pub all_compiled : (name : ℕ → ℕ) → (ℕ → Linked) → ℕ → FatLinked
all_compiled name program f = compiled (name f) (program f)

-- how many arguments a C function of a program takes
abbrev pub parameters_of : (ℕ → Linked) → ℕ → ℕ
parameters_of program f = length (program f).fun.parameters

-- and what a symbol calls; for what is outside of the program it is given
abbrev pub taken_by : (own other : ℕ → ℕ) → Target → ℕ
taken_by own other (OfC f) = own f
taken_by own other (Outside g) = other g

-- every function of a program is as its steps have it
abbrev pub FitsProgram : (takes_outside : ℕ → ℕ) → (ℕ → Linked) → Type 0
FitsProgram takes_outside program = (f : ℕ) → FitsFunction (λ symbol. taken_by (parameters_of program) takes_outside ((program f).targets symbol)) (program f).fun

-- what is outside of a program does the same whether it calls C functions or their steps, as long as these do the same and leave no more
-- turns than there were
abbrev pub OutsideSame : (takes takes_outside : ℕ → ℕ) → (CalleeOfC → CalleeOfC) → (Callee → Callee) → Type 0
OutsideSame takes takes_outside outside by_steps = (own : CalleeOfC) (fat : Callee) → DoesSame takes own fat → LeftByCalls NoMoreTurns own → DoesSame takes_outside (outside own) (by_steps fat)
