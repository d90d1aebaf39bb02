-- Functions whose values are given homes, where those of their parameters wish for registers.
use Rattle.std.specs.Prelude.{List, [], ◌∷◌}
use Rattle.fat_ir.specs.Spans.{IsAssignable}
use Rattle.code_emit.specs.declared.plan.CompiledFunction.{CompiledFunction}
use Rattle.code_emit.specs.Plans.{parameters_of}
use Rattle.reg_assign.specs.declared.homes.Homes.{Homes}
use Rattle.reg_assign.specs.declared.wishes.Wishes.{Wishes}
use Rattle.reg_assign.specs.Granted.{AreGranted}
use Rattle.reg_assign.specs.Homes.{AreHomes}
use Rattle.reg_assign.specs.Wishing.{AreWishes}
use Rattle.asked_steps.specs.Wishes.{wishes_of}

abbrev pub wishes_in : CompiledFunction → Wishes
wishes_in c = wishes_of c.fun.private (parameters_of c.parameters)

-- no step lies in too many spans, and no more parameters wish than there are registers
pub record CanBeAssigned (c : CompiledFunction) : Type 0 where
  pub assignable : IsAssignable c.fun
  pub wishes : AreWishes c.fun (wishes_in c)

pub record IsAssigned (c : CompiledFunction) (h : Homes) : Type 0 where
  pub homes : AreHomes c.fun h
  pub granted : AreGranted (wishes_in c) h

-- each function has its homes, in order
abbrev pub AreAssigned : List CompiledFunction → List Homes → Type 0
AreAssigned [] [] = Unit {0}
AreAssigned [] (h ∷ hs) = ⊥
AreAssigned (c ∷ cs) [] = ⊥
AreAssigned (c ∷ cs) (h ∷ hs) = IsAssigned c h × AreAssigned cs hs
