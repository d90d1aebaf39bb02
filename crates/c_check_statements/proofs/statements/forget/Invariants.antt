use Rattle.std.proofs.Common.{◌≡◌, take, length}
use Rattle.c_check_statements.proofs.statements.forget.Given as goal

abbrev pub invariant-locals : goal.invariant-locals
invariant-locals l = take l.count l.locals ≡ take l.count l.initial.locals

abbrev pub decreases-locals : goal.decreases-locals
decreases-locals l = length l.locals
