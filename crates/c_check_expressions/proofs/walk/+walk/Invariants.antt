use Rattle.std.proofs.Common.{Some, true, map, drop}
use Rattle.c_check_typing.specs.Expressions.{seen, arguments}
use Rattle.c_check_expressions.proofs.Nodes.{Left}
use Rattle.c_check_expressions.proofs.walk.+walk.Given as goal

-- what is left of the arguments adds what all of them do
abbrev pub invariant-read_args-args-2 : goal.invariant-read_args-args-2
invariant-read_args-args-2 l = Left (arguments l.scope (Some true) l.params (map seen l.args)) (arguments l.scope (Some l.fit) l.left (map seen (drop l.arg-index l.args))) l.initial.notes l.notes
