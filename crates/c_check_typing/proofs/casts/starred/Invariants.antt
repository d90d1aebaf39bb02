use Rattle.std.proofs.Common.{◌≡◌}
use Rattle.c_check_typing.specs.Rules.{starred}
use Rattle.c_check_typing.proofs.casts.starred.Given as goal

abbrev pub invariant-stars : goal.invariant-stars
invariant-stars l = l.starred ≡ starred l._star l.fn.kind
