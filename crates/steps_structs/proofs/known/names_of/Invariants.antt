use Rattle.std.proofs.Common.{◌≡◌, ◌++◌, drop, map}
use Rattle.c_tree.specs.declared.tree.Decl.{Decl}
use Rattle.steps_structs.proofs.known.names_of.Given as goal

abbrev pub invariant-loop-member : goal.invariant-loop-member
invariant-loop-member l = l.names ++ map (λ (d : Decl). d.name) (drop l.member-index l.members) ≡ map (λ (d : Decl). d.name) l.members
