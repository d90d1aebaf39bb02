use Rattle.std.proofs.Common.{subst, arith, Result, ℕ}
use Rattle.obj_file.specs.declared.object.Object.{Object}
use Rattle.obj_file.specs.Fields.{Tells}
use Rattle.obj_file.proofs.ObjectLaws.{is_found, code_held, stored_held, object_is_read}
use Rattle.obj_file.proofs.object_reader.read_object.Goals as goal

pub returns-clause-found : goal.returns-clause-found
returns-clause-found c = is_found c.args.bytes.now c.whole_object.result (λ i. omega (arith, c.type_inv.bytes i)) c.whole_object.ensures

pub returns-clause-code : goal.returns-clause-code
returns-clause-code c = code_held c.args.bytes.now c.whole_object.result (λ i. omega (arith, c.type_inv.bytes i)) c.whole_object.ensures

pub returns-clause-stored : goal.returns-clause-stored
returns-clause-stored c = stored_held c.args.bytes.now c.whole_object.result (λ i. omega (arith, c.type_inv.bytes i)) c.whole_object.ensures

pub returns-clause-only : goal.returns-clause-only
returns-clause-only c = λ v fits spelled. subst (λ (read : Result Object ℕ). Tells c.whole_object.result read) (object_is_read c.args.bytes.now v fits spelled) c.whole_object.ensures
