use Rattle.std.proofs.Common.{subst, arith, Result, ℕ}
use Rattle.obj_file.specs.declared.image.Image.{Image}
use Rattle.obj_file.specs.Fields.{Tells}
use Rattle.obj_file.proofs.ImageLaws.{is_found, is_held, image_is_read}
use Rattle.obj_file.proofs.image_reader.read_image.Goals as goal

pub returns-clause-found : goal.returns-clause-found
returns-clause-found c = is_found c.args.bytes.now c.whole_image.result (λ i. omega (arith, c.type_inv.bytes i)) c.whole_image.ensures

pub returns-clause-bytes : goal.returns-clause-bytes
returns-clause-bytes c = is_held c.args.bytes.now c.whole_image.result (λ i. omega (arith, c.type_inv.bytes i)) c.whole_image.ensures

pub returns-clause-only : goal.returns-clause-only
returns-clause-only c = λ v fits spelled. subst (λ (read : Result Image ℕ). Tells c.whole_image.result read) (image_is_read c.args.bytes.now v fits spelled) c.whole_image.ensures
