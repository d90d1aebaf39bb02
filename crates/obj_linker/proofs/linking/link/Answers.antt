use Rattle.obj_linker.specs.Faults.{faults_of_names, faults_of_sizes}
use Rattle.obj_linker.specs.Gating.{mpx_gates}
use Rattle.obj_linker.specs.Image.{image_of}
use Rattle.obj_linker.proofs.Passing.{answered}
use Rattle.obj_linker.proofs.linking.link.Goals as goal

pub returns-clause-fault : goal.returns-clause-fault
returns-clause-fault c =
    let os = c.args.objects.now in
    answered (image_of mpx_gates os) (faults_of_names os) (faults_of_sizes os) c.finish.result c.in_ok-definitions.ensures.fault c.finish.ensures.fault
