use Rattle.std.proofs.Common.{length}
use Rattle.bounds_plan.specs.steps.Compiled.{parameters_of, taken_by}
use Rattle.obj_file.specs.Stored.{stored_at_start}
use Rattle.program_laws.specs.Compiled.{HasCompiled}
use Rattle.linked_laws.proofs.Answer.{passed}
use Rattle.linked_laws.proofs.Formed.{formed}
use Rattle.linked_laws.specs.Linkage.{inner_of, linkage_of, main_of, stub_of}
use Rattle.linked_laws.specs.Linked.{bytes_in}
use Rattle.linked_units.specs.Accesses.{accesses_of}
use Rattle.linked_units.proofs.Told.{none_in_legacy}
use Rattle.linked_programs.proofs.laws.images_of_linked_units_end_as_they_mean.Goals as goal

pub returns : goal.returns
returns c = λ reads reader preserve os v linked bytes number takes_outside program name is input fits turns log.
    let k = linkage_of reads preserve os in
    let has : HasCompiled k (bytes_in v) (accesses_of number v) (inner_of os) (stub_of os) takes_outside program name = record {
      reader = reader;
      few = (passed os v linked).sizes.functions;
      fits = is.fits;
      signatures = is.signatures;
      few_pairs = is.few_pairs;
      each = λ f few. c.linked_functions_are_compiled.ensures reads reader preserve os v linked number
          (λ symbol. taken_by (parameters_of program) takes_outside ((program f).targets symbol)) (name f) (program f) (is.fits f) f few (is.each f few);
      placed = none_in_legacy number v (length v.files) (formed os v linked).places;
    } in
    c.images_of_compiled_programs_end_as_they_mean.ensures.run k (bytes_in v) (accesses_of number v) (inner_of os) (stub_of os) takes_outside program name has
    (c.gates_stand_where_they_are_wanted.ensures reads reader preserve os v linked)
    (main_of os) (bytes_in v) (stored_at_start v.segments preserve input).memory
    (c.linked_images_are_loaded.ensures reads reader preserve os v linked bytes input) input fits turns log
