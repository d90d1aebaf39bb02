use Rattle.std.proofs.Common.{◌∙◌, ◌++◌, ap, sym, get_or, arith}
use Rattle.obj_linker.specs.Image.{places_in, places_of}
use Rattle.obj_linker.proofs.Steps.{numbered_taken}
use Rattle.obj_linker.proofs.Filing.{few_files, files_more}
use Rattle.obj_linker.proofs.image.places.Goals as goal

pub overflow_add-file : goal.overflow_add-file
overflow_add-file c =
    let few = few_files c.args.objects.now c.all.object c.all.file c.all.invariant.file c.requires.files in
    let one = c.files_of-file.ensures.few in
    omega (arith, few, one)

pub all-preserved : goal.all-preserved
all-preserved c =
    let os = c.args.objects.now in
    let plan = c.args.plan.now in
    let k = c.all.object in
    let o = c.index-objects-object.result in
    let is = c.index-objects-object.is in
    let items = c.all.out.items in
    record {
      out =
          c.in_ok-put_places_of.ensures
          ∙ (ap (λ n. items ++ places_in plan k o n) c.all.invariant.file
          ∙ (ap (λ x. items ++ places_of os plan k x) is
          ∙ (ap (λ l. l ++ places_of os plan k (get_or os k o)) c.all.invariant.out ∙ sym (numbered_taken (places_of os plan) os k o c.all-test.true))));
      file = files_more os k o c.all.file c.files_of-file.result c.all-test.true is c.all.invariant.file c.files_of-file.ensures.files;
    }
