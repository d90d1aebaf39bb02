-- What is told of bytes that are no object and no image.
use Rattle.std.specs.Prelude.{ℕ, List, ◌++◌, codes}
use Rattle.std.specs.Fmt.{decimal}
use Rattle.obj_file.specs.declared.fault.FormFault.{FormFault}
use Rattle.obj_file.specs.declared.fault.FormFault.TheVariants.{BadForm, OutOfMemory}

abbrev pub text_of : FormFault → List ℕ
text_of (BadForm at) = codes "BadForm at " ++ decimal at
text_of OutOfMemory = codes "no memory"
