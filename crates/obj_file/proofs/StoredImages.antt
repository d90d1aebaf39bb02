-- An image runs alike over the walk and over the store of bounds.
use Rattle.std.proofs.Common.{◌≡◌, ℕ, List}
use Rattle.obj_file.specs.declared.image.Image.{Image}
use Rattle.obj_file.specs.Image.{IsImage}
use Rattle.obj_file.specs.Machine.{Reading}
use Rattle.obj_file.specs.Loaded.{Mode, ground_of, state_at_start, image_run, image_accesses}
use Rattle.obj_file.specs.Stored.{stored_run, stored_accesses, stored_at_start}
use Rattle.obj_file.specs.StoreLaw.{EndsAlike, ReadsValid, HaveBytes, RunStaysOut}
use Rattle.obj_file.proofs.StoredRuns.{runs_end_alike, same_accesses}
use Rattle.obj_file.proofs.StoredStart.{starts_alike}

module _ (reads : List ℕ → Reading) (v : Image) (mode : Mode) (turns : ℕ) (input : List ℕ) (valid : ReadsValid reads) (image : IsImage v) (bytes : HaveBytes v.segments)
    (out : RunStaysOut (ground_of reads v.outers mode) turns (state_at_start v.segments mode.preserve input)) where
  pub image_ends : EndsAlike (image_run reads v mode turns input) (stored_run reads v mode turns input)
  unfolding image_run stored_run
  image_ends = runs_end_alike reads v.outers mode valid turns (state_at_start v.segments mode.preserve input) (stored_at_start v.segments mode.preserve input) (starts_alike v image bytes mode.preserve input) out

  pub image_makes : image_accesses reads v mode turns input ≡ stored_accesses reads v mode turns input
  unfolding image_accesses stored_accesses
  image_makes = same_accesses reads v.outers mode valid turns (state_at_start v.segments mode.preserve input) (stored_at_start v.segments mode.preserve input) (starts_alike v image bytes mode.preserve input) out
