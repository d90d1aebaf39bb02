use Rattle.std.proofs.Common.{◌≡◌, ◌+◌, ◌-◌, length, refl, ◌∙◌, arith}
use Rattle.std.proofs.lemmas.List.Edits.{paste_all}
use Rattle.std.proofs.lemmas.Slice.{put_mid-paste}
use Rattle.place_plan.specs.Initialisers.{written}
use Rattle.place_plan.proofs.bytes.write_bytes.Goals as goal

pub returns-clause-bytes : goal.returns-clause-bytes
unfolding written
returns-clause-bytes c = let n : length c.args.new.now ≡ (c.args.at + length c.args.new.now) - c.args.at = omega arith in
    put_mid-paste _ _ c.args.bytes.now _ c.args.new.now (length c.args.new.now) c.copy_from_slice.ensures.after n refl ∙ paste_all c.args.bytes.now c.args.at c.args.new.now (length c.args.new.now) refl
