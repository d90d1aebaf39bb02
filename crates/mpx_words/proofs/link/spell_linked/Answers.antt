use Rattle.linked_laws.proofs.Formed.{formed}
use Rattle.mpx_words.proofs.link.spell_linked.Goals as goal

pub write_image-requires : goal.write_image-requires
write_image-requires c = formed c.args.objects.now c.in_ok-image.image (record { objects = c.requires.objects; image = c.in_ok-image.ensures.image })
