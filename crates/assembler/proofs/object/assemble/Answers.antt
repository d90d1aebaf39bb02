use Rattle.std.proofs.Common.{sym, subst}
use Rattle.obj_file.specs.Object.{IsObject}
use Rattle.assembler.specs.Seen.{seen_draft}
use Rattle.assembler.proofs.FormedLemmas.{text_formed, symbols_written}
use Rattle.assembler.proofs.object.assemble.Goals as goal

pub built-requires : goal.built-requires
built-requires c = symbols_written (seen_draft c.in-Ok.draft) (text_formed c.args.text.now (seen_draft c.in-Ok.draft) c.requires c.in-Ok.ensures)

pub returns-in_ok-built-in-Ok-clause-formed : goal.returns-in_ok-built-in-Ok-clause-formed
returns-in_ok-built-in-Ok-clause-formed c = subst IsObject (sym c.in_ok-built-in-Ok.ensures) (text_formed c.args.text.now (seen_draft c.in-Ok.draft) c.requires c.in-Ok.ensures)
