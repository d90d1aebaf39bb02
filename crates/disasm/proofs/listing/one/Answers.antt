use Rattle.std.proofs.Common.{refl, ap, ◌∙◌}
use Rattle.disasm.specs.Listing.{Instruction}
use Rattle.disasm.specs.Written.{text_of_written}
use Rattle.disasm.proofs.Lines.{line_has_bytes}
use Rattle.disasm.proofs.listing.one.Goals as goal

pub returns-in-Ok : goal.returns-in-Ok
returns-in-Ok c =
    let begins = (c.in-Ok.ensures.found c.in-Ok.instr c.in-Ok.len).0 refl in
    let shown = Instruction c.in-Ok.instr begins (c.text_of.ensures ∙ ap text_of_written c.written_of.ensures) in
    record { line = shown; len = line_has_bytes _ _ _ c.requires shown }
