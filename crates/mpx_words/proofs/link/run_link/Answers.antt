use Rattle.std.proofs.Common.{◌∙◌, ℕ, List, [], refl, subst}
use Rattle.std.specs.Prelude.{map, string_bytes}
use Rattle.mx_base.specs.Outside.{FileFacts, HoldsWhereTold, KeepsWhereTold, HasRisen}
use Rattle.mpx_words.specs.Linking.{MayLink}
use Rattle.mpx_words.proofs.Linking.{refused_answers, fault_answers, serves_image, file_told, fault_told, file_counts, fault_counts}
use Rattle.mpx_words.proofs.Printing.{wrote_answers, unwritten_answers}
use Rattle.mpx_words.proofs.link.run_link.Goals as goal

pub returns-in-Err-File : goal.returns-in-Err-File
returns-in-Err-File g c = λ reads input out.
    refused_answers reads _ _ _ _ _ (record { files = c.in-Err-File.ensures.contents; writes = c.in-Err-File.ensures.write_faults; input = refl; out = refl }) c.in-Err-File.refused.file.now c.in-Err-File.refused.end
    (file_told (MayLink (g.F.Files.contents c.args.files.now) (map string_bytes c.args.names.now)) c.in-Err-File.field-0 c.in-Err-File.refused c.in-Err-File.field-0-is c.in-Err-File.ensures.spells) (file_counts c.in-Err-File.field-0 _ _ c.in-Err-File.ensures.counts c.in-Err-File.refused c.in-Err-File.field-0-is) c.report.ensures

pub returns-in-Err-Link : goal.returns-in-Err-Link
returns-in-Err-Link g c = λ reads input out.
    fault_answers reads _ _ _ _ _ (record { files = c.in-Err-Link.ensures.contents; writes = c.in-Err-Link.ensures.write_faults; input = refl; out = refl })
    (fault_counts c.in-Err-Link.field-0 _ _ c.in-Err-Link.ensures.counts c.in-Err-Link.fault c.in-Err-Link.field-0-is) c.in-Err-Link.fault (fault_told (MayLink (g.F.Files.contents c.args.files.now) (map string_bytes c.args.names.now)) c.in-Err-Link.field-0 c.in-Err-Link.fault c.in-Err-Link.field-0-is c.in-Err-Link.ensures.spells) c.report_fault.ensures

pub returns-in-Ok-write_all : goal.returns-in-Ok-write_all
returns-in-Ok-write_all g c = λ reads input out.
    wrote_answers reads _ _ _ _ c.args.to.now c.in-Ok.bytes.items (serves_image reads c.args.to.now _ _ c.in-Ok.ensures.spells.0 c.in-Ok.bytes.items c.in-Ok.ensures.spells.1 c.in-Ok.ensures.spells.2)
    (λ n apart. subst (λ (f : FileFacts). KeepsWhereTold f (g.F.Files.contents c.write_all.new.self n)) (c.in-Ok.ensures.contents n) (c.in-Ok-write_all.ensures.others n apart))
    (c.in-Ok-write_all.ensures.read_faults ∙ c.in-Ok.ensures.counts) refl refl refl refl
    (subst (λ (b : List ℕ). HoldsWhereTold (g.F.Files.contents c.write_all.new.self c.args.to.now) b) c.as_slice.ensures.value c.in-Ok-write_all.ensures.written)
    (c.in-Ok-write_all.ensures.write_faults ∙ c.in-Ok.ensures.write_faults)

pub returns : goal.returns
returns g c = λ reads input out.
    unwritten_answers reads _ _ _ _ c.args.to.now c.in-Ok.bytes.items (serves_image reads c.args.to.now _ _ c.in-Ok.ensures.spells.0 c.in-Ok.bytes.items c.in-Ok.ensures.spells.1 c.in-Ok.ensures.spells.2)
    (λ n apart. subst (λ (f : FileFacts). KeepsWhereTold f (g.F.Files.contents c.write_all.new.self n)) (c.in-Ok.ensures.contents n) (c.in-Err.ensures.others n apart))
    (c.in-Err.ensures.read_faults ∙ c.in-Ok.ensures.counts) refl refl [] c.in-Err.ensures.refused
    (subst (λ (n : ℕ). HasRisen n (g.F.Files.write_faults c.write_all.new.self)) c.in-Ok.ensures.write_faults c.in-Err.ensures.write_faults) c.report-in-Err.ensures
