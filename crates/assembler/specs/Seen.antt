-- What the code's draft shows.
use Rattle.asm_text.specs.Assembly.{Draft}
use Rattle.assembler.specs.declared.draft.Draft.{Draft as HeldDraft}

abbrev pub seen_draft : HeldDraft → Draft
seen_draft d = record {
  code = d.code.items;
  stored = d.stored.items;
  labels = d.labels;
  symbols = d.symbols;
  code_fixes = d.code_fixes.items;
  stored_fixes = d.stored_fixes.items;
}
