use Rattle.std.proofs.Common.{◌∙◌, ap, sym, cond, ◌++◌, ◌∷◌, []}
use Rattle.asm_text.specs.Assembly.{import}
use Rattle.assembler.proofs.UseLemmas.{used_is}
use Rattle.asm_text.specs.Seen.{seen_line}
use Rattle.assembler.proofs.draft.use_symbol.Goals as goal

pub returns-in_ok-add : goal.returns-in_ok-add
returns-in_ok-add c =
    c.in_ok-add.ensures
    ∙ sym (used_is c.args.symbols.now (seen_line c.args.l.now) c.args.l.now.kind ∙ ap (λ b. cond b (c.args.symbols.now ++ import c.args.l.now.name.now ∷ []) c.args.symbols.now) (sym c.is_import.ensures ∙ c.if-is_import.true))

pub returns-else-is_import : goal.returns-else-is_import
returns-else-is_import c =
    sym (used_is c.args.symbols.now (seen_line c.args.l.now) c.args.l.now.kind ∙ ap (λ b. cond b (c.args.symbols.now ++ import c.args.l.now.name.now ∷ []) c.args.symbols.now) (sym c.is_import.ensures ∙ c.if-is_import.false))
