-- Each mnemonic is a word that is found, and not the prefix.
use Rattle.std.proofs.Common.{◌≡◌, ℕ, zero, suc, ◌<◌, true, false, true≢false, Some, refl, sym, arith}
use Rattle.std.specs.Prelude.{codes, slice_index}
use Rattle.std.specs.List.{list_all}
use Rattle.std.specs.Str.{bytes_eq}
use Rattle.std.specs.Char.{is_ascii_alphabetic}
use Rattle.x86_forms.specs.Validity.{condition_ok}
use Rattle.asm_names.specs.First.{first_from}
use Rattle.asm_names.specs.Mnemonics.{alu_text, one_text, shift_text, set_text, jump_text, mnemonic_text, mnemonic_at, mnemonic_of}
use Rattle.asm_names.specs.declared.mnemonic.Mnemonic.{Mnemonic}
use Rattle.asm_names.specs.declared.mnemonic.Mnemonic.TheVariants as m
use Rattle.asm_text.specs.Lexical.{is_word_byte}
use Rattle.listing_laws.proofs.Words.{IsMnemonic}

tried : (x : Mnemonic) → list_all is_word_byte (mnemonic_text x) ≡ true → is_ascii_alphabetic (slice_index (mnemonic_text x) 0) ≡ true
    → mnemonic_of (mnemonic_text x) ≡ Some x → bytes_eq (mnemonic_text x) (codes "bnd") ≡ false → IsMnemonic x
tried x bytes letter found no_prefix = record { word = record { bytes = bytes; letter = letter }; found = found; no_prefix = no_prefix }

pub is_mov : IsMnemonic m.Mov
unfolding mnemonic_text mnemonic_of mnemonic_at first_from alu_text one_text shift_text set_text jump_text
is_mov = tried m.Mov refl refl refl refl

pub is_movsxd : IsMnemonic m.Movsxd
unfolding mnemonic_text mnemonic_of mnemonic_at first_from alu_text one_text shift_text set_text jump_text
is_movsxd = tried m.Movsxd refl refl refl refl

pub is_movzx : IsMnemonic m.Movzx
unfolding mnemonic_text mnemonic_of mnemonic_at first_from alu_text one_text shift_text set_text jump_text
is_movzx = tried m.Movzx refl refl refl refl

pub is_movsx : IsMnemonic m.Movsx
unfolding mnemonic_text mnemonic_of mnemonic_at first_from alu_text one_text shift_text set_text jump_text
is_movsx = tried m.Movsx refl refl refl refl

pub is_lea : IsMnemonic m.Lea
unfolding mnemonic_text mnemonic_of mnemonic_at first_from alu_text one_text shift_text set_text jump_text
is_lea = tried m.Lea refl refl refl refl

pub is_test : IsMnemonic m.Test
unfolding mnemonic_text mnemonic_of mnemonic_at first_from alu_text one_text shift_text set_text jump_text
is_test = tried m.Test refl refl refl refl

pub is_imul : IsMnemonic m.Imul
unfolding mnemonic_text mnemonic_of mnemonic_at first_from alu_text one_text shift_text set_text jump_text
is_imul = tried m.Imul refl refl refl refl

pub is_cdq : IsMnemonic m.Cdq
unfolding mnemonic_text mnemonic_of mnemonic_at first_from alu_text one_text shift_text set_text jump_text
is_cdq = tried m.Cdq refl refl refl refl

pub is_cqo : IsMnemonic m.Cqo
unfolding mnemonic_text mnemonic_of mnemonic_at first_from alu_text one_text shift_text set_text jump_text
is_cqo = tried m.Cqo refl refl refl refl

pub is_push : IsMnemonic m.Push
unfolding mnemonic_text mnemonic_of mnemonic_at first_from alu_text one_text shift_text set_text jump_text
is_push = tried m.Push refl refl refl refl

pub is_pop : IsMnemonic m.Pop
unfolding mnemonic_text mnemonic_of mnemonic_at first_from alu_text one_text shift_text set_text jump_text
is_pop = tried m.Pop refl refl refl refl

pub is_call : IsMnemonic m.Call
unfolding mnemonic_text mnemonic_of mnemonic_at first_from alu_text one_text shift_text set_text jump_text
is_call = tried m.Call refl refl refl refl

pub is_jmp : IsMnemonic m.Jmp
unfolding mnemonic_text mnemonic_of mnemonic_at first_from alu_text one_text shift_text set_text jump_text
is_jmp = tried m.Jmp refl refl refl refl

pub is_ret : IsMnemonic m.Ret
unfolding mnemonic_text mnemonic_of mnemonic_at first_from alu_text one_text shift_text set_text jump_text
is_ret = tried m.Ret refl refl refl refl

pub is_syscall : IsMnemonic m.Syscall
unfolding mnemonic_text mnemonic_of mnemonic_at first_from alu_text one_text shift_text set_text jump_text
is_syscall = tried m.Syscall refl refl refl refl

pub is_ud2 : IsMnemonic m.Ud2
unfolding mnemonic_text mnemonic_of mnemonic_at first_from alu_text one_text shift_text set_text jump_text
is_ud2 = tried m.Ud2 refl refl refl refl

pub is_nop : IsMnemonic m.Nop
unfolding mnemonic_text mnemonic_of mnemonic_at first_from alu_text one_text shift_text set_text jump_text
is_nop = tried m.Nop refl refl refl refl

pub is_bndmk : IsMnemonic m.Bndmk
unfolding mnemonic_text mnemonic_of mnemonic_at first_from alu_text one_text shift_text set_text jump_text
is_bndmk = tried m.Bndmk refl refl refl refl

pub is_bndcl : IsMnemonic m.Bndcl
unfolding mnemonic_text mnemonic_of mnemonic_at first_from alu_text one_text shift_text set_text jump_text
is_bndcl = tried m.Bndcl refl refl refl refl

pub is_bndcu : IsMnemonic m.Bndcu
unfolding mnemonic_text mnemonic_of mnemonic_at first_from alu_text one_text shift_text set_text jump_text
is_bndcu = tried m.Bndcu refl refl refl refl

pub is_bndcn : IsMnemonic m.Bndcn
unfolding mnemonic_text mnemonic_of mnemonic_at first_from alu_text one_text shift_text set_text jump_text
is_bndcn = tried m.Bndcn refl refl refl refl

pub is_bndmov : IsMnemonic m.Bndmov
unfolding mnemonic_text mnemonic_of mnemonic_at first_from alu_text one_text shift_text set_text jump_text
is_bndmov = tried m.Bndmov refl refl refl refl

pub is_bndldx : IsMnemonic m.Bndldx
unfolding mnemonic_text mnemonic_of mnemonic_at first_from alu_text one_text shift_text set_text jump_text
is_bndldx = tried m.Bndldx refl refl refl refl

pub is_bndstx : IsMnemonic m.Bndstx
unfolding mnemonic_text mnemonic_of mnemonic_at first_from alu_text one_text shift_text set_text jump_text
is_bndstx = tried m.Bndstx refl refl refl refl

pub is_alu : (op : ℕ) → op < 6 → IsMnemonic (m.Alu op)
unfolding mnemonic_text mnemonic_of mnemonic_at first_from alu_text one_text shift_text set_text jump_text
is_alu zero h = tried (m.Alu 0) refl refl refl refl
is_alu (suc zero) h = tried (m.Alu 1) refl refl refl refl
is_alu (suc (suc zero)) h = tried (m.Alu 2) refl refl refl refl
is_alu (suc (suc (suc zero))) h = tried (m.Alu 3) refl refl refl refl
is_alu (suc (suc (suc (suc zero)))) h = tried (m.Alu 4) refl refl refl refl
is_alu (suc (suc (suc (suc (suc zero))))) h = tried (m.Alu 5) refl refl refl refl
is_alu (suc (suc (suc (suc (suc (suc n)))))) h = absurd (omega arith)

pub is_one : (op : ℕ) → op < 4 → IsMnemonic (m.One op)
unfolding mnemonic_text mnemonic_of mnemonic_at first_from alu_text one_text shift_text set_text jump_text
is_one zero h = tried (m.One 0) refl refl refl refl
is_one (suc zero) h = tried (m.One 1) refl refl refl refl
is_one (suc (suc zero)) h = tried (m.One 2) refl refl refl refl
is_one (suc (suc (suc zero))) h = tried (m.One 3) refl refl refl refl
is_one (suc (suc (suc (suc n)))) h = absurd (omega arith)

pub is_shift : (op : ℕ) → op < 3 → IsMnemonic (m.Shift op)
unfolding mnemonic_text mnemonic_of mnemonic_at first_from alu_text one_text shift_text set_text jump_text
is_shift zero h = tried (m.Shift 0) refl refl refl refl
is_shift (suc zero) h = tried (m.Shift 1) refl refl refl refl
is_shift (suc (suc zero)) h = tried (m.Shift 2) refl refl refl refl
is_shift (suc (suc (suc n))) h = absurd (omega arith)

pub is_set : (op : ℕ) → op < 16 → condition_ok op ≡ true → IsMnemonic (m.Set op)
unfolding mnemonic_text mnemonic_of mnemonic_at first_from alu_text one_text shift_text set_text jump_text
is_set zero h ok = tried (m.Set 0) refl refl refl refl
is_set (suc zero) h ok = tried (m.Set 1) refl refl refl refl
is_set (suc (suc zero)) h ok = tried (m.Set 2) refl refl refl refl
is_set (suc (suc (suc zero))) h ok = tried (m.Set 3) refl refl refl refl
is_set (suc (suc (suc (suc zero)))) h ok = tried (m.Set 4) refl refl refl refl
is_set (suc (suc (suc (suc (suc zero))))) h ok = tried (m.Set 5) refl refl refl refl
is_set (suc (suc (suc (suc (suc (suc zero)))))) h ok = tried (m.Set 6) refl refl refl refl
is_set (suc (suc (suc (suc (suc (suc (suc zero))))))) h ok = tried (m.Set 7) refl refl refl refl
is_set (suc (suc (suc (suc (suc (suc (suc (suc zero)))))))) h ok = tried (m.Set 8) refl refl refl refl
is_set (suc (suc (suc (suc (suc (suc (suc (suc (suc zero))))))))) h ok = tried (m.Set 9) refl refl refl refl
is_set (suc (suc (suc (suc (suc (suc (suc (suc (suc (suc zero)))))))))) h ok = absurd (true≢false (sym ok))
is_set (suc (suc (suc (suc (suc (suc (suc (suc (suc (suc (suc zero))))))))))) h ok = absurd (true≢false (sym ok))
is_set (suc (suc (suc (suc (suc (suc (suc (suc (suc (suc (suc (suc zero)))))))))))) h ok = tried (m.Set 12) refl refl refl refl
is_set (suc (suc (suc (suc (suc (suc (suc (suc (suc (suc (suc (suc (suc zero))))))))))))) h ok = tried (m.Set 13) refl refl refl refl
is_set (suc (suc (suc (suc (suc (suc (suc (suc (suc (suc (suc (suc (suc (suc zero)))))))))))))) h ok = tried (m.Set 14) refl refl refl refl
is_set (suc (suc (suc (suc (suc (suc (suc (suc (suc (suc (suc (suc (suc (suc (suc zero))))))))))))))) h ok = tried (m.Set 15) refl refl refl refl
is_set (suc (suc (suc (suc (suc (suc (suc (suc (suc (suc (suc (suc (suc (suc (suc (suc n)))))))))))))))) h ok = absurd (omega arith)

pub is_jump : (op : ℕ) → op < 16 → condition_ok op ≡ true → IsMnemonic (m.JumpIf op)
unfolding mnemonic_text mnemonic_of mnemonic_at first_from alu_text one_text shift_text set_text jump_text
is_jump zero h ok = tried (m.JumpIf 0) refl refl refl refl
is_jump (suc zero) h ok = tried (m.JumpIf 1) refl refl refl refl
is_jump (suc (suc zero)) h ok = tried (m.JumpIf 2) refl refl refl refl
is_jump (suc (suc (suc zero))) h ok = tried (m.JumpIf 3) refl refl refl refl
is_jump (suc (suc (suc (suc zero)))) h ok = tried (m.JumpIf 4) refl refl refl refl
is_jump (suc (suc (suc (suc (suc zero))))) h ok = tried (m.JumpIf 5) refl refl refl refl
is_jump (suc (suc (suc (suc (suc (suc zero)))))) h ok = tried (m.JumpIf 6) refl refl refl refl
is_jump (suc (suc (suc (suc (suc (suc (suc zero))))))) h ok = tried (m.JumpIf 7) refl refl refl refl
is_jump (suc (suc (suc (suc (suc (suc (suc (suc zero)))))))) h ok = tried (m.JumpIf 8) refl refl refl refl
is_jump (suc (suc (suc (suc (suc (suc (suc (suc (suc zero))))))))) h ok = tried (m.JumpIf 9) refl refl refl refl
is_jump (suc (suc (suc (suc (suc (suc (suc (suc (suc (suc zero)))))))))) h ok = absurd (true≢false (sym ok))
is_jump (suc (suc (suc (suc (suc (suc (suc (suc (suc (suc (suc zero))))))))))) h ok = absurd (true≢false (sym ok))
is_jump (suc (suc (suc (suc (suc (suc (suc (suc (suc (suc (suc (suc zero)))))))))))) h ok = tried (m.JumpIf 12) refl refl refl refl
is_jump (suc (suc (suc (suc (suc (suc (suc (suc (suc (suc (suc (suc (suc zero))))))))))))) h ok = tried (m.JumpIf 13) refl refl refl refl
is_jump (suc (suc (suc (suc (suc (suc (suc (suc (suc (suc (suc (suc (suc (suc zero)))))))))))))) h ok = tried (m.JumpIf 14) refl refl refl refl
is_jump (suc (suc (suc (suc (suc (suc (suc (suc (suc (suc (suc (suc (suc (suc (suc zero))))))))))))))) h ok = tried (m.JumpIf 15) refl refl refl refl
is_jump (suc (suc (suc (suc (suc (suc (suc (suc (suc (suc (suc (suc (suc (suc (suc (suc n)))))))))))))))) h ok = absurd (omega arith)
