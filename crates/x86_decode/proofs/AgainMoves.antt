-- The moves are read again from their spellings.
use Rattle.std.proofs.Common.{◌≡◌, ◌<◌, IsTrue, true, false, ℕ, arith, ℤ, pos, refl}
use Rattle.std.specs.Prelude.{◌&&◌}
use Rattle.std.proofs.lemmas.Bool.{and_parts}
use Rattle.std.proofs.lemmas.Grind.{common_steps}
use Rattle.x86_forms.specs.declared.instr.Instr.TheVariants as i
use Rattle.x86_forms.specs.declared.instr.Reg.{Reg}
use Rattle.x86_forms.specs.declared.instr.Mem.{Mem}
use Rattle.x86_forms.specs.declared.instr.Rm.{Rm}
use Rattle.x86_forms.specs.declared.instr.Rm.TheVariants.{Mem as InMem}
use Rattle.x86_forms.specs.Fits.{fits_8, fits_16, fits_32}
use Rattle.x86_forms.specs.Validity.{valid_of, rm_ok, mem_ok, width_ok, narrow_ok, word_ok, imm_ok}
use Rattle.x86_decode.specs.declared.rows.Row.TheVariants.{MovTo, MovFrom, MovMem, Movsxd, Movzx, Movsx, Lea}
use Rattle.x86_decode.specs.Rows.{row_of, one_plain, two_plain, one_66, build, imm_len, is_bare, is_in_opcode, any_reg, takes, takes_reg, low_in_reg, low_in_rm, allows_rip, allows_no_base}
use Rattle.x86_decode.specs.Steps.{imm_value, imm_fine}
use Rattle.x86_decode.proofs.Cases.{width_cases, narrow_cases, word_cases}
use Rattle.x86_decode.proofs.ReadForms.{ReadsAgain, read_plain, read_66, any_rm, any_base, takes_register, takes_digit}
use Rattle.x86_decode.proofs.ReadImm.{HasImm, imm_0, imm_1, imm_2, imm_4, signed_1, signed_2, signed_4}
use Rattle.x86_decode.proofs.ReadRex.{Takes}

takes-MovTo : (w : ℕ) (r : Reg) (rm : Rm) → r.0 < 16 → IsTrue (rm_ok rm) → Takes (MovTo w) r.0 rm
unfolding is_bare is_in_opcode any_reg takes takes_reg allows_rip allows_no_base
takes-MovTo w r rm h k = takes_register (MovTo w) r.0 rm refl refl refl refl (any_rm (MovTo w) rm (λ r. refl) refl refl) h k

mov_to : (w : ℕ) (r : Reg) (rm : Rm) → width_ok w ≡ true → r.0 < 16 → IsTrue (rm_ok rm) → ReadsAgain (i.MovTo w r rm)
unfolding row_of one_plain one_66 build imm_len low_in_reg low_in_rm
mov_to w r rm v h k =
    width_cases w (λ w. ReadsAgain (i.MovTo w r rm)) v
    (read_plain false false 0x88 (MovTo 8) r.0 rm 0 (pos 0) refl refl (takes-MovTo 8 r rm h k) (λ d. imm_0 d (MovTo 8) r.0 rm refl))
    (read_66 0x89 (MovTo 16) r.0 rm 0 (pos 0) refl refl (takes-MovTo 16 r rm h k) refl (λ d. imm_0 d (MovTo 16) r.0 rm refl))
    (read_plain false false 0x89 (MovTo 32) r.0 rm 0 (pos 0) refl refl (takes-MovTo 32 r rm h k) (λ d. imm_0 d (MovTo 32) r.0 rm refl))
    (read_plain true false 0x89 (MovTo 64) r.0 rm 0 (pos 0) refl refl (takes-MovTo 64 r rm h k) (λ d. imm_0 d (MovTo 64) r.0 rm refl))

pub again-MovTo : (w : ℕ) (r : Reg) (rm : Rm) → IsTrue (valid_of (i.MovTo w r rm)) → ReadsAgain (i.MovTo w r rm)
again-MovTo w r rm v = mov_to w r rm (grind (arith, common_steps)) (grind (arith, common_steps)) (grind (arith, common_steps))

takes-MovFrom : (w : ℕ) (r : Reg) (m : Mem) → r.0 < 16 → IsTrue (mem_ok m) → Takes (MovFrom w) r.0 (InMem m)
unfolding is_bare is_in_opcode any_reg takes allows_rip allows_no_base
takes-MovFrom w r m h k = takes_register (MovFrom w) r.0 (InMem m) refl refl refl refl (any_base (MovFrom w) m.base refl refl) h k

mov_from : (w : ℕ) (r : Reg) (m : Mem) → width_ok w ≡ true → r.0 < 16 → IsTrue (mem_ok m) → ReadsAgain (i.MovFrom w r m)
unfolding row_of one_plain one_66 build imm_len low_in_reg low_in_rm
mov_from w r m v h k =
    width_cases w (λ w. ReadsAgain (i.MovFrom w r m)) v
    (read_plain false false 0x8A (MovFrom 8) r.0 (InMem m) 0 (pos 0) refl refl (takes-MovFrom 8 r m h k) (λ d. imm_0 d (MovFrom 8) r.0 (InMem m) refl))
    (read_66 0x8B (MovFrom 16) r.0 (InMem m) 0 (pos 0) refl refl (takes-MovFrom 16 r m h k) refl (λ d. imm_0 d (MovFrom 16) r.0 (InMem m) refl))
    (read_plain false false 0x8B (MovFrom 32) r.0 (InMem m) 0 (pos 0) refl refl (takes-MovFrom 32 r m h k) (λ d. imm_0 d (MovFrom 32) r.0 (InMem m) refl))
    (read_plain true false 0x8B (MovFrom 64) r.0 (InMem m) 0 (pos 0) refl refl (takes-MovFrom 64 r m h k) (λ d. imm_0 d (MovFrom 64) r.0 (InMem m) refl))

pub again-MovFrom : (w : ℕ) (r : Reg) (m : Mem) → IsTrue (valid_of (i.MovFrom w r m)) → ReadsAgain (i.MovFrom w r m)
again-MovFrom w r m v = mov_from w r m (grind (arith, common_steps)) (grind (arith, common_steps)) (grind (arith, common_steps))

takes-MovMem : (w : ℕ) (m : Mem) → IsTrue (mem_ok m) → Takes (MovMem w) 0 (InMem m)
unfolding is_bare is_in_opcode takes allows_rip allows_no_base
takes-MovMem w m k = takes_digit (MovMem w) 0 (InMem m) refl refl refl (any_base (MovMem w) m.base refl refl) (omega arith) k

has-MovMem_8 : (imm : ℤ) → IsTrue (fits_8 imm) → HasImm (MovMem 8) 1 imm
unfolding imm_len imm_value imm_fine
has-MovMem_8 imm k = record { bytes = refl; value = signed_1 imm k; fine = refl }

has-MovMem_16 : (imm : ℤ) → IsTrue (fits_16 imm) → HasImm (MovMem 16) 2 imm
unfolding imm_len imm_value imm_fine
has-MovMem_16 imm k = record { bytes = refl; value = signed_2 imm k; fine = refl }

has-MovMem_32 : (imm : ℤ) → IsTrue (fits_32 imm) → HasImm (MovMem 32) 4 imm
unfolding imm_len imm_value imm_fine
has-MovMem_32 imm k = record { bytes = refl; value = signed_4 imm k; fine = refl }

has-MovMem_64 : (imm : ℤ) → IsTrue (fits_32 imm) → HasImm (MovMem 64) 4 imm
unfolding imm_len imm_value imm_fine
has-MovMem_64 imm k = record { bytes = refl; value = signed_4 imm k; fine = refl }

mov_mem : (w : ℕ) (m : Mem) (imm : ℤ) → width_ok w ≡ true → IsTrue (mem_ok m) → IsTrue (imm_ok w imm) → ReadsAgain (i.MovMemImm w m imm)
unfolding row_of one_plain one_66 build low_in_reg low_in_rm
mov_mem w m imm v k =
    width_cases w (λ w. IsTrue (imm_ok w imm) → ReadsAgain (i.MovMemImm w m imm)) v
    (λ f. read_plain false false 0xC6 (MovMem 8) 0 (InMem m) 1 imm refl refl (takes-MovMem 8 m k) (λ d. imm_1 d (MovMem 8) 0 (InMem m) imm (has-MovMem_8 imm f)))
    (λ f. read_66 0xC7 (MovMem 16) 0 (InMem m) 2 imm refl refl (takes-MovMem 16 m k) refl (λ d. imm_2 d (MovMem 16) 0 (InMem m) imm (has-MovMem_16 imm f)))
    (λ f. read_plain false false 0xC7 (MovMem 32) 0 (InMem m) 4 imm refl refl (takes-MovMem 32 m k) (λ d. imm_4 d (MovMem 32) 0 (InMem m) imm (has-MovMem_32 imm f)))
    (λ f. read_plain true false 0xC7 (MovMem 64) 0 (InMem m) 4 imm refl refl (takes-MovMem 64 m k) (λ d. imm_4 d (MovMem 64) 0 (InMem m) imm (has-MovMem_64 imm f)))

pub again-MovMemImm : (w : ℕ) (m : Mem) (imm : ℤ) → IsTrue (valid_of (i.MovMemImm w m imm)) → ReadsAgain (i.MovMemImm w m imm)
again-MovMemImm w m imm v =
    let k = and_parts (width_ok w && mem_ok m) (imm_ok w imm) v in let l = and_parts (width_ok w) (mem_ok m) k.0 in mov_mem w m imm l.0 l.1 k.1

takes-Movsxd : (r : Reg) (rm : Rm) → r.0 < 16 → IsTrue (rm_ok rm) → Takes Movsxd r.0 rm
unfolding is_bare is_in_opcode any_reg takes takes_reg allows_rip allows_no_base
takes-Movsxd r rm h k = takes_register Movsxd r.0 rm refl refl refl refl (any_rm Movsxd rm (λ r. refl) refl refl) h k

movsxd : (r : Reg) (rm : Rm) → r.0 < 16 → IsTrue (rm_ok rm) → ReadsAgain (i.Movsxd r rm)
unfolding row_of one_plain build imm_len low_in_reg low_in_rm
movsxd r rm h k = read_plain true false 0x63 Movsxd r.0 rm 0 (pos 0) refl refl (takes-Movsxd r rm h k) (λ d. imm_0 d Movsxd r.0 rm refl)

pub again-Movsxd : (r : Reg) (rm : Rm) → IsTrue (valid_of (i.Movsxd r rm)) → ReadsAgain (i.Movsxd r rm)
again-Movsxd r rm v = movsxd r rm (grind (arith, common_steps)) (grind (arith, common_steps))

takes-Movzx : (f : ℕ) (r : Reg) (rm : Rm) → r.0 < 16 → IsTrue (rm_ok rm) → Takes (Movzx f) r.0 rm
unfolding is_bare is_in_opcode any_reg takes takes_reg allows_rip allows_no_base
takes-Movzx f r rm h k = takes_register (Movzx f) r.0 rm refl refl refl refl (any_rm (Movzx f) rm (λ r. refl) refl refl) h k

movzx : (f : ℕ) (r : Reg) (rm : Rm) → narrow_ok f ≡ true → r.0 < 16 → IsTrue (rm_ok rm) → ReadsAgain (i.Movzx f r rm)
unfolding row_of two_plain build imm_len low_in_reg low_in_rm
movzx f r rm v h k =
    narrow_cases f (λ f. ReadsAgain (i.Movzx f r rm)) v
    (read_plain false true 0xB6 (Movzx 8) r.0 rm 0 (pos 0) refl refl (takes-Movzx 8 r rm h k) (λ d. imm_0 d (Movzx 8) r.0 rm refl))
    (read_plain false true 0xB7 (Movzx 16) r.0 rm 0 (pos 0) refl refl (takes-Movzx 16 r rm h k) (λ d. imm_0 d (Movzx 16) r.0 rm refl))

pub again-Movzx : (f : ℕ) (r : Reg) (rm : Rm) → IsTrue (valid_of (i.Movzx f r rm)) → ReadsAgain (i.Movzx f r rm)
again-Movzx f r rm v = movzx f r rm (grind (arith, common_steps)) (grind (arith, common_steps)) (grind (arith, common_steps))

takes-Movsx : (w f : ℕ) (r : Reg) (rm : Rm) → r.0 < 16 → IsTrue (rm_ok rm) → Takes (Movsx w f) r.0 rm
unfolding is_bare is_in_opcode any_reg takes takes_reg allows_rip allows_no_base
takes-Movsx w f r rm h k = takes_register (Movsx w f) r.0 rm refl refl refl refl (any_rm (Movsx w f) rm (λ r. refl) refl refl) h k

movsx : (w f : ℕ) (r : Reg) (rm : Rm) → word_ok w ≡ true → narrow_ok f ≡ true → r.0 < 16 → IsTrue (rm_ok rm) → ReadsAgain (i.Movsx w f r rm)
unfolding row_of two_plain build imm_len low_in_reg low_in_rm
movsx w f r rm u v h k =
    word_cases w (λ w. ReadsAgain (i.Movsx w f r rm)) u
    (narrow_cases f (λ f. ReadsAgain (i.Movsx 32 f r rm)) v
    (read_plain false true 0xBE (Movsx 32 8) r.0 rm 0 (pos 0) refl refl (takes-Movsx 32 8 r rm h k) (λ d. imm_0 d (Movsx 32 8) r.0 rm refl))
    (read_plain false true 0xBF (Movsx 32 16) r.0 rm 0 (pos 0) refl refl (takes-Movsx 32 16 r rm h k) (λ d. imm_0 d (Movsx 32 16) r.0 rm refl)))
    (narrow_cases f (λ f. ReadsAgain (i.Movsx 64 f r rm)) v
    (read_plain true true 0xBE (Movsx 64 8) r.0 rm 0 (pos 0) refl refl (takes-Movsx 64 8 r rm h k) (λ d. imm_0 d (Movsx 64 8) r.0 rm refl))
    (read_plain true true 0xBF (Movsx 64 16) r.0 rm 0 (pos 0) refl refl (takes-Movsx 64 16 r rm h k) (λ d. imm_0 d (Movsx 64 16) r.0 rm refl)))

pub again-Movsx : (w f : ℕ) (r : Reg) (rm : Rm) → IsTrue (valid_of (i.Movsx w f r rm)) → ReadsAgain (i.Movsx w f r rm)
again-Movsx w f r rm v = movsx w f r rm (grind (arith, common_steps)) (grind (arith, common_steps)) (grind (arith, common_steps)) (grind (arith, common_steps))

takes-Lea : (r : Reg) (m : Mem) → r.0 < 16 → IsTrue (mem_ok m) → Takes Lea r.0 (InMem m)
unfolding is_bare is_in_opcode any_reg takes allows_rip allows_no_base
takes-Lea r m h k = takes_register Lea r.0 (InMem m) refl refl refl refl (any_base Lea m.base refl refl) h k

lea : (r : Reg) (m : Mem) → r.0 < 16 → IsTrue (mem_ok m) → ReadsAgain (i.Lea r m)
unfolding row_of one_plain build imm_len low_in_reg low_in_rm
lea r m h k = read_plain true false 0x8D Lea r.0 (InMem m) 0 (pos 0) refl refl (takes-Lea r m h k) (λ d. imm_0 d Lea r.0 (InMem m) refl)

pub again-Lea : (r : Reg) (m : Mem) → IsTrue (valid_of (i.Lea r m)) → ReadsAgain (i.Lea r m)
again-Lea r m v = lea r m (grind (arith, common_steps)) (grind (arith, common_steps))
