-- Instructions whose opcode says all, or holds a register, are read again from their spellings.
use Rattle.std.proofs.Common.{◌≡◌, ◌<◌, ◌+◌, ◌/◌, ◌%◌, IsTrue, true, false, Bool, ℕ, arith, ℤ, refl, ◌∙◌}
use Rattle.std.specs.Prelude.{◌&&◌, if◌then◌else◌}
use Rattle.std.proofs.lemmas.Bool.{and_parts, cond_both, ltb-true}
use Rattle.std.proofs.lemmas.Grind.{common_steps}
use Rattle.x86_forms.specs.declared.instr.Instr.TheVariants as i
use Rattle.x86_forms.specs.declared.instr.Reg.{Reg}
use Rattle.x86_forms.specs.declared.instr.Rm.TheVariants.{Reg as InReg}
use Rattle.x86_forms.specs.declared.layout.Layout.{Layout}
use Rattle.x86_forms.specs.declared.layout.Operands.TheVariants.{Bare, InOpcode}
use Rattle.x86_forms.specs.Fits.{fits_32, fits_64}
use Rattle.x86_forms.specs.Layout.{with_imm, operands, one_byte, two_byte, bnd_prefix}
use Rattle.x86_forms.specs.Spelling.{bytes_of, low_bytes, prefix_bytes, rex_bytes, rex_bits, high_bits, forces_rex, escape_bytes, operand_bytes}
use Rattle.x86_forms.specs.Validity.{valid_of, word_ok, condition_ok, reg_ok, mov_imm_ok}
use Rattle.x86_decode.specs.declared.rows.Row.{Row}
use Rattle.x86_decode.specs.declared.rows.Row.TheVariants.{MovMem, MovImm, CallRel, JmpRel, Jcc}
use Rattle.x86_decode.specs.declared.states.Head.{Head}
use Rattle.x86_decode.specs.declared.states.State.TheVariants.{Start}
use Rattle.x86_decode.specs.declared.states.Next.TheVariants.{Go, End}
use Rattle.x86_decode.specs.Rows.{row_of, one_plain, two_plain, one_f2, two_f2, build, imm_len, is_bare, is_in_opcode, takes, takes_reg, low_in_reg, low_in_rm}
use Rattle.x86_decode.specs.Steps.{done, register, imm_value, imm_fine, step_of, after_prefix, escape_or_opcode, opcode_step, begin}
use Rattle.x86_decode.proofs.Cases.{word_cases, below_16}
use Rattle.x86_decode.proofs.Feed.{feed}
use Rattle.x86_decode.proofs.ReadForms.{ReadsAgain, read_plain, takes_digit}
use Rattle.x86_decode.proofs.ReadImm.{HasImm, imm_4, imm_8, signed_4, signed_8, rel_4}
use Rattle.x86_decode.proofs.ReadRex.{Takes, rex_of}

-- what stands before the operands of a bare row, or of one whose opcode holds a register
abbrev pub head_for : ℕ → ℕ → Bool → ℕ → Head
head_for p rex e op = record { prefix = p; rex = rex; escape = e; opcode = op }

push : (n : ℕ) → n < 16 → ReadsAgain (i.Push (register n))
unfolding prefix_bytes rex_bytes forces_rex rex_bits high_bits escape_bytes operand_bytes low_bytes step_of after_prefix escape_or_opcode opcode_step row_of one_plain begin is_bare is_in_opcode done imm_len build
push n h = below_16 (λ n. ReadsAgain (i.Push (register n))) refl refl refl refl refl refl refl refl refl refl refl refl refl refl refl refl n h

pop : (n : ℕ) → n < 16 → ReadsAgain (i.Pop (register n))
unfolding prefix_bytes rex_bytes forces_rex rex_bits high_bits escape_bytes operand_bytes low_bytes step_of after_prefix escape_or_opcode opcode_step row_of one_plain begin is_bare is_in_opcode done imm_len build
pop n h = below_16 (λ n. ReadsAgain (i.Pop (register n))) refl refl refl refl refl refl refl refl refl refl refl refl refl refl refl refl n h

pub again-Push : (r : Reg) → IsTrue (valid_of (i.Push r)) → ReadsAgain (i.Push r)
again-Push r v = push r.0 (ltb-true _ _ v)

pub again-Pop : (r : Reg) → IsTrue (valid_of (i.Pop r)) → ReadsAgain (i.Pop r)
again-Pop r v = pop r.0 (ltb-true _ _ v)

-- `mov` to the register n of the opcode, up to the immediate
abbrev pub mov_head : Bool → ℕ → Head
mov_head w n = head_for 0 (rex_of false ((if w then 8 else 0) + n / 8)) false (0xB8 + n % 8)

abbrev pub MovFront : Bool → ℕ → ℕ → ℕ → ℤ → Type 0
MovFront w v k n imm = feed (bytes_of (with_imm (one_byte 0 w 0xB8 (InOpcode n)) k imm)) (Go Start) ≡ feed (low_bytes k imm) (done (mov_head w n) (MovImm v) n (InReg (register 0)))

mov_front_32 : (n : ℕ) (imm : ℤ) → n < 16 → MovFront false 32 4 n imm
unfolding prefix_bytes rex_bytes forces_rex rex_bits high_bits escape_bytes operand_bytes step_of after_prefix escape_or_opcode opcode_step row_of one_plain begin is_bare is_in_opcode
mov_front_32 n imm h = below_16 (λ n. MovFront false 32 4 n imm) refl refl refl refl refl refl refl refl refl refl refl refl refl refl refl refl n h

mov_front_64 : (n : ℕ) (imm : ℤ) → n < 16 → MovFront true 64 8 n imm
unfolding prefix_bytes rex_bytes forces_rex rex_bits high_bits escape_bytes operand_bytes step_of after_prefix escape_or_opcode opcode_step row_of one_plain begin is_bare is_in_opcode
mov_front_64 n imm h = below_16 (λ n. MovFront true 64 8 n imm) refl refl refl refl refl refl refl refl refl refl refl refl refl refl refl refl n h

has-MovImm_32 : (imm : ℤ) → IsTrue (fits_32 imm) → HasImm (MovImm 32) 4 imm
unfolding imm_len imm_value imm_fine
has-MovImm_32 imm k = record { bytes = refl; value = signed_4 imm k; fine = refl }

fine_64 : (imm : ℤ) → fits_32 imm ≡ false → imm_fine (MovImm 64) imm ≡ true
unfolding imm_fine
fine_64 imm f = simp f

has-MovImm_64 : (imm : ℤ) → IsTrue (fits_64 imm) → fits_32 imm ≡ false → HasImm (MovImm 64) 8 imm
unfolding imm_len imm_value
has-MovImm_64 imm k f = record { bytes = refl; value = signed_8 imm k; fine = fine_64 imm f }

has-MovMem_64 : (imm : ℤ) → IsTrue (fits_32 imm) → HasImm (MovMem 64) 4 imm
unfolding imm_len imm_value imm_fine
has-MovMem_64 imm k = record { bytes = refl; value = signed_4 imm k; fine = refl }

takes-MovMem : (r : Reg) → r.0 < 16 → Takes (MovMem 64) 0 (InReg r)
unfolding is_bare is_in_opcode takes takes_reg
takes-MovMem r k = takes_digit (MovMem 64) 0 (InReg r) refl refl refl refl (omega arith) (grind (arith, common_steps))

mov_32 : (r : Reg) (imm : ℤ) → r.0 < 16 → IsTrue (fits_32 imm) → ReadsAgain (i.MovImm 32 r imm)
unfolding build
mov_32 r imm h k = mov_front_32 r.0 imm h ∙ imm_4 (mov_head false r.0) (MovImm 32) r.0 (InReg (register 0)) imm (has-MovImm_32 imm k)

mov_64_long : (r : Reg) (imm : ℤ) → r.0 < 16 → IsTrue (fits_64 imm) → fits_32 imm ≡ false → feed (bytes_of (with_imm (one_byte 0 true 0xB8 (InOpcode r.0)) 8 imm)) (Go Start) ≡ End (i.MovImm 64 r imm)
unfolding build
mov_64_long r imm h k f = mov_front_64 r.0 imm h ∙ imm_8 (mov_head true r.0) (MovImm 64) r.0 (InReg (register 0)) imm (has-MovImm_64 imm k f)

mov_64_short : (r : Reg) (imm : ℤ) → r.0 < 16 → IsTrue (fits_32 imm) → feed (bytes_of (with_imm (one_byte 0 true 0xC7 (operands 0 (InReg r))) 4 imm)) (Go Start) ≡ End (i.MovImm 64 r imm)
unfolding row_of one_plain build low_in_reg low_in_rm
mov_64_short r imm h k = read_plain true false 0xC7 (MovMem 64) 0 (InReg r) 4 imm refl refl (takes-MovMem r h) (λ d. imm_4 d (MovMem 64) 0 (InReg r) imm (has-MovMem_64 imm k))

mov_64 : (r : Reg) (imm : ℤ) → r.0 < 16 → IsTrue (fits_64 imm) → ReadsAgain (i.MovImm 64 r imm)
mov_64 r imm h k =
    cond_both (fits_32 imm) (with_imm (one_byte 0 true 0xC7 (operands 0 (InReg r))) 4 imm) (with_imm (one_byte 0 true 0xB8 (InOpcode r.0)) 8 imm) (λ l. feed (bytes_of l) (Go Start) ≡ End (i.MovImm 64 r imm))
    (λ e. mov_64_short r imm h e) (λ e. mov_64_long r imm h k e)

pub again-MovImm : (w : ℕ) (r : Reg) (imm : ℤ) → IsTrue (valid_of (i.MovImm w r imm)) → ReadsAgain (i.MovImm w r imm)
again-MovImm w r imm v =
    let k = and_parts (word_ok w && reg_ok r) (mov_imm_ok w imm) v in let l = and_parts (word_ok w) (reg_ok r) k.0 in
    word_cases w (λ w. IsTrue (mov_imm_ok w imm) → ReadsAgain (i.MovImm w r imm)) l.0 (λ f. mov_32 r imm (ltb-true _ _ l.1) f) (λ f. mov_64 r imm (ltb-true _ _ l.1) f) k.1

wide : (w : ℕ) → word_ok w ≡ true → ReadsAgain (i.Wide w)
unfolding prefix_bytes rex_bytes forces_rex rex_bits high_bits escape_bytes operand_bytes low_bytes step_of after_prefix escape_or_opcode opcode_step row_of one_plain begin is_bare is_in_opcode done imm_len build
wide w v = word_cases w (λ w. ReadsAgain (i.Wide w)) v refl refl

pub again-Wide : (w : ℕ) → IsTrue (valid_of (i.Wide w)) → ReadsAgain (i.Wide w)
again-Wide w v = wide w v

pub again-Ret : (b : Bool) → ReadsAgain (i.Ret b)
unfolding prefix_bytes rex_bytes forces_rex rex_bits high_bits escape_bytes operand_bytes low_bytes step_of after_prefix escape_or_opcode opcode_step row_of one_plain one_f2 begin is_bare is_in_opcode done imm_len build
again-Ret true = refl
again-Ret false = refl

pub again-Syscall : ReadsAgain i.Syscall
unfolding prefix_bytes rex_bytes forces_rex rex_bits high_bits escape_bytes operand_bytes low_bytes step_of after_prefix escape_or_opcode opcode_step row_of two_plain begin is_bare is_in_opcode done imm_len build
again-Syscall = refl

pub again-Ud2 : ReadsAgain i.Ud2
unfolding prefix_bytes rex_bytes forces_rex rex_bits high_bits escape_bytes operand_bytes low_bytes step_of after_prefix escape_or_opcode opcode_step row_of two_plain begin is_bare is_in_opcode done imm_len build
again-Ud2 = refl

pub again-Nop : ReadsAgain i.Nop
unfolding prefix_bytes rex_bytes forces_rex rex_bits high_bits escape_bytes operand_bytes low_bytes step_of after_prefix escape_or_opcode opcode_step row_of one_plain begin is_bare is_in_opcode done imm_len build
again-Nop = refl

-- a target of 32 bits
has-CallRel : (b : Bool) (rel : ℤ) → IsTrue (fits_32 rel) → HasImm (CallRel b) 4 rel
unfolding imm_len imm_value imm_fine
has-CallRel b rel k = record { bytes = refl; value = rel_4 rel k; fine = refl }

has-JmpRel : (b : Bool) (rel : ℤ) → IsTrue (fits_32 rel) → HasImm (JmpRel b) 4 rel
unfolding imm_len imm_value imm_fine
has-JmpRel b rel k = record { bytes = refl; value = rel_4 rel k; fine = refl }

has-Jcc : (b : Bool) (c : ℕ) (rel : ℤ) → IsTrue (fits_32 rel) → HasImm (Jcc b c) 4 rel
unfolding imm_len imm_value imm_fine
has-Jcc b c rel k = record { bytes = refl; value = rel_4 rel k; fine = refl }

abbrev pub BareFront : Layout → Head → Row → ℤ → Type 0
BareFront l h row rel = feed (bytes_of (with_imm l 4 rel)) (Go Start) ≡ feed (low_bytes 4 rel) (done h row 0 (InReg (register 0)))

call_front : (b : Bool) (rel : ℤ) → BareFront (one_byte (bnd_prefix b) false 0xE8 Bare) (head_for (bnd_prefix b) 0 false 0xE8) (CallRel b) rel
unfolding prefix_bytes rex_bytes forces_rex rex_bits high_bits escape_bytes operand_bytes step_of after_prefix escape_or_opcode opcode_step row_of one_plain one_f2 begin is_bare is_in_opcode
call_front true rel = refl
call_front false rel = refl

jmp_front : (b : Bool) (rel : ℤ) → BareFront (one_byte (bnd_prefix b) false 0xE9 Bare) (head_for (bnd_prefix b) 0 false 0xE9) (JmpRel b) rel
unfolding prefix_bytes rex_bytes forces_rex rex_bits high_bits escape_bytes operand_bytes step_of after_prefix escape_or_opcode opcode_step row_of one_plain one_f2 begin is_bare is_in_opcode
jmp_front true rel = refl
jmp_front false rel = refl

pub again-CallRel : (b : Bool) (rel : ℤ) → IsTrue (valid_of (i.CallRel b rel)) → ReadsAgain (i.CallRel b rel)
unfolding build
again-CallRel b rel v = call_front b rel ∙ imm_4 _ (CallRel b) 0 (InReg (register 0)) rel (has-CallRel b rel v)

pub again-JmpRel : (b : Bool) (rel : ℤ) → IsTrue (valid_of (i.JmpRel b rel)) → ReadsAgain (i.JmpRel b rel)
unfolding build
again-JmpRel b rel v = jmp_front b rel ∙ imm_4 _ (JmpRel b) 0 (InReg (register 0)) rel (has-JmpRel b rel v)

abbrev pub JccFront : Bool → ℤ → ℕ → Type 0
JccFront b rel c = condition_ok c ≡ true → BareFront (two_byte (bnd_prefix b) false (0x80 + c) Bare) (head_for (bnd_prefix b) 0 true (0x80 + c)) (Jcc b c) rel

jcc_front : (b : Bool) (rel : ℤ) (c : ℕ) → c < 16 → JccFront b rel c
unfolding prefix_bytes rex_bytes forces_rex rex_bits high_bits escape_bytes operand_bytes step_of after_prefix escape_or_opcode opcode_step row_of two_plain two_f2 begin is_bare is_in_opcode
jcc_front true rel c h = below_16 (λ c. JccFront true rel c) (λ e. refl) (λ e. refl) (λ e. refl) (λ e. refl) (λ e. refl) (λ e. refl) (λ e. refl) (λ e. refl) (λ e. refl) (λ e. refl) (λ e. absurd (cc)) (λ e. absurd (cc)) (λ e. refl) (λ e. refl) (λ e. refl) (λ e. refl) c h
jcc_front false rel c h = below_16 (λ c. JccFront false rel c) (λ e. refl) (λ e. refl) (λ e. refl) (λ e. refl) (λ e. refl) (λ e. refl) (λ e. refl) (λ e. refl) (λ e. refl) (λ e. refl) (λ e. absurd (cc)) (λ e. absurd (cc)) (λ e. refl) (λ e. refl) (λ e. refl) (λ e. refl) c h

pub again-Jcc : (b : Bool) (c : ℕ) (rel : ℤ) → IsTrue (valid_of (i.Jcc b c rel)) → ReadsAgain (i.Jcc b c rel)
unfolding build
again-Jcc b c rel v =
    let k = and_parts (condition_ok c) (fits_32 rel) v in
    jcc_front b rel c (grind (arith, common_steps)) k.0 ∙ imm_4 _ (Jcc b c) 0 (InReg (register 0)) rel (has-Jcc b c rel k.1)
