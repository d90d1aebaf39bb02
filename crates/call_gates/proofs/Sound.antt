-- Each instruction of the gates is valid, and its spelling has the size that is told.
use Rattle.std.specs.Prelude.{Bool, true, false, ◌&&◌, ◌==◌, nat_lt, Option, None, Some, ℤ, pos, negsuc, ◌-ℤ◌}
use Rattle.std.specs.List.{list_all}
use Rattle.std.proofs.Common.{◌≡◌, ℕ, zero, suc, ◌+◌, ◌<◌, ◌≤◌, ◌^◌, List, [], ◌∷◌, ◌++◌, length, length-append, append_assoc, refl, arith, ap, ◌∙◌, sym}
use Rattle.std.proofs.lemmas.Bool.{and_parts}
use Rattle.std.proofs.lemmas.Bool.Decides.{nat_tests}
use Rattle.std.proofs.lemmas.Int.{ints}
use Rattle.mx_base.specs.declared.numbers.IntKind.{IntKind}
use Rattle.mx_base.specs.declared.numbers.IntKind.TheVariants.{I8, U8, I16, U16, I32, U32, I64, U64}
use Rattle.x86_forms.specs.declared.instr.Instr.{Instr}
use Rattle.x86_forms.specs.Fits.{fits_32}
use Rattle.x86_forms.specs.Spelling.{spelling, low_bytes, mod_of, disp_bytes, modrm, sib, over_base, mem_bytes, rm_bytes, index_high, base_high, rm_high, high_bits, is_low, rm_is_low, forces_rex, rex_bits, rex_bytes, prefix_bytes, escape_bytes, operand_bytes}
use Rattle.x86_forms.specs.Validity.{valid_of}
use Rattle.call_sigs.specs.Signatures.{Signature, Result, Nothing, Pointer, Of, parameter_register, pointers, result_pointers, HasRegisters}
use Rattle.call_gates.specs.Gates.{Code, size_of_code, instructions, spelled, bytes_of_code, is_sound, rax, rsp, copies, clears, clear_all, extends_parameter, extend_parameters, extends_result, init_from, not_carrying, way, calls, jumps, returns, start_at, start_head, start_tail, start_gate, landing_gate, stub_keeps, stub_writes, stub_clears, stub_tail, stub_body_size, stub_gate, outer_keeps, outer_restores, outer_clears, outer_head, outer_gate, InCode, InLegacyCode}
use Rattle.call_gates.proofs.Sizes.{size_append, few_parameters, few_stub, one_result}

-- ---- code of parts

both_true : (a b : Bool) → a ≡ true → b ≡ true → (a && b) ≡ true
both_true true b h k = k
both_true false b h k = h

pub sound_append : (a b : Code) → is_sound a ≡ true → is_sound b ≡ true → is_sound (a ++ b) ≡ true
sound_append [] b h k = k
sound_append (x ∷ a) b h k =
    let parts = and_parts (valid_of x.0 && (length (spelling x.0) == x.1)) (is_sound a) h in
    both_true (valid_of x.0 && (length (spelling x.0) == x.1)) (is_sound (a ++ b)) parts.0 (sound_append a b parts.1 k)

pub sound_valid : (code : Code) → is_sound code ≡ true → list_all valid_of (instructions code) ≡ true
sound_valid [] h = refl
sound_valid (x ∷ rest) h =
    let parts = and_parts (valid_of x.0 && (length (spelling x.0) == x.1)) (is_sound rest) h in
    let mine = and_parts (valid_of x.0) (length (spelling x.0) == x.1) parts.0 in
    both_true (valid_of x.0) (list_all valid_of (instructions rest)) mine.0 (sound_valid rest parts.1)

pub sound_size : (code : Code) → is_sound code ≡ true → length (bytes_of_code code) ≡ size_of_code code
sound_size [] h = refl
sound_size (x ∷ rest) h =
    let parts = and_parts (valid_of x.0 && (length (spelling x.0) == x.1)) (is_sound rest) h in
    let mine = and_parts (valid_of x.0) (length (spelling x.0) == x.1) parts.0 in
    let size : length (spelling x.0) ≡ x.1 = grind (arith, nat_tests, mine.1) in
    let more = sound_size rest parts.1 in
    omega (arith, length-append (spelling x.0) (bytes_of_code rest), size, more)

pub instructions_append : (a b : Code) → instructions (a ++ b) ≡ instructions a ++ instructions b
instructions_append [] b = refl
instructions_append (x ∷ a) b = ap (λ (l : List Instr). x.0 ∷ l) (instructions_append a b)

pub spelled_append : (a b : List Instr) → spelled (a ++ b) ≡ spelled a ++ spelled b
spelled_append [] b = refl
spelled_append (i ∷ a) b = ap (λ (l : List ℕ). spelling i ++ l) (spelled_append a b) ∙ sym (append_assoc (spelling i) (spelled a) (spelled b))

pub bytes_append : (a b : Code) → bytes_of_code (a ++ b) ≡ bytes_of_code a ++ bytes_of_code b
bytes_append a b = ap spelled (instructions_append a b) ∙ spelled_append (instructions a) (instructions b)

-- ---- branches and addresses

way_fits : (z : ℤ) (target next : ℕ) → z ≡ pos target -ℤ pos next → target ≤ 0x1300_0000 → next ≤ 0x1300_0000 → fits_32 z ≡ true
way_fits (pos n) target next e high end = let f : target ≡ n + next = omega (arith, ints) in grind (arith, nat_tests)
way_fits (negsuc n) target next e high end = let f : target + suc n ≡ next = omega (arith, ints) in grind (arith, nat_tests)

pub call_sound : (target next : ℕ) → target ≤ 0x1300_0000 → next ≤ 0x1300_0000 → is_sound (calls target next ∷ []) ≡ true
unfolding low_bytes prefix_bytes rex_bytes rex_bits forces_rex high_bits escape_bytes operand_bytes
call_sound target next high end = rw (way_fits (way target next) target next refl high end) refl

pub jump_sound : (target next : ℕ) → target ≤ 0x1300_0000 → next ≤ 0x1300_0000 → is_sound (jumps target next ∷ []) ≡ true
unfolding low_bytes prefix_bytes rex_bytes rex_bits forces_rex high_bits escape_bytes operand_bytes
jump_sound target next high end = rw (way_fits (way target next) target next refl high end) refl

pub returns_sound : is_sound (returns ∷ []) ≡ true
unfolding low_bytes prefix_bytes rex_bytes rex_bits forces_rex high_bits escape_bytes operand_bytes
returns_sound = refl

-- ---- parts of fixed code

pub start_head_sound : is_sound start_head ≡ true
unfolding low_bytes mod_of disp_bytes modrm sib over_base mem_bytes rm_bytes index_high base_high rm_high high_bits is_low rm_is_low forces_rex rex_bits rex_bytes prefix_bytes escape_bytes operand_bytes
start_head_sound = refl

pub start_tail_sound : is_sound start_tail ≡ true
unfolding low_bytes mod_of disp_bytes modrm sib over_base mem_bytes rm_bytes index_high base_high rm_high high_bits is_low rm_is_low forces_rex rex_bits rex_bytes prefix_bytes escape_bytes operand_bytes
start_tail_sound = refl

pub landing_sound : is_sound landing_gate ≡ true
unfolding low_bytes mod_of disp_bytes modrm sib over_base mem_bytes rm_bytes index_high base_high rm_high high_bits is_low rm_is_low forces_rex rex_bits rex_bytes prefix_bytes escape_bytes operand_bytes
landing_sound = refl

pub writes_sound : is_sound stub_writes ≡ true
unfolding low_bytes mod_of disp_bytes modrm sib over_base mem_bytes rm_bytes index_high base_high rm_high high_bits is_low rm_is_low forces_rex rex_bits rex_bytes prefix_bytes escape_bytes operand_bytes
writes_sound = refl

pub writes_and_sp_sound : is_sound (stub_writes ++ copies rsp rax ∷ []) ≡ true
unfolding low_bytes mod_of disp_bytes modrm sib over_base mem_bytes rm_bytes index_high base_high rm_high high_bits is_low rm_is_low forces_rex rex_bits rex_bytes prefix_bytes escape_bytes operand_bytes
writes_and_sp_sound = refl

pub outer_keeps_sound : is_sound outer_keeps ≡ true
unfolding low_bytes mod_of disp_bytes modrm sib over_base mem_bytes rm_bytes index_high base_high rm_high high_bits is_low rm_is_low forces_rex rex_bits rex_bytes prefix_bytes escape_bytes operand_bytes
outer_keeps_sound = refl

pub outer_restores_sound : is_sound outer_restores ≡ true
unfolding low_bytes mod_of disp_bytes modrm sib over_base mem_bytes rm_bytes index_high base_high rm_high high_bits is_low rm_is_low forces_rex rex_bits rex_bytes prefix_bytes escape_bytes operand_bytes
outer_restores_sound = refl

pub keeps_sound : (tail : ℕ) → tail < 0x8000_0000 → is_sound (stub_keeps tail) ≡ true
unfolding low_bytes mod_of disp_bytes modrm sib over_base mem_bytes rm_bytes index_high base_high rm_high high_bits is_low rm_is_low forces_rex rex_bits rex_bytes prefix_bytes escape_bytes operand_bytes
keeps_sound tail low = let fits : nat_lt tail (2 ^ 31) ≡ true = grind (arith, nat_tests) in rw fits refl

-- ---- parts by signatures

abbrev Sound : Option IntKind → ℕ → Type 0
Sound p r = is_sound (extends_parameter p r) ≡ true

-- in the registers of parameters, and in rax
abbrev AllSound : Option IntKind → Type 0
AllSound p = Sound p 7 × Sound p 6 × Sound p 2 × Sound p 1 × Sound p 8 × Sound p 9 × Sound p 0

each_sound : (p : Option IntKind) → AllSound p
unfolding low_bytes mod_of disp_bytes modrm sib over_base mem_bytes rm_bytes index_high base_high rm_high high_bits is_low rm_is_low forces_rex rex_bits rex_bytes prefix_bytes escape_bytes operand_bytes
each_sound None = (refl, refl, refl, refl, refl, refl, refl)
each_sound (Some I8) = (refl, refl, refl, refl, refl, refl, refl)
each_sound (Some U8) = (refl, refl, refl, refl, refl, refl, refl)
each_sound (Some I16) = (refl, refl, refl, refl, refl, refl, refl)
each_sound (Some U16) = (refl, refl, refl, refl, refl, refl, refl)
each_sound (Some I32) = (refl, refl, refl, refl, refl, refl, refl)
each_sound (Some U32) = (refl, refl, refl, refl, refl, refl, refl)
each_sound (Some I64) = (refl, refl, refl, refl, refl, refl, refl)
each_sound (Some U64) = (refl, refl, refl, refl, refl, refl, refl)

pub parameter_sound : (p : Option IntKind) (k : ℕ) → k < 6 → is_sound (extends_parameter p (parameter_register k)) ≡ true
parameter_sound p zero low = (each_sound p).0
parameter_sound p (suc zero) low = (each_sound p).1
parameter_sound p (suc (suc zero)) low = (each_sound p).2
parameter_sound p (suc (suc (suc zero))) low = (each_sound p).3
parameter_sound p (suc (suc (suc (suc zero)))) low = (each_sound p).4
parameter_sound p (suc (suc (suc (suc (suc zero))))) low = (each_sound p).5
parameter_sound p (suc (suc (suc (suc (suc (suc k)))))) low = absurd (omega arith)

pub parameters_sound : (k : ℕ) (ps : List (Option IntKind)) → k + length ps ≤ 6 → is_sound (extend_parameters k ps) ≡ true
parameters_sound k [] few = refl
parameters_sound k (p ∷ ps) few =
    sound_append (extends_parameter p (parameter_register k)) (extend_parameters (k + 1) ps) (parameter_sound p k (omega arith)) (parameters_sound (k + 1) ps (omega arith))

pub result_sound : (r : Result) → is_sound (extends_result r) ≡ true
unfolding modrm rm_bytes rm_high high_bits is_low rm_is_low forces_rex rex_bits rex_bytes prefix_bytes escape_bytes operand_bytes low_bytes
result_sound Nothing = refl
result_sound Pointer = refl
result_sound (Of kind) = (each_sound (Some kind)).6

pub result_register_sound : (p : Option IntKind) → is_sound (extends_parameter p 0) ≡ true
result_register_sound p = (each_sound p).6

pub cleared_sound : is_sound (clears 0 ∷ []) ≡ true
unfolding modrm rm_bytes rm_high high_bits is_low rm_is_low forces_rex rex_bits rex_bytes prefix_bytes escape_bytes operand_bytes low_bytes
cleared_sound = refl

pub scratch_sound : is_sound (clear_all (0 ∷ 10 ∷ 11 ∷ [])) ≡ true
unfolding modrm rm_bytes rm_high high_bits is_low rm_is_low forces_rex rex_bits rex_bytes prefix_bytes escape_bytes operand_bytes low_bytes
scratch_sound = refl

pub others_sound : is_sound (clear_all (1 ∷ 2 ∷ 6 ∷ 7 ∷ 8 ∷ 9 ∷ 10 ∷ 11 ∷ [])) ≡ true
unfolding modrm rm_bytes rm_high high_bits is_low rm_is_low forces_rex rex_bits rex_bytes prefix_bytes escape_bytes operand_bytes low_bytes
others_sound = refl

pub rest_sound : (n : ℕ) → n ≤ 6 → is_sound (clear_all (not_carrying n)) ≡ true
unfolding modrm rm_bytes rm_high high_bits is_low rm_is_low forces_rex rex_bits rex_bytes prefix_bytes escape_bytes operand_bytes low_bytes
rest_sound zero few = refl
rest_sound (suc zero) few = refl
rest_sound (suc (suc zero)) few = refl
rest_sound (suc (suc (suc zero))) few = refl
rest_sound (suc (suc (suc (suc zero)))) few = refl
rest_sound (suc (suc (suc (suc (suc zero))))) few = refl
rest_sound (suc (suc (suc (suc (suc (suc zero)))))) few = refl
rest_sound (suc (suc (suc (suc (suc (suc (suc n))))))) few = absurd (omega arith)

pub inits_sound : (none b : ℕ) → none < 2 → b ≤ 4 → is_sound (init_from none b) ≡ true
unfolding low_bytes mod_of disp_bytes modrm sib over_base mem_bytes rm_bytes index_high base_high rm_high high_bits is_low rm_is_low forces_rex rex_bits rex_bytes prefix_bytes escape_bytes operand_bytes
inits_sound zero zero low few = refl
inits_sound zero (suc zero) low few = refl
inits_sound zero (suc (suc zero)) low few = refl
inits_sound zero (suc (suc (suc zero))) low few = refl
inits_sound zero (suc (suc (suc (suc zero)))) low few = refl
inits_sound zero (suc (suc (suc (suc (suc b))))) low few = absurd (omega arith)
inits_sound (suc zero) zero low few = refl
inits_sound (suc zero) (suc zero) low few = refl
inits_sound (suc zero) (suc (suc zero)) low few = refl
inits_sound (suc zero) (suc (suc (suc zero))) low few = refl
inits_sound (suc zero) (suc (suc (suc (suc zero)))) low few = refl
inits_sound (suc zero) (suc (suc (suc (suc (suc b))))) low few = absurd (omega arith)
inits_sound (suc (suc none)) b low few = absurd (omega arith)

pub body_sound : (sig : Signature) → is_sound (stub_clears sig) ≡ true → is_sound (stub_writes ++ stub_clears sig) ≡ true
body_sound sig h = sound_append stub_writes (stub_clears sig) writes_sound h

-- ---- whole gates

pub start_sound : (main : ℕ) → main ≤ 0x1300_0000 → is_sound (start_gate main) ≡ true
start_sound main high = sound_append start_head (calls main (start_at + size_of_code start_head + 6) ∷ start_tail) start_head_sound (sound_append (calls main (start_at + size_of_code start_head + 6) ∷ []) start_tail (call_sound main (start_at + size_of_code start_head + 6) high (omega arith)) start_tail_sound)

clear_append : (a b : List ℕ) → clear_all (a ++ b) ≡ clear_all a ++ clear_all b
clear_append [] b = refl
clear_append (r ∷ a) b = ap (λ (l : Code). clears r ∷ l) (clear_append a b)

pub stub_clears_sound : (sig : Signature) → HasRegisters sig → is_sound (stub_clears sig) ≡ true
unfolding modrm rm_bytes rm_high high_bits is_low rm_is_low forces_rex rex_bits rex_bytes prefix_bytes escape_bytes operand_bytes low_bytes
stub_clears_sound sig fits =
    let few = fits.few in
    let zeros : Code = clear_all (0 ∷ 10 ∷ 11 ∷ not_carrying (length sig.parameters)) in
    let inits : Code = init_from 0 (pointers sig.parameters) in
    let tail : is_sound (extend_parameters 0 sig.parameters ++ (zeros ++ inits)) ≡ true = sound_append (extend_parameters 0 sig.parameters) (zeros ++ inits) (parameters_sound 0 sig.parameters (omega arith))
    (sound_append zeros inits
    (sound_append (clear_all (0 ∷ 10 ∷ 11 ∷ [])) (clear_all (not_carrying (length sig.parameters))) scratch_sound (rest_sound (length sig.parameters) few)) (inits_sound 0 (pointers sig.parameters) (omega arith) fits.pointed)) in
    tail

pub outer_clears_sound : (sig : Signature) → is_sound (outer_clears sig) ≡ true
outer_clears_sound sig =
    let zeros : Code = clear_all (1 ∷ 2 ∷ 6 ∷ 7 ∷ 8 ∷ 9 ∷ 10 ∷ 11 ∷ []) in
    let inits : Code = init_from 1 (result_pointers sig.result) in
    sound_append (extends_result sig.result) (zeros ++ inits) (result_sound sig.result) (sound_append zeros inits others_sound (inits_sound 1 (result_pointers sig.result) (omega arith) (one_result sig.result)))

pub stub_sound : (sig : Signature) (target at : ℕ) → HasRegisters sig → InLegacyCode target → InCode at → is_sound (stub_gate sig target at) ≡ true
stub_sound sig target at fits there here =
    let body = few_stub sig fits.few fits.pointed in
    let high = here.1 in
    let tail : ℕ = at + stub_body_size sig in
    let last : Code = jumps target tail ∷ stub_tail sig in
    sound_append (stub_keeps tail) (stub_writes ++ (stub_clears sig ++ last)) (keeps_sound tail (omega arith))
    (sound_append stub_writes (stub_clears sig ++ last) writes_sound (sound_append (stub_clears sig) last (stub_clears_sound sig fits)
    (sound_append (jumps target tail ∷ []) (stub_tail sig) (jump_sound target tail there.1 (omega arith))
    (sound_append (extends_result sig.result) (returns ∷ []) (result_sound sig.result) returns_sound))))

pub few_head : (sig : Signature) → HasRegisters sig → size_of_code (outer_head sig) ≤ 49
few_head sig fits =
    let few = fits.few in
    let a = size_append outer_keeps (extend_parameters 0 sig.parameters) in
    let b = few_parameters 0 sig.parameters in
    omega arith

pub head_sound : (sig : Signature) → HasRegisters sig → is_sound (outer_head sig) ≡ true
head_sound sig fits = let few = fits.few in sound_append outer_keeps (extend_parameters 0 sig.parameters) outer_keeps_sound (parameters_sound 0 sig.parameters (omega arith))

pub outer_sound : (sig : Signature) (inner at : ℕ) → HasRegisters sig → InCode inner → InCode at → is_sound (outer_gate sig inner at) ≡ true
outer_sound sig inner at fits there here =
    let few = fits.few in
    let head = few_head sig fits in
    let high = here.1 in
    let far = there.1 in
    let next : ℕ = at + size_of_code (outer_head sig) + 6 in
    let last : Code = outer_clears sig ++ (returns ∷ []) in
    sound_append (outer_head sig) (calls inner next ∷ (outer_restores ++ last)) (head_sound sig fits)
    (sound_append (calls inner next ∷ []) (outer_restores ++ last) (call_sound inner next (omega arith) (omega arith))
    (sound_append outer_restores last outer_restores_sound (sound_append (outer_clears sig) (returns ∷ []) (outer_clears_sound sig) returns_sound)))
