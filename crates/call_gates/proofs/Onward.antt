-- No relative jump of a gate leads back.
use Rattle.std.specs.Prelude.{Bool, true, false, ◌&&◌, Option, None, Some, ℤ, pos, negsuc, ◌-ℤ◌}
use Rattle.std.proofs.Common.{◌≡◌, ℕ, zero, suc, ◌+◌, ◌≤◌, List, [], ◌∷◌, ◌++◌, length, refl, arith}
use Rattle.std.proofs.lemmas.Bool.{and_parts}
use Rattle.std.proofs.lemmas.Int.{ints}
use Rattle.mx_base.specs.declared.numbers.IntKind.{IntKind}
use Rattle.mx_base.specs.declared.numbers.IntKind.TheVariants.{I8, U8, I16, U16, I32, U32, I64, U64}
use Rattle.x86_forms.specs.declared.instr.Instr.TheVariants.{JmpRel}
use Rattle.call_sigs.specs.Signatures.{Signature, Result, Nothing, Pointer, Of, parameter_register, pointers, result_pointers, HasRegisters}
use Rattle.call_gates.specs.Gates.{Code, size_of_code, is_onward, all_onward, IsGate, clear_all, extends_parameter, extend_parameters, extends_result, init_from, not_carrying, way, calls, jumps, returns, start_gate, landing_gate, stub_keeps, stub_writes, stub_clears, stub_tail, stub_body_size, stub_gate, outer_keeps, outer_restores, outer_clears, outer_head, outer_gate, InCode, InLegacyCode}
use Rattle.call_gates.proofs.Sizes.{size_append, few_result, few_inits, few_stub, one_result}
use Rattle.call_gates.proofs.Sound.{start_sound, landing_sound, stub_sound, outer_sound, few_head}

both_true : (a b : Bool) → a ≡ true → b ≡ true → (a && b) ≡ true
both_true true b h k = k
both_true false b h k = h

onward_append : (a b : Code) → all_onward a ≡ true → all_onward b ≡ true → all_onward (a ++ b) ≡ true
onward_append [] b h k = k
onward_append (x ∷ a) b h k =
    let parts = and_parts (is_onward x.0) (all_onward a) h in
    both_true (is_onward x.0) (all_onward (a ++ b)) parts.0 (onward_append a b parts.1 k)

way_onward : (z : ℤ) (target next : ℕ) → z ≡ pos target -ℤ pos next → next ≤ target → is_onward (JmpRel true z) ≡ true
way_onward (pos n) target next e low = refl
way_onward (negsuc n) target next e low = let f : target + suc n ≡ next = omega (arith, ints) in absurd (omega arith)

extends_onward : (p : Option IntKind) (r : ℕ) → all_onward (extends_parameter p r) ≡ true
extends_onward None r = refl
extends_onward (Some I8) r = refl
extends_onward (Some U8) r = refl
extends_onward (Some I16) r = refl
extends_onward (Some U16) r = refl
extends_onward (Some I32) r = refl
extends_onward (Some U32) r = refl
extends_onward (Some I64) r = refl
extends_onward (Some U64) r = refl

parameters_onward : (k : ℕ) (ps : List (Option IntKind)) → all_onward (extend_parameters k ps) ≡ true
parameters_onward k [] = refl
parameters_onward k (p ∷ ps) = onward_append (extends_parameter p (parameter_register k)) (extend_parameters (k + 1) ps) (extends_onward p (parameter_register k)) (parameters_onward (k + 1) ps)

result_onward : (r : Result) → all_onward (extends_result r) ≡ true
result_onward Nothing = refl
result_onward Pointer = refl
result_onward (Of kind) = extends_onward (Some kind) 0

clears_onward : (rs : List ℕ) → all_onward (clear_all rs) ≡ true
clears_onward [] = refl
clears_onward (r ∷ rs) = clears_onward rs

inits_onward : (none b : ℕ) → b ≤ 4 → all_onward (init_from none b) ≡ true
inits_onward none zero few = refl
inits_onward none (suc zero) few = refl
inits_onward none (suc (suc zero)) few = refl
inits_onward none (suc (suc (suc zero))) few = refl
inits_onward none (suc (suc (suc (suc zero)))) few = refl
inits_onward none (suc (suc (suc (suc (suc b))))) few = absurd (omega arith)

stub_onward : (sig : Signature) (target at : ℕ) → HasRegisters sig → InLegacyCode target → InCode at → all_onward (stub_gate sig target at) ≡ true
stub_onward sig target at fits there here =
    let body = few_stub sig fits.few fits.pointed in
    let low = there.0 in
    let high = here.1 in
    let zeros : Code = clear_all (0 ∷ 10 ∷ 11 ∷ not_carrying (length sig.parameters)) in
    let inits : Code = init_from 0 (pointers sig.parameters) in
    let tail : ℕ = at + stub_body_size sig in
    let last : Code = jumps target tail ∷ stub_tail sig in
    onward_append (stub_keeps tail) (stub_writes ++ (stub_clears sig ++ last)) refl
    (onward_append stub_writes (stub_clears sig ++ last) refl
    (onward_append (stub_clears sig) last
    (onward_append (extend_parameters 0 sig.parameters) (zeros ++ inits) (parameters_onward 0 sig.parameters) (onward_append zeros inits (clears_onward (0 ∷ 10 ∷ 11 ∷ not_carrying (length sig.parameters))) (inits_onward 0 (pointers sig.parameters) fits.pointed)))
    (both_true (is_onward (JmpRel true (way target tail))) (all_onward (stub_tail sig)) (way_onward (way target tail) target tail refl (omega arith))
    (onward_append (extends_result sig.result) (returns ∷ []) (result_onward sig.result) refl))))

outer_onward : (sig : Signature) (inner at : ℕ) → all_onward (outer_gate sig inner at) ≡ true
outer_onward sig inner at =
    let zeros : Code = clear_all (1 ∷ 2 ∷ 6 ∷ 7 ∷ 8 ∷ 9 ∷ 10 ∷ 11 ∷ []) in
    let inits : Code = init_from 1 (result_pointers sig.result) in
    let last : Code = outer_clears sig ++ (returns ∷ []) in
    onward_append (outer_head sig) (calls inner (at + size_of_code (outer_head sig) + 6) ∷ (outer_restores ++ last)) (onward_append outer_keeps (extend_parameters 0 sig.parameters) refl (parameters_onward 0 sig.parameters))
    (onward_append outer_restores last refl
    (onward_append (outer_clears sig) (returns ∷ [])
    (onward_append (extends_result sig.result) (zeros ++ inits) (result_onward sig.result) (onward_append zeros inits refl (inits_onward 1 (result_pointers sig.result) (one_result sig.result)))) refl))

-- ---- whole gates

pub start_gates : (main : ℕ) → InCode main → IsGate (start_gate main) 66
start_gates main there = let high = there.1 in record { sound = start_sound main (omega arith); onward = refl; fits = omega arith }

pub landing_gates : IsGate landing_gate 32
landing_gates = record { sound = landing_sound; onward = refl; fits = omega arith }

few_tail : (sig : Signature) → size_of_code (stub_tail sig) ≤ 6
few_tail sig = let a = size_append (extends_result sig.result) (returns ∷ []) in let b = few_result sig.result in omega arith

few_stub_gate : (sig : Signature) (target at : ℕ) → HasRegisters sig → size_of_code (stub_gate sig target at) ≤ 122
few_stub_gate sig target at fits =
    let tail = at + stub_body_size sig in
    let body = few_stub sig fits.few fits.pointed in
    let a = size_append (stub_keeps tail) (stub_writes ++ (stub_clears sig ++ (jumps target tail ∷ stub_tail sig))) in
    let b = size_append stub_writes (stub_clears sig ++ (jumps target tail ∷ stub_tail sig)) in
    let c = size_append (stub_clears sig) (jumps target tail ∷ stub_tail sig) in
    let d = few_tail sig in
    omega arith

few_outer_gate : (sig : Signature) (inner at : ℕ) → HasRegisters sig → size_of_code (outer_gate sig inner at) ≤ 127
few_outer_gate sig inner at fits =
    let next = at + size_of_code (outer_head sig) + 6 in
    let zeros = clear_all (1 ∷ 2 ∷ 6 ∷ 7 ∷ 8 ∷ 9 ∷ 10 ∷ 11 ∷ []) in
    let inits = init_from 1 (result_pointers sig.result) in
    let a = size_append (outer_head sig) (calls inner next ∷ (outer_restores ++ (outer_clears sig ++ (returns ∷ [])))) in
    let b = size_append outer_restores (outer_clears sig ++ (returns ∷ [])) in
    let c = size_append (outer_clears sig) (returns ∷ []) in
    let d = size_append (extends_result sig.result) (zeros ++ inits) in
    let e = size_append zeros inits in
    let f = few_result sig.result in
    let g = few_inits 1 (result_pointers sig.result) (one_result sig.result) in
    let h = few_head sig fits in
    omega arith

pub stub_gates : (sig : Signature) (target at : ℕ) → HasRegisters sig → InLegacyCode target → InCode at → IsGate (stub_gate sig target at) 122
stub_gates sig target at fits there here = record { sound = stub_sound sig target at fits there here; onward = stub_onward sig target at fits there here; fits = few_stub_gate sig target at fits }

pub outer_gates : (sig : Signature) (inner at : ℕ) → HasRegisters sig → InCode inner → InCode at → IsGate (outer_gate sig inner at) 127
outer_gates sig inner at fits there here = record { sound = outer_sound sig inner at fits there here; onward = outer_onward sig inner at; fits = few_outer_gate sig inner at fits }
