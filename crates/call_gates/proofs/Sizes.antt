-- How long the gates are: each fits its room, for every signature within the limits.
use Rattle.std.specs.Prelude.{nat_lt, Option, None, Some, List, [], ◌∷◌, ◌++◌, length}
use Rattle.std.proofs.Common.{◌≡◌, ℕ, zero, suc, ◌+◌, ◌*◌, ◌≤◌, arith}
use Rattle.std.proofs.lemmas.Bool.{cond_both}
use Rattle.mx_base.specs.declared.numbers.IntKind.{IntKind}
use Rattle.mx_base.specs.declared.numbers.IntKind.TheVariants.{I8, U8, I16, U16, I32, U32, I64, U64}
use Rattle.call_sigs.specs.Signatures.{Signature, Result, Nothing, Pointer, Of, parameter_register, pointers, result_pointers}
use Rattle.call_gates.specs.Gates.{Code, size_of_code, clear_all, extends, extends_parameter, extend_parameters, extends_result, init_from, not_carrying, stub_body_size}

pub size_append : (a b : Code) → size_of_code (a ++ b) ≡ size_of_code a + size_of_code b
size_append [] b = omega arith
size_append (x ∷ a) b = let h = size_append a b in omega arith

pub few_extends : (kind : IntKind) (r : ℕ) → size_of_code (extends kind r) ≤ 4
few_extends I8 r = omega arith
few_extends U8 r = cond_both (nat_lt r 4) 3 4 (λ (n : ℕ). n + 0 ≤ 4) (λ _. omega arith) (λ _. omega arith)
few_extends I16 r = omega arith
few_extends U16 r = cond_both (nat_lt r 8) 3 4 (λ (n : ℕ). n + 0 ≤ 4) (λ _. omega arith) (λ _. omega arith)
few_extends I32 r = omega arith
few_extends U32 r = cond_both (nat_lt r 8) 2 3 (λ (n : ℕ). n + 0 ≤ 4) (λ _. omega arith) (λ _. omega arith)
few_extends I64 r = omega arith
few_extends U64 r = omega arith

pub few_parameter : (p : Option IntKind) (r : ℕ) → size_of_code (extends_parameter p r) ≤ 4
few_parameter None r = omega arith
few_parameter (Some kind) r = few_extends kind r

pub few_parameters : (k : ℕ) (ps : List (Option IntKind)) → size_of_code (extend_parameters k ps) ≤ 4 * length ps
few_parameters k [] = omega arith
few_parameters k (p ∷ ps) =
    let a = size_append (extends_parameter p (parameter_register k)) (extend_parameters (k + 1) ps) in
    let b = few_parameter p (parameter_register k) in
    let c = few_parameters (k + 1) ps in
    omega arith

pub few_result : (r : Result) → size_of_code (extends_result r) ≤ 4
few_result Nothing = omega arith
few_result Pointer = omega arith
few_result (Of kind) = few_extends kind 0

pub few_inits : (none b : ℕ) → b ≤ 4 → size_of_code (init_from none b) ≤ 17
few_inits none zero h = omega arith
few_inits none (suc zero) h = omega arith
few_inits none (suc (suc zero)) h = omega arith
few_inits none (suc (suc (suc zero))) h = omega arith
few_inits none (suc (suc (suc (suc zero)))) h = omega arith
few_inits none (suc (suc (suc (suc (suc n))))) h = absurd (omega arith)

pub one_result : (r : Result) → result_pointers r ≤ 4
one_result Nothing = omega arith
one_result Pointer = omega arith
one_result (Of kind) = omega arith

-- a parameter of 4 bytes more has one register fewer to be cleared, of 2 bytes at least
pub few_clears : (n : ℕ) → n ≤ 6 → size_of_code (clear_all (not_carrying n)) + 2 * n ≤ 16
few_clears zero h = omega arith
few_clears (suc zero) h = omega arith
few_clears (suc (suc zero)) h = omega arith
few_clears (suc (suc (suc zero))) h = omega arith
few_clears (suc (suc (suc (suc zero)))) h = omega arith
few_clears (suc (suc (suc (suc (suc zero))))) h = omega arith
few_clears (suc (suc (suc (suc (suc (suc zero)))))) h = omega arith
few_clears (suc (suc (suc (suc (suc (suc (suc n))))))) h = absurd (omega arith)

pub few_stub : (sig : Signature) → length sig.parameters ≤ 6 → pointers sig.parameters ≤ 4 → stub_body_size sig ≤ 115
few_stub sig few pointed =
    let ps = sig.parameters in
    let zeros = clear_all (0 ∷ 10 ∷ 11 ∷ not_carrying (length ps)) in
    let inits = init_from 0 (pointers ps) in
    let a = size_append (extend_parameters 0 ps) (zeros ++ inits) in
    let b = size_append zeros inits in
    let c = few_parameters 0 ps in
    let d = few_clears (length ps) few in
    let e = few_inits 0 (pointers ps) pointed in
    omega arith
