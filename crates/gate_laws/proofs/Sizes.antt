-- Where the parts of the gates stand.
use Rattle.std.specs.Prelude.{true, [], ◌∷◌, ◌++◌, length}
use Rattle.std.proofs.Common.{◌≡◌, ℕ, ◌+◌, ◌<◌, ◌≤◌, arith, ◌∙◌}
use Rattle.std.proofs.lemmas.Bool.Decides.{nat_tests}
use Rattle.x86_forms.specs.Watch.{outer_entry, is_in_outer}
use Rattle.call_sigs.specs.Signatures.{Signature, result_pointers}
use Rattle.call_gates.specs.Gates.{Code, size_of_code, clear_all, extend_parameters, extends_result, init_from, stub_keeps, stub_writes, stub_clears, stub_body_size, outer_keeps, outer_restores, outer_clears, outer_head}
use Rattle.call_gates.proofs.Sizes.{size_append, few_parameters, few_result, few_inits, one_result}
use Rattle.gate_laws.specs.Effects.{end_of}

pub end_is : (code : Code) (at : ℕ) → end_of at code ≡ at + size_of_code code
end_is [] at = omega arith
end_is (x ∷ rest) at = end_is rest (at + x.1) ∙ omega arith

-- the tail stands behind the jump
pub stub_behind : (sig : Signature) (at : ℕ) → end_of (end_of (end_of at (stub_keeps 0)) stub_writes) (stub_clears sig) + 6 ≡ at + stub_body_size sig
stub_behind sig at = let a = end_is (stub_clears sig) (end_of (end_of at (stub_keeps 0)) stub_writes) in omega arith

pub outer_behind : (sig : Signature) (at : ℕ) → end_of at (outer_head sig) + 6 ≡ at + size_of_code (outer_head sig) + 6
outer_behind sig at = let a = end_is (outer_head sig) at in omega arith

inside_of : (outers f a : ℕ) → f < outers → outer_entry f ≤ a → a < outer_entry f + 128 → is_in_outer outers a ≡ true
unfolding is_in_outer
inside_of outers f a low from to = grind (arith, nat_tests)

-- the return of an outer entry stands in it
pub outer_inside : (sig : Signature) (outers f : ℕ) → length sig.parameters ≤ 6 → f < outers → outers ≤ 65536
    → is_in_outer outers (end_of (end_of (end_of (end_of (outer_entry f) outer_keeps) (extend_parameters 0 sig.parameters) + 6) outer_restores) (outer_clears sig)) ≡ true
outer_inside sig outers f few low most =
    let ps = sig.parameters in
    let zeros = clear_all (1 ∷ 2 ∷ 6 ∷ 7 ∷ 8 ∷ 9 ∷ 10 ∷ 11 ∷ []) in
    let inits = init_from 1 (result_pointers sig.result) in
    let a1 = end_of (outer_entry f) outer_keeps in
    let e1 = end_is (extend_parameters 0 ps) a1 in
    let e2 = end_is (outer_clears sig) (end_of (end_of a1 (extend_parameters 0 ps) + 6) outer_restores) in
    let a = size_append (extends_result sig.result) (zeros ++ inits) in
    let b = size_append zeros inits in
    let c = few_parameters 0 ps in
    let d = few_result sig.result in
    let e = few_inits 1 (result_pointers sig.result) (one_result sig.result) in
    let place : end_of (end_of (end_of a1 (extend_parameters 0 ps) + 6) outer_restores) (outer_clears sig) < outer_entry f + 128 = omega arith in
    let from : outer_entry f ≤ end_of (end_of (end_of a1 (extend_parameters 0 ps) + 6) outer_restores) (outer_clears sig) = omega arith in
    inside_of outers f _ low from place
