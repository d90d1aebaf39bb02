-- What is put together part by part is the bytes of a gate.
use Rattle.std.proofs.Common.{◌≡◌, ℕ, ◌+◌, ◌≤◌, List, [], ◌∷◌, ◌++◌, Option, length, refl, arith, ap, ◌∙◌, sym}
use Rattle.mx_base.specs.declared.numbers.IntKind.{IntKind}
use Rattle.x86_forms.specs.declared.instr.Instr.{Instr}
use Rattle.call_sigs.specs.Signatures.{Signature, kinds_of_letters, pointers, result_pointers}
use Rattle.call_gates.specs.Gates.{Code, size_of_code, instructions, spelled, bytes_of_code, rax, rsp, copies, clear_all, extend_parameters, extends_result, init_from, not_carrying, others, calls, jumps, returns, stub_keeps, stub_writes, stub_clears, stub_body_size, stub_gate, outer_keeps, outer_restores, outer_clears, outer_head, outer_gate}
use Rattle.call_gates.proofs.Bytes.{stub_body_bytes, stub_bytes, clears_bytes, head_bytes, outer_bytes}

-- ---- letters

pub kinds_length : (letters : List ℕ) → length (kinds_of_letters letters) ≡ length letters
kinds_length [] = refl
kinds_length (b ∷ bs) = let e = kinds_length bs in omega arith

pub few_letters : (params items : List ℕ) → params ≡ items → length (kinds_of_letters items) ≤ 6 → length params ≤ 6
few_letters params items e few = omega (arith, ap length e, kinds_length items, few)

-- ---- gates

pub only_put : (code : Code) (o0 o1 : List ℕ) (l : List Instr) → o0 ≡ [] → l ≡ instructions code → o1 ≡ o0 ++ spelled l → o1 ≡ bytes_of_code code
only_put code o0 o1 l e0 el e1 = e1 ∙ (λ i. e0 i ++ spelled (el i))

pub body_made : (sig : Signature) (o0 o1 o2 o3 o4 o5 : List ℕ) (w s : List Instr) (ps : List (Option IntKind)) (n b : ℕ)
    → o0 ≡ [] → w ≡ instructions (stub_writes ++ copies rsp rax ∷ []) → o1 ≡ o0 ++ spelled w
    → ps ≡ sig.parameters → o2 ≡ o1 ++ bytes_of_code (extend_parameters 0 ps)
    → s ≡ instructions (clear_all (0 ∷ 10 ∷ 11 ∷ [])) → o3 ≡ o2 ++ spelled s
    → n ≡ length sig.parameters → o4 ≡ o3 ++ bytes_of_code (clear_all (not_carrying n))
    → b ≡ pointers sig.parameters → o5 ≡ o4 ++ bytes_of_code (init_from 0 b)
    → o5 ≡ bytes_of_code (stub_writes ++ stub_clears sig)
body_made sig o0 o1 o2 o3 o4 o5 w s ps n b e0 ew e1 ep e2 es e3 en e4 eb e5 =
    let x1 : o1 ≡ bytes_of_code (stub_writes ++ copies rsp rax ∷ []) = e1 ∙ (λ i. e0 i ++ spelled (ew i)) in
    let x2 : o2 ≡ bytes_of_code (stub_writes ++ copies rsp rax ∷ []) ++ bytes_of_code (extend_parameters 0 sig.parameters) = e2 ∙ (λ i. x1 i ++ bytes_of_code (extend_parameters 0 (ep i))) in
    let x3 : o3 ≡ (bytes_of_code (stub_writes ++ copies rsp rax ∷ []) ++ bytes_of_code (extend_parameters 0 sig.parameters)) ++ bytes_of_code (clear_all (0 ∷ 10 ∷ 11 ∷ [])) = e3 ∙ (λ i. x2 i ++ spelled (es i)) in
    let x4 : o4 ≡ ((bytes_of_code (stub_writes ++ copies rsp rax ∷ []) ++ bytes_of_code (extend_parameters 0 sig.parameters)) ++ bytes_of_code (clear_all (0 ∷ 10 ∷ 11 ∷ []))) ++ bytes_of_code (clear_all (not_carrying (length sig.parameters)))
    = e4 ∙ (λ i. x3 i ++ bytes_of_code (clear_all (not_carrying (en i)))) in
    e5 ∙ (λ i. x4 i ++ bytes_of_code (init_from 0 (eb i))) ∙ sym (stub_body_bytes sig)

pub stub_made : (sig : Signature) (target at tail : ℕ) (o0 o1 o2 o3 o4 o5 body : List ℕ) (k j r : List Instr)
    → tail ≡ at + stub_body_size sig → body ≡ bytes_of_code (stub_writes ++ stub_clears sig)
    → o0 ≡ [] → k ≡ instructions (stub_keeps tail) → o1 ≡ o0 ++ spelled k
    → o2 ≡ o1 ++ body
    → j ≡ instructions (jumps target tail ∷ []) → o3 ≡ o2 ++ spelled j
    → o4 ≡ o3 ++ bytes_of_code (extends_result sig.result)
    → r ≡ instructions (returns ∷ []) → o5 ≡ o4 ++ spelled r
    → o5 ≡ bytes_of_code (stub_gate sig target at)
stub_made sig target at tail o0 o1 o2 o3 o4 o5 body k j r et eb e0 ek e1 e2 ej e3 e4 er e5 =
    let x1 : o1 ≡ bytes_of_code (stub_keeps (at + stub_body_size sig)) = e1 ∙ (λ i. e0 i ++ spelled (ek i)) ∙ (λ i. bytes_of_code (stub_keeps (et i))) in
    let x2 : o2 ≡ bytes_of_code (stub_keeps (at + stub_body_size sig)) ++ bytes_of_code (stub_writes ++ stub_clears sig) = e2 ∙ (λ i. x1 i ++ eb i) in
    let xj : spelled j ≡ bytes_of_code (jumps target (at + stub_body_size sig) ∷ []) = ap spelled ej ∙ (λ i. bytes_of_code (jumps target (et i) ∷ [])) in
    let x3 : o3 ≡ (bytes_of_code (stub_keeps (at + stub_body_size sig)) ++ bytes_of_code (stub_writes ++ stub_clears sig)) ++ bytes_of_code (jumps target (at + stub_body_size sig) ∷ []) = e3 ∙ (λ i. x2 i ++ xj i) in
    e5 ∙ (λ i. (e4 ∙ ap (λ (x : List ℕ). x ++ bytes_of_code (extends_result sig.result)) x3) i ++ spelled (er i)) ∙ sym (stub_bytes sig target at)

pub clears_made : (sig : Signature) (o0 o1 o2 o3 : List ℕ) (l : List Instr) (b : ℕ)
    → o1 ≡ o0 ++ bytes_of_code (extends_result sig.result)
    → l ≡ instructions (clear_all others) → o2 ≡ o1 ++ spelled l
    → b ≡ result_pointers sig.result → o3 ≡ o2 ++ bytes_of_code (init_from 1 b)
    → o3 ≡ o0 ++ bytes_of_code (outer_clears sig)
clears_made sig o0 o1 o2 o3 l b e1 el e2 eb e3 =
    let x2 : o2 ≡ (o0 ++ bytes_of_code (extends_result sig.result)) ++ bytes_of_code (clear_all others) = e2 ∙ (λ i. e1 i ++ spelled (el i)) in
    e3 ∙ (λ i. x2 i ++ bytes_of_code (init_from 1 (eb i))) ∙ sym (clears_bytes sig o0)

pub head_made : (sig : Signature) (o0 o1 o2 : List ℕ) (k : List Instr) (ps : List (Option IntKind))
    → o0 ≡ [] → k ≡ instructions outer_keeps → o1 ≡ o0 ++ spelled k
    → ps ≡ sig.parameters → o2 ≡ o1 ++ bytes_of_code (extend_parameters 0 ps)
    → o2 ≡ bytes_of_code (outer_head sig)
head_made sig o0 o1 o2 k ps e0 ek e1 ep e2 =
    let x1 : o1 ≡ bytes_of_code outer_keeps = e1 ∙ (λ i. e0 i ++ spelled (ek i)) in
    e2 ∙ (λ i. x1 i ++ bytes_of_code (extend_parameters 0 (ep i))) ∙ sym (head_bytes sig)

pub outer_made : (sig : Signature) (inner at next : ℕ) (o0 o1 o2 o3 o4 o5 o6 : List ℕ) (k c r e : List Instr) (ps : List (Option IntKind))
    → next ≡ at + size_of_code (outer_head sig) + 6
    → o0 ≡ [] → k ≡ instructions outer_keeps → o1 ≡ o0 ++ spelled k
    → ps ≡ sig.parameters → o2 ≡ o1 ++ bytes_of_code (extend_parameters 0 ps)
    → c ≡ instructions (calls inner next ∷ []) → o3 ≡ o2 ++ spelled c
    → r ≡ instructions outer_restores → o4 ≡ o3 ++ spelled r
    → o5 ≡ o4 ++ bytes_of_code (outer_clears sig)
    → e ≡ instructions (returns ∷ []) → o6 ≡ o5 ++ spelled e
    → o6 ≡ bytes_of_code (outer_gate sig inner at)
outer_made sig inner at next o0 o1 o2 o3 o4 o5 o6 k c r e ps en e0 ek e1 ep e2 ec e3 er e4 e5 ee e6 =
    let x1 : o1 ≡ bytes_of_code outer_keeps = e1 ∙ (λ i. e0 i ++ spelled (ek i)) in
    let x2 : o2 ≡ bytes_of_code outer_keeps ++ bytes_of_code (extend_parameters 0 sig.parameters) = e2 ∙ (λ i. x1 i ++ bytes_of_code (extend_parameters 0 (ep i))) in
    let xc : spelled c ≡ bytes_of_code (calls inner (at + size_of_code (outer_head sig) + 6) ∷ []) = ap spelled ec ∙ (λ i. bytes_of_code (calls inner (en i) ∷ [])) in
    let x3 : o3 ≡ (bytes_of_code outer_keeps ++ bytes_of_code (extend_parameters 0 sig.parameters)) ++ bytes_of_code (calls inner (at + size_of_code (outer_head sig) + 6) ∷ []) = e3 ∙ (λ i. x2 i ++ xc i) in
    let x4 : o4 ≡ ((bytes_of_code outer_keeps ++ bytes_of_code (extend_parameters 0 sig.parameters)) ++ bytes_of_code (calls inner (at + size_of_code (outer_head sig) + 6) ∷ [])) ++ bytes_of_code outer_restores = e4 ∙ (λ i. x3 i ++ spelled (er i)) in
    e6 ∙ (λ i. (e5 ∙ ap (λ (x : List ℕ). x ++ bytes_of_code (outer_clears sig)) x4) i ++ spelled (ee i)) ∙ sym (outer_bytes sig inner at)
